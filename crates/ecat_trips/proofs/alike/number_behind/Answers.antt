use Rattle.std.proofs.Common.{◌≡◌, ◌<◌, ◌≤◌, List, None, length, nat_lt, cond, true, false, sym, ap}
use Rattle.std.proofs.Common.{◌∙◌, arith}
use Rattle.std.proofs.lemmas.Bool.Decides.{nat_tests}
use Rattle.ec_wire.specs.Datagram.{DatagramRecord}
use Rattle.ec_number.specs.Number.{number_of}
use Rattle.ecat_trips.specs.Alike.{number_behind}
use Rattle.ecat_trips.proofs.alike.number_behind.Goals as goal

some : (ds : List DatagramRecord) → 1 < length ds → nat_lt 1 (length ds) ≡ true
some ds h = grind (arith, nat_tests)

few : (ds : List DatagramRecord) → length ds ≤ 1 → nat_lt 1 (length ds) ≡ false
few ds h = grind (arith, nat_tests)

behind : (ds : List DatagramRecord) → 1 < length ds → number_behind ds ≡ number_of ds
unfolding number_behind
behind ds h = ap (λ b. cond b (number_of ds) None) (some ds h)

alone : (ds : List DatagramRecord) → length ds ≤ 1 → number_behind ds ≡ None
unfolding number_behind
alone ds h = ap (λ b. cond b (number_of ds) None) (few ds h)

pub returns-then-count-gt1 : goal.returns-then-count-gt1
returns-then-count-gt1 c = c.number_of.ensures ∙ sym (behind c.args.frame.now (omega arith))

pub returns-else-count-gt1 : goal.returns-else-count-gt1
returns-else-count-gt1 c = sym (alone c.args.frame.now (omega arith))
