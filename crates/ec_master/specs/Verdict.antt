-- What the working counters of answers say of a cycle: all slaves took part, or the first item at which they
-- did not.
use Rattle.std.specs.Prelude.{ℕ, suc, ◌==◌, nat_lt, if◌then◌else◌, List, ◌∷◌}
use Rattle.ec_wire.specs.Datagram.{DatagramRecord}
use Rattle.ec_merge.specs.Rule.{distance}
use Rattle.ec_map.specs.Item.{ItemRecord}
use Rattle.ec_master.specs.declared.verdict.Verdict.{Verdict}
use Rattle.ec_master.specs.declared.verdict.Verdict.TheVariants.{Good, Short, Over}

-- the verdict on items from number k on: the first one whose counter has not moved as expected
unfoldable pub verdict_from : ℕ → List ItemRecord → List DatagramRecord → List ℕ → Verdict
verdict_from k (r ∷ rs) (d ∷ ds) (e ∷ es) =
    let count = distance r.counter d.counter
    in if count == e then verdict_from (suc k) rs ds es else if nat_lt count e then Short k else Over k
verdict_from k _ _ _ = Good

abbrev pub verdict : List ItemRecord → List DatagramRecord → List ℕ → Verdict
verdict items answers expected = verdict_from 0 items answers expected
