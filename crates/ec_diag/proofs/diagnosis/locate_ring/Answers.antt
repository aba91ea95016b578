-- What is located over a ring is what is seen of its links.
use Rattle.std.proofs.Common.{◌≡◌, ◌≤◌, length, ◌∙◌, arith, ap}
use Rattle.ec_ring.specs.declared.links.TheConstants.{MAX_SLAVES}
use Rattle.ec_diag.specs.Located.{seen}
use Rattle.ec_diag.proofs.LocateLemmas.{ring_seen}
use Rattle.ec_diag.proofs.JoinLemmas.{seen_tells, seen_whole, seen_one}
use Rattle.ec_diag.proofs.diagnosis.locate_ring.Goals as goal

is_seen : (c : goal.In-Ok) → c.in-Ok.located ≡ seen c.args.ring.now.links (length c.args.ring.now.slaves)
is_seen c =
    let size : length c.slaves-slaves.result.now ≡ length c.args.ring.now.slaves =
    ap length c.slaves-slaves.ensures.slaves in
    let limit : length c.slaves-slaves.result.now ≤ MAX_SLAVES = c.slaves-slaves.ensures.limit in
    ring_seen c.args.ring.now c.locate.new.ports (length c.slaves-slaves.result.now) c.in-Ok.located size
    (omega arith) c.in-Ok.ensures.located

pub returns-in-Ok-clause-seen : goal.returns-in-Ok-clause-seen
returns-in-Ok-clause-seen c = is_seen c

pub returns-in-Ok-clause-tells : goal.returns-in-Ok-clause-tells
returns-in-Ok-clause-tells c =
    rw (is_seen c) (seen_tells c.args.ring.now.links (length c.args.ring.now.slaves))

pub returns-in-Ok-clause-whole : goal.returns-in-Ok-clause-whole
returns-in-Ok-clause-whole c up =
    is_seen c ∙ seen_whole c.args.ring.now.links (length c.args.ring.now.slaves) up

pub returns-in-Ok-clause-one : goal.returns-in-Ok-clause-one
returns-in-Ok-clause-one c k some inside down only =
    is_seen c ∙ seen_one c.args.ring.now.links (length c.args.ring.now.slaves) k some inside down only
