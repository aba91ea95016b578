-- A link that is down is one of the line.
use Rattle.std.proofs.Common.{◌≡◌, ◌∙◌, ap, ℕ}
use Rattle.std.specs.Prelude.{unwrap_or, Option}
use Rattle.ec_ring.proofs.LinkLemmas.{back-le}
use Rattle.ec_ring.specs.Reach.{back}
use Rattle.ec_ring.proofs.links.Links.back.Goals as goal

pub returns-clause-bound : goal.returns-clause-bound
returns-clause-bound c =
    let value : c.unwrap_or.result ≡ back c.args.self.now c.args.slaves =
    c.unwrap_or.ensures ∙ ap (λ (o : Option ℕ). unwrap_or o c.args.slaves) c.last_down.ensures in
    rw value (back-le c.args.self.now c.args.slaves)
