-- A link that is down is one of the line.
use Rattle.std.proofs.Common.{◌≡◌, ◌∙◌, ap, ℕ}
use Rattle.std.specs.Prelude.{unwrap_or, Option}
use Rattle.ec_ring.proofs.LinkLemmas.{front-le}
use Rattle.ec_ring.specs.Reach.{front}
use Rattle.ec_ring.proofs.links.Links.front.Goals as goal

pub returns-clause-bound : goal.returns-clause-bound
returns-clause-bound c =
    let value : c.unwrap_or.result ≡ front c.args.self.now c.args.slaves =
    c.unwrap_or.ensures ∙ ap (λ (o : Option ℕ). unwrap_or o c.args.slaves) c.first_down.ensures in
    rw value (front-le c.args.self.now c.args.slaves)
