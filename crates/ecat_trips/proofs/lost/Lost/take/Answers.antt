use Rattle.std.proofs.Common.{◌≡◌, ◌∷◌, take, ◌∙◌}
use Rattle.ecat_trips.specs.Lost.{remembered}
use Rattle.ecat_trips.proofs.lost.Lost.take.Goals as goal

pub returns : goal.returns
unfolding remembered
returns c =
    let rest : c.self.inside.frames.items ≡ take 63 c.args.self.now =
    c.self.view_is ∙ c.make_room.ensures.rest in
    c.push_front_reserved-2.ensures.items ∙ (λ t. c.fill.ensures t ∷ rest t)
