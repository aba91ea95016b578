use Rattle.std.proofs.Common.{ℕ, Option, sym, ap, ◌∙◌}
use Rattle.ecat_trips.specs.Alike.{told_fast, told_fast_by}
use Rattle.ecat_trips.proofs.alike.told_fast.Goals as goal

pub returns-in-None : goal.returns-in-None
unfolding told_fast
returns-in-None c =
    c.number_at_first.ensures
    ∙ sym
    (ap (λ (n : Option ℕ). told_fast_by n c.args.frame.now) (sym c.number_behind.ensures ∙ c.in-None.is))

pub returns-in-Some : goal.returns-in-Some
unfolding told_fast
returns-in-Some c =
    sym
    (ap (λ (n : Option ℕ). told_fast_by n c.args.frame.now) (sym c.number_behind.ensures ∙ c.in-Some.is))
