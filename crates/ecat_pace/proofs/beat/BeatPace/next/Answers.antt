use Rattle.std.proofs.Common.{◌≡◌, ◌∙◌, Bool, true, false, inr, not, refl, sym}
use Rattle.ecat_pace.proofs.beat.BeatPace.next.Goals as goal

is_true : (b : Bool) → not b ≡ false → b ≡ true
is_true true is = refl
is_true false is = absurd (cc)

pub returns-in-Some : goal.returns-in-Some
returns-in-Some g c over =
    inr (c.has_ended.new.self, refl, sym c.has_ended.ensures ∙ is_true c.has_ended.result over)
