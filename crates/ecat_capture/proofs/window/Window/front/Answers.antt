-- The first of the loaded bytes begin all that is ahead.
use Rattle.std.proofs.Common.{arith, ◌≡◌, ◌+◌, ◌-◌}
use Rattle.ecat_capture.proofs.Consuming.{BeginsWith-loaded}
use Rattle.ecat_capture.proofs.window.Window.front.Goals as goal

pub returns-clause-begins : goal.returns-clause-begins
returns-clause-begins g c =
    let same : c.self.inside.from + c.args.count - c.self.inside.from ≡ c.args.count = omega arith in
    rw (same, c.deref.ensures.value, ← c.self.view_is)
    (BeginsWith-loaded _ (g.S.Source.remaining c.self.inside.source) c.args.count)
