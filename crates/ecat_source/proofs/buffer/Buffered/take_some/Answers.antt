-- The bytes that are copied out of the buffer are the first that were ahead.
use Rattle.std.proofs.Common.{arith, ◌≤◌, [], length, ap}
use Rattle.std.specs.Io.KnownBytes.{Consumes, prepend_known}
use Rattle.ecat_source.specs.Input.{Input, run}
use Rattle.ecat_source.proofs.Consuming.{Consumes-refilled, Consumes-run, Consumes-same, take-copied}
use Rattle.ecat_source.proofs.buffer.Buffered.take_some.Goals as goal
use Rattle.ecat_source.proofs.buffer.Buffered.take_some.Goals.{then-self+in_ok-self-inside, else-self}

pub returns-clause-taken : goal.returns-clause-taken
returns-clause-taken g c =
    let inside = c.if-self.self-inside in
    let count = c.min-count.result in
    let ahead : (inside.from ≤ inside.to) × (inside.to ≤ length inside.buffer.items)
    × Consumes c.args.self.now.ahead
    (prepend_known (run inside.from inside.to inside.buffer.items) (g.S.Source.remaining inside.source)) [] =
    elim c.if-self.branch [
      | then-self+in_ok-self-inside w ↦ rw w.self-inside-is (
        omega arith,
        omega (arith, w.in_ok-self-inside.ensures.bound, w.refill.new.buffer.ok.0),
        Consumes-refilled _ (g.S.Source.remaining c.self.inside.source) _ _ _ _ _ _ w.if-self.true
            (ap (λ (v : Input). v.ahead) c.self.view_is) w.in_ok-self-inside.ensures.taken,
      )
      | else-self w ↦ rw w.self-inside-is (
        c.self.invariant.0,
        omega (arith, c.self.invariant.1, c.self.inside.buffer.ok.0),
        Consumes-same _ _ (ap (λ (v : Input). v.ahead) c.self.view_is),
      )
    ] in
    let copied = take-copied inside.buffer.items c.args.into.now c.copy_from_slice.new.self inside.from count
    (omega (arith, ahead.0, ahead.1)) (rw c.deref.ensures.value at c.copy_from_slice.ensures.after) in
    rw copied (Consumes-run _ _ _ inside.from count _ (omega (arith, ahead.0)) ahead.2)
