-- Memory is wanting for an interface alone; at the end there is no piece.
use Rattle.ecat_capture.specs.declared.capture.Piece.TheVariants as piece
use Rattle.ecat_capture.proofs.Reasons.{accept-blames, same_piece}
use Rattle.ecat_capture.proofs.capture.Capture.step.Goals as goal

pub returns-in-Ok-clause-err : goal.returns-in-Ok-clause-err
returns-in-Ok-clause-err g c =
    rw (← c.self.view_is)
    (accept-blames c.accept.result c.self.inside.stage c.self.inside.interfaces.items c.self.inside.window
    c.accept.new.self.input c.take_piece.new.window c.in-Ok.piece
    (rw c.as_slice.ensures.value at c.in-Ok.ensures.piece) c.accept.ensures.err)

pub returns-in-Ok-clause-ended : goal.returns-in-Ok-clause-ended
returns-in-Ok-clause-ended g c =
    rw (← c.self.view_is)
    (λ ends. c.accept.ensures.end
    (same_piece c.take_piece.result c.in-Ok.piece piece.End c.in-Ok.is (c.take_piece.ensures.ended ends)))
