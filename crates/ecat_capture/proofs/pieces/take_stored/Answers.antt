-- A record, and why one ends too early.
use Rattle.std.proofs.Common.{arith, ◌≡◌, ◌≤◌, ◌+◌, Ok, true, false, sym, ap, ◌∙◌, take, length, []}
use Rattle.std.proofs.lemmas.List.{length-take}
use Rattle.ecat_capture.specs.Progress.{IsPiece}
use Rattle.ecat_capture.specs.declared.capture.Stage.TheVariants.{Records}
use Rattle.ecat_capture.specs.declared.capture.Piece.TheVariants as piece
use Rattle.ecat_capture.proofs.Reasons.{record-cut, record-packet, word-first, takes-front}
use Rattle.ecat_capture.proofs.pieces.take_stored.Goals as goal

pub returns-then-not-branch-clause-err : goal.returns-then-not-branch-clause-err
returns-then-not-branch-clause-err g c =
    let f = c.in_ok-fill.ensures in
    let none : c.fill.result ≡ Ok false = cc in
    record-cut c.args.window.now c.fill.new.self f.same f.front f.more c.args.format c.args.captured
    c.requires.loaded c.requires.says c.requires.fits (c.fill.ensures.few none) (c.fill.ensures.end none)

pub returns-clause-piece : goal.returns-clause-piece
returns-clause-piece g c =
    let f = c.in_ok-fill.ensures in
    let size = 16 + c.args.captured in
    let some : c.fill.result ≡ Ok true = cc in
    let many : size ≤ length c.fill.new.self.loaded = c.fill.ensures.loaded some in
    let says = word-first c.args.window.now c.fill.new.self f.same f.front f.more c.args.format.order 8 16 size
    (omega arith) (omega arith) c.requires.loaded ∙ c.requires.says in
    let found = rw c.front.ensures.value at c.record_of-found.ensures in
    let whole : length (take size c.fill.new.self.loaded) ≡ size = simp length-take (omega arith) in
    takes-front c.args.window.now c.fill.new.self f.same f.front f.more
    (IsPiece (Records c.args.format) [] (piece.Record c.record_of-found.result))
    (piece.Record c.record_of-found.result) c.take.new.self size many
    (record {
      found_is = found;
      whole = whole ∙ ap (λ n. 16 + n) (sym says);
      fits = omega (arith, says, c.requires.fits);
    })
    (record-packet c.args.format _ _ c.record_of-found.result c.args.captured found says
    (rw c.min.ensures at c.take.ensures.packet))
    c.take.ensures.taken f.place c.take.ensures.place
