-- A header, and why 24 bytes are none.
use Rattle.std.proofs.Common.{arith, ◌≡◌, Ok, true, false, inr, inl, ap, ◌∙◌, ◌≤◌, length, []}
use Rattle.std.proofs.lemmas.List.{length-take}
use Rattle.ecat_capture.specs.Numbers.{word}
use Rattle.ecat_capture.specs.Classic.{format_of}
use Rattle.std.proofs.lemmas.Result.{err_from_is_err_and}
use Rattle.ecat_capture.specs.Progress.{IsCutStart, StartIsRefused, IsPiece}
use Rattle.ecat_capture.specs.declared.order.Order.TheVariants.{Little}
use Rattle.ecat_capture.specs.declared.capture.Stage.TheVariants.{Start}
use Rattle.ecat_capture.specs.declared.capture.Piece.TheVariants as piece
use Rattle.ecat_capture.proofs.Reasons.{header-cut, Explains-refused, word-first, begins-first, takes-front}
use Rattle.ecat_capture.proofs.pieces.take_header.Goals as goal

pub returns-then-not-branch-clause-err : goal.returns-then-not-branch-clause-err
returns-then-not-branch-clause-err g c =
    let f = c.in_ok-fill.ensures in
    let none : c.fill.result ≡ Ok false = cc in
    header-cut c.args.window.now c.fill.new.self f.same f.front f.more c.args.format c.requires.loaded
    c.requires.magic (c.fill.ensures.few none) (c.fill.ensures.end none)

pub returns-in_err-check_header-clause-err : goal.returns-in_err-check_header-clause-err
returns-in_err-check_header-clause-err g c =
    let f = c.in_ok-fill.ensures in
    let p = err_from_is_err_and c.from_residual-in_err-check_header.result
    c.from_residual-in_err-check_header.ensures.1 in
    let magic = ap format_of (
    ap (word Little 0) c.front-header.ensures.value
    ∙ word-first c.args.window.now c.fill.new.self f.same f.front f.more Little 0 4 24 (omega arith)
    (omega arith) c.requires.loaded
    ) ∙ c.requires.magic in
    rw (p.1, p.2)
    (Explains-refused IsCutStart StartIsRefused c.args.window.now c.fill.new.self _ c.front-header.result.now
    c.in_err-check_header.ensures.refusal
    (inr (inl (c.args.format, magic, c.in_err-check_header.ensures.err)))
    (begins-first c.args.window.now c.fill.new.self f.same f.front f.more _ c.front-header.ensures.begins))

pub returns-clause-piece : goal.returns-clause-piece
returns-clause-piece g c =
    let f = c.in_ok-fill.ensures in
    let some : c.fill.result ≡ Ok true = cc in
    let many : 24 ≤ length c.fill.new.self.loaded = c.fill.ensures.loaded some in
    let magic = ap format_of (
    word-first c.args.window.now c.fill.new.self f.same f.front f.more Little 0 4 24 (omega arith)
    (omega arith) c.requires.loaded
    ) ∙ c.requires.magic in
    let good = rw c.front-header.ensures.value at c.in_ok-check_header.ensures.ok in
    let is = rw c.front-header.ensures.value at c.linked-linked.ensures in
    takes-front c.args.window.now c.fill.new.self f.same f.front f.more
    (IsPiece Start [] (piece.Header c.linked-linked.result)) (piece.Header c.linked-linked.result)
    c.take.new.self 24 many
    (record {
      unlinked = c.args.format;
      whole = simp length-take (omega arith);
      magic = magic;
      good = good;
      format_is = is;
    }) tt
    c.take.ensures.taken f.place c.take.ensures.place
