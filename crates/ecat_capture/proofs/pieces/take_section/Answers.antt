-- Why a section header that begins a capture is none.
use Rattle.std.proofs.Common.{arith, ◌≡◌, Ok, false, inr, inl, ◌∙◌, List, [], ℕ}
use Rattle.std.proofs.lemmas.Result.{err_from_is_err_and}
use Rattle.ecat_capture.specs.Blocks.{IsCutBlock}
use Rattle.ecat_capture.specs.Progress.{BlockIsRefused, IsSameStart, IsCutStart, StartIsRefused}
use Rattle.ecat_capture.specs.declared.order.Order.TheVariants.{Little}
use Rattle.ecat_capture.specs.declared.fault.CaptureFaultKind.{CaptureFaultKind}
use Rattle.ecat_capture.proofs.Reasons.{Explains-weaker, ended, word-all, word-first}
use Rattle.ecat_capture.proofs.pieces.take_section.Goals as goal

pub returns-then-not-branch-clause-err : goal.returns-then-not-branch-clause-err
returns-then-not-branch-clause-err g c =
    let f = c.in_ok-fill.ensures in
    let none : c.fill.result ≡ Ok false = cc in
    let magic = word-all c.args.window.now c.fill.new.self f.same f.front f.more Little 0 4 (omega arith)
    c.requires.loaded ∙ c.requires.magic in
    let few = c.fill.ensures.few none in
    λ live. ended c.args.window.now c.fill.new.self f.same f.front f.more IsCutStart (c.fill.ensures.end none)
    live (inr (inr (magic, (omega arith, inl few))))

pub returns-in_err-body-clause-err : goal.returns-in_err-body-clause-err
returns-in_err-body-clause-err g c =
    let f = c.in_ok-fill.ensures in
    let p = err_from_is_err_and c.from_residual-in_err-body.result c.from_residual-in_err-body.ensures.1 in
    let magic = word-first c.args.window.now c.fill.new.self f.same f.front f.more Little 0 4 4 (omega arith)
    (omega arith) c.requires.loaded ∙ c.requires.magic in
    rw (p.1, p.2)
    (Explains-weaker
    (λ (bytes : List ℕ). IsSameStart c.fill.new.self.loaded bytes × IsCutBlock Little bytes) IsCutStart
    (λ (kind : CaptureFaultKind) (front : List ℕ). IsSameStart c.fill.new.self.loaded front
    × BlockIsRefused Little [] kind front) StartIsRefused
    c.args.window.now c.fill.new.self c.take_loaded.new.window f.same c.fill.ensures.monotone
    (λ bytes is. inr (inr (is.0 ∙ magic, is.1)))
    (λ kind front is. inr (inr (is.0 ∙ magic, is.1)))
    _ c.in_err-body.ensures.err)
