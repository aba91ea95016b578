-- Why the first twelve bytes begin no block.
use Rattle.std.proofs.Common.{arith, inr, inl, refl, sym, ◌∙◌, List, ℕ, take}
use Rattle.std.proofs.lemmas.Result.{err_from_is_err_and}
use Rattle.ecat_capture.specs.Blocks.{IsCutBlock}
use Rattle.ecat_capture.specs.Progress.{BlockIsRefused, IsSameStart}
use Rattle.ecat_capture.specs.declared.order.Order.TheVariants.{Little}
use Rattle.ecat_capture.specs.declared.fault.CaptureFaultKind.{CaptureFaultKind}
use Rattle.ecat_capture.proofs.Fronts.{word-longer}
use Rattle.ecat_capture.proofs.Reasons.{Explains-refused}
use Rattle.ecat_capture.proofs.pieces.take_loaded.Goals as goal

pub returns-in_default-clause-err : goal.returns-in_default-clause-err
returns-in_default-clause-err g c =
    let start : IsSameStart c.args.window.now.loaded (take 12 c.args.window.now.loaded) =
    word-longer Little 0 4 12 c.args.window.now.loaded (omega arith) (omega arith) (omega arith) in
    (c.front-front.result.now, (rw c.front-front.ensures.value start, inl (sym c.block_order.ensures ∙ c.in_default.is, refl)), c.front-front.ensures.begins)

pub returns-in_err-check_length-clause-err : goal.returns-in_err-check_length-clause-err
returns-in_err-check_length-clause-err g c =
    let p = err_from_is_err_and c.from_residual.result c.from_residual.ensures.1 in
    let start : IsSameStart c.args.window.now.loaded (take 12 c.args.window.now.loaded) =
    word-longer Little 0 4 12 c.args.window.now.loaded (omega arith) (omega arith) (omega arith) in
    rw (p.1, p.2)
    (Explains-refused (λ (bytes : List ℕ). IsSameStart c.args.window.now.loaded bytes × IsCutBlock c.args.section bytes)
    (λ (kind : CaptureFaultKind) (front : List ℕ). IsSameStart c.args.window.now.loaded front
    × BlockIsRefused c.args.section c.args.interfaces.now kind front)
    c.args.window.now c.args.window.now _ c.front-front.result.now c.in_err-check_length.ensures.refusal (
      rw c.front-front.ensures.value start,
      inr (inl (
        c.in-Some.order,
        sym c.block_order.ensures ∙ c.in-Some.is,
        rw c.word-size.ensures at c.in_err-check_length.ensures.err,
      )),
    )
    c.front-front.ensures.begins)
