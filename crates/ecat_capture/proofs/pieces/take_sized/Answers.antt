-- A whole block, and why the bytes are none.
use Rattle.std.proofs.Common.{arith, ◌≡◌, ◌≤◌, Ok, true, false, inr, sym, ap, length, List, ℕ}
use Rattle.std.proofs.lemmas.List.{length-take}
use Rattle.std.proofs.lemmas.Result.{err_from_is_err_and}
use Rattle.ecat_capture.specs.Blocks.{IsCutBlock}
use Rattle.ecat_capture.specs.Progress.{BlockIsRefused, IsSameStart, IsBody}
use Rattle.ecat_capture.specs.declared.fault.CaptureFaultKind.{CaptureFaultKind}
use Rattle.ecat_capture.specs.declared.capture.Piece.TheVariants as piece
use Rattle.ecat_capture.proofs.Reasons.{block-cut, block-whole, Explains-refused, begins-first, same_start}
use Rattle.ecat_capture.proofs.Reasons.{takes-front, body-packet}
use Rattle.ecat_capture.proofs.pieces.take_sized.Goals as goal

pub returns-then-not-branch-clause-err : goal.returns-then-not-branch-clause-err
returns-then-not-branch-clause-err g c =
    let f = c.in_ok-fill.ensures in
    let none : c.fill.result ≡ Ok false = cc in
    block-cut c.args.window.now c.fill.new.self f.same f.front f.more c.args.section c.args.order c.args.size
    c.requires.loaded c.requires.order c.requires.size c.requires.good (c.fill.ensures.few none)
    (c.fill.ensures.end none)

pub returns-in_err-body-clause-err : goal.returns-in_err-body-clause-err
returns-in_err-body-clause-err g c =
    let f = c.in_ok-fill.ensures in
    let p = err_from_is_err_and c.from_residual-in_err-body.result c.from_residual-in_err-body.ensures.1 in
    let some : c.fill.result ≡ Ok true = cc in
    let many : c.args.size ≤ length c.fill.new.self.loaded = c.fill.ensures.loaded some in
    let four : 4 ≤ c.args.size = omega arith in
    let four' : 4 ≤ length c.args.window.now.loaded = omega arith in
    let block = block-whole c.args.window.now c.fill.new.self f.same f.front f.more c.args.section c.args.order
    c.args.size c.requires.loaded c.requires.some c.requires.order c.requires.size c.requires.good many in
    let start = same_start c.args.window.now c.fill.new.self f.same f.front f.more c.args.size four four' in
    rw (p.1, p.2)
    (Explains-refused (λ (bytes : List ℕ). IsSameStart c.args.window.now.loaded bytes × IsCutBlock c.args.section bytes)
    (λ (kind : CaptureFaultKind) (front : List ℕ). IsSameStart c.args.window.now.loaded front
    × BlockIsRefused c.args.section c.args.interfaces.now kind front)
    c.args.window.now c.fill.new.self _ c.front.result.now c.in_err-body.ensures.refusal (
      rw c.front.ensures.value start,
      inr (inr (c.args.order, rw c.front.ensures.value block, sym c.in_err-body.ensures.value)),
    )
    (begins-first c.args.window.now c.fill.new.self f.same f.front f.more _ c.front.ensures.begins))

pub returns-clause-body : goal.returns-clause-body
returns-clause-body g c =
    let f = c.in_ok-fill.ensures in
    let many : c.args.size ≤ length c.fill.new.self.loaded =
    omega (
      arith,
      c.front.ensures.len,
      ap length c.front.ensures.value,
      length-take c.args.size c.fill.new.self.loaded,
    ) in
    let four : 4 ≤ c.args.size = omega arith in
    let four' : 4 ≤ length c.args.window.now.loaded = omega arith in
    let block = block-whole c.args.window.now c.fill.new.self f.same f.front f.more c.args.section c.args.order
    c.args.size c.requires.loaded c.requires.some c.requires.order c.requires.size c.requires.good many in
    let start = same_start c.args.window.now c.fill.new.self f.same f.front f.more c.args.size four four' in
    let says = rw c.front.ensures.value at c.in_ok-body.ensures.value in
    takes-front c.args.window.now c.fill.new.self f.same f.front f.more
    (λ (front : List ℕ). IsSameStart c.args.window.now.loaded front
    × IsBody c.args.section c.args.interfaces.now front c.in_ok-body.body)
    (piece.Block c.in_ok-body.body) c.take.new.self c.args.size many
    (start, record { order = c.args.order; is_block = block; body_is = sym says })
    (body-packet c.in_ok-body.body _ _ (rw c.stored_range-range.ensures.value at c.take.ensures.packet))
    c.take.ensures.taken f.place c.take.ensures.place
