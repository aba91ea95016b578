use Rattle.std.proofs.Common.{◌≡◌, ◌<◌, ◌+◌, ◌∙◌, ℕ, true, arith, ap, sym, Some, below_more}
use Rattle.std.specs.List.{slice_get}
use Rattle.std.proofs.lemmas.Option.{get_or_from_slice_get, slice_get_within}
use Rattle.ec_wire.specs.Datagram.{nth}
use Rattle.rummymaple.specs.Answers.{answers}
use Rattle.rummymaple.specs.declared.item.Item.{Item}
use Rattle.rummymaple.proofs.CutLemmas.{no_item}
use Rattle.rummymaple.proofs.answered.first_other.Goals as goal

-- the datagrams up to j are answers
pub loop-j-preserved : goal.loop-j-preserved
loop-j-preserved c =
    let answered : (m : ℕ) → m < c.loop-j.j + 1 → (i : Item)
    → slice_get c.args.items.now (c.args.first + m) ≡ Some i
    → answers i (c.args.first + m) (nth c.args.frame.now m) ≡ true
    = below_more _ _ (λ m before i there. c.loop-j.invariant m i before there)
    (λ i there.
    ap (λ (x : Item). answers x (c.args.first + c.loop-j.j) (nth c.args.frame.now c.loop-j.j))
    (sym (get_or_from_slice_get c.args.items.now (c.args.first + c.loop-j.j) i no_item there))
    ∙ sym c.answers.ensures ∙ c.if-not-answers.false) in
    λ m i before there. answered m before i there

pub returns-then-shared-count : goal.returns-then-shared-count
returns-then-shared-count c = record {
  in_frame = omega (arith, c.if-shared-count.true, c.count-2.ensures.count);
  in_items = omega (arith, c.if-shared-count.true, c.count-2.ensures.count);
  before = λ m i before there. c.loop-j.invariant m i (omega (arith, before, c.loop-j-test.false)) there;
  here = λ i there.
      absurd (omega (
        arith,
        slice_get_within c.args.items.now (c.args.first + c.min-shared.result) i there,
        c.if-shared-count.true,
        c.count-2.ensures.count,
        c.count.ensures.count,
        c.min-shared.ensures,
        c.saturating_sub-left.ensures,
      ));
}
