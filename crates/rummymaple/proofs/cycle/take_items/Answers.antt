use Rattle.std.proofs.Common.{◌≡◌, ◌<◌, ◌≤◌, ◌+◌, ◌∙◌, ℕ, suc, arith, ap, sym, add-one}
use Rattle.std.proofs.Common.{List, [], length, drop, get_or}
use Rattle.std.proofs.lemmas.List.{drop_all}
use Rattle.rummymaple.specs.Turn.{taken_over}
use Rattle.rummymaple.specs.declared.item.Item.{Item}
use Rattle.rummymaple.proofs.CutLemmas.{no_item, taken_at}
use Rattle.rummymaple.proofs.ItemLemmas.{taken}
use Rattle.rummymaple.proofs.TurnLemmas.{taken_over-here, taken_over-end, length-taken_item}
use Rattle.rummymaple.proofs.cycle.take_items.Goals as goal

pub take_item-requires-clause-image : goal.take_item-requires-clause-image
take_item-requires-clause-image c =
    let items : List Item = c.args.items.now in
    let place = (taken _ _ (taken_at _ items c.loop-k.k c.requires.taken (omega arith))).place in
    omega (arith, place, c.loop-k.invariant.size)

pub take_item-requires-clause-waiting : goal.take_item-requires-clause-waiting
take_item-requires-clause-waiting c =
    let items : List Item = c.args.items.now in
    let place = (taken _ _ (taken_at _ items c.loop-k.k c.requires.taken (omega arith))).place in
    omega (arith, place, c.requires.size)

pub loop-k-preserved : goal.loop-k-preserved
loop-k-preserved c =
    let k : ℕ = c.loop-k.k in
    let items : List Item = c.args.items.now in
    let waiting : List ℕ = c.args.waiting.now in
    let i : Item = get_or items k no_item in
    let inside : k < length items = omega arith in
    let place : i.offset + i.length ≤ length c.loop-k.image =
    omega (arith, (taken _ i (taken_at _ items k c.requires.taken inside)).place, c.loop-k.invariant.size) in
    let waits : i.offset + i.length ≤ length waiting =
    omega (arith, place, c.loop-k.invariant.size, c.requires.size) in
    record {
      size =
          ap length c.take_item.ensures ∙ length-taken_item i waiting c.loop-k.image place waits
          ∙ c.loop-k.invariant.size;
      rest =
          rw (add-one k)
          (ap (taken_over (drop (suc k) items) waiting) c.take_item.ensures
          ∙ sym (taken_over-here items k waiting c.loop-k.image inside)
          ∙ c.loop-k.invariant.rest);
    }

pub returns : goal.returns
returns c =
    let past : drop c.loop-k.k c.args.items.now ≡ [] = drop_all c.loop-k.k c.args.items.now (omega arith) in
    sym (taken_over-end c.args.waiting.now c.loop-k.image)
    ∙ ap (λ (is : List Item). taken_over is c.args.waiting.now c.loop-k.image) (sym past)
    ∙ c.loop-k.invariant.rest
