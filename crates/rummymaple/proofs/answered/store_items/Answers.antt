use Rattle.std.proofs.Common.{◌≡◌, ◌<◌, ◌≤◌, ◌+◌, ◌∙◌, ℕ, suc, arith, ap, sym, add-one, List, [], length, drop}
use Rattle.std.proofs.Common.{get_or}
use Rattle.std.proofs.lemmas.List.{drop_all}
use Rattle.ec_wire.specs.Datagram.{DatagramRecord, nth}
use Rattle.rummymaple.specs.Answers.{stored}
use Rattle.rummymaple.specs.declared.item.Item.{Item}
use Rattle.rummymaple.proofs.CutLemmas.{no_item, taken_at}
use Rattle.rummymaple.proofs.ItemLemmas.{taken}
use Rattle.rummymaple.proofs.AnswerLemmas.{size_at, stored-here, stored-end, length-stored_item}
use Rattle.rummymaple.proofs.answered.store_items.Goals as goal

pub store_item-requires-clause-place : goal.store_item-requires-clause-place
store_item-requires-clause-place c =
    let here : c.loop-j.j < length c.args.frame.now =
    omega (arith, c.loop-j-test.true, c.count-j-end.ensures.count) in
    let in_items : c.args.first + c.loop-j.j < length c.args.items.now =
    omega (arith, here, c.requires.answered.there) in
    let place = (taken _ _ (taken_at _ c.args.items.now (c.args.first + c.loop-j.j) c.requires.taken in_items)).place in
    omega (arith, place, c.loop-j.invariant.size)

pub store_item-requires-clause-count : goal.store_item-requires-clause-count
store_item-requires-clause-count c =
    let here : c.loop-j.j < length c.args.frame.now =
    omega (arith, c.loop-j-test.true, c.count-j-end.ensures.count) in
    let in_items : c.args.first + c.loop-j.j < length c.args.items.now =
    omega (arith, here, c.requires.answered.there) in
    size_at c.args.items.now c.args.first c.loop-j.j c.args.frame.now c.requires.answered here in_items

pub loop-j-preserved : goal.loop-j-preserved
loop-j-preserved c =
    let k : ℕ = c.args.first + c.loop-j.j in
    let items : List Item = c.args.items.now in
    let i : Item = get_or items k no_item in
    let d : DatagramRecord = nth c.args.frame.now c.loop-j.j in
    let here : c.loop-j.j < length c.args.frame.now =
    omega (arith, c.loop-j-test.true, c.count-j-end.ensures.count) in
    let in_items : k < length items = omega (arith, here, c.requires.answered.there) in
    let place : i.offset + i.length ≤ length c.loop-j.image =
    omega (arith, (taken _ i (taken_at _ items k c.requires.taken in_items)).place, c.loop-j.invariant.size) in
    let size = size_at items c.args.first c.loop-j.j c.args.frame.now c.requires.answered here in_items in
    let next : c.args.first + (c.loop-j.j + 1) ≡ suc k = omega arith in
    record {
      size =
          ap length c.store_item.ensures ∙ length-stored_item i d c.loop-j.image place size
          ∙ c.loop-j.invariant.size;
      rest =
          rw (next, add-one c.loop-j.j)
          (ap (stored (drop (suc k) items) (drop (suc c.loop-j.j) c.args.frame.now)) c.store_item.ensures
          ∙ sym (stored-here items k c.loop-j.j c.args.frame.now c.loop-j.image in_items here)
          ∙ c.loop-j.invariant.rest);
    }

pub returns : goal.returns
returns c =
    let k : ℕ = c.args.first + c.loop-j.j in
    let past : drop c.loop-j.j c.args.frame.now ≡ [] =
    drop_all c.loop-j.j c.args.frame.now (omega (arith, c.loop-j-test.false, c.count-j-end.ensures.count)) in
    sym (stored-end (drop k c.args.items.now) c.loop-j.image)
    ∙ ap (λ (ds : List DatagramRecord). stored (drop k c.args.items.now) ds c.loop-j.image) (sym past)
    ∙ c.loop-j.invariant.rest
