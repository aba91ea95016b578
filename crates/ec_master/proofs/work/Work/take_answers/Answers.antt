use Rattle.std.proofs.Common.{◌≡◌, ◌<◌, ◌+◌, ℕ, ◌∙◌, arith, ap, sym, add-one, List, length, take, get_or}
use Rattle.std.proofs.lemmas.Option.{get_or_from_slice_get}
use Rattle.ec_wire.specs.Datagram.{nth}
use Rattle.ec_map.specs.Item.{ItemRecord}
use Rattle.ec_master.specs.Work.{no_item, with_answer, nth_item}
use Rattle.ec_master.proofs.WorkLemmas.{with_answers_at-none, length-with_answers_at, get-with_answers_at}
use Rattle.ec_master.proofs.WorkLemmas.{set-with_answers_at}
use Rattle.ec_master.proofs.work.Work.take_answers.Goals as goal

pub loop-j-init : goal.loop-j-init
loop-j-init c = sym (with_answers_at-none c.args.first c.args.self.now)

-- the item that is next is there, and as it was
there : (c : goal.After-item_mut-arg-1) → c.args.first + c.loop-j.j < length c.args.self.now
there c = omega (arith, c.requires.room, c.loop-j-test.true, c.count-j-end.ensures.count)

pub overflow_add-first : goal.overflow_add-first
overflow_add-first c =
    omega (arith, there c, c.len-count.ensures.count, c.len-count.ensures.limit)

pub item_mut-requires : goal.item_mut-requires
item_mut-requires c =
    omega (
      arith,
      there c,
      ap length c.loop-j.invariant,
      length-with_answers_at c.args.first c.args.self.now (take c.loop-j.j c.args.joined.now),
    )

same : (c : goal.After-item_mut)
    → c.item_mut.result.now ≡ nth_item c.args.self.now (c.args.first + c.loop-j.j)
same c =
    let at : ℕ = c.args.first + c.loop-j.j in
    sym (get_or_from_slice_get c.loop-j.self at _ no_item c.item_mut.ensures.value)
    ∙ ap (λ (xs : List ItemRecord). get_or xs at no_item) c.loop-j.invariant
    ∙ get-with_answers_at c.args.first c.loop-j.j c.args.self.now c.args.joined.now no_item

pub take_answer-requires-clause-size : goal.take_answer-requires-clause-size
take_answer-requires-clause-size c =
    c.requires.sizes c.loop-j.j (omega (arith, c.loop-j-test.true, c.count-j-end.ensures.count))
    ∙ ap (λ (r : ItemRecord). length r.payload) (sym (same c))

pub loop-j-preserved : goal.loop-j-preserved
loop-j-preserved c =
    let k : ℕ = c.args.first in
    let j : ℕ = c.loop-j.j in
    let old : List ItemRecord = c.args.self.now in
    let ds = c.args.joined.now in
    let answer : c.take_answer.new.item ≡ with_answer (get_or old (k + j) no_item) (nth ds j)
    = c.take_answer.ensures
    ∙ ap (λ (r : ItemRecord). with_answer r (nth ds j))
    (sym (get_or_from_slice_get c.loop-j.self (k + j) _ no_item c.item_mut.ensures.value)
    ∙ ap (λ (xs : List ItemRecord). get_or xs (k + j) no_item) c.loop-j.invariant
    ∙ get-with_answers_at k j old ds no_item) in
    let room : k + j < length old =
    omega (arith, c.requires.room, c.loop-j-test.true, c.count-j-end.ensures.count) in
    let inside : j < length ds = omega (arith, c.loop-j-test.true, c.count-j-end.ensures.count) in
    rw (c.loop-j.invariant, answer, add-one j) (set-with_answers_at k j old ds no_item room inside)
