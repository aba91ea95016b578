use Rattle.std.proofs.Common.{◌≡◌, ◌<◌, ◌+◌, ◌∙◌, ℕ, suc, arith, ap, sym, refl, add-one, add-zero, List, []}
use Rattle.std.proofs.Common.{length, map, drop, get_or}
use Rattle.std.proofs.lemmas.List.{drop_all}
use Rattle.ec_wire.specs.Datagram.{DatagramRecord, nth}
use Rattle.ec_merge.specs.Rule.{distance}
use Rattle.ec_master.specs.Verdict.{verdict_from}
use Rattle.rummymaple.specs.Items.{asked}
use Rattle.rummymaple.specs.declared.item.Item.{Item}
use Rattle.rummymaple.proofs.CutLemmas.{no_item}
use Rattle.rummymaple.proofs.AnswerLemmas.{verdict-here, verdict-short, verdict-over, verdict-as_expected}
use Rattle.rummymaple.proofs.AnswerLemmas.{verdict-end}
use Rattle.rummymaple.proofs.answered.verdict.Goals as goal

pub loop-j-init : goal.loop-j-init
loop-j-init c = rw (add-zero c.args.first) refl

pub returns-then-count-item : goal.returns-then-count-item
returns-then-count-item c =
    let k : ℕ = c.args.first + c.loop-j.j in
    let i : Item = get_or c.args.items.now k no_item in
    let d : DatagramRecord = nth c.args.frame.now c.loop-j.j in
    let in_frame : c.loop-j.j < length c.args.frame.now =
    omega (arith, c.loop-j-test.true, c.count-j-end.ensures.count) in
    let in_items : k < length c.args.items.now = omega (arith, in_frame, c.requires.there) in
    let less : distance i.sent d.counter < i.expected =
    omega (arith, c.if-count-item.true, c.counter.ensures) in
    sym (verdict-short k (asked [] i) d i.expected _ _ _ less)
    ∙ sym (verdict-here c.args.items.now k c.loop-j.j c.args.frame.now in_items in_frame)
    ∙ c.loop-j.invariant

pub returns-then-count-item-2 : goal.returns-then-count-item-2
returns-then-count-item-2 c =
    let k : ℕ = c.args.first + c.loop-j.j in
    let i : Item = get_or c.args.items.now k no_item in
    let d : DatagramRecord = nth c.args.frame.now c.loop-j.j in
    let in_frame : c.loop-j.j < length c.args.frame.now =
    omega (arith, c.loop-j-test.true, c.count-j-end.ensures.count) in
    let in_items : k < length c.args.items.now = omega (arith, in_frame, c.requires.there) in
    let more : i.expected < distance i.sent d.counter =
    omega (arith, c.if-count-item-2.true, c.counter.ensures) in
    sym (verdict-over k (asked [] i) d i.expected _ _ _ more)
    ∙ sym (verdict-here c.args.items.now k c.loop-j.j c.args.frame.now in_items in_frame)
    ∙ c.loop-j.invariant

pub loop-j-preserved : goal.loop-j-preserved
loop-j-preserved c =
    let k : ℕ = c.args.first + c.loop-j.j in
    let i : Item = get_or c.args.items.now k no_item in
    let d : DatagramRecord = nth c.args.frame.now c.loop-j.j in
    let in_frame : c.loop-j.j < length c.args.frame.now =
    omega (arith, c.loop-j-test.true, c.count-j-end.ensures.count) in
    let in_items : k < length c.args.items.now = omega (arith, in_frame, c.requires.there) in
    let same : distance i.sent d.counter ≡ i.expected =
    omega (arith, c.if-count-item.false, c.if-count-item-2.false, c.counter.ensures) in
    let next : c.args.first + (c.loop-j.j + 1) ≡ suc k = omega arith in
    rw (next, add-one c.loop-j.j)
    (sym (verdict-as_expected k (asked [] i) d i.expected _ _ _ same)
    ∙ sym (verdict-here c.args.items.now k c.loop-j.j c.args.frame.now in_items in_frame)
    ∙ c.loop-j.invariant)

pub returns : goal.returns
returns c =
    let k : ℕ = c.args.first + c.loop-j.j in
    let rs = drop k (map (asked []) c.args.items.now) in
    let es = drop k (map (λ (i : Item). i.expected) c.args.items.now) in
    let past : drop c.loop-j.j c.args.frame.now ≡ [] =
    drop_all c.loop-j.j c.args.frame.now (omega (arith, c.loop-j-test.false, c.count-j-end.ensures.count)) in
    sym (verdict-end k rs es) ∙ ap (λ (ds : List DatagramRecord). verdict_from k rs ds es) (sym past)
    ∙ c.loop-j.invariant
