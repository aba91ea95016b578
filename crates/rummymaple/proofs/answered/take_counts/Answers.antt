use Rattle.std.proofs.Common.{◌≡◌, ◌<◌, ◌+◌, ◌∙◌, ℕ, arith, ap, sym, add-one, List, length, get_or}
use Rattle.std.proofs.lemmas.List.{take_all}
use Rattle.ec_wire.specs.Datagram.{nth}
use Rattle.rummymaple.specs.Answers.{came_back, with_counts_at}
use Rattle.rummymaple.specs.declared.item.Item.{Item}
use Rattle.rummymaple.proofs.CutLemmas.{no_item}
use Rattle.rummymaple.proofs.AnswerLemmas.{with_counts_at-none, get-with_counts_at}
use Rattle.rummymaple.proofs.AnswerLemmas.{set-with_counts_at}
use Rattle.rummymaple.proofs.answered.take_counts.Goals as goal

pub loop-j-init : goal.loop-j-init
loop-j-init c = sym (with_counts_at-none c.args.first c.args.items.now)

pub loop-j-preserved : goal.loop-j-preserved
loop-j-preserved c =
    let k : ℕ = c.args.first in
    let j : ℕ = c.loop-j.j in
    let old : List Item = c.args.items.now in
    let ds = c.args.frame.now in
    let inside : j < length ds = omega (arith, c.loop-j-test.true, c.count-j-end.ensures.count) in
    let room : k + j < length old = omega (arith, inside, c.requires.there) in
    let came : c.take_count.new.item ≡ came_back (get_or old (k + j) no_item) (nth ds j)
    = c.take_count.ensures
    ∙ ap (λ (i : Item). came_back i (nth ds j))
    (ap (λ (xs : List Item). get_or xs (k + j) no_item) c.loop-j.invariant
    ∙ get-with_counts_at k j old ds no_item) in
    rw (c.loop-j.invariant, came, add-one j) (set-with_counts_at k j old ds no_item room inside)

pub returns : goal.returns
returns c =
    c.loop-j.invariant
    ∙ ap (with_counts_at c.args.first c.args.items.now) (take_all c.loop-j.j c.args.frame.now (omega arith))
