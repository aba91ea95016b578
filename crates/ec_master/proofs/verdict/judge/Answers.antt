use Rattle.std.proofs.Common.{◌≡◌, ◌∙◌, ap, sym, arith, drop, List, [], add-one}
use Rattle.std.proofs.lemmas.List.{drop_all}
use Rattle.ec_map.specs.Item.{ItemRecord}
use Rattle.ec_master.specs.Verdict.{verdict_from}
use Rattle.ec_master.proofs.JudgedLemmas.{stands, verdict-as_expected, verdict-short, verdict-over}
use Rattle.ec_master.proofs.JudgedLemmas.{verdict-none}
use Rattle.ec_master.proofs.verdict.judge.Goals as goal

pub returns-then-count-expected : goal.returns-then-count-expected
returns-then-count-expected c = λ answers size same.
    let at = stands c.args.work.now c.args.taken.now answers c.args.expected.now c.loop-k.k
    (omega (arith, c.loop-k-test.true, c.len-k-end.ensures.count)) size c.requires.expected same in
    sym (verdict-short c.loop-k.k _ _ _ _ _ _
    (omega (arith, c.if-count-expected.true, c.counted-count.ensures, at.counted)))
    ∙ sym at.here ∙ c.loop-k.invariant answers size same

pub returns-then-count-expected-2 : goal.returns-then-count-expected-2
returns-then-count-expected-2 c = λ answers size same.
    let at = stands c.args.work.now c.args.taken.now answers c.args.expected.now c.loop-k.k
    (omega (arith, c.loop-k-test.true, c.len-k-end.ensures.count)) size c.requires.expected same in
    sym (verdict-over c.loop-k.k _ _ _ _ _ _
    (omega (arith, c.if-count-expected-2.true, c.counted-count.ensures, at.counted)))
    ∙ sym at.here ∙ c.loop-k.invariant answers size same

pub loop-k-preserved : goal.loop-k-preserved
loop-k-preserved c = λ answers size same.
    let at = stands c.args.work.now c.args.taken.now answers c.args.expected.now c.loop-k.k
    (omega (arith, c.loop-k-test.true, c.len-k-end.ensures.count)) size c.requires.expected same in
    rw (add-one c.loop-k.k)
    (sym (verdict-as_expected c.loop-k.k _ _ _ _ _ _
    (omega (
      arith,
      c.if-count-expected.false,
      c.if-count-expected-2.false,
      c.counted-count.ensures,
      at.counted,
    )))
    ∙ sym at.here ∙ c.loop-k.invariant answers size same)

pub returns : goal.returns
returns c = λ answers size same.
    let past : drop c.loop-k.k c.args.work.now ≡ [] =
    drop_all c.loop-k.k c.args.work.now (omega (arith, c.loop-k-test.false, c.len-k-end.ensures.count)) in
    sym (verdict-none c.loop-k.k (drop c.loop-k.k answers) (drop c.loop-k.k c.args.expected.now))
    ∙ ap (λ (rs : List ItemRecord).
    verdict_from c.loop-k.k rs (drop c.loop-k.k answers) (drop c.loop-k.k c.args.expected.now)) (sym past)
    ∙ c.loop-k.invariant answers size same
