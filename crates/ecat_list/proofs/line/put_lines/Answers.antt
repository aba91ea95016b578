use Rattle.std.proofs.Common.{◌≡◌, ◌≤◌, ◌<◌, ◌++◌, ◌∙◌, length, take, drop, ap, ap₂, sym, arith, rules}
use Rattle.std.proofs.lemmas.List.{append_assoc, take_all}
use Rattle.ec_wire.specs.Datagram.{nth}
use Rattle.ecat_list.specs.Line.{line_words, lines_from}
use Rattle.ecat_list.proofs.FrontLemmas as fronts
use Rattle.ecat_list.proofs.LineLemmas as lines
use Rattle.ecat_list.proofs.line.put_lines.Goals as goal

pub loop-k-preserved : goal.loop-k-preserved
loop-k-preserved c =
    let style = c.args.style in
    let begin = drop c.args.first.now.from c.args.first.now.bytes in
    let ds = c.args.frame.now in
    let old = c.args.text.now.items in
    let k = c.loop-k.k in
    let d = nth ds k in
    let row = c.lead_line.new.row in
    let inside : k < length ds = search rules in
    let put : c.put_row.new.text.items ≡ c.loop-k.text.items ++ drop row.from row.bytes = search rules in
    let line : drop row.from row.bytes ≡ line_words style begin k d = c.lead_line.ensures in
    put ∙ ap₂ (λ t l. t ++ l) c.loop-k.invariant line
    ∙ append_assoc old (lines_from style begin 0 (take k ds)) (line_words style begin k d)
    ∙ ap (λ ls. old ++ ls) (sym (lines.line_more style begin ds k inside))

pub returns-in_err-put_row-clause-err : goal.returns-in_err-put_row-clause-err
returns-in_err-put_row-clause-err c =
    let style = c.args.style in
    let ds = c.args.frame.now in
    let k = c.loop-k.k in
    let d = nth ds k in
    let row = c.lead_line.new.row in
    let inside : k < length ds = search rules in
    fronts.on_err _ (lines.front_more style (drop c.args.first.now.from c.args.first.now.bytes) _ c.args.text.now.items c.loop-k.text.items
    (drop row.from row.bytes) ds k inside c.loop-k.invariant
    c.lead_line.ensures
    c.in_err-put_row.ensures.err)

pub returns-clause-ok : goal.returns-clause-ok
returns-clause-ok c =
    let ds = c.args.frame.now in
    let old = c.args.text.now.items in
    let all : length ds ≤ c.loop-k.k = omega (arith, c.count-k-end.ensures.count, c.loop-k-test.false) in
    c.loop-k.invariant ∙ ap (λ r. old ++ lines_from c.args.style (drop c.args.first.now.from c.args.first.now.bytes) 0 r) (take_all c.loop-k.k ds all)
