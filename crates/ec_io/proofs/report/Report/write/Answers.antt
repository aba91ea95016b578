use Rattle.std.proofs.Common.{◌≡◌, ◌+◌, ◌++◌, ◌∙◌, sym, ap, drop, length, List, ℕ}
use Rattle.ec_io.specs.Report.{report_bytes, report_head, report_value}
use Rattle.ec_io.proofs.report.Report.write.Goals as goal

pub returns-clause-written : goal.returns-clause-written
unfolding report_bytes
returns-clause-written c =
    let inputs : List ℕ = c.args.self.now.inputs.now in
    let before : List ℕ = c.args.into.now in
    let said : List ℕ = report_head (report_value c.args.self.now) in
    let head : c.report_head-head.result ≡ said = c.report_head-head.ensures in
    let size : c.in_ok-size.size ≡ 40 + length inputs = c.in_ok-size.ensures.value in
    c.put_packet.ensures
    ∙ ap (λ (h : List ℕ). h ++ inputs ++ drop (length h + length inputs) before) head
    ∙ ap (λ (n : ℕ). said ++ inputs ++ drop n before) (sym size)
