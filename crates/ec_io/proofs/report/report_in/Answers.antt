use Rattle.std.proofs.Common.{◌∙◌, ap, not, ℕ}
use Rattle.std.proofs.lemmas.List.{take_rest}
use Rattle.ec_io.specs.Cycle.{cycle_of}
use Rattle.ec_io.specs.End.{end_of}
use Rattle.ec_io.specs.Report.{report_at, said_end}
use Rattle.ec_io.proofs.ReportLemmas.{report_with-same}
use Rattle.ec_io.proofs.report.report_in.Goals as goal

pub returns : goal.returns
returns c =
    report_with-same _ _ _ _ _ _ _ _ _ _ (report_at c.args.bytes.now)
    c.u64_at.ensures
    c.u64_at-2.ensures
    (c.of.ensures ∙ ap (λ (item : ℕ). end_of (said_end c.args.bytes.now) item) c.u16_at-item.ensures)
    (ap not c.has_flag.ensures)
    c.has_flag-2.ensures
    c.has_flag-3.ensures
    c.has_flag-4.ensures
    c.u32_at.ensures
    (c.cycle_of.ensures.value ∙ ap cycle_of c.u64_at-3.ensures)
    (take_rest c.args.bytes.now 40)
