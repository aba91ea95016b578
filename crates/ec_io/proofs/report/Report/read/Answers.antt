use Rattle.std.proofs.Common.{◌≡◌, ◌∙◌, sym, arith, Some, None}
use Rattle.ec_io.specs.Report.{report_fault}
use Rattle.ec_io.proofs.ByteLemmas.{AreBytes}
use Rattle.ec_io.proofs.ReportLemmas.{IsReport-said, report-room, report_at-IsReport, report_fault-IsReport}
use Rattle.ec_io.proofs.report.Report.read.Goals as goal

pub report_in-requires : goal.report_in-requires
report_in-requires c = report-room c.args.bytes.now (sym c.report_fault.ensures ∙ c.in-None.is)

pub returns-in-Some-clause-only_found : goal.returns-in-Some-clause-only_found
returns-in-Some-clause-only_found c v is =
    let fault : report_fault c.args.bytes.now ≡ Some c.in-Some.fault =
    sym c.report_fault.ensures ∙ c.in-Some.is in
    let none : report_fault c.args.bytes.now ≡ None = report_fault-IsReport c.args.bytes.now v is in
    cc

pub returns-in-None-clause-found : goal.returns-in-None-clause-found
returns-in-None-clause-found c =
    let all : AreBytes c.args.bytes.now = λ i. omega (arith, c.type_inv.bytes i) in
    IsReport-said c.args.bytes.now _ all (sym c.report_fault.ensures ∙ c.in-None.is) c.report_in.ensures

pub returns-in-None-clause-only_found : goal.returns-in-None-clause-only_found
returns-in-None-clause-only_found c v is = c.report_in.ensures ∙ report_at-IsReport c.args.bytes.now v is
