use Rattle.std.proofs.Common.{◌∙◌, sym}
use Rattle.ec_io.specs.Report.{report_kind}
use Rattle.ec_io.proofs.FrontLemmas.{HasFront-none}
use Rattle.ec_io.proofs.ReportLemmas.{report_fault-front, report_fault-fields}
use Rattle.ec_io.proofs.report.report_fault.Goals as goal

pub fields_fault-requires : goal.fields_fault-requires
fields_fault-requires c =
    (HasFront-none 40 report_kind c.args.bytes.now (sym c.front_fault.ensures ∙ c.in-None.is)).room

pub returns-in-Some : goal.returns-in-Some
returns-in-Some c =
    sym (report_fault-front c.args.bytes.now c.in-Some.fault (sym c.front_fault.ensures ∙ c.in-Some.is))

pub returns-in-None : goal.returns-in-None
returns-in-None c =
    c.fields_fault.ensures
    ∙ sym (report_fault-fields c.args.bytes.now (sym c.front_fault.ensures ∙ c.in-None.is))
