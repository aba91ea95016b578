use Rattle.ec_io.proofs.ReportLemmas.{no_order}
use Rattle.ec_io.proofs.KindLemmas as kinds
use Rattle.ec_io.proofs.promises.one_kind.Goals as goal

pub returns-clause-order_report : goal.returns-clause-order_report
returns-clause-order_report c = no_order

pub returns-clause-order_question : goal.returns-clause-order_question
returns-clause-order_question c = kinds.order_question

pub returns-clause-order_reply : goal.returns-clause-order_reply
returns-clause-order_reply c = kinds.order_reply

pub returns-clause-report_question : goal.returns-clause-report_question
returns-clause-report_question c = kinds.report_question

pub returns-clause-report_reply : goal.returns-clause-report_reply
returns-clause-report_reply c = kinds.report_reply

pub returns-clause-question_reply : goal.returns-clause-question_reply
returns-clause-question_reply c = kinds.question_reply
