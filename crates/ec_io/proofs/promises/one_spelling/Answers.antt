use Rattle.ec_io.proofs.OrderLemmas.{one_order}
use Rattle.ec_io.proofs.ReportLemmas.{one_report}
use Rattle.ec_io.proofs.QuestionLemmas.{one_question}
use Rattle.ec_io.proofs.ReplyLemmas.{one_reply}
use Rattle.ec_io.proofs.promises.one_spelling.Goals as goal

pub returns-clause-orders : goal.returns-clause-orders
returns-clause-orders c = one_order

pub returns-clause-reports : goal.returns-clause-reports
returns-clause-reports c = one_report

pub returns-clause-questions : goal.returns-clause-questions
returns-clause-questions c = one_question

pub returns-clause-replies : goal.returns-clause-replies
returns-clause-replies c = one_reply
