-- The laws that crates above cite: what is a packet says one thing, has no fault, and is of one kind.
use Rattle.std.proofs.Common.{◌≡◌, ℕ, List, None}
use Rattle.ec_io.specs.Order.{OrderValue, IsOrder, order_at, order_fault}
use Rattle.ec_io.specs.Report.{ReportValue, IsReport, report_at, report_fault}
use Rattle.ec_io.specs.Question.{QuestionValue, IsQuestion, question_at}
use Rattle.ec_io.specs.Reply.{ReplyValue, IsReply, reply_at}
use Rattle.ec_io.proofs.KindLemmas as kinds
use Rattle.ec_io.proofs.OrderLemmas as orders
use Rattle.ec_io.proofs.QuestionLemmas as questions
use Rattle.ec_io.proofs.ReplyLemmas as replies
use Rattle.ec_io.proofs.ReportLemmas as reports

-- the bytes of an order say what it says
pub order_at-IsOrder : (bytes : List ℕ) (v : OrderValue) → IsOrder bytes v → order_at bytes ≡ v
order_at-IsOrder = orders.order_at-IsOrder

-- and have no fault
pub order_fault-IsOrder : (bytes : List ℕ) (v : OrderValue) → IsOrder bytes v → order_fault bytes ≡ None
order_fault-IsOrder = orders.order_fault-IsOrder

-- bytes are one order at most
pub one_order : (bytes : List ℕ) (v w : OrderValue) → IsOrder bytes v → IsOrder bytes w → v ≡ w
one_order = orders.one_order

-- the bytes of a report say what it says
pub report_at-IsReport : (bytes : List ℕ) (v : ReportValue) → IsReport bytes v → report_at bytes ≡ v
report_at-IsReport = reports.report_at-IsReport

-- and have no fault
pub report_fault-IsReport : (bytes : List ℕ) (v : ReportValue) → IsReport bytes v → report_fault bytes ≡ None
report_fault-IsReport = reports.report_fault-IsReport

-- bytes are one report at most
pub one_report : (bytes : List ℕ) (v w : ReportValue) → IsReport bytes v → IsReport bytes w → v ≡ w
one_report = reports.one_report

-- the bytes of a question and of a reply say what they say
pub question_at-IsQuestion : (bytes : List ℕ) (v : QuestionValue) → IsQuestion bytes v
    → question_at bytes ≡ v
question_at-IsQuestion = questions.question_at-IsQuestion

pub reply_at-IsReply : (bytes : List ℕ) (v : ReplyValue) → IsReply bytes v → reply_at bytes ≡ v
reply_at-IsReply = replies.reply_at-IsReply

-- no order is a question
pub order_question : (bytes : List ℕ) (v : OrderValue) (w : QuestionValue) → IsOrder bytes v
    → IsQuestion bytes w → ⊥
order_question = kinds.order_question
