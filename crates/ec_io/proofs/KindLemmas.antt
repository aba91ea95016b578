-- The byte of its kind tells a packet of one kind from those of the others.
use Rattle.std.proofs.Common.{◌≡◌, ℕ, List, get_or, ap, arith}
use Rattle.ec_io.specs.Order.{order_kind, OrderValue, order_bytes, IsOrder}
use Rattle.ec_io.specs.Report.{report_kind, ReportValue, report_bytes, IsReport}
use Rattle.ec_io.specs.Question.{question_kind, QuestionValue, question_bytes, IsQuestion}
use Rattle.ec_io.specs.Reply.{reply_kind, ReplyValue, reply_bytes, IsReply}

-- what stands at the byte of the kind
of_order : (bytes : List ℕ) (v : OrderValue) → IsOrder bytes v → get_or bytes 5 0 ≡ order_kind
unfolding order_bytes
of_order bytes v is = ap (λ (xs : List ℕ). get_or xs 5 0) is.spelt

of_report : (bytes : List ℕ) (v : ReportValue) → IsReport bytes v → get_or bytes 5 0 ≡ report_kind
unfolding report_bytes
of_report bytes v is = ap (λ (xs : List ℕ). get_or xs 5 0) is.spelt

of_question : (bytes : List ℕ) (v : QuestionValue) → IsQuestion bytes v → get_or bytes 5 0 ≡ question_kind
unfolding question_bytes
of_question bytes v is = ap (λ (xs : List ℕ). get_or xs 5 0) is.spelt

of_reply : (bytes : List ℕ) (v : ReplyValue) → IsReply bytes v → get_or bytes 5 0 ≡ reply_kind
unfolding reply_bytes
of_reply bytes v is = ap (λ (xs : List ℕ). get_or xs 5 0) is.spelt

-- no order is a question or a reply
pub order_question : (bytes : List ℕ) (v : OrderValue) (w : QuestionValue) → IsOrder bytes v
    → IsQuestion bytes w → ⊥
order_question bytes v w is_v is_w = omega (arith, of_order bytes v is_v, of_question bytes w is_w)

pub order_reply : (bytes : List ℕ) (v : OrderValue) (w : ReplyValue) → IsOrder bytes v → IsReply bytes w → ⊥
order_reply bytes v w is_v is_w = omega (arith, of_order bytes v is_v, of_reply bytes w is_w)

-- no report is one
pub report_question : (bytes : List ℕ) (v : ReportValue) (w : QuestionValue) → IsReport bytes v
    → IsQuestion bytes w → ⊥
report_question bytes v w is_v is_w = omega (arith, of_report bytes v is_v, of_question bytes w is_w)

pub report_reply : (bytes : List ℕ) (v : ReportValue) (w : ReplyValue) → IsReport bytes v → IsReply bytes w → ⊥
report_reply bytes v w is_v is_w = omega (arith, of_report bytes v is_v, of_reply bytes w is_w)

-- and no question is a reply
pub question_reply : (bytes : List ℕ) (v : QuestionValue) (w : ReplyValue) → IsQuestion bytes v
    → IsReply bytes w → ⊥
question_reply bytes v w is_v is_w = omega (arith, of_question bytes v is_v, of_reply bytes w is_w)
