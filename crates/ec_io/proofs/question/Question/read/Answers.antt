use Rattle.std.proofs.Common.{◌≡◌, ◌∙◌, sym, arith, Some, None}
use Rattle.ec_io.specs.Question.{question_fault}
use Rattle.ec_io.proofs.ByteLemmas.{AreBytes}
use Rattle.ec_io.proofs.QuestionLemmas.{IsQuestion-said, question-room, question_at-IsQuestion, question_fault-IsQuestion}
use Rattle.ec_io.proofs.question.Question.read.Goals as goal

pub question_in-requires : goal.question_in-requires
question_in-requires c = question-room c.args.bytes.now (sym c.question_fault.ensures ∙ c.in-None.is)

pub returns-in-Some-clause-only_found : goal.returns-in-Some-clause-only_found
returns-in-Some-clause-only_found c v is =
    let fault : question_fault c.args.bytes.now ≡ Some c.in-Some.fault =
    sym c.question_fault.ensures ∙ c.in-Some.is in
    let none : question_fault c.args.bytes.now ≡ None = question_fault-IsQuestion c.args.bytes.now v is in
    cc

pub returns-in-None-clause-found : goal.returns-in-None-clause-found
returns-in-None-clause-found c =
    let all : AreBytes c.args.bytes.now = λ i. omega (arith, c.type_inv.bytes i) in
    IsQuestion-said c.args.bytes.now _ all (sym c.question_fault.ensures ∙ c.in-None.is) c.question_in.ensures

pub returns-in-None-clause-only_found : goal.returns-in-None-clause-only_found
returns-in-None-clause-only_found c v is = c.question_in.ensures ∙ question_at-IsQuestion c.args.bytes.now v is
