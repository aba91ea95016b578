use Rattle.std.proofs.Common.{◌∙◌, sym}
use Rattle.ec_io.proofs.QuestionLemmas.{question_fault-front, question_fault-text}
use Rattle.ec_io.proofs.question.question_fault.Goals as goal

pub returns-in-Some : goal.returns-in-Some
returns-in-Some c =
    sym (question_fault-front c.args.bytes.now c.in-Some.fault (sym c.front_fault.ensures ∙ c.in-Some.is))

pub returns-in-None : goal.returns-in-None
returns-in-None c =
    c.text_fault.ensures
    ∙ sym (question_fault-text c.args.bytes.now (sym c.front_fault.ensures ∙ c.in-None.is))
