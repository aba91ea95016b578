-- What packets make of outputs, one after the other.
use Rattle.std.proofs.Common.{◌∙◌, ◌||◌, ℕ, Bool, true, false, List, Option, Some, Result, Ok, Err, inl}
use Rattle.std.proofs.Common.{◌≡◌, subst, sym}
use Rattle.ec_io.specs.Question.{IsQuestion, QuestionValue}
use Rattle.ec_io.proofs.Laws.{order_question}
use Rattle.ecat_task.specs.Held.{AreOthers, Become, Takes, orders_others}
use Rattle.ecat_task.specs.declared.held.Refused.{Refused}

-- what a packet makes of them
pub takes_become : (rest : Option (List ℕ)) (packet before later : List ℕ) (taken : Result Bool Refused)
    → Takes packet before taken later → Become rest before (orders_others (Some taken)) later
takes_become rest packet before later (Ok true) takes = inl (packet, takes)
takes_become rest packet before later (Ok false) takes = takes
takes_become rest packet before later (Err why) takes = takes

-- they became others at one of two steps, or they stay
pub become_more : (rest : Option (List ℕ)) (before between later : List ℕ) (first second : Bool)
    → Become rest before first between → Become rest between second later
    → Become rest before (first || second) later
become_more rest before between later true true one other = other
become_more rest before between later true false one other =
    subst (λ (outputs : List ℕ). AreOthers rest outputs) (sym other) one
become_more rest before between later false true one other = other
become_more rest before between later false false one other = other ∙ one

-- a question leaves them
pub question_leaves : (packet before later : List ℕ) (v : QuestionValue) (taken : Result Bool Refused)
    → IsQuestion packet v → Takes packet before taken later → later ≡ before
question_leaves packet before later v (Ok true) is takes =
    absurd (order_question packet _ v takes.order is)
question_leaves packet before later v (Ok false) is takes = takes
question_leaves packet before later v (Err why) is takes = takes
