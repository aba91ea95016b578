-- What a slave's application needs stays: a step changes its objects and the counter of the last good mail.
use Rattle.std.proofs.Common.{◌≡◌, ℕ, Bool, true, false, cond, ◌&&◌, List, None, Some, refl, ◌∙◌}
use Rattle.ec_regs.specs.declared.registers.TheConstants.{AL_CONTROL}
use Rattle.ec_areas.specs.Ranges.{has_sii}
use Rattle.ec_esc.specs.Application.{with_mail_taken}
use Rattle.ec_esc.specs.State.{word_at}
use Rattle.ec_app.specs.AlStep.{after_request, al_answer, al_rows, al_step, with_al_answer}
use Rattle.ec_app.specs.MailStep.{after_bytes, after_mail, can_answer, has_request, is_dropped, mail_step}
use Rattle.ec_app.specs.MailStep.{request_bytes}
use Rattle.ec_app.specs.Mail.{mail_of}
use Rattle.ec_app.specs.Slave.{step}
use Rattle.ec_app.specs.State.{SlaveState}
use Rattle.ec_over_ring.proofs.SlaveLemmas.{table_holds}

-- whether it asks for mailboxes, and the lengths of outputs and inputs that it works with
abbrev pub Needs : Type 0
Needs = Bool × ℕ × ℕ

abbrev pub needs : SlaveState → Needs
needs s = (s.application.simple, s.application.out_length, s.application.in_length)

answer_needs : (s : SlaveState) (control : ℕ) → needs (with_al_answer s (al_answer s control)) ≡ needs s
unfolding al_answer
answer_needs s control =
    table_holds (λ a. needs (with_al_answer s a) ≡ needs s) (al_rows s control) _
    (refl, (refl, (refl, (refl, (refl, (refl, (refl, (refl, tt)))))))) refl

request_needs : (b : Bool) (control : ℕ) (s : SlaveState)
    → needs (after_request (cond b (Some control) None) s) ≡ needs s
request_needs true control s = answer_needs s control
request_needs false control s = refl

al_needs : (s : SlaveState) → needs (al_step s) ≡ needs s
unfolding al_step
al_needs s =
    request_needs s.controller.written (word_at s.controller.memory AL_CONTROL)
    (record s { controller = record s.controller { written = false } })

either_needs : (b : Bool) (x y : SlaveState) (n : Needs) → needs x ≡ n → needs y ≡ n
    → needs (cond b x y) ≡ n
either_needs true x y n first second = first
either_needs false x y n first second = second

mail_needs : (s : SlaveState) → needs (mail_step s) ≡ needs s
unfolding mail_step
mail_needs s =
    let taken : SlaveState = record s { controller = with_mail_taken s.controller 0 } in
    let bytes : List ℕ = request_bytes s.controller in
    either_needs (can_answer s.controller && has_request s.controller) (after_bytes bytes taken) s (needs s)
    (either_needs (is_dropped (has_sii taken.controller.memory) s.application.kept bytes) taken (after_mail (mail_of bytes) taken) (needs s)
    refl refl)
    refl

pub step_needs : (s : SlaveState) → needs (step s) ≡ needs s
unfolding step
step_needs s = mail_needs (al_step s) ∙ al_needs s
