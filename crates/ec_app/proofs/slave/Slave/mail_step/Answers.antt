use Rattle.std.proofs.Common.{◌≡◌, true, None, sym, ◌∙◌, ap}
use Rattle.ec_areas.specs.Records.{sync_manager_at}
use Rattle.ec_esc.specs.Application.{take_mail_fault}
use Rattle.ec_app.specs.State.{SlaveState}
use Rattle.ec_app.specs.MailStep.{can_answer, mail_step}
use Rattle.ec_app.proofs.MailStepLemmas.{can_answer-taken, mail_step-taken}
use Rattle.ec_app.proofs.slave.Slave.mail_step.Goals as goal

-- a mail may be answered
room : (c : goal.After-deref) → can_answer c.self.inside.controller ≡ true
room c = ap (λ (s : SlaveState). can_answer s.controller) c.self.view_is ∙ sym c.if-not-can_answer.ensures

pub take-requires : goal.take-requires
take-requires c = ap can_answer c.in-Ok.ensures.ok ∙ can_answer-taken c.self.inside.controller ∙ room c

pub returns-in-Ok : goal.returns-in-Ok
returns-in-Ok c =
    let fields = c.self.inside in
    let s : SlaveState = record {
      controller = fields.controller;
      application = record {
        objects = fields.objects;
        kept = fields.kept;
        out_length = fields.out_length;
        in_length = fields.in_length;
        simple = fields.simple;
      };
    } in
    let room : can_answer s.controller ≡ true =
    ap (λ (t : SlaveState). can_answer t.controller) c.self.view_is ∙ sym c.if-not-can_answer.ensures in
    let none : take_mail_fault (sync_manager_at s.controller.memory 0) ≡ None = sym c.in-Ok.ensures.err in
    c.take.ensures
    ∙ mail_step-taken s c.deref.result.now c.take_mail.new.self room none
    (c.deref.ensures.0 ∙ c.in-Ok.ensures.mail) c.in-Ok.ensures.ok
    ∙ ap mail_step c.self.view_is
