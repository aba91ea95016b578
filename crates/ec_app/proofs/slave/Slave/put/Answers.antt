use Rattle.std.proofs.Common.{rules, ◌≡◌, true, length, ap, ◌∙◌}
use Rattle.ec_esc.specs.State.{ControllerState}
use Rattle.ec_app.specs.State.{SlaveState}
use Rattle.ec_app.specs.MailStep.{can_answer}
use Rattle.ec_app.proofs.MailStepLemmas.{put_mail_fault-can_answer, IsOk-result_err}
use Rattle.ec_app.proofs.slave.Slave.put.Goals as goal

pub unwrap-requires : goal.unwrap-requires
unwrap-requires c =
    let controller : ControllerState = c.self.inside.controller in
    let room : can_answer controller ≡ true =
    ap (λ (s : SlaveState). can_answer s.controller) c.self.view_is ∙ c.requires.room in
    let size : length c.write.result ≡ 16 = search rules in
    IsOk-result_err c.put_mail.result
    (c.put_mail.ensures.err ∙ put_mail_fault-can_answer controller c.write.result room size)
