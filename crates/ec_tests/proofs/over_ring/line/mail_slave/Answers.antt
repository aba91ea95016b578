use Rattle.std.proofs.Common.{◌≡◌, ◌+◌, ◌%◌, None, refl, sym, subst, ap, ◌∙◌}
use Rattle.ec_regs.specs.SyncMan.{is_active}
use Rattle.ec_regs.specs.declared.al.AlState.TheVariants.{PreOp}
use Rattle.ec_regs.specs.declared.sync_man.SyncMan.{SyncMan}
use Rattle.ec_areas.specs.Ranges.{meets}
use Rattle.ec_esc.specs.State.{ControllerState, with_sync_manager}
use Rattle.ec_app.specs.AlStep.{with_state}
use Rattle.ec_app.specs.Lending.{with_controller}
use Rattle.ec_app.specs.State.{ApplicationState, SlaveState}
use Rattle.ec_over_ring.specs.Transfers.{IsReady, prepared}
use Rattle.ec_tests.proofs.over_ring.line.mail_slave.Goals as goal

pub returns : goal.returns
unfolding is_active meets
returns g c =
    λ peer to from.
    let first : SyncMan =
    record { start = 6144; length = 32; control = 6; status = 0; activate = 1; pdi = 0 } in
    let second : SyncMan =
    record { start = 6272; length = 32; control = 2; status = 0; activate = 1; pdi = 0 } in
    let made : ControllerState = c.expect-slave.result.controller in
    let application : ApplicationState = c.expect-slave.result.application in
    let with_first : c.set_syncman.new.self ≡ with_sync_manager (with_state made PreOp) 0 first =
    c.set_syncman.ensures
    ∙ ap (λ (x : ControllerState). with_sync_manager x 0 (record c.mailbox.result { status = 0 }))
    (c.controller_mut.ensures.value ∙ ap (λ (s : SlaveState). s.controller) c.set_state.ensures.slave)
    ∙ ap (λ (m : SyncMan). with_sync_manager (with_state made PreOp) 0 (record m { status = 0 }))
    c.mailbox.ensures in
    let with_both : c.set_syncman-2.new.self ≡ prepared made first second =
    c.set_syncman-2.ensures
    ∙ ap (λ (x : ControllerState). with_sync_manager x 1 (record c.mailbox-2.result { status = 0 }))
    (c.controller_mut-2.ensures.value ∙ with_first)
    ∙ ap (λ (m : SyncMan).
    with_sync_manager (with_sync_manager (with_state made PreOp) 0 first) 1 (record m { status = 0 }))
    c.mailbox-2.ensures in
    let same : with_controller (with_controller c.set_state.new.self c.set_syncman.new.self)
    c.set_syncman-2.new.self
    ≡ record { controller = prepared made first second; application = application } =
    ap (λ (x : ControllerState).
    with_controller (with_controller c.set_state.new.self c.set_syncman.new.self) x)
    with_both
    ∙ ap (λ (a : ApplicationState). record { controller = prepared made first second; application = a })
    (ap (λ (s : SlaveState). s.application) c.set_state.ensures.slave) in
    let fresh = rw c.expect-slave.ensures at c.new.ensures.controller in
    let told = rw c.expect-slave.ensures at c.new.ensures.application in
    let none : application.kept ≡ None = ap (λ (a : ApplicationState). a.kept) told in
    subst (λ (s : SlaveState). IsReady peer s) (sym same)
    (c.ready_at_first.ensures (12288 + c.args.place % 3) made first second application peer fresh
    (record {
      to = to;
      from = from;
      requests_are = refl;
      answers_are = refl;
      apart = refl;
      no_request = refl;
      no_answer = refl;
    }) none)
