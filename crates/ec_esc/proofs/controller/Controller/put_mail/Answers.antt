use Rattle.std.proofs.Common.{◌≡◌, ℕ, List, Some, take, ◌∙◌, ap}
use Rattle.ec_regs.specs.declared.sync_man.SyncMan.{SyncMan}
use Rattle.ec_esc.specs.Application.{mail_area}
use Rattle.ec_esc.specs.Writing.{with_filled}
use Rattle.ec_esc.specs.State.{ControllerState, with_run}
use Rattle.ec_esc.proofs.ApplicationLemmas.{take-padded}
use Rattle.ec_esc.proofs.controller.Controller.put_mail.Goals as goal

pub returns-clause-ok : goal.returns-clause-ok
returns-clause-ok c =
    let m : List ℕ = c.self.inside.memory in
    let s : SyncMan = c.syncman-manager.result in
    let mail : List ℕ = c.args.bytes.now in
    let area : take s.length c.padded-area.result ≡ mail_area s mail =
    ap (λ (xs : List ℕ). take s.length xs) c.padded-area.ensures
    ∙ take-padded s mail c.in_ok-check_mail_fits.ensures.room c.in_ok-check_mail_fits.ensures.bound in
    let loaded : c.load.new.self ≡ with_run m s.start (mail_area s mail) =
    c.load.ensures.value ∙ ap (λ (xs : List ℕ). with_run m s.start xs) area in
    c.mark_full.ensures
    ∙ ap
    (λ (xs : List ℕ). record {
      memory = with_filled (Some c.args.sm) xs;
      shown = c.self.inside.shown.items;
      written = c.self.inside.written;
    })
    loaded
    ∙ ap
    (λ (t : ControllerState). record t {
      memory = with_filled (Some c.args.sm) (with_run t.memory s.start (mail_area s mail));
    })
    c.self.view_is
    ∙ ap
    (λ (t : SyncMan). record c.args.self.now {
      memory = with_filled (Some c.args.sm) (with_run c.args.self.now.memory t.start (mail_area t mail));
    })
    c.syncman-manager.ensures
