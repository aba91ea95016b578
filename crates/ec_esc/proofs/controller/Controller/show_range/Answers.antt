use Rattle.std.proofs.Common.{rules, ◌≡◌, List, Some, ◌∙◌, ap}
use Rattle.ec_areas.specs.Records.{sync_managers_of}
use Rattle.ec_areas.specs.Showing.{last_byte, SaysOfLastBytes}
use Rattle.ec_regs.specs.declared.sync_man.SyncMan.{SyncMan}
use Rattle.ec_esc.specs.Pass.{is_written}
use Rattle.ec_esc.specs.State.{ControllerState}
use Rattle.ec_esc.specs.Writing.{shown_after}
use Rattle.ec_esc.proofs.controller.Controller.show_range.Goals as goal

pub returns : goal.returns
returns c arrived before_is =
    let state = c.args.self.now in
    let after : List SyncMan = c.managers.result.now in
    let test = is_written arrived c.args.range.first c.args.range.count in
    let says : SaysOfLastBytes test after c.told_of_each-reached.result = λ i s here active.
    let found = c.told_of_each-reached.ensures i s here in
    let told = found.2 in
    let answer : found.0 ≡ test (last_byte s) = search rules in
    found.1 ∙ ap Some answer in
    c.show_written.ensures test says
    ∙ ap (λ (ms : List SyncMan). record state {
      shown = shown_after test c.args.before.now ms state.memory state.shown;
    }) (c.managers.ensures.value ∙ ap (λ (s : ControllerState). sync_managers_of s.memory) c.self.view_is)
