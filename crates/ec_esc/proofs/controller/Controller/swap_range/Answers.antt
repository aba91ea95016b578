use Rattle.std.proofs.Common.{◌≡◌, ℕ, List, length, ◌∙◌, ap, arith}
use Rattle.ec_areas.specs.Ranges.{IsOnArrival}
use Rattle.ec_areas.specs.Records.{sync_managers_of}
use Rattle.ec_regs.specs.declared.sync_man.SyncMan.{SyncMan}
use Rattle.ec_esc.specs.Pass.{range_taken, written_by}
use Rattle.ec_esc.specs.State.{ControllerState}
use Rattle.ec_esc.proofs.ServedLemmas.{range_state, written_range}
use Rattle.ec_esc.proofs.controller.Controller.swap_range.Goals as goal

pub returns-clause-state : goal.returns-clause-state
returns-clause-state c n =
    let came : ControllerState = record {
      memory = c.self.inside.memory;
      shown = c.self.inside.shown.items;
      written = c.self.inside.written;
    } in
    let from = c.args.from in
    let payload : List ℕ = c.args.payload.now in
    let before_is = c.arrived_records-before.ensures.value in
    let arrived : IsOnArrival came.memory c.arrived_records-before.result c.has_sii-sii.result =
    record { managers_are = before_is; sii_is = c.has_sii-sii.ensures } in
    let count_is : length c.swap_run.new.payload ≡ length payload = omega arith in
    rw c.range_of.ensures at (c.finish_write.ensures came.memory arrived)
    ∙ ap (λ (m : ℕ). range_state came c.arrived_records-before.result from m c.swap_run.new.self) count_is
    ∙ ap (λ (ms : List SyncMan). range_state came ms from (length payload) c.swap_run.new.self) before_is
    ∙ ap (range_state came (sync_managers_of came.memory) from (length payload)) c.swap_run.ensures.written
    ∙ written_range came from payload n
    ∙ ap (λ (s : ControllerState). written_by (range_taken n s from (length payload)) payload s)
    c.self.view_is
