-- How long outputs are.
use Rattle.std.proofs.Common.{◌≡◌, ◌≤◌, ℕ, ◌+◌, ◌-◌, List, length, Bool, Some, None, true, false, arith}
use Rattle.std.specs.Prelude.{slice_range, if◌then◌else◌}
use Rattle.std.specs.Prelude.{drop}
use Rattle.std.proofs.lemmas.List.{length-take, length-drop}
use Rattle.ec_areas.specs.Records.{sync_manager_at}
use Rattle.ec_esc.specs.Application.{outputs_of, shown_area}
use Rattle.ec_esc.specs.State.{ControllerState}
use Rattle.ec_regs.specs.SyncMan.{guards_outputs}
use Rattle.ec_regs.specs.declared.sync_man.SyncMan.{SyncMan}
use Rattle.ec_regs.specs.declared.registers.TheConstants.{PROCESS_MEMORY}

-- a run of a list is no longer than the list
run-size : (xs : List ℕ) (from to : ℕ) → length (slice_range xs from to) ≤ length xs
run-size xs from to =
    rw (length-take (to - from) (drop from xs), length-drop from xs) (omega arith)

-- what there is in the one case is what it is
there : (guards : Bool) (bytes area : List ℕ) → Some bytes ≡ (if guards then Some area else None)
    → bytes ≡ area
there true bytes area is = cc
there false bytes area is = absurd cc

-- outputs are no longer than what is shown of a controller
pub outputs-size : (c : ControllerState) (i : ℕ) (bytes : List ℕ) → length c.shown ≡ 8192
    → Some bytes ≡ outputs_of c i → length bytes ≤ 8192
outputs-size c i bytes size is =
    let s : SyncMan = sync_manager_at c.memory i in
    let from : ℕ = s.start - PROCESS_MEMORY in
    let area = there (guards_outputs s) bytes (shown_area s c.shown) is in
    rw (area, ← size) (run-size c.shown from (from + s.length))
