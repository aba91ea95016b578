-- Records that are read back are mapped as the controllers that have them.
use Rattle.std.proofs.Common.{◌≡◌, ℕ, ◌<◌, ◌≤◌, ◌+◌, ◌*◌, List, [], ◌∷◌, ◌++◌, length, map, take, drop, refl, sym, ap, ◌∙◌}
use Rattle.std.proofs.Common.{arith}
use Rattle.std.proofs.lemmas.List.{take-append-drop, length-take-le, length-drop}
use Rattle.ec_regs.specs.Fmmu.{fmmu_of}
use Rattle.ec_regs.specs.SyncMan.{sync_man_of}
use Rattle.ec_regs.specs.declared.registers.TheConstants.{STATION_ADDRESS}
use Rattle.ec_regs.specs.declared.fmmu.Fmmu.{Fmmu}
use Rattle.ec_regs.specs.declared.sync_man.SyncMan.{SyncMan}
use Rattle.ec_areas.specs.Records.{fmmu_at, fmmus_of, sync_manager_at, sync_managers_of}
use Rattle.ec_esc.specs.State.{ControllerState, word_at}
use Rattle.ec_line.specs.Mapping.{Mapping, mapping, mapping_of, without_status}
use Rattle.ec_check.specs.Fit.{IsFit}
use Rattle.ec_check.proofs.Laws.{fit_by_mapping, fmmu-records, run_of_middle, station-records}
use Rattle.ec_check.proofs.Laws.{sync_manager-records}
use Rattle.rummymaple.specs.Mapping.{line_of}
use Rattle.rummymaple.specs.ReadBack.{AreOf, AreOfLine}
use Rattle.ec_check.specs.Records.{controller_with, memory_of}
use Rattle.ec_check.specs.declared.records.Records.{Records}

-- a run of a part of a list is a run of the list, so many elements further on
run_of_part : (m : List ℕ) (base size from count : ℕ) → base + size ≤ length m → from + count ≤ size
    → take count (drop from (take size (drop base m))) ≡ take count (drop (base + from) m)
run_of_part m base size from count there inside =
    let part : List ℕ = take size (drop base m) in
    let back : List ℕ = drop size (drop base m) in
    let split : take base m ++ (part ++ back) ≡ m =
    ap (λ (xs : List ℕ). take base m ++ xs) (take-append-drop size (drop base m)) ∙ take-append-drop base m in
    let part_size : length part ≡ size =
    length-take-le size (drop base m) (omega (arith, there, length-drop base m)) in
    sym
    (run_of_middle (take base m) part back base from count (length-take-le base m (omega (arith, there)))
    (omega (arith, inside, part_size)))
    ∙ ap (λ (xs : List ℕ). take count (drop (base + from) xs)) split

-- how many bytes such records have
fmmu_bytes : (r : Records) (c : ControllerState) → AreOf r c → length r.fmmus ≡ 128
fmmu_bytes r c are =
    ap (λ (xs : List ℕ). length xs) are.fmmus
    ∙ length-take-le 128 (drop 1536 c.memory)
    (omega (arith, are.controller.memory_size, length-drop 1536 c.memory))

sync_manager_bytes : (r : Records) (c : ControllerState) → AreOf r c → length r.sync_managers ≡ 64
sync_manager_bytes r c are =
    ap (λ (xs : List ℕ). length xs) are.sync_managers
    ∙ length-take-le 64 (drop 2048 c.memory)
    (omega (arith, are.controller.memory_size, length-drop 2048 c.memory))

-- each FMMU is that of the controller
pub fmmu_read : (r : Records) (c : ControllerState) (i : ℕ) → AreOf r c → i < 8
    → fmmu_at (memory_of r) i ≡ fmmu_at c.memory i
unfolding fmmu_at
fmmu_read r c i are there =
    fmmu-records r i there (fmmu_bytes r c are)
    ∙ ap (λ (xs : List ℕ). fmmu_of (take 16 (drop (16 * i) xs))) are.fmmus
    ∙ ap fmmu_of
    (run_of_part c.memory 1536 128 (16 * i) 16 (omega (arith, are.controller.memory_size))
    (omega (arith, there)))

-- each sync manager
pub sync_manager_read : (r : Records) (c : ControllerState) (i : ℕ) → AreOf r c → i < 8
    → sync_manager_at (memory_of r) i ≡ sync_manager_at c.memory i
unfolding sync_manager_at
sync_manager_read r c i are there =
    sync_manager-records r i there (fmmu_bytes r c are) (sync_manager_bytes r c are)
    ∙ ap (λ (xs : List ℕ). sync_man_of (take 8 (drop (8 * i) xs))) are.sync_managers
    ∙ ap sync_man_of
    (run_of_part c.memory 2048 64 (8 * i) 8 (omega (arith, are.controller.memory_size))
    (omega (arith, there)))

fmmus_read : (r : Records) (c : ControllerState) → AreOf r c → fmmus_of (memory_of r) ≡ fmmus_of c.memory
unfolding fmmus_of
fmmus_read r c are =
    let e = λ (i : ℕ) (there : i < 8). fmmu_read r c i are there in
    rw (
      e 0 (omega arith),
      e 1 (omega arith),
      e 2 (omega arith),
      e 3 (omega arith),
      e 4 (omega arith),
      e 5 (omega arith),
      e 6 (omega arith),
      e 7 (omega arith),
    ) refl

pub sync_managers_read : (r : Records) (c : ControllerState) → AreOf r c
    → sync_managers_of (memory_of r) ≡ sync_managers_of c.memory
unfolding sync_managers_of
sync_managers_read r c are =
    let e = λ (i : ℕ) (there : i < 8). sync_manager_read r c i are there in
    rw (
      e 0 (omega arith),
      e 1 (omega arith),
      e 2 (omega arith),
      e 3 (omega arith),
      e 4 (omega arith),
      e 5 (omega arith),
      e 6 (omega arith),
      e 7 (omega arith),
    ) refl

-- so the records are mapped as the controller is
pub mapping_read : (r : Records) (c : ControllerState) → AreOf r c
    → mapping_of (controller_with r) ≡ mapping_of c
unfolding mapping_of
mapping_read r c are =
    let of : ℕ → List Fmmu → List SyncMan → Mapping =
    λ s fs ms. record { station = s; fmmus = fs; sync_managers = map without_status ms } in
    let m : List ℕ = memory_of r in
    let station : ℕ = word_at c.memory STATION_ADDRESS in
    ap (λ (s : ℕ). of s (fmmus_of m) (sync_managers_of m)) (station-records r ∙ are.station)
    ∙ ap (λ (fs : List Fmmu). of station fs (sync_managers_of m)) (fmmus_read r c are)
    ∙ ap (λ (ms : List SyncMan). of station (fmmus_of c.memory) ms) (sync_managers_read r c are)

-- and a line of them as the line is
pub line_read : (rs : List Records) (line : List ControllerState) → AreOfLine rs line
    → mapping (line_of rs) ≡ mapping line
line_read [] [] are = refl
line_read (r ∷ rs) (c ∷ cs) are =
    rw (mapping_read r c are.0, line_read rs cs are.1) refl
line_read [] (c ∷ cs) are = absurd are
line_read (r ∷ rs) [] are = absurd are

pub fit_read : (rs : List Records) (line : List ControllerState) → AreOfLine rs line → IsFit (line_of rs)
    → IsFit line
fit_read rs line are = fit_by_mapping (line_of rs) line (sym (line_read rs line are))

pub fit_told : (rs : List Records) (line : List ControllerState) → AreOfLine rs line → IsFit line
    → IsFit (line_of rs)
fit_told rs line are = fit_by_mapping line (line_of rs) (line_read rs line are)
