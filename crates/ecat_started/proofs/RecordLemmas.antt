-- Registers that hold what is wanted of a slave are mapped as the registers that it was read off.
use Rattle.std.proofs.Common.{◌≡◌, ℕ, ◌+◌, ◌*◌, ◌<◌, ◌≤◌, List, [], ◌∷◌, length, map, take, drop, get_or}
use Rattle.std.proofs.Common.{Some, refl, sym, ap, ◌∙◌, arith, subst}
use Rattle.std.specs.Prelude.{slice_get}
use Rattle.std.specs.Int.{w16, w32, to_le_bytes, from_le_bytes}
use Rattle.std.specs.List.{AllByRecursion}
use Rattle.std.proofs.lemmas.List.{ext_get_or, length-drop, length-take-le, take_all}
use Rattle.std.proofs.lemmas.Nat.{from_le_bytes-to_le_bytes_2, from_le_bytes-to_le_bytes_4}
use Rattle.ec_regs.specs.Bits.{AreBytes}
use Rattle.ec_regs.specs.Fmmu.{fmmu_bytes, fmmu_of}
use Rattle.ec_regs.specs.declared.fmmu.Fmmu.{Fmmu}
use Rattle.ec_regs.specs.declared.registers.TheConstants.{MEMORY_SIZE, STATION_ADDRESS}
use Rattle.ec_regs.specs.declared.sync_man.SyncMan.{SyncMan}
use Rattle.ec_regs.proofs.Laws.{AreBytes-run, get_or-run}
use Rattle.ec_areas.specs.Records.{fmmu_at, fmmus_of, sync_manager_at, sync_managers_of}
use Rattle.ec_esc.specs.State.{ControllerState, IsController, word_at}
use Rattle.ec_line.specs.Mapping.{mapping_of, without_status}
use Rattle.ec_run.specs.Phase.{steps_of}
use Rattle.ec_run.specs.declared.phase.Phase.TheVariants.{SafeOp}
use Rattle.ec_run.specs.declared.step.Step.TheVariants.{SyncManager}
use Rattle.ec_run.specs.declared.wanted.Wanted.{Wanted}
use Rattle.ec_over_ring.specs.Started.{HoldsFmmu, HoldsManager, HoldsSet}

-- ---- FMMUs

run_size : (m : List ℕ) (from n : ℕ) → from + n ≤ length m → length (take n (drop from m)) ≡ n
run_size m from n inside =
    length-take-le n (drop from m) (let size = length-drop from m in omega (arith, size, inside))

-- the record that a record's bytes spell is that record
spelt_back : (bs : List ℕ) → length bs ≡ 16 → AreBytes bs → fmmu_of (fmmu_bytes (fmmu_of bs)) ≡ fmmu_of bs
spelt_back bs size are =
    let f : Fmmu = fmmu_of bs in
    let byte : (k : ℕ) → k < 4 → get_or (take 4 (drop 0 bs)) k 0 < 256 =
    λ k below. subst (λ (n : ℕ). n < 256) (sym (get_or-run bs 0 4 k below)) (are (0 + k)) in
    let small : (from k : ℕ) → k < 2 → get_or (take 2 (drop from bs)) k 0 < 256 =
    λ from k below. subst (λ (n : ℕ). n < 256) (sym (get_or-run bs from 2 k below)) (are (from + k)) in
    let a = byte 0 (omega arith) in
    let b = byte 1 (omega arith) in
    let c = byte 2 (omega arith) in
    let d = byte 3 (omega arith) in
    let e = small 4 0 (omega arith) in
    let g = small 4 1 (omega arith) in
    let h = small 8 0 (omega arith) in
    let i = small 8 1 (omega arith) in
    let logical : from_le_bytes w32 (to_le_bytes w32 f.logical) ≡ f.logical =
    from_le_bytes-to_le_bytes_4 f.logical (omega (arith, a, b, c, d)) in
    let long : from_le_bytes w16 (to_le_bytes w16 f.length) ≡ f.length =
    from_le_bytes-to_le_bytes_2 f.length (omega (arith, e, g)) in
    let physical : from_le_bytes w16 (to_le_bytes w16 f.physical) ≡ f.physical =
    from_le_bytes-to_le_bytes_2 f.physical (omega (arith, h, i)) in
    let three : length f.reserved ≡ 3 =
    length-take-le 3 (drop 13 bs) (let left = length-drop 13 bs in omega (arith, left, size)) in
    let reserved : take 3 f.reserved ≡ f.reserved = take_all 3 f.reserved (omega (arith, three)) in
    rw (logical, long, physical, reserved) refl

fmmu_same : (t s : List ℕ) (i : ℕ) → length t ≡ MEMORY_SIZE → length s ≡ MEMORY_SIZE → AreBytes s → i < 8
    → HoldsFmmu t i (Some (fmmu_at s i)) → fmmu_at t i ≡ fmmu_at s i
unfolding fmmu_at
fmmu_same t s i size_t size_s are below holds =
    let at : ℕ = 1536 + 16 * i in
    let bs : List ℕ = take 16 (drop at s) in
    let long : length bs ≡ 16 = run_size s at 16 (omega (arith, size_s, below)) in
    let bytes : AreBytes bs =
    AreBytes-run bs s at 16 (omega (arith, long)) are (λ k few. get_or-run s at 16 k few) in
    let reserved : length (take 3 (drop 13 bs)) ≡ 3 =
    length-take-le 3 (drop 13 bs) (let left = length-drop 13 bs in omega (arith, left, long)) in
    let spelt : length (fmmu_bytes (fmmu_of bs)) ≡ 16 = omega (arith, reserved) in
    let there : length (take 16 (drop at t)) ≡ 16 = run_size t at 16 (omega (arith, size_t, below)) in
    let run : take 16 (drop at t) ≡ fmmu_bytes (fmmu_of bs) =
    ext_get_or 0 (take 16 (drop at t)) (fmmu_bytes (fmmu_of bs)) (there ∙ sym spelt)
    (λ k inside.
    get_or-run t at 16 k (omega (arith, inside, there)) ∙ holds k (omega (arith, inside, there, spelt))) in
    ap fmmu_of run ∙ spelt_back bs long bytes

-- ---- sync managers

-- the start of the one with a number by its bytes
start_is : (m : List ℕ) (i : ℕ) → (sync_manager_at m i).start
    ≡ get_or m (2048 + 8 * i + 0) 0 + 256 * get_or m (2048 + 8 * i + 1) 0
unfolding sync_manager_at
start_is m i =
    let bs : List ℕ = take 8 (drop (2048 + 8 * i) m) in
    let a : get_or (take 2 (drop 0 bs)) 0 0 ≡ get_or m (2048 + 8 * i + 0) 0 =
    get_or-run bs 0 2 0 (omega arith) ∙ get_or-run m (2048 + 8 * i) 8 0 (omega arith) in
    let b : get_or (take 2 (drop 0 bs)) 1 0 ≡ get_or m (2048 + 8 * i + 1) 0 =
    get_or-run bs 0 2 1 (omega arith) ∙ get_or-run m (2048 + 8 * i) 8 1 (omega arith) in
    let is : from_le_bytes w16 (take 2 (drop 0 bs))
    ≡ get_or m (2048 + 8 * i + 0) 0 + 256 * get_or m (2048 + 8 * i + 1) 0 = omega (arith, a, b) in
    is

-- its length
length_is : (m : List ℕ) (i : ℕ) → (sync_manager_at m i).length
    ≡ get_or m (2048 + 8 * i + 2) 0 + 256 * get_or m (2048 + 8 * i + 3) 0
unfolding sync_manager_at
length_is m i =
    let bs : List ℕ = take 8 (drop (2048 + 8 * i) m) in
    let a : get_or (take 2 (drop 2 bs)) 0 0 ≡ get_or m (2048 + 8 * i + 2) 0 =
    get_or-run bs 2 2 0 (omega arith) ∙ get_or-run m (2048 + 8 * i) 8 2 (omega arith) in
    let b : get_or (take 2 (drop 2 bs)) 1 0 ≡ get_or m (2048 + 8 * i + 3) 0 =
    get_or-run bs 2 2 1 (omega arith) ∙ get_or-run m (2048 + 8 * i) 8 3 (omega arith) in
    let is : from_le_bytes w16 (take 2 (drop 2 bs))
    ≡ get_or m (2048 + 8 * i + 2) 0 + 256 * get_or m (2048 + 8 * i + 3) 0 = omega (arith, a, b) in
    is

-- its control and its switch
control_is : (m : List ℕ) (i : ℕ) → (sync_manager_at m i).control ≡ get_or m (2048 + 8 * i + 4) 0
unfolding sync_manager_at
control_is m i = get_or-run m (2048 + 8 * i) 8 4 (omega arith)

switch_is : (m : List ℕ) (i : ℕ) → (sync_manager_at m i).activate ≡ get_or m (2048 + 8 * i + 6) 0
unfolding sync_manager_at
switch_is m i = get_or-run m (2048 + 8 * i) 8 6 (omega arith)

manager_same : (t s : List ℕ) (i : ℕ) → AreBytes s → HoldsManager t i (Some (sync_manager_at s i))
    → without_status (sync_manager_at t i) ≡ without_status (sync_manager_at s i)
manager_same t s i are holds =
    let m : SyncMan = sync_manager_at s i in
    let at : ℕ = 2048 + 8 * i in
    let a : get_or s (at + 0) 0 < 256 = are (at + 0) in
    let b : get_or s (at + 1) 0 < 256 = are (at + 1) in
    let c : get_or s (at + 2) 0 < 256 = are (at + 2) in
    let d : get_or s (at + 3) 0 < 256 = are (at + 3) in
    let first : get_or t (at + 0) 0 ≡ get_or (to_le_bytes w16 m.start) 0 0 = holds.0 0 (omega arith) in
    let second : get_or t (at + 1) 0 ≡ get_or (to_le_bytes w16 m.start) 1 0 = holds.0 1 (omega arith) in
    let third : get_or t (at + 2) 0 ≡ get_or (to_le_bytes w16 m.length) 0 0 = holds.0 2 (omega arith) in
    let fourth : get_or t (at + 3) 0 ≡ get_or (to_le_bytes w16 m.length) 1 0 = holds.0 3 (omega arith) in
    let fifth : get_or t (at + 4) 0 ≡ m.control = holds.0 4 (omega arith) in
    let switch : get_or t (at + 6 + 0) 0 ≡ m.activate = holds.1 0 (omega arith) in
    let same_place : at + 6 ≡ at + 6 + 0 = omega arith in
    let start : (sync_manager_at t i).start ≡ m.start =
    omega (arith, start_is t i, start_is s i, first, second, a, b) in
    let long : (sync_manager_at t i).length ≡ m.length =
    omega (arith, length_is t i, length_is s i, third, fourth, c, d) in
    let control : (sync_manager_at t i).control ≡ m.control = control_is t i ∙ fifth in
    let active : (sync_manager_at t i).activate ≡ m.activate =
    switch_is t i ∙ ap (λ (n : ℕ). get_or t n 0) same_place ∙ switch in
    λ j. record {
      start = start j;
      length = long j;
      control = control j;
      status = 0;
      activate = active j;
      pdi = 0;
    }

-- ---- a controller

-- what stands in a controller of what is wanted of a slave, that was read off another
pub record StandsFor (wanted : Wanted) (t s : ControllerState) : Type 0 where
  pub station : wanted.station ≡ word_at s.memory STATION_ADDRESS
  pub managers : wanted.managers ≡ sync_managers_of s.memory
  pub fmmus : wanted.fmmus ≡ fmmus_of s.memory
  pub addressed : word_at t.memory STATION_ADDRESS ≡ wanted.station
  pub requests : HoldsSet wanted t.memory (SyncManager 0)
  pub answers : HoldsSet wanted t.memory (SyncManager 1)
  pub records : AllByRecursion (HoldsSet wanted t.memory) (steps_of SafeOp)

-- the registers of each sync manager
unfoldable HoldManagers : List ℕ → List SyncMan → Type 0
HoldManagers t managers =
    HoldsManager t 0 (slice_get managers 0) × HoldsManager t 1 (slice_get managers 1)
    × HoldsManager t 2 (slice_get managers 2) × HoldsManager t 3 (slice_get managers 3)
    × HoldsManager t 4 (slice_get managers 4) × HoldsManager t 5 (slice_get managers 5)
    × HoldsManager t 6 (slice_get managers 6) × HoldsManager t 7 (slice_get managers 7)

managers_mapped : (t s : List ℕ) → AreBytes s → HoldManagers t (sync_managers_of s)
    → map without_status (sync_managers_of t) ≡ map without_status (sync_managers_of s)
unfolding HoldManagers sync_managers_of
managers_mapped t s are holds =
    let a = manager_same t s 0 are holds.0 in
    let b = manager_same t s 1 are holds.1 in
    let c = manager_same t s 2 are holds.2 in
    let d = manager_same t s 3 are holds.3 in
    let f = manager_same t s 4 are holds.4 in
    let g = manager_same t s 5 are holds.5 in
    let h = manager_same t s 6 are holds.6 in
    let k = manager_same t s 7 are holds.7 in
    λ j. a j ∷ b j ∷ c j ∷ d j ∷ f j ∷ g j ∷ h j ∷ k j ∷ []

-- and of each FMMU
unfoldable HoldFmmus : List ℕ → List Fmmu → Type 0
HoldFmmus t fmmus =
    HoldsFmmu t 0 (slice_get fmmus 0) × HoldsFmmu t 1 (slice_get fmmus 1)
    × HoldsFmmu t 2 (slice_get fmmus 2) × HoldsFmmu t 3 (slice_get fmmus 3)
    × HoldsFmmu t 4 (slice_get fmmus 4) × HoldsFmmu t 5 (slice_get fmmus 5)
    × HoldsFmmu t 6 (slice_get fmmus 6) × HoldsFmmu t 7 (slice_get fmmus 7)

fmmus_mapped : (t s : List ℕ) → length t ≡ MEMORY_SIZE → length s ≡ MEMORY_SIZE → AreBytes s
    → HoldFmmus t (fmmus_of s) → fmmus_of t ≡ fmmus_of s
unfolding HoldFmmus fmmus_of
fmmus_mapped t s size_t size_s are holds =
    let a = fmmu_same t s 0 size_t size_s are (omega arith) holds.0 in
    let b = fmmu_same t s 1 size_t size_s are (omega arith) holds.1 in
    let c = fmmu_same t s 2 size_t size_s are (omega arith) holds.2 in
    let d = fmmu_same t s 3 size_t size_s are (omega arith) holds.3 in
    let f = fmmu_same t s 4 size_t size_s are (omega arith) holds.4 in
    let g = fmmu_same t s 5 size_t size_s are (omega arith) holds.5 in
    let h = fmmu_same t s 6 size_t size_s are (omega arith) holds.6 in
    let k = fmmu_same t s 7 size_t size_s are (omega arith) holds.7 in
    λ j. a j ∷ b j ∷ c j ∷ d j ∷ f j ∷ g j ∷ h j ∷ k j ∷ []

all_managers : (wanted : Wanted) (t s : ControllerState) → StandsFor wanted t s
    → HoldManagers t.memory wanted.managers
unfolding HoldManagers
all_managers wanted t s stands =
    let two = stands.records in
    let three = two.1 in
    let four = three.1 in
    let five = four.1 in
    let six = five.1 in
    let seven = six.1 in
    (stands.requests, stands.answers, two.0, three.0, four.0, five.0, six.0, seven.0)

all_fmmus : (wanted : Wanted) (t s : ControllerState) → StandsFor wanted t s
    → HoldFmmus t.memory wanted.fmmus
unfolding HoldFmmus
all_fmmus wanted t s stands =
    let zeroth = stands.records.1.1.1.1.1.1 in
    let first = zeroth.1 in
    let second = first.1 in
    let third = second.1 in
    let fourth = third.1 in
    let fifth = fourth.1 in
    let sixth = fifth.1 in
    let seventh = sixth.1 in
    (zeroth.0, first.0, second.0, third.0, fourth.0, fifth.0, sixth.0, seventh.0)

-- it is mapped as the one that this was read off
pub mapped : (wanted : Wanted) (t s : ControllerState) → IsController t → IsController s
    → StandsFor wanted t s → mapping_of t ≡ mapping_of s
unfolding mapping_of
mapped wanted t s controller read_off stands =
    let managers : map without_status (sync_managers_of t.memory)
    ≡ map without_status (sync_managers_of s.memory) =
    managers_mapped t.memory s.memory read_off.memory
    (subst (λ (ms : List SyncMan). HoldManagers t.memory ms) stands.managers
    (all_managers wanted t s stands)) in
    let fmmus : fmmus_of t.memory ≡ fmmus_of s.memory =
    fmmus_mapped t.memory s.memory controller.memory_size read_off.memory_size read_off.memory
    (subst (λ (fs : List Fmmu). HoldFmmus t.memory fs) stands.fmmus (all_fmmus wanted t s stands)) in
    let station : word_at t.memory STATION_ADDRESS ≡ word_at s.memory STATION_ADDRESS =
    stands.addressed ∙ stands.station in
    λ j. record { station = station j; fmmus = fmmus j; sync_managers = managers j }
