-- The records in the memory of the controller that has them.
use Rattle.std.proofs.Common.{◌≡◌, ℕ, zero, suc, ◌<◌, ◌≤◌, ◌+◌, ◌*◌, ◌-◌, ◌/◌, ◌%◌, List, ◌∷◌, ◌++◌}
use Rattle.std.proofs.Common.{length, take, drop, get_or, refl, sym, ap, ◌∙◌, arith, subst, ⊎_elim}
use Rattle.std.specs.Prelude.{replicate}
use Rattle.std.proofs.lemmas.Bool.{cases_lt}
use Rattle.std.proofs.lemmas.List.{append_assoc, drop-append-le, take-append-le, length-append, length-drop}
use Rattle.std.proofs.lemmas.List.{length-replicate, get_or-append-add, get_or_append_left, get_or_past}
use Rattle.std.proofs.lemmas.List.{get_or-append_right, get_or-replicate}
use Rattle.std.proofs.Math.Seq.{drop-append-add}
use Rattle.ec_regs.specs.Bits.{AreBytes}
use Rattle.ec_regs.specs.Fmmu.{fmmu_of}
use Rattle.ec_regs.specs.SyncMan.{sync_man_of}
use Rattle.ec_regs.specs.declared.registers.TheConstants.{STATION_ADDRESS, FMMU_BASE}
use Rattle.ec_regs.specs.declared.registers.TheConstants.{FMMU_COUNT, FMMU_SIZE}
use Rattle.ec_regs.specs.declared.registers.TheConstants.{SYNC_MANAGER_COUNT, SYNC_MANAGER_SIZE}
use Rattle.ec_areas.specs.Records.{fmmu_at, sync_manager_at}
use Rattle.ec_esc.specs.State.{IsController, word_at}
use Rattle.ec_check.specs.Records.{station_bytes, memory_of, controller_with}
use Rattle.ec_check.specs.declared.records.Records.{Records}
use Rattle.ec_check.specs.declared.records.TheConstants.{FMMU_BYTES, SYNC_MANAGER_BYTES}

-- ---- one part of a list between two others

-- a run of the middle part is a run of the whole, so many elements further on
pub run_of_middle : (front middle back : List ℕ) (base from count : ℕ) → length front ≡ base
    → from + count ≤ length middle
    → take count (drop (base + from) (front ++ (middle ++ back))) ≡ take count (drop from middle)
run_of_middle front middle back base from count size inside =
    subst (λ n. take count (drop (n + from) (front ++ (middle ++ back))) ≡ take count (drop from middle)) size
    (ap (take count) (drop-append-add front (middle ++ back) from)
    ∙ ap (take count) (drop-append-le from middle back (omega (arith, inside)))
    ∙ take-append-le count (drop from middle) back (omega (arith, inside, length-drop from middle)))

-- ---- bytes

-- two lists of bytes one behind the other are bytes
are_append : (xs ys : List ℕ) → AreBytes xs → AreBytes ys → AreBytes (xs ++ ys)
are_append xs ys before behind k =
    let Small : ℕ → Type 0 = λ n. n < 256 in
    ⊎_elim
    (λ (inside : k < length xs). subst Small (sym (get_or_append_left xs ys 0 k inside)) (before k))
    (λ (past : length xs ≤ k).
    subst Small (sym (get_or-append_right xs ys (length xs) k 0 refl past)) (behind (k - length xs)))
    (cases_lt k (length xs))

-- and so is a byte before them
are_more : (x : ℕ) (xs : List ℕ) → x < 256 → AreBytes xs → AreBytes (x ∷ xs)
are_more x xs small are zero = small
are_more x xs small are (suc k) = are k

-- there are as many zeros as are asked for
zeros_size : (n : ℕ) → length (replicate {A = ℕ} n 0) ≡ n
zeros_size n = length-replicate {A = ℕ} n 0

-- zeros are bytes
are_zeros : (n : ℕ) → AreBytes (replicate n 0)
are_zeros n k =
    let Small : ℕ → Type 0 = λ n. n < 256 in
    ⊎_elim
    (λ (inside : k < n). subst Small (sym (get_or-replicate n k 0 0 inside)) (omega arith))
    (λ (past : n ≤ k).
    subst Small (sym (get_or_past (replicate n 0) k 0 (omega (arith, past, zeros_size n)))) (omega arith))
    (cases_lt k n)

-- ---- the memory

-- the bytes below the FMMUs end where these begin
below_size : (station : ℕ) → length (station_bytes station) ≡ FMMU_BASE
below_size station =
    length-append (replicate 16 0) (station % 256 ∷ station / 256 ∷ replicate 1518 0)
    ∙ omega (arith, zeros_size 16, zeros_size 1518)

below_bytes : (station : ℕ) → station < 65536 → AreBytes (station_bytes station)
below_bytes station small =
    are_append (replicate 16 0) (station % 256 ∷ station / 256 ∷ replicate 1518 0) (are_zeros 16)
    (are_more (station % 256) (station / 256 ∷ replicate 1518 0) (omega arith)
    (are_more (station / 256) (replicate 1518 0) (omega (arith, small)) (are_zeros 1518)))

-- records of their sizes, whose elements are bytes, are those of a controller
pub IsController-records : (r : Records) → r.station < 65536 → length r.fmmus ≡ FMMU_BYTES → AreBytes r.fmmus
    → length r.sync_managers ≡ SYNC_MANAGER_BYTES → AreBytes r.sync_managers
    → IsController (controller_with r)
unfolding memory_of
IsController-records r small fmmus_size fmmus managers_size managers =
    let below = station_bytes r.station in
    let gap : List ℕ = replicate 384 0 in
    let behind : List ℕ = replicate 10176 0 in
    record {
      memory_size = omega (
        arith,
        length-append below (r.fmmus ++ (gap ++ (r.sync_managers ++ behind))),
        length-append r.fmmus (gap ++ (r.sync_managers ++ behind)),
        length-append gap (r.sync_managers ++ behind),
        length-append r.sync_managers behind,
        below_size r.station,
        fmmus_size,
        managers_size,
        zeros_size 384,
        zeros_size 10176,
      );
      memory =
          are_append below (r.fmmus ++ (gap ++ (r.sync_managers ++ behind))) (below_bytes r.station small)
          (are_append r.fmmus (gap ++ (r.sync_managers ++ behind)) fmmus
          (are_append gap (r.sync_managers ++ behind) (are_zeros 384)
          (are_append r.sync_managers behind managers (are_zeros 10176))));
      shown_size = zeros_size 8192;
      shown = are_zeros 8192;
    }

-- the station address stands in the memory
pub station-records : (r : Records) → word_at (memory_of r) STATION_ADDRESS ≡ r.station
unfolding memory_of
station-records r =
    let tail : List ℕ = r.station % 256 ∷ r.station / 256 ∷ replicate 1518 0 in
    let rest : List ℕ = r.fmmus ++ (replicate 384 0 ++ (r.sync_managers ++ replicate 10176 0)) in
    let low : get_or (station_bytes r.station ++ rest) 16 0 ≡ r.station % 256 =
    get_or_append_left (station_bytes r.station) rest 0 16 (omega (arith, below_size r.station))
    ∙ get_or-append-add (replicate 16 0) tail 0 0 in
    let high : get_or (station_bytes r.station ++ rest) 17 0 ≡ r.station / 256 =
    get_or_append_left (station_bytes r.station) rest 0 17 (omega (arith, below_size r.station))
    ∙ get_or-append-add (replicate 16 0) tail 1 0 in
    omega (arith, low, high)

-- an FMMU's record stands in the memory
pub fmmu-records : (r : Records) (i : ℕ) → i < FMMU_COUNT → length r.fmmus ≡ FMMU_BYTES
    → fmmu_at (memory_of r) i ≡ fmmu_of (take FMMU_SIZE (drop (FMMU_SIZE * i) r.fmmus))
unfolding memory_of fmmu_at
fmmu-records r i there size =
    ap fmmu_of
    (run_of_middle (station_bytes r.station) r.fmmus
    (replicate 384 0 ++ (r.sync_managers ++ replicate 10176 0)) 1536 (16 * i) 16 (below_size r.station)
    (omega (arith, there, size)))

-- a sync manager's record stands in the memory
pub sync_manager-records : (r : Records) (i : ℕ) → i < SYNC_MANAGER_COUNT → length r.fmmus ≡ FMMU_BYTES
    → length r.sync_managers ≡ SYNC_MANAGER_BYTES
    → sync_manager_at (memory_of r) i
    ≡ sync_man_of (take SYNC_MANAGER_SIZE (drop (SYNC_MANAGER_SIZE * i) r.sync_managers))
unfolding memory_of sync_manager_at
sync_manager-records r i there fmmus_size size =
    let below = station_bytes r.station in
    let gap : List ℕ = replicate 384 0 in
    let behind : List ℕ = r.sync_managers ++ replicate 10176 0 in
    let front : List ℕ = below ++ (r.fmmus ++ gap) in
    let joined : below ++ (r.fmmus ++ (gap ++ behind)) ≡ front ++ behind =
    ap (λ (xs : List ℕ). below ++ xs) (sym (append_assoc r.fmmus gap behind))
    ∙ sym (append_assoc below (r.fmmus ++ gap) behind) in
    let front_size : length front ≡ 2048 = omega (
      arith,
      length-append below (r.fmmus ++ gap),
      length-append r.fmmus gap,
      below_size r.station,
      fmmus_size,
      zeros_size 384,
    ) in
    ap sync_man_of
    (ap (λ (xs : List ℕ). take 8 (drop (2048 + 8 * i) xs)) joined
    ∙ run_of_middle front r.sync_managers (replicate 10176 0) 2048 (8 * i) 8 front_size
    (omega (arith, there, size)))
