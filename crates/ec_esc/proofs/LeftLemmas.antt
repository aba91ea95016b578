-- What stays of a memory in which a run of bytes is replaced, and a controller that puts inputs stays one.
use Rattle.std.proofs.Common.{◌≡◌, ◌⊎◌, ⊎_elim, inl, inr, refl, ℕ, ◌+◌, ◌-◌, ◌<◌, ◌≤◌, Bool, true, false}
use Rattle.std.proofs.Common.{◌&&◌, ◌||◌, eqb, leb, cond, List}
use Rattle.std.proofs.Common.{length, get_or, None, Some, ◌∙◌, ap, subst, sym, arith}
use Rattle.std.specs.Prelude.{not}
use Rattle.std.proofs.lemmas.Bool.{cases_lt, eqb-true, and_parts, cases_Bool}
use Rattle.std.proofs.lemmas.Bool.Decides.{nat_tests}
use Rattle.ec_regs.specs.AddressRange.{lies_within}
use Rattle.ec_regs.specs.Bits.{AreBytes}
use Rattle.ec_regs.specs.SyncMan.{is_active, is_buffered, master_reads}
use Rattle.ec_regs.specs.declared.registers.TheConstants.{PROCESS_MEMORY, MEMORY_SIZE}
use Rattle.ec_regs.specs.declared.sync_man.SyncMan.{SyncMan}
use Rattle.ec_areas.specs.Records.{sync_manager_at}
use Rattle.ec_areas.proofs.Laws.{active_place}
use Rattle.ec_esc.specs.Application.{put_inputs_fault, with_inputs, are_told, with_registers}
use Rattle.ec_esc.specs.State.{ControllerState, IsController, with_run}
use Rattle.ec_esc.specs.declared.application.AreaFault.{AreaFault}
use Rattle.ec_esc.proofs.ApplicationLemmas.{length-with_run, get_or-with_run_before, get_or-with_run_inside}
use Rattle.ec_esc.proofs.ApplicationLemmas.{get_or-with_run_behind}

-- ---- a run of a list replaced

-- the elements beside the run stay
pub get_or-with_run_beside : (xs ys : List ℕ) (at k : ℕ) → at + length ys ≤ length xs
    → (k < at) ⊎ (at + length ys ≤ k) → get_or (with_run xs at ys) k 0 ≡ get_or xs k 0
get_or-with_run_beside xs ys at k inside beside =
    ⊎_elim
    (λ (before : k < at). get_or-with_run_before xs ys at k before (omega arith))
    (λ (behind : at + length ys ≤ k). get_or-with_run_behind xs ys at k behind inside)
    beside

-- where those of both lists are bytes, all are
pub AreBytes-with_run : (xs ys : List ℕ) (at : ℕ) → at + length ys ≤ length xs → AreBytes xs → AreBytes ys
    → AreBytes (with_run xs at ys)
AreBytes-with_run xs ys at inside are new k =
    let Small : ℕ → Type 0 = λ n. n < 256 in
    ⊎_elim
    (λ (before : k < at).
    subst Small (sym (get_or-with_run_beside xs ys at k inside (inl before))) (are k))
    (λ (from : at ≤ k).
    ⊎_elim
    (λ (within : k < at + length ys).
    let place : at + (k - at) ≡ k = omega arith in
    let value : get_or (with_run xs at ys) k 0 ≡ get_or ys (k - at) 0 =
    ap (λ (j : ℕ). get_or (with_run xs at ys) j 0) (sym place)
    ∙ get_or-with_run_inside xs ys at (k - at) (omega arith) (omega arith) in
    subst Small (sym value) (new (k - at)))
    (λ (behind : at + length ys ≤ k).
    subst Small (sym (get_or-with_run_beside xs ys at k inside (inr behind))) (are k))
    (cases_lt k (at + length ys)))
    (cases_lt k at)

-- ---- inputs

-- where the tests of inputs find no fault, the area is active and as long as the inputs
tests_passed : (active kind fits : Bool) (a b c : AreaFault)
    → cond (not active) (Some a) (cond (not kind) (Some b) (cond (not fits) (Some c) None)) ≡ None
    → (active ≡ true) × (fits ≡ true)
tests_passed true true true a b c none = (refl, refl)
tests_passed true true false a b c none = absurd (cc)
tests_passed true false fits a b c none = absurd (cc)
tests_passed false kind fits a b c none = absurd (cc)

-- so the inputs lie in process memory
pub inputs_place : (s : SyncMan) (bytes : List ℕ) → put_inputs_fault s bytes ≡ None
    → (PROCESS_MEMORY ≤ s.start) × (s.start + length bytes ≤ MEMORY_SIZE)
inputs_place s bytes none =
    let passed = tests_passed (is_active s) (is_buffered s && master_reads s) (eqb (length bytes) s.length) _ _ _
    none in
    let place = active_place s passed.0 in
    let size : length bytes ≡ s.length = eqb-true (length bytes) s.length passed.1 in
    (place.0, omega (arith, place.1, size))

-- and the controller stays one
pub inputs_controller : (c : ControllerState) (i : ℕ) (bytes : List ℕ) → IsController c → AreBytes bytes
    → put_inputs_fault (sync_manager_at c.memory i) bytes ≡ None → IsController (with_inputs c i bytes)
inputs_controller c i bytes is are none =
    let at : ℕ = (sync_manager_at c.memory i).start in
    let place = inputs_place (sync_manager_at c.memory i) bytes none in
    let inside : at + length bytes ≤ length c.memory = omega (arith, place.1, is.memory_size) in
    record {
      memory_size = length-with_run c.memory bytes at inside ∙ is.memory_size;
      memory = AreBytes-with_run c.memory bytes at inside is.memory are;
      shown_size = is.shown_size;
      shown = is.shown;
    }

-- ---- registers that are told

-- a range that lies within another one has its ends
lies_ends : (first count from n : ℕ) → lies_within first count from n ≡ true
    → (first ≤ from) × (from + n ≤ first + count)
lies_ends first count from n lies =
    let ends = and_parts (leb first from) (leb (from + n) (first + count)) lies in
    let low : leb first from ≡ true = ends.0 in
    let high : leb (from + n) (first + count) ≡ true = ends.1 in
    (grind (arith, nat_tests), grind (arith, nat_tests))

one_of_four : (a b c d : Bool) → (a || (b || (c || (d || false)))) ≡ true
    → (a ≡ true) ⊎ ((b ≡ true) ⊎ ((c ≡ true) ⊎ (d ≡ true)))
one_of_four true b c d one = inl refl
one_of_four false true c d one = inr (inl refl)
one_of_four false false true d one = inr (inr (inl refl))
one_of_four false false false true one = inr (inr (inr refl))
one_of_four false false false false one = absurd (cc)

-- they lie before the station address, or between DL status and what is behind the slave information interface
pub told_place : (from n : ℕ) → are_told from n ≡ true
    → (from + n ≤ 10) ⊎ ((272 ≤ from) × (from + n ≤ 1296))
told_place from n told =
    ⊎_elim
    (λ (a : lies_within 0 10 from n ≡ true). inl (lies_ends 0 10 from n a).1)
    (λ (rest : (lies_within 272 2 from n ≡ true)
    ⊎ ((lies_within 768 20 from n ≡ true) ⊎ (lies_within 1280 16 from n ≡ true))).
    ⊎_elim
    (λ (b : lies_within 272 2 from n ≡ true).
    let ends = lies_ends 272 2 from n b in inr (ends.0, omega (arith, ends.1)))
    (λ (more : (lies_within 768 20 from n ≡ true) ⊎ (lies_within 1280 16 from n ≡ true)).
    ⊎_elim
    (λ (d : lies_within 768 20 from n ≡ true).
    let ends = lies_ends 768 20 from n d in inr (omega (arith, ends.0), omega (arith, ends.1)))
    (λ (e : lies_within 1280 16 from n ≡ true).
    let ends = lies_ends 1280 16 from n e in inr (omega (arith, ends.0), ends.1))
    more)
    rest)
    (one_of_four (lies_within 0 10 from n) (lies_within 272 2 from n) (lies_within 768 20 from n)
    (lies_within 1280 16 from n) told)

-- a controller that tells them stays one
pub registers_controller : (c : ControllerState) (from : ℕ) (bytes : List ℕ) → IsController c → AreBytes bytes
    → are_told from (length bytes) ≡ true → IsController (with_registers c from bytes)
registers_controller c from bytes is are told =
    let inside : from + length bytes ≤ length c.memory =
    ⊎_elim
    (λ (a : from + length bytes ≤ 10). omega (arith, is.memory_size))
    (λ (b : (272 ≤ from) × (from + length bytes ≤ 1296)). omega (arith, is.memory_size, b.1))
    (told_place from (length bytes) told) in
    record {
      memory_size = length-with_run c.memory bytes from inside ∙ is.memory_size;
      memory = AreBytes-with_run c.memory bytes from inside is.memory are;
      shown_size = is.shown_size;
      shown = is.shown;
    }
