-- The records that a list holds by number, the bytes of a sync manager that take writes, and addresses one
-- by one.
use Rattle.std.proofs.Common.{◌≡◌, ℕ, zero, suc, ◌+◌, ◌-◌, ◌/◌, ◌%◌, ◌<◌, Bool, true, false, ◌&&◌, ◌||◌}
use Rattle.std.proofs.Common.{eqb, ltb, List, [], ◌∷◌, ◌++◌, length, get_or, map-id, sym, ◌∙◌, ap, refl}
use Rattle.std.proofs.Common.{arith}
use Rattle.std.specs.Prelude.{not}
use Rattle.std.specs.List.{list_any, range_with_len}
use Rattle.std.proofs.Math.Bool.{or-false}
use Rattle.std.proofs.lemmas.Bool.Decides.{nat_tests}
use Rattle.std.proofs.lemmas.List.Folds.{list_any-append, list_any_at}
use Rattle.std.proofs.lemmas.List.FromFn.{length-range_with_len, get_or-range_with_len}
use Rattle.std.proofs.lemmas.List.FromFn.{map-range_with_len_more}
use Rattle.ec_regs.specs.declared.registers.TheConstants.{FMMU_COUNT, SYNC_MANAGER_COUNT}
use Rattle.ec_regs.specs.declared.fmmu.Fmmu.{Fmmu}
use Rattle.ec_regs.specs.declared.sync_man.SyncMan.{SyncMan}
use Rattle.ec_regs.specs.SyncMan.{is_active}
use Rattle.ec_areas.specs.Records.{sync_manager_at, sync_managers_of, fmmu_at, fmmus_of}
use Rattle.ec_areas.specs.Ranges.{is_in_sync_manager, is_writable_field, some_address}

-- ---- records by number

-- the sync manager with a number is the element there
pub get_or-sync_managers_of : (memory : List ℕ) (d : SyncMan) (i : ℕ) → i < SYNC_MANAGER_COUNT
    → get_or (sync_managers_of memory) i d ≡ sync_manager_at memory i
unfolding sync_managers_of
get_or-sync_managers_of memory d zero below = refl
get_or-sync_managers_of memory d (suc zero) below = refl
get_or-sync_managers_of memory d (suc (suc zero)) below = refl
get_or-sync_managers_of memory d (suc (suc (suc zero))) below = refl
get_or-sync_managers_of memory d (suc (suc (suc (suc zero)))) below = refl
get_or-sync_managers_of memory d (suc (suc (suc (suc (suc zero))))) below = refl
get_or-sync_managers_of memory d (suc (suc (suc (suc (suc (suc zero)))))) below = refl
get_or-sync_managers_of memory d (suc (suc (suc (suc (suc (suc (suc zero))))))) below = refl
get_or-sync_managers_of memory d (suc (suc (suc (suc (suc (suc (suc (suc i)))))))) below =
    absurd (omega arith)

-- FMMU number i is the one that stands at its place
pub get_or-fmmus_of : (memory : List ℕ) (d : Fmmu) (i : ℕ) → i < FMMU_COUNT
    → get_or (fmmus_of memory) i d ≡ fmmu_at memory i
unfolding fmmus_of
get_or-fmmus_of memory d zero below = refl
get_or-fmmus_of memory d (suc zero) below = refl
get_or-fmmus_of memory d (suc (suc zero)) below = refl
get_or-fmmus_of memory d (suc (suc (suc zero))) below = refl
get_or-fmmus_of memory d (suc (suc (suc (suc zero)))) below = refl
get_or-fmmus_of memory d (suc (suc (suc (suc (suc zero))))) below = refl
get_or-fmmus_of memory d (suc (suc (suc (suc (suc (suc zero)))))) below = refl
get_or-fmmus_of memory d (suc (suc (suc (suc (suc (suc (suc zero))))))) below = refl
get_or-fmmus_of memory d (suc (suc (suc (suc (suc (suc (suc (suc i)))))))) below = absurd (omega arith)

-- ---- a sync manager's bytes

-- a byte before its status takes writes where it is not active
pub takes_before_status : (memory : List ℕ) (managers : List SyncMan) (d : SyncMan) (address : ℕ)
    (active : Bool)
    → managers ≡ sync_managers_of memory → is_in_sync_manager address ≡ true → (address - 2048) / 8 < SYNC_MANAGER_COUNT
    → (address - 2048) % 8 < 5
    → active ≡ is_active (get_or managers ((address - 2048) / 8) d)
    → not active ≡ (is_in_sync_manager address && is_writable_field memory address)
takes_before_status memory managers d address active managers_are inside number before active_is =
    let other : eqb ((address - 2048) % 8) 6 ≡ false = grind (arith, nat_tests) in
    let here : ltb ((address - 2048) % 8) 5 ≡ true = grind (arith, nat_tests) in
    let record_is : get_or managers ((address - 2048) / 8) d ≡ sync_manager_at memory ((address - 2048) / 8) =
    ap (λ (ms : List SyncMan). get_or ms ((address - 2048) / 8) d) managers_are
    ∙ get_or-sync_managers_of memory d ((address - 2048) / 8) number in
    rw (inside, other, here) (ap not (active_is ∙ ap is_active record_is))

-- ---- some address of a range

-- n + 1 addresses are n and the next one
range_more : (from n : ℕ) → range_with_len from (n + 1) ≡ range_with_len from n ++ (from + n) ∷ []
range_more from n =
    sym (map-id (range_with_len from (n + 1)))
    ∙ map-range_with_len_more (λ i. i) from n (from + n) refl
    ∙ ap (λ (xs : List ℕ). xs ++ (from + n) ∷ []) (map-id (range_with_len from n))

-- none of no addresses
pub some_address_none : (test : ℕ → Bool) (from : ℕ) → some_address test from 0 ≡ false
unfolding some_address
some_address_none test from = refl

-- one address more
pub some_address_more : (test : ℕ → Bool) (from n : ℕ) → some_address test from (n + 1)
    ≡ (some_address test from n || test (from + n))
unfolding some_address
some_address_more test from n =
    ap (list_any test) (range_more from n)
    ∙ list_any-append test (range_with_len from n) ((from + n) ∷ [])
    ∙ ap (λ b. list_any test (range_with_len from n) || b) (or-false (test (from + n)))

-- one that passes settles it
pub some_address_at : (test : ℕ → Bool) (from n i : ℕ) → i < n → test (from + i) ≡ true
    → some_address test from n ≡ true
unfolding some_address
some_address_at test from n i below passes =
    let inside : i < length (range_with_len from n) = rw (length-range_with_len from n) below in
    list_any_at test (range_with_len from n) i 0 inside (ap test
    (get_or-range_with_len from n i 0 below) ∙ passes)
