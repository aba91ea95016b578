-- The status bytes of sync managers that a write switched on or off are cleared one after the other.
use Rattle.std.proofs.Common.{◌≡◌, ◌≢◌, ℕ, ◌+◌, ◌<◌, Bool, true, false, ◌&&◌, leb, ltb, eqb, cond, List}
use Rattle.std.proofs.Common.{length, get_or, set, sym, ◌∙◌, ap, refl, arith, ⊎_elim, get_or-set_same}
use Rattle.std.proofs.Common.{get_or-set_other}
use Rattle.std.proofs.Math.Bool.{and-false}
use Rattle.std.proofs.lemmas.Bool.{and_parts, cases_eq, cases_Bool}
use Rattle.std.proofs.lemmas.Bool.Decides.{nat_tests}
use Rattle.std.proofs.lemmas.List.{ext_get_or}
use Rattle.std.proofs.lemmas.List.FromFn.{length-map-range_with_len, get_or-map-range_with_len}
use Rattle.std.specs.Prelude.{not}
use Rattle.ec_regs.specs.declared.registers.TheConstants.{SYNC_MANAGER_COUNT}
use Rattle.ec_regs.specs.declared.sync_man.SyncMan.{SyncMan}
use Rattle.ec_regs.specs.SyncMan.{is_active}
use Rattle.ec_areas.specs.Records.{sync_manager_at, sync_managers_of}
use Rattle.ec_areas.specs.Ranges.{is_in_sync_manager, sync_manager_number, sync_manager_offset}
use Rattle.ec_esc.specs.Writing.{is_switched, settled_byte, settled}
use Rattle.ec_regs.specs.SyncMan.{status_address}
use Rattle.ec_areas.proofs.Laws.{get_or-sync_managers_of}

-- is the byte at an address a status byte
abbrev pub is_status : ℕ → Bool
is_status a = is_in_sync_manager a && eqb (sync_manager_offset a) 5

-- the byte at an address once the first n sync managers are settled
abbrev pub settled_to : List ℕ → List ℕ → ℕ → ℕ → ℕ
settled_to before after n a =
    cond ((is_status a && is_switched before after (sync_manager_number a)) && ltb
    (sync_manager_number a) n) 0 (get_or after a 0)

-- what is so and true is so
pub and_true : (b : Bool) → (b && true) ≡ b
and_true true = refl
and_true false = refl

-- none is settled yet
pub settled_none : (before after : List ℕ) (a : ℕ) → get_or after a 0 ≡ settled_to before after 0 a
settled_none before after a =
    let none : ltb (sync_manager_number a) 0 ≡ false = grind (arith, nat_tests) in
    rw (none, and-false (is_status a && is_switched before after (sync_manager_number a))) refl

-- a status byte is that of the sync manager with its number
status_is : (a : ℕ) → is_status a ≡ true → a ≡ status_address (sync_manager_number a)
status_is a status =
    let parts = and_parts (is_in_sync_manager a) (eqb (sync_manager_offset a) 5) status in
    let inside = and_parts (leb 2048 a) (ltb a 2112) parts.0 in
    let low : leb 2048 a ≡ true = inside.0 in
    let offset : eqb (sync_manager_offset a) 5 ≡ true = parts.1 in
    grind (arith, nat_tests)

-- the status byte of a sync manager is one
status_of : (n : ℕ) → n < SYNC_MANAGER_COUNT → is_status (status_address n) ≡ true
status_of n below =
    let low : leb 2048 (status_address n) ≡ true = grind (arith, nat_tests) in
    let high : ltb (status_address n) 2112 ≡ true = grind (arith, nat_tests) in
    let offset : eqb (sync_manager_offset (status_address n)) 5 ≡ true = grind (arith, nat_tests) in
    rw (low, high, offset) refl

-- one sync manager more changes its own status byte alone
settled_other : (before after : List ℕ) (n a : ℕ) → a ≢ status_address n → settled_to before after n a
    ≡ settled_to before after (n + 1) a
settled_other before after n a other =
    ⊎_elim
    (λ (status : is_status a ≡ true).
    let place : a ≡ status_address (sync_manager_number a) = status_is a status in
    let apart : sync_manager_number a ≢ n = λ e. other (place ∙ ap (λ (i : ℕ). status_address i) e) in
    let same : ltb (sync_manager_number a) n ≡ ltb (sync_manager_number a) (n + 1) =
    grind (arith, nat_tests) in
    rw same refl)
    (λ (plain : is_status a ≡ false). rw plain refl)
    (cases_Bool (is_status a))

-- one more that was switched
pub settled_more : (before after now : List ℕ) (n : ℕ) → n < SYNC_MANAGER_COUNT → status_address n < length now
    → is_switched before after n ≡ true → ((a : ℕ) → get_or now a 0 ≡ settled_to before after n a)
    → (a : ℕ) → get_or (set now (status_address n) 0) a 0 ≡ settled_to before after (n + 1) a
settled_more before after now n below inside switched so_far a =
    ⊎_elim
    (λ (here : a ≡ status_address n).
    let number : sync_manager_number (status_address n) ≡ n = omega arith in
    let next : ltb n (n + 1) ≡ true = grind (arith, nat_tests) in
    rw here (get_or-set_same now (status_address n) 0 0 inside
    ∙ rw (status_of n below, number, switched, next) refl))
    (λ (other : a ≢ status_address n).
    get_or-set_other now (status_address n) a 0 0 other ∙ so_far a ∙ settled_other before after n a other)
    (cases_eq a (status_address n))

-- one more that was not
pub settled_skip : (before after now : List ℕ) (n : ℕ) → n < SYNC_MANAGER_COUNT
    → is_switched before after n ≡ false → ((a : ℕ) → get_or now a 0 ≡ settled_to before after n a)
    → (a : ℕ) → get_or now a 0 ≡ settled_to before after (n + 1) a
settled_skip before after now n below kept so_far a =
    ⊎_elim
    (λ (here : a ≡ status_address n).
    let number : sync_manager_number (status_address n) ≡ n = omega arith in
    rw here (so_far (status_address n) ∙ rw (status_of n below, number, kept) refl))
    (λ (other : a ≢ status_address n). so_far a ∙ settled_other before after n a other)
    (cases_eq a (status_address n))

-- all eight are settled: the byte is as it is once all are
settled_to_all : (before after : List ℕ) (a : ℕ) → settled_to before after 8 a ≡ settled_byte before after a
settled_to_all before after a =
    ⊎_elim
    (λ (status : is_status a ≡ true).
    let inside = and_parts (leb 2048 a) (ltb a 2112) (and_parts (is_in_sync_manager a) (eqb
    (sync_manager_offset a) 5) status).0 in
    let high : ltb a 2112 ≡ true = inside.1 in
    let below : ltb (sync_manager_number a) 8 ≡ true = grind (arith, nat_tests) in
    rw (below, and_true (is_status a && is_switched before after (sync_manager_number a))) refl)
    (λ (plain : is_status a ≡ false). rw plain refl)
    (cases_Bool (is_status a))

-- all are settled
pub settled_all : (before after zs : List ℕ) → length zs ≡ length after → ((a : ℕ) → get_or zs a 0
    ≡ settled_to before after 8 a) → zs ≡ settled before after
unfolding settled
settled_all before after zs size bytes_are =
    ext_get_or 0 zs (settled before after) (size
    ∙ sym (length-map-range_with_len (settled_byte before after) 0 (length after)))
    (λ a inside.
    bytes_are a
    ∙ settled_to_all before after a
    ∙ sym (get_or-map-range_with_len (settled_byte before after) 0 (length after) a a 0 (omega arith)
    (omega arith)))

-- the records of the memory before and of the memory after say which sync managers were switched
pub switched_by_records : (arrived now : List ℕ) (before after : List SyncMan) (d e : SyncMan) (n : ℕ)
    (answer : Bool) → n < SYNC_MANAGER_COUNT
    → before ≡ sync_managers_of arrived → after ≡ sync_managers_of now
    → answer ≡ cond (is_active (get_or before n d)) (not (is_active (get_or after n e))) (is_active
    (get_or after n e))
    → answer ≡ is_switched arrived now n
switched_by_records arrived now before after d e n answer below before_is after_is told =
    let was : get_or before n d ≡ sync_manager_at arrived n =
    ap (λ (ms : List SyncMan). get_or ms n d) before_is ∙ get_or-sync_managers_of arrived d n below in
    let stands : get_or after n e ≡ sync_manager_at now n =
    ap (λ (ms : List SyncMan). get_or ms n e) after_is ∙ get_or-sync_managers_of now e n below in
    told
    ∙ ap (λ (s : SyncMan). cond (is_active s) (not (is_active (get_or after n e))) (is_active
    (get_or after n e))) was
    ∙ ap (λ (s : SyncMan). cond (is_active (sync_manager_at arrived n)) (not (is_active s))
    (is_active s)) stands
