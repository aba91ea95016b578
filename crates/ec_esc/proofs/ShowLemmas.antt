-- What the application is shown: one area more that is handed over, or that is not.
use Rattle.std.proofs.Common.{◌≡◌, ℕ, ◌+◌, ◌-◌, ◌<◌, ◌≤◌, Bool, true, false, cond, ltb, leb, not, ◌&&◌}
use Rattle.std.proofs.Common.{◌||◌, List, [], ◌++◌, length, get_or, take, drop, sym, ◌∙◌, ap, refl, arith}
use Rattle.std.proofs.Common.{⊎_elim}
use Rattle.std.proofs.lemmas.Bool.{cases_lt, cases_Bool}
use Rattle.std.proofs.lemmas.Bool.Decides.{nat_tests}
use Rattle.std.proofs.lemmas.List.{ext_get_or, length-append, length-drop, length-take-le}
use Rattle.std.proofs.lemmas.List.{get_or_append_left, get_or-append_right, get_or-take, get_or-drop}
use Rattle.std.proofs.lemmas.List.{drop_all, drop_more}
use Rattle.std.proofs.lemmas.List.FromFn.{length-map-range_with_len, get_or-map-range_with_len}
use Rattle.std.proofs.lemmas.Option.{slice_get-get_or, get_or_from_slice_get}
use Rattle.ec_regs.specs.declared.sync_man.SyncMan.{SyncMan}
use Rattle.ec_regs.specs.declared.registers.TheConstants.{PROCESS_MEMORY, PROCESS_MEMORY_SIZE, MEMORY_SIZE}
use Rattle.ec_regs.specs.SyncMan.{is_active, is_buffered, guards_outputs, master_writes}
use Rattle.ec_areas.specs.Areas.{guards}
use Rattle.ec_esc.specs.State.{with_run, with_area_shown}
use Rattle.ec_areas.specs.Showing.{last_byte, SaysOfLastBytes}
use Rattle.ec_esc.specs.Writing.{hands_over, is_shown_anew, shown_byte, shown_after}

-- ---- a run that replaces a part of a list

-- the part before the run and the run
length_to_run : (xs : List ℕ) (at : ℕ) (ys : List ℕ) → at + length ys ≤ length xs
    → (length (take at xs) ≡ at) × (length (take at xs ++ ys) ≡ at + length ys)
length_to_run xs at ys fits =
    let front : length (take at xs) ≡ at = length-take-le at xs (omega arith) in
    (front, omega (arith, length-append (take at xs) ys))

-- the length stays
length-with_run : (xs : List ℕ) (at : ℕ) (ys : List ℕ) → at + length ys ≤ length xs
    → length (with_run xs at ys) ≡ length xs
length-with_run xs at ys fits =
    omega (
      arith,
      (length_to_run xs at ys fits).1,
      length-append (take at xs ++ ys) (drop
          (at + length ys) xs),
      length-drop (at + length ys) xs,
    )

-- an element before the run stays
get_or-with_run_before : (xs : List ℕ) (at : ℕ) (ys : List ℕ) (k : ℕ) → at + length ys ≤ length xs → k < at
    → get_or (with_run xs at ys) k 0 ≡ get_or xs k 0
get_or-with_run_before xs at ys k fits before =
    let lengths = length_to_run xs at ys fits in
    get_or_append_left (take at xs ++ ys) (drop (at + length ys) xs) 0 k (omega (arith, lengths.1))
    ∙ get_or_append_left (take at xs) ys 0 k (omega (arith, lengths.0))
    ∙ get_or-take at xs k 0 before

-- one in it is the run's
get_or-with_run_inside : (xs : List ℕ) (at : ℕ) (ys : List ℕ) (k : ℕ) → at + length ys ≤ length xs
    → at ≤ k → k < at + length ys
    → get_or (with_run xs at ys) k 0 ≡ get_or ys (k - at) 0
get_or-with_run_inside xs at ys k fits starts ends =
    let lengths = length_to_run xs at ys fits in
    get_or_append_left (take at xs ++ ys) (drop (at + length ys) xs) 0 k (omega (arith, lengths.1))
    ∙ get_or-append_right (take at xs) ys at k 0 lengths.0 starts

-- and one behind it stays
get_or-with_run_behind : (xs : List ℕ) (at : ℕ) (ys : List ℕ) (k : ℕ) → at + length ys ≤ length xs
    → at + length ys ≤ k
    → get_or (with_run xs at ys) k 0 ≡ get_or xs k 0
get_or-with_run_behind xs at ys k fits behind =
    let end = at + length ys in
    let here : end + (k - end) ≡ k = omega arith in
    get_or-append_right (take at xs ++ ys) (drop end xs) end k 0 (length_to_run xs at ys fits).1 behind
    ∙ get_or-drop end xs (k - end) 0
    ∙ ap (λ i. get_or xs i 0) here

-- ---- an area that is shown

-- an area within the memory has its length
length_area : (s : SyncMan) (memory : List ℕ) → s.start + s.length ≤ length memory
    → length (take s.length (drop s.start memory)) ≡ s.length
length_area s memory fits = length-take-le s.length (drop s.start memory) (omega
    (arith, length-drop s.start memory))

-- there are as many shown bytes as before
pub length-with_area_shown : (s : SyncMan) (memory shown : List ℕ) → PROCESS_MEMORY ≤ s.start
    → s.start + s.length ≤ MEMORY_SIZE
    → length memory ≡ MEMORY_SIZE → length shown ≡ PROCESS_MEMORY_SIZE
    → length (with_area_shown s memory shown) ≡ length shown
length-with_area_shown s memory shown starts ends memory_size shown_size =
    length-with_run shown (s.start - PROCESS_MEMORY) (take s.length (drop s.start memory)) (omega
    (arith, length_area s memory (omega arith)))

-- a shown byte is the memory's where the area has its address, and else as it was
get_or-with_area_shown : (s : SyncMan) (memory shown : List ℕ) (k : ℕ) → is_active s ≡ true
    → PROCESS_MEMORY ≤ s.start
    → s.start + s.length ≤ MEMORY_SIZE → length memory ≡ MEMORY_SIZE → length shown ≡ PROCESS_MEMORY_SIZE
    → get_or (with_area_shown s memory shown) k 0
    ≡ cond (guards s (PROCESS_MEMORY + k)) (get_or memory (PROCESS_MEMORY + k) 0) (get_or shown k 0)
unfolding guards
get_or-with_area_shown s memory shown k active starts ends memory_size shown_size =
    let at = s.start - PROCESS_MEMORY in
    let area : List ℕ = take s.length (drop s.start memory) in
    let size : length area ≡ s.length = length_area s memory (omega arith) in
    let fits : at + length area ≤ length shown = omega arith in
    ⊎_elim
    (λ (before : k < at).
    let outside : leb s.start (PROCESS_MEMORY + k)
    ≡ false = let h : PROCESS_MEMORY + k < s.start = omega arith in grind (arith, nat_tests) in
    rw (active, outside) (get_or-with_run_before shown at area k fits before))
    (λ (from : at ≤ k).
    let from_is : leb s.start (PROCESS_MEMORY + k)
    ≡ true = let h : s.start ≤ PROCESS_MEMORY + k = omega arith in grind (arith, nat_tests) in
    ⊎_elim
    (λ (inside : k < at + length area).
    let till : ltb (PROCESS_MEMORY + k) (s.start + s.length)
    ≡ true = let h : PROCESS_MEMORY + k < s.start + s.length = omega arith in grind (arith, nat_tests) in
    let place : s.start + (k - at) ≡ PROCESS_MEMORY + k = omega arith in
    rw (active, from_is, till)
    (get_or-with_run_inside shown at area k fits from inside
    ∙ get_or-take s.length (drop s.start memory) (k - at) 0 (omega arith)
    ∙ get_or-drop s.start memory (k - at) 0
    ∙ ap (λ i. get_or memory i 0) place))
    (λ (behind : at + length area ≤ k).
    let past : ltb (PROCESS_MEMORY + k) (s.start + s.length)
    ≡ false = let h : s.start + s.length ≤ PROCESS_MEMORY + k = omega arith in grind (arith, nat_tests) in
    rw (active, from_is, past) (get_or-with_run_behind shown at area k fits behind))
    (cases_lt k (at + length area)))
    (cases_lt k at)

-- ---- the areas one after the other

-- an area is handed over by what is said of its last byte
hands_over_said : (is_written : ℕ → Bool) (before after : SyncMan) (said : Bool) → (is_active after
    ≡ true → said ≡ is_written (last_byte after))
    → hands_over (λ _. said) before after ≡ hands_over is_written before after
hands_over_said is_written before after said told =
    ⊎_elim
    (λ (active : is_active after ≡ true).
    ap (λ b. is_active after && (not (is_active before) ||
    (is_buffered after && master_writes after && b))) (told active))
    (λ (inactive : is_active after ≡ false). rw inactive refl)
    (cases_Bool (is_active after))

-- the same for the area with a number
pub hands_over_at : (is_written : ℕ → Bool) (befores afters : List SyncMan) (said : List Bool) (i : ℕ)
    (d e : SyncMan) → i < length afters
    → SaysOfLastBytes is_written afters said
    → hands_over (λ _. get_or said i false) (get_or befores i d) (get_or afters i e)
    ≡ hands_over is_written (get_or befores i d) (get_or afters i e)
hands_over_at is_written befores afters said i d e inside says =
    hands_over_said is_written (get_or befores i d) (get_or afters i e) (get_or said i false)
    (λ active.
    get_or_from_slice_get said i (is_written (last_byte (get_or afters i e))) false
    (says i (get_or afters i e) (slice_get-get_or afters i e inside) active))

-- a byte lies in an area that is handed over: in this one, or in those behind it
is_shown_anew-drop : (is_written : ℕ → Bool) (befores afters : List SyncMan) (i : ℕ) (d e : SyncMan)
    (address : ℕ) → i < length befores → i < length afters
    → is_shown_anew is_written (drop i befores) (drop i afters) address
    ≡ ((hands_over is_written (get_or befores i d) (get_or afters i e) && guards
    (get_or afters i e) address) || is_shown_anew is_written (drop (i + 1) befores) (drop
    (i + 1) afters) address)
unfolding is_shown_anew
is_shown_anew-drop is_written befores afters i d e address inside too =
    rw (drop_more befores i d inside, drop_more afters i e too) refl

-- one value under either of two conditions
cond_or : (a b : Bool) (x y : ℕ) → cond b x (cond a x y) ≡ cond (a || b) x y
cond_or true true x y = refl
cond_or true false x y = refl
cond_or false b x y = refl

-- the bytes that are shown after a write, one by one
pub get_or-shown_after : (is_written : ℕ → Bool) (befores afters : List SyncMan) (memory shown : List ℕ)
    (k : ℕ) → k < length shown
    → get_or (shown_after is_written befores afters memory shown) k 0
    ≡ shown_byte is_written befores afters memory shown k
unfolding shown_after
get_or-shown_after is_written befores afters memory shown k inside =
    get_or-map-range_with_len (shown_byte is_written befores afters memory shown) 0
    (length shown) k k 0 inside (omega arith)

-- there are as many as before
pub length-shown_after : (is_written : ℕ → Bool) (befores afters : List SyncMan) (memory shown : List ℕ)
    → length (shown_after is_written befores afters memory shown) ≡ length shown
unfolding shown_after
length-shown_after is_written befores afters memory shown =
    length-map-range_with_len (shown_byte is_written befores afters memory shown) 0 (length shown)

-- one area more, which is handed over and was shown
pub shown_after_more : (is_written : ℕ → Bool) (befores afters : List SyncMan) (memory shown : List ℕ)
    (i : ℕ) (d e : SyncMan)
    → i < length befores → i < length afters → hands_over is_written (get_or befores i d)
    (get_or afters i e) ≡ true
    → is_active (get_or afters i e) ≡ true → PROCESS_MEMORY ≤ (get_or afters i e).start
    → (get_or afters i e).start + (get_or afters i e).length ≤ MEMORY_SIZE
    → length memory ≡ MEMORY_SIZE → length shown ≡ PROCESS_MEMORY_SIZE
    → shown_after is_written (drop (i + 1) befores) (drop (i + 1) afters) memory (with_area_shown
    (get_or afters i e) memory shown)
    ≡ shown_after is_written (drop i befores) (drop i afters) memory shown
shown_after_more is_written befores afters memory shown i d e inside too handed active starts ends
    memory_size shown_size =
    let area : SyncMan = get_or afters i e in
    let now : List ℕ = with_area_shown area memory shown in
    let size : length now ≡ length shown = length-with_area_shown area memory shown starts ends
    memory_size shown_size in
    let left : List ℕ = shown_after is_written (drop (i + 1) befores) (drop (i + 1) afters) memory now in
    let left_size : length left ≡ length now = length-shown_after is_written (drop (i + 1) befores) (drop
    (i + 1) afters) memory now in
    ext_get_or 0 left (shown_after is_written (drop i befores) (drop i afters) memory shown)
    (left_size ∙ size ∙ sym (length-shown_after is_written (drop i befores) (drop i afters) memory shown))
    (λ k k_inside.
    let address = PROCESS_MEMORY + k in
    let anew : Bool = is_shown_anew is_written (drop (i + 1) befores) (drop (i + 1) afters) address in
    get_or-shown_after is_written (drop (i + 1) befores) (drop (i + 1) afters) memory now k (omega arith)
    ∙ ap (cond anew (get_or memory address 0)) (get_or-with_area_shown area memory shown k active starts
    ends memory_size shown_size)
    ∙ cond_or (guards area address) anew (get_or memory address 0) (get_or shown k 0)
    ∙ ap (λ b. cond ((b && guards area address) || anew) (get_or memory address 0) (get_or shown k 0))
    (sym handed)
    ∙ ap (λ b. cond b (get_or memory address 0) (get_or shown k 0)) (sym
    (is_shown_anew-drop is_written befores afters i d e address inside too))
    ∙ sym (get_or-shown_after is_written (drop i befores) (drop i afters) memory shown k (omega arith)))

-- one area more, which is not handed over
pub shown_after_skip : (is_written : ℕ → Bool) (befores afters : List SyncMan) (memory shown : List ℕ)
    (i : ℕ) (d e : SyncMan)
    → i < length befores → i < length afters → hands_over is_written (get_or befores i d)
    (get_or afters i e) ≡ false
    → shown_after is_written (drop (i + 1) befores) (drop (i + 1) afters) memory shown
    ≡ shown_after is_written (drop i befores) (drop i afters) memory shown
shown_after_skip is_written befores afters memory shown i d e inside too kept =
    let left : List ℕ = shown_after is_written (drop (i + 1) befores) (drop (i + 1) afters) memory shown in
    let left_size : length left ≡ length shown =
    length-shown_after is_written (drop (i + 1) befores) (drop (i + 1) afters) memory shown in
    ext_get_or 0 left (shown_after is_written (drop i befores) (drop i afters) memory shown)
    (left_size ∙ sym (length-shown_after is_written (drop i befores) (drop i afters) memory shown))
    (λ k k_inside.
    let address = PROCESS_MEMORY + k in
    let anew : Bool = is_shown_anew is_written (drop (i + 1) befores) (drop (i + 1) afters) address in
    get_or-shown_after is_written (drop (i + 1) befores) (drop (i + 1) afters) memory shown k (omega arith)
    ∙ ap (λ b. cond ((b && guards (get_or afters i e) address) || anew) (get_or memory address 0)
    (get_or shown k 0)) (sym kept)
    ∙ ap (λ b. cond b (get_or memory address 0) (get_or shown k 0)) (sym
    (is_shown_anew-drop is_written befores afters i d e address inside too))
    ∙ sym (get_or-shown_after is_written (drop i befores) (drop i afters) memory shown k (omega arith)))

-- behind the last area all stays
pub shown_after_done : (is_written : ℕ → Bool) (befores afters : List SyncMan) (memory shown : List ℕ)
    (i : ℕ) → length befores ≤ i
    → shown_after is_written (drop i befores) (drop i afters) memory shown ≡ shown
unfolding is_shown_anew
shown_after_done is_written befores afters memory shown i past =
    rw (drop_all i befores past)
    (ext_get_or 0 (shown_after is_written [] (drop i afters) memory shown) shown
    (length-shown_after is_written [] (drop i afters) memory shown)
    (λ k inside. get_or-shown_after is_written [] (drop i afters) memory shown k (omega
    (arith, length-shown_after is_written [] (drop i afters) memory shown))))

-- ---- an area of outputs

-- four conditions, of which the first may be left out behind itself
held_over : (a b c d : Bool) → (a && (not a || (b && c && d))) ≡ (a && b && c && d)
held_over false b c d = refl
held_over true false c d = refl
held_over true true c d = refl

-- an area that was active before is handed over where it guards outputs and its last byte was written
pub hands_over_outputs : (is_written : ℕ → Bool) (s : SyncMan)
    → hands_over is_written s s ≡ (guards_outputs s && is_written (last_byte s))
hands_over_outputs is_written s =
    held_over (is_active s) (is_buffered s) (master_writes s) (is_written (last_byte s))
