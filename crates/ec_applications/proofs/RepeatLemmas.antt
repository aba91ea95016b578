-- What a device keeps whose master has the last mail once more.
use Rattle.std.proofs.Common.{◌≡◌, ◌≢◌, ⊎_elim, refl, ℕ, ◌+◌, ◌*◌, ◌≤◌, Bool, true, false, ◌&&◌, ◌||◌, cond}
use Rattle.std.proofs.Common.{List, length, get_or, Some, ◌∙◌, ap, sym, subst, arith, eqb, bit_or}
use Rattle.std.specs.Prelude.{if◌then◌else◌, not}
use Rattle.std.proofs.lemmas.Bool.{and_right, cases_Bool, eq-eqb}
use Rattle.std.proofs.lemmas.Bool.Decides.{nat_tests}
use Rattle.std.proofs.lemmas.List.{get_or-set_other, get_or-set_same, length-set}
use Rattle.std.specs.Int.{bit_at}
use Rattle.ec_areas.specs.Ranges.{has_sii}
use Rattle.ec_areas.specs.Records.{sync_manager_at}
use Rattle.ec_check.proofs.Laws.{moved_repeated, moved_repeat_told, repeated_same}
use Rattle.ec_esc.specs.Application.{holds_mail, with_mail_again}
use Rattle.ec_esc.specs.Application.{with_mail_repeated, with_repeat_told}
use Rattle.ec_esc.specs.State.{ControllerState, IsController}
use Rattle.ec_esc.specs.Writing.{with_filled}
use Rattle.ec_esc.proofs.Laws.{repeated_controller as mail_controller, repeat_told_controller}
use Rattle.ec_line.specs.Moving.{HasMoved}
use Rattle.ec_line.proofs.Laws.{moved-refl}
use Rattle.ec_regs.specs.SyncMan.{asks_again, repeat_asked}
use Rattle.ec_regs.specs.declared.registers.TheConstants.{MEMORY_SIZE, PROCESS_MEMORY}
use Rattle.ec_regs.proofs.Laws.{get_or-run}
use Rattle.ec_regs.specs.declared.sync_man.SyncMan.{SyncMan}
use Rattle.ec_applications.specs.Repeats.{can_give, given_again, is_asked_again, is_of_repeats, repeated}

-- ---- a mail once more

again_size : (s : SyncMan) (i : ℕ) (stood m : List ℕ) → length (with_mail_again s i stood m) ≡ length m
again_size s i stood m =
    ⊎_elim
    (λ (yes : holds_mail s stood ≡ true).
    ap (λ (b : Bool). length (cond b (with_filled (Some i) m) m)) yes
    ∙ length-set m (2048 + 8 * i + 5) (bit_or (get_or m (2048 + 8 * i + 5) 0) 8))
    (λ (no : holds_mail s stood ≡ false). ap (λ (b : Bool). length (cond b (with_filled (Some i) m) m)) no)
    (cases_Bool (holds_mail s stood))

told_size : (c : ControllerState) (i : ℕ) → length (with_repeat_told c i).memory ≡ length c.memory
told_size c i = length-set c.memory (2048 + 8 * i + 7) (2 * repeat_asked (sync_manager_at c.memory i))

mail_size : (c : ControllerState) (i : ℕ) → length (with_mail_repeated c i).memory ≡ length c.memory
mail_size c i =
    again_size (sync_manager_at c.memory i) i c.memory (with_repeat_told c i).memory ∙ told_size c i

told_beside : (c : ControllerState) (i a : ℕ) → a ≢ 2048 + 8 * i + 7
    → get_or (with_repeat_told c i).memory a 0 ≡ get_or c.memory a 0
told_beside c i a pdi =
    get_or-set_other c.memory (2048 + 8 * i + 7) a (2 * repeat_asked (sync_manager_at c.memory i)) 0 pdi

again_beside : (s : SyncMan) (i a : ℕ) (stood m : List ℕ) → a ≢ 2048 + 8 * i + 5
    → get_or (with_mail_again s i stood m) a 0 ≡ get_or m a 0
again_beside s i a stood m apart =
    ⊎_elim
    (λ (yes : holds_mail s stood ≡ true).
    ap (λ (b : Bool). get_or (cond b (with_filled (Some i) m) m) a 0) yes
    ∙ get_or-set_other m (2048 + 8 * i + 5) a (bit_or (get_or m (2048 + 8 * i + 5) 0) 8) 0 apart)
    (λ (no : holds_mail s stood ≡ false).
    ap (λ (b : Bool). get_or (cond b (with_filled (Some i) m) m) a 0) no)
    (cases_Bool (holds_mail s stood))

-- ---- where it is asked for

-- what holds of a controller, and of it with a mail once more, holds of it where one may be asked for
either : (P : ControllerState → Type 0) (b : Bool) (c d : ControllerState) → P c → P d
    → P (if b then d else c)
either P true c d same other = other
either P false c d same other = same

by_repeat : (P : ControllerState → Type 0) (c : ControllerState) → P c → P (with_repeat_told c 1)
    → P (with_mail_repeated c 1) → P (repeated c)
by_repeat P c same told again =
    either P (is_asked_again c) c (given_again c) same
    (either P (can_give c) (with_repeat_told c 1) (with_mail_repeated c 1) told again)

-- it has moved, and stays one
pub repeated_moved : (c : ControllerState) → IsController c → HasMoved c (repeated c)
repeated_moved c is =
    by_repeat (λ (d : ControllerState). HasMoved c d) c (moved-refl c) (moved_repeat_told c 1 is (omega arith))
    (moved_repeated c 1 is (omega arith))

pub repeated_controller : (c : ControllerState) → IsController c → IsController (repeated c)
repeated_controller c is =
    by_repeat IsController c is (repeat_told_controller c 1 is) (mail_controller c 1 is)

-- what it is shown stays, whether AL control was written, and the size of its memory
pub repeated_shown : (c : ControllerState) → (repeated c).shown ≡ c.shown
repeated_shown c = by_repeat (λ (d : ControllerState). d.shown ≡ c.shown) c refl refl refl

pub repeated_written : (c : ControllerState) → (repeated c).written ≡ c.written
repeated_written c = by_repeat (λ (d : ControllerState). d.written ≡ c.written) c refl refl refl

pub repeated_size : (c : ControllerState) → length (repeated c).memory ≡ length c.memory
repeated_size c =
    by_repeat (λ (d : ControllerState). length d.memory ≡ length c.memory) c refl (told_size c 1)
    (mail_size c 1)

-- a plain slave's controller stays
pub repeated_plain : (c : ControllerState) → has_sii c.memory ≡ false → repeated c ≡ c
repeated_plain c without =
    ap (λ (b : Bool). cond (b && asks_again (sync_manager_at c.memory 1)) (given_again c) c) without

-- and so does each byte beside those two of a device
apart : (m : List ℕ) (a k : ℕ) → (eqb a k ≡ true → is_of_repeats m a ≡ true) → is_of_repeats m a ≡ false
    → a ≢ k
apart m a k hits misses is =
    let no : true ≡ false = sym (hits (eq-eqb a k is)) ∙ misses in absurd cc

pub repeated_beside : (c : ControllerState) (a : ℕ) → is_of_repeats c.memory a ≡ false
    → get_or (repeated c).memory a 0 ≡ get_or c.memory a 0
repeated_beside c a misses =
    ⊎_elim
    (λ (yes : has_sii c.memory ≡ true).
    let status : a ≢ 2061 = apart c.memory a 2061 (λ is. rw (is, yes) refl) misses in
    let pdi : a ≢ 2063 = apart c.memory a 2063 (λ is. rw (is, yes) (at_second (eqb a 2061))) misses in
    by_repeat (λ (d : ControllerState). get_or d.memory a 0 ≡ get_or c.memory a 0) c refl
    (told_beside c 1 a pdi) (repeated_same c 1 a status pdi))
    (λ (no : has_sii c.memory ≡ false).
    ap (λ (d : ControllerState). get_or d.memory a 0) (repeated_plain c no))
    (cases_Bool (has_sii c.memory))
  where
    at_second : (b : Bool) → ((b || true) && true) ≡ true
    at_second true = refl
    at_second false = refl

-- ---- once

-- two bytes of the record of sync manager 1
activate_at : (m : List ℕ) → (sync_manager_at m 1).activate ≡ get_or m 2062 0
unfolding sync_manager_at
activate_at m = get_or-run m 2056 8 6 (omega arith)

pdi_at : (m : List ℕ) → (sync_manager_at m 1).pdi ≡ get_or m 2063 0
unfolding sync_manager_at
pdi_at m = get_or-run m 2056 8 7 (omega arith)

told_bit : (activate : ℕ) → bit_at activate 1 ≡ bit_at (2 * bit_at activate 1) 1
told_bit activate = omega arith

-- in a memory whose PDI byte is so, none is asked for
none_asked : (c : ControllerState) (m : List ℕ) → get_or m 2062 0 ≡ get_or c.memory 2062 0
    → get_or m 2063 0 ≡ 2 * repeat_asked (sync_manager_at c.memory 1)
    → asks_again (sync_manager_at m 1) ≡ false
none_asked c m same told =
    let s : SyncMan = sync_manager_at c.memory 1 in
    let activate : (sync_manager_at m 1).activate ≡ s.activate =
    activate_at m ∙ same ∙ sym (activate_at c.memory) in
    let pdi : (sync_manager_at m 1).pdi ≡ 2 * bit_at s.activate 1 = pdi_at m ∙ told in
    (λ i. not (eqb (bit_at (activate i) 1) (bit_at (pdi i) 1)))
    ∙ ap not (eq-eqb (bit_at s.activate 1) (bit_at (2 * bit_at s.activate 1) 1) (told_bit s.activate))

told_is : (c : ControllerState) → length c.memory ≡ MEMORY_SIZE
    → get_or (with_repeat_told c 1).memory 2063 0 ≡ 2 * repeat_asked (sync_manager_at c.memory 1)
told_is c size =
    get_or-set_same c.memory 2063 (2 * repeat_asked (sync_manager_at c.memory 1)) 0 (omega (arith, size))

pub told_once : (c : ControllerState) → length c.memory ≡ MEMORY_SIZE
    → asks_again (sync_manager_at (with_repeat_told c 1).memory 1) ≡ false
told_once c size =
    none_asked c (with_repeat_told c 1).memory (told_beside c 1 2062 (λ is. omega (arith, is))) (told_is c size)

-- a mail that was given once more is not asked for
pub given_once : (c : ControllerState) → length c.memory ≡ MEMORY_SIZE
    → asks_again (sync_manager_at (with_mail_repeated c 1).memory 1) ≡ false
given_once c size =
    let s : SyncMan = sync_manager_at c.memory 1 in
    none_asked c (with_mail_repeated c 1).memory
    (repeated_same c 1 2062 (λ is. omega (arith, is)) (λ is. omega (arith, is)))
    (again_beside s 1 2063 c.memory (with_repeat_told c 1).memory (λ is. omega (arith, is))
    ∙ told_is c size)

idle : (c : ControllerState) → is_asked_again c ≡ false → repeated c ≡ c
idle c not_asked = ap (λ (b : Bool). cond b (given_again c) c) not_asked

done : (d : ControllerState) → asks_again (sync_manager_at d.memory 1) ≡ false → repeated d ≡ d
done d none = idle d (and_right (has_sii d.memory) (asks_again (sync_manager_at d.memory 1)) none)

pub repeated_once : (c : ControllerState) → length c.memory ≡ MEMORY_SIZE → repeated (repeated c) ≡ repeated c
repeated_once c size =
    ⊎_elim
    (λ (asked : is_asked_again c ≡ true).
    let is : repeated c ≡ given_again c = ap (λ (b : Bool). cond b (given_again c) c) asked in
    subst (λ (d : ControllerState). repeated d ≡ d) (sym is)
    (either (λ (d : ControllerState). repeated d ≡ d) (can_give c) (with_repeat_told c 1)
    (with_mail_repeated c 1) (done (with_repeat_told c 1) (told_once c size))
    (done (with_mail_repeated c 1) (given_once c size))))
    (λ (not_asked : is_asked_again c ≡ false). ap repeated (idle c not_asked))
    (cases_Bool (is_asked_again c))

-- ---- which bytes these are

-- of two memories of devices, or of plain slaves, the same
pub repeats_by : (m n : List ℕ) (a : ℕ) → has_sii n ≡ has_sii m → is_of_repeats m a ≡ false
    → is_of_repeats n a ≡ false
repeats_by m n a same misses = ap (λ (b : Bool). (eqb a 2061 || eqb a 2063) && b) same ∙ misses

-- process memory has none
pub repeats_process : (m : List ℕ) (a : ℕ) → PROCESS_MEMORY ≤ a → is_of_repeats m a ≡ false
repeats_process m a process =
    let status : eqb a 2061 ≡ false = grind (arith, nat_tests) in
    let pdi : eqb a 2063 ≡ false = grind (arith, nat_tests) in
    rw (status, pdi) refl

-- memories whose first byte is the same
pub device_same : (m n : List ℕ) → get_or n 0 0 ≡ get_or m 0 0 → has_sii n ≡ has_sii m
device_same m n same = ap (λ (byte : ℕ). not (eqb byte 0)) same
