-- What a master may write by what is told takes writes in the controller, and what it may not does not.
use Rattle.std.proofs.Common.{◌≡◌, ◌⊎◌, ℕ, ◌+◌, ◌-◌, ◌*◌, ◌/◌, ◌%◌, ◌<◌, ◌≤◌, Bool, true, false, cond, leb}
use Rattle.std.proofs.Common.{ltb}
use Rattle.std.proofs.Common.{eqb, ◌&&◌, List, get_or, Some, refl, sym, ap, ◌∙◌, arith, ⊎_elim}
use Rattle.std.proofs.Common.{inl, inr}
use Rattle.std.specs.Prelude.{not}
use Rattle.std.specs.Int.{bit_at}
use Rattle.std.proofs.lemmas.Bool.{cases_Bool, eqb-true}
use Rattle.std.proofs.lemmas.Bool.Decides.{nat_tests}
use Rattle.ec_regs.specs.SyncMan.{is_active, is_enabled}
use Rattle.ec_regs.proofs.Laws.{get_or-run}
use Rattle.ec_areas.specs.Ranges.{takes_writes, is_writable_field}
use Rattle.ec_areas.specs.Records.{sync_manager_at}
use Rattle.ec_esc.specs.State.{ControllerState}
use Rattle.ecat_told.specs.declared.byte.Byte.{Byte}
use Rattle.ecat_told.specs.declared.byte.Byte.TheVariants.{Untold, Guessed, Told, Lost as LostByte}
use Rattle.ecat_told.specs.declared.byte.Gate.TheVariants.{Open, Perhaps, Shut}
use Rattle.ecat_told.specs.declared.slave.Slave.{Slave}
use Rattle.ecat_told.specs.Registers.{place_of, gate_at, gate_by, manager_gate, switch_of}
use Rattle.ecat_told.specs.So.{IsClaimed, IsSlaveSo, is_free}
use Rattle.ecat_told.specs.Journeys.{IsGuarding}
use Rattle.ecat_told.proofs.PlaceLemmas.{IsKept, station, status, fmmu, manager, kept}

-- ---- which kept bytes take writes

-- not inside of a range
below_range : (low high a : ℕ) → a < low → (leb low a && ltb a high) ≡ false
below_range low high a is =
    let first : leb low a ≡ false = grind (arith, nat_tests) in rw first refl

in_range : (low high a : ℕ) → low ≤ a → a < high → (leb low a && ltb a high) ≡ true
in_range low high a from to =
    let first : leb low a ≡ true = grind (arith, nat_tests) in
    let second : ltb a high ≡ true = grind (arith, nat_tests) in rw (first, second) refl

behind_range : (low high a : ℕ) → low ≤ a → high ≤ a → (leb low a && ltb a high) ≡ false
behind_range low high a from to =
    let first : leb low a ≡ true = grind (arith, nat_tests) in
    let second : ltb a high ≡ false = grind (arith, nat_tests) in rw (first, second) refl

-- the station address does
takes_station : (m : List ℕ) (a : ℕ) → 16 ≤ a → a < 18 → takes_writes m a ≡ true
unfolding takes_writes
takes_station m a low high = rw (in_range 16 18 a low high) refl

-- the FMMUs do
takes_fmmu : (m : List ℕ) (a : ℕ) → 1536 ≤ a → a < 1664 → takes_writes m a ≡ true
unfolding takes_writes
takes_fmmu m a low high =
    rw (
      behind_range 16 18 a (omega arith) (omega arith),
      behind_range 288 290 a (omega arith) (omega arith),
      in_range 1536 1664 a low high,
    ) refl

-- AL status does not
pub takes_status : (m : List ℕ) (a : ℕ) → 304 ≤ a → a < 310 → takes_writes m a ≡ false
unfolding takes_writes
takes_status m a low high =
    rw (
      behind_range 16 18 a (omega arith) (omega arith),
      behind_range 288 290 a (omega arith) (omega arith),
      behind_range 256 260 a (omega arith) (omega arith),
      below_range 512 514 a (omega arith),
      below_range 768 788 a (omega arith),
      below_range 1024 1026 a (omega arith),
      below_range 1040 1042 a (omega arith),
      below_range 1056 1058 a (omega arith),
      below_range 1280 1296 a (omega arith),
      below_range 1536 1664 a (omega arith),
      below_range 4096 12288 a (omega arith),
      below_range 2048 2112 a (omega arith),
    ) refl

-- and of a sync manager some do
takes_manager : (m : List ℕ) (a : ℕ) → 2048 ≤ a → a < 2112 → takes_writes m a ≡ is_writable_field m a
unfolding takes_writes
takes_manager m a low high =
    rw (
      behind_range 16 18 a (omega arith) (omega arith),
      behind_range 288 290 a (omega arith) (omega arith),
      behind_range 256 260 a (omega arith) (omega arith),
      behind_range 512 514 a (omega arith) (omega arith),
      behind_range 768 788 a (omega arith) (omega arith),
      behind_range 1024 1026 a (omega arith) (omega arith),
      behind_range 1040 1042 a (omega arith) (omega arith),
      behind_range 1056 1058 a (omega arith) (omega arith),
      behind_range 1280 1296 a (omega arith) (omega arith),
      behind_range 1536 1664 a (omega arith) (omega arith),
      below_range 4096 12288 a (omega arith),
      in_range 2048 2112 a low high,
    ) refl

-- ---- the switch

-- where the switch of a sync manager is kept
place_switch : (j : ℕ) → j < 8 → place_of (2054 + 8 * j) ≡ Some (j * 8 + 142)
unfolding place_of
place_switch j below =
    let is : 2054 + 8 * j - 2048 + 136 ≡ j * 8 + 142 = omega arith in
    rw (
      behind_range 16 18 (2054 + 8 * j) (omega arith) (omega arith),
      behind_range 304 310 (2054 + 8 * j) (omega arith) (omega arith),
      behind_range 1536 1664 (2054 + 8 * j) (omega arith) (omega arith),
      in_range 2048 2112 (2054 + 8 * j) (omega arith) (omega arith),
    ) (ap Some is)

claimed_switch : (states : Bool) (j : ℕ) → IsClaimed states (2054 + 8 * j)
claimed_switch states j = ((λ i same. omega (arith, same)), inr (inr (omega arith)))

-- and where it stands
enabled_by : (m : List ℕ) (j : ℕ)
    → is_enabled (sync_manager_at m j) ≡ eqb (bit_at (get_or m (2054 + 8 * j) 0) 0) 1
unfolding sync_manager_at
enabled_by m j =
    let at : 2048 + 8 * j + 6 ≡ 2054 + 8 * j = omega arith in
    ap (λ (b : ℕ). eqb (bit_at b 0) 1) (get_or-run m (2048 + 8 * j) 8 6 (omega arith))
    ∙ ap (λ (a : ℕ). eqb (bit_at (get_or m a 0) 0) 1) at

-- a gate is open where the switch is told to be off
open_off : (m : Byte) → gate_by m ≡ Open → (b : ℕ) × (m ≡ Told b) × (eqb (bit_at b 0) 1 ≡ false)
open_off Untold is = absurd (cc)
open_off LostByte is = absurd (cc)
open_off (Guessed b) is =
    absurd (⊎_elim
    (λ (on : eqb (bit_at b 0) 1 ≡ true). let same : Shut ≡ Open = sym (ap (λ t. cond t Shut Perhaps) on)
    ∙ is in cc)
    (λ (off : eqb (bit_at b 0) 1 ≡ false).
    let same : Perhaps ≡ Open = sym (ap (λ t. cond t Shut Perhaps) off) ∙ is in cc)
    (cases_Bool (eqb (bit_at b 0) 1)))
open_off (Told b) is =
    ⊎_elim
    (λ (on : eqb (bit_at b 0) 1 ≡ true).
    let same : Shut ≡ Open = sym (ap (λ t. cond t Shut Open) on) ∙ is in absurd (cc))
    (λ (off : eqb (bit_at b 0) 1 ≡ false). (b, refl, off))
    (cases_Bool (eqb (bit_at b 0) 1))

-- it is shut where the switch is told, or guessed, to be on
shut_on : (m : Byte) → gate_by m ≡ Shut
    → ((b : ℕ) × (m ≡ Told b) × (eqb (bit_at b 0) 1 ≡ true)) ⊎ ((b : ℕ) × (m ≡ Guessed b))
shut_on Untold is = absurd (cc)
shut_on LostByte is = absurd (cc)
shut_on (Guessed b) is = inr (b, refl)
shut_on (Told b) is =
    ⊎_elim
    (λ (on : eqb (bit_at b 0) 1 ≡ true). inl (b, refl, on))
    (λ (off : eqb (bit_at b 0) 1 ≡ false).
    let same : Open ≡ Shut = sym (ap (λ t. cond t Shut Open) off) ∙ is in absurd (cc))
    (cases_Bool (eqb (bit_at b 0) 1))

-- ---- the gate of a sync manager's byte

-- the three kinds of offset
data IsOffset : ℕ → Type 0 where
  barred : {o : ℕ} → (o ≡ 5) ⊎ (o ≡ 7) → IsOffset o
  switch : {o : ℕ} → o ≡ 6 → IsOffset o
  field : {o : ℕ} → o < 5 → IsOffset o

offset_is : (n : ℕ) → IsOffset (n % 8)
offset_is n =
    ⊎_elim
    (λ (five : eqb (n % 8) 5 ≡ true). barred (inl (eqb-true (n % 8) 5 five)))
    (λ (no_five : eqb (n % 8) 5 ≡ false).
    ⊎_elim
    (λ (six : eqb (n % 8) 6 ≡ true). switch (eqb-true (n % 8) 6 six))
    (λ (no_six : eqb (n % 8) 6 ≡ false).
    ⊎_elim
    (λ (seven : eqb (n % 8) 7 ≡ true). barred (inr (eqb-true (n % 8) 7 seven)))
    (λ (no_seven : eqb (n % 8) 7 ≡ false). field (grind (arith, nat_tests)))
    (cases_Bool (eqb (n % 8) 7)))
    (cases_Bool (eqb (n % 8) 6)))
    (cases_Bool (eqb (n % 8) 5))

gate_barred : (bytes : List Byte) (n : ℕ) → (n % 8 ≡ 5) ⊎ (n % 8 ≡ 7) → manager_gate bytes n ≡ Shut
gate_barred bytes n (inl is) = rw is refl
gate_barred bytes n (inr is) = rw is refl

gate_switch : (bytes : List Byte) (n : ℕ) → n % 8 ≡ 6 → manager_gate bytes n ≡ Open
gate_switch bytes n is = rw is refl

gate_field : (bytes : List Byte) (n : ℕ) → n % 8 < 5 → manager_gate bytes n ≡ gate_by (switch_of bytes n)
gate_field bytes n small =
    let five : eqb (n % 8) 5 ≡ false = grind (arith, nat_tests) in
    let six : eqb (n % 8) 6 ≡ false = grind (arith, nat_tests) in
    let seven : eqb (n % 8) 7 ≡ false = grind (arith, nat_tests) in
    rw (five, six, seven) refl

writable_switch : (m : List ℕ) (a : ℕ) → (a - 2048) % 8 ≡ 6 → is_writable_field m a ≡ true
writable_switch m a is = rw is refl

writable_barred : (m : List ℕ) (a : ℕ) → ((a - 2048) % 8 ≡ 5) ⊎ ((a - 2048) % 8 ≡ 7)
    → is_writable_field m a ≡ false
writable_barred m a (inl is) = rw is refl
writable_barred m a (inr is) = rw is refl

writable_by : (m : List ℕ) (a : ℕ) → (a - 2048) % 8 < 5
    → is_writable_field m a ≡ not (is_active (sync_manager_at m ((a - 2048) / 8)))
writable_by m a small =
    let six : eqb ((a - 2048) % 8) 6 ≡ false = grind (arith, nat_tests) in
    let low : ltb ((a - 2048) % 8) 5 ≡ true = grind (arith, nat_tests) in
    rw (six, low) refl

-- the gate of a byte of a sync manager
gate_manager : (bytes : List Byte) (a : ℕ) → 2048 ≤ a → a < 2112
    → gate_at bytes a ≡ manager_gate bytes (a - 2048)
unfolding gate_at
gate_manager bytes a low high =
    rw (behind_range 304 310 a (omega arith) (omega arith), in_range 2048 2112 a low high) refl

gate_status : (bytes : List Byte) (a : ℕ) → 304 ≤ a → a < 310 → gate_at bytes a ≡ Shut
unfolding gate_at
gate_status bytes a low high = rw (in_range 304 310 a low high) refl

-- a sync manager that is not enabled is not active
not_enabled : (m : List ℕ) (j : ℕ) → is_enabled (sync_manager_at m j) ≡ false
    → is_active (sync_manager_at m j) ≡ false
unfolding is_active
not_enabled m j off = rw off refl

-- ---- what is open takes writes

manager_open : (states : Bool) (s : Slave) (c : ControllerState) (a : ℕ) → IsSlaveSo states s c → 2048 ≤ a
    → a < 2112 → IsOffset ((a - 2048) % 8) → manager_gate s.bytes (a - 2048) ≡ Open
    → is_writable_field c.memory a ≡ true
manager_open states s c a so low high (barred is) opened =
    let same : Shut ≡ Open = sym (gate_barred s.bytes (a - 2048) is) ∙ opened in absurd (cc)
manager_open states s c a so low high (switch is) opened = writable_switch c.memory a is
manager_open states s c a so low high (field small) opened =
    let j : ℕ = (a - 2048) / 8 in
    let below : j < 8 = omega (arith, low, high) in
    let told = open_off (switch_of s.bytes (a - 2048))
    (sym (gate_field s.bytes (a - 2048) small) ∙ opened) in
    let is : get_or c.memory (2054 + 8 * j) 0 ≡ told.0 =
    so.told (2054 + 8 * j) (j * 8 + 142) told.0 (place_switch j below) (claimed_switch states j) told.1 in
    let off : is_enabled (sync_manager_at c.memory j) ≡ false =
    enabled_by c.memory j ∙ ap (λ (b : ℕ). eqb (bit_at b 0) 1) is ∙ told.2 in
    writable_by c.memory a small ∙ ap not (not_enabled c.memory j off)

open_by : (states : Bool) (s : Slave) (c : ControllerState) (a p : ℕ) → IsSlaveSo states s c → IsKept a p
    → gate_at s.bytes a ≡ Open → takes_writes c.memory a ≡ true
open_by states s c a p so (station low high is) opened = takes_station c.memory a low high
open_by states s c a p so (status low high is) opened =
    let same : Shut ≡ Open = sym (gate_status s.bytes a low high) ∙ opened in absurd (cc)
open_by states s c a p so (fmmu low high is) opened = takes_fmmu c.memory a low high
open_by states s c a p so (manager low high is) opened =
    takes_manager c.memory a low high
    ∙ manager_open states s c a so low high (offset_is (a - 2048)) (sym (gate_manager s.bytes a low high)
    ∙ opened)

-- a byte whose gate is open takes writes
pub open_takes : (states : Bool) (s : Slave) (c : ControllerState) (a p : ℕ) → IsSlaveSo states s c
    → place_of a ≡ Some p → gate_at s.bytes a ≡ Open → takes_writes c.memory a ≡ true
open_takes states s c a p so place opened = open_by states s c a p so (kept a p place) opened

-- ---- what is shut does not

manager_shut : (states : Bool) (s : Slave) (c : ControllerState) (a : ℕ) → IsSlaveSo states s c → IsGuarding c
    → 2048 ≤ a → a < 2112 → IsOffset ((a - 2048) % 8) → manager_gate s.bytes (a - 2048) ≡ Shut
    → is_writable_field c.memory a ≡ false
manager_shut states s c a so guarding low high (barred is) closed = writable_barred c.memory a is
manager_shut states s c a so guarding low high (switch is) closed =
    let same : Open ≡ Shut = sym (gate_switch s.bytes (a - 2048) is) ∙ closed in absurd (cc)
manager_shut states s c a so guarding low high (field small) closed =
    let j : ℕ = (a - 2048) / 8 in
    let below : j < 8 = omega (arith, low, high) in
    ⊎_elim
    (λ (told : (b : ℕ) × (switch_of s.bytes (a - 2048) ≡ Told b) × (eqb (bit_at b 0) 1 ≡ true)).
    let is : get_or c.memory (2054 + 8 * j) 0 ≡ told.0 =
    so.told (2054 + 8 * j) (j * 8 + 142) told.0 (place_switch j below) (claimed_switch states j) told.1 in
    let on : is_enabled (sync_manager_at c.memory j) ≡ true =
    enabled_by c.memory j ∙ ap (λ (b : ℕ). eqb (bit_at b 0) 1) is ∙ told.2 in
    writable_by c.memory a small ∙ ap not (guarding.active j below on))
    (λ (guessed : (b : ℕ) × (switch_of s.bytes (a - 2048) ≡ Guessed b)).
    absurd (so.sure (2054 + 8 * j) (j * 8 + 142) guessed.0 (place_switch j below)
    (free_switch j below) guessed.1))
    (shut_on (switch_of s.bytes (a - 2048)) (sym (gate_field s.bytes (a - 2048) small) ∙ closed))
  where
    free_switch : (j : ℕ) → j < 8 → is_free (2054 + 8 * j) ≡ true
    free_switch j below =
        let offset : (2054 + 8 * j - 2048) % 8 ≡ 6 = omega arith in
        rw (
          behind_range 16 18 (2054 + 8 * j) (omega arith) (omega arith),
          behind_range 1536 1664 (2054 + 8 * j) (omega arith) (omega arith),
          in_range 2048 2112 (2054 + 8 * j) (omega arith) (omega arith),
          offset,
        ) refl

gate_station : (bytes : List Byte) (a : ℕ) → a < 304 → gate_at bytes a ≡ Open
unfolding gate_at
gate_station bytes a low = rw (below_range 304 310 a low, below_range 2048 2112 a (omega arith)) refl

gate_fmmu : (bytes : List Byte) (a : ℕ) → 1536 ≤ a → a < 1664 → gate_at bytes a ≡ Open
unfolding gate_at
gate_fmmu bytes a low high =
    rw (behind_range 304 310 a (omega arith) (omega arith), below_range 2048 2112 a (omega arith)) refl

shut_by : (states : Bool) (s : Slave) (c : ControllerState) (a p : ℕ) → IsSlaveSo states s c → IsGuarding c
    → IsKept a p → gate_at s.bytes a ≡ Shut → takes_writes c.memory a ≡ false
shut_by states s c a p so guarding (station low high is) closed =
    let same : Open ≡ Shut = sym (gate_station s.bytes a (omega arith)) ∙ closed in absurd (cc)
shut_by states s c a p so guarding (status low high is) closed = takes_status c.memory a low high
shut_by states s c a p so guarding (fmmu low high is) closed =
    let same : Open ≡ Shut = sym (gate_fmmu s.bytes a low high) ∙ closed in absurd (cc)
shut_by states s c a p so guarding (manager low high is) closed =
    takes_manager c.memory a low high
    ∙ manager_shut states s c a so guarding low high (offset_is (a - 2048))
    (sym (gate_manager s.bytes a low high) ∙ closed)

-- a byte whose gate is shut takes none
pub shut_takes : (states : Bool) (s : Slave) (c : ControllerState) (a p : ℕ) → IsSlaveSo states s c
    → IsGuarding c → place_of a ≡ Some p → gate_at s.bytes a ≡ Shut → takes_writes c.memory a ≡ false
shut_takes states s c a p so guarding place closed = shut_by states s c a p so guarding
    (kept a p place) closed

-- ---- what is always written

free_by : (bytes : List Byte) (a p : ℕ) → IsKept a p → is_free a ≡ true → gate_at bytes a ≡ Open
free_by bytes a p (station low high is) free = gate_station bytes a (omega arith)
free_by bytes a p (status low high is) free =
    let no : is_free a ≡ false =
    rw (
      behind_range 16 18 a (omega arith) (omega arith),
      below_range 1536 1664 a (omega arith),
      below_range 2048 2112 a (omega arith),
    ) refl in
    let same : true ≡ false = sym free ∙ no in absurd (cc)
free_by bytes a p (fmmu low high is) free = gate_fmmu bytes a low high
free_by bytes a p (manager low high is) free =
    let tested : is_free a ≡ eqb ((a - 2048) % 8) 6 =
    rw (
      behind_range 16 18 a (omega arith) (omega arith),
      behind_range 1536 1664 a (omega arith) (omega arith),
      in_range 2048 2112 a low high,
    ) refl in
    gate_manager bytes a low high
    ∙ gate_switch bytes (a - 2048) (eqb-true ((a - 2048) % 8) 6 (sym tested ∙ free))

-- the gate of a byte that is always written is open
pub free_open : (bytes : List Byte) (a p : ℕ) → place_of a ≡ Some p → is_free a ≡ true
    → gate_at bytes a ≡ Open
free_open bytes a p place free = free_by bytes a p (kept a p place) free

free_takes_by : (m : List ℕ) (a p : ℕ) → IsKept a p → is_free a ≡ true → takes_writes m a ≡ true
free_takes_by m a p (station low high is) free = takes_station m a low high
free_takes_by m a p (status low high is) free =
    let no : is_free a ≡ false =
    rw (
      behind_range 16 18 a (omega arith) (omega arith),
      below_range 1536 1664 a (omega arith),
      below_range 2048 2112 a (omega arith),
    ) refl in
    let same : true ≡ false = sym free ∙ no in absurd (cc)
free_takes_by m a p (fmmu low high is) free = takes_fmmu m a low high
free_takes_by m a p (manager low high is) free =
    let tested : is_free a ≡ eqb ((a - 2048) % 8) 6 =
    rw (
      behind_range 16 18 a (omega arith) (omega arith),
      behind_range 1536 1664 a (omega arith) (omega arith),
      in_range 2048 2112 a low high,
    ) refl in
    takes_manager m a low high
    ∙ writable_switch m a (eqb-true ((a - 2048) % 8) 6 (sym tested ∙ free))

-- and it takes writes, whatever the memory is
pub free_takes : (m : List ℕ) (a p : ℕ) → place_of a ≡ Some p → is_free a ≡ true → takes_writes m a ≡ true
free_takes m a p place free = free_takes_by m a p (kept a p place) free
