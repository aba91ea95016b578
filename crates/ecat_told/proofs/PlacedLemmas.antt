-- A datagram by place over a line: which slave took it, or answered.
use Rattle.std.proofs.Common.{◌≡◌, ℕ, zero, suc, ◌+◌, ◌%◌, ◌<◌, ◌≤◌, Bool, true, false, cond, ltb, eqb, ◌&&◌}
use Rattle.std.proofs.Common.{List, [], ◌∷◌, length, get_or, set, refl, sym, ap, ◌∙◌, arith, ⊎_elim, subst}
use Rattle.std.specs.List.{AllByRecursion}
use Rattle.std.proofs.lemmas.Bool.{cases_Bool}
use Rattle.std.proofs.lemmas.Bool.Decides.{nat_tests}
use Rattle.std.proofs.Math.Bool.{and-false}
use Rattle.ec_regs.specs.Bits.{AreBytes}
use Rattle.ec_wire.specs.Command.{addressing, is_counted, reads, writes}
use Rattle.ec_wire.specs.Datagram.{DatagramRecord, adp_of, ado_of}
use Rattle.ec_wire.specs.declared.command.Addressing.{Addressing}
use Rattle.ec_wire.specs.declared.command.Addressing.TheVariants.{AutoIncrement}
use Rattle.ec_merge.specs.Rule.{distance}
use Rattle.ec_esc.specs.Pass.{is_addressed, pass, serves_range_read, serves_range_write, serves_reading}
use Rattle.ec_esc.specs.Pass.{serves_writing}
use Rattle.ec_esc.specs.State.{ControllerState}
use Rattle.ec_esc.proofs.Laws.{gain_served}
use Rattle.ecat_told.specs.declared.byte.How.{How}
use Rattle.ecat_told.specs.declared.byte.How.TheVariants.{Lost, Read, Written}
use Rattle.ecat_told.specs.declared.slave.Slave.{Slave}
use Rattle.ecat_told.specs.Known.{at_place, is_logical}
use Rattle.ecat_told.specs.Slave.{told_run, untold}
use Rattle.ecat_told.specs.So.{AreSo, IsSlaveSo}
use Rattle.ecat_told.specs.Journeys.{IsGuarding}
use Rattle.ecat_told.proofs.ArrivalLemmas.{gain, nothing_gained, passed_ado, passed_adp, passed_bytes}
use Rattle.ecat_told.proofs.ArrivalLemmas.{passed_command}
use Rattle.ecat_told.proofs.ArrivalLemmas.{passed_size}
use Rattle.ecat_told.proofs.EverybodyLemmas.{IsWrite, counted_served, write_goes_on, write_served}
use Rattle.ecat_told.proofs.LineLemmas.{HaveMemory, came, gains, left, left_by, reached_from, uncounted_so}
use Rattle.ecat_told.proofs.PassLemmas.{serves_command, serves_datagram, unserved_stays, unwritten}
use Rattle.ecat_told.proofs.ReadLemmas.{IsRead, came_unread, counted_gives, read_gives, read_goes_on}
use Rattle.ecat_told.proofs.ReadLemmas.{read_physical}
use Rattle.ecat_told.proofs.ReadLemmas.{read_unwritten}
use Rattle.ecat_told.proofs.ToldLemmas.{so_forgotten, so_lost, so_read, so_stays, so_written}

-- the slave at a place is changed, if there is one
unfoldable pub changed_at : ℕ → (Slave → Slave) → List Slave → List Slave
changed_at i f [] = []
changed_at zero f (s ∷ ss) = f s ∷ ss
changed_at (suc i) f (s ∷ ss) = s ∷ changed_at i f ss

at_step : (i : ℕ) (f : Slave → Slave) (s : Slave) (ss : List Slave) (b : Bool)
    → cond b (set (s ∷ ss) (suc i) (f (get_or (s ∷ ss) (suc i) untold))) (s ∷ ss)
    ≡ s ∷ cond b (set ss i (f (get_or ss i untold))) ss
at_step i f s ss true = refl
at_step i f s ss false = refl

one_less : (i n : ℕ) → ltb (suc i) (suc n) ≡ ltb i n
one_less i n =
    ⊎_elim
    (λ (below : ltb i n ≡ true).
    let more : ltb (suc i) (suc n) ≡ true = grind (arith, nat_tests) in more ∙ sym below)
    (λ (past : ltb i n ≡ false).
    let more : ltb (suc i) (suc n) ≡ false = grind (arith, nat_tests) in more ∙ sym past)
    (cases_Bool (ltb i n))

changed_is : (i : ℕ) (f : Slave → Slave) (ss : List Slave)
    → cond (ltb i (length ss)) (set ss i (f (get_or ss i untold))) ss ≡ changed_at i f ss
unfolding changed_at
changed_is i f [] =
    let past : ltb i 0 ≡ false = grind (arith, nat_tests) in rw past refl
changed_is zero f (s ∷ ss) =
    let here : ltb 0 (suc (length ss)) ≡ true = grind (arith, nat_tests) in rw here refl
changed_is (suc i) f (s ∷ ss) =
    at_step i f s ss (ltb (suc i) (suc (length ss)))
    ∙ ap (λ b. s ∷ cond b (set ss i (f (get_or ss i untold))) ss) (one_less i (length ss))
    ∙ ap (λ xs. s ∷ xs) (changed_is i f ss)

-- that is what is told of a place
pub at_place_is : (how : How) (i from : ℕ) (values : List ℕ) (ss : List Slave)
    → at_place how i from values ss ≡ changed_at i (told_run how from values) ss
at_place_is how i from values ss = changed_is i (told_run how from values) ss

-- ---- who is meant

abbrev pub IsPlaced : DatagramRecord → Type 0
IsPlaced d = addressing d.command ≡ AutoIncrement

pub placed_on : (c : ControllerState) (d : DatagramRecord) → IsPlaced d → IsPlaced (pass c d).datagram
placed_on c d placed = ap addressing (passed_command c d) ∙ placed

-- whoever finds an ADP other than 0 does not write
unmeant : (c : ControllerState) (d : DatagramRecord) → IsPlaced d → eqb (adp_of d.address) 0 ≡ false
    → serves_datagram c d ≡ false
unfolding serves_datagram serves_command
unmeant c d placed other =
    ap (λ (x : Addressing). writes d.command && (is_addressed x c d.address
    && serves_range_write c (ado_of d.address) (length d.payload))) placed
    ∙ ap (λ b. writes d.command && (b && serves_range_write c (ado_of d.address) (length d.payload))) other
    ∙ and-false (writes d.command)

-- and does not count
unmeant_gain : (c : ControllerState) (d : DatagramRecord) → IsPlaced d
    → eqb (adp_of d.address) 0 ≡ false → gain c d ≡ 0
unfolding gain
unmeant_gain c d placed other =
    let x = d.command in
    let n : ℕ = length d.payload in
    gain_served x c d.address n
    ∙ ap (λ (a : Addressing). cond (reads x && serves_reading a c d.address n) 1 0
    + cond (writes x && serves_writing a c d.address n) (cond (reads x) 2 1) 0) placed
    ∙ ap (λ b. cond (reads x && (b && serves_range_read c (ado_of d.address) n)) 1 0
    + cond (writes x && (b && serves_range_write c (ado_of d.address) n)) (cond (reads x) 2 1) 0) other
    ∙ nothing_gained (reads x) (writes x) (cond (reads x) 2 1)

next_adp : (c : ControllerState) (d : DatagramRecord) → IsPlaced d
    → adp_of (pass c d).datagram.address ≡ (adp_of d.address + 1) % 65536
next_adp c d placed = passed_adp c d (ap is_counted placed)

-- behind the slave that is meant nobody is
pub beyond_so : (states : Bool) (k : ℕ) (ss : List Slave) (cs : List ControllerState) (d : DatagramRecord)
    → IsPlaced d → is_logical d.command ≡ false → 1 ≤ adp_of d.address → adp_of d.address + length cs < 65536
    → HaveMemory cs → AreSo states ss cs → AreSo states ss (left_by k cs d)
unfolding left_by
beyond_so states zero ss cs d placed physical low high have so = so
beyond_so _ (suc _) [] [] _ _ _ _ _ _ _ = tt
beyond_so _ (suc _) [] (_ ∷ _) _ _ _ _ _ _ so = absurd so
beyond_so _ (suc _) (_ ∷ _) [] _ _ _ _ _ _ so = absurd so
beyond_so states (suc k) (s ∷ ss) (c ∷ cs) d placed physical low high have so =
    let other : eqb (adp_of d.address) 0 ≡ false = grind (arith, nat_tests) in
    let next = next_adp c d placed in (
      so_stays states s c (pass c d).state so.0 (unserved_stays c d have.0 physical
          (unmeant c d placed other)),
      beyond_so states k ss cs (pass c d).datagram (placed_on c d placed)
          (ap is_logical (passed_command c d) ∙ physical) (omega (arith, next, low, high))
          (omega (arith, next, low, high)) have.1 so.1,
    )

-- nobody counts there
pub beyond_gains : (cs : List ControllerState) (d : DatagramRecord) → IsPlaced d → 1 ≤ adp_of d.address
    → adp_of d.address + length cs < 65536 → gains cs d ≡ 0
unfolding gains
beyond_gains [] d placed low high = refl
beyond_gains (c ∷ cs) d placed low high =
    let other : eqb (adp_of d.address) 0 ≡ false = grind (arith, nat_tests) in
    let next = next_adp c d placed in
    let first = unmeant_gain c d placed other in
    let rest = beyond_gains cs (pass c d).datagram (placed_on c d placed) (omega (arith, next, low, high))
    (omega (arith, next, low, high)) in
    omega (arith, first, rest)

-- ---- anything may be written

-- where nothing was written
pub forgotten_at : (states : Bool) (i : ℕ) (ss : List Slave) (cs : List ControllerState) (from : ℕ)
    (values : List ℕ) → AreSo states ss cs → AreSo states (changed_at i (told_run Lost from values) ss) cs
unfolding changed_at
forgotten_at _ _ [] [] _ _ _ = tt
forgotten_at _ _ [] (_ ∷ _) _ _ so = absurd so
forgotten_at _ zero (_ ∷ _) [] _ _ so = absurd so
forgotten_at _ (suc _) (_ ∷ _) [] _ _ so = absurd so
forgotten_at states zero (s ∷ ss) (c ∷ cs) from values so = (so_forgotten states s c from values so.0, so.1)
forgotten_at states (suc i) (s ∷ ss) (c ∷ cs) from values so =
    (so.0, forgotten_at states i ss cs from values so.1)

-- in the slave that is meant
pub lost_at : (states : Bool) (k i : ℕ) (ss : List Slave) (cs : List ControllerState) (d : DatagramRecord)
    (from : ℕ) (values : List ℕ) → IsPlaced d → is_logical d.command ≡ false → AreBytes d.payload
    → ado_of d.address ≡ from → length d.payload ≡ length values → i ≡ distance (adp_of d.address) 0
    → length cs ≤ 256 → HaveMemory cs → AllByRecursion IsGuarding cs → AreSo states ss cs
    → AreSo states (changed_at i (told_run Lost from values) ss) (left_by k cs d)
unfolding left_by changed_at
lost_at states zero i ss cs d from values placed physical are place size meant few have guarding so =
    forgotten_at states i ss cs from values so
lost_at _ (suc _) _ [] [] _ _ _ _ _ _ _ _ _ _ _ _ _ = tt
lost_at _ (suc _) _ [] (_ ∷ _) _ _ _ _ _ _ _ _ _ _ _ _ so = absurd so
lost_at _ (suc _) zero (_ ∷ _) [] _ _ _ _ _ _ _ _ _ _ _ _ so = absurd so
lost_at _ (suc _) (suc _) (_ ∷ _) [] _ _ _ _ _ _ _ _ _ _ _ _ so = absurd so
lost_at states (suc k) zero (s ∷ ss) (c ∷ cs) d from values placed physical are place size meant few have
    guarding so =
    let next = next_adp c d placed in (
      so_lost states s c (pass c d).state from values so.0 guarding.0
          (reached_from c d from values have.0 are physical place size),
      beyond_so states k ss cs (pass c d).datagram (placed_on c d placed)
          (ap is_logical (passed_command c d) ∙ physical) (omega (arith, next, meant, few))
          (omega (arith, next, meant, few)) have.1 so.1,
    )
lost_at states (suc k) (suc i) (s ∷ ss) (c ∷ cs) d from values placed physical are place size meant few have
    guarding so =
    let next = next_adp c d placed in
    let some : 1 ≤ adp_of d.address = omega (arith, meant) in
    let other : eqb (adp_of d.address) 0 ≡ false = grind (arith, nat_tests) in (
      so_stays states s c (pass c d).state so.0 (unserved_stays c d have.0 physical
          (unmeant c d placed other)),
      lost_at states k i ss cs (pass c d).datagram from values (placed_on c d placed)
          (ap is_logical (passed_command c d) ∙ physical) (passed_bytes c d) (passed_ado c d ∙ place)
          (passed_size c d ∙ size) (omega (arith, next, meant)) (omega (arith, few)) have.1 guarding.1 so.1,
    )

-- ---- it took a write

pub written_at : (states : Bool) (i : ℕ) (ss : List Slave) (cs : List ControllerState) (d : DatagramRecord)
    (from : ℕ) (values : List ℕ) → IsPlaced d → IsWrite d from values → i ≡ distance (adp_of d.address) 0
    → gains cs d ≡ 1 → length cs ≤ 256 → HaveMemory cs → AllByRecursion IsGuarding cs → AreSo states ss cs
    → AreSo states (changed_at i (told_run Written from values) ss) (left cs d)
unfolding left gains changed_at
written_at _ _ [] [] _ _ _ _ _ _ _ _ _ _ _ = tt
written_at _ _ [] (_ ∷ _) _ _ _ _ _ _ _ _ _ _ so = absurd so
written_at _ zero (_ ∷ _) [] _ _ _ _ _ _ _ _ _ _ so = absurd so
written_at _ (suc _) (_ ∷ _) [] _ _ _ _ _ _ _ _ _ _ so = absurd so
written_at states zero (s ∷ ss) (c ∷ cs) d from values placed is meant counted few have guarding so =
    let next = next_adp c d placed in
    let on = write_goes_on c d from values is in
    let rest : gains cs (pass c d).datagram ≡ 0 =
    beyond_gains cs (pass c d).datagram (placed_on c d placed) (omega (arith, next, meant, few))
    (omega (arith, next, meant, few)) in (
      so_written states s c (pass c d).state from values so.0 guarding.0
          (write_served c d from values have.0 is
          (counted_served c d from values is (omega (arith, counted, rest)))),
      uncounted_so states ss cs (pass c d).datagram on.physical rest have.1 so.1,
    )
written_at states (suc i) (s ∷ ss) (c ∷ cs) d from values placed is meant counted few have guarding so =
    let next = next_adp c d placed in
    let some : 1 ≤ adp_of d.address = omega (arith, meant) in
    let other : eqb (adp_of d.address) 0 ≡ false = grind (arith, nat_tests) in
    let first = unmeant_gain c d placed other in (
      so_stays states s c (pass c d).state so.0 (unserved_stays c d have.0 is.physical
          (unmeant c d placed other)),
      written_at states i ss cs (pass c d).datagram from values (placed_on c d placed)
          (write_goes_on c d from values is) (omega (arith, next, meant)) (omega (arith, counted, first))
          (omega (arith, few)) have.1 guarding.1 so.1,
    )

-- ---- it answered a read

pub read_at : (states : Bool) (i : ℕ) (ss : List Slave) (cs : List ControllerState) (d : DatagramRecord)
    (from n : ℕ) → IsPlaced d → IsRead d from n → i ≡ distance (adp_of d.address) 0 → gains cs d ≡ 1
    → length cs ≤ 256 → HaveMemory cs → AreSo states ss cs
    → AreSo states (changed_at i (told_run Read from (came cs d).payload) ss) (left cs d)
unfolding came left gains changed_at
read_at _ _ [] [] _ _ _ _ _ _ _ _ _ _ = tt
read_at _ _ [] (_ ∷ _) _ _ _ _ _ _ _ _ _ so = absurd so
read_at _ zero (_ ∷ _) [] _ _ _ _ _ _ _ _ _ so = absurd so
read_at _ (suc _) (_ ∷ _) [] _ _ _ _ _ _ _ _ _ so = absurd so
read_at states zero (s ∷ ss) (c ∷ cs) d from n placed is meant counted few have so =
    let next = next_adp c d placed in
    let on = read_goes_on c d from n is in
    let rest : gains cs (pass c d).datagram ≡ 0 =
    beyond_gains cs (pass c d).datagram (placed_on c d placed) (omega (arith, next, meant, few))
    (omega (arith, next, meant, few)) in
    let same : (came cs (pass c d).datagram).payload ≡ (pass c d).datagram.payload =
    came_unread cs (pass c d).datagram from n on rest in
    let size : length (pass c d).datagram.payload ≡ n = on.size in (
      subst (λ vs. IsSlaveSo states (told_run Read from vs s) (pass c d).state) (sym same)
          (so_read states s c (pass c d).state from (pass c d).datagram.payload so.0
          (unserved_stays c d have.0 (read_physical d.command is.reading)
          (unwritten c d (read_unwritten d.command is.reading)))
          (λ k below. read_gives c d from n k have.0 is
          (counted_gives c d is.reading (omega (arith, counted, rest))) (omega (arith, below, size)))),
      uncounted_so states ss cs (pass c d).datagram (read_physical
          (pass c d).datagram.command on.reading) rest have.1
          so.1,
    )
read_at states (suc i) (s ∷ ss) (c ∷ cs) d from n placed is meant counted few have so =
    let next = next_adp c d placed in
    let some : 1 ≤ adp_of d.address = omega (arith, meant) in
    let other : eqb (adp_of d.address) 0 ≡ false = grind (arith, nat_tests) in
    let first = unmeant_gain c d placed other in (
      so_stays states s c (pass c d).state so.0
          (unserved_stays c d have.0 (read_physical d.command is.reading) (unmeant c d placed other)),
      read_at states i ss cs (pass c d).datagram from n (placed_on c d placed) (read_goes_on c d from n is)
          (omega (arith, next, meant)) (omega (arith, counted, first)) (omega (arith, few)) have.1 so.1,
    )
