-- A datagram by station over a line of which at most one controller has it: which slave took it, or answered.
use Rattle.std.proofs.Common.{◌≡◌, ℕ, zero, suc, ◌+◌, ◌*◌, ◌<◌, ◌≤◌, Bool, true, false, cond, eqb, ◌&&◌}
use Rattle.std.proofs.Common.{List, [], ◌∷◌, length, map, get_or, Option, None, Some, refl, sym, ap, ◌∙◌}
use Rattle.std.proofs.Common.{arith, ⊎_elim}
use Rattle.std.proofs.Common.{count_by, inl, inr}
use Rattle.std.specs.List.{AllByRecursion}
use Rattle.std.proofs.lemmas.Bool.{cases_Bool, eqb-true, eq-eqb}
use Rattle.std.proofs.lemmas.List.Sums.{sum_by-cons}
use Rattle.std.proofs.Math.Bool.{and-false}
use Rattle.ec_regs.specs.Bits.{AreBytes}
use Rattle.ec_wire.specs.Command.{addressing, is_counted, reads, writes}
use Rattle.ec_wire.specs.Datagram.{DatagramRecord, adp_of, ado_of}
use Rattle.ec_wire.specs.declared.command.Addressing.{Addressing}
use Rattle.ec_wire.specs.declared.command.Addressing.TheVariants.{ConfiguredStation}
use Rattle.ec_esc.specs.Pass.{is_addressed, pass, serves_range_read, serves_range_write, serves_reading}
use Rattle.ec_esc.specs.Pass.{serves_writing}
use Rattle.ec_esc.specs.State.{ControllerState, word_at}
use Rattle.ec_esc.proofs.Laws.{gain_served}
use Rattle.ecat_told.specs.declared.byte.Byte.{Byte}
use Rattle.ecat_told.specs.declared.byte.Byte.TheVariants.{Untold, Guessed, Told, Lost as LostByte}
use Rattle.ecat_told.specs.declared.byte.How.TheVariants.{Lost, Read, Written}
use Rattle.ecat_told.specs.declared.slave.Slave.{Slave}
use Rattle.ecat_told.specs.Known.{at_station, by_station, is_logical}
use Rattle.ecat_told.specs.Registers.{place_of}
use Rattle.ecat_told.specs.Slave.{is_at, is_some_at, station_of, value_of, word_of}
use Rattle.ecat_told.specs.So.{AreSo, IsClaimed, IsSlaveSo}
use Rattle.ecat_told.specs.Journeys.{IsGuarding}
use Rattle.ecat_told.proofs.Reached.{IsReached, IsWrittenRun}
use Rattle.ecat_told.specs.So.{has_station, is_free}
use Rattle.ecat_told.proofs.Reached.{SameRegisters}
use Rattle.ecat_told.proofs.ArrivalLemmas.{gain, nothing_gained, passed_ado, passed_address, passed_bytes}
use Rattle.ecat_told.proofs.ArrivalLemmas.{passed_command}
use Rattle.ecat_told.proofs.ArrivalLemmas.{passed_size}
use Rattle.ecat_told.proofs.EverybodyLemmas.{IsWrite, counted_served, write_goes_on, write_served}
use Rattle.ecat_told.proofs.LineLemmas.{HaveMemory, came, gains, left, left_by, reached_from}
use Rattle.ecat_told.proofs.PassLemmas.{HasMemory, serves_command, serves_datagram, unserved_stays, unwritten}
use Rattle.ecat_told.proofs.ReadLemmas.{IsRead, came_unread, counted_gives, read_gives, read_goes_on}
use Rattle.ecat_told.proofs.ReadLemmas.{read_physical}
use Rattle.ecat_told.proofs.ReadLemmas.{read_unwritten}
use Rattle.ecat_told.proofs.ToldLemmas.{so_forgotten, so_lost, so_read, so_stays, so_written}

-- ---- the station that is told

value_so : (states : Bool) (s : Slave) (c : ControllerState) (a p v : ℕ) (m : Byte) → IsSlaveSo states s c
    → place_of a ≡ Some p → is_free a ≡ true → IsClaimed states a → get_or s.bytes p Untold ≡ m
    → value_of m ≡ Some v → get_or c.memory a 0 ≡ v
value_so states s c a p v Untold so place free plain is value = absurd (cc)
value_so states s c a p v LostByte so place free plain is value = absurd (cc)
value_so states s c a p v (Guessed b) so place free plain is value = absurd (so.sure a p b place free is)
value_so states s c a p v (Told b) so place free plain is value =
    let same : b ≡ v = cc in so.told a p b place plain is ∙ same

two_values : (low high : Option ℕ) (x : ℕ) → word_of low high ≡ Some x
    → (l : ℕ) × (h : ℕ) × (low ≡ Some l) × (high ≡ Some h) × (l + 256 * h ≡ x)
two_values None high x is = absurd (cc)
two_values (Some l) None x is = absurd (cc)
two_values (Some l) (Some h) x is = (l, h, refl, refl, cc)

-- is the controller's
pub station_so : (states : Bool) (s : Slave) (c : ControllerState) (x : ℕ) → IsSlaveSo states s c
    → station_of s ≡ Some x → word_at c.memory 16 ≡ x
unfolding station_of place_of
station_so states s c x so is =
    let both = two_values (value_of (get_or s.bytes 0 Untold)) (value_of (get_or s.bytes 1 Untold)) x is in
    let low = value_so states s c 16 0 both.0 (get_or s.bytes 0 Untold) so refl refl (
      (λ i same. omega
          (arith, same)),
      inr (inl (omega arith)),
    )
    refl both.2 in
    let high = value_so states s c 17 1 both.1 (get_or s.bytes 1 Untold) so refl refl (
      (λ i same. omega
          (arith, same)),
      inr (inl (omega arith)),
    )
    refl both.3 in
    let word : both.0 + 256 * both.1 ≡ x = both.4 in
    omega (arith, low, high, word)

-- ---- who is meant

abbrev pub IsStationed : DatagramRecord → Type 0
IsStationed d = addressing d.command ≡ ConfiguredStation

pub stationed_on : (c : ControllerState) (d : DatagramRecord) → IsStationed d
    → IsStationed (pass c d).datagram
stationed_on c d is = ap addressing (passed_command c d) ∙ is

pub same_address : (c : ControllerState) (d : DatagramRecord) → IsStationed d
    → (pass c d).datagram.address ≡ d.address
same_address c d is = passed_address c d (ap is_counted is)

-- whoever has another station does not write
unmeant : (c : ControllerState) (d : DatagramRecord) → IsStationed d
    → has_station (adp_of d.address) c ≡ false → serves_datagram c d ≡ false
unfolding serves_datagram serves_command
unmeant c d stationed other =
    ap (λ (x : Addressing). writes d.command && (is_addressed x c d.address
    && serves_range_write c (ado_of d.address) (length d.payload))) stationed
    ∙ ap (λ b. writes d.command && (b && serves_range_write c (ado_of d.address) (length d.payload))) other
    ∙ and-false (writes d.command)

-- and does not count
unmeant_gain : (c : ControllerState) (d : DatagramRecord) → IsStationed d
    → has_station (adp_of d.address) c ≡ false → gain c d ≡ 0
unfolding gain
unmeant_gain c d stationed other =
    let x = d.command in
    let n : ℕ = length d.payload in
    gain_served x c d.address n
    ∙ ap (λ (a : Addressing). cond (reads x && serves_reading a c d.address n) 1 0
    + cond (writes x && serves_writing a c d.address n) (cond (reads x) 2 1) 0) stationed
    ∙ ap (λ b. cond (reads x && (b && serves_range_read c (ado_of d.address) n)) 1 0
    + cond (writes x && (b && serves_range_write c (ado_of d.address) n)) (cond (reads x) 2 1) 0) other
    ∙ nothing_gained (reads x) (writes x) (cond (reads x) 2 1)

-- what this slave and this controller add to those that have it
abbrev pub told_one : ℕ → Slave → ℕ
told_one x s = cond (is_at x s) 1 0

abbrev pub has_one : ℕ → ControllerState → ℕ
has_one x c = cond (has_station x c) 1 0

told_cons : (x : ℕ) (s : Slave) (ss : List Slave)
    → count_by (is_at x) (s ∷ ss) ≡ told_one x s + count_by (is_at x) ss
told_cons x s ss = sum_by-cons (λ (t : Slave). cond (is_at x t) 1 0) s ss

has_cons : (x : ℕ) (c : ControllerState) (cs : List ControllerState)
    → count_by (has_station x) (c ∷ cs) ≡ has_one x c + count_by (has_station x) cs
has_cons x c cs = sum_by-cons (λ (e : ControllerState). cond (has_station x e) 1 0) c cs

-- where nobody has the station nobody counts
no_gains : (cs : List ControllerState) (d : DatagramRecord) → IsStationed d
    → count_by (has_station (adp_of d.address)) cs ≡ 0 → gains cs d ≡ 0
unfolding gains
no_gains [] d stationed nobody = refl
no_gains (c ∷ cs) d stationed nobody =
    let x : ℕ = adp_of d.address in
    let sum = has_cons x c cs in
    ⊎_elim
    (λ (has : has_station x c ≡ true).
    let one : has_one x c ≡ 1 = ap (λ (b : Bool). cond b 1 0) has in
    absurd (omega (arith, one, nobody, sum)))
    (λ (not_it : has_station x c ≡ false).
    let none : has_one x c ≡ 0 = ap (λ (b : Bool). cond b 1 0) not_it in
    let first = unmeant_gain c d stationed not_it in
    let more : count_by (has_station x) cs ≡ 0 = omega (arith, nobody, none, sum) in
    let rest = no_gains cs (pass c d).datagram (stationed_on c d stationed)
    (ap (λ a. count_by (has_station (adp_of a)) cs) (same_address c d stationed) ∙ more) in
    omega (arith, first, rest))
    (cases_Bool (has_station x c))

-- ---- holders

-- whose station is told to be it has it
told_has : (states : Bool) (x : ℕ) (s : Slave) (c : ControllerState) (o : Option ℕ) → IsSlaveSo states s c
    → station_of s ≡ o → is_some_at x o ≡ true → has_station x c ≡ true
told_has states x s c None so is at = absurd (cc)
told_has states x s c (Some y) so is at =
    let word = station_so states s c y so is in
    let same : y ≡ x = eqb-true y x at in
    eq-eqb x (word_at c.memory 16) (sym same ∙ sym word)

one_le : (states : Bool) (x : ℕ) (s : Slave) (c : ControllerState) → IsSlaveSo states s c
    → told_one x s ≤ has_one x c
one_le states x s c so =
    ⊎_elim
    (λ (at : is_at x s ≡ true).
    let left_is : told_one x s ≡ 1 = ap (λ (b : Bool). cond b 1 0) at in
    let right_is : has_one x c ≡ 1 =
    ap (λ (b : Bool). cond b 1 0) (told_has states x s c (station_of s) so refl at) in
    omega (arith, left_is, right_is))
    (λ (not_at : is_at x s ≡ false).
    let left_is : told_one x s ≡ 0 = ap (λ (b : Bool). cond b 1 0) not_at in
    omega (arith, left_is))
    (cases_Bool (is_at x s))

-- no more slaves are told to have it than controllers have
holders_le : (states : Bool) (x : ℕ) (ss : List Slave) (cs : List ControllerState) → AreSo states ss cs
    → count_by (is_at x) ss ≤ count_by (has_station x) cs
holders_le states x [] [] so = omega arith
holders_le _ _ [] (_ ∷ _) so = absurd so
holders_le _ _ (_ ∷ _) [] so = absurd so
holders_le states x (s ∷ ss) (c ∷ cs) so =
    let first = one_le states x s c so.0 in
    let rest = holders_le states x ss cs so.1 in
    let told = told_cons x s ss in
    let has = has_cons x c cs in
    omega (arith, first, rest, told, has)

-- so many holders are told of all, and so many of those before; and so many controllers before have it
pub record AreHolders (x all told has : ℕ) (ss : List Slave) (cs : List ControllerState) : Type 0 where
  pub sum : told + count_by (is_at x) ss ≡ all
  pub fewer : told ≤ has
  pub alone : has + count_by (has_station x) cs ≤ 1

holders_on : (states : Bool) (x all told has : ℕ) (s : Slave) (ss : List Slave) (c : ControllerState)
    (cs : List ControllerState) → IsSlaveSo states s c → AreHolders x all told has (s ∷ ss) (c ∷ cs)
    → AreHolders x all (told + told_one x s) (has + has_one x c) ss cs
holders_on states x all told has s ss c cs so are =
    let first = one_le states x s c so in
    let sum : told + count_by (is_at x) (s ∷ ss) ≡ all = are.sum in
    let alone : has + count_by (has_station x) (c ∷ cs) ≤ 1 = are.alone in
    let more_told = told_cons x s ss in
    let more_have = has_cons x c cs in
    let fewer : told ≤ has = are.fewer in
    record {
      sum = omega (arith, sum, more_told);
      fewer = omega (arith, fewer, first);
      alone = omega (arith, alone, more_have);
    }

-- where a slave's station is not told, and another's is told to be it, its controller does not have it
untold_has_not : (states : Bool) (x all told has : ℕ) (s : Slave) (ss : List Slave) (c : ControllerState)
    (cs : List ControllerState) → AreSo states ss cs → AreHolders x all told has (s ∷ ss) (c ∷ cs)
    → station_of s ≡ None → eqb all 0 ≡ false → has_station x c ≡ false
untold_has_not states x all told has s ss c cs so are none some =
    ⊎_elim
    (λ (it : has_station x c ≡ true).
    let one : has_one x c ≡ 1 = ap (λ (b : Bool). cond b 1 0) it in
    let not_told : told_one x s ≡ 0 = ap (λ (o : Option ℕ). cond (is_some_at x o) 1 0) none in
    let rest = holders_le states x ss cs so in
    let sum : told + count_by (is_at x) (s ∷ ss) ≡ all = are.sum in
    let alone : has + count_by (has_station x) (c ∷ cs) ≤ 1 = are.alone in
    let more_told = told_cons x s ss in
    let more_have = has_cons x c cs in
    let fewer : told ≤ has = are.fewer in
    let nobody : all ≡ 0 = omega (arith, one, not_told, rest, sum, alone, fewer, more_told, more_have) in
    let both : true ≡ false = sym (eq-eqb all 0 nobody) ∙ some in
    absurd (cc))
    (λ (not_it : has_station x c ≡ false). not_it)
    (cases_Bool (has_station x c))

-- where a slave's station is told to be another its controller does not have it
other_has_not : (states : Bool) (x y : ℕ) (s : Slave) (c : ControllerState) → IsSlaveSo states s c
    → station_of s ≡ Some y → eqb y x ≡ false → has_station x c ≡ false
other_has_not states x y s c so is other =
    let word = station_so states s c y so is in
    ⊎_elim
    (λ (it : has_station x c ≡ true).
    let same : x ≡ word_at c.memory 16 = eqb-true x (word_at c.memory 16) it in
    let both : true ≡ false = sym (eq-eqb y x (sym word ∙ sym same)) ∙ other in
    absurd (cc))
    (λ (not_it : has_station x c ≡ false). not_it)
    (cases_Bool (has_station x c))

-- ---- one slave

-- of which anything may be written
lost_head : (states : Bool) (all x from : ℕ) (values : List ℕ) (s : Slave) (c e : ControllerState)
    → IsSlaveSo states s c → IsGuarding c → IsReached from (length values) c e
    → (has_station x c ≡ false → SameRegisters c e)
    → (station_of s ≡ None → eqb all 0 ≡ false → has_station x c ≡ false) → (o : Option ℕ) → station_of s ≡ o
    → IsSlaveSo states (by_station Lost all x from values s o) e
lost_head states all x from values s c e so guarding reached same unmet None is =
    ⊎_elim
    (λ (nobody : eqb all 0 ≡ true). rw nobody (so_lost states s c e from values so guarding reached))
    (λ (some : eqb all 0 ≡ false). rw some (so_stays states s c e so (same (unmet is some))))
    (cases_Bool (eqb all 0))
lost_head states all x from values s c e so guarding reached same unmet (Some y) is =
    ⊎_elim
    (λ (it : eqb y x ≡ true).
    rw it (⊎_elim
    (λ (one : eqb all 1 ≡ true). rw one (so_lost states s c e from values so guarding reached))
    (λ (more : eqb all 1 ≡ false). rw more (so_lost states s c e from values so guarding reached))
    (cases_Bool (eqb all 1))))
    (λ (other : eqb y x ≡ false).
    rw other (so_stays states s c e so (same (other_has_not states x y s c so is other))))
    (cases_Bool (eqb y x))

-- that took a write if it is meant
written_head : (states : Bool) (all x from : ℕ) (values : List ℕ) (s : Slave) (c e : ControllerState)
    → IsSlaveSo states s c → IsGuarding c → IsReached from (length values) c e
    → (has_station x c ≡ false → SameRegisters c e) → (has_station x c ≡ true → IsWrittenRun from values c e)
    → (station_of s ≡ None → eqb all 0 ≡ false → has_station x c ≡ false) → (o : Option ℕ) → station_of s ≡ o
    → IsSlaveSo states (by_station Written all x from values s o) e
written_head states all x from values s c e so guarding reached same took unmet None is =
    ⊎_elim
    (λ (nobody : eqb all 0 ≡ true). rw nobody (so_lost states s c e from values so guarding reached))
    (λ (some : eqb all 0 ≡ false). rw some (so_stays states s c e so (same (unmet is some))))
    (cases_Bool (eqb all 0))
written_head states all x from values s c e so guarding reached same took unmet (Some y) is =
    ⊎_elim
    (λ (it : eqb y x ≡ true).
    rw it (⊎_elim
    (λ (one : eqb all 1 ≡ true).
    rw one (so_written states s c e from values so guarding (took (told_has states x s c (Some y) so is it))))
    (λ (more : eqb all 1 ≡ false). rw more (so_lost states s c e from values so guarding reached))
    (cases_Bool (eqb all 1))))
    (λ (other : eqb y x ≡ false).
    rw other (so_stays states s c e so (same (other_has_not states x y s c so is other))))
    (cases_Bool (eqb y x))

-- that answered a read if it is meant
read_head : (states : Bool) (all x from : ℕ) (values : List ℕ) (s : Slave) (c e : ControllerState)
    → IsSlaveSo states s c
    → SameRegisters c e
    → (has_station x c ≡ true → (k : ℕ) → k < length values
    → get_or values k 0 ≡ get_or c.memory (from + k) 0)
    → (o : Option ℕ) → station_of s ≡ o → IsSlaveSo states (by_station Read all x from values s o) e
read_head states all x from values s c e so same gave None is =
    ⊎_elim
    (λ (nobody : eqb all 0 ≡ true). rw nobody (so_stays states s c e so same))
    (λ (some : eqb all 0 ≡ false). rw some (so_stays states s c e so same))
    (cases_Bool (eqb all 0))
read_head states all x from values s c e so same gave (Some y) is =
    ⊎_elim
    (λ (it : eqb y x ≡ true).
    rw it (⊎_elim
    (λ (one : eqb all 1 ≡ true).
    rw one (so_read states s c e from values so same (gave (told_has states x s c (Some y) so is it))))
    (λ (more : eqb all 1 ≡ false). rw more (so_stays states s c e so same))
    (cases_Bool (eqb all 1))))
    (λ (other : eqb y x ≡ false). rw other (so_stays states s c e so same))
    (cases_Bool (eqb y x))

-- ---- a line of which anything may be written

-- a station that another has leaves the registers
other_stays : (x : ℕ) (c : ControllerState) (d : DatagramRecord) → HasMemory c → IsStationed d
    → is_logical d.command ≡ false → adp_of d.address ≡ x → has_station x c ≡ false
    → SameRegisters c (pass c d).state
other_stays x c d memory stationed physical meant other =
    unserved_stays c d memory physical
    (unmeant c d stationed (ap (λ y. has_station y c) meant ∙ other))

forgotten_head : (states : Bool) (all x from : ℕ) (values : List ℕ) (s : Slave) (c : ControllerState)
    → IsSlaveSo states s c → (o : Option ℕ) → IsSlaveSo states (by_station Lost all x from values s o) c
forgotten_head states all x from values s c so None =
    ⊎_elim (λ (nobody : eqb all 0 ≡ true). rw nobody (so_forgotten states s c from values so))
    (λ (some : eqb all 0 ≡ false). rw some so)
    (cases_Bool (eqb all 0))
forgotten_head states all x from values s c so (Some y) =
    ⊎_elim
    (λ (it : eqb y x ≡ true).
    rw it
    (⊎_elim (λ (one : eqb all 1 ≡ true). rw one (so_forgotten states s c from values so))
    (λ (more : eqb all 1 ≡ false). rw more (so_forgotten states s c from values so))
    (cases_Bool (eqb all 1))))
    (λ (other : eqb y x ≡ false). rw other so)
    (cases_Bool (eqb y x))

-- where nothing was written
pub forgotten_station : (states : Bool) (all x from : ℕ) (values : List ℕ) (ss : List Slave)
    (cs : List ControllerState) → AreSo states ss cs
    → AreSo states (map (at_station Lost all x from values) ss) cs
unfolding at_station
forgotten_station _ _ _ _ _ [] [] _ = tt
forgotten_station _ _ _ _ _ [] (_ ∷ _) so = absurd so
forgotten_station _ _ _ _ _ (_ ∷ _) [] so = absurd so
forgotten_station states all x from values (s ∷ ss) (c ∷ cs) so = (
  forgotten_head states all x from values s c so.0 (station_of s),
  forgotten_station states all x from values ss cs so.1,
)

-- where it may have been
pub lost_by_station : (states : Bool) (k all x from told has : ℕ) (values : List ℕ) (ss : List Slave)
    (cs : List ControllerState) (d : DatagramRecord) → IsStationed d → is_logical d.command ≡ false
    → AreBytes d.payload → ado_of d.address ≡ from → length d.payload ≡ length values → adp_of d.address ≡ x
    → HaveMemory cs → AllByRecursion IsGuarding cs → AreHolders x all told has ss cs → AreSo states ss cs
    → AreSo states (map (at_station Lost all x from values) ss) (left_by k cs d)
unfolding left_by at_station
lost_by_station states zero all x from _ _ values ss cs _ _ _ _ _ _ _ _ _ _ so =
    forgotten_station states all x from values ss cs so
lost_by_station _ (suc _) _ _ _ _ _ _ [] [] _ _ _ _ _ _ _ _ _ _ _ = tt
lost_by_station _ (suc _) _ _ _ _ _ _ [] (_ ∷ _) _ _ _ _ _ _ _ _ _ _ so = absurd so
lost_by_station _ (suc _) _ _ _ _ _ _ (_ ∷ _) [] _ _ _ _ _ _ _ _ _ _ so = absurd so
lost_by_station states (suc k) all x from told has values (s ∷ ss) (c ∷ cs) d stationed physical are_bytes
    place size meant have guarding are so = (
      lost_head states all x from values s c (pass c d).state so.0 guarding.0
          (reached_from c d from values have.0 are_bytes physical place size)
          (other_stays x c d have.0 stationed physical meant)
          (untold_has_not states x all told has s ss c cs so.1 are) (station_of s) refl,
      lost_by_station states k all x from (told + told_one x s) (has + has_one x c) values ss cs
          (pass c d).datagram (stationed_on c d stationed) (ap is_logical (passed_command c d) ∙ physical)
          (passed_bytes c d) (passed_ado c d ∙ place) (passed_size c d ∙ size)
          (ap adp_of (same_address c d stationed) ∙ meant)
          have.1 guarding.1 (holders_on states x all told has s ss c cs so.0 are) so.1,
    )

-- ---- a line that took a write, or answered a read

-- so much was gained before by who has it, and one in all
pub record IsGained (x gained has : ℕ) (cs : List ControllerState) (d : DatagramRecord) : Type 0 where
  pub one : gained + gains cs d ≡ 1
  pub before : has ≡ 0 → gained ≡ 0

-- the one that has it gained it
meant_gain : (x all told has gained : ℕ) (s : Slave) (ss : List Slave) (c : ControllerState)
    (cs : List ControllerState) (d : DatagramRecord) → IsStationed d → adp_of d.address ≡ x
    → AreHolders x all told has (s ∷ ss) (c ∷ cs) → IsGained x gained has (c ∷ cs) d
    → has_station x c ≡ true → (gain c d ≡ 1) × (gains cs (pass c d).datagram ≡ 0)
unfolding gains
meant_gain x all told has gained s ss c cs d stationed meant are is it =
    let one : has_one x c ≡ 1 = ap (λ (b : Bool). cond b 1 0) it in
    let more = has_cons x c cs in
    let alone : has + count_by (has_station x) (c ∷ cs) ≤ 1 = are.alone in
    let nobody : has ≡ 0 = omega (arith, one, more, alone) in
    let none : count_by (has_station x) cs ≡ 0 = omega (arith, one, more, alone) in
    let first : gained ≡ 0 = is.before nobody in
    let address : adp_of (pass c d).datagram.address ≡ x = ap adp_of (same_address c d stationed) ∙ meant in
    let rest : gains cs (pass c d).datagram ≡ 0 =
    no_gains cs (pass c d).datagram (stationed_on c d stationed)
    (ap (λ y. count_by (has_station y) cs) address ∙ none) in
    let sum : gained + (gain c d + gains cs (pass c d).datagram) ≡ 1 = is.one in
    (omega (arith, first, rest, sum), rest)

gained_on : (x gained has : ℕ) (c : ControllerState) (cs : List ControllerState) (d : DatagramRecord)
    → IsStationed d → adp_of d.address ≡ x → IsGained x gained has (c ∷ cs) d
    → IsGained x (gained + gain c d) (has + has_one x c) cs (pass c d).datagram
unfolding gains
gained_on x gained has c cs d stationed meant is =
    let sum : gained + (gain c d + gains cs (pass c d).datagram) ≡ 1 = is.one in
    record {
      one = omega (arith, sum);
      before = λ nobody.
          ⊎_elim
          (λ (it : has_station x c ≡ true).
          let one : has_one x c ≡ 1 = ap (λ (b : Bool). cond b 1 0) it in
          absurd (omega (arith, one, nobody)))
          (λ (other : has_station x c ≡ false).
          let first : gain c d ≡ 0 = unmeant_gain c d stationed (ap (λ y. has_station y c) meant ∙ other) in
          let before : gained ≡ 0 = is.before (omega (arith, nobody)) in
          omega (arith, first, before))
          (cases_Bool (has_station x c));
    }

pub written_by_station : (states : Bool) (all x from told has gained : ℕ) (values : List ℕ) (ss : List Slave)
    (cs : List ControllerState) (d : DatagramRecord) → IsStationed d → IsWrite d from values
    → adp_of d.address ≡ x → HaveMemory cs → AllByRecursion IsGuarding cs → AreHolders x all told has ss cs
    → IsGained x gained has cs d → AreSo states ss cs
    → AreSo states (map (at_station Written all x from values) ss) (left cs d)
unfolding left at_station
written_by_station _ _ _ _ _ _ _ _ [] [] _ _ _ _ _ _ _ _ _ = tt
written_by_station _ _ _ _ _ _ _ _ [] (_ ∷ _) _ _ _ _ _ _ _ _ so = absurd so
written_by_station _ _ _ _ _ _ _ _ (_ ∷ _) [] _ _ _ _ _ _ _ _ so = absurd so
written_by_station states all x from told has gained values (s ∷ ss) (c ∷ cs) d stationed is meant have
    guarding are one so = (
      written_head states all x from values s c (pass c d).state so.0 guarding.0
          (reached_from c d from values have.0 is.bytes is.physical is.place (ap length is.values_are))
          (other_stays x c d have.0 stationed is.physical meant)
          (λ it. write_served c d from values have.0 is (counted_served c d from values is
          (meant_gain x all told has gained s ss c cs d stationed meant are one it).0))
          (untold_has_not states x all told has s ss c cs so.1 are) (station_of s) refl,
      written_by_station states all x from (told + told_one x s) (has + has_one x c)
          (gained + gain c d) values ss cs (pass c d).datagram (stationed_on c d stationed)
          (write_goes_on c d from values is)
          (ap adp_of (same_address c d stationed) ∙ meant) have.1 guarding.1
          (holders_on states x all told has s ss c cs so.0 are)
          (gained_on x gained has c cs d stationed meant one) so.1,
    )

pub read_by_station : (states : Bool) (all x from n told has gained : ℕ) (ss : List Slave)
    (cs : List ControllerState) (d : DatagramRecord) → IsStationed d → IsRead d from n → adp_of d.address ≡ x
    → HaveMemory cs → AreHolders x all told has ss cs → IsGained x gained has cs d → AreSo states ss cs
    → AreSo states (map (at_station Read all x from (came cs d).payload) ss) (left cs d)
unfolding came left at_station
read_by_station _ _ _ _ _ _ _ _ [] [] _ _ _ _ _ _ _ _ = tt
read_by_station _ _ _ _ _ _ _ _ [] (_ ∷ _) _ _ _ _ _ _ _ so = absurd so
read_by_station _ _ _ _ _ _ _ _ (_ ∷ _) [] _ _ _ _ _ _ _ so = absurd so
read_by_station states all x from n told has gained (s ∷ ss) (c ∷ cs) d stationed is meant have are one so =
    let on = read_goes_on c d from n is in
    let values : List ℕ = (came cs (pass c d).datagram).payload in (
      read_head states all x from values s c (pass c d).state so.0
          (unserved_stays c d have.0 (read_physical d.command is.reading)
          (unwritten c d (read_unwritten d.command is.reading)))
          (λ it k below.
          let both = meant_gain x all told has gained s ss c cs d stationed meant are one it in
          let same : values ≡ (pass c d).datagram.payload =
          came_unread cs (pass c d).datagram from n on both.1 in
          let size : length (pass c d).datagram.payload ≡ n = on.size in
          let long : length values ≡ n = ap length same ∙ size in
          ap (λ vs. get_or vs k 0) same
          ∙ read_gives c d from n k have.0 is (counted_gives c d is.reading both.0) (omega
          (arith, below, long)))
          (station_of s) refl,
      read_by_station states all x from n (told + told_one x s) (has + has_one x c) (gained + gain c d) ss cs
          (pass c d).datagram (stationed_on c d stationed) on
          (ap adp_of (same_address c d stationed) ∙ meant) have.1
          (holders_on states x all told has s ss c cs so.0 are)
          (gained_on x gained has c cs d stationed meant one)
          so.1,
    )
