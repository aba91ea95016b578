-- A broadcast write over a line: what each slave took of it.
use Rattle.std.proofs.Common.{◌≡◌, ℕ, ◌+◌, ◌-◌, ◌<◌, ◌≤◌, Bool, true, false, cond, leb, ltb, ◌&&◌, ◌||◌, List}
use Rattle.std.proofs.Common.{[], ◌∷◌}
use Rattle.std.proofs.Common.{length, map, get_or, Some, refl, ap, ◌∙◌, arith, ⊎_elim, subst}
use Rattle.std.specs.Prelude.{not}
use Rattle.std.specs.List.{AllByRecursion, range_with_len}
use Rattle.std.specs.Option.{is_some}
use Rattle.std.proofs.lemmas.Bool.{cases_Bool}
use Rattle.std.proofs.lemmas.Bool.Decides.{nat_tests}
use Rattle.std.proofs.lemmas.List.Folds.{list_any_at, list_any_none}
use Rattle.std.proofs.lemmas.List.FromFn.{get_or-range_with_len, length-range_with_len}
use Rattle.ec_regs.specs.Bits.{AreBytes}
use Rattle.ec_regs.specs.SyncMan.{is_active, is_mailbox, master_reads}
use Rattle.ec_regs.specs.declared.sync_man.SyncMan.{SyncMan}
use Rattle.ec_areas.proofs.Laws.{active_place}
use Rattle.ec_areas.specs.Ranges.{filled_by, meets, meets_locked, some_address}
use Rattle.ec_areas.specs.Ranges.{takes_writes}
use Rattle.ec_areas.specs.Records.{sync_managers_of}
use Rattle.ec_wire.specs.Command.{addressing, reads, writes}
use Rattle.ec_wire.specs.Datagram.{DatagramRecord, ado_of}
use Rattle.ec_wire.specs.declared.command.Addressing.{Addressing}
use Rattle.ec_wire.specs.declared.command.Addressing.TheVariants.{All}
use Rattle.ec_esc.specs.Pass.{is_addressed, pass, serves_range_write}
use Rattle.ec_esc.specs.State.{ControllerState}
use Rattle.ecat_told.specs.declared.byte.How.TheVariants.{MayBeWritten, Written}
use Rattle.ecat_told.specs.declared.slave.Slave.{Slave}
use Rattle.ecat_told.specs.Known.{is_logical}
use Rattle.ecat_told.specs.Registers.{place_of}
use Rattle.ecat_told.specs.Slave.{told_run}
use Rattle.ecat_told.specs.So.{AreSo, is_free}
use Rattle.ecat_told.specs.Journeys.{IsGuarding}
use Rattle.ecat_told.proofs.Reached.{IsWrittenRun}
use Rattle.ecat_told.proofs.ArrivalLemmas.{gain, passed_ado, passed_bytes, passed_command, write_gain}
use Rattle.ecat_told.proofs.ArrivalLemmas.{write_leaves}
use Rattle.ecat_told.proofs.GateLemmas.{free_takes}
use Rattle.ecat_told.proofs.LineLemmas.{HaveMemory, gains, left, reached_from}
use Rattle.ecat_told.proofs.PassLemmas.{HasMemory, serves_command, serves_datagram, served_writes}
use Rattle.ecat_told.proofs.ToldLemmas.{so_perhaps, so_written}

-- a write alone, of registers
pub record IsWrite (d : DatagramRecord) (from : ℕ) (values : List ℕ) : Type 0 where
  pub physical : is_logical d.command ≡ false
  pub alone : reads d.command ≡ false
  pub bytes : AreBytes d.payload
  pub place : ado_of d.address ≡ from
  pub values_are : d.payload ≡ values

-- it is one behind a controller
pub write_goes_on : (c : ControllerState) (d : DatagramRecord) (from : ℕ) (values : List ℕ)
    → IsWrite d from values → IsWrite (pass c d).datagram from values
write_goes_on c d from values is = record {
  physical = ap is_logical (passed_command c d) ∙ is.physical;
  alone = ap reads (passed_command c d) ∙ is.alone;
  bytes = passed_bytes c d;
  place = passed_ado c d ∙ is.place;
  values_are = write_leaves c d is.bytes is.alone ∙ is.values_are;
}

-- and where it is served its run is written
pub write_served : (c : ControllerState) (d : DatagramRecord) (from : ℕ) (values : List ℕ) → HasMemory c
    → IsWrite d from values → serves_datagram c d ≡ true → IsWrittenRun from values c (pass c d).state
write_served c d from values memory is served =
    subst (λ vs. IsWrittenRun from vs c (pass c d).state) is.values_are
    (subst (λ a. IsWrittenRun a d.payload c (pass c d).state) is.place
    (served_writes c d memory is.bytes is.physical served))

one : (b : Bool) → cond b 1 0 ≤ 1
one true = omega arith
one false = omega arith

-- it counts one at most
pub write_gain-le : (c : ControllerState) (d : DatagramRecord) (from : ℕ) (values : List ℕ)
    → IsWrite d from values → gain c d ≤ 1
write_gain-le c d from values is =
    let most = one (serves_datagram c d) in
    let counts = write_gain c d is.physical is.alone in
    omega (arith, counts, most)

-- and where it counts it is served
pub counted_served : (c : ControllerState) (d : DatagramRecord) (from : ℕ) (values : List ℕ)
    → IsWrite d from values → gain c d ≡ 1 → serves_datagram c d ≡ true
counted_served c d from values is counted =
    ⊎_elim (λ (served : serves_datagram c d ≡ true). served)
    (λ (unserved : serves_datagram c d ≡ false).
    let none : gain c d ≡ 0 =
    write_gain c d is.physical is.alone ∙ ap (λ (b : Bool). cond b 1 0) unserved in
    absurd (omega (arith, none, counted)))
    (cases_Bool (serves_datagram c d))

pub write_gains-le : (cs : List ControllerState) (d : DatagramRecord) (from : ℕ) (values : List ℕ)
    → IsWrite d from values → gains cs d ≤ length cs
unfolding gains
write_gains-le [] d from values is = omega arith
write_gains-le (c ∷ cs) d from values is =
    let first = write_gain-le c d from values is in
    let rest = write_gains-le cs (pass c d).datagram from values (write_goes_on c d from values is) in
    omega (arith, first, rest)

-- ---- all took it

-- a write that each controller counted is told of each slave
pub all_written : (states : Bool) (ss : List Slave) (cs : List ControllerState) (d : DatagramRecord)
    (from : ℕ) (values : List ℕ) → IsWrite d from values → gains cs d ≡ length cs → HaveMemory cs
    → AllByRecursion IsGuarding cs → AreSo states ss cs
    → AreSo states (map (told_run Written from values) ss) (left cs d)
unfolding gains left
all_written _ [] [] _ _ _ _ _ _ _ _ = tt
all_written _ [] (_ ∷ _) _ _ _ _ _ _ _ so = absurd so
all_written _ (_ ∷ _) [] _ _ _ _ _ _ _ so = absurd so
all_written states (s ∷ ss) (c ∷ cs) d from values is counted have guarding so =
    let on = write_goes_on c d from values is in
    let first = write_gain-le c d from values is in
    let rest = write_gains-le cs (pass c d).datagram from values on in (
      so_written states s c (pass c d).state from values so.0 guarding.0
          (write_served c d from values have.0 is
          (counted_served c d from values is (omega (arith, counted, first, rest)))),
      all_written states ss cs (pass c d).datagram from values on (omega (arith, counted, first, rest))
          have.1 guarding.1 so.1,
    )

-- ---- some took it

-- no byte of the run is always written
unfoldable pub HasNoFree : ℕ → ℕ → Type 0
HasNoFree from n = (a p : ℕ) → place_of a ≡ Some p → is_free a ≡ true → from ≤ a → a < from + n → ⊥

-- a write that some counted is guessed of each slave
pub some_wrote : (states : Bool) (ss : List Slave) (cs : List ControllerState) (d : DatagramRecord) (from : ℕ)
    (values : List ℕ) → IsWrite d from values → HasNoFree from (length values) → HaveMemory cs
    → AllByRecursion IsGuarding cs → AreSo states ss cs
    → AreSo states (map (told_run MayBeWritten from values) ss) (left cs d)
unfolding left HasNoFree
some_wrote _ [] [] _ _ _ _ _ _ _ _ = tt
some_wrote _ [] (_ ∷ _) _ _ _ _ _ _ _ so = absurd so
some_wrote _ (_ ∷ _) [] _ _ _ _ _ _ _ so = absurd so
some_wrote states (s ∷ ss) (c ∷ cs) d from values is none have guarding so = (
  so_perhaps states s c (pass c d).state from values so.0 guarding.0
      (reached_from c d from values have.0 is.bytes is.physical is.place (ap length is.values_are)) none,
  some_wrote states ss cs (pass c d).datagram from values (write_goes_on c d from values is) none have.1
      guarding.1 so.1,
)

-- registers meet no area
unmet : (s : SyncMan) (from n : ℕ) → from + n ≤ 4096 → meets s from n ≡ false
unfolding meets
unmet s from n inside =
    ⊎_elim
    (λ (active : is_active s ≡ true).
    let place = (active_place s active).0 in
    let starts : ltb s.start (from + n) ≡ false = grind (arith, nat_tests) in
    rw (active, starts) refl)
    (λ (inactive : is_active s ≡ false). rw inactive refl)
    (cases_Bool (is_active s))

unlocked : (managers : List SyncMan) (from n : ℕ) → from + n ≤ 4096 → meets_locked managers from n ≡ false
unlocked managers from n inside =
    let test : SyncMan → Bool = λ s. meets s from n && (is_mailbox s || master_reads s) in
    list_any_none test managers (λ k d below. rw (unmet (get_or managers k d) from n inside) refl)

some_at : (test : ℕ → Bool) (from n a : ℕ) → from ≤ a → a < from + n → test a ≡ true
    → some_address test from n ≡ true
unfolding some_address
some_at test from n a low high holds =
    let at : from + (a - from) ≡ a = omega (arith, low) in
    let size = length-range_with_len from n in
    list_any_at test (range_with_len from n) (a - from) 0 (omega (arith, size, low, high))
    (ap test (get_or-range_with_len from n (a - from) 0 (omega (arith, low, high)) ∙ at) ∙ holds)

-- a write of registers is served that has a byte which is always written
free_served : (c : ControllerState) (from n a p : ℕ) → place_of a ≡ Some p → is_free a ≡ true → from ≤ a
    → a < from + n → from + n ≤ 4096 → serves_range_write c from n ≡ true
free_served c from n a p place free low high inside =
    let m : List ℕ = c.memory in
    let rest : Bool = is_some (filled_by (sync_managers_of m) from n) in
    let first : leb 1 n ≡ true = grind (arith, nat_tests) in
    let last : leb (from + n) 12288 ≡ true = grind (arith, nat_tests) in
    let test : some_address (takes_writes m) from n ≡ true =
    some_at (takes_writes m) from n a low high (free_takes m a p place free) in
    rw (first, last) (ap (λ (b : Bool). (not b && some_address (takes_writes m) from n) || rest)
    (unlocked (sync_managers_of m) from n inside)
    ∙ ap (λ (b : Bool). b || rest) test)

-- a broadcast one by every controller
everybody_served : (c : ControllerState) (d : DatagramRecord) → addressing d.command ≡ All
    → writes d.command ≡ true → serves_range_write c (ado_of d.address) (length d.payload) ≡ true
    → serves_datagram c d ≡ true
unfolding serves_datagram serves_command
everybody_served c d all write served =
    ap (λ b. b && (is_addressed (addressing d.command) c d.address
    && serves_range_write c (ado_of d.address) (length d.payload))) write
    ∙ ap (λ (x : Addressing). is_addressed x c d.address
    && serves_range_write c (ado_of d.address) (length d.payload)) all
    ∙ served

-- so that each counts it
pub free_counted : (cs : List ControllerState) (d : DatagramRecord) (from : ℕ) (values : List ℕ) (a p : ℕ)
    → IsWrite d from values → addressing d.command ≡ All → writes d.command ≡ true
    → place_of a ≡ Some p → is_free a ≡ true → from ≤ a → a < from + length values
    → from + length values ≤ 4096 → gains cs d ≡ length cs
unfolding gains
free_counted [] d from values a p is all write place free low high inside = refl
free_counted (c ∷ cs) d from values a p is all write place free low high inside =
    let size : length d.payload ≡ length values = ap length is.values_are in
    let reached : serves_range_write c from (length values) ≡ true =
    free_served c from (length values) a p place free low high inside in
    let served : serves_range_write c (ado_of d.address) (length d.payload) ≡ true =
    ap (λ x. serves_range_write c x (length d.payload)) is.place
    ∙ ap (serves_range_write c from) size ∙ reached in
    let first : gain c d ≡ 1 =
    write_gain c d is.physical is.alone
    ∙ ap (λ (b : Bool). cond b 1 0) (everybody_served c d all write served) in
    let rest = free_counted cs (pass c d).datagram from values a p (write_goes_on c d from values is)
    (ap addressing (passed_command c d) ∙ all) (ap writes (passed_command c d) ∙ write) place free low
    high inside in
    omega (arith, first, rest)
