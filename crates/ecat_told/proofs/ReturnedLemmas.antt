-- One datagram that came back of a whole line: what is told behind it is so.
use Rattle.std.proofs.Common.{◌≡◌, ◌≢◌, ◌⊎◌, ℕ, ◌+◌, ◌<◌, ◌≤◌, Bool, true, false, cond, eqb}
use Rattle.std.proofs.Common.{ltb, ◌&&◌, ◌||◌, List, [], ◌∷◌, length, Option, None, Some}
use Rattle.std.proofs.Common.{count_by, refl, sym, ap, ◌∙◌, arith, ⊎_elim, inl, inr, subst}
use Rattle.std.proofs.lemmas.Bool.{and_parts, cases_Bool, eq-eqb, eqb-true}
use Rattle.std.proofs.lemmas.Bool.Decides.{nat_tests}
use Rattle.std.proofs.lemmas.Bool.{or_cases}
use Rattle.ec_regs.specs.Bits.{AreBytes}
use Rattle.ec_wire.specs.Command.{addressing, reads, writes}
use Rattle.ec_wire.specs.Datagram.{DatagramRecord, adp_of, ado_of}
use Rattle.ec_wire.specs.declared.command.Command.{Command}
use Rattle.ec_wire.specs.declared.command.Command.TheVariants.{Nop, Aprd, Apwr, Aprw, Fprd, Fpwr, Fprw, Brd}
use Rattle.ec_wire.specs.declared.command.Command.TheVariants.{Bwr, Brw, Lrd, Lwr, Lrw, Armw, Frmw}
use Rattle.ec_esc.specs.Pass.{pass}
use Rattle.ec_esc.specs.State.{ControllerState}
use Rattle.ecat_told.specs.declared.byte.How.{How}
use Rattle.ecat_told.specs.declared.byte.How.TheVariants.{Read, Written, MayBeWritten, Lost}
use Rattle.ecat_told.specs.declared.slave.Slave.{Slave}
use Rattle.ecat_told.specs.Known.{all_wrote, by_whom, did, is_logical, one_wrote, place, told_by, whom}
use Rattle.ecat_told.specs.Registers.{meets, touches}
use Rattle.ecat_told.specs.Slave.{is_at}
use Rattle.ecat_told.specs.Journeys.{writes_registers}
use Rattle.ecat_told.specs.So.{AreSo}
use Rattle.ecat_told.proofs.ArrivalLemmas.{passed_bytes, passed_command, write_leaves}
use Rattle.ecat_told.proofs.DatagramLemmas.{IsFound, holders, lost_told, meant, not_touched}
use Rattle.ecat_told.proofs.EverybodyLemmas.{HasNoFree, IsWrite, all_written, free_counted, some_wrote}
use Rattle.ecat_told.proofs.LineLemmas.{IsStill, logical, reading, came, came_size, gains, left, left_all}
use Rattle.ecat_told.proofs.LineLemmas.{left_by, still_so, uncounted_so}
use Rattle.ecat_told.proofs.PlacedLemmas.{at_place_is, read_at, written_at}
use Rattle.ecat_told.proofs.ReadLemmas.{IsReading}
use Rattle.ecat_told.proofs.StationLemmas.{read_by_station, written_by_station}

-- ---- what a datagram did

-- by its command, by the number of slaves, and by how far its counter has moved
data IsDeed (x : Command) (n m : ℕ) : Option How → Type 0 where
  still : IsStill x → IsDeed x n m None
  uncounted : is_logical x ≡ false → m ≡ 0 → IsDeed x n m None
  answered : IsReading x → m ≡ 1 → IsDeed x n m (Some Read)
  one_took : (x ≡ Apwr) ⊎ (x ≡ Fpwr) → m ≡ 1 → IsDeed x n m (Some Written)
  all_took : x ≡ Bwr → m ≡ n → IsDeed x n m (Some Written)
  some_took : x ≡ Bwr → m ≢ n → IsDeed x n m (Some MayBeWritten)
  perhaps : IsDeed x n m (Some Lost)

read_deed : (x : Command) (n m : ℕ) → IsReading x → IsStill x → IsDeed x n m (cond (eqb m 1) (Some Read) None)
read_deed x n m is no_write =
    ⊎_elim (λ (one : eqb m 1 ≡ true). rw one (answered is (eqb-true m 1 one)))
    (λ (other : eqb m 1 ≡ false). rw other (still no_write))
    (cases_Bool (eqb m 1))

rest_deed : (x : Command) (n m : ℕ) (all : Bool) → is_logical x ≡ false
    → IsDeed x n m (cond (eqb m 0 && all) None (Some Lost))
rest_deed x n m all physical =
    ⊎_elim
    (λ (none : (eqb m 0 && all) ≡ true).
    rw none (uncounted physical (eqb-true m 0 (and_parts (eqb m 0) all none).0)))
    (λ (some : (eqb m 0 && all) ≡ false). rw some perhaps)
    (cases_Bool (eqb m 0 && all))

one_deed : (x : Command) (n m : ℕ) (all : Bool) → (x ≡ Apwr) ⊎ (x ≡ Fpwr) → is_logical x ≡ false
    → IsDeed x n m (one_wrote m all)
one_deed x n m all is physical =
    ⊎_elim (λ (one : eqb m 1 ≡ true). rw one (one_took is (eqb-true m 1 one)))
    (λ (other : eqb m 1 ≡ false). rw other (rest_deed x n m all physical))
    (cases_Bool (eqb m 1))

all_deed : (n m : ℕ) (all : Bool) → IsDeed Bwr n m (all_wrote n m all)
all_deed n m all =
    ⊎_elim
    (λ (none : eqb m 0 ≡ true). rw none (either_way all (eqb-true m 0 none)))
    (λ (some : eqb m 0 ≡ false).
    rw some
    (⊎_elim (λ (each : eqb m n ≡ true). rw each (all_took refl (eqb-true m n each)))
    (λ (few : eqb m n ≡ false).
    rw few (some_took refl (λ same. (let both : true ≡ false = sym (eq-eqb m n same) ∙ few in cc))))
    (cases_Bool (eqb m n))))
    (cases_Bool (eqb m 0))
  where
    either_way : (b : Bool) → m ≡ 0 → IsDeed Bwr n m (cond b None (Some Lost))
    either_way true none = uncounted refl none
    either_way false none = perhaps

deed : (x : Command) (n m : ℕ) (all : Bool) → IsDeed x n m (did x n m all)
deed Nop n m all = still (reading refl refl)
deed Aprd n m all = read_deed Aprd n m (inl refl) (reading refl refl)
deed Apwr n m all = one_deed Apwr n m all (inl refl) refl
deed Aprw n m all = rest_deed Aprw n m all refl
deed Fprd n m all = read_deed Fprd n m (inr refl) (reading refl refl)
deed Fpwr n m all = one_deed Fpwr n m all (inr refl) refl
deed Fprw n m all = rest_deed Fprw n m all refl
deed Brd n m all = still (reading refl refl)
deed Bwr n m all = all_deed n m all
deed Brw n m all = rest_deed Brw n m all refl
deed Lrd n m all = still (logical refl)
deed Lwr n m all = still (logical refl)
deed Lrw n m all = still (logical refl)
deed Armw n m all = rest_deed Armw n m all refl
deed Frmw n m all = rest_deed Frmw n m all refl

-- ---- so it is told

-- a write leaves the data
came_written : (cs : List ControllerState) (d : DatagramRecord) → AreBytes d.payload → reads d.command ≡ false
    → (came cs d).payload ≡ d.payload
unfolding came
came_written [] d are alone = refl
came_written (c ∷ cs) d are alone =
    came_written cs (pass c d).datagram (passed_bytes c d) (ap reads (passed_command c d) ∙ alone)
    ∙ write_leaves c d are alone

is_write : (cs : List ControllerState) (d : DatagramRecord) → AreBytes d.payload
    → is_logical d.command ≡ false → reads d.command ≡ false
    → IsWrite d (ado_of d.address) (came cs d).payload
is_write cs d are physical alone = record {
  physical = physical;
  alone = alone;
  bytes = are;
  place = refl;
  values_are = sym (came_written cs d are alone);
}

met_low : (from n low high : ℕ) → meets from n low high ≡ true → from < high
met_low from n low high is =
    let first : ltb from high ≡ true = (and_parts (ltb from high) (ltb low (from + n)) is).0 in
    grind (arith, nat_tests)

-- a range with a kept register begins below the last of them
touches_low : (from n : ℕ) → touches from n ≡ true → from < 2112
unfolding touches
touches_low from n is =
    ⊎_elim
    (λ (three : ((meets from n 16 18 || meets from n 304 310) || meets from n 1536 1664) ≡ true).
    ⊎_elim
    (λ (two : (meets from n 16 18 || meets from n 304 310) ≡ true).
    ⊎_elim
    (λ (one : meets from n 16 18 ≡ true). let low = met_low from n 16 18 one in omega (arith, low))
    (λ (one : meets from n 304 310 ≡ true). let low = met_low from n 304 310 one in omega (arith, low))
    (or_cases _ _ two))
    (λ (one : meets from n 1536 1664 ≡ true). let low = met_low from n 1536 1664 one in omega (arith, low))
    (or_cases _ _ three))
    (λ (one : meets from n 2048 2112 ≡ true). met_low from n 2048 2112 one)
    (or_cases _ _ is)

module _ (states : Bool) (ss : List Slave) (cs : List ControllerState) (d : DatagramRecord)
    (found : IsFound d cs)
    (small : length d.payload ≤ 1486) (so : AreSo states ss cs) where
  values : List ℕ
  values = (came cs d).payload

  sized : length d.payload ≡ length values
  unfolding values
  sized = sym (came_size cs d)

  -- a read that one answered
  read_whom : IsReading d.command → gains cs d ≡ 1
      → AreSo states (by_whom (whom d.command) Read d.address values ss) (left cs d)
  unfolding values
  read_whom (inl is) one =
      subst (λ x. AreSo states (by_whom (whom x) Read d.address (came cs d).payload ss) (left cs d)) (sym is)
      (subst (λ xs. AreSo states xs (left cs d))
      (sym (at_place_is Read (place d.address) (ado_of d.address) (came cs d).payload ss))
      (read_at states (place d.address) ss cs d (ado_of d.address) (length d.payload) (ap addressing is)
      (record { reading = inl is; bytes = found.bytes; place = refl; size = refl })
      refl one found.few found.memories so))
  read_whom (inr is) one =
      subst (λ x. AreSo states (by_whom (whom x) Read d.address (came cs d).payload ss) (left cs d)) (sym is)
      (read_by_station states (count_by (is_at (adp_of d.address)) ss) (adp_of d.address) (ado_of d.address)
      (length d.payload) 0 0 0 ss cs d (ap addressing is)
      (record { reading = inr is; bytes = found.bytes; place = refl; size = refl })
      refl found.memories (holders (adp_of d.address) ss cs (found.alone (ap addressing is)))
      (record { one = omega (arith, one); before = λ nobody. refl }) so)

  -- a write that one took
  wrote_whom : (d.command ≡ Apwr) ⊎ (d.command ≡ Fpwr) → gains cs d ≡ 1
      → AreSo states (by_whom (whom d.command) Written d.address values ss) (left cs d)
  unfolding values
  wrote_whom (inl is) one =
      subst (λ x. AreSo states (by_whom (whom x) Written d.address (came cs d).payload ss) (left cs d))
      (sym is)
      (subst (λ xs. AreSo states xs (left cs d))
      (sym (at_place_is Written (place d.address) (ado_of d.address) (came cs d).payload ss))
      (written_at states (place d.address) ss cs d (ado_of d.address) (came cs d).payload (ap addressing is)
      (is_write cs d found.bytes (ap is_logical is) (ap reads is))
      refl one found.few found.memories (found.guarding (ap writes_registers is)) so))
  wrote_whom (inr is) one =
      subst (λ x. AreSo states (by_whom (whom x) Written d.address (came cs d).payload ss) (left cs d))
      (sym is)
      (written_by_station states (count_by (is_at (adp_of d.address)) ss) (adp_of d.address)
      (ado_of d.address)
      0 0 0 (came cs d).payload ss cs d (ap addressing is)
      (is_write cs d found.bytes (ap is_logical is) (ap reads is))
      refl found.memories (found.guarding (ap writes_registers is))
      (holders (adp_of d.address) ss cs (found.alone (ap addressing is)))
      (record { one = omega (arith, one); before = λ nobody. refl }) so)

  -- one that all took
  all_whom : d.command ≡ Bwr → gains cs d ≡ length cs
      → AreSo states (by_whom (whom d.command) Written d.address values ss) (left cs d)
  unfolding values
  all_whom is each =
      subst (λ x. AreSo states (by_whom (whom x) Written d.address (came cs d).payload ss) (left cs d))
      (sym is)
      (all_written states ss cs d (ado_of d.address) (came cs d).payload
      (is_write cs d found.bytes (ap is_logical is) (ap reads is)) each found.memories
      (found.guarding (ap writes_registers is)) so)

  -- and some
  some_whom : d.command ≡ Bwr → gains cs d ≢ length cs → touches (ado_of d.address) (length values) ≡ true
      → AreSo states (by_whom (whom d.command) MayBeWritten d.address values ss) (left cs d)
  unfolding values sized HasNoFree
  some_whom is few touched =
      let written = is_write cs d found.bytes (ap is_logical is) (ap reads is) in
      let low = touches_low (ado_of d.address) (length values) touched in
      let inside : ado_of d.address + length values ≤ 4096 = omega (arith, low, small, sized) in
      subst (λ x. AreSo states (by_whom (whom x) MayBeWritten d.address (came cs d).payload ss)
      (left cs d)) (sym is)
      (some_wrote states ss cs d (ado_of d.address) (came cs d).payload written
      (λ a p at free from to. few (free_counted cs d (ado_of d.address) (came cs d).payload a p written
      (ap addressing is) (ap writes is) at free from to inside))
      found.memories (found.guarding (ap writes_registers is)) so)

  whole : (ts : List Slave) → AreSo states ts (left_by (length cs) cs d) → AreSo states ts (left cs d)
  whole ts is = subst (λ es. AreSo states ts es) (left_all cs d) is

  touched_or : (how : How) → (touches (ado_of d.address) (length values) ≡ true
      → AreSo states (by_whom (whom d.command) how d.address values ss) (left cs d))
      → AreSo states (told_by (Some how) d.command d.address values ss) (left cs d)
  unfolding sized whole
  touched_or how is =
      ⊎_elim
      (λ (some : touches (ado_of d.address) (length values) ≡ true). rw some (is some))
      (λ (none : touches (ado_of d.address) (length values) ≡ false).
      rw none (whole ss (not_touched states (length cs) ss cs d values (whom d.command)
      (meant d.command) sized found none
      so)))
      (cases_Bool (touches (ado_of d.address) (length values)))

  by_deed : (o : Option How) → IsDeed d.command (length cs) (gains cs d) o
      → AreSo states (told_by o d.command d.address values ss) (left cs d)
  unfolding sized whole
  by_deed None (still is) = whole ss (still_so states (length cs) ss cs d is found.memories so)
  by_deed None (uncounted physical none) = uncounted_so states ss cs d physical none found.memories so
  by_deed (Some Read) (answered is one) = touched_or Read (λ some. read_whom is one)
  by_deed (Some Written) (one_took is one) = touched_or Written (λ some. wrote_whom is one)
  by_deed (Some Written) (all_took is each) = touched_or Written (λ some. all_whom is each)
  by_deed (Some MayBeWritten) (some_took is few) = touched_or MayBeWritten (λ some. some_whom is few some)
  by_deed (Some Lost) perhaps = whole (told_by (Some Lost) d.command d.address values ss)
      (lost_told states (length cs) ss cs d values sized found so)

-- what is told of slaves by what it did
pub told_returned : (states : Bool) (ss : List Slave) (cs : List ControllerState) (d : DatagramRecord)
    (all : Bool)
    → IsFound d cs → length d.payload ≤ 1486 → AreSo states ss cs
    → AreSo states (told_by (did d.command (length cs) (gains cs d) all) d.command d.address
    (came cs d).payload ss)
    (left cs d)
unfolding values
told_returned states ss cs d all found small so =
    by_deed states ss cs d found small so (did d.command (length cs) (gains cs d) all)
    (deed d.command (length cs) (gains cs d) all)
