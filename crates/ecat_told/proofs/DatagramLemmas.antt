-- One datagram over a line: what is told behind it is so.
use Rattle.std.proofs.Common.{◌≡◌, ◌⊎◌, inl, inr, ℕ, zero, suc, ◌+◌, ◌<◌, ◌≤◌, Bool, true, false}
use Rattle.std.proofs.Common.{ltb, ◌||◌, List, [], ◌∷◌, length, get_or, Option, None, Some}
use Rattle.std.proofs.Common.{count_by, refl, sym, ap, ◌∙◌, arith, ⊎_elim, subst}
use Rattle.std.specs.List.{AllByRecursion}
use Rattle.std.proofs.lemmas.Bool.{cases_Bool}
use Rattle.std.proofs.lemmas.Bool.Decides.{nat_tests}
use Rattle.ec_regs.specs.Bits.{AreBytes}
use Rattle.ec_wire.specs.Command.{addressing}
use Rattle.ec_wire.specs.Datagram.{DatagramRecord, adp_of, ado_of}
use Rattle.ec_wire.specs.declared.command.Addressing.TheVariants.{AutoIncrement, ConfiguredStation}
use Rattle.ec_wire.specs.declared.command.Command.{Command}
use Rattle.ec_wire.specs.declared.command.Command.TheVariants.{Nop, Aprd, Apwr, Aprw, Fprd, Fpwr, Fprw, Brd}
use Rattle.ec_wire.specs.declared.command.Command.TheVariants.{Bwr, Brw, Lrd, Lwr, Lrw, Armw, Frmw}
use Rattle.ec_esc.specs.Pass.{pass}
use Rattle.ec_esc.specs.State.{ControllerState}
use Rattle.ecat_told.specs.declared.byte.How.{How}
use Rattle.ecat_told.specs.declared.byte.How.TheVariants.{Read, Written, MayBeWritten, Lost}
use Rattle.ecat_told.specs.declared.slave.Slave.{Slave}
use Rattle.ecat_told.specs.declared.whom.Whom.{Whom}
use Rattle.ecat_told.specs.declared.whom.Whom.TheVariants.{Nobody, Place, Station, Everybody}
use Rattle.ecat_told.specs.Known.{by_whom, is_logical, may_have_done}
use Rattle.ecat_told.specs.Known.{place, told_by, whom}
use Rattle.ecat_told.specs.Registers.{meets, touches}
use Rattle.ecat_told.specs.Slave.{is_at}
use Rattle.ecat_told.specs.So.{AreSo, IsSlaveSo, has_station}
use Rattle.ecat_told.specs.Journeys.{IsGuarding, writes_registers}
use Rattle.ecat_told.proofs.Reached.{IsReached}
use Rattle.ecat_told.proofs.ArrivalLemmas.{passed_ado, passed_bytes, passed_command, passed_size}
use Rattle.ecat_told.proofs.LineLemmas.{HaveMemory, IsStill, logical, reading}
use Rattle.ecat_told.proofs.LineLemmas.{forgotten_so, left_by, lost_so, reached_from, still_so}
use Rattle.ecat_told.proofs.PlaceLemmas.{IsKept, station, status, fmmu, manager, kept, kept_register}
use Rattle.ecat_told.proofs.PlacedLemmas.{at_place_is, forgotten_at, lost_at}
use Rattle.ecat_told.proofs.StationLemmas.{AreHolders, forgotten_station, lost_by_station}

-- ---- a range without a kept register

met_by : (from n low high a : ℕ) → low ≤ a → a < high → from ≤ a → a < from + n
    → meets from n low high ≡ true
met_by from n low high a l h f t =
    let first : ltb from high ≡ true = grind (arith, nat_tests) in
    let second : ltb low (from + n) ≡ true = grind (arith, nat_tests) in
    rw (first, second) refl

or_left : (a b : Bool) → a ≡ true → (a || b) ≡ true
or_left a b is = rw is refl

or_right : (a b : Bool) → b ≡ true → (a || b) ≡ true
or_right true b is = refl
or_right false b is = is

touched_by : (from n a p : ℕ) → IsKept a p → from ≤ a → a < from + n → touches from n ≡ true
unfolding touches
touched_by from n a p (station low high is) f t =
    or_left _ _ (or_left _ _ (or_left _ _ (met_by from n 16 18 a low high f t)))
touched_by from n a p (status low high is) f t =
    or_left _ _ (or_left _ _ (or_right _ _ (met_by from n 304 310 a low high f t)))
touched_by from n a p (fmmu low high is) f t =
    or_left _ _ (or_right _ _ (met_by from n 1536 1664 a low high f t))
touched_by from n a p (manager low high is) f t = or_right _ _ (met_by from n 2048 2112 a low high f t)

-- what a range does that has none leaves what is told
untouched_one : (states : Bool) (s : Slave) (c e : ControllerState) (from n : ℕ) → touches from n ≡ false
    → IsReached from n c e → IsSlaveSo states s c → IsSlaveSo states s e
untouched_one states s c e from n none reached so = record {
  told = λ a p b at plain is.
      ⊎_elim
      (λ (same : get_or e.memory a 0 ≡ get_or c.memory a 0). same ∙ so.told a p b at plain is)
      (λ (inside : (from ≤ a) × (a < from + n) × _).
      let both : true ≡ false = sym (touched_by from n a p (kept a p at) inside.0 inside.1) ∙ none in
      absurd (cc))
      (reached.bytes a (kept_register (kept a p at)) plain.0);
  sure = so.sure;
}

untouched_so : (states : Bool) (k : ℕ) (ss : List Slave) (cs : List ControllerState) (d : DatagramRecord)
    (from : ℕ) (values : List ℕ) → touches from (length values) ≡ false → is_logical d.command ≡ false
    → AreBytes d.payload → ado_of d.address ≡ from → length d.payload ≡ length values → HaveMemory cs
    → AreSo states ss cs → AreSo states ss (left_by k cs d)
unfolding left_by
untouched_so states zero ss cs d from values none physical are place size have so = so
untouched_so _ (suc _) [] [] _ _ _ _ _ _ _ _ _ _ = tt
untouched_so _ (suc _) [] (_ ∷ _) _ _ _ _ _ _ _ _ _ so = absurd so
untouched_so _ (suc _) (_ ∷ _) [] _ _ _ _ _ _ _ _ _ so = absurd so
untouched_so states (suc k) (s ∷ ss) (c ∷ cs) d from values none physical are place size have so = (
  untouched_one states s c (pass c d).state from (length values) none
      (reached_from c d from values have.0 are physical place size) so.0,
  untouched_so states k ss cs (pass c d).datagram from values none (ap is_logical (passed_command c d)
      ∙ physical)
      (passed_bytes c d) (passed_ado c d ∙ place) (passed_size c d ∙ size) have.1 so.1,
)

-- ---- whom a command means

pub data IsMeant (x : Command) : Whom → Type 0 where
  one_place : is_logical x ≡ false → addressing x ≡ AutoIncrement → IsMeant x Place
  one_station : is_logical x ≡ false → addressing x ≡ ConfiguredStation → IsMeant x Station
  to_all : is_logical x ≡ false → IsMeant x Everybody
  to_none : IsStill x → IsMeant x Nobody

pub meant : (x : Command) → IsMeant x (whom x)
meant Nop = to_none (reading refl refl)
meant Aprd = one_place refl refl
meant Apwr = one_place refl refl
meant Aprw = one_place refl refl
meant Fprd = one_station refl refl
meant Fpwr = one_station refl refl
meant Fprw = one_station refl refl
meant Brd = to_none (reading refl refl)
meant Bwr = to_all refl
meant Brw = to_all refl
meant Lrd = to_none (logical refl)
meant Lwr = to_none (logical refl)
meant Lrw = to_none (logical refl)
meant Armw = to_all refl
meant Frmw = to_all refl

-- ---- anything may be written

-- at most one controller has the station that a datagram by station means
abbrev pub IsAlone : DatagramRecord → List ControllerState → Type 0
IsAlone d cs = addressing d.command ≡ ConfiguredStation → count_by (has_station (adp_of d.address)) cs ≤ 1

-- what holds of the line that a datagram finds
pub record IsFound (d : DatagramRecord) (cs : List ControllerState) : Type 0 where
  pub memories : HaveMemory cs
  pub guarding : writes_registers d.command ≡ true → AllByRecursion IsGuarding cs
  pub alone : IsAlone d cs
  pub few : length cs ≤ 256
  pub bytes : AreBytes d.payload

-- the holders of a whole line
pub holders : (x : ℕ) (ss : List Slave) (cs : List ControllerState) → count_by (has_station x) cs ≤ 1
    → AreHolders x (count_by (is_at x) ss) 0 0 ss cs
holders x ss cs alone = record {
  sum = omega arith;
  fewer = omega arith;
  alone = omega (arith, alone);
}

-- where nothing was written
forgotten_whom : (states : Bool) (w : Whom) (ss : List Slave) (cs : List ControllerState) (address : ℕ)
    (values : List ℕ) → AreSo states ss cs → AreSo states (by_whom w Lost address values ss) cs
forgotten_whom states Nobody ss cs address values so = so
forgotten_whom states Place ss cs address values so =
    subst (λ xs. AreSo states xs cs) (sym (at_place_is Lost (place address) (ado_of address) values ss))
    (forgotten_at states (place address) ss cs (ado_of address) values so)
forgotten_whom states Station ss cs address values so =
    forgotten_station states (count_by (is_at (adp_of address)) ss) (adp_of address) (ado_of address) values
    ss cs so
forgotten_whom states Everybody ss cs address values so =
    forgotten_so states ss cs (ado_of address) values so

-- where it may have been
lost_whom : (states : Bool) (k : ℕ) (ss : List Slave) (cs : List ControllerState) (d : DatagramRecord)
    (values : List ℕ) (w : Whom) → IsMeant d.command w → length d.payload ≡ length values → IsFound d cs
    → AllByRecursion IsGuarding cs → AreSo states ss cs
    → AreSo states (by_whom w Lost d.address values ss) (left_by k cs d)
lost_whom states k ss cs d values Place (one_place physical by_place) size found guarding so =
    let from : ℕ = ado_of d.address in
    subst (λ xs. AreSo states xs (left_by k cs d)) (sym (at_place_is Lost (place d.address) from values ss))
    (lost_at states k (place d.address) ss cs d from values by_place physical found.bytes refl size refl
    found.few found.memories guarding so)
lost_whom states k ss cs d values Station (one_station physical by_station) size found guarding so =
    let x : ℕ = adp_of d.address in
    lost_by_station states k (count_by (is_at x) ss) x (ado_of d.address) 0 0 values ss cs d by_station
    physical found.bytes refl size refl found.memories guarding (holders x ss cs (found.alone by_station)) so
lost_whom states k ss cs d values Everybody (to_all physical) size found guarding so =
    lost_so states k ss cs d (ado_of d.address) values physical found.bytes refl size found.memories guarding
    so
lost_whom states k ss cs d values Nobody (to_none still) size found guarding so =
    still_so states k ss cs d still found.memories so

-- a command writes registers, or it leaves them
pub still_or : (x : Command) → IsStill x ⊎ (writes_registers x ≡ true)
still_or Nop = inl (reading refl refl)
still_or Aprd = inl (reading refl refl)
still_or Apwr = inr refl
still_or Aprw = inr refl
still_or Fprd = inl (reading refl refl)
still_or Fpwr = inr refl
still_or Fprw = inr refl
still_or Brd = inl (reading refl refl)
still_or Bwr = inr refl
still_or Brw = inl (reading refl refl)
still_or Lrd = inl (logical refl)
still_or Lwr = inl (logical refl)
still_or Lrw = inl (logical refl)
still_or Armw = inl (reading refl refl)
still_or Frmw = inl (reading refl refl)

either_whom : (states : Bool) (k : ℕ) (ss : List Slave) (cs : List ControllerState) (d : DatagramRecord)
    (values : List ℕ) → length d.payload ≡ length values → IsFound d cs
    → IsStill d.command ⊎ (writes_registers d.command ≡ true) → AreSo states ss cs
    → AreSo states (by_whom (whom d.command) Lost d.address values ss) (left_by k cs d)
either_whom states k ss cs d values size found (inl still) so =
    still_so states k (by_whom (whom d.command) Lost d.address values ss) cs d still found.memories
    (forgotten_whom states (whom d.command) ss cs d.address values so)
either_whom states k ss cs d values size found (inr writing) so =
    lost_whom states k ss cs d values (whom d.command) (meant d.command) size found (found.guarding writing)
    so

pub not_touched : (states : Bool) (k : ℕ) (ss : List Slave) (cs : List ControllerState) (d : DatagramRecord)
    (values : List ℕ) (w : Whom) → IsMeant d.command w → length d.payload ≡ length values → IsFound d cs
    → touches (ado_of d.address) (length values) ≡ false → AreSo states ss cs
    → AreSo states ss (left_by k cs d)
not_touched states k ss cs d values Place (one_place physical by_place) size found none so =
    untouched_so states k ss cs d (ado_of d.address) values none physical found.bytes refl size found.memories
    so
not_touched states k ss cs d values Station (one_station physical by_station) size found none so =
    untouched_so states k ss cs d (ado_of d.address) values none physical found.bytes refl size found.memories
    so
not_touched states k ss cs d values Everybody (to_all physical) size found none so =
    untouched_so states k ss cs d (ado_of d.address) values none physical found.bytes refl size found.memories
    so
not_touched states k ss cs d values Nobody (to_none still) size found none so =
    still_so states k ss cs d still found.memories so

-- where it is told that it may have been
pub lost_told : (states : Bool) (k : ℕ) (ss : List Slave) (cs : List ControllerState) (d : DatagramRecord)
    (values : List ℕ) → length d.payload ≡ length values → IsFound d cs → AreSo states ss cs
    → AreSo states (told_by (Some Lost) d.command d.address values ss) (left_by k cs d)
lost_told states k ss cs d values size found so =
    ⊎_elim
    (λ (some : touches (ado_of d.address) (length values) ≡ true).
    rw some (either_whom states k ss cs d values size found (still_or d.command) so))
    (λ (none : touches (ado_of d.address) (length values) ≡ false).
    rw none (not_touched states k ss cs d values (whom d.command) (meant d.command) size found none so))
    (cases_Bool (touches (ado_of d.address) (length values)))

-- ---- a datagram that was lost

data MayHave (x : Command) : Option How → Type 0 where
  nothing_did : IsStill x → MayHave x None
  may_be_lost : MayHave x (Some Lost)

may_have : (x : Command) → MayHave x (may_have_done x)
may_have Nop = nothing_did (reading refl refl)
may_have Aprd = nothing_did (reading refl refl)
may_have Apwr = may_be_lost
may_have Aprw = may_be_lost
may_have Fprd = nothing_did (reading refl refl)
may_have Fpwr = may_be_lost
may_have Fprw = may_be_lost
may_have Brd = nothing_did (reading refl refl)
may_have Bwr = may_be_lost
may_have Brw = may_be_lost
may_have Lrd = nothing_did (logical refl)
may_have Lwr = nothing_did (logical refl)
may_have Lrw = nothing_did (logical refl)
may_have Armw = may_be_lost
may_have Frmw = may_be_lost

lost_how : (states : Bool) (k : ℕ) (ss : List Slave) (cs : List ControllerState) (d : DatagramRecord)
    (o : Option How) → MayHave d.command o → IsFound d cs → AreSo states ss cs
    → AreSo states (told_by o d.command d.address d.payload ss) (left_by k cs d)
lost_how states k ss cs d None (nothing_did still) found so =
    still_so states k ss cs d still found.memories so
lost_how states k ss cs d (Some Lost) may_be_lost found so =
    lost_told states k ss cs d d.payload refl found so
lost_how states k ss cs d (Some Read) may found so = elim may [ ]
lost_how states k ss cs d (Some Written) may found so = elim may [ ]
lost_how states k ss cs d (Some MayBeWritten) may found so = elim may [ ]

-- whichever controllers it passed
pub datagram_lost : (states : Bool) (k : ℕ) (ss : List Slave) (cs : List ControllerState) (d : DatagramRecord)
    → IsFound d cs → AreSo states ss cs
    → AreSo states (told_by (may_have_done d.command) d.command d.address d.payload ss) (left_by k cs d)
datagram_lost states k ss cs d found so = lost_how states k ss cs d (may_have_done d.command)
    (may_have d.command) found so
