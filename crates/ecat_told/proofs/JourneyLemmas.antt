-- Frames and journeys over a line: what is told stays so.
use Rattle.std.proofs.Common.{◌≡◌, ◌⊎◌, ℕ, zero, suc, ◌+◌, ◌%◌, ◌<◌, ◌≤◌, Bool, true, false, List, [], ◌∷◌}
use Rattle.std.proofs.Common.{◌&&◌, if◌then◌else◌, length, map}
use Rattle.std.proofs.Common.{get_or, refl, sym, ap, ◌∙◌, arith, ⊎_elim, inl, inr, subst}
use Rattle.std.specs.Option.{is_some}
use Rattle.std.specs.List.{AllByRecursion}
use Rattle.std.proofs.lemmas.Bool.{and_parts, cases_Bool}
use Rattle.ec_regs.specs.Al.{state_of}
use Rattle.ec_regs.specs.Bits.{AreBytes}
use Rattle.ec_regs.proofs.Laws.{each-map}
use Rattle.ec_areas.specs.Ranges.{takes_writes}
use Rattle.ec_wire.specs.Command.{writes}
use Rattle.ec_wire.specs.Datagram.{DatagramRecord, ado_of}
use Rattle.ec_wire.specs.declared.command.Command.{Command}
use Rattle.ec_wire.specs.declared.command.Command.TheVariants.{Nop, Aprd, Apwr, Aprw, Fprd, Fpwr, Fprw, Brd}
use Rattle.ec_wire.specs.declared.command.Command.TheVariants.{Bwr, Brw, Lrd, Lwr, Lrw, Armw, Frmw}
use Rattle.ec_esc.specs.Pass.{frame_pass, pass}
use Rattle.ec_esc.specs.State.{ControllerState, IsController, NamesState}
use Rattle.ec_line.specs.Trip.{front_pass, line_pass}
use Rattle.ec_app.proofs.Laws.{step_leaves}
use Rattle.ec_app.specs.Slave.{step}
use Rattle.ec_app.specs.State.{SlaveState}
use Rattle.ecat_trips.specs.declared.trip.Trip.{Trip}
use Rattle.ecat_told.specs.Known.{KnownState, by_came, came_whole, counted, frame_lost, frame_returned}
use Rattle.ecat_told.specs.Known.{is_logical, is_place_read, is_place_write, lost, lost_over, may_be_two}
use Rattle.ecat_told.specs.Known.{may_have_done, returned, returned_over, told_by, trip_after, unplaced}
use Rattle.ecat_told.specs.Slave.{told_run}
use Rattle.ecat_told.specs.declared.byte.How.TheVariants.{Lost}
use Rattle.ecat_told.specs.declared.slave.Slave.{Slave}
use Rattle.ecat_told.specs.So.{AreSo, IsClaimed, IsSlaveSo, IsSo}
use Rattle.ecat_told.specs.Journeys.{AreFit, AreJourneys, IsBack, IsFitFor, IsJourney, IsLine, IsLost, IsSent}
use Rattle.ecat_told.specs.Journeys.{Journey}
use Rattle.ecat_told.specs.Journeys.{HasKept, HaveKept, behind, told_of}
use Rattle.ecat_told.proofs.ArrivalLemmas.{passed_bytes}
use Rattle.ecat_told.proofs.CountedLemmas.{counted_so, datagram_returned, told_none, unmoved_slaves}
use Rattle.ecat_told.proofs.DatagramLemmas.{IsFound, datagram_lost}
use Rattle.ecat_told.proofs.GateLemmas.{takes_status}
use Rattle.ecat_told.proofs.LineLemmas.{HaveMemory, came, forgotten_so, left_all, left_by, left_memory}
use Rattle.ecat_told.proofs.LineLemmas.{reading, still_so}
use Rattle.ecat_told.proofs.PassLemmas.{HasMemory, controller_memory, logical_stays, pass_reaches}
use Rattle.ecat_told.proofs.PlaceLemmas.{kept, kept_register}

-- ---- a frame datagram by datagram

-- a frame behind the first n controllers: its first datagram first, and the others over what that left
unfoldable pub came_by : ℕ → List ControllerState → DatagramRecord → DatagramRecord
came_by zero cs d = d
came_by (suc n) [] d = d
came_by (suc n) (c ∷ cs) d = came_by n cs (pass c d).datagram

came_all : (cs : List ControllerState) (d : DatagramRecord) → came_by (length cs) cs d ≡ came cs d
unfolding came came_by
came_all [] d = refl
came_all (c ∷ cs) d = came_all cs (pass c d).datagram

pub one_line : (n : ℕ) (cs : List ControllerState) (d : DatagramRecord)
    → (front_pass n cs (d ∷ [])).line ≡ left_by n cs d
unfolding left_by line_pass frame_pass
one_line zero cs d = refl
one_line (suc n) [] d = refl
one_line (suc n) (c ∷ cs) d = ap (λ es. (pass c d).state ∷ es) (one_line n cs (pass c d).datagram)

pub rest_line : (n : ℕ) (cs : List ControllerState) (d : DatagramRecord) (ds : List DatagramRecord)
    → (front_pass n cs (d ∷ ds)).line ≡ (front_pass n (left_by n cs d) ds).line
unfolding left_by line_pass frame_pass
rest_line zero cs d ds = refl
rest_line (suc n) [] d ds = refl
rest_line (suc n) (c ∷ cs) d ds =
    ap (λ es. (frame_pass (pass c d).state ds).state ∷ es)
    (rest_line n cs (pass c d).datagram (frame_pass (pass c d).state ds).frame)

pub rest_frame : (n : ℕ) (cs : List ControllerState) (d : DatagramRecord) (ds : List DatagramRecord)
    → (front_pass n cs (d ∷ ds)).frame ≡ came_by n cs d ∷ (front_pass n (left_by n cs d) ds).frame
unfolding left_by line_pass frame_pass came_by
rest_frame zero cs d ds = refl
rest_frame (suc n) [] d ds = refl
rest_frame (suc n) (c ∷ cs) d ds =
    rest_frame n cs (pass c d).datagram (frame_pass (pass c d).state ds).frame

none_left : (n : ℕ) (cs : List ControllerState) → (front_pass n cs []).line ≡ cs
unfolding line_pass frame_pass
none_left zero cs = refl
none_left (suc n) [] = refl
none_left (suc n) (c ∷ cs) = ap (λ es. c ∷ es) (none_left n cs)

pub none_came : (n : ℕ) (cs : List ControllerState) → (front_pass n cs []).frame ≡ []
unfolding line_pass frame_pass
none_came zero cs = refl
none_came (suc n) [] = refl
none_came (suc n) (c ∷ cs) = none_came n cs

pub size_left : (n : ℕ) (cs : List ControllerState) (d : DatagramRecord) → length (left_by n cs d) ≡ length cs
unfolding left_by
size_left zero cs d = refl
size_left (suc n) [] d = refl
size_left (suc n) (c ∷ cs) d = ap suc (size_left n cs (pass c d).datagram)

-- ---- what stays of a line

-- AL status stays
status_stays : (c : ControllerState) (d : DatagramRecord) → HasMemory c → AreBytes d.payload
    → get_or (pass c d).state.memory 304 0 ≡ get_or c.memory 304 0
status_stays c d memory are =
    ⊎_elim
    (λ (logical : is_logical d.command ≡ true).
    (logical_stays c d memory logical).bytes 304 (omega arith) (λ i same. omega (arith, same)))
    (λ (physical : is_logical d.command ≡ false).
    ⊎_elim
    (λ (same : get_or (pass c d).state.memory 304 0 ≡ get_or c.memory 304 0). same)
    (λ (inside : (ado_of d.address ≤ 304) × (304 < ado_of d.address + length d.payload)
    × (takes_writes c.memory 304 ≡ true)).
    let both : true ≡ false = sym inside.2 ∙ takes_status c.memory 304 (omega arith) (omega arith) in
    absurd (cc))
    ((pass_reaches c d memory are physical).bytes 304 (omega arith) (λ i same. omega (arith, same))))
    (cases_Bool (is_logical d.command))

-- each is in a state
abbrev pub NameStates : List ControllerState → Type 0
NameStates cs = AllByRecursion (λ (c : ControllerState). NamesState c.memory) cs

names_left : (n : ℕ) (cs : List ControllerState) (d : DatagramRecord) → HaveMemory cs → AreBytes d.payload
    → NameStates cs → NameStates (left_by n cs d)
unfolding left_by
names_left zero cs d have are names = names
names_left (suc _) [] _ _ _ _ = tt
names_left (suc n) (c ∷ cs) d have are names = (
  ap (λ x. is_some (state_of (x % 16))) (status_stays c d have.0 are) ∙ names.0,
  names_left n cs (pass c d).datagram have.1 (passed_bytes c d) names.1,
)

-- what is needed of a line
pub record IsKeptLine (cs : List ControllerState) : Type 0 where
  pub memories : HaveMemory cs
  pub names : NameStates cs
  pub few : length cs ≤ 256

pub line_left : (n : ℕ) (cs : List ControllerState) (d : DatagramRecord) → AreBytes d.payload → IsKeptLine cs
    → IsKeptLine (left_by n cs d)
line_left n cs d are line =
    let size = size_left n cs d in
    let few : length cs ≤ 256 = line.few in
    record {
      memories = left_memory n cs d line.memories;
      names = names_left n cs d line.memories are line.names;
      few = omega (arith, size, few);
    }

pub found_by : (cs : List ControllerState) (d : DatagramRecord) → IsKeptLine cs → IsSent d → IsFitFor d cs
    → IsFound d cs
found_by cs d line sent fit = record {
  memories = line.memories;
  guarding = fit.guarding;
  alone = fit.alone;
  few = line.few;
  bytes = sent.bytes;
}

pub fit_on : (n : ℕ) (cs : List ControllerState) (d : DatagramRecord) (ds : List DatagramRecord)
    → AreFit n (front_pass n cs (d ∷ [])).line ds → AreFit n (left_by n cs d) ds
fit_on n cs d ds fit = subst (λ es. AreFit n es ds) (one_line n cs d) fit

-- ---- a place that may be two slaves'

-- what is told of no slave any more was not wrong, and nothing is told in its place
unplaced_so : (states two : Bool) (cs : List ControllerState) (d : DatagramRecord) (k : KnownState)
    → IsSo states k.slaves cs → IsSo states (unplaced two d k).slaves cs
unfolding unplaced
unplaced_so states two cs d k so = by_place (two && is_place_write d.command)
  where
    taken : IsSo states k.slaves cs
        → IsSo states (map (told_run Lost (ado_of d.address) d.payload) k.slaves) cs
    taken (inl none) = inl (ap (map (told_run Lost (ado_of d.address) d.payload)) none)
    taken (inr is) = inr (forgotten_so states k.slaves cs (ado_of d.address) d.payload is)

    by_place : (b : Bool) → IsSo states (if b
        then record k { slaves = map (told_run Lost (ado_of d.address) d.payload) k.slaves } else k).slaves cs
    by_place true = taken so
    by_place false = so

-- APRD is the read by place
pub place_read : (x : Command) → is_place_read x ≡ true → x ≡ Aprd
place_read Aprd is = refl
place_read Nop is = absurd (cc)
place_read Apwr is = absurd (cc)
place_read Aprw is = absurd (cc)
place_read Fprd is = absurd (cc)
place_read Fpwr is = absurd (cc)
place_read Fprw is = absurd (cc)
place_read Brd is = absurd (cc)
place_read Bwr is = absurd (cc)
place_read Brw is = absurd (cc)
place_read Lrd is = absurd (cc)
place_read Lwr is = absurd (cc)
place_read Lrw is = absurd (cc)
place_read Armw is = absurd (cc)
place_read Frmw is = absurd (cc)

-- it leaves what is told so
read_so : (states : Bool) (n : ℕ) (ss : List Slave) (cs : List ControllerState) (d : DatagramRecord)
    → d.command ≡ Aprd → HaveMemory cs → IsSo states ss cs → IsSo states ss (left_by n cs d)
read_so states n ss cs d is have (inl none) = inl none
read_so states n ss cs d is have (inr so) =
    inr (still_so states n ss cs d (reading (ap is_logical is) (ap writes is)) have so)

-- ---- a frame that was lost

lost_one : (states : Bool) (n : ℕ) (cs : List ControllerState) (d : DatagramRecord) (k : KnownState)
    → IsFound d cs → IsSo states k.slaves cs → IsSo states (lost d k).slaves (left_by n cs d)
unfolding lost
lost_one states n cs d k found (inl none) =
    inl (ap (told_by (may_have_done d.command) d.command d.address d.payload) none
    ∙ told_none (may_have_done d.command) d.command d.address d.payload)
lost_one states n cs d k found (inr so) = inr (datagram_lost states n k.slaves cs d found so)

frame_is_lost : (states two : Bool) (n : ℕ) (frame : List DatagramRecord) (cs : List ControllerState)
    (k : KnownState) → IsKeptLine cs → AllByRecursion IsSent frame → AreFit n cs frame
    → IsSo states k.slaves cs → IsSo states (frame_lost two frame k).slaves (front_pass n cs frame).line
frame_is_lost states two n [] cs k line sent fit so = subst (λ es. IsSo states k.slaves es) (sym
    (none_left n cs)) so
frame_is_lost states two n (d ∷ ds) cs k line sent fit so =
    let later : KnownState = lost_over two d k in
    subst (λ es. IsSo states (frame_lost two ds later).slaves es) (sym (rest_line n cs d ds))
    (frame_is_lost states two n ds (left_by n cs d) later (line_left n cs d sent.0.bytes line) sent.1
    (fit_on n cs d ds fit.1) (unplaced_so states two (left_by n cs d) d (lost d k)
    (lost_one states n cs d k (found_by cs d line sent.0 fit.0) so)))

-- ---- a frame of which a copy alone came back, unprocessed

unmoved_one : (states : Bool) (n : ℕ) (cs : List ControllerState) (d : DatagramRecord) (k : KnownState)
    → IsSent d → IsFound d cs → IsSo states k.slaves cs
    → IsSo states (returned false d d k).slaves (left_by n cs d)
unfolding lost
unmoved_one states n cs d k sent found so =
    subst (λ ss. IsSo states ss (left_by n cs d)) (sym (unmoved_slaves d k sent.counter))
    (lost_one states n cs d k found so)

pub unmoved_over : (states broken : Bool) (n : ℕ) (cs : List ControllerState) (d : DatagramRecord)
    (k : KnownState) → IsSent d → IsFound d cs → IsSo states k.slaves cs
    → IsSo states (returned_over broken false d d k).slaves (left_by n cs d)
unmoved_over states broken n cs d k sent found so =
    let two : Bool = may_be_two broken false (length k.slaves) d d in
    ⊎_elim
    (λ (read : (two && is_place_read d.command) ≡ true).
    rw read (read_so states n k.slaves cs d
    (place_read d.command (and_parts two (is_place_read d.command) read).1) found.memories so))
    (λ (other : (two && is_place_read d.command) ≡ false).
    rw other (unplaced_so states two (left_by n cs d) d (returned false d d k)
    (unmoved_one states n cs d k sent found so)))
    (cases_Bool (two && is_place_read d.command))

frame_unmoved : (states broken : Bool) (n : ℕ) (frame : List DatagramRecord) (cs : List ControllerState)
    (k : KnownState) → IsKeptLine cs → AllByRecursion IsSent frame → AreFit n cs frame
    → IsSo states k.slaves cs
    → IsSo states (frame_returned broken false frame frame k).slaves (front_pass n cs frame).line
frame_unmoved states broken n [] cs k line sent fit so =
    subst (λ es. IsSo states k.slaves es) (sym (none_left n cs)) so
frame_unmoved states broken n (d ∷ ds) cs k line sent fit so =
    let later : KnownState = returned_over broken false d d k in
    subst (λ es. IsSo states (frame_returned broken false ds ds later).slaves es)
    (sym (rest_line n cs d ds))
    (frame_unmoved states broken n ds (left_by n cs d) later (line_left n cs d sent.0.bytes line)
    sent.1 (fit_on n cs d ds fit.1)
    (unmoved_over states broken n cs d k sent.0 (found_by cs d line sent.0 fit.0) so))

-- ---- a frame that came back

told_one : (states : Bool) (all : Bool) (n : ℕ) (cs : List ControllerState) (d : DatagramRecord)
    (k : KnownState) → n ≡ length cs → IsKeptLine cs → IsSent d → IsFitFor d cs → IsSo states k.slaves cs
    → IsSo states (returned all d (came_by n cs d) k).slaves (left_by n cs d)
told_one states all n cs d k each line sent fit so =
    subst (λ m. IsSo states (returned all d (came_by m cs d) k).slaves (left_by m cs d)) (sym each)
    (subst (λ c. IsSo states (returned all d c k).slaves (left_by (length cs) cs d)) (sym (came_all cs d))
    (subst (λ es. IsSo states (returned all d (came cs d) k).slaves es) (sym (left_all cs d))
    (datagram_returned states all k cs d (found_by cs d line sent fit) sent.counter sent.size line.names so)))

counted_one : (states all : Bool) (n : ℕ) (cs : List ControllerState) (d : DatagramRecord)
    (k : KnownState) → n ≡ length cs → IsKeptLine cs → d.command ≡ Aprd → IsSo states k.slaves cs
    → IsSo states (counted false all d (came_by n cs d) k.slaves) (left_by n cs d)
counted_one states all n cs d k each line is so =
    subst (λ m. IsSo states (counted false all d (came_by m cs d) k.slaves) (left_by m cs d)) (sym each)
    (subst (λ c. IsSo states (counted false all d c k.slaves) (left_by (length cs) cs d))
    (sym (came_all cs d))
    (read_so states (length cs) (counted false all d (came cs d) k.slaves) cs d is line.memories
    (counted_so states false all k.slaves cs d (λ starts. absurd (cc)) line.few so)))

pub returned_one : (states broken all : Bool) (n : ℕ) (cs : List ControllerState) (d : DatagramRecord)
    (k : KnownState) → n ≡ length cs → IsKeptLine cs → IsSent d → IsFitFor d cs → IsSo states k.slaves cs
    → IsSo states (returned_over broken all d (came_by n cs d) k).slaves (left_by n cs d)
returned_one states broken all n cs d k each line sent fit so =
    let c : DatagramRecord = came_by n cs d in
    let two : Bool = may_be_two broken all (length k.slaves) d c in
    ⊎_elim
    (λ (read : (two && is_place_read d.command) ≡ true).
    rw read (counted_one states all n cs d k each line
    (place_read d.command (and_parts two (is_place_read d.command) read).1) so))
    (λ (other : (two && is_place_read d.command) ≡ false).
    rw other (unplaced_so states two (left_by n cs d) d (returned all d c k)
    (told_one states all n cs d k each line sent fit so)))
    (cases_Bool (two && is_place_read d.command))

frame_is_back : (states broken all : Bool) (n : ℕ) (frame : List DatagramRecord)
    (cs : List ControllerState) (k : KnownState)
    → n ≡ length cs → IsKeptLine cs → AllByRecursion IsSent frame → AreFit n cs frame
    → IsSo states k.slaves cs
    → IsSo states (frame_returned broken all frame (front_pass n cs frame).frame k).slaves
    (front_pass n cs frame).line
frame_is_back states broken all n [] cs k each line sent fit so =
    subst (λ es. IsSo states k.slaves es) (sym (none_left n cs)) so
frame_is_back states broken all n (d ∷ ds) cs k each line sent fit so =
    let later : KnownState = returned_over broken all d (came_by n cs d) k in
    subst (λ cs2. IsSo states (frame_returned broken all (d ∷ ds) cs2 k).slaves
    (front_pass n cs (d ∷ ds)).line)
    (sym (rest_frame n cs d ds))
    (subst (λ es. IsSo states (frame_returned broken all ds (front_pass n
    (left_by n cs d) ds).frame later).slaves es)
    (sym (rest_line n cs d ds))
    (frame_is_back states broken all n ds (left_by n cs d) later (each ∙ sym (size_left n cs d))
    (line_left n cs d sent.0.bytes line) sent.1 (fit_on n cs d ds fit.1)
    (returned_one states broken all n cs d k each line sent.0 fit.0 so)))

-- ---- journeys

pub frame_left : (n : ℕ) (frame : List DatagramRecord) (cs : List ControllerState) → IsKeptLine cs
    → AllByRecursion IsSent frame → IsKeptLine (front_pass n cs frame).line
frame_left n [] cs line sent = subst IsKeptLine (sym (none_left n cs)) line
frame_left n (d ∷ ds) cs line sent =
    subst IsKeptLine (sym (rest_line n cs d ds))
    (frame_left n ds (left_by n cs d) (line_left n cs d sent.0.bytes line) sent.1)

pub trip_so : (states : Bool) (n : ℕ) (t : Trip) (cs : List ControllerState) (k : KnownState)
    → IsBack n t cs ⊎ IsLost t → IsKeptLine cs → AllByRecursion IsSent t.sent.frame
    → AreFit n cs t.sent.frame → IsSo states k.slaves cs
    → IsSo states (trip_after t k).slaves (front_pass n cs t.sent.frame).line
unfolding trip_after
trip_so states n t cs k (inl (each, back)) line sent fit so =
    subst (λ o. IsSo states (by_came t o k).slaves (front_pass n cs t.sent.frame).line) (sym back)
    (frame_is_back states t.is_open (came_whole t) n t.sent.frame cs k each line sent fit so)
trip_so states n t cs k (inr (inl gone)) line sent fit so =
    subst (λ o. IsSo states (by_came t o k).slaves (front_pass n cs t.sent.frame).line) (sym gone)
    (frame_is_lost states (is_some t.second) n t.sent.frame cs k line sent fit so)
trip_so states n t cs k (inr (inr (alone, other))) line sent fit so =
    subst (λ o. IsSo states (by_came t o k).slaves (front_pass n cs t.sent.frame).line) (sym other)
    (subst (λ b. IsSo states (frame_returned t.is_open b t.sent.frame t.sent.frame k).slaves
    (front_pass n cs t.sent.frame).line) (sym alone)
    (frame_unmoved states t.is_open n t.sent.frame cs k line sent fit so))

-- what happens between two frames
kept_one : (states : Bool) (s : Slave) (x y : ControllerState) → IsSlaveSo states s x → HasKept states x y
    → IsSlaveSo states s y
kept_one states s x y so same = record {
  told = λ a p b at plain is.
      same.bytes a (kept_register (kept a p at)) plain ∙ so.told a p b at plain is;
  sure = so.sure;
}

kept_all : (states : Bool) (ss : List Slave) (xs ys : List ControllerState) → HaveKept states xs ys
    → AreSo states ss xs → AreSo states ss ys
kept_all _ [] [] [] _ _ = tt
kept_all _ [] [] (_ ∷ _) have _ = absurd have
kept_all _ [] (_ ∷ _) _ _ so = absurd so
kept_all _ (_ ∷ _) [] _ _ so = absurd so
kept_all _ (_ ∷ _) (_ ∷ _) [] have _ = absurd have
kept_all states (s ∷ ss) (x ∷ xs) (y ∷ ys) have so =
    (kept_one states s x y so.0 have.0, kept_all states ss xs ys have.1 so.1)

pub kept_so : (states : Bool) (ss : List Slave) (xs ys : List ControllerState) → HaveKept states xs ys
    → IsSo states ss xs → IsSo states ss ys
kept_so states ss xs ys have (inl none) = inl none
kept_so states ss xs ys have (inr so) = inr (kept_all states ss xs ys have so)

kept_memories : (states : Bool) (xs ys : List ControllerState) → HaveKept states xs ys → HaveMemory ys
kept_memories _ [] [] _ = tt
kept_memories _ [] (_ ∷ _) have = absurd have
kept_memories _ (_ ∷ _) [] have = absurd have
kept_memories states (x ∷ xs) (y ∷ ys) have =
    (controller_memory y have.0.controller, kept_memories states xs ys have.1)

kept_names : (states : Bool) (xs ys : List ControllerState) → HaveKept states xs ys → NameStates ys
kept_names _ [] [] _ = tt
kept_names _ [] (_ ∷ _) have = absurd have
kept_names _ (_ ∷ _) [] have = absurd have
kept_names states (x ∷ xs) (y ∷ ys) have = (have.0.state, kept_names states xs ys have.1)

kept_size : (states : Bool) (xs ys : List ControllerState) → HaveKept states xs ys → length ys ≡ length xs
kept_size states [] [] have = refl
kept_size _ [] (_ ∷ _) have = absurd have
kept_size _ (_ ∷ _) [] have = absurd have
kept_size states (x ∷ xs) (y ∷ ys) have = ap suc (kept_size states xs ys have.1)

pub kept_line : (states : Bool) (xs ys : List ControllerState) → HaveKept states xs ys → length xs ≤ 256
    → IsKeptLine ys
kept_line states xs ys have few =
    let size = kept_size states xs ys have in
    record {
      memories = kept_memories states xs ys have;
      names = kept_names states xs ys have;
      few = omega (arith, size, few);
    }

all_so : (states : Bool) (js : List Journey) (cs : List ControllerState) (k : KnownState) → IsKeptLine cs
    → AreJourneys states js cs → IsSo states k.slaves cs → IsSo states (told_of js k).slaves (behind js cs)
all_so states [] cs k line journeys so = so
all_so states (j ∷ js) cs k line journeys so =
    let is : IsJourney states j cs = journeys.0 in
    let left_line : IsKeptLine (front_pass j.passed cs j.trip.sent.frame).line =
    frame_left j.passed j.trip.sent.frame cs line is.sent in
    all_so states js j.later (trip_after j.trip k)
    (kept_line states (front_pass j.passed cs j.trip.sent.frame).line j.later is.kept left_line.few)
    journeys.1
    (kept_so states (trip_after j.trip k).slaves
    (front_pass j.passed cs j.trip.sent.frame).line j.later is.kept
    (trip_so states j.passed j.trip cs k is.came line is.sent is.fit so))

-- what is told by journeys over a line is so
pub journeys_so : (states : Bool) (js : List Journey) (line : List ControllerState) (k : KnownState)
    → IsLine line → IsSo states k.slaves line → AreJourneys states js line
    → IsSo states (told_of js k).slaves (behind js line)
journeys_so states js line k is so journeys =
    all_so states js line k (record {
      memories = each-map IsController HasMemory line controller_memory is.controllers;
      names = is.states;
      few = is.few;
    }) journeys so

-- ---- steps of applications

-- a step of an application leaves what is claimed without AL status
pub steps_keep : (s : SlaveState) (a : ℕ) → IsController s.controller → a < 4096 → IsClaimed false a
    → get_or (step s).controller.memory a 0 ≡ get_or s.controller.memory a 0
steps_keep s a is low claimed = (step_leaves s is.memory_size).bytes a (record {
  al_status = ⊎_elim (λ (before : a < 304). inl before) (λ (past : 310 ≤ a). inr (omega
      (arith, past))) beside;
  al_status_code = ⊎_elim (λ (before : a < 304). inl (omega (arith, before))) (λ
      (past : 310 ≤ a). inr past) beside;
  requests = claimed.0 0;
  answers = claimed.0 1;
  register = low;
})
  where
    either : (false ≡ true) ⊎ ((a < 304) ⊎ (310 ≤ a)) → (a < 304) ⊎ (310 ≤ a)
    either (inl same) = absurd (cc)
    either (inr is) = is

    beside : (a < 304) ⊎ (310 ≤ a)
    beside = either claimed.1
