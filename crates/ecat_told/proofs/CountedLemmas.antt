-- How many slaves are told behind a datagram that came back, and what it tells of all of them.
use Rattle.std.proofs.Common.{◌≡◌, ◌⊎◌, ℕ, zero, suc, ◌+◌, ◌-◌, ◌%◌, ◌<◌, ◌≤◌, Bool, true, false, cond, eqb}
use Rattle.std.proofs.Common.{◌&&◌, List, [], ◌∷◌, ◌++◌, length, map, get_or, take, replicate, max, Option}
use Rattle.std.proofs.Common.{None, Some}
use Rattle.std.proofs.Common.{refl, sym, ap, ◌∙◌, arith, ⊎_elim, inl, inr, subst}
use Rattle.std.specs.List.{AllByRecursion}
use Rattle.std.proofs.lemmas.Bool.Decides.{nat_tests}
use Rattle.std.proofs.lemmas.Bool.{and_parts, cases_Bool, eqb-true}
use Rattle.std.proofs.Math.Bool.{and-false}
use Rattle.ec_wire.specs.Command.{counts_adp, writes}
use Rattle.ec_wire.specs.Datagram.{DatagramRecord, adp_of, ado_of}
use Rattle.ec_wire.specs.declared.command.Command.{Command}
use Rattle.ec_wire.specs.declared.command.Command.TheVariants.{Nop, Aprd, Apwr, Aprw, Fprd, Fpwr, Fprw, Brd}
use Rattle.ec_wire.specs.declared.command.Command.TheVariants.{Bwr, Brw, Lrd, Lwr, Lrw, Armw, Frmw}
use Rattle.ec_esc.specs.Pass.{pass}
use Rattle.ec_esc.specs.State.{ControllerState, NamesState}
use Rattle.ecat_trips.specs.Alike.{moves_adp}
use Rattle.ecat_trips.specs.Copies.{grown, moved}
use Rattle.ecat_told.specs.declared.byte.Byte.TheVariants.{Untold}
use Rattle.ecat_told.specs.declared.byte.How.{How}
use Rattle.ecat_told.specs.declared.byte.How.TheVariants.{Read}
use Rattle.ecat_told.specs.declared.slave.Slave.{Slave}
use Rattle.ecat_told.specs.declared.whom.Whom.{Whom}
use Rattle.ecat_told.specs.declared.whom.Whom.TheVariants.{Nobody, Place, Station, Everybody}
use Rattle.ecat_told.specs.Known.{KnownState, by_whom, counted, did, first_of, is_logical, is_one_state}
use Rattle.ecat_told.specs.Known.{is_write, may_have_done}
use Rattle.ecat_told.specs.Known.{moves_logical, place, resized, returned, slaves_after, starts_up}
use Rattle.ecat_told.specs.Known.{tells_states, told_by, whom}
use Rattle.ecat_told.specs.Known.{with_states}
use Rattle.ecat_told.specs.Registers.{touches}
use Rattle.ecat_told.specs.Slave.{told_run, untold}
use Rattle.ecat_told.specs.So.{AreSo, IsSlaveSo, IsSo}
use Rattle.ecat_told.proofs.ArrivalLemmas.{passed_address, passed_adp, passed_command}
use Rattle.ecat_told.proofs.DatagramLemmas.{IsFound}
use Rattle.ecat_told.proofs.LineLemmas.{reading, came, came_moved, came_size, gains, left, left_all}
use Rattle.ecat_told.proofs.LineLemmas.{still_so}
use Rattle.ecat_told.proofs.PlacedLemmas.{at_place_is, changed_at}
use Rattle.ecat_told.proofs.ReturnedLemmas.{told_returned}
use Rattle.ecat_told.proofs.StatesLemmas.{states_so}

-- ---- how far the ADP has grown

came_adp : (cs : List ControllerState) (d : DatagramRecord) → counts_adp d.command ≡ true
    → adp_of (came cs d).address ≡ (adp_of d.address + length cs) % 65536
unfolding came
came_adp [] d counts = omega arith
came_adp (c ∷ cs) d counts =
    let first = passed_adp c d counts in
    let rest = came_adp cs (pass c d).datagram (ap counts_adp (passed_command c d) ∙ counts) in
    omega (arith, first, rest)

came_address : (cs : List ControllerState) (d : DatagramRecord) → counts_adp d.command ≡ false
    → (came cs d).address ≡ d.address
unfolding came
came_address [] d still = refl
came_address (c ∷ cs) d still =
    came_address cs (pass c d).datagram (ap counts_adp (passed_command c d) ∙ still)
    ∙ passed_address c d still

grown_is : (cs : List ControllerState) (d : DatagramRecord) → counts_adp d.command ≡ true → length cs ≤ 256
    → grown d (came cs d) ≡ length cs
grown_is cs d counts few = let is = came_adp cs d counts in omega (arith, is, few)

grown_none : (cs : List ControllerState) (d : DatagramRecord) → counts_adp d.command ≡ false
    → grown d (came cs d) ≡ 0
grown_none cs d still = let is = came_address cs d still in omega (arith, ap (λ a. a % 65536) is)

-- a command whose ADP real slaves count up: these do, or it does not write alone
moving : (x : Command) → moves_adp x ≡ true
    → (counts_adp x ≡ true) ⊎ ((counts_adp x ≡ false) × (is_write x ≡ false))
moving Nop is = absurd (cc)
moving Aprd is = inl refl
moving Apwr is = inl refl
moving Aprw is = inl refl
moving Fprd is = absurd (cc)
moving Fpwr is = absurd (cc)
moving Fprw is = absurd (cc)
moving Brd is = inl refl
moving Bwr is = inl refl
moving Brw is = inr (refl, refl)
moving Lrd is = absurd (cc)
moving Lwr is = absurd (cc)
moving Lrw is = absurd (cc)
moving Armw is = inr (refl, refl)
moving Frmw is = absurd (cc)

-- ---- how many slaves are told

nothing_told : (n p : ℕ) → get_or (replicate n Untold) p Untold ≡ Untold
nothing_told zero p = refl
nothing_told (suc n) zero = refl
nothing_told (suc n) (suc p) = nothing_told n p

-- of one of whom nothing is told all is so
untold_so : (states : Bool) (c : ControllerState) → IsSlaveSo states untold c
untold_so states c = record {
  told = λ a p b at plain is. (let none = nothing_told 200 p in absurd (cc));
  sure = λ a p b at free is. (let none = nothing_told 200 p in cc);
}

all_untold : (states : Bool) (cs : List ControllerState) → AreSo states (replicate (length cs) untold) cs
all_untold _ [] = tt
all_untold states (c ∷ cs) = (untold_so states c, all_untold states cs)

pub so_size : (states : Bool) (ss : List Slave) (cs : List ControllerState) → AreSo states ss cs
    → length ss ≡ length cs
so_size states [] [] so = refl
so_size _ [] (_ ∷ _) so = absurd so
so_size _ (_ ∷ _) [] so = absurd so
so_size states (s ∷ ss) (c ∷ cs) so = ap suc (so_size states ss cs so.1)

take_none : (n : ℕ) → ◌≡◌ {A = List Slave} (take n []) []
take_none zero = refl
take_none (suc n) = refl

resized_none : (n : ℕ) → resized n [] ≡ replicate n untold
resized_none n =
    let all : n - 0 ≡ n = omega arith in
    ap (λ xs. xs ++ replicate (n - 0) untold) (take_none n) ∙ ap (λ m. replicate m untold) all

resized_same : (ss : List Slave) → resized (length ss) ss ≡ ss
resized_same [] = refl
resized_same (s ∷ ss) =
    let less : suc (length ss) - suc (length ss) ≡ length ss - length ss = omega arith in
    ap (λ m. s ∷ (take (length ss) ss ++ replicate m untold)) less ∙ ap (λ xs. s ∷ xs) (resized_same ss)

-- as many as the line has, or as were told
resized_so : (states : Bool) (n : ℕ) (ss : List Slave) (cs : List ControllerState)
    → (n ≡ length cs) ⊎ (n ≡ length ss) → IsSo states ss cs → IsSo states (resized n ss) cs
resized_so states n ss cs (inl all) (inl none) =
    inr (subst (λ xs. AreSo states xs cs)
    (sym (ap (resized n) none ∙ resized_none n ∙ ap (λ m. replicate m untold) all)) (all_untold states cs))
resized_so states n ss cs (inr same) (inl none) =
    inl (ap (λ m. resized m ss) same ∙ resized_same ss ∙ none)
resized_so states n ss cs (inl all) (inr so) =
    inr (subst (λ xs. AreSo states xs cs)
    (sym (ap (λ m. resized m ss) (all ∙ sym (so_size states ss cs so)) ∙ resized_same ss)) so)
resized_so states n ss cs (inr same) (inr so) =
    inr (subst (λ xs. AreSo states xs cs) (sym (ap (λ m. resized m ss) same ∙ resized_same ss)) so)

size_of : (states : Bool) (ss : List Slave) (cs : List ControllerState) → IsSo states ss cs
    → (length ss ≡ 0) ⊎ (length ss ≡ length cs)
size_of states ss cs (inl none) = inl (ap length none)
size_of states ss cs (inr so) = inr (so_size states ss cs so)

most_of : (n : ℕ) (ss : List Slave) (cs : List ControllerState) → (n ≡ length cs) ⊎ (n ≡ 0)
    → (length ss ≡ 0) ⊎ (length ss ≡ length cs)
    → (max n (length ss) ≡ length cs) ⊎ (max n (length ss) ≡ length ss)
most_of n ss cs (inl all) (inl none) = inl (omega (arith, all, none))
most_of n ss cs (inl all) (inr each) = inl (omega (arith, all, each))
most_of n ss cs (inr zero_n) size = inr (omega (arith, zero_n))

-- a datagram that came back tells as many as the line has, or as before
pub counted_so : (states : Bool) (starts all : Bool) (ss : List Slave) (cs : List ControllerState)
    (d : DatagramRecord) → (starts ≡ true → is_write d.command ≡ true) → length cs ≤ 256 → IsSo states ss cs
    → IsSo states (counted starts all d (came cs d) ss) cs
counted_so states starts all ss cs d begins few so =
    ⊎_elim
    (λ (counts : (all && moves_adp d.command) ≡ true).
    rw counts (grows (moving d.command (and_parts all (moves_adp d.command) counts).1)))
    (λ (still : (all && moves_adp d.command) ≡ false). rw still so)
    (cases_Bool (all && moves_adp d.command))
  where
    n : ℕ
    n = grown d (came cs d)

    grows : (counts_adp d.command ≡ true) ⊎ ((counts_adp d.command ≡ false) × (is_write d.command ≡ false))
        → IsSo states (cond starts (resized n ss) (resized (max n (length ss)) ss)) cs
    grows (inl counts) =
        let all_of : n ≡ length cs = grown_is cs d counts few in
        ⊎_elim
        (λ (first : starts ≡ true). rw first (resized_so states n ss cs (inl all_of) so))
        (λ (later : starts ≡ false).
        rw later (resized_so states (max n (length ss)) ss cs (most_of n ss cs (inl all_of)
        (size_of states ss cs so)) so))
        (cases_Bool starts)
    grows (inr (still, no_write)) =
        let none : n ≡ 0 = grown_none cs d still in
        ⊎_elim
        (λ (first : starts ≡ true).
        let both : true ≡ false = sym (begins first) ∙ no_write in absurd (cc))
        (λ (later : starts ≡ false).
        rw later (resized_so states (max n (length ss)) ss cs (most_of n ss cs (inr none)
        (size_of states ss cs so)) so))
        (cases_Bool starts)

-- ---- of no slaves

whom_none : (w : Whom) (how : How) (address : ℕ) (values : List ℕ) → by_whom w how address values [] ≡ []
unfolding changed_at
whom_none Nobody how address values = refl
whom_none Place how address values = at_place_is how (place address) (ado_of address) values []
whom_none Station how address values = refl
whom_none Everybody how address values = refl

pub told_none : (o : Option How) (x : Command) (address : ℕ) (values : List ℕ)
    → told_by o x address values [] ≡ []
told_none None x address values = refl
told_none (Some how) x address values =
    ⊎_elim
    (λ (some : touches (ado_of address) (length values) ≡ true). rw some (whom_none
    (whom x) how address values))
    (λ (none : touches (ado_of address) (length values) ≡ false). rw none refl)
    (cases_Bool (touches (ado_of address) (length values)))

either_none : (b : Bool) (n : ℕ) (values : List ℕ) → cond b (map (told_run Read n values) []) [] ≡ []
either_none true n values = refl
either_none false n values = refl

-- what a command other than BRD tells of states
abbrev pub TellsNoStates : Command → Type 0
TellsNoStates x = (s c : DatagramRecord) (ss : List Slave) → with_states x s c ss ≡ ss

states_or : (x : Command) → (x ≡ Brd) ⊎ TellsNoStates x
states_or Nop = inr (λ s c ss. refl)
states_or Aprd = inr (λ s c ss. refl)
states_or Apwr = inr (λ s c ss. refl)
states_or Aprw = inr (λ s c ss. refl)
states_or Fprd = inr (λ s c ss. refl)
states_or Fpwr = inr (λ s c ss. refl)
states_or Fprw = inr (λ s c ss. refl)
states_or Brd = inl refl
states_or Bwr = inr (λ s c ss. refl)
states_or Brw = inr (λ s c ss. refl)
states_or Lrd = inr (λ s c ss. refl)
states_or Lwr = inr (λ s c ss. refl)
states_or Lrw = inr (λ s c ss. refl)
states_or Armw = inr (λ s c ss. refl)
states_or Frmw = inr (λ s c ss. refl)

no_states : (x : Command) (s c : DatagramRecord) → (x ≡ Brd) ⊎ TellsNoStates x → with_states x s c [] ≡ []
no_states x s c (inl is) =
    ap (λ y. with_states y s c []) is ∙ either_none (tells_states 0 s c) 304 (first_of c.payload ∷ [])
no_states x s c (inr none) = none s c []

-- ---- of all

pub first_some : (w : List ℕ) → is_one_state (first_of w) ≡ true → 1 ≤ length w
first_some [] one = absurd (cc)
first_some (b ∷ bs) one = omega arith

-- a broadcast read
broadcast_so : (states : Bool) (ss : List Slave) (cs : List ControllerState) (d : DatagramRecord)
    → d.command ≡ Brd
    → IsFound d cs → d.counter < 65536 → AllByRecursion (λ (c : ControllerState). NamesState c.memory) cs
    → AreSo states ss cs
    → AreSo states (cond (tells_states (length ss) d (came cs d))
    (map (told_run Read 304 (first_of (came cs d).payload ∷ [])) ss) ss) (left cs d)
broadcast_so states ss cs d is found small names so =
    ⊎_elim
    (λ (tells : tells_states (length ss) d (came cs d) ≡ true).
    let parts = and_parts (eqb (ado_of d.address) 304 && eqb (moved d (came cs d)) (length ss))
    (is_one_state (first_of (came cs d).payload)) tells in
    let first = and_parts (eqb (ado_of d.address) 304) (eqb (moved d (came cs d)) (length ss)) parts.0 in
    let counted : gains cs d ≡ length cs =
    sym (came_moved cs d small found.few) ∙ eqb-true (moved d (came cs d)) (length ss) first.1
    ∙ so_size states ss cs so in
    let some = first_some (came cs d).payload parts.1 in
    let size = came_size cs d in
    rw tells
    (states_so states ss cs d
    (record {
      command = is;
      place = eqb-true (ado_of d.address) 304 first.0;
      some = omega
          (arith, some, size);
    })
    counted parts.1 found.memories names so))
    (λ (none : tells_states (length ss) d (came cs d) ≡ false).
    rw none
    (subst (λ es. AreSo states ss es) (left_all cs d)
    (still_so states (length cs) ss cs d (reading (ap is_logical is) (ap writes is))
    found.memories so)))
    (cases_Bool (tells_states (length ss) d (came cs d)))

-- what is told behind what it did
states_told : (states : Bool) (ss : List Slave) (cs : List ControllerState) (d : DatagramRecord) (all : Bool)
    → IsFound d cs → d.counter < 65536 → length d.payload ≤ 1486
    → AllByRecursion (λ (c : ControllerState). NamesState c.memory) cs → AreSo states ss cs
    → (d.command ≡ Brd) ⊎ TellsNoStates d.command
    → AreSo states (with_states d.command d (came cs d)
    (told_by (did d.command (length ss) (moved d (came cs d)) all) d.command d.address
    (came cs d).payload ss))
    (left cs d)
states_told states ss cs d all found small short names so (inl is) =
    subst (λ x. AreSo states (with_states x d (came cs d)
    (told_by (did x (length ss) (moved d (came cs d)) all) x d.address (came cs d).payload ss)) (left cs d))
    (sym is) (broadcast_so states ss cs d is found small names so)
states_told states ss cs d all found small short names so (inr none) =
    subst (λ xs. AreSo states xs (left cs d)) (sym (none d (came cs d) _))
    (subst (λ n. AreSo states (told_by (did d.command n (moved d (came cs d)) all) d.command d.address
    (came cs d).payload ss) (left cs d)) (sym (so_size states ss cs so))
    (subst (λ m. AreSo states (told_by (did d.command (length cs) m all) d.command d.address
    (came cs d).payload ss) (left cs d)) (sym (came_moved cs d small found.few))
    (told_returned states ss cs d all found short so)))

states_none : (cs : List ControllerState) (d : DatagramRecord) (o : Option How)
    → with_states d.command d (came cs d) (told_by o d.command d.address (came cs d).payload []) ≡ []
states_none cs d o =
    ap (with_states d.command d (came cs d)) (told_none o d.command d.address (came cs d).payload)
    ∙ no_states d.command d (came cs d) (states_or d.command)

told_line_so : (states : Bool) (there : List Slave) (cs : List ControllerState) (d : DatagramRecord)
    (all : Bool) → IsFound d cs → d.counter < 65536 → length d.payload ≤ 1486
    → AllByRecursion (λ (c : ControllerState). NamesState c.memory) cs → IsSo states there cs
    → IsSo states (with_states d.command d (came cs d)
    (told_by (did d.command (length there) (moved d (came cs d)) all) d.command d.address (came cs d).payload
    there)) (left cs d)
told_line_so states there cs d all found small short names (inl none) =
    inl (ap (λ ss. with_states d.command d (came cs d)
    (told_by (did d.command (length ss) (moved d (came cs d)) all) d.command d.address (came cs d).payload
    ss)) none
    ∙ states_none cs d (did d.command 0 (moved d (came cs d)) all))
told_line_so states there cs d all found small short names (inr so) =
    inr (states_told states there cs d all found small short names so (states_or d.command))

-- ---- the whole datagram

slaves_so : (states : Bool) (starts all : Bool) (ss : List Slave) (cs : List ControllerState)
    (d : DatagramRecord) → (starts ≡ true → is_write d.command ≡ true) → IsFound d cs → d.counter < 65536
    → length d.payload ≤ 1486 → AllByRecursion (λ (c : ControllerState). NamesState c.memory) cs
    → IsSo states ss cs → IsSo states (slaves_after starts all d (came cs d) ss) (left cs d)
slaves_so states starts all ss cs d begins found small short names so =
    told_line_so states (counted starts all d (came cs d) ss) cs d all found small short names
    (counted_so states starts all ss cs d begins found.few so)

begins_by_write : (ready a b : Bool) → (ready && (a && b)) ≡ true → a ≡ true
begins_by_write ready a b is = (and_parts a b (and_parts ready (a && b) is).1).0

starts_write : (ready : Bool) (d c : DatagramRecord) → starts_up ready d c ≡ true → is_write d.command ≡ true
starts_write ready d c is =
    (and_parts (is_write d.command) _ (begins_by_write ready _ _ is)).0

returned_slaves : (all : Bool) (d c : DatagramRecord) (k : KnownState)
    → (returned all d c k).slaves ≡ slaves_after (starts_up k.ready d c) all d c k.slaves
unfolding returned
returned_slaves all d c k =
    ⊎_elim (λ (moves : moves_logical d c ≡ true). rw moves refl)
    (λ (still : moves_logical d c ≡ false). rw still refl)
    (cases_Bool (moves_logical d c))

-- what is told behind a datagram that came back of the line is so of the line behind it
pub datagram_returned : (states : Bool) (all : Bool) (k : KnownState) (cs : List ControllerState)
    (d : DatagramRecord) → IsFound d cs → d.counter < 65536 → length d.payload ≤ 1486
    → AllByRecursion (λ (c : ControllerState). NamesState c.memory) cs → IsSo states k.slaves cs
    → IsSo states (returned all d (came cs d) k).slaves (left cs d)
datagram_returned states all k cs d found small short names so =
    subst (λ ss. IsSo states ss (left cs d)) (sym (returned_slaves all d (came cs d) k))
    (slaves_so states (starts_up k.ready d (came cs d)) all k.slaves cs d (starts_write k.ready d
    (came cs d)) found small
    short names so)

-- ---- a copy that no slave processed

did_unmoved : (x : Command) (n : ℕ) → did x n 0 false ≡ may_have_done x
did_unmoved Nop n = refl
did_unmoved Aprd n = refl
did_unmoved Apwr n = refl
did_unmoved Aprw n = refl
did_unmoved Fprd n = refl
did_unmoved Fpwr n = refl
did_unmoved Fprw n = refl
did_unmoved Brd n = refl
did_unmoved Bwr n = refl
did_unmoved Brw n = refl
did_unmoved Lrd n = refl
did_unmoved Lwr n = refl
did_unmoved Lrw n = refl
did_unmoved Armw n = refl
did_unmoved Frmw n = refl

not_moved : (d : DatagramRecord) → d.counter < 65536 → moved d d ≡ 0
not_moved d small = omega (arith, small)

no_zero : (n : ℕ) → eqb 0 (suc n) ≡ false
no_zero n = grind (arith, nat_tests)

states_unmoved : (x : Command) (d : DatagramRecord) (ss : List Slave) → d.counter < 65536
    → (x ≡ Brd) ⊎ TellsNoStates x → with_states x d d ss ≡ ss
states_unmoved x d ss small (inr none) = none d d ss
states_unmoved x d [] small (inl is) =
    ap (λ y. with_states y d d []) is ∙ either_none (tells_states 0 d d) 304 (first_of d.payload ∷ [])
states_unmoved x d (s ∷ ss) small (inl is) =
    let still = not_moved d small in
    let other : eqb (moved d d) (suc (length ss)) ≡ false =
    ap (λ m. eqb m (suc (length ss))) still ∙ no_zero (length ss) in
    ap (λ y. with_states y d d (s ∷ ss)) is
    ∙ ap (λ b. cond (b && is_one_state (first_of d.payload))
    (map (told_run Read 304 (first_of d.payload ∷ [])) (s ∷ ss)) (s ∷ ss))
    (ap (λ b. eqb (ado_of d.address) 304 && b) other ∙ and-false (eqb (ado_of d.address) 304))

-- tells what a lost one does, where another one is missing
pub unmoved_slaves : (d : DatagramRecord) (k : KnownState) → d.counter < 65536
    → (returned false d d k).slaves
    ≡ told_by (may_have_done d.command) d.command d.address d.payload k.slaves
unmoved_slaves d k small =
    returned_slaves false d d k
    ∙ ap (λ m. with_states d.command d d
    (told_by (did d.command (length k.slaves) m false) d.command d.address d.payload k.slaves))
    (not_moved d small)
    ∙ ap (λ o. with_states d.command d d (told_by o d.command d.address d.payload k.slaves))
    (did_unmoved d.command (length k.slaves))
    ∙ states_unmoved d.command d
    (told_by (may_have_done d.command) d.command d.address d.payload k.slaves) small (states_or d.command)
