-- What a trip of a datagram by station leaves: the registers of each slave with another station, and of the
-- one that is meant those beside its range.
use Rattle.std.proofs.Common.{◌≡◌, ℕ, ◌+◌, ◌-◌, ◌*◌, ◌/◌, ◌%◌, ◌<◌, ◌≤◌, Bool, true, false, cond}
use Rattle.std.proofs.Common.{eqb, ltb, leb, ◌&&◌, ◌||◌, List, [], ◌∷◌, ◌++◌, length, map, take, drop, get_or}
use Rattle.std.proofs.Common.{Option, None, Some, Result, refl, sym, ap, ◌∙◌, arith, subst, inl, inr, ⊎_elim}
use Rattle.std.proofs.Common.{get_or-set_other}
use Rattle.std.specs.Prelude.{◌≢◌, ◌⊎◌, bit_and, bit_or}
use Rattle.std.specs.List.{AllByRecursion}
use Rattle.std.proofs.Math.Bool.{or-false}
use Rattle.std.proofs.lemmas.Bool.{and_parts, cases_Bool, eqb-true}
use Rattle.std.proofs.lemmas.Bool.Decides.{nat_tests}
use Rattle.std.proofs.lemmas.List.{take-append-drop}
use Rattle.std.proofs.lemmas.List.FromFn.{get_or-map-range_with_len}
use Rattle.ec_regs.specs.AddressRange.{within}
use Rattle.ec_regs.specs.Bits.{with_bits}
use Rattle.ec_regs.specs.SyncMan.{status_address}
use Rattle.ec_regs.specs.declared.registers.TheConstants.{AL_CONTROL, AL_STATUS, AL_STATUS_CODE}
use Rattle.ec_regs.specs.declared.registers.TheConstants.{MEMORY_SIZE, PROCESS_MEMORY, STATION_ADDRESS}
use Rattle.ec_regs.proofs.Laws.{each-drop, each-take, get_or-with_bits_kept, length-with_bits}
use Rattle.ec_areas.proofs.Laws.{names_nowhere}
use Rattle.ec_areas.specs.Ranges.{is_in_sync_manager, sync_manager_offset, takes_writes}
use Rattle.ec_wire.specs.Command.{addressing, reads, writes}
use Rattle.ec_wire.specs.Datagram.{DatagramRecord, ado_of, adp_of}
use Rattle.ec_wire.specs.declared.command.Addressing.{Addressing}
use Rattle.ec_wire.specs.declared.command.Addressing.TheVariants.{ConfiguredStation}
use Rattle.ec_wire.specs.declared.command.Command.{Command}
use Rattle.ec_esc.specs.Pass.{Effect, Half, applied, effect, frame_pass, pass, range_taken}
use Rattle.ec_esc.specs.Pass.{serves_range_write}
use Rattle.ec_esc.specs.Pass.{where_served, write_half}
use Rattle.ec_esc.specs.State.{ControllerState, IsController, word_at}
use Rattle.ec_esc.specs.Writing.{settled, settled_byte, with_emptied, with_filled}
use Rattle.ec_esc.proofs.Laws.{written_nothing}
use Rattle.ec_line.specs.Trip.{back_pass, front_pass, line_pass}
use Rattle.ec_app.specs.Left.{IsBeside, IsLeft, SameLeft}
use Rattle.ec_app.specs.Lending.{with_controller}
use Rattle.ec_app.specs.Slave.{step}
use Rattle.ec_app.specs.State.{SlaveState}
use Rattle.ec_app.specs.declared.value.Value.{Value}
use Rattle.ec_app.proofs.Laws.{step_leaves}
use Rattle.ec_ring.specs.Reach.{back, front, turns}
use Rattle.ec_ring.specs.Ring.{RingState, controllers, line_of, with_controllers}
use Rattle.ec_ring.specs.Travel.{travelled}
use Rattle.ec_ring.specs.Walk.{Walked, walked_from_a, walked_from_b}
use Rattle.ec_ring.specs.Weather.{calm}
use Rattle.ec_ring.specs.declared.links.Links.{Links}
use Rattle.ec_ring.specs.declared.port.PortFault.{PortFault}
use Rattle.ec_ring.specs.declared.weather.Came.{Came}
use Rattle.ec_master.specs.RingTrips.{RingTrips}
use Rattle.ec_over_ring.specs.Brought.{ReachesAll}
use Rattle.ec_over_ring.specs.Recovery.{request_stands}
use Rattle.ec_over_ring.specs.States.{IsElsewhere}
use Rattle.ec_over_ring.specs.Transfers.{IsSlave}
use Rattle.ec_over_ring.proofs.BroughtLemmas.{status_stays, step_taken}
use Rattle.ec_over_ring.proofs.FixedLemmas.{HoldsFixed, step_fixed}
use Rattle.ec_over_ring.proofs.HoldersLemmas.{HasOne, one_more}
use Rattle.ec_over_ring.proofs.NeedsLemmas.{needs, step_needs}
use Rattle.ec_over_ring.proofs.PassLemmas.{address_stays, unaddressed}
use Rattle.ec_over_ring.proofs.QuietLemmas.{IsQuiet, is_marked, marked_is, pass_mark, quiet_step}
use Rattle.ec_over_ring.proofs.ShapeLemmas.{shape_of, step_shape}
use Rattle.ec_over_ring.proofs.StationLemmas.{others_step, station_of, station_stays}
use Rattle.ec_over_ring.proofs.TransferLemmas.{AreSlaves, have_controllers}
use Rattle.ec_over_ring.proofs.TripKeepsLemmas.{AreControllers, travelled_left, walked_a_left}
use Rattle.ec_over_ring.proofs.TripLemmas.{second_is}

-- ---- one byte

-- a register beside the n from another on, and no status of a sync manager
pub record IsSpared (from n a : ℕ) : Type 0 where
  pub register : a < PROCESS_MEMORY
  pub beside : IsBeside from n a
  pub no_status : (i : ℕ) → a ≢ status_address i

pub filled_byte : (mail : Option ℕ) (m : List ℕ) (a : ℕ) → ((i : ℕ) → a ≢ status_address i)
    → get_or (with_filled mail m) a 0 ≡ get_or m a 0
filled_byte None m a none = refl
filled_byte (Some i) m a none =
    get_or-set_other m (status_address i) a (bit_or (get_or m (status_address i) 0) 8) 0 (none i)

pub emptied_byte : (mail : Option ℕ) (m : List ℕ) (a : ℕ) → ((i : ℕ) → a ≢ status_address i)
    → get_or (with_emptied mail m) a 0 ≡ get_or m a 0
emptied_byte None m a none = refl
emptied_byte (Some i) m a none =
    get_or-set_other m (status_address i) a (bit_and (get_or m (status_address i) 0) 247) 0 (none i)

settled_is : (before after : List ℕ) (a : ℕ) → ((i : ℕ) → a ≢ status_address i)
    → settled_byte before after a ≡ get_or after a 0
settled_is before after a none =
    ⊎_elim
    (λ (inside : is_in_sync_manager a ≡ true).
    ⊎_elim
    (λ (status : eqb (sync_manager_offset a) 5 ≡ true).
    let low : leb 2048 a ≡ true = (and_parts (leb 2048 a) (ltb a 2112) inside).0 in
    let from : 2048 ≤ a = grind (arith, nat_tests) in
    let offset : (a - 2048) % 8 ≡ 5 = eqb-true (sync_manager_offset a) 5 status in
    let is : a ≡ status_address ((a - 2048) / 8) = omega (arith, from, offset) in
    absurd (none ((a - 2048) / 8) is))
    (λ (other : eqb (sync_manager_offset a) 5 ≡ false). rw (inside, other) refl)
    (cases_Bool (eqb (sync_manager_offset a) 5)))
    (λ (out : is_in_sync_manager a ≡ false). rw out refl)
    (cases_Bool (is_in_sync_manager a))

pub settled_kept : (before after : List ℕ) (a : ℕ) → a < length after → ((i : ℕ) → a ≢ status_address i)
    → get_or (settled before after) a 0 ≡ get_or after a 0
unfolding settled
settled_kept before after a inside none =
    get_or-map-range_with_len (settled_byte before after) 0 (length after) a a 0 (omega arith) (omega arith)
    ∙ settled_is before after a none

-- ---- one pass

and_false : (b : Bool) → (b && false) ≡ false
and_false true = refl
and_false false = refl

pub outside : (from n a : ℕ) → IsBeside from n a → within from n a ≡ false
outside from n a (inl before) =
    let less : leb from a ≡ false = grind (arith, nat_tests) in
    ap (λ (b : Bool). b && ltb a (from + n)) less
outside from n a (inr behind) =
    let past : ltb a (from + n) ≡ false = grind (arith, nat_tests) in
    ap (λ (b : Bool). leb from a && b) past ∙ and_false (leb from a)

pub served_none : (w b : Bool) (h : Half) (p : ℕ) → h.places p ≡ None
    → (where_served w (where_served b h)).places p ≡ None
served_none true true h p none = none
served_none true false h p none = refl
served_none false b h p none = refl

-- beside its range nothing is written
places_none : (x : Command) (c : ControllerState) (address n p : ℕ) → addressing x ≡ ConfiguredStation
    → within (ado_of address) n (p / 8) ≡ false → (effect x c address n).writing.places p ≡ None
places_none x c address n p station out =
    let from : ℕ = ado_of address in
    let gain : ℕ = cond (reads x) 2 1 in
    ap (λ (a : Addressing). (where_served (writes x) (write_half a gain c address n)).places p) station
    ∙ served_none (writes x)
    (eqb (adp_of address) (word_at c.memory STATION_ADDRESS) && serves_range_write c from n)
    (range_taken gain c from n) p
    (ap (λ (t : Bool). cond (t && takes_writes c.memory (p / 8)) (Some (p - 8 * from)) None) out)

-- a command that does not write
pub silent_places : (x : Command) (c : ControllerState) (address n p : ℕ) → writes x ≡ false
    → (effect x c address n).writing.places p ≡ None
silent_places x c address n p silent =
    ap (λ (w : Bool). (where_served w (write_half (addressing x) (cond (reads x) 2 1) c address n)).places p)
    silent

-- a datagram writes at most so many registers from its address on: as many as its data, or none
abbrev pub ReachesFew : DatagramRecord → ℕ → Type 0
ReachesFew d n = (length d.payload ≡ n) ⊎ ((writes d.command ≡ false) × (n ≡ 0))

few_places : (c : ControllerState) (d : DatagramRecord) (n p : ℕ) → addressing d.command ≡ ConfiguredStation
    → ReachesFew d n → within (ado_of d.address) n (p / 8) ≡ false
    → (effect d.command c d.address (length d.payload)).writing.places p ≡ None
few_places c d n p station (inl size) out =
    places_none d.command c d.address (length d.payload) p station
    (ap (λ (m : ℕ). within (ado_of d.address) m (p / 8)) size ∙ out)
few_places c d n p station (inr (silent, none)) out =
    silent_places d.command c d.address (length d.payload) p silent

byte_passed : (c : ControllerState) (d : DatagramRecord) (n a : ℕ) → addressing d.command ≡ ConfiguredStation
    → IsController c → ReachesFew d n → IsSpared (ado_of d.address) n a
    → get_or (pass c d).state.memory a 0 ≡ get_or c.memory a 0
unfolding pass
byte_passed c d n a station controller few spared =
    let e : Effect = effect d.command c d.address (length d.payload) in
    let new : List ℕ = with_bits c.memory d.payload e.writing.places in
    let size : length new ≡ MEMORY_SIZE =
    length-with_bits c.memory d.payload e.writing.places ∙ controller.memory_size in
    let low : a < PROCESS_MEMORY = spared.register in
    let out : within (ado_of d.address) n a ≡ false = outside (ado_of d.address) n a spared.beside in
    emptied_byte e.reading.mail (with_filled e.writing.mail (settled c.memory new)) a spared.no_status
    ∙ filled_byte e.writing.mail (settled c.memory new) a spared.no_status
    ∙ settled_kept c.memory new a (omega (arith, size, low)) spared.no_status
    ∙ get_or-with_bits_kept c.memory d.payload e.writing.places a controller.memory
    (λ b below.
    let byte : (8 * a + b) / 8 ≡ a = omega (arith, below) in
    few_places c d n (8 * a + b) station few
    (ap (λ (x : ℕ). within (ado_of d.address) n x) byte ∙ out))

-- a range of registers beside the status of the mailbox of requests
pub record IsBesideMark (address n : ℕ) : Type 0 where
  pub register : ado_of address < PROCESS_MEMORY
  pub beside : IsBeside (ado_of address) n 2053

-- what it leaves of a controller: its station, the registers of one with another station, and those that are
-- spared; no mark that AL control was written, of one with another station or with a range behind it; and an
-- empty mailbox of requests, of one with another station or with a range beside its status
pub record IsSparing (address n : ℕ) (c e : ControllerState) : Type 0 where
  pub station : word_at e.memory STATION_ADDRESS ≡ word_at c.memory STATION_ADDRESS
  pub bytes : (a : ℕ)
      → (adp_of address ≢ word_at c.memory STATION_ADDRESS) ⊎ IsSpared (ado_of address) n a
      → get_or e.memory a 0 ≡ get_or c.memory a 0
  pub written : (adp_of address ≢ word_at c.memory STATION_ADDRESS) ⊎ (AL_CONTROL + 2 ≤ ado_of address)
      → e.written ≡ c.written
  pub mark : (adp_of address ≢ word_at c.memory STATION_ADDRESS) ⊎ IsBesideMark address n
      → is_marked c.memory ≡ false → is_marked e.memory ≡ false

-- a range that has no byte of the station address
pub record SparesStation (address n : ℕ) : Type 0 where
  pub low : IsSpared (ado_of address) n 16
  pub high : IsSpared (ado_of address) n 17

sparing_none : (address n : ℕ) (c e : ControllerState) → e ≡ c → IsSparing address n c e
sparing_none address n c e same = record {
  station = ap (λ (x : ControllerState). word_at x.memory STATION_ADDRESS) same;
  bytes = λ a spared. ap (λ (x : ControllerState). get_or x.memory a 0) same;
  written = λ spared. ap (λ (x : ControllerState). x.written) same;
  mark = λ spared none. ap (λ (x : ControllerState). is_marked x.memory) same ∙ none;
}

sparing_then : (address n : ℕ) (c d e : ControllerState) → IsSparing address n c d
    → IsSparing address n d e → IsSparing address n c e
sparing_then address n c d e first second = record {
  station = second.station ∙ first.station;
  bytes = λ a spared. second.bytes a (still a spared) ∙ first.bytes a spared;
  written = λ spared. second.written (behind spared) ∙ first.written spared;
  mark = λ spared none. second.mark (aside spared) (first.mark spared none);
}
  where
    aside : (adp_of address ≢ word_at c.memory STATION_ADDRESS) ⊎ IsBesideMark address n
        → (adp_of address ≢ word_at d.memory STATION_ADDRESS) ⊎ IsBesideMark address n
    aside (inl other) = inl (λ is. other (is ∙ first.station))
    aside (inr beside) = inr beside

    behind : (adp_of address ≢ word_at c.memory STATION_ADDRESS) ⊎ (290 ≤ ado_of address)
        → (adp_of address ≢ word_at d.memory STATION_ADDRESS) ⊎ (290 ≤ ado_of address)
    behind (inl other) = inl (λ is. other (is ∙ first.station))
    behind (inr above) = inr above

    still : (a : ℕ) → (adp_of address ≢ word_at c.memory STATION_ADDRESS) ⊎ IsSpared (ado_of address) n a
        → (adp_of address ≢ word_at d.memory STATION_ADDRESS) ⊎ IsSpared (ado_of address) n a
    still a (inl other) = inl (λ is. other (is ∙ first.station))
    still a (inr spared) = inr spared

-- a range behind AL control leaves no mark
unmarked : (c : ControllerState) (d : DatagramRecord) (n : ℕ) → addressing d.command ≡ ConfiguredStation
    → ReachesFew d n → 290 ≤ ado_of d.address → (pass c d).state.written ≡ c.written
unfolding pass
unmarked c d n station few above =
    let e : Effect = effect d.command c d.address (length d.payload) in
    ap (λ (b : Bool). c.written || b)
    (names_nowhere (λ b. e.writing.places (8 * 288 + b)) 8
    (λ b below.
    let byte : (8 * 288 + b) / 8 ≡ 288 = omega (arith, below) in
    few_places c d n (8 * 288 + b) station few
    (ap (λ (x : ℕ). within (ado_of d.address) n x) byte
    ∙ outside (ado_of d.address) n 288 (inl (omega (arith, above))))))
    ∙ or-false c.written

few_spares : (c : ControllerState) (d : DatagramRecord) (n : ℕ) → addressing d.command ≡ ConfiguredStation
    → IsController c → ReachesFew d n → SparesStation d.address n
    → IsSparing d.address n c (pass c d).state
unfolding pass byte_passed
few_spares c d n station controller few spares =
    let own : ℕ = word_at c.memory STATION_ADDRESS in
    ⊎_elim
    (λ (meant : eqb (adp_of d.address) own ≡ true).
    let low : get_or (pass c d).state.memory 16 0 ≡ get_or c.memory 16 0 =
    byte_passed c d n 16 station controller few spares.low in
    let high : get_or (pass c d).state.memory 17 0 ≡ get_or c.memory 17 0 =
    byte_passed c d n 17 station controller few spares.high in
    record {
      station = omega (arith, low, high);
      bytes = λ a spared. beside a (eqb-true (adp_of d.address) own meant) spared;
      written = λ spared. behind (eqb-true (adp_of d.address) own meant) spared;
      mark = λ spared none. aside (eqb-true (adp_of d.address) own meant) spared none;
    })
    (λ (other : eqb (adp_of d.address) own ≡ false).
    sparing_none d.address n c (pass c d).state
    (ap (λ (e : Effect). (applied e c d).state)
    (unaddressed c d.command d.address (length d.payload) station other)
    ∙ written_nothing c d.payload controller))
    (cases_Bool (eqb (adp_of d.address) own))
  where
    beside : (a : ℕ) → adp_of d.address ≡ word_at c.memory STATION_ADDRESS
        → (adp_of d.address ≢ word_at c.memory STATION_ADDRESS) ⊎ IsSpared (ado_of d.address) n a
        → get_or (pass c d).state.memory a 0 ≡ get_or c.memory a 0
    beside a meant (inl other) = absurd (other meant)
    beside a meant (inr spared) = byte_passed c d n a station controller few spared

    behind : adp_of d.address ≡ word_at c.memory STATION_ADDRESS
        → (adp_of d.address ≢ word_at c.memory STATION_ADDRESS) ⊎ (290 ≤ ado_of d.address)
        → (pass c d).state.written ≡ c.written
    behind meant (inl other) = absurd (other meant)
    behind meant (inr above) = unmarked c d n station few above

    aside : adp_of d.address ≡ word_at c.memory STATION_ADDRESS
        → (adp_of d.address ≢ word_at c.memory STATION_ADDRESS) ⊎ IsBesideMark d.address n
        → is_marked c.memory ≡ false → is_marked (pass c d).state.memory ≡ false
    aside meant (inl other) none = absurd (other meant)
    aside meant (inr beside) none =
        pass_mark c d station controller beside.register
        (λ p byte.
        few_places c d n p station few
        (ap (λ (x : ℕ). within (ado_of d.address) n x) byte
        ∙ outside (ado_of d.address) n 2053 beside.beside))
        none

pub pass_spares : (c : ControllerState) (d : DatagramRecord) → addressing d.command ≡ ConfiguredStation
    → IsController c → SparesStation d.address (length d.payload)
    → IsSparing d.address (length d.payload) c (pass c d).state
pass_spares c d station controller spares =
    few_spares c d (length d.payload) station controller (inl refl) spares

-- ---- the controllers of a line

pub AreSparing : ℕ → ℕ → List ControllerState → List ControllerState → Type 0
AreSparing address n [] [] = Unit {0}
AreSparing address n (c ∷ cs) (e ∷ es) = IsSparing address n c e × AreSparing address n cs es
AreSparing address n [] (e ∷ es) = ⊥
AreSparing address n (c ∷ cs) [] = ⊥

all_same : (address n : ℕ) (cs : List ControllerState) → AreSparing address n cs cs
unfolding AreSparing
all_same address n [] = tt
all_same address n (c ∷ cs) = (sparing_none address n c c refl, all_same address n cs)

all_then : (address n : ℕ) (cs ds es : List ControllerState) → AreSparing address n cs ds
    → AreSparing address n ds es → AreSparing address n cs es
unfolding AreSparing
all_then address n [] [] [] first second = tt
all_then address n (c ∷ cs) (d ∷ ds) (e ∷ es) first second =
    (sparing_then address n c d e first.0 second.0, all_then address n cs ds es first.1 second.1)
all_then address n [] (d ∷ ds) es first second = absurd first
all_then address n (c ∷ cs) [] es first second = absurd first
all_then address n [] [] (e ∷ es) first second = absurd second
all_then address n (c ∷ cs) (d ∷ ds) [] first second = absurd second

all_joined : (address n : ℕ) (cs es xs ys : List ControllerState) → AreSparing address n cs es
    → AreSparing address n xs ys → AreSparing address n (cs ++ xs) (es ++ ys)
unfolding AreSparing
all_joined address n [] [] xs ys first second = second
all_joined address n (c ∷ cs) (e ∷ es) xs ys first second =
    (first.0, all_joined address n cs es xs ys first.1 second)
all_joined address n [] (e ∷ es) xs ys first second = absurd first
all_joined address n (c ∷ cs) [] xs ys first second = absurd first

few_passed : (c : ControllerState) (d : DatagramRecord) (n : ℕ) → ReachesFew d n
    → ReachesFew (pass c d).datagram n
unfolding pass
few_passed c d n (inl size) =
    inl (
    length-with_bits d.payload c.memory (effect d.command c d.address (length d.payload)).reading.places
    ∙ size
    )
few_passed c d n (inr silent) = inr silent

line_spares : (address n : ℕ) (cs : List ControllerState) (d : DatagramRecord) → d.address ≡ address
    → ReachesFew d n → addressing d.command ≡ ConfiguredStation → AreControllers cs
    → SparesStation address n → AreSparing address n cs (line_pass cs (d ∷ [])).line
unfolding AreSparing line_pass frame_pass pass few_passed
line_spares address n [] d is few station are spares = tt
line_spares address n (c ∷ cs) d is few station are spares = (
  subst (λ (x : ℕ). IsSparing x n c (pass c d).state) is
      (few_spares c d n station are.0 few (subst (λ (x : ℕ). SparesStation x n) (sym is) spares)),
  line_spares address n cs (pass c d).datagram (address_stays d station ∙ is) (few_passed c d n few)
      station are.1 spares,
)

front_spares : (m address n : ℕ) (cs : List ControllerState) (d : DatagramRecord) → d.address ≡ address
    → ReachesFew d n → addressing d.command ≡ ConfiguredStation → AreControllers cs
    → SparesStation address n → AreSparing address n cs (front_pass m cs (d ∷ [])).line
front_spares m address n cs d is few station are spares =
    subst (λ (xs : List ControllerState). AreSparing address n xs (front_pass m cs (d ∷ [])).line)
    (take-append-drop m cs)
    (all_joined address n (take m cs) (line_pass (take m cs) (d ∷ [])).line (drop m cs) (drop m cs)
    (line_spares address n (take m cs) d is few station (each-take IsController m cs are) spares)
    (all_same address n (drop m cs)))

back_spares : (m address n : ℕ) (cs : List ControllerState) (d : DatagramRecord) → d.address ≡ address
    → ReachesFew d n → addressing d.command ≡ ConfiguredStation → AreControllers cs
    → SparesStation address n → AreSparing address n cs (back_pass m cs (d ∷ [])).line
back_spares m address n cs d is few station are spares =
    subst (λ (xs : List ControllerState). AreSparing address n xs (back_pass m cs (d ∷ [])).line)
    (take-append-drop m cs)
    (all_joined address n (take m cs) (take m cs) (drop m cs) (line_pass (drop m cs) (d ∷ [])).line
    (all_same address n (take m cs))
    (line_spares address n (drop m cs) d is few station (each-drop IsController m cs are) spares))

either_spares : (address n : ℕ) (cs : List ControllerState) (b : Bool) (x y : Walked)
    → AreSparing address n cs x.line → AreSparing address n cs y.line
    → AreSparing address n cs (cond b x y).line
either_spares address n cs true x y first second = first
either_spares address n cs false x y first second = second

b_spares : (links : Links) (cs : List ControllerState) (d : DatagramRecord) (n : ℕ)
    → addressing d.command ≡ ConfiguredStation → AreControllers cs → ReachesFew d n
    → SparesStation d.address n
    → AreSparing d.address n cs (walked_from_b links (d ∷ []) cs).line
unfolding walked_from_b
b_spares links cs d n station are few spares =
    let m : ℕ = length cs in
    let b : Bool = turns links m in
    either_spares d.address n cs _ _ _
    (all_same d.address n cs)
    (subst (λ (f : List DatagramRecord). AreSparing d.address n cs (back_pass (back links m) cs f).line)
    (sym (second_is b d))
    (back_spares (back links m) d.address n cs
    (record d { circulating = cond b true d.circulating }) refl few station are spares))

travel_spares : (links : Links) (cs : List ControllerState) (d : DatagramRecord) (n : ℕ)
    → addressing d.command ≡ ConfiguredStation → AreControllers cs → ReachesFew d n
    → SparesStation d.address n
    → AreSparing d.address n cs (travelled (calm links) (d ∷ []) cs).line
unfolding travelled walked_from_a
travel_spares links cs d n station are few spares =
    let a : List ControllerState = (walked_from_a links (d ∷ []) cs).line in
    all_then d.address n cs a (walked_from_b links (d ∷ []) a).line
    (front_spares (front links (length cs)) d.address n cs d refl few station are spares)
    (b_spares links a d n station (walked_a_left links (d ∷ []) cs are) few spares)

-- ---- the slaves of a ring

-- what a trip and the step behind it leave of a slave: its station and registers, what its application needs,
-- its objects but for values that may be written, and its AL status, where no state was asked of it; and all
-- objects, where no request is in its mailbox and none is written there
pub record IsFollowed (address n : ℕ) (s t : SlaveState) : Type 0 where
  pub station : station_of t ≡ station_of s
  pub bytes : (a : ℕ) → IsLeft a → (adp_of address ≢ station_of s) ⊎ IsSpared (ado_of address) n a
      → get_or t.controller.memory a 0 ≡ get_or s.controller.memory a 0
  pub needs_are : needs t ≡ needs s
  pub shapes : (i j : ℕ) → shape_of i j t.application.objects ≡ shape_of i j s.application.objects
  pub fixed : (i j : ℕ) (v : Value) → HoldsFixed i j v s → HoldsFixed i j v t
  pub unasked : t.controller.written ≡ false
  pub status : s.controller.written ≡ false
      → (adp_of address ≢ station_of s) ⊎ (AL_STATUS_CODE + 2 ≤ ado_of address)
      → get_or t.controller.memory AL_STATUS 0 ≡ get_or s.controller.memory AL_STATUS 0
  pub quiet : (adp_of address ≢ station_of s) ⊎ IsBesideMark address n → request_stands s ≡ false
      → IsQuiet s t

pub AreFollowed : ℕ → ℕ → List SlaveState → List SlaveState → Type 0
AreFollowed address n [] [] = Unit {0}
AreFollowed address n (s ∷ ss) (t ∷ ts) = IsFollowed address n s t × AreFollowed address n ss ts
AreFollowed address n [] (t ∷ ts) = ⊥
AreFollowed address n (s ∷ ss) [] = ⊥

slave_followed : (address n : ℕ) (s : SlaveState) (c : ControllerState) → IsController c
    → IsSparing address n s.controller c → IsFollowed address n s (step (with_controller s c))
slave_followed address n s c controller sparing =
    let t : SlaveState = with_controller s c in
    let same : SameLeft c.memory (step t).controller.memory = step_leaves t controller.memory_size in
    record {
      station = station_stays t controller.memory_size ∙ sparing.station;
      bytes = λ a left spared. same.bytes a left ∙ sparing.bytes a spared;
      needs_are = step_needs t;
      shapes = λ i j. step_shape i j t;
      fixed = λ i j v at. step_fixed i j v t at;
      unasked = step_taken t;
      status = λ idle spared.
          status_stays t (sparing.written (behind spared) ∙ idle) controller.memory_size
          ∙ sparing.bytes 304 (beside spared);
      quiet = λ spared none.
          let then : IsQuiet t (step t) =
          quiet_step t controller.memory_size
          (marked_is t ∙ sparing.mark spared (sym (marked_is s) ∙ none)) in
          record { none = then.none; objects = then.objects };
    }
  where
    behind : (adp_of address ≢ station_of s) ⊎ (310 ≤ ado_of address)
        → (adp_of address ≢ station_of s) ⊎ (290 ≤ ado_of address)
    behind (inl other) = inl other
    behind (inr above) = inr (omega (arith, above))

    beside : (adp_of address ≢ station_of s) ⊎ (310 ≤ ado_of address)
        → (adp_of address ≢ station_of s) ⊎ IsSpared (ado_of address) n 304
    beside (inl other) = inl other
    beside (inr above) = inr (record {
      register = omega arith;
      beside = inl (omega (arith, above));
      no_status = λ i is. absurd (omega (arith, is));
    })

slaves_followed : (address n : ℕ) (ss : List SlaveState) (cs : List ControllerState) → AreControllers cs
    → AreSparing address n (controllers ss) cs
    → AreFollowed address n ss (map step (with_controllers ss cs))
unfolding AreSparing AreFollowed
slaves_followed address n [] [] are sparing = tt
slaves_followed address n [] (c ∷ cs) are sparing = absurd sparing
slaves_followed address n (s ∷ ss) [] are sparing = absurd sparing
slaves_followed address n (s ∷ ss) (c ∷ cs) are sparing =
    (slave_followed address n s c are.0 sparing.0, slaves_followed address n ss cs are.1 sparing.1)

pub few_followed : (r later : RingState) (d : DatagramRecord) (n : ℕ) (came : Result Came PortFault)
    → ReachesAll r → addressing d.command ≡ ConfiguredStation → ReachesFew d n → SparesStation d.address n
    → RingTrips r (d ∷ []) came later
    → AreFollowed d.address n r.slaves later.slaves
few_followed r later d n came ring station few spares made =
    let are : AreControllers (line_of r) = have_controllers r.slaves ring.slaves.each in
    subst (λ (x : RingState). AreFollowed d.address n r.slaves x.slaves) (sym made.1)
    (slaves_followed d.address n r.slaves
    (travelled (calm r.links) (d ∷ []) (line_of r)).line
    (travelled_left r.links (d ∷ []) (line_of r) are)
    (travel_spares r.links (line_of r) d n station are few spares))

pub ring_followed : (r later : RingState) (d : DatagramRecord) (came : Result Came PortFault) → ReachesAll r
    → addressing d.command ≡ ConfiguredStation → SparesStation d.address (length d.payload)
    → RingTrips r (d ∷ []) came later
    → AreFollowed d.address (length d.payload) r.slaves later.slaves
ring_followed r later d came ring station spares made =
    few_followed r later d (length d.payload) came ring station (inl refl) spares made

-- ---- one slave among them

-- one of these slaves alone has a station, and this holds of it
unfoldable pub HasSuch : (SlaveState → Type 0) → ℕ → List SlaveState → Type 0
HasSuch P station [] = ⊥
HasSuch P station (s ∷ ss) =
    ((station_of s ≡ station) × P s × AllByRecursion (IsElsewhere station) ss)
    ⊎ (IsElsewhere station s × HasSuch P station ss)

others_followed : (address n station : ℕ) (ss ts : List SlaveState) → AreFollowed address n ss ts
    → AllByRecursion (IsElsewhere station) ss → AllByRecursion (IsElsewhere station) ts
unfolding AreFollowed
others_followed address n station [] [] follow others = tt
others_followed address n station (s ∷ ss) (t ∷ ts) follow others = (
  (λ is. others.0 (sym follow.0.station ∙ is)),
  others_followed address n station ss ts follow.1 others.1,
)
others_followed address n station [] (t ∷ ts) follow others = absurd follow
others_followed address n station (s ∷ ss) [] follow others = absurd follow

pub such_followed : (P : SlaveState → Type 0) (address n station : ℕ) (ss ts : List SlaveState)
    → ((s t : SlaveState) → station_of s ≡ station → IsFollowed address n s t → P s → P t)
    → AreFollowed address n ss ts → HasSuch P station ss → HasSuch P station ts
unfolding AreFollowed HasSuch
such_followed P address n station [] [] keeps follow has = has
such_followed P address n station [] (t ∷ ts) keeps follow has = absurd follow
such_followed P address n station (s ∷ ss) [] keeps follow has = absurd follow
such_followed P address n station (s ∷ ss) (t ∷ ts) keeps follow (inl (is, such, others)) =
    inl (
      follow.0.station ∙ is,
      keeps s t is follow.0 such,
      others_followed address n station ss ts follow.1 others,
    )
such_followed P address n station (s ∷ ss) (t ∷ ts) keeps follow (inr (other, rest)) =
    inr (
      (λ is. other (sym follow.0.station ∙ is)),
      such_followed P address n station ss ts keeps follow.1 rest,
    )

-- of the one among others
pub such_between : (P : SlaveState → Type 0) (station : ℕ) (before : List SlaveState) (s : SlaveState)
    (behind : List SlaveState) → AllByRecursion (IsElsewhere station) before → station_of s ≡ station
    → P s → AllByRecursion (IsElsewhere station) behind → HasSuch P station (before ++ s ∷ behind)
unfolding HasSuch
such_between P station [] s behind first is such last = inl (is, such, last)
such_between P station (x ∷ before) s behind first is such last =
    inr (first.0, such_between P station before s behind first.1 is such last)

-- two things that hold of it
pub such_both : (P Q : SlaveState → Type 0) (station : ℕ) (ss : List SlaveState) → HasSuch P station ss
    → HasSuch Q station ss → HasSuch (λ s. P s × Q s) station ss
unfolding HasSuch
such_both P Q station [] first second = absurd first
such_both P Q station (s ∷ ss) (inl (is, such, others)) (inl (same, as_well, rest)) =
    inl (is, (such, as_well), others)
such_both P Q station (s ∷ ss) (inl (is, such, others)) (inr (other, rest)) = absurd (other is)
such_both P Q station (s ∷ ss) (inr (other, rest)) (inl (is, such, others)) = absurd (other is)
such_both P Q station (s ∷ ss) (inr (other, first)) (inr (same, second)) =
    inr (other, such_both P Q station ss first second)

-- what follows from it
pub such_as : (P Q : SlaveState → Type 0) (station : ℕ) (ss : List SlaveState)
    → ((s : SlaveState) → P s → Q s) → HasSuch P station ss → HasSuch Q station ss
unfolding HasSuch
such_as P Q station [] f has = absurd has
such_as P Q station (s ∷ ss) f (inl (is, such, others)) = inl (is, f s such, others)
such_as P Q station (s ∷ ss) f (inr (other, rest)) = inr (other, such_as P Q station ss f rest)

-- where each took its step
pub such_stepped : (P : SlaveState → Type 0) (station : ℕ) (ss : List SlaveState)
    → ((s : SlaveState) → IsSlave s → P s → P (step s)) → AreSlaves ss → HasSuch P station ss
    → HasSuch P station (map step ss)
unfolding HasSuch
such_stepped P station [] keeps are has = has
such_stepped P station (s ∷ ss) keeps are (inl (is, such, others)) =
    inl (
      station_stays s are.0.controller.memory_size ∙ is,
      keeps s are.0 such,
      others_step station ss others (have_controllers ss are.1),
    )
such_stepped P station (s ∷ ss) keeps are (inr (other, rest)) =
    inr (
      (λ is. other (sym (station_stays s are.0.controller.memory_size) ∙ is)),
      such_stepped P station ss keeps are.1 rest,
    )

-- it and those around it
pub record IsSuch (P : SlaveState → Type 0) (station : ℕ) (ss : List SlaveState) : Type 0 where
  pub one : HasOne station ss
  pub such : P one.slave

pub such_one : (P : SlaveState → Type 0) (station : ℕ) (ss : List SlaveState) → HasSuch P station ss
    → IsSuch P station ss
unfolding HasSuch one_more
such_one P station [] has = absurd has
such_one P station (s ∷ ss) (inl (is, such, others)) = record {
  one = record {
    before = [];
    slave = s;
    behind = ss;
    slaves = refl;
    station_is = is;
    others_before = tt;
    others_behind = others;
  };
  such = such;
}
such_one P station (s ∷ ss) (inr (other, rest)) =
    let more : IsSuch P station ss = such_one P station ss rest in
    record { one = one_more station s ss other more.one; such = more.such }
