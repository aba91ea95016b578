-- Trips before the phases of a start: frames that write nothing but station addresses. They leave what each
-- slave is asked to fit, and the records of its sync managers.
use Rattle.std.proofs.Common.{◌≡◌, ℕ, zero, suc, ◌+◌, ◌-◌, ◌*◌, ◌/◌, ◌%◌, ◌<◌, ◌≤◌, Bool, true, false, cond}
use Rattle.std.proofs.Common.{eqb, List, [], ◌∷◌, ◌++◌, length, map, take, drop, get_or, None, Some}
use Rattle.std.proofs.Common.{Result, refl, sym, ap, ◌∙◌, arith, subst, inl, inr, ◌&&◌}
use Rattle.std.specs.Prelude.{◌≢◌, ◌⊎◌}
use Rattle.std.proofs.lemmas.List.{take-append-drop}
use Rattle.ec_regs.specs.AddressRange.{within}
use Rattle.ec_regs.specs.Bits.{with_bits}
use Rattle.ec_regs.specs.SyncMan.{status_address}
use Rattle.ec_regs.specs.declared.registers.TheConstants.{MEMORY_SIZE}
use Rattle.ec_regs.proofs.Laws.{each-drop, each-take, get_or-with_bits_kept, length-with_bits}
use Rattle.ec_areas.specs.Ranges.{takes_writes}
use Rattle.ec_wire.specs.Command.{addressing, counts_adp, reads, writes}
use Rattle.ec_wire.specs.Datagram.{DatagramRecord, ado, ado_of, adp, adp_of}
use Rattle.ec_wire.specs.declared.command.Addressing.{Addressing}
use Rattle.ec_wire.specs.declared.command.Command.{Command}
use Rattle.ec_wire.specs.declared.command.Addressing.TheVariants.{AutoIncrement}
use Rattle.ec_esc.specs.Pass.{Effect, effect, frame_pass, pass, range_taken}
use Rattle.ec_esc.specs.Pass.{serves_range_write, where_served, write_half}
use Rattle.ec_esc.specs.State.{ControllerState, IsController}
use Rattle.ec_esc.specs.Writing.{settled, with_filled}
use Rattle.ec_line.specs.Trip.{back_pass, front_pass, line_pass}
use Rattle.ec_app.specs.Left.{IsLeft, SameLeft}
use Rattle.ec_app.specs.Lending.{with_controller}
use Rattle.ec_app.specs.Slave.{step}
use Rattle.ec_app.specs.State.{SlaveState}
use Rattle.ec_app.specs.declared.value.Value.{Value}
use Rattle.ec_app.proofs.Laws.{step_leaves}
use Rattle.ec_ring.specs.Reach.{back, front, turns}
use Rattle.ec_ring.specs.Ring.{RingState, controllers, line_of, with_controllers}
use Rattle.ec_ring.specs.Travel.{travelled}
use Rattle.ec_ring.specs.Walk.{Walked, walked_from_a, walked_from_b}
use Rattle.ec_ring.specs.Weather.{calm}
use Rattle.ec_ring.specs.declared.links.Links.{Links}
use Rattle.ec_ring.specs.declared.port.PortFault.{PortFault}
use Rattle.ec_ring.specs.declared.weather.Came.{Came}
use Rattle.ec_master.specs.RingTrips.{RingTrips}
use Rattle.ec_run.specs.Travels.{IsWithin, Travels}
use Rattle.ec_over_ring.specs.Brought.{ReachesAll}
use Rattle.ec_over_ring.proofs.FixedLemmas.{HoldsFixed, step_fixed}
use Rattle.ec_over_ring.proofs.NeedsLemmas.{needs, step_needs}
use Rattle.ec_over_ring.proofs.ShapeLemmas.{shape_of, step_shape}
use Rattle.ec_over_ring.proofs.SparedLemmas.{emptied_byte, filled_byte, outside, served_none, settled_kept}
use Rattle.ec_over_ring.proofs.SparedLemmas.{silent_places}
use Rattle.ec_over_ring.proofs.TransferLemmas.{have_controllers}
use Rattle.ec_over_ring.proofs.TripKeepsLemmas.{AreControllers, travelled_left, trip_keeps, walked_a_left}
use Rattle.ec_over_ring.proofs.TripLemmas.{second_is}

-- ---- a frame that writes no record

-- a datagram does not write, or writes the two bytes of a station address by place
unfoldable pub IsMild : DatagramRecord → Type 0
IsMild d =
    (writes d.command ≡ false)
    ⊎ ((addressing d.command ≡ AutoIncrement) × (ado_of d.address ≡ 16) × (length d.payload ≡ 2))

placed_none : (x : Command) (c : ControllerState) (address n p : ℕ) → addressing x ≡ AutoIncrement
    → within (ado_of address) n (p / 8) ≡ false → (effect x c address n).writing.places p ≡ None
placed_none x c address n p by_place out =
    let from : ℕ = ado_of address in
    let gain : ℕ = cond (reads x) 2 1 in
    ap (λ (a : Addressing). (where_served (writes x) (write_half a gain c address n)).places p) by_place
    ∙ served_none (writes x) (eqb (adp_of address) 0 && serves_range_write c from n)
    (range_taken gain c from n) p
    (ap (λ (t : Bool). cond (t && takes_writes c.memory (p / 8)) (Some (p - 8 * from)) None) out)

mild_places : (c : ControllerState) (d : DatagramRecord) (p : ℕ) → IsMild d → 18 ≤ p / 8
    → (effect d.command c d.address (length d.payload)).writing.places p ≡ None
unfolding IsMild
mild_places c d p (inl silent) high = silent_places d.command c d.address (length d.payload) p silent
mild_places c d p (inr (by_place, from, size)) high =
    placed_none d.command c d.address (length d.payload) p by_place
    (outside (ado_of d.address) (length d.payload) (p / 8) (inr (omega (arith, from, size, high))))

-- ---- a controller

-- registers behind the station address, but for the statuses of sync managers, are as they were
pub SameRecords : List ℕ → List ℕ → Type 0
SameRecords x y =
    (a : ℕ) → 18 ≤ a → a < 4096 → ((i : ℕ) → a ≢ status_address i) → get_or y a 0 ≡ get_or x a 0

mild_pass : (c : ControllerState) (d : DatagramRecord) → IsController c → IsMild d
    → SameRecords c.memory (pass c d).state.memory
unfolding pass SameRecords
mild_pass c d controller mild = λ a high low no_status.
    let e : Effect = effect d.command c d.address (length d.payload) in
    let new : List ℕ = with_bits c.memory d.payload e.writing.places in
    let size : length new ≡ MEMORY_SIZE =
    length-with_bits c.memory d.payload e.writing.places ∙ controller.memory_size in
    emptied_byte e.reading.mail (with_filled e.writing.mail (settled c.memory new)) a no_status
    ∙ filled_byte e.writing.mail (settled c.memory new) a no_status
    ∙ settled_kept c.memory new a (omega (arith, size, low)) no_status
    ∙ get_or-with_bits_kept c.memory d.payload e.writing.places a controller.memory
    (λ b below.
    let byte : (8 * a + b) / 8 ≡ a = omega (arith, below) in
    mild_places c d (8 * a + b) mild (omega (arith, byte, high)))

-- the ADO stays, whoever counts the ADP
ado_kept : (b : Bool) (d : DatagramRecord)
    → ado_of (cond b ((adp d + 1) % 65536 + 65536 * ado d) d.address) ≡ ado_of d.address
ado_kept true d = let same : ((adp d + 1) % 65536 + 65536 * ado d) / 65536 ≡ ado d = omega arith in same
ado_kept false d = refl

mild_passed : (c : ControllerState) (d : DatagramRecord) → IsMild d → IsMild (pass c d).datagram
unfolding pass IsMild
mild_passed c d (inl silent) = inl silent
mild_passed c d (inr (by_place, from, size)) =
    inr (
      by_place,
      ado_kept (counts_adp d.command) d ∙ from,
      length-with_bits d.payload c.memory
          (effect d.command c d.address (length d.payload)).reading.places
          ∙ size,
    )

same_then : (x y z : List ℕ) → SameRecords x y → SameRecords y z → SameRecords x z
unfolding SameRecords
same_then x y z first second = λ a high low none. second a high low none ∙ first a high low none

-- ---- a line

pub AreSame : List ControllerState → List ControllerState → Type 0
AreSame [] [] = Unit {0}
AreSame (c ∷ cs) (e ∷ es) = SameRecords c.memory e.memory × AreSame cs es
AreSame [] (e ∷ es) = ⊥
AreSame (c ∷ cs) [] = ⊥

all_same : (cs : List ControllerState) → AreSame cs cs
unfolding AreSame SameRecords
all_same [] = tt
all_same (c ∷ cs) = ((λ a high low none. refl), all_same cs)

all_then : (cs ds es : List ControllerState) → AreSame cs ds → AreSame ds es → AreSame cs es
unfolding AreSame
all_then [] [] [] first second = tt
all_then (c ∷ cs) (d ∷ ds) (e ∷ es) first second =
    (same_then c.memory d.memory e.memory first.0 second.0, all_then cs ds es first.1 second.1)
all_then [] (d ∷ ds) es first second = absurd first
all_then (c ∷ cs) [] es first second = absurd first
all_then [] [] (e ∷ es) first second = absurd second
all_then (c ∷ cs) (d ∷ ds) [] first second = absurd second

all_joined : (cs es xs ys : List ControllerState) → AreSame cs es → AreSame xs ys
    → AreSame (cs ++ xs) (es ++ ys)
unfolding AreSame
all_joined [] [] xs ys first second = second
all_joined (c ∷ cs) (e ∷ es) xs ys first second = (first.0, all_joined cs es xs ys first.1 second)
all_joined [] (e ∷ es) xs ys first second = absurd first
all_joined (c ∷ cs) [] xs ys first second = absurd first

line_mild : (cs : List ControllerState) (d : DatagramRecord) → IsMild d → AreControllers cs
    → AreSame cs (line_pass cs (d ∷ [])).line
unfolding AreSame line_pass frame_pass
line_mild [] d mild are = tt
line_mild (c ∷ cs) d mild are =
    (mild_pass c d are.0 mild, line_mild cs (pass c d).datagram (mild_passed c d mild) are.1)

front_mild : (m : ℕ) (cs : List ControllerState) (d : DatagramRecord) → IsMild d → AreControllers cs
    → AreSame cs (front_pass m cs (d ∷ [])).line
front_mild m cs d mild are =
    subst (λ (xs : List ControllerState). AreSame xs (front_pass m cs (d ∷ [])).line) (take-append-drop m cs)
    (all_joined (take m cs) (line_pass (take m cs) (d ∷ [])).line (drop m cs) (drop m cs)
    (line_mild (take m cs) d mild (each-take IsController m cs are)) (all_same (drop m cs)))

back_mild : (m : ℕ) (cs : List ControllerState) (d : DatagramRecord) → IsMild d → AreControllers cs
    → AreSame cs (back_pass m cs (d ∷ [])).line
back_mild m cs d mild are =
    subst (λ (xs : List ControllerState). AreSame xs (back_pass m cs (d ∷ [])).line) (take-append-drop m cs)
    (all_joined (take m cs) (take m cs) (drop m cs) (line_pass (drop m cs) (d ∷ [])).line
    (all_same (take m cs)) (line_mild (drop m cs) d mild (each-drop IsController m cs are)))

either_same : (cs : List ControllerState) (b : Bool) (x y : Walked) → AreSame cs x.line → AreSame cs y.line
    → AreSame cs (cond b x y).line
either_same cs true x y first second = first
either_same cs false x y first second = second

b_mild : (links : Links) (cs : List ControllerState) (d : DatagramRecord) → IsMild d → AreControllers cs
    → AreSame cs (walked_from_b links (d ∷ []) cs).line
unfolding walked_from_b IsMild
b_mild links cs d mild are =
    let m : ℕ = length cs in
    let b : Bool = turns links m in
    either_same cs _ _ _ (all_same cs)
    (subst (λ (f : List DatagramRecord). AreSame cs (back_pass (back links m) cs f).line)
    (sym (second_is b d))
    (back_mild (back links m) cs (record d { circulating = cond b true d.circulating }) mild are))

travel_mild : (links : Links) (cs : List ControllerState) (d : DatagramRecord) → IsMild d → AreControllers cs
    → AreSame cs (travelled (calm links) (d ∷ []) cs).line
unfolding travelled walked_from_a
travel_mild links cs d mild are =
    let a : List ControllerState = (walked_from_a links (d ∷ []) cs).line in
    all_then cs a (walked_from_b links (d ∷ []) a).line (front_mild (front links (length cs)) cs d mild are)
    (b_mild links a d mild (walked_a_left links (d ∷ []) cs are))

-- ---- the slaves of a ring

-- what its application needs, its objects but for values that may be written, and its records are as they
-- were found
pub record IsAsFound (s t : SlaveState) : Type 0 where
  pub needs_are : needs t ≡ needs s
  pub shapes : (i j : ℕ) → shape_of i j t.application.objects ≡ shape_of i j s.application.objects
  pub fixed : (i j : ℕ) (v : Value) → HoldsFixed i j v s → HoldsFixed i j v t
  pub bytes : (a : ℕ) → 18 ≤ a → IsLeft a → ((i : ℕ) → a ≢ status_address i)
      → get_or t.controller.memory a 0 ≡ get_or s.controller.memory a 0

unfoldable pub AreAsFound : List SlaveState → List SlaveState → Type 0
AreAsFound [] [] = Unit {0}
AreAsFound (s ∷ ss) (t ∷ ts) = IsAsFound s t × AreAsFound ss ts
AreAsFound [] (t ∷ ts) = ⊥
AreAsFound (s ∷ ss) [] = ⊥

pub found_same : (ss : List SlaveState) → AreAsFound ss ss
unfolding AreAsFound
found_same [] = tt
found_same (s ∷ ss) = (
  record {
    needs_are = refl;
    shapes = λ i j. refl;
    fixed = λ i j v at. at;
    bytes = λ a high left none. refl;
  },
  found_same ss,
)

pub found_then : (ss ts us : List SlaveState) → AreAsFound ss ts → AreAsFound ts us → AreAsFound ss us
unfolding AreAsFound
found_then [] [] [] first second = tt
found_then (s ∷ ss) (t ∷ ts) (u ∷ us) first second = (
  record {
    needs_are = second.0.needs_are ∙ first.0.needs_are;
    shapes = λ i j. second.0.shapes i j ∙ first.0.shapes i j;
    fixed = λ i j v at. second.0.fixed i j v (first.0.fixed i j v at);
    bytes = λ a high left none. second.0.bytes a high left none ∙ first.0.bytes a high left none;
  },
  found_then ss ts us first.1 second.1,
)
found_then [] (t ∷ ts) us first second = absurd first
found_then (s ∷ ss) [] us first second = absurd first
found_then [] [] (u ∷ us) first second = absurd second
found_then (s ∷ ss) (t ∷ ts) [] first second = absurd second

slave_found : (s : SlaveState) (c : ControllerState) → IsController c
    → SameRecords s.controller.memory c.memory → IsAsFound s (step (with_controller s c))
unfolding SameRecords
slave_found s c controller same =
    let t : SlaveState = with_controller s c in
    let left : SameLeft c.memory (step t).controller.memory = step_leaves t controller.memory_size in
    record {
      needs_are = step_needs t;
      shapes = λ i j. step_shape i j t;
      fixed = λ i j v at. step_fixed i j v t at;
      bytes = λ a high is none. left.bytes a is ∙ same a high is.register none;
    }

slaves_found : (ss : List SlaveState) (cs : List ControllerState) → AreControllers cs
    → AreSame (controllers ss) cs → AreAsFound ss (map step (with_controllers ss cs))
unfolding AreSame AreAsFound
slaves_found [] [] are same = tt
slaves_found [] (c ∷ cs) are same = absurd same
slaves_found (s ∷ ss) [] are same = absurd same
slaves_found (s ∷ ss) (c ∷ cs) are same =
    (slave_found s c are.0 same.0, slaves_found ss cs are.1 same.1)

-- behind such a trip
pub trip_found : (r later : RingState) (d : DatagramRecord) (came : Result Came PortFault) → ReachesAll r
    → IsMild d → RingTrips r (d ∷ []) came later → AreAsFound r.slaves later.slaves
trip_found r later d came ring mild made =
    let are : AreControllers (line_of r) = have_controllers r.slaves ring.slaves.each in
    subst (λ (x : RingState). AreAsFound r.slaves x.slaves) (sym made.1)
    (slaves_found r.slaves (travelled (calm r.links) (d ∷ []) (line_of r)).line
    (travelled_left r.links (d ∷ []) (line_of r) are) (travel_mild r.links (line_of r) d mild are))

-- ---- whatever trips there are

-- its application needs what it needed, and has objects of those lengths and rights
pub record IsAlike (s t : SlaveState) : Type 0 where
  pub needs_are : needs t ≡ needs s
  pub shapes : (i j : ℕ) → shape_of i j t.application.objects ≡ shape_of i j s.application.objects

unfoldable pub AreAlike : List SlaveState → List SlaveState → Type 0
AreAlike [] [] = Unit {0}
AreAlike (s ∷ ss) (t ∷ ts) = IsAlike s t × AreAlike ss ts
AreAlike [] (t ∷ ts) = ⊥
AreAlike (s ∷ ss) [] = ⊥

alike_same : (ss : List SlaveState) → AreAlike ss ss
unfolding AreAlike
alike_same [] = tt
alike_same (s ∷ ss) = (record { needs_are = refl; shapes = λ i j. refl }, alike_same ss)

alike_then : (ss ts us : List SlaveState) → AreAlike ss ts → AreAlike ts us → AreAlike ss us
unfolding AreAlike
alike_then [] [] [] first second = tt
alike_then (s ∷ ss) (t ∷ ts) (u ∷ us) first second = (
  record {
    needs_are = second.0.needs_are ∙ first.0.needs_are;
    shapes = λ i j. second.0.shapes i j ∙ first.0.shapes i j;
  },
  alike_then ss ts us first.1 second.1,
)
alike_then [] (t ∷ ts) us first second = absurd first
alike_then (s ∷ ss) [] us first second = absurd first
alike_then [] [] (u ∷ us) first second = absurd second
alike_then (s ∷ ss) (t ∷ ts) [] first second = absurd second

alike_stepped : (ss : List SlaveState) → AreAlike ss (map step ss)
unfolding AreAlike
alike_stepped [] = tt
alike_stepped (s ∷ ss) =
    (record { needs_are = step_needs s; shapes = λ i j. step_shape i j s }, alike_stepped ss)

alike_passed : (ss : List SlaveState) (cs : List ControllerState)
    → AreAlike ss (map step (with_controllers ss cs))
unfolding AreAlike
alike_passed [] [] = tt
alike_passed [] (c ∷ cs) = tt
alike_passed (s ∷ ss) [] = alike_stepped (s ∷ ss)
alike_passed (s ∷ ss) (c ∷ cs) = (
  record {
    needs_are = step_needs (with_controller s c);
    shapes = λ i j. step_shape i j (with_controller s c);
  },
  alike_passed ss cs,
)

-- behind any trips the ring has its links, and slaves that are alike
pub record IsStillThere (start r : RingState) : Type 0 where
  pub ring : ReachesAll r
  pub links : r.links ≡ start.links
  pub size : length r.slaves ≡ length start.slaves
  pub alike : AreAlike start.slaves r.slaves

alike_size : (ss ts : List SlaveState) → AreAlike ss ts → length ts ≡ length ss
unfolding AreAlike
alike_size [] [] are = refl
alike_size (s ∷ ss) (t ∷ ts) are = ap (λ (n : ℕ). suc n) (alike_size ss ts are.1)
alike_size [] (t ∷ ts) are = absurd are
alike_size (s ∷ ss) [] are = absurd are

trip_there : (r later : RingState) (sent : List DatagramRecord) (came : Result Came PortFault)
    → ReachesAll r → RingTrips r sent came later → IsStillThere r later
trip_there r later sent came ring made =
    let alike : AreAlike r.slaves later.slaves =
    subst (λ (x : RingState). AreAlike r.slaves x.slaves) (sym made.1)
    (alike_passed r.slaves (travelled (calm r.links) sent (line_of r)).line) in
    record {
      ring = trip_keeps r later sent came ring made;
      links = ap (λ (x : RingState). x.links) made.1;
      size = alike_size r.slaves later.slaves alike;
      alike = alike;
    }

pub there_then : (r s t : RingState) → IsStillThere r s → IsStillThere s t → IsStillThere r t
there_then r s t first second = record {
  ring = second.ring;
  links = second.links ∙ first.links;
  size = second.size ∙ first.size;
  alike = alike_then r.slaves s.slaves t.slaves first.alike second.alike;
}

travels_there : (n : ℕ) (before later : RingState) → ReachesAll before → Travels RingTrips n before later
    → IsStillThere before later
unfolding Travels
travels_there zero before later ring same =
    subst (IsStillThere before) (sym same)
    (record { ring = ring; links = refl; size = refl; alike = alike_same before.slaves })
travels_there (suc n) before later ring (sent, came, between, made, rest) =
    let first : IsStillThere before between = trip_there before between sent came ring made in
    there_then before between later first (travels_there n between later first.ring rest)

pub within_there : (most : ℕ) (before later : RingState) → ReachesAll before
    → IsWithin RingTrips most before later → IsStillThere before later
within_there most before later ring within = travels_there within.number before later ring within.travels

-- so is one in which they are as they were found
pub found_alike : (ss ts : List SlaveState) → AreAsFound ss ts → AreAlike ss ts
unfolding AreAsFound AreAlike
found_alike [] [] are = tt
found_alike (s ∷ ss) (t ∷ ts) are =
    (record { needs_are = are.0.needs_are; shapes = are.0.shapes }, found_alike ss ts are.1)
found_alike [] (t ∷ ts) are = absurd are
found_alike (s ∷ ss) [] are = absurd are
