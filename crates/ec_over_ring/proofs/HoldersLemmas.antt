-- A write of AL control and a read of registers are counted over a ring by each slave that has the station:
-- where one counted it, one alone has that station, and where none did, none has.
use Rattle.std.proofs.Common.{◌≡◌, ℕ, zero, suc, ◌+◌, ◌-◌, ◌<◌, ◌≤◌, ◌%◌, Bool, true, false, cond, eqb, ltb}
use Rattle.std.proofs.Common.{◌&&◌, min, List, [], ◌∷◌, ◌++◌, length, take, drop, Option, None, Some, Result, Ok, Err}
use Rattle.std.proofs.Common.{refl, sym, ap, ◌∙◌, arith, subst, ⊎_elim, true≢false}
use Rattle.std.specs.Prelude.{is_none}
use Rattle.std.specs.List.{AllByRecursion}
use Rattle.std.proofs.Math.Bool.{and-true}
use Rattle.std.proofs.Math.Seq.{drop-length}
use Rattle.std.proofs.lemmas.Bool.{cases_Bool, eq-eqb, eqb-true}
use Rattle.std.proofs.lemmas.Bool.Decides.{nat_tests}
use Rattle.std.proofs.lemmas.List.{length-drop, length-take}
use Rattle.ec_regs.specs.declared.registers.TheConstants.{AL_CONTROL, PROCESS_MEMORY, STATION_ADDRESS}
use Rattle.ec_regs.specs.Bits.{with_bits}
use Rattle.ec_regs.proofs.Laws.{length-with_bits}
use Rattle.ec_areas.specs.Records.{sync_managers_of}
use Rattle.ec_areas.proofs.Laws.{reads_registers}
use Rattle.ec_wire.specs.declared.command.Addressing.TheVariants.{ConfiguredStation}
use Rattle.ec_app.specs.State.{SlaveState}
use Rattle.ec_wire.specs.Command.{addressing}
use Rattle.ec_wire.specs.Datagram.{DatagramRecord, ado_of, adp_of, nth}
use Rattle.ec_wire.specs.declared.command.Command.TheVariants.{Fprd, Fpwr}
use Rattle.ec_merge.specs.Frames.{joined_frame}
use Rattle.ec_merge.specs.Rule.{joined_count}
use Rattle.ec_esc.specs.State.{ControllerState, word_at}
use Rattle.ec_esc.specs.Pass.{Effect, effect, frame_pass, gain_of, pass, serves_range_read}
use Rattle.ec_esc.specs.Pass.{serves_range_write}
use Rattle.ec_esc.proofs.Laws.{gain_served}
use Rattle.ec_line.specs.Trip.{front_pass, line_pass}
use Rattle.ec_ring.specs.Links.{IsOnlyDown}
use Rattle.ec_ring.specs.Reach.{arrival_a, arrival_b, back, front, turns}
use Rattle.ec_ring.specs.Ring.{controllers}
use Rattle.ec_ring.specs.Travel.{Travelled, travelled}
use Rattle.ec_ring.specs.Weather.{calm}
use Rattle.ec_ring.specs.declared.links.Links.{Links}
use Rattle.ec_ring.specs.declared.port.Port.{Port}
use Rattle.ec_ring.specs.declared.weather.Came.{Came}
use Rattle.ec_ring.proofs.Laws.{front-is-back, lost-back, lost-front}
use Rattle.ec_master.specs.Ports.{came_or}
use Rattle.ec_services.specs.Ask.{Answer, Brings, write_decides}
use Rattle.ec_services.specs.declared.fault.MasterFault.{MasterFault}
use Rattle.ec_services.specs.declared.fault.MasterFault.TheVariants.{BadAnswer, NoSlave, Stranger}
use Rattle.ec_over_ring.specs.States.{IsElsewhere}
use Rattle.ec_over_ring.proofs.ControlLemmas.{control_served}
use Rattle.ec_over_ring.proofs.LineLemmas.{turned}
use Rattle.ec_over_ring.proofs.PassLemmas.{address_stays}
use Rattle.ec_over_ring.proofs.TripLemmas.{first_copy, second_copy, second_is}
use Rattle.ec_over_ring.proofs.WayLemmas.{both, travelled_pieces, way_of}

-- ---- who has a station

-- how many controllers have it
pub holders : ℕ → List ControllerState → ℕ
holders station [] = 0
holders station (c ∷ cs) =
    cond (eqb station (word_at c.memory STATION_ADDRESS)) 1 0 + holders station cs

one_at_most : (b : Bool) → cond b 1 0 ≤ 1
one_at_most true = omega arith
one_at_most false = omega arith

holders_bound : (station : ℕ) (line : List ControllerState) → holders station line ≤ length line
unfolding holders
holders_bound station [] = omega arith
holders_bound station (c ∷ cs) =
    let few = one_at_most (eqb station (word_at c.memory STATION_ADDRESS)) in
    let rest = holders_bound station cs in omega (arith, few, rest)

holders_parts : (station m : ℕ) (line : List ControllerState)
    → holders station (take m line) + holders station (drop m line) ≡ holders station line
unfolding holders
holders_parts station zero line = omega arith
holders_parts station (suc m) [] = refl
holders_parts station (suc m) (c ∷ cs) =
    let rest : holders station (take m cs) + holders station (drop m cs) ≡ holders station cs =
    holders_parts station m cs in
    omega (arith, rest)

-- ---- one slave

-- a datagram on its way that each controller counts that has the station, and that so many have counted
pub record IsCounting (station count : ℕ) (d : DatagramRecord) : Type 0 where
  pub by_station : addressing d.command ≡ ConfiguredStation
  pub gains : (c : ControllerState) → gain_of (effect d.command c d.address (length d.payload))
      ≡ cond (eqb station (word_at c.memory STATION_ADDRESS)) 1 0
  pub counter : d.counter ≡ count

-- so is a write of AL control
pub control_gains : (station : ℕ) (c : ControllerState) (address : ℕ) → adp_of address ≡ station
    → ado_of address ≡ AL_CONTROL
    → gain_of (effect Fpwr c address 2) ≡ cond (eqb station (word_at c.memory STATION_ADDRESS)) 1 0
control_gains station c address named place =
    let own : ℕ = word_at c.memory STATION_ADDRESS in
    gain_served Fpwr c address 2
    ∙ (let e : 0 + cond (eqb (adp_of address) own && serves_range_write c (ado_of address) 2) 1 0
    ≡ cond (eqb (adp_of address) own && serves_range_write c (ado_of address) 2) 1 0 = omega arith in e)
    ∙ ap (λ (a : ℕ). cond (eqb (adp_of address) own && serves_range_write c a 2) 1 0) place
    ∙ ap (λ (b : Bool). cond (eqb (adp_of address) own && b) 1 0) (control_served c.memory)
    ∙ ap (λ (b : Bool). cond b 1 0) (and-true (eqb (adp_of address) own))
    ∙ ap (λ (n : ℕ). cond (eqb n own) 1 0) named

-- and a read of registers
pub read_gains : (station : ℕ) (c : ControllerState) (address from n : ℕ) → adp_of address ≡ station
    → ado_of address ≡ from → 1 ≤ n → from + n ≤ PROCESS_MEMORY
    → gain_of (effect Fprd c address n) ≡ cond (eqb station (word_at c.memory STATION_ADDRESS)) 1 0
read_gains station c address from n named place some inside =
    let own : ℕ = word_at c.memory STATION_ADDRESS in
    gain_served Fprd c address n
    ∙ (let e : cond (eqb (adp_of address) own && serves_range_read c (ado_of address) n) 1 0 + 0
    ≡ cond (eqb (adp_of address) own && serves_range_read c (ado_of address) n) 1 0 = omega arith in e)
    ∙ ap (λ (a : ℕ). cond (eqb (adp_of address) own && serves_range_read c a n) 1 0) place
    ∙ ap (λ (b : Bool). cond (eqb (adp_of address) own && b) 1 0)
    (reads_registers (sync_managers_of c.memory) from n some inside)
    ∙ ap (λ (b : Bool). cond b 1 0) (and-true (eqb (adp_of address) own))
    ∙ ap (λ (x : ℕ). cond (eqb x own) 1 0) named

-- it counts where it has the station
one_counted : (station count : ℕ) (c : ControllerState) (d : DatagramRecord) → IsCounting station count d
    → count + 1 < 65536
    → IsCounting station (count + cond (eqb station (word_at c.memory STATION_ADDRESS)) 1 0)
    (pass c d).datagram
unfolding pass
one_counted station count c d is small =
    let e : Effect = effect d.command c d.address (length d.payload) in
    let own : ℕ = cond (eqb station (word_at c.memory STATION_ADDRESS)) 1 0 in
    let gain : gain_of e ≡ own = is.gains c in
    let few : own ≤ 1 = one_at_most (eqb station (word_at c.memory STATION_ADDRESS)) in
    let counter : d.counter ≡ count = is.counter in
    let size : length (with_bits d.payload c.memory e.reading.places) ≡ length d.payload =
    length-with_bits d.payload c.memory e.reading.places in
    record {
      by_station = is.by_station;
      gains = λ x.
          ap (λ (a : ℕ). gain_of (effect d.command x a (length (with_bits d.payload c.memory
          e.reading.places)))) (address_stays d is.by_station)
          ∙ ap (λ (n : ℕ). gain_of (effect d.command x d.address n)) size
          ∙ is.gains x;
      counter = let n : ℕ = gain_of e in
          let more : (d.counter + n) % 65536 ≡ count + own = omega (arith, gain, few, counter, small) in more;
    }

-- ---- the slaves of a line

record IsCountedBy (station count : ℕ) (line : List ControllerState) (d : DatagramRecord) : Type 0 where
  told : DatagramRecord
  is : IsCounting station (count + holders station line) told
  frame : (line_pass line (d ∷ [])).frame ≡ told ∷ []

line_counted : (station count : ℕ) (line : List ControllerState) (d : DatagramRecord)
    → IsCounting station count d → count + length line < 65536 → IsCountedBy station count line d
unfolding line_pass frame_pass holders
line_counted station count [] d is small =
    let same : count ≡ count + 0 = omega arith in
    record { told = d; is = subst (λ (n : ℕ). IsCounting station n d) same is; frame = refl }
line_counted station count (c ∷ cs) d is small =
    let own : ℕ = cond (eqb station (word_at c.memory STATION_ADDRESS)) 1 0 in
    let few : own ≤ 1 = one_at_most (eqb station (word_at c.memory STATION_ADDRESS)) in
    let rest : IsCountedBy station (count + own) cs (pass c d).datagram =
    line_counted station (count + own) cs (pass c d).datagram
    (one_counted station count c d is (omega (arith, small))) (omega (arith, small, few)) in
    let same : count + own + holders station cs ≡ count + (own + holders station cs) = omega arith in
    record {
      told = rest.told;
      is = subst (λ (n : ℕ). IsCounting station n rest.told) same rest.is;
      frame = rest.frame;
    }

-- ---- both copies

-- behind the first ones of a line the others stand as they stood
pub behind_first : (m : ℕ) (line : List ControllerState) (frame : List DatagramRecord)
    → drop m (front_pass m line frame).line ≡ drop m line
unfolding line_pass
behind_first zero line frame = refl
behind_first (suc m) [] frame = refl
behind_first (suc m) (c ∷ cs) frame = behind_first m cs (frame_pass c frame).frame

-- a copy that came back, or the frame that was sent, counted so often
pub record IsTold (count : ℕ) (frame : List DatagramRecord) : Type 0 where
  pub told : DatagramRecord
  pub is : frame ≡ told ∷ []
  pub counter : told.counter ≡ count

pub told_or_lost : (lost : Bool) (count : ℕ) (d e : DatagramRecord) (frame : List DatagramRecord)
    → (lost ≡ true → count ≡ 0) → d.counter ≡ 0 → frame ≡ e ∷ [] → e.counter ≡ count
    → IsTold count (came_or (cond lost None (Some frame)) (d ∷ []))
told_or_lost true count d e frame none sent is counter =
    record { told = d; is = refl; counter = sent ∙ sym (none refl) }
told_or_lost false count d e frame none sent is counter = record { told = e; is = is; counter = counter }

-- its answer is of the frame that was sent, and tells that so many have counted it
abbrev pub SaysCount : Answer → ℕ → Type 0
SaysCount (Err fault) n = fault ≡ Stranger
SaysCount (Ok back) n = (nth back.joined 0).counter ≡ n

pub answer_counts : (d : DatagramRecord) (came : Came) (answer : Answer) (i j : ℕ) → d.counter ≡ 0
    → IsTold i (came_or came.a (d ∷ [])) → IsTold j (came_or came.b (d ∷ [])) → i + j < 65536
    → Brings d (Ok came) answer → SaysCount answer (i + j)
answer_counts d came (Err fault) i j sent a b small brings = brings.0
answer_counts d came (Ok back) i j sent a b small brings =
    let n : ℕ = (nth back.joined 0).counter in
    let count : n ≡ joined_count d.counter a.told.counter b.told.counter =
    ap (λ (f : List DatagramRecord). (nth f 0).counter)
    (brings.1.2 ∙ ap (λ (f : List DatagramRecord). joined_frame (d ∷ []) f (came_or came.b (d ∷ []))) a.is
    ∙ ap (λ (f : List DatagramRecord). joined_frame (d ∷ []) (a.told ∷ []) f) b.is) in
    let first : a.told.counter ≡ i = a.counter in
    let second : b.told.counter ≡ j = b.counter in
    omega (arith, count, first, second, sent, small)

part_less : (m : ℕ) (line : List ControllerState) → length line ≤ 256 → length (take m line) ≤ 256
part_less m line few =
    let size : length (take m line) ≡ min m (length line) = length-take m line in omega (arith, size, few)

rest_less : (m : ℕ) (line : List ControllerState) → length line ≤ 256 → length (drop m line) ≤ 256
rest_less m line few =
    let size : length (drop m line) ≡ length line - m = length-drop m line in omega (arith, size, few)

way_counted : (lost_a lost_b : Bool) (m : ℕ) (b : Bool) (station : ℕ) (d : DatagramRecord)
    (line : List ControllerState) (answer : Answer) → IsCounting station 0 d → length line ≤ 256
    → (lost_a ≡ true → holders station (take m line) ≡ 0)
    → (lost_b ≡ true → holders station (drop m line) ≡ 0)
    → Brings d (Ok (way_of lost_a lost_b m b line d).came) answer → SaysCount answer (holders station line)
unfolding both
way_counted lost_a lost_b m b station d line answer is limit none_a none_b brings =
    let i : ℕ = holders station (take m line) in
    let j : ℕ = holders station (drop m line) in
    let parts : i + j ≡ holders station line = holders_parts station m line in
    let bound : holders station line ≤ length line = holders_bound station line in
    let all : i + j < 65536 = omega (arith, parts, bound, limit) in
    let sent : d.counter ≡ 0 = is.counter in
    let front_few : length (take m line) ≤ 256 = part_less m line limit in
    let back_few : length (drop m line) ≤ 256 = rest_less m line limit in
    let first : IsCountedBy station 0 (take m line) d =
    line_counted station 0 (take m line) d is (omega (arith, front_few)) in
    let sent_b : DatagramRecord = turned (cond b true d.circulating) d in
    let second : IsCountedBy station 0 (drop m line) sent_b =
    line_counted station 0 (drop m line) sent_b
    (record { by_station = is.by_station; gains = is.gains; counter = is.counter })
    (omega (arith, back_few)) in
    let zero_i : 0 + i ≡ i = omega arith in
    let zero_j : 0 + j ≡ j = omega arith in
    let after : List ControllerState = (first_copy m line d).line in
    let b_frame : (second_copy m b after d).frame ≡ second.told ∷ [] =
    ap (λ (f : List DatagramRecord). (line_pass (drop m after) f).frame) (second_is b d)
    ∙ ap (λ (cs : List ControllerState). (line_pass cs (sent_b ∷ [])).frame) (behind_first m line (d ∷ []))
    ∙ second.frame in
    let a_told : IsTold i (came_or (cond lost_a None (Some (first_copy m line d).frame)) (d ∷ [])) =
    told_or_lost lost_a i d first.told (first_copy m line d).frame none_a sent first.frame
    (first.is.counter ∙ zero_i) in
    let b_told : IsTold j (came_or (cond lost_b None (Some (second_copy m b after d).frame)) (d ∷ [])) =
    told_or_lost lost_b j d second.told (second_copy m b after d).frame none_b sent b_frame
    (second.is.counter ∙ zero_j) in
    subst (SaysCount answer) parts
    (answer_counts d (way_of lost_a lost_b m b line d).came answer i j sent a_told b_told all brings)

-- ---- over a ring

pub lost_one : (o : Option Port) → is_none o ≡ true → o ≡ None
lost_one None is = refl
lost_one (Some p) is = absurd (true≢false (sym is))

-- over a line with at most one link down it is counted by each that has the station
pub trip_counted : (links : Links) (k station : ℕ) (d : DatagramRecord) (line : List ControllerState)
    (answer : Answer) → IsOnlyDown links (length line) k → d.circulating ≡ false → IsCounting station 0 d
    → length line ≤ 256 → Brings d (Ok (travelled (calm links) (d ∷ []) line).came) answer
    → SaysCount answer (holders station line)
unfolding holders
trip_counted links k station d line answer one still is limit brings =
    let n : ℕ = length line in
    let m : ℕ = front links n in
    let meet : m ≡ back links n = front-is-back links n k one in
    way_counted (is_none (arrival_a links n)) (is_none (arrival_b links n)) m (turns links n) station d line
    answer is limit
    (λ lost. ap (λ (i : ℕ). holders station (take i line))
    (lost-front links n (lost_one (arrival_a links n) lost)))
    (λ lost.
    let all : m ≡ n = meet ∙ lost-back links n (lost_one (arrival_b links n) lost) in
    ap (λ (i : ℕ). holders station (drop i line)) all ∙ ap (holders station) (drop-length line))
    (subst (λ (t : Travelled). Brings d (Ok t.came) answer) (travelled_pieces links d line still meet) brings)

-- ---- what it decides

-- what a count decides
abbrev pub write_told : Bool → Bool → MasterFault → MasterFault → Result (Option (Unit {0})) MasterFault
write_told p q x y = cond p (Err x) (cond q (Err y) (Ok None))

two_rows : (p q : Bool) (x y : MasterFault) → write_told p q x y ≡ Ok None → (p ≡ false) × (q ≡ false)
two_rows true q x y is = absurd (cc)
two_rows false true x y is = absurd (cc)
two_rows false false x y is = (refl, refl)

pub counted_one : (n : ℕ) → (eqb n 0 ≡ false) × (ltb 1 n ≡ false) → n ≡ 1
counted_one n tests =
    let some : eqb n 0 ≡ false = tests.0 in
    let few : ltb 1 n ≡ false = tests.1 in grind (arith, nat_tests)

-- a write that decides nothing was counted once
pub decides_one : (answer : Answer) (n : ℕ) → SaysCount answer n
    → write_decides {A = Unit {0}} answer ≡ Ok None → n ≡ 1
decides_one (Err fault) n says decides = absurd (cc)
decides_one (Ok back) n says decides =
    let k : ℕ = (nth back.joined 0).counter in
    sym says ∙ counted_one k (two_rows (eqb k 0) (ltb 1 k) NoSlave BadAnswer decides)

-- ---- the slaves

pub none_holds : (station : ℕ) (ss : List SlaveState) → holders station (controllers ss) ≡ 0
    → AllByRecursion (IsElsewhere station) ss
unfolding holders
none_holds station [] none = tt
none_holds station (s ∷ ss) none =
    let own : ℕ = word_at s.controller.memory STATION_ADDRESS in
    ⊎_elim
    (λ (here : eqb station own ≡ true).
    let more : 1 + holders station (controllers ss) ≡ 0 =
    sym (ap (λ (b : Bool). cond b 1 0 + holders station (controllers ss)) here) ∙ none in
    absurd (omega (arith, more)))
    (λ (other : eqb station own ≡ false).
    let rest : 0 + holders station (controllers ss) ≡ 0 =
    sym (ap (λ (b : Bool). cond b 1 0 + holders station (controllers ss)) other) ∙ none in (
      (λ is. true≢false (sym (eq-eqb station own (sym is)) ∙ other)),
      none_holds station ss (omega (arith, rest)),
    ))
    (cases_Bool (eqb station own))

-- one slave has a station, between others
pub record HasOne (station : ℕ) (ss : List SlaveState) : Type 0 where
  pub before : List SlaveState
  pub slave : SlaveState
  pub behind : List SlaveState
  pub slaves : ss ≡ before ++ slave ∷ behind
  pub station_is : word_at slave.controller.memory STATION_ADDRESS ≡ station
  pub others_before : AllByRecursion (IsElsewhere station) before
  pub others_behind : AllByRecursion (IsElsewhere station) behind

unfoldable pub one_more : (station : ℕ) (s : SlaveState) (ss : List SlaveState) → IsElsewhere station s
    → HasOne station ss → HasOne station (s ∷ ss)
one_more station s ss other rest = record {
  before = s ∷ rest.before;
  slave = rest.slave;
  behind = rest.behind;
  slaves = ap (λ (xs : List SlaveState). s ∷ xs) rest.slaves;
  station_is = rest.station_is;
  others_before = (other, rest.others_before);
  others_behind = rest.others_behind;
}

pub one_holds : (station : ℕ) (ss : List SlaveState) → holders station (controllers ss) ≡ 1
    → HasOne station ss
unfolding holders
one_holds station [] one = absurd (omega (arith, one))
one_holds station (s ∷ ss) one =
    let own : ℕ = word_at s.controller.memory STATION_ADDRESS in
    ⊎_elim
    (λ (here : eqb station own ≡ true).
    let more : 1 + holders station (controllers ss) ≡ 1 =
    sym (ap (λ (b : Bool). cond b 1 0 + holders station (controllers ss)) here) ∙ one in
    record {
      before = [];
      slave = s;
      behind = ss;
      slaves = refl;
      station_is = sym (eqb-true station own here);
      others_before = tt;
      others_behind = none_holds station ss (omega (arith, more));
    })
    (λ (other : eqb station own ≡ false).
    let left : 0 + holders station (controllers ss) ≡ 1 =
    sym (ap (λ (b : Bool). cond b 1 0 + holders station (controllers ss)) other) ∙ one in
    one_more station s ss (λ is. true≢false (sym (eq-eqb station own (sym is)) ∙ other))
    (one_holds station ss (omega (arith, left))))
    (cases_Bool (eqb station own))
