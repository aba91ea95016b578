-- What a broadcast read of AL status tells of each slave: a bit that is 0 in its answer is 0 in the AL status
-- of each slave, and 8 alone says Op.
use Rattle.std.proofs.Common.{◌≡◌, ℕ, ◌+◌, ◌-◌, ◌*◌, ◌/◌, ◌%◌, ◌<◌, ◌≤◌, Bool, true, false, cond, eqb}
use Rattle.std.proofs.Common.{List, [], ◌∷◌, ◌++◌, length, get_or, Option, None, Some, Ok, suc, is_some}
use Rattle.std.proofs.Common.{refl, sym, ap, ◌∙◌, subst, arith, ⊎_elim}
use Rattle.std.specs.Int.{bit_at}
use Rattle.std.specs.List.{AllByRecursion}
use Rattle.std.specs.Option.{option_map}
use Rattle.std.specs.Prelude.{slice_get}
use Rattle.std.proofs.lemmas.Bool.{cases_Bool, cases_lt, eqb-true}
use Rattle.ec_regs.specs.Al.{state_of, status_of}
use Rattle.ec_regs.specs.Bits.{bit}
use Rattle.ec_regs.specs.declared.al.AlState.TheVariants.{Op}
use Rattle.ec_regs.proofs.Laws.{bit-lt, bit_of_byte, each-both, each-map}
use Rattle.ec_wire.specs.Datagram.{ado_of}
use Rattle.ec_wire.specs.declared.kind.Kind.{Kind}
use Rattle.ec_wire.specs.declared.kind.Kind.TheVariants.{Brd}
use Rattle.ec_areas.specs.Records.{sync_managers_of}
use Rattle.ec_areas.proofs.Laws.{reads_registers}
use Rattle.ec_esc.specs.Application.{al_status}
use Rattle.ec_esc.specs.Pass.{serves_range_read}
use Rattle.ec_esc.specs.State.{ControllerState, IsController, NamesState}
use Rattle.ec_app.specs.State.{SlaveState}
use Rattle.ec_line.specs.Accepted.{Accepts}
use Rattle.ec_line.specs.Claims.{claim}
use Rattle.ec_line.specs.Request.{Request}
use Rattle.ec_line.specs.Steady.{SameSteady}
use Rattle.ec_line.proofs.Laws.{accepts_lasts, after_controller, after_steady, broadcast_claim}
use Rattle.ec_line.proofs.Laws.{register_steady}
use Rattle.ec_check.specs.Line.{controllers}
use Rattle.ec_map.specs.Item.{ItemRecord, IsItem, AsksTheSame, is_broadcast}
use Rattle.ec_map.specs.Place.{IsPlaced}
use Rattle.ec_map.specs.Share.{request_of}
use Rattle.ec_map.proofs.Laws.{Accepts-IsPlaced}
use Rattle.ec_ring.specs.Ring.{RingState}
use Rattle.ec_ring.specs.declared.weather.Weather.{Weather}
use Rattle.ec_master.specs.Again.{AskTheSame}
use Rattle.ec_master.specs.Unordered.{AreAnswers, ByStation, IsAccepted, IsAnswer, by_station, slave_after}
use Rattle.ec_master.specs.Unordered.{slaves_after, slaves_after_all, station}
use Rattle.ec_master.specs.Certificate.{memory_at}
use Rattle.ec_master.specs.Travelled.{answers_under, ring_under}
use Rattle.ec_master.specs.Work.{with_answers}
use Rattle.ec_master.specs.Suffice.{SaysOf}
use Rattle.ec_master.specs.WeatherTrips.{InWeather}
use Rattle.ec_master.specs.declared.verdict.Verdict.TheVariants.{Good}
use Rattle.ec_run.specs.Cycles.{items_sent}
use Rattle.ec_run.specs.declared.cycles.Cycles.{Cycles}
use Rattle.ec_run.specs.declared.outputs.Outputs.{Outputs}
use Rattle.ec_run.specs.States.{says_op, says_op_if, states_item, tells_all_in_op}
use Rattle.ec_over_ring.specs.InOp.{CycleTellsAllInOp, IsToldAllInOp, TellsAllInOp}
use Rattle.ec_over_ring.proofs.SentLemmas.{sent_asks, sent_items}

-- ---- one broadcast read of AL status

-- what is asked of each slave, whatever the ADP
abbrev pub read_request : ℕ → Request
read_request adp = record { kind = Brd; address = adp + 65536 * 304; count = 1 }

pub asked_states : (last : ItemRecord) → AsksTheSame states_item last
    → request_of last ≡ read_request last.adp
asked_states last asks =
    ap (λ (k : Kind). record {
      kind = k;
      address = cond (is_broadcast k) (last.adp + 65536 * last.address) last.address;
      count = length last.payload;
    }) asks.kind
    ∙ ap (λ (a : ℕ). record { kind = Brd; address = last.adp + 65536 * a; count = length last.payload })
    asks.address
    ∙ ap (λ (n : ℕ). record { kind = Brd; address = last.adp + 65536 * 304; count = n }) asks.size

-- a slave claims each bit of its AL status that is 1
claims_status : (adp i : ℕ) (c : ControllerState) → adp < 65536 → i < 8 → bit c.memory (2432 + i) ≡ 1
    → claim (read_request adp) c i ≡ Some 1
claims_status adp i c below inside one =
    let place : ado_of (adp + 65536 * 304) ≡ 304 = omega arith in
    broadcast_claim (adp + 65536 * 304) 1 c i (omega arith)
    ∙ ap (λ (a : ℕ). cond (serves_range_read c a 1)
    (cond (eqb (bit c.memory (8 * a + i)) 1) (Some (bit c.memory (8 * a + i))) None) None) place
    ∙ ap (λ (b : Bool). cond b
    (cond (eqb (bit c.memory (2432 + i)) 1) (Some (bit c.memory (2432 + i))) None) None)
    (reads_registers (sync_managers_of c.memory) 304 1 (omega arith) (omega arith))
    ∙ ap (λ (b : ℕ). cond (eqb b 1) (Some b) None) one

-- so a bit that is 0 where the answer is 8 is 0 in the AL status of each slave
silent : (slaves : ByStation) (last got : ItemRecord) (n i : ℕ) (s : SlaveState)
    → AsksTheSame states_item last → IsItem last → IsAnswer slaves last got → says_op got ≡ true
    → slaves n ≡ Some s → i < 8 → bit_at 8 i ≡ 0 → bit s.controller.memory (2432 + i) ≡ 0
silent slaves last got n i s asks item answer says there inside zero_there =
    let c : ControllerState = s.controller in
    let eight : get_or got.payload 0 0 ≡ 8 = eqb-true (get_or got.payload 0 0) 8 says in
    let same : 8 * 0 + i ≡ i = omega arith in
    let is_zero : bit got.payload i ≡ 0 =
    ap (bit got.payload) (sym same) ∙ bit_of_byte got.payload 0 i inside
    ∙ ap (λ (b : ℕ). bit_at b i) eight ∙ zero_there in
    ⊎_elim
    (λ (none : bit c.memory (2432 + i) < 1). let e : bit c.memory (2432 + i) ≡ 0 = omega arith in e)
    (λ (some : 1 ≤ bit c.memory (2432 + i)).
    let one : bit c.memory (2432 + i) ≡ 1 = omega (arith, bit-lt c.memory (2432 + i)) in
    let is_one : bit got.payload i ≡ 1 =
    answer.claimed i 1 (record {
      station = n;
      slave = s;
      there = there;
      claims = ap (λ (q : Request). claim q c i) (asked_states last asks)
          ∙ claims_status last.adp i c item.adp inside one;
    }) in
    absurd (omega (arith, is_zero, is_one)))
    (cases_lt (bit c.memory (2432 + i)) 1)

-- ---- AL status

-- four bits that are the code of a state, of which three are 0
code_says : (q : ℕ) → q ≡ 8 * (q / 8 % 2) → is_some (state_of q) ≡ true → q ≡ 8
code_says q low names =
    ⊎_elim
    (λ (none : q / 8 % 2 < 1).
    let is : q ≡ 0 = omega arith in
    let never : false ≡ true = subst (λ (n : ℕ). is_some (state_of n) ≡ true) is names in absurd (cc))
    (λ (some : 1 ≤ q / 8 % 2). omega arith)
    (cases_lt (q / 8 % 2) 1)

-- a byte of which bits 0, 1, 2 and 4 are 0, and whose four lowest bits are the code of a state, says Op
says_so : (b : ℕ) → bit_at b 0 ≡ 0 → bit_at b 1 ≡ 0 → bit_at b 2 ≡ 0 → bit_at b 4 ≡ 0
    → is_some (state_of (b % 16)) ≡ true → status_of b ≡ record { state = Op; error = false }
says_so b b0 b1 b2 b4 names =
    let low : b % 16 ≡ 8 * (b % 16 / 8 % 2) = omega arith in
    let code : b % 16 ≡ 8 = code_says (b % 16) low names in
    let error : bit_at b 4 ≡ 0 = b4 in
    rw (code, error) refl

-- AL status whose bits but the one of Op are 0
pub status_says : (c : ControllerState) → ((i : ℕ) → i < 8 → bit_at 8 i ≡ 0 → bit c.memory (2432 + i) ≡ 0)
    → NamesState c.memory → al_status c ≡ record { state = Op; error = false }
status_says c zeros names =
    let zero_at : (i : ℕ) → i < 8 → bit_at 8 i ≡ 0 → bit_at (get_or c.memory 304 0) i ≡ 0 =
    λ i inside zero. sym (bit_of_byte c.memory 304 i inside) ∙ zeros i inside zero in
    says_so (get_or c.memory 304 0) (zero_at 0 (omega arith) refl) (zero_at 1 (omega arith) refl)
    (zero_at 2 (omega arith) refl) (zero_at 4 (omega arith) refl) names

-- ---- a slave that items pass

-- a slave that accepts items
pub record Passes (sent : List ItemRecord) (s : SlaveState) : Type 0 where
  pub controller : IsController s.controller
  pub accepts : AllByRecursion (λ (r : ItemRecord). Accepts (request_of r) s.controller) sent

-- one of them leaves its steady bytes
left_steady : (r : ItemRecord) (rs : List ItemRecord) (s : SlaveState) → Passes (r ∷ rs) s
    → SameSteady s.controller (slave_after r s).controller
left_steady r rs s passes =
    after_steady (request_of r) r.payload s.controller passes.controller passes.accepts.0

-- so it accepts the others
passes_on : (r : ItemRecord) (rs : List ItemRecord) (s : SlaveState) → Passes (r ∷ rs) s
    → Passes rs (slave_after r s)
passes_on r rs s passes =
    let c : ControllerState = s.controller in
    let d : ControllerState = (slave_after r s).controller in
    record {
      controller = after_controller (request_of r) r.payload c passes.controller;
      accepts = each-map (λ (x : ItemRecord). Accepts (request_of x) c)
          (λ (x : ItemRecord). Accepts (request_of x) d) rs
          (λ x one. accepts_lasts (request_of x) c d passes.controller (left_steady r rs s passes) one)
          passes.accepts.1;
    }

-- and its AL status stays
status_left : (r : ItemRecord) (rs : List ItemRecord) (s : SlaveState) → Passes (r ∷ rs) s
    → get_or (slave_after r s).controller.memory 304 0 ≡ get_or s.controller.memory 304 0
status_left r rs s passes =
    (left_steady r rs s passes).bytes 304
    (register_steady (sync_managers_of s.controller.memory) 304 (omega arith))

-- ---- item after item

-- of more than one answer the last one is that of the others
pub tells_behind : (g h : ItemRecord) (gots : List ItemRecord)
    → tells_all_in_op (g ∷ h ∷ gots) ≡ tells_all_in_op (h ∷ gots)
tells_behind g h gots =
    let one_less : length (g ∷ h ∷ gots) - 1 ≡ suc (length (h ∷ gots) - 1) = omega arith in
    ap (λ (n : ℕ). says_op_if (slice_get (g ∷ h ∷ gots) n)) one_less

-- there is an item that reads the states
pub some_item : (items : List ItemRecord) → AskTheSame (items ++ states_item ∷ []) [] → ⊥
some_item [] asks = asks
some_item (r ∷ rs) asks = asks

-- where the last answer tells that all are in Op, the other bits of a slave's AL status were 0 at first
pub all_silent : (items sent gots : List ItemRecord) (slaves : ByStation) (n : ℕ) (s : SlaveState)
    → AskTheSame (items ++ states_item ∷ []) sent → AllByRecursion IsItem sent → AreAnswers slaves sent gots
    → tells_all_in_op gots ≡ true → slaves n ≡ Some s → Passes sent s
    → (i : ℕ) → i < 8 → bit_at 8 i ≡ 0 → bit s.controller.memory (2432 + i) ≡ 0
all_silent items [] gots slaves n s asks each answers tells there passes i inside zero_there =
    absurd (some_item items asks)
all_silent [] (x ∷ []) [] slaves n s asks each answers tells there passes i inside zero_there = absurd answers
all_silent [] (x ∷ []) (g ∷ []) slaves n s asks each answers tells there passes i inside zero_there =
    silent slaves x g n i s asks.0 each.0 answers.0 tells there inside zero_there
all_silent [] (x ∷ []) (g ∷ h ∷ gots) slaves n s asks each answers tells there passes i inside zero_there =
    absurd answers.1
all_silent [] (x ∷ y ∷ xs) gots slaves n s asks each answers tells there passes i inside zero_there =
    absurd asks.1
all_silent (r ∷ rs) (x ∷ xs) [] slaves n s asks each answers tells there passes i inside zero_there =
    absurd answers
all_silent (r ∷ rs) (x ∷ []) (g ∷ gots) slaves n s asks each answers tells there passes i inside zero_there =
    absurd (some_item rs asks.1)
all_silent (r ∷ rs) (x ∷ y ∷ xs) (g ∷ []) slaves n s asks each answers tells there passes i inside
    zero_there =
    absurd answers.1
all_silent (r ∷ rs) (x ∷ y ∷ xs) (g ∷ h ∷ gots) slaves n s asks each answers tells there passes i inside
    zero_there =
    let t : SlaveState = slave_after x s in
    bit_of_byte s.controller.memory 304 i inside
    ∙ ap (λ (b : ℕ). bit_at b i) (sym (status_left x (y ∷ xs) s passes))
    ∙ sym (bit_of_byte t.controller.memory 304 i inside)
    ∙ all_silent rs (y ∷ xs) (h ∷ gots) (slaves_after x slaves) n t asks.1 each.1 answers.1
    (sym (tells_behind g h gots) ∙ tells) (ap (option_map (slave_after x)) there)
    (passes_on x (y ∷ xs) s passes) i inside zero_there

-- ---- a slave behind all items

some_slave : (o : Option SlaveState) (memory : List ℕ)
    → option_map (λ (s : SlaveState). s.controller.memory) o ≡ Some memory
    → (s : SlaveState) × (o ≡ Some s) × (s.controller.memory ≡ memory)
some_slave None memory is = absurd (cc)
some_slave (Some s) memory is = (s, refl, cc)

some_after : (r : ItemRecord) (o : Option SlaveState) (t : SlaveState) → option_map (slave_after r) o ≡ Some t
    → (s : SlaveState) × (o ≡ Some s) × (slave_after r s ≡ t)
some_after r None t is = absurd (cc)
some_after r (Some s) t is = (s, refl, cc)

-- the slave that has a memory behind all items, as it was at first
record Traced (sent : List ItemRecord) (slaves : ByStation) (n : ℕ) (memory : List ℕ) : Type 0 where
  slave : SlaveState
  there : slaves n ≡ Some slave
  status : Passes sent slave → get_or memory 304 0 ≡ get_or slave.controller.memory 304 0

traced : (sent : List ItemRecord) (slaves : ByStation) (n : ℕ) (memory : List ℕ)
    → memory_at (slaves_after_all sent slaves) n ≡ Some memory → Traced sent slaves n memory
traced [] slaves n memory is =
    let first = some_slave (slaves n) memory is in
    record {
      slave = first.0;
      there = first.1;
      status = λ passes. ap (λ (m : List ℕ). get_or m 304 0) (sym first.2);
    }
traced (r ∷ rs) slaves n memory is =
    let rest : Traced rs (slaves_after r slaves) n memory = traced rs (slaves_after r slaves) n memory is in
    let first = some_after r (slaves n) rest.slave rest.there in
    record {
      slave = first.0;
      there = first.1;
      status = λ passes.
          rest.status (subst (Passes rs) first.2 (passes_on r rs first.0 passes))
          ∙ ap (λ (t : SlaveState). get_or t.controller.memory 304 0) (sym first.2)
          ∙ status_left r rs first.0 passes;
    }

-- ---- the slaves of a ring

-- what holds of each controller of a line holds of the one of a station
found : (P : ControllerState → Type 0) (ss : List SlaveState) (n : ℕ) (s : SlaveState)
    → AllByRecursion P (controllers ss) → by_station ss n ≡ Some s → P s.controller
unfolding by_station
found P [] n s all is = absurd (cc)
found P (t ∷ ts) n s all is =
    ⊎_elim
    (λ (here : eqb (station t) n ≡ true).
    let some : Some t ≡ Some s = rw here at is in
    let same : t ≡ s = cc in subst (λ (x : SlaveState). P x.controller) same all.0)
    (λ (other : eqb (station t) n ≡ false).
    let behind : by_station ts n ≡ Some s = rw other at is in found P ts n s all.1 behind)
    (cases_Bool (eqb (station t) n))

-- so the slave of a station accepts all items that are accepted
pub accepting : (slaves : List SlaveState) (sent : List ItemRecord) (n : ℕ) (s : SlaveState)
    → IsAccepted slaves sent → AllByRecursion IsItem sent → by_station slaves n ≡ Some s → Passes sent s
accepting slaves sent n s accepted each is = record {
  controller = found IsController slaves n s accepted.are is;
  accepts = each-both IsItem (IsPlaced (controllers slaves))
      (λ (r : ItemRecord). Accepts (request_of r) s.controller) sent
      (λ r item placed.
      found (Accepts (request_of r)) slaves n s
      (Accepts-IsPlaced (controllers slaves) r accepted.fit item placed) is)
      each accepted.placed;
}

-- what the answers are on a good verdict
abbrev pub AreGiven : List Weather → RingState → List ItemRecord → Type 0
AreGiven ws r sent = AreAnswers (by_station r.slaves) sent (with_answers sent (answers_under ws r sent))

-- the bits but the one of Op are 0 in the AL status of a slave of the ring
zero_before : (ws : List Weather) (r : RingState) (items sent : List ItemRecord) (n : ℕ) (s : SlaveState)
    → AreGiven ws r sent → TellsAllInOp ws r items sent → by_station r.slaves n ≡ Some s
    → (i : ℕ) → i < 8 → bit_at 8 i ≡ 0 → bit s.controller.memory (2432 + i) ≡ 0
zero_before ws r items sent n s answers told is =
    all_silent items sent (with_answers sent (answers_under ws r sent)) (by_station r.slaves) n s told.asks
    told.each answers told.tells is (accepting r.slaves sent n s told.accepted told.each is)

-- so it is in Op as the cycle finds it
pub in_op_before : (ws : List Weather) (r : RingState) (items sent : List ItemRecord) (n : ℕ) (s : SlaveState)
    → AreGiven ws r sent → TellsAllInOp ws r items sent → by_station r.slaves n ≡ Some s
    → NamesState s.controller.memory → al_status s.controller ≡ record { state = Op; error = false }
in_op_before ws r items sent n s answers told is names =
    status_says s.controller (zero_before ws r items sent n s answers told is) names

-- and as the cycle leaves it
pub in_op_behind : (ws : List Weather) (r : RingState) (items sent : List ItemRecord) (n : ℕ) (t : SlaveState)
    → AreGiven ws r sent
    → memory_at (by_station (ring_under ws r sent).slaves) n
    ≡ memory_at (slaves_after_all sent (by_station r.slaves)) n
    → TellsAllInOp ws r items sent → by_station (ring_under ws r sent).slaves n ≡ Some t
    → NamesState t.controller.memory → al_status t.controller ≡ record { state = Op; error = false }
in_op_behind ws r items sent n t answers memories told is names =
    let memory : List ℕ = t.controller.memory in
    let first : Traced sent (by_station r.slaves) n memory =
    traced sent (by_station r.slaves) n memory
    (sym memories ∙ ap (option_map (λ (s : SlaveState). s.controller.memory)) is) in
    let s : SlaveState = first.slave in
    let same : get_or memory 304 0 ≡ get_or s.controller.memory 304 0 =
    first.status (accepting r.slaves sent n s told.accepted told.each first.there) in
    status_says t.controller
    (λ i inside zero_there.
    bit_of_byte memory 304 i inside ∙ ap (λ (b : ℕ). bit_at b i) same
    ∙ sym (bit_of_byte s.controller.memory 304 i inside)
    ∙ zero_before ws r items sent n s answers told first.there i inside zero_there)
    names

-- ---- a cycle of a running master

-- what it sent asks for the states last, and what it brought tells
pub record IsToldSo (items sent brought : List ItemRecord) : Type 0 where
  pub asks : AskTheSame (items ++ states_item ∷ []) sent
  pub tells : tells_all_in_op brought ≡ true

pub told_so : (outputs : Outputs) (cycles after : Cycles) (items image brought : List ItemRecord)
    → cycles.asked ≡ items ++ states_item ∷ [] → after.image ≡ Some image → after.image ≡ Some brought
    → tells_all_in_op image ≡ true → IsToldSo items (items_sent outputs cycles) brought
told_so outputs cycles after items image brought asks is_image is_brought tells =
    let images : Some image ≡ Some brought = sym is_image ∙ is_brought in
    let same : image ≡ brought = cc in
    record {
      asks = subst (λ (xs : List ItemRecord). AskTheSame xs (items_sent outputs cycles)) asks
          (sent_asks outputs cycles);
      tells = subst (λ (xs : List ItemRecord). tells_all_in_op xs ≡ true) same tells;
    }

-- what it sends is answered so, and each slave of the ring is in Op
pub in_op_by_cycles : (before later : InWeather) (outputs : Outputs) (expected : List ℕ)
    (cycles after : Cycles) (n : ℕ) (s : SlaveState)
    (told : CycleTellsAllInOp before later outputs expected cycles after)
    → SaysOf before.ahead before.ring (items_sent outputs cycles) (Ok Good) told.cycle.brought
    → IsAccepted before.ring.slaves (items_sent outputs cycles)
    → by_station before.ring.slaves n ≡ Some s
    → NamesState s.controller.memory → al_status s.controller ≡ record { state = Op; error = false }
in_op_by_cycles before later outputs expected cycles after n s told says accepted is names =
    let sent : List ItemRecord = items_sent outputs cycles in
    let brought : List ItemRecord = told.cycle.brought in
    let each : AllByRecursion IsItem sent = sent_items outputs cycles told.each in
    let so : IsToldSo told.items sent brought =
    told_so outputs cycles after told.items told.image brought told.asks told.image_is
    (ap (λ (x : Cycles). x.image) told.cycle.after_is) told.tells in
    status_says s.controller
    (all_silent told.items sent brought (by_station before.ring.slaves) n s so.asks each
    (says.good refl) so.tells is (accepting before.ring.slaves sent n s accepted each is))
    names

-- ---- over whatever ports

pub in_op_told : (ws : List Weather) (r : RingState) (items sent image : List ItemRecord) (n : ℕ)
    (s : SlaveState) → IsToldAllInOp ws r items sent image → by_station r.slaves n ≡ Some s
    → NamesState s.controller.memory → al_status s.controller ≡ record { state = Op; error = false }
in_op_told ws r items sent image n s told is names =
    status_says s.controller
    (all_silent items sent image (by_station r.slaves) n s told.asks told.each (told.says.good refl)
    told.tells is (accepting r.slaves sent n s told.accepted told.each is))
    names
