-- What stands for each mapped bit, item after item.
use Rattle.std.proofs.Common.{◌≡◌, ◌⊎◌, ⊎_elim, inl, inr, ℕ, ◌+◌, ◌-◌, ◌*◌, ◌/◌, ◌<◌, ◌≤◌, Bool, true, false}
use Rattle.std.proofs.Common.{if◌then◌else◌, ◌&&◌, cond, eqb, Option, None, Some, List, [], ◌∷◌, length}
use Rattle.std.proofs.Common.{zero, suc, get_or, refl, sym, subst, ap, ◌∙◌, arith}
use Rattle.std.specs.List.{AllByRecursion}
use Rattle.std.specs.Option.{option_map}
use Rattle.std.proofs.lemmas.Bool.{and_parts, cases_Bool, cases_lt, both_ways, ne_eqb, or_left, or_right}
use Rattle.std.proofs.lemmas.Option.{slice_get_past, get_or_from_slice_get}
use Rattle.std.proofs.lemmas.Bool.Decides.{nat_tests}
use Rattle.ec_regs.specs.Bits.{bit, later, with_bits}
use Rattle.ec_regs.specs.declared.registers.TheConstants.{STATION_ADDRESS, MEMORY_SIZE}
use Rattle.ec_regs.specs.declared.registers.TheConstants.{PROCESS_MEMORY, PROCESS_MEMORY_SIZE}
use Rattle.ec_regs.specs.declared.sync_man.SyncMan.{SyncMan}
use Rattle.ec_regs.specs.SyncMan.{is_active, is_buffered, master_writes, guards_outputs}
use Rattle.ec_regs.proofs.Laws.{bit-with_bits_taken, bit-with_bits_kept, get_or-with_bits_kept}
use Rattle.ec_areas.specs.Areas.{guards, holds}
use Rattle.ec_areas.specs.Showing.{last_byte}
use Rattle.ec_areas.specs.Records.{sync_managers_of}
use Rattle.ec_areas.proofs.Laws.{writable_parts, guards_from, active_place, names_none}
use Rattle.ec_wire.specs.declared.kind.Kind.{Kind}
use Rattle.ec_wire.specs.declared.kind.Kind.TheVariants.{Lrd, Lwr, Lrw, Brd, Fprd, Fpwr}
use Rattle.ec_wire.specs.Datagram.{adp_of, ado_of}
use Rattle.ec_esc.specs.Pass.{Half, where_served, range_targets, written_mailbox, serves_range_write}
use Rattle.ec_esc.specs.Pass.{touches}
use Rattle.ec_esc.specs.Writing.{hands_over, is_shown_anew}
use Rattle.ec_esc.proofs.Laws.{get_or-shown_after}
use Rattle.ec_esc.specs.State.{ControllerState, IsController, word_at}
use Rattle.ec_app.specs.State.{SlaveState}
use Rattle.ec_line.specs.Accepted.{Accepts}
use Rattle.ec_line.specs.After.{after, written_through}
use Rattle.ec_line.specs.Claims.{claim, taken}
use Rattle.ec_line.specs.Fit.{IsFitAlone}
use Rattle.ec_line.specs.Fit.{Reads as ReadsPair, Writes as WritesPair}
use Rattle.ec_line.specs.Request.{Request}
use Rattle.ec_line.specs.Steady.{SameSteady}
use Rattle.ec_line.proofs.Laws.{claim_lasts, taken_lasts, accepts_lasts, after_steady, after_controller}
use Rattle.ec_line.proofs.Laws.{same_steady_trans, claim_lrd, claim_lrw, taken_lwr, taken_lrw, untaken_lwr}
use Rattle.ec_line.proofs.Laws.{untaken_lrw, managers_last}
use Rattle.ec_check.specs.Fit.{IsFit}
use Rattle.ec_check.specs.Line.{controllers}
use Rattle.ec_check.proofs.Laws.{IsFitLine-fit}
use Rattle.ec_map.specs.Item.{ItemRecord, IsItem, is_bit_of, is_broadcast}
use Rattle.ec_map.specs.Place.{IsPlaced}
use Rattle.ec_map.proofs.Laws.{Accepts-IsPlaced}
use Rattle.ec_map.specs.Covered.{asks, asks_bit}
use Rattle.ec_map.specs.Share.{request_of}
use Rattle.ec_map.specs.declared.covered.Way.TheVariants.{Reads, Writes}
use Rattle.ec_master.specs.Covered.{HaveInputs, sent_bit, last_sent, IsWriteTo, NoWriteTo}
use Rattle.ec_master.specs.Covered.{writes_at, IsOutputByte, CompletesWhere, IsCompleted}
use Rattle.ec_master.specs.Unordered.{ByStation, station, slave_after, slaves_after, slaves_after_all}
use Rattle.ec_master.specs.Unordered.{AreAnswers, by_station, IsAccepted}
use Rattle.ec_master.proofs.StationLemmas.{by_station_each, each-controller}

-- ---- a slave as it is now

-- the slave of a station has the steady bytes that it had at first
pub record IsNow (x : ControllerState) (now : ByStation) (n : ℕ) (t : SlaveState) : Type 0 where
  pub there : now n ≡ Some t
  pub controller : IsController t.controller
  pub steady : SameSteady x t.controller

-- so it has behind an item that it accepts
pub next_now : (x : ControllerState) (now : ByStation) (n : ℕ) (t : SlaveState) (r : ItemRecord)
    → IsController x → Accepts (request_of r) x → IsNow x now n t
    → IsNow x (slaves_after r now) n (slave_after r t)
next_now x now n t r was accepts is = record {
  there = ap (option_map (slave_after r)) is.there;
  controller = after_controller (request_of r) r.payload t.controller is.controller;
  steady = same_steady_trans x t.controller (after (request_of r) r.payload t.controller) was is.steady
      (after_steady (request_of r) r.payload t.controller is.controller
      (accepts_lasts (request_of r) x t.controller was is.steady accepts));
}

-- ---- an item's request by its kind

unfoldable pub asked : Kind → ItemRecord → Request
asked k r = record {
  kind = k;
  address = if is_broadcast k then r.adp + 65536 * r.address else r.address;
  count = length r.payload;
}

pub request-asked : (k : Kind) (r : ItemRecord) → r.kind ≡ k → request_of r ≡ asked k r
unfolding asked
request-asked k r is = ap (λ (j : Kind). asked j r) is

-- a bit of an item's range has its number there
bit_place : (a n l : ℕ) → is_bit_of a n l ≡ true → (8 * a + (l - 8 * a) ≡ l) × (l - 8 * a < 8 * n)
bit_place a n l inside =
    let from : 8 * a ≤ l = grind (arith, nat_tests) in
    let to : l - 8 * a < 8 * n = grind (arith, nat_tests) in
    (omega arith, to)

-- ---- inputs

-- an item that reads a logical bit claims the bit that is paired with it
claim_read : (x : ControllerState) (r : ItemRecord) (l p : ℕ) → IsFitAlone x → ReadsPair x l p
    → asks_bit Reads l r ≡ true
    → claim (request_of r) x (l - 8 * r.address) ≡ Some (bit x.memory p)
unfolding asked
claim_read x r l p fit pair asked_for = by_kind r.kind refl
  where
    parts : (asks Reads r.kind ≡ true) × (is_bit_of r.address (length r.payload) l ≡ true)
    parts = and_parts (asks Reads r.kind) (is_bit_of r.address (length r.payload) l) asked_for

    place : (8 * r.address + (l - 8 * r.address) ≡ l) × (l - 8 * r.address < 8 * length r.payload)
    place = bit_place r.address (length r.payload) l parts.1

    here : ReadsPair x (8 * r.address + (l - 8 * r.address)) p
    here = rw (place.0) pair

    by_kind : (k : Kind) → r.kind ≡ k → claim (request_of r) x (l - 8 * r.address) ≡ Some (bit x.memory p)
    by_kind Lrd is =
        ap (λ (q : Request). claim q x (l - 8 * r.address)) (request-asked Lrd r is)
        ∙ claim_lrd r.address (length r.payload) x (l - 8 * r.address) p fit place.1 here
    by_kind Lrw is =
        ap (λ (q : Request). claim q x (l - 8 * r.address)) (request-asked Lrw r is)
        ∙ claim_lrw r.address (length r.payload) x (l - 8 * r.address) p fit place.1 here
    by_kind Lwr is = absurd (let no : asks Reads Lwr ≡ true = rw is at parts.0 in cc)
    by_kind Brd is = absurd (let no : asks Reads Brd ≡ true = rw is at parts.0 in cc)
    by_kind Fprd is = absurd (let no : asks Reads Fprd ≡ true = rw is at parts.0 in cc)
    by_kind Fpwr is = absurd (let no : asks Reads Fpwr ≡ true = rw is at parts.0 in cc)

-- each answer has the inputs as they were at first
pub inputs_now : (x : ControllerState) (n : ℕ) (items got : List ItemRecord) (now : ByStation) (t : SlaveState)
    → IsFitAlone x → AllByRecursion (λ r. Accepts (request_of r) x) items → IsNow x now n t
    → AreAnswers now items got → HaveInputs x items got
inputs_now x n [] [] now t fit accepts is answers = tt
inputs_now x n [] (g ∷ gs) now t fit accepts is answers = absurd answers
inputs_now x n (r ∷ rs) [] now t fit accepts is answers = absurd answers
inputs_now x n (r ∷ rs) (g ∷ gs) now t fit accepts is answers = (
  record {
    bits = λ l p pair asked_for.
        answers.0.claimed (l - 8 * r.address) (bit x.memory p) (record {
          station = n;
          slave = t;
          there = is.there;
          claims = claim_lasts (request_of r) x t.controller (l - 8 * r.address) fit accepts.0 is.steady
              ∙ claim_read x r l p fit pair asked_for;
        });
  },
  inputs_now x n rs gs (slaves_after r now) (slave_after r t) fit accepts.1
      (next_now x now n t r fit.controller accepts.0 is) answers.1,
)

-- ---- a slave of a line that is accepted

-- the slave of a station is fit alone, accepts each item, and has that station
pub record IsOf (x : ControllerState) (items : List ItemRecord) (n : ℕ) : Type 0 where
  pub fit : IsFitAlone x
  pub accepts : AllByRecursion (λ r. Accepts (request_of r) x) items
  pub named : word_at x.memory STATION_ADDRESS ≡ n

accepted_each : (slaves : List SlaveState) (items : List ItemRecord) (n : ℕ) (s : SlaveState)
    → IsFit (controllers slaves) → AllByRecursion (IsPlaced (controllers slaves)) items
    → AllByRecursion IsItem items → by_station slaves n ≡ Some s
    → AllByRecursion (λ r. Accepts (request_of r) s.controller) items
accepted_each slaves [] n s fit placed are found = tt
accepted_each slaves (r ∷ rs) n s fit placed are found = (
  (by_station_each (λ (t : SlaveState). Accepts (request_of r) t.controller) slaves n s found
      (each-controller (Accepts (request_of r)) slaves
      (Accepts-IsPlaced (controllers slaves) r fit are.0 placed.0))).0,
  accepted_each slaves rs n s fit placed.1 are.1 found,
)

pub slave_of : (slaves : List SlaveState) (items : List ItemRecord) (n : ℕ) (s : SlaveState)
    → IsAccepted slaves items → AllByRecursion IsItem items → by_station slaves n ≡ Some s
    → IsOf s.controller items n
unfolding station
slave_of slaves items n s accepted are found =
    let alone = by_station_each (λ (t : SlaveState). IsFitAlone t.controller) slaves n s found
    (each-controller IsFitAlone slaves
    (IsFitLine-fit (controllers slaves) accepted.are accepted.fit).alone) in
    record {
      fit = alone.0;
      accepts = accepted_each slaves items n s accepted.fit accepted.placed are found;
      named = alone.1;
    }

pub at_first : (slaves : ByStation) (n : ℕ) (s : SlaveState) → IsFitAlone s.controller
    → slaves n ≡ Some s → IsNow s.controller slaves n s
at_first slaves n s fit there = record {
  there = there;
  controller = fit.controller;
  steady = record { size = refl; bytes = λ a steady. refl };
}

pub inputs_stand : (slaves : List SlaveState) (items got : List ItemRecord) (n : ℕ) (s : SlaveState)
    → IsAccepted slaves items → AllByRecursion IsItem items → AreAnswers (by_station slaves) items got
    → by_station slaves n ≡ Some s → HaveInputs s.controller items got
inputs_stand slaves items got n s accepted are answers found =
    let of_line = slave_of slaves items n s accepted are found in
    inputs_now s.controller n items got (by_station slaves) s of_line.fit of_line.accepts
    (at_first (by_station slaves) n s of_line.fit found) answers

-- ---- outputs

-- a bit that is paired for writing lies in the memory
written_inside : (x : ControllerState) (l p : ℕ) → WritesPair x l p → p / 8 < MEMORY_SIZE
written_inside x l p pair = (writable_parts (sync_managers_of x.memory) (p / 8) pair.4.allowed).1

-- what a memory bit is behind an item, by what it takes of it
bit_taken : (r : ItemRecord) (x y : ControllerState) (p i : ℕ) → IsController x → IsController y
    → SameSteady x y → p / 8 < MEMORY_SIZE → taken (request_of r) x p ≡ Some i
    → bit (after (request_of r) r.payload y).memory p ≡ bit r.payload i
unfolding written_through
bit_taken r x y p i was is same inside e =
    bit-with_bits_taken y.memory r.payload (taken (request_of r) y) p i (omega (arith, is.memory_size))
    (ap (λ (f : ℕ → Option ℕ). f p) (taken_lasts (request_of r) x y was same) ∙ e)

bit_kept : (r : ItemRecord) (x y : ControllerState) (p : ℕ) → IsController x → SameSteady x y
    → taken (request_of r) x p ≡ None
    → bit (after (request_of r) r.payload y).memory p ≡ bit y.memory p
unfolding written_through
bit_kept r x y p was same e =
    bit-with_bits_kept y.memory r.payload (taken (request_of r) y) p
    (ap (λ (f : ℕ → Option ℕ). f p) (taken_lasts (request_of r) x y was same) ∙ e)

-- of an item that writes a logical bit the memory bit that is paired with it takes that
pub taken_written : (x : ControllerState) (r : ItemRecord) (l p : ℕ) → IsFitAlone x → WritesPair x l p
    → asks_bit Writes l r ≡ true → taken (request_of r) x p ≡ Some (l - 8 * r.address)
unfolding asked
taken_written x r l p fit pair asked_for = by_kind r.kind refl
  where
    parts : (asks Writes r.kind ≡ true) × (is_bit_of r.address (length r.payload) l ≡ true)
    parts = and_parts (asks Writes r.kind) (is_bit_of r.address (length r.payload) l) asked_for

    place : (8 * r.address + (l - 8 * r.address) ≡ l) × (l - 8 * r.address < 8 * length r.payload)
    place = bit_place r.address (length r.payload) l parts.1

    here : WritesPair x (8 * r.address + (l - 8 * r.address)) p
    here = rw (place.0) pair

    by_kind : (k : Kind) → r.kind ≡ k → taken (request_of r) x p ≡ Some (l - 8 * r.address)
    by_kind Lwr is =
        ap (λ (q : Request). taken q x p) (request-asked Lwr r is)
        ∙ taken_lwr r.address (length r.payload) x p (l - 8 * r.address) fit place.1 here
    by_kind Lrw is =
        ap (λ (q : Request). taken q x p) (request-asked Lrw r is)
        ∙ taken_lrw r.address (length r.payload) x p (l - 8 * r.address) fit place.1 here
    by_kind Lrd is = absurd (let no : asks Writes Lrd ≡ true = rw is at parts.0 in cc)
    by_kind Brd is = absurd (let no : asks Writes Brd ≡ true = rw is at parts.0 in cc)
    by_kind Fprd is = absurd (let no : asks Writes Fprd ≡ true = rw is at parts.0 in cc)
    by_kind Fpwr is = absurd (let no : asks Writes Fpwr ≡ true = rw is at parts.0 in cc)

-- no bit of a logical item but the paired one is for that memory bit
not_elsewhere : (x : ControllerState) (r : ItemRecord) (k : Kind) (l p : ℕ) → IsFitAlone x → WritesPair x l p
    → r.kind ≡ k → asks Writes k ≡ true → asks_bit Writes l r ≡ false
    → (i : ℕ) → i < 8 * length r.payload → WritesPair x (8 * r.address + i) p → ⊥
not_elsewhere x r k l p fit pair is for_writing not_asked i inside other =
    let same : 8 * r.address + i ≡ l = fit.written_once (8 * r.address + i) l p other pair in
    let within_range : is_bit_of r.address (length r.payload) l ≡ true = grind (arith, nat_tests) in
    both_ways (asks_bit Writes l r) not_asked (rw (is, for_writing) within_range)

-- of an item that does not write it, and is no write to the station, it takes nothing
taken_unwritten : (x : ControllerState) (r : ItemRecord) (l p n : ℕ) → IsFitAlone x → WritesPair x l p
    → word_at x.memory STATION_ADDRESS ≡ n → ¬ IsWriteTo n r → asks_bit Writes l r ≡ false
    → taken (request_of r) x p ≡ None
unfolding asked taken
taken_unwritten x r l p n fit pair named elsewhere not_asked = by_kind r.kind refl
  where
    by_kind : (k : Kind) → r.kind ≡ k → taken (request_of r) x p ≡ None
    by_kind Lwr is =
        ap (λ (q : Request). taken q x p) (request-asked Lwr r is)
        ∙ untaken_lwr r.address (length r.payload) x p (not_elsewhere x r Lwr l p fit pair is refl not_asked)
    by_kind Lrw is =
        ap (λ (q : Request). taken q x p) (request-asked Lrw r is)
        ∙ untaken_lrw r.address (length r.payload) x p (not_elsewhere x r Lrw l p fit pair is refl not_asked)
    by_kind Lrd is = ap (λ (q : Request). taken q x p) (request-asked Lrd r is)
    by_kind Brd is = ap (λ (q : Request). taken q x p) (request-asked Brd r is)
    by_kind Fprd is = ap (λ (q : Request). taken q x p) (request-asked Fprd r is)
    by_kind Fpwr is =
        let other : eqb (adp_of r.address) (word_at x.memory STATION_ADDRESS) ≡ false =
        ne_eqb (adp_of r.address) (word_at x.memory STATION_ADDRESS)
        (λ same. elsewhere (record { kind = is; named = same ∙ named })) in
        let half : Half =
        record {
          places = range_targets x (ado_of r.address) (length r.payload);
          gain = 1;
          mail = written_mailbox x (ado_of r.address) (length r.payload);
        } in
        ap (λ (q : Request). taken q x p) (request-asked Fpwr r is)
        ∙ ap (λ b. (where_served (b && serves_range_write x (ado_of r.address) (length r.payload)) half).places p)
        other

-- the memory bit behind an item is the one that was sent, or else as it was
bit_sent : (x y : ControllerState) (r : ItemRecord) (l p v : ℕ) → IsFitAlone x → IsController y
    → SameSteady x y → WritesPair x l p → sent_bit l r ≡ Some v
    → bit (after (request_of r) r.payload y).memory p ≡ v
unfolding sent_bit
bit_sent x y r l p v fit is same pair sent =
    ⊎_elim
    (λ (asked_for : asks_bit Writes l r ≡ true).
    let value : Some (bit r.payload (l - 8 * r.address)) ≡ Some v = rw asked_for at sent in
    let bit_is : bit r.payload (l - 8 * r.address) ≡ v = cc in
    bit_taken r x y p (l - 8 * r.address) fit.controller is same (written_inside x l p pair)
    (taken_written x r l p fit pair asked_for)
    ∙ bit_is)
    (λ (not_asked : asks_bit Writes l r ≡ false).
    absurd (let none : ◌≡◌ {A = Option ℕ} None (Some v) = rw not_asked at sent in cc))
    (cases_Bool (asks_bit Writes l r))

bit_unsent : (x y : ControllerState) (r : ItemRecord) (l p n : ℕ) → IsFitAlone x → SameSteady x y
    → WritesPair x l p → word_at x.memory STATION_ADDRESS ≡ n → ¬ IsWriteTo n r → sent_bit l r ≡ None
    → bit (after (request_of r) r.payload y).memory p ≡ bit y.memory p
unfolding sent_bit
bit_unsent x y r l p n fit same pair named elsewhere sent =
    ⊎_elim
    (λ (asked_for : asks_bit Writes l r ≡ true).
    absurd (let some : Some (bit r.payload (l - 8 * r.address)) ≡ None = rw asked_for at sent in cc))
    (λ (not_asked : asks_bit Writes l r ≡ false).
    bit_kept r x y p fit.controller same (taken_unwritten x r l p n fit pair named elsewhere not_asked))
    (cases_Bool (asks_bit Writes l r))

-- the value that stands: the later one, or else the one before
stands : Option ℕ → ℕ → ℕ
stands None v = v
stands (Some w) v = w

stands-later : (first second : Option ℕ) (v : ℕ) → stands (later first second) v ≡ stands second (stands first v)
unfolding stands
stands-later first None v = refl
stands-later first (Some w) v = refl

bit_stands : (x y : ControllerState) (r : ItemRecord) (l p n : ℕ) → IsFitAlone x → IsController y
    → SameSteady x y → WritesPair x l p → word_at x.memory STATION_ADDRESS ≡ n → ¬ IsWriteTo n r
    → bit (after (request_of r) r.payload y).memory p ≡ stands (sent_bit l r) (bit y.memory p)
unfolding stands
bit_stands x y r l p n fit is same pair named elsewhere =
    let P : Option ℕ → Type 0 = λ o. sent_bit l r ≡ o
    → bit (after (request_of r) r.payload y).memory p ≡ stands o (bit y.memory p) in
    elim (sent_bit l r) as P [
      | None ↦ λ none. bit_unsent x y r l p n fit same pair named elsewhere none
      | Some v ↦ λ some. bit_sent x y r l p v fit is same pair some
    ] refl

-- so behind all items
outputs_now : (x : ControllerState) (n l p : ℕ) (items : List ItemRecord) (now : ByStation)
    (t after_all : SlaveState) → IsOf x items n → WritesPair x l p → NoWriteTo n items → IsNow x now n t
    → slaves_after_all items now n ≡ Some after_all
    → bit after_all.controller.memory p ≡ stands (last_sent items l) (bit t.controller.memory p)
unfolding stands
outputs_now x n l p [] now t after_all is_of pair elsewhere is found =
    let both : Some t ≡ Some after_all = sym is.there ∙ found in
    let same : t ≡ after_all = cc in
    ap (λ (s : SlaveState). bit s.controller.memory p) (sym same)
outputs_now x n l p (r ∷ rs) now t after_all is_of pair elsewhere is found =
    outputs_now x n l p rs (slaves_after r now) (slave_after r t) after_all
    (record { fit = is_of.fit; accepts = is_of.accepts.1; named = is_of.named }) pair elsewhere.1
    (next_now x now n t r is_of.fit.controller is_of.accepts.0 is) found
    ∙ ap (stands (last_sent rs l))
    (bit_stands x t.controller r l p n is_of.fit is.controller is.steady pair is_of.named elsewhere.0)
    ∙ sym (stands-later (sent_bit l r) (last_sent rs l) (bit t.controller.memory p))

pub outputs_stand : (slaves : List SlaveState) (items : List ItemRecord) (n l p v : ℕ) (s after_all : SlaveState)
    → IsAccepted slaves items → AllByRecursion IsItem items → by_station slaves n ≡ Some s
    → slaves_after_all items (by_station slaves) n ≡ Some after_all → WritesPair s.controller l p
    → NoWriteTo n items → last_sent items l ≡ Some v → bit after_all.controller.memory p ≡ v
unfolding stands
outputs_stand slaves items n l p v s after_all accepted are found later_found pair elsewhere sent =
    let is_of = slave_of slaves items n s accepted are found in
    outputs_now s.controller n l p items (by_station slaves) s after_all is_of pair elsewhere
    (at_first (by_station slaves) n s is_of.fit found) later_found
    ∙ ap (λ (o : Option ℕ). stands o (bit s.controller.memory p)) sent

-- ---- shown bytes

-- is a byte shown anew by an item
unfoldable pub shows_at : ControllerState → ℕ → ItemRecord → Bool
shows_at x a r =
    is_shown_anew (touches (taken (request_of r) x)) (sync_managers_of x.memory) (sync_managers_of x.memory) a

-- an active area of outputs whose last byte is written is shown anew
anew_at : (f : ℕ → Bool) (managers : List SyncMan) (k : ℕ) (s : SyncMan) (a : ℕ) → k < length managers
    → get_or managers k s ≡ s → (hands_over f s s && guards s a) ≡ true
    → is_shown_anew f managers managers a ≡ true
unfolding is_shown_anew
anew_at f [] k s a inside is hands = absurd (omega arith)
anew_at f (m ∷ ms) zero s a inside is hands =
    or_left (hands_over f m m && guards m a) (is_shown_anew f ms ms a)
    (ap (λ (t : SyncMan). hands_over f t t && guards t a) is ∙ hands)
anew_at f (m ∷ ms) (suc k) s a inside is hands =
    or_right (hands_over f m m && guards m a) (is_shown_anew f ms ms a)
    (anew_at f ms k s a (omega arith) is hands)

-- the parts of an area of outputs
pub outputs_parts : (s : SyncMan) → guards_outputs s ≡ true
    → (is_active s ≡ true) × (is_buffered s ≡ true) × (master_writes s ≡ true)
outputs_parts s outputs =
    let parts = and_parts (is_active s && is_buffered s) (master_writes s) outputs in
    let kind = and_parts (is_active s) (is_buffered s) parts.0 in (kind.0, kind.1, parts.1)

pub held_bounds : (s : SyncMan) (a : ℕ) → holds s a ≡ true → (s.start ≤ a) × (a < s.start + s.length)
held_bounds s a inside = (grind (arith, nat_tests), grind (arith, nat_tests))

pub shows_completed : (x : ControllerState) (number a : ℕ) (s : SyncMan) (r : ItemRecord)
    → IsOutputByte x number a s → writes_at x (last_byte s) r ≡ true → shows_at x a r ≡ true
unfolding shows_at writes_at
shows_completed x number a s r byte completed =
    let managers = sync_managers_of x.memory in
    let kind = outputs_parts s byte.outputs in
    let bounds = held_bounds s a byte.inside in
    let guarded : guards s a ≡ true = guards_from s a kind.0 bounds.0 bounds.1 in
    let inside : number < length managers =
    ⊎_elim (λ (below : number < length managers). below)
    (λ (past : length managers ≤ number).
    absurd (let none = slice_get_past managers number past in let is = byte.is in cc))
    (cases_lt number (length managers)) in
    anew_at (touches (taken (request_of r) x)) managers number s a inside
    (get_or_from_slice_get managers number s s byte.is)
    (rw (kind.0, kind.1, kind.2, completed, guarded) refl)

-- the byte's place among the shown ones
pub byte_place : (x : ControllerState) (number k : ℕ) (s : SyncMan) → IsController x
    → IsOutputByte x number (PROCESS_MEMORY + k) s → k < PROCESS_MEMORY_SIZE
byte_place x number k s is byte =
    let kind = outputs_parts s byte.outputs in
    let bounds = held_bounds s (PROCESS_MEMORY + k) byte.inside in
    let place = active_place s kind.0 in
    omega (arith, bounds.1, place.1)

-- what is shown of a byte behind an item
shown_item : (x y : ControllerState) (r : ItemRecord) (k : ℕ) → IsController x → SameSteady x y
    → k < length y.shown
    → get_or (after (request_of r) r.payload y).shown k 0
    ≡ cond (shows_at x (PROCESS_MEMORY + k) r)
    (get_or (after (request_of r) r.payload y).memory (PROCESS_MEMORY + k) 0) (get_or y.shown k 0)
unfolding written_through shows_at
shown_item x y r k was same inside =
    let q = request_of r in
    let memory : List ℕ = with_bits y.memory r.payload (taken q y) in
    let managers = sync_managers_of y.memory in
    let anew : is_shown_anew (touches (taken q y)) managers managers (PROCESS_MEMORY + k)
    ≡ shows_at x (PROCESS_MEMORY + k) r =
    ap (λ (f : ℕ → Option ℕ). is_shown_anew (touches f) managers managers (PROCESS_MEMORY + k))
    (taken_lasts q x y was same)
    ∙ ap (λ (ms : List SyncMan). is_shown_anew (touches (taken q x)) ms ms (PROCESS_MEMORY + k))
    (managers_last x y was same) in
    get_or-shown_after (touches (taken q y)) managers managers memory y.shown k inside
    ∙ ap (λ b. cond b (get_or memory (PROCESS_MEMORY + k) 0) (get_or y.shown k 0)) anew

-- a byte that an item does not write stays
byte_kept : (x y : ControllerState) (r : ItemRecord) (a : ℕ) → IsController x → IsController y → SameSteady x y
    → writes_at x a r ≡ false
    → get_or (after (request_of r) r.payload y).memory a 0 ≡ get_or y.memory a 0
unfolding written_through writes_at
byte_kept x y r a was is same unwritten =
    get_or-with_bits_kept y.memory r.payload (taken (request_of r) y) a is.memory
    (λ b below.
    ap (λ (f : ℕ → Option ℕ). f (8 * a + b)) (taken_lasts (request_of r) x y was same)
    ∙ names_none (λ c. taken (request_of r) x (8 * a + c)) 8 b unwritten below)

-- the shown byte is the memory's
IsShown : ControllerState → ℕ → Type 0
IsShown y k = get_or y.shown k 0 ≡ get_or y.memory (PROCESS_MEMORY + k) 0

shown_next : (x y : ControllerState) (r : ItemRecord) (number k : ℕ) (s : SyncMan) → IsController x
    → IsController y → SameSteady x y → IsOutputByte x number (PROCESS_MEMORY + k) s
    → CompletesWhere x (PROCESS_MEMORY + k) s r
    → IsShown y k ⊎ (writes_at x (last_byte s) r ≡ true)
    → IsShown (after (request_of r) r.payload y) k
unfolding IsShown
shown_next x y r number k s was is same byte completes so_far =
    let a = PROCESS_MEMORY + k in
    let next : ControllerState = after (request_of r) r.payload y in
    let place = byte_place x number k s was byte in
    let item = shown_item x y r k was same (omega (arith, place, is.shown_size)) in
    ⊎_elim
    (λ (anew : shows_at x a r ≡ true).
    item ∙ ap (λ b. cond b (get_or next.memory a 0) (get_or y.shown k 0)) anew)
    (λ (idle : shows_at x a r ≡ false).
    let not_completed : writes_at x (last_byte s) r ≡ true → ⊥ =
    λ done. both_ways (shows_at x a r) idle (shows_completed x number a s r byte done) in
    ⊎_elim
    (λ (shown : get_or y.shown k 0 ≡ get_or y.memory a 0).
    ⊎_elim
    (λ (written : writes_at x a r ≡ true). absurd (not_completed (completes written)))
    (λ (unwritten : writes_at x a r ≡ false).
    item
    ∙ ap (λ b. cond b (get_or next.memory a 0) (get_or y.shown k 0)) idle
    ∙ shown
    ∙ sym (byte_kept x y r a was is same unwritten))
    (cases_Bool (writes_at x a r)))
    (λ (done : writes_at x (last_byte s) r ≡ true). absurd (not_completed done))
    so_far)
    (cases_Bool (shows_at x a r))

shown_now : (x : ControllerState) (n number k : ℕ) (sm : SyncMan) (items : List ItemRecord) (now : ByStation)
    (t after_all : SlaveState) → IsOf x items n → IsOutputByte x number (PROCESS_MEMORY + k) sm
    → AllByRecursion (CompletesWhere x (PROCESS_MEMORY + k) sm) items → IsNow x now n t
    → slaves_after_all items now n ≡ Some after_all
    → IsShown t.controller k ⊎ IsCompleted x sm items → IsShown after_all.controller k
unfolding IsShown
shown_now x n number k sm [] now t after_all is_of byte completes is found so_far =
    let both : Some t ≡ Some after_all = sym is.there ∙ found in
    let same : t ≡ after_all = cc in
    ⊎_elim
    (λ (shown : get_or t.controller.shown k 0 ≡ get_or t.controller.memory (PROCESS_MEMORY + k) 0).
    subst (λ (s : SlaveState). get_or s.controller.shown k 0 ≡ get_or s.controller.memory (PROCESS_MEMORY + k) 0)
    same shown)
    (λ (done : ⊥). absurd done)
    so_far
shown_now x n number k sm (r ∷ rs) now t after_all is_of byte completes is found so_far =
    let step : IsShown t.controller k ⊎ (writes_at x (last_byte sm) r ≡ true)
    → IsShown (slave_after r t).controller k =
    shown_next x t.controller r number k sm is_of.fit.controller is.controller is.steady byte completes.0 in
    let rest : IsShown (slave_after r t).controller k ⊎ IsCompleted x sm rs → IsShown after_all.controller k =
    shown_now x n number k sm rs (slaves_after r now) (slave_after r t) after_all
    (record { fit = is_of.fit; accepts = is_of.accepts.1; named = is_of.named }) byte completes.1
    (next_now x now n t r is_of.fit.controller is_of.accepts.0 is) found in
    ⊎_elim
    (λ (shown : IsShown t.controller k). rest (inl (step (inl shown))))
    (λ (done : (writes_at x (last_byte sm) r ≡ true) ⊎ IsCompleted x sm rs).
    ⊎_elim (λ (here : writes_at x (last_byte sm) r ≡ true). rest (inl (step (inr here))))
    (λ (later_on : IsCompleted x sm rs). rest (inr later_on)) done)
    so_far

pub outputs_are_shown : (slaves : List SlaveState) (items : List ItemRecord) (n number k : ℕ) (sm : SyncMan)
    (s after_all : SlaveState) → IsAccepted slaves items → AllByRecursion IsItem items
    → by_station slaves n ≡ Some s → slaves_after_all items (by_station slaves) n ≡ Some after_all
    → IsOutputByte s.controller number (PROCESS_MEMORY + k) sm
    → AllByRecursion (CompletesWhere s.controller (PROCESS_MEMORY + k) sm) items
    → IsCompleted s.controller sm items
    → get_or after_all.controller.shown k 0 ≡ get_or after_all.controller.memory (PROCESS_MEMORY + k) 0
unfolding IsShown
outputs_are_shown slaves items n number k sm s after_all accepted are found later_found byte completes done =
    let is_of = slave_of slaves items n s accepted are found in
    shown_now s.controller n number k sm items (by_station slaves) s after_all is_of byte completes
    (at_first (by_station slaves) n s is_of.fit found) later_found (inr done)
