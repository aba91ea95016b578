-- What an accepted request does in a controller: it empties and fills no mailbox, writes no register, and
-- leaves the controller after the item.
use Rattle.std.proofs.Common.{◌≡◌, ℕ, ◌*◌, ◌/◌, ◌<◌, ◌≤◌, Bool, true, false}
use Rattle.std.proofs.Common.{◌&&◌, eqb, leb}
use Rattle.std.proofs.Common.{Option, None, ◌∙◌, ap, refl, arith, ⊎_elim}
use Rattle.std.specs.List.{Any}
use Rattle.std.proofs.lemmas.Bool.{and_parts}
use Rattle.std.proofs.lemmas.Bool.Decides.{nat_tests}
use Rattle.ec_regs.specs.declared.sync_man.SyncMan.{SyncMan}
use Rattle.ec_regs.specs.declared.registers.TheConstants.{PROCESS_MEMORY}
use Rattle.ec_regs.specs.SyncMan.{master_reads, master_writes}
use Rattle.ec_wire.specs.Datagram.{DatagramRecord, adp_of, ado_of}
use Rattle.ec_areas.specs.Ranges.{LiesBuffered}
use Rattle.ec_areas.specs.Records.{fmmus_of, sync_managers_of}
use Rattle.ec_areas.proofs.Laws.{write_map_register, emptied_registers, emptied_buffered}
use Rattle.ec_areas.proofs.Laws.{filled_buffered, buffered_place}
use Rattle.ec_esc.specs.State.{ControllerState, IsController, word_at}
use Rattle.ec_esc.specs.Writing.{with_emptied}
use Rattle.ec_esc.specs.Pass.{Effect, Half, where_served, effect, serves_range_read, serves_range_write}
use Rattle.ec_esc.specs.Pass.{serves_write, write_sources, written_mailbox, range_targets}
use Rattle.ec_esc.specs.Pass.{written_by, read_by, pass}
use Rattle.ec_esc.proofs.Laws.{written_plain}
use Rattle.ec_line.specs.Accepted.{IsWithinArea, LiesInArea, LiesInRegisters, Accepts}
use Rattle.ec_line.specs.After.{written_through, after}
use Rattle.ec_line.specs.Claims.{effect_of, taken}
use Rattle.ec_line.specs.Request.{Request, OnWay}
use Rattle.ec_wire.specs.Kind.{command_of}
use Rattle.ec_wire.specs.declared.kind.Kind.{Kind}
use Rattle.ec_wire.specs.declared.kind.Kind.TheVariants.{Lrd, Lwr, Lrw, Brd, Fprd, Fpwr}
use Rattle.ec_line.proofs.StepLemmas.{effect_on_way}

-- ---- halves that are served or not

pub where_mail : (b : Bool) (h : Half) → (b ≡ true → h.mail ≡ None) → (where_served b h).mail ≡ None
where_mail true h none = none refl
where_mail false h none = refl

pub where_places : (b : Bool) (h : Half) (p : ℕ) → (b ≡ true → h.places p ≡ None)
    → (where_served b h).places p ≡ None
where_places true h p none = none refl
where_places false h p none = refl

-- ---- ranges

-- a range in an area lies in a buffered one
pub lies_buffered : (direction : SyncMan → Bool) (c : ControllerState) (from n : ℕ) → 1 ≤ n
    → LiesInArea direction c from n
    → Any (λ s. LiesBuffered s from n) (sync_managers_of c.memory)
lies_buffered direction c from n some lies =
    let area : IsWithinArea direction lies.1 from n = lies.4 in (
      lies.0,
      lies.1,
      lies.2,
      lies.3,
      record {
        some = some;
        active = area.active;
        buffered = area.buffered;
        starts = area.starts;
        ends = area.ends;
      },
    )

-- the station that a test names
pub station_named : (a : ℕ) (c : ControllerState) (b : Bool) → (eqb (adp_of a) (word_at c.memory 16) && b)
    ≡ true → adp_of a ≡ word_at c.memory 16
station_named a c b named =
    let parts = and_parts (eqb (adp_of a) (word_at c.memory 16)) b named in
    let same : eqb (adp_of a) (word_at c.memory 16) ≡ true = parts.0 in
    grind (arith, nat_tests)

-- ---- no mailbox is emptied, and none is filled

reading_mail_kind : (k : Kind) (a n : ℕ) (c : ControllerState)
    → Accepts (record { kind = k; address = a; count = n }) c
    → (effect (command_of k) c a n).reading.mail ≡ None
reading_mail_kind Lrd a n c accepts = where_mail _ _ (λ served. refl)
reading_mail_kind Lwr a n c accepts = refl
reading_mail_kind Lrw a n c accepts = where_mail _ _ (λ served. refl)
reading_mail_kind Brd a n c accepts =
    where_mail _ _
    (λ served. emptied_registers (sync_managers_of c.memory) (ado_of a) n accepts.some accepts.place)
reading_mail_kind Fprd a n c accepts =
    where_mail _ _
    (λ served.
    ⊎_elim
    (λ (registers : LiesInRegisters (ado_of a) n).
    emptied_registers (sync_managers_of c.memory) (ado_of a) n accepts.some registers)
    (λ (area : LiesInArea master_reads c (ado_of a) n).
    let lies = lies_buffered master_reads c (ado_of a) n accepts.some area in
    emptied_buffered (sync_managers_of c.memory) (ado_of a) n lies)
    (accepts.place (station_named a c (serves_range_read c (ado_of a) n) served)))
reading_mail_kind Fpwr a n c accepts = refl

pub reading_mail : (r : Request) (c : ControllerState) → Accepts r c → (effect_of r c).reading.mail ≡ None
reading_mail r c accepts = reading_mail_kind r.kind r.address r.count c accepts

writing_mail_kind : (k : Kind) (a n : ℕ) (c : ControllerState)
    → Accepts (record { kind = k; address = a; count = n }) c
    → (effect (command_of k) c a n).writing.mail ≡ None
writing_mail_kind Lrd a n c accepts = refl
writing_mail_kind Lwr a n c accepts = where_mail _ _ (λ served. refl)
writing_mail_kind Lrw a n c accepts = where_mail _ _ (λ served. refl)
writing_mail_kind Brd a n c accepts = refl
writing_mail_kind Fprd a n c accepts = refl
writing_mail_kind Fpwr a n c accepts =
    where_mail _ _
    (λ served.
    let lies = lies_buffered master_writes c (ado_of a) n accepts.some
    (accepts.place (station_named a c (serves_range_write c (ado_of a) n) served)) in
    filled_buffered (sync_managers_of c.memory) (ado_of a) n lies)

pub writing_mail : (r : Request) (c : ControllerState) → Accepts r c → (effect_of r c).writing.mail ≡ None
writing_mail r c accepts = writing_mail_kind r.kind r.address r.count c accepts

-- ---- no register is written

-- a byte before the range does not lie in it
outside_before : (c : ControllerState) (from n p : ℕ) → PROCESS_MEMORY ≤ from → p / 8 < PROCESS_MEMORY
    → range_targets c from n p ≡ None
outside_before c from n p behind register =
    let starts : leb from (p / 8) ≡ false = let h : p / 8 < from = omega arith in grind (arith, nat_tests) in
    rw starts refl

taken_register_kind : (k : Kind) (a n : ℕ) (c : ControllerState) (p : ℕ)
    → Accepts (record { kind = k; address = a; count = n }) c
    → p / 8 < PROCESS_MEMORY → (effect (command_of k) c a n).writing.places p ≡ None
taken_register_kind Lrd a n c p accepts register = refl
taken_register_kind Lwr a n c p accepts register =
    where_places (serves_write c a n) (record { places = write_sources c a n; gain = 1; mail = None }) p
    (λ served. write_map_register (sync_managers_of c.memory) (fmmus_of c.memory) (8 * a) (8 * n) p register)
taken_register_kind Lrw a n c p accepts register =
    where_places (serves_write c a n) (record { places = write_sources c a n; gain = 2; mail = None }) p
    (λ served. write_map_register (sync_managers_of c.memory) (fmmus_of c.memory) (8 * a) (8 * n) p register)
taken_register_kind Brd a n c p accepts register = refl
taken_register_kind Fprd a n c p accepts register = refl
taken_register_kind Fpwr a n c p accepts register =
    where_places (eqb (adp_of a) (word_at c.memory 16) && serves_range_write c (ado_of a) n)
    (record { places = range_targets c (ado_of a) n; gain = 1; mail = written_mailbox c (ado_of a) n }) p
    (λ served.
    let lies = lies_buffered master_writes c (ado_of a) n accepts.some
    (accepts.place (station_named a c (serves_range_write c (ado_of a) n) served)) in
    let place = buffered_place lies.1 (ado_of a) n lies.4 in
    outside_before c (ado_of a) n p place.0 register)

-- ---- what the pass leaves

-- the controller after the item, with the data that arrived
pub after_pass : (r : Request) (c : ControllerState) (d : DatagramRecord) → IsController c → Accepts r c
    → OnWay r d
    → (pass c d).state ≡ after r d.payload c
unfolding pass taken written_through
after_pass r c d controller accepts way =
    let e = effect_of r c in
    let F : Effect → ControllerState = λ f. read_by f.reading (written_by f.writing d.payload c) in
    let written : ControllerState = written_by e.writing d.payload c in
    let no_mail : read_by e.reading written ≡ written =
    ap (λ (o : Option ℕ). record written { memory = with_emptied o written.memory })
    (reading_mail r c accepts) in
    ap F (effect_on_way r c d way)
    ∙ no_mail
    ∙ written_plain c e.writing d.payload controller (writing_mail r c accepts)
    (λ p register. taken_register_kind r.kind r.address r.count c p accepts register)
