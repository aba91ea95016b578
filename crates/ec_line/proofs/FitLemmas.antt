-- Controllers that are apart: where both claim a bit they claim one value, what one takes the other does not
-- claim, and one that counts nothing does nothing.
use Rattle.std.proofs.Common.{◌≡◌, ℕ, ◌+◌, ◌*◌, ◌<◌, ◌≤◌, Bool, true}
use Rattle.std.proofs.Common.{false, ◌&&◌, cond, eqb}
use Rattle.std.proofs.Common.{Option, None, Some, sym, ◌∙◌, ap, refl}
use Rattle.std.proofs.Common.{arith, ⊎_elim}
use Rattle.std.specs.Option.{option_map}
use Rattle.std.proofs.lemmas.Bool.{cases_Bool, cases_lt}
use Rattle.std.proofs.lemmas.Bool.Decides.{nat_tests}
use Rattle.ec_regs.specs.Bits.{bit}
use Rattle.ec_wire.specs.Datagram.{adp_of, ado_of}
use Rattle.ec_areas.specs.Records.{fmmus_of, sync_managers_of}
use Rattle.ec_areas.proofs.Laws.{NamesPairs-read_map, NamesPairs-write_map, reads_registers}
use Rattle.ec_esc.specs.State.{ControllerState, word_at}
use Rattle.ec_esc.specs.Pass.{Half, nothing, where_served, effect, serves_read, serves_write, read_sources}
use Rattle.ec_esc.specs.Pass.{write_sources, serves_range_read, serves_range_write, serves_reading}
use Rattle.ec_esc.specs.Pass.{serves_writing}
use Rattle.ec_esc.proofs.Laws.{gain_served}
use Rattle.ec_wire.specs.Command.{addressing, reads, writes}
use Rattle.ec_esc.specs.Pass.{range_sources, range_targets, broadcast_sources, read_mailbox, written_mailbox}
use Rattle.ec_line.specs.Accepted.{Accepts}
use Rattle.ec_line.specs.Answers.{Agree}
use Rattle.ec_line.specs.Claims.{effect_of, claim, taken, gain}
use Rattle.ec_line.specs.Fit.{Reads, Writes, AreApart}
use Rattle.ec_line.specs.Request.{Request}
use Rattle.ec_wire.specs.Kind.{command_of}
use Rattle.ec_wire.specs.declared.kind.Kind.{Kind}
use Rattle.ec_wire.specs.declared.kind.Kind.TheVariants.{Lrd, Lwr, Lrw, Brd, Fprd, Fpwr}
use Rattle.ec_line.proofs.AcceptedLemmas.{station_named}
use Rattle.ec_line.proofs.SteadyLemmas.{claim_in, claim_out, where_some, broadcast_claim}

-- ---- what is claimed, and what is taken

-- what is claimed is the memory bit of a place
pub claimed_place : (r : Request) (c : ControllerState) (i v : ℕ) → claim r c i ≡ Some v
    → (i < 8 * r.count) × (p : ℕ) × ((effect_of r c).reading.places i ≡ Some p) × (bit c.memory p ≡ v)
claimed_place r c i v e =
    ⊎_elim
    (λ (inside : i < 8 * r.count).
    let places = (effect_of r c).reading.places in
    let P : Option ℕ → Type 0 = λ o. places i ≡ o → option_map (bit c.memory) o ≡ Some v
    → (p : ℕ) × (places i ≡ Some p) × (bit c.memory p ≡ v) in
    let found = elim (places i) as P [
      | None ↦ λ _ no. absurd (cc)
      | Some p ↦ λ is some. (p, is, let s = some in cc)
    ] refl (sym (claim_in r c i inside) ∙ e) in
    (inside, found.0, found.1, found.2))
    (λ (past : 8 * r.count ≤ i). absurd (let no : None ≡ Some v = sym (claim_out r c i past) ∙ e in cc))
    (cases_lt i (8 * r.count))

-- a logical claim is that of a readable pair
logical_claim : (a n g : ℕ) (c : ControllerState) (i p : ℕ)
    → (where_served (serves_read c a n) (record { places = read_sources c a; gain = g; mail = None })).places
    i ≡ Some p → Reads c (8 * a + i) p
logical_claim a n g c i p e =
    (NamesPairs-read_map (sync_managers_of c.memory) (fmmus_of c.memory)).is_paired (8 * a + i) p
    (where_some (serves_read c a n) (record { places = read_sources c a; gain = g; mail = None }) i p e).1

-- and what is taken logically that of a writable pair
logical_take : (a n g : ℕ) (c : ControllerState) (p i : ℕ)
    → (where_served (serves_write c a n)
    (record { places = write_sources c a n; gain = g; mail = None })).places p ≡ Some i
    → Writes c (8 * a + i) p
logical_take a n g c p i e =
    ((NamesPairs-write_map (sync_managers_of c.memory) (fmmus_of c.memory) (8 * a) (8 * n)).is_paired p i
    (where_some (serves_write c a n) (record { places = write_sources c a n; gain = g; mail = None }) p i
    e).1).1

-- an addressed claim is that of the station
addressed_claim : (a n : ℕ) (c : ControllerState) (i p : ℕ)
    → (where_served (eqb (adp_of a) (word_at c.memory 16) && serves_range_read c (ado_of a) n)
    (record { places = range_sources (ado_of a); gain = 1; mail = read_mailbox c (ado_of a) n })).places i
    ≡ Some p
    → adp_of a ≡ word_at c.memory 16
addressed_claim a n c i p e =
    station_named a c (serves_range_read c (ado_of a) n)
    (where_some (eqb (adp_of a) (word_at c.memory 16) && serves_range_read c (ado_of a) n)
    (record { places = range_sources (ado_of a); gain = 1; mail = read_mailbox c (ado_of a) n }) i p e).0

-- ---- agree

-- a broadcast read claims ones
broadcast_one : (s : Bool) (b v : ℕ) → cond s (cond (eqb b 1) (Some b) None) None ≡ Some v → v ≡ 1
broadcast_one false b v e = absurd (cc)
broadcast_one true b v e =
    ⊎_elim
    (λ (one : eqb b 1 ≡ true).
    let is : Some b ≡ Some v = rw one at e in
    let same : b ≡ v = cc in
    let value : b ≡ 1 = grind (arith, nat_tests) in
    sym same ∙ value)
    (λ (other : eqb b 1 ≡ false). absurd (let no : None ≡ Some v = rw other at e in cc))
    (cases_Bool (eqb b 1))

agree_kind : (k : Kind) (a n : ℕ) (x y : ControllerState) → AreApart x y
    → Agree (claim (record { kind = k; address = a; count = n })) x y
agree_kind Lrd a n x y apart i v w one two =
    let r : Request = record { kind = Lrd; address = a; count = n } in
    let f = claimed_place r x i v one in
    let g = claimed_place r y i w two in
    absurd (apart.both_read (8 * a + i) f.1 g.1 (logical_claim a n 1 x i f.1 f.2)
    (logical_claim a n 1 y i g.1 g.2))
agree_kind Lwr a n x y apart i v w one two =
    absurd (let f = claimed_place (record { kind = Lwr; address = a; count = n }) x i v one in
    let no : None ≡ Some f.1 = f.2 in cc)
agree_kind Lrw a n x y apart i v w one two =
    let r : Request = record { kind = Lrw; address = a; count = n } in
    let f = claimed_place r x i v one in
    let g = claimed_place r y i w two in
    absurd (apart.both_read (8 * a + i) f.1 g.1 (logical_claim a n 1 x i f.1 f.2)
    (logical_claim a n 1 y i g.1 g.2))
agree_kind Brd a n x y apart i v w one two =
    let r : Request = record { kind = Brd; address = a; count = n } in
    let f = claimed_place r x i v one in
    let from = ado_of a in
    broadcast_one (serves_range_read x from n) (bit x.memory (8 * from + i)) v
    (sym (broadcast_claim a n x i f.0) ∙ one)
    ∙ sym (broadcast_one (serves_range_read y from n) (bit y.memory (8 * from + i)) w
    (sym (broadcast_claim a n y i f.0) ∙ two))
agree_kind Fprd a n x y apart i v w one two =
    let r : Request = record { kind = Fprd; address = a; count = n } in
    let f = claimed_place r x i v one in
    let g = claimed_place r y i w two in
    absurd (apart.stations (sym (addressed_claim a n x i f.1 f.2) ∙ addressed_claim a n y i g.1 g.2))
agree_kind Fpwr a n x y apart i v w one two =
    absurd (let f = claimed_place (record { kind = Fpwr; address = a; count = n }) x i v one in
    let no : None ≡ Some f.1 = f.2 in cc)

pub agree : (r : Request) (x y : ControllerState) → AreApart x y → Agree (claim r) x y
agree r x y apart = agree_kind r.kind r.address r.count x y apart

-- one agrees with itself, and so do two in the other order
pub agree_self : (r : Request) (x : ControllerState) → Agree (claim r) x x
agree_self r x i v w one two = let e : Some v ≡ Some w = sym one ∙ two in cc

pub agree_back : (r : Request) (x y : ControllerState) → AreApart x y → Agree (claim r) y x
agree_back r x y apart i v w one two = sym (agree r x y apart i w v two one)

-- ---- own

own_kind : (k : Kind) (a n : ℕ) (x y : ControllerState) (p i v : ℕ) → AreApart x y
    → (effect (command_of k) y a n).writing.places p ≡ Some i
    → claim (record { kind = k; address = a; count = n }) x i ≡ Some v → ⊥
own_kind Lrd a n x y p i v apart takes claims = absurd (cc)
own_kind Lwr a n x y p i v apart takes claims =
    absurd (let f = claimed_place (record { kind = Lwr; address = a; count = n }) x i v claims in
    let no : None ≡ Some f.1 = f.2 in cc)
own_kind Lrw a n x y p i v apart takes claims =
    let f = claimed_place (record { kind = Lrw; address = a; count = n }) x i v claims in
    apart.read_and_written (8 * a + i) f.1 p (logical_claim a n 1 x i f.1 f.2)
    (logical_take a n 2 y p i takes)
own_kind Brd a n x y p i v apart takes claims = absurd (cc)
own_kind Fprd a n x y p i v apart takes claims = absurd (cc)
own_kind Fpwr a n x y p i v apart takes claims =
    absurd (let f = claimed_place (record { kind = Fpwr; address = a; count = n }) x i v claims in
    let no : None ≡ Some f.1 = f.2 in cc)

-- what y takes x does not claim
pub own : (r : Request) (x y : ControllerState) (p i : ℕ) → AreApart x y → taken r y p ≡ Some i
    → claim r x i ≡ None
unfolding taken
own r x y p i apart takes =
    let P : Option ℕ → Type 0 = λ o. claim r x i ≡ o → o ≡ None in
    elim (claim r x i) as P [
      | None ↦ λ _. refl
      | Some v ↦ λ claims. absurd (own_kind r.kind r.address r.count x y p i v apart takes claims)
    ] refl

-- ---- silent

-- a half that counts nothing is not served
where_idle : (b : Bool) (h : Half) → 1 ≤ h.gain → (where_served b h).gain ≡ 0 → (where_served b h) ≡ nothing
where_idle true h some none = absurd (omega arith)
where_idle false h some none = refl

-- so a controller that counts nothing neither claims nor takes anything
pub record IsSilent (r : Request) (c : ControllerState) : Type 0 where
  pub claims : (i : ℕ) → claim r c i ≡ None
  pub takes : (p : ℕ) → taken r c p ≡ None

silent_by : (r : Request) (c : ControllerState) → (effect_of r c).reading ≡ nothing
    → (effect_of r c).writing ≡ nothing → IsSilent r c
unfolding taken
silent_by r c reading writing = record {
  claims = λ i.
      ⊎_elim
      (λ (inside : i < 8 * r.count). claim_in r c i inside
      ∙ ap (λ (h : Half). option_map (bit c.memory) (h.places i)) reading)
      (λ (past : 8 * r.count ≤ i). claim_out r c i past)
      (cases_lt i (8 * r.count));
  takes = λ p. ap (λ (h : Half). h.places p) writing;
}

silent_kind : (k : Kind) (a n : ℕ) (c : ControllerState)
    → gain (record { kind = k; address = a; count = n }) c ≡ 0
    → IsSilent (record { kind = k; address = a; count = n }) c
unfolding gain
silent_kind Lrd a n c none =
    let h : Half = record { places = read_sources c a; gain = 1; mail = None } in
    silent_by (record { kind = Lrd; address = a; count = n }) c
    (where_idle (serves_read c a n) h (omega arith) (omega arith)) refl
silent_kind Lwr a n c none =
    let h : Half = record { places = write_sources c a n; gain = 1; mail = None } in
    silent_by (record { kind = Lwr; address = a; count = n }) c refl
    (where_idle (serves_write c a n) h (omega arith) (omega arith))
silent_kind Lrw a n c none =
    let h : Half = record { places = read_sources c a; gain = 1; mail = None } in
    let g : Half = record { places = write_sources c a n; gain = 2; mail = None } in
    silent_by (record { kind = Lrw; address = a; count = n }) c
    (where_idle (serves_read c a n) h (omega arith) (omega arith))
    (where_idle (serves_write c a n) g (omega arith) (omega arith))
silent_kind Brd a n c none =
    let h : Half =
    record { places = broadcast_sources c (ado_of a); gain = 1; mail = read_mailbox c (ado_of a) n } in
    silent_by (record { kind = Brd; address = a; count = n }) c
    (where_idle (serves_range_read c (ado_of a) n) h (omega arith) (omega arith)) refl
silent_kind Fprd a n c none =
    let h : Half =
    record { places = range_sources (ado_of a); gain = 1; mail = read_mailbox c (ado_of a) n } in
    silent_by (record { kind = Fprd; address = a; count = n }) c
    (where_idle (eqb (adp_of a) (word_at c.memory 16) && serves_range_read c (ado_of a) n) h (omega arith)
    (omega arith)) refl
silent_kind Fpwr a n c none =
    let h : Half =
    record { places = range_targets c (ado_of a) n; gain = 1; mail = written_mailbox c (ado_of a) n } in
    silent_by (record { kind = Fpwr; address = a; count = n }) c refl
    (where_idle (eqb (adp_of a) (word_at c.memory 16) && serves_range_write c (ado_of a) n) h (omega arith)
    (omega arith))

pub silent : (r : Request) (c : ControllerState) → gain r c ≡ 0 → IsSilent r c
silent r c none = silent_kind r.kind r.address r.count c none

-- a broadcast read is counted by each
pub broadcast_gain : (a n : ℕ) (c : ControllerState)
    → Accepts (record { kind = Brd; address = a; count = n }) c
    → gain (record { kind = Brd; address = a; count = n }) c ≡ 1
unfolding gain
broadcast_gain a n c accepts =
    let served : serves_range_read c (ado_of a) n ≡ true =
    reads_registers (sync_managers_of c.memory) (ado_of a) n accepts.some accepts.place in
    let h : Half =
    record { places = broadcast_sources c (ado_of a); gain = 1; mail = read_mailbox c (ado_of a) n } in
    ap (λ b. (where_served b h).gain + 0) served

-- a number under a condition is at most that number
cond_bound : (b : Bool) (n : ℕ) → cond b n 0 ≤ n
cond_bound true n = omega arith
cond_bound false n = omega arith

cond_most : (b : Bool) → cond b 2 1 ≤ 2
cond_most true = omega arith
cond_most false = omega arith

-- no more than three is counted of anything
pub gain_bound : (r : Request) (c : ControllerState) → gain r c ≤ 3
unfolding gain
gain_bound r c =
    let x = command_of r.kind in
    let read : Bool = reads x && serves_reading (addressing x) c r.address r.count in
    let written : Bool = writes x && serves_writing (addressing x) c r.address r.count in
    omega (
      arith,
      gain_served x c r.address r.count,
      cond_bound read 1,
      cond_bound written (cond (reads x) 2 1),
      cond_most (reads x),
    )
