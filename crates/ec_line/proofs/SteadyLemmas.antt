-- Steady bytes last through accepted items, and with them what a controller claims, takes and counts, what it
-- accepts, and that it is fit.
use Rattle.std.proofs.Common.{◌≡◌, ◌⊎◌, inl, inr, ℕ, ◌+◌, ◌-◌, ◌*◌, ◌/◌, ◌%◌, ◌<◌, ◌≤◌, Bool, true, false}
use Rattle.std.proofs.Common.{◌&&◌, ◌||◌, cond, eqb, leb, ltb, List}
use Rattle.std.proofs.Common.{length, get_or, Option, None, Some, sym, subst, ◌∙◌, ap, refl, arith, ⊎_elim}
use Rattle.std.specs.Prelude.{not}
use Rattle.std.specs.List.{Any}
use Rattle.std.specs.Option.{option_map, is_some}
use Rattle.std.proofs.Math.Bool.{or-true}
use Rattle.std.proofs.lemmas.Bool.{and_parts, cases_Bool, cases_lt}
use Rattle.std.proofs.lemmas.Bool.Decides.{nat_tests}
use Rattle.std.proofs.lemmas.List.{get_or_past}
use Rattle.std.proofs.lemmas.List.Folds.{Any-from_list_any, list_any_at}
use Rattle.std.specs.Int.{bit_at}
use Rattle.ec_regs.specs.Bits.{AreBytes, bit, with_bits}
use Rattle.ec_regs.specs.declared.fmmu.Fmmu.{Fmmu}
use Rattle.ec_regs.specs.declared.sync_man.SyncMan.{SyncMan}
use Rattle.ec_regs.specs.declared.registers.TheConstants.{STATION_ADDRESS, PROCESS_MEMORY}
use Rattle.ec_regs.specs.SyncMan.{is_buffered, is_mailbox, master_reads, master_writes}
use Rattle.ec_regs.proofs.Laws.{length-with_bits, AreBytes-with_bits, get_or-with_bits_kept}
use Rattle.ec_wire.specs.Datagram.{adp_of, ado_of}
use Rattle.ec_areas.specs.Areas.{guards, locks, is_locked}
use Rattle.ec_areas.specs.Logical.{IsReadable, IsWritable, write_map, read_places, target_places}
use Rattle.ec_areas.specs.Logical.{names}
use Rattle.ec_regs.specs.AddressRange.{within}
use Rattle.ec_areas.specs.Ranges.{is_range, meets_locked, takes_writes, some_address, emptied_by}
use Rattle.ec_areas.specs.Ranges.{filled_by, serves_physical_read, serves_physical_write}
use Rattle.ec_areas.specs.Records.{fmmus_of, sync_managers_of}
use Rattle.ec_areas.specs.Records.{SameRegisters}
use Rattle.ec_areas.proofs.Laws.{NamesPairs-read_map, NamesPairs-write_map, writable_parts, guards_from}
use Rattle.ec_areas.proofs.Laws.{filled_buffered, buffered_place, unlocked_in_range, takes_writes_same}
use Rattle.ec_areas.proofs.Laws.{sync_managers_same, fmmus_same}
use Rattle.ec_esc.specs.State.{ControllerState, IsController, word_at}
use Rattle.ec_esc.specs.Writing.{is_shown_anew, shown_byte, shown_after}
use Rattle.ec_esc.specs.Pass.{touches, Effect, Half, nothing, where_served, effect, serves_read, serves_write}
use Rattle.ec_esc.specs.Pass.{read_sources, write_sources, serves_range_read, serves_range_write}
use Rattle.ec_esc.specs.Pass.{range_sources, broadcast_sources, range_targets, read_mailbox, written_mailbox}
use Rattle.ec_esc.proofs.Laws.{get_or-shown_after, length-shown_after}
use Rattle.ec_line.specs.Accepted.{IsWithinArea, LiesInArea, LiesInRegisters, AcceptsPlace}
use Rattle.ec_line.specs.Accepted.{Accepts}
use Rattle.ec_line.specs.After.{written_through, after}
use Rattle.ec_line.specs.Steady.{is_input, is_steady, SameSteady}
use Rattle.ec_line.specs.Claims.{effect_of, claim, taken, gain}
use Rattle.ec_line.specs.Fit.{Reads, Writes, IsFitAlone}
use Rattle.ec_line.specs.Request.{Request}
use Rattle.ec_wire.specs.Kind.{command_of}
use Rattle.ec_wire.specs.declared.kind.Kind.{Kind}
use Rattle.ec_wire.specs.declared.kind.Kind.TheVariants.{Lrd, Lwr, Lrw, Brd, Fprd, Fpwr}
use Rattle.ec_line.proofs.AcceptedLemmas.{lies_buffered, station_named}

-- ---- steady bytes

pub register_steady : (managers : List SyncMan) (a : ℕ) → a < PROCESS_MEMORY → is_steady managers a ≡ true
unfolding is_steady
register_steady managers a register =
    let test : ltb a PROCESS_MEMORY ≡ true = grind (arith, nat_tests) in
    rw test refl

pub input_steady : (managers : List SyncMan) (a : ℕ) → is_input managers a ≡ true → is_steady managers a ≡ true
unfolding is_steady
input_steady managers a input = rw input (or-true (ltb a PROCESS_MEMORY))

-- a steady byte of process memory is locked
pub steady_locked : (managers : List SyncMan) (a : ℕ) → PROCESS_MEMORY ≤ a → is_steady managers a ≡ true
    → is_locked managers a ≡ true
unfolding is_steady locks
steady_locked managers a process steady =
    let test : ltb a PROCESS_MEMORY ≡ false = grind (arith, nat_tests) in
    let input : is_input managers a ≡ true = rw test at steady in
    let found = Any-from_list_any (λ s. guards s a && is_buffered s && master_reads s) managers input in
    let s : SyncMan = found.1 in
    let reads = and_parts (guards s a && is_buffered s) (master_reads s) found.4 in
    let guarded = and_parts (guards s a) (is_buffered s) reads.0 in
    let hit : locks s a ≡ true = rw (guarded.0, reads.1) (or-true (is_mailbox s)) in
    list_any_at (λ t. locks t a) managers found.0 s found.2 (ap (λ t. locks t a) found.3 ∙ hit)

-- so a byte of process memory that is not locked is not steady
pub unlocked_unsteady : (managers : List SyncMan) (a : ℕ) → PROCESS_MEMORY ≤ a → is_locked managers a ≡ false
    → is_steady managers a ≡ false
unlocked_unsteady managers a process free =
    ⊎_elim
    (λ (steady : is_steady managers a ≡ true).
    absurd (let no : true ≡ false = sym (steady_locked managers a process steady) ∙ free in cc))
    (λ (unsteady : is_steady managers a ≡ false). unsteady)
    (cases_Bool (is_steady managers a))

-- ---- the same steady bytes

pub same_steady_refl : (x : ControllerState) → SameSteady x x
same_steady_refl x = record { size = refl; bytes = λ a steady. refl }

pub registers_of : (x y : ControllerState) → IsController x → SameSteady x y → SameRegisters x.memory y.memory
registers_of x y controller same =
    let size = controller.memory_size in
    record {
      size = same.size;
      room = omega arith;
      bytes = λ a below. same.bytes a (register_steady (sync_managers_of x.memory) a below);
    }

pub managers_last : (x y : ControllerState) → IsController x → SameSteady x y
    → sync_managers_of y.memory ≡ sync_managers_of x.memory
managers_last x y controller same = sync_managers_same x.memory y.memory (registers_of x y controller same)

pub fmmus_last : (x y : ControllerState) → IsController x → SameSteady x y
    → fmmus_of y.memory ≡ fmmus_of x.memory
fmmus_last x y controller same = fmmus_same x.memory y.memory (registers_of x y controller same)

pub station_lasts : (x y : ControllerState) → IsController x → SameSteady x y
    → word_at y.memory STATION_ADDRESS ≡ word_at x.memory STATION_ADDRESS
station_lasts x y controller same =
    let at : (a : ℕ) → a < PROCESS_MEMORY → get_or y.memory a 0 ≡ get_or x.memory a 0 =
    (registers_of x y controller same).bytes in
    omega (arith, at 16 (omega arith), at 17 (omega arith))

pub same_steady_trans : (x y z : ControllerState) → IsController x → SameSteady x y → SameSteady y z → SameSteady x z
same_steady_trans x y z controller first second = record {
  size = second.size ∙ first.size;
  bytes = λ a steady.
      let still : is_steady (sync_managers_of y.memory) a ≡ true =
      ap (λ (ms : List SyncMan). is_steady ms a) (managers_last x y controller first) ∙ steady in
      second.bytes a still ∙ first.bytes a steady;
}

-- a bit of a steady byte
pub bit_lasts : (x y : ControllerState) (p : ℕ) → SameSteady x y → is_steady (sync_managers_of x.memory) (p / 8)
    ≡ true → bit y.memory p ≡ bit x.memory p
bit_lasts x y p same steady = ap (λ b. bit_at b (p % 8)) (same.bytes (p / 8) steady)

-- ---- what a controller does lasts

-- the effect of every kind but the broadcast read hangs on the registers alone
effect_lasts_logical : (k : Kind) (a n : ℕ) (x y : ControllerState) → IsController x → SameSteady x y
    → (effect (command_of Lrw) y a n ≡ effect (command_of Lrw) x a n)
effect_lasts_logical k a n x y controller same =
    let F : List SyncMan → List Fmmu → Effect = λ ms fs. record {
      reading = where_served (names (read_places ms fs (8 * a)) (8 * n))
          (record { places = read_places ms fs (8 * a); gain = 1; mail = None });
      writing = where_served (names (target_places ms fs (8 * a)) (8 * n))
          (record { places = write_map ms fs (8 * a) (8 * n); gain = 2; mail = None });
    } in
    ap (λ (ms : List SyncMan). F ms (fmmus_of y.memory)) (managers_last x y controller same)
    ∙ ap (F (sync_managers_of x.memory)) (fmmus_last x y controller same)

effect_lasts_lrd : (a n : ℕ) (x y : ControllerState) → IsController x → SameSteady x y
    → effect (command_of Lrd) y a n ≡ effect (command_of Lrd) x a n
effect_lasts_lrd a n x y controller same =
    let F : List SyncMan → List Fmmu → Effect = λ ms fs. record {
      reading = where_served (names (read_places ms fs (8 * a)) (8 * n))
          (record { places = read_places ms fs (8 * a); gain = 1; mail = None });
      writing = nothing;
    } in
    ap (λ (ms : List SyncMan). F ms (fmmus_of y.memory)) (managers_last x y controller same)
    ∙ ap (F (sync_managers_of x.memory)) (fmmus_last x y controller same)

effect_lasts_lwr : (a n : ℕ) (x y : ControllerState) → IsController x → SameSteady x y
    → effect (command_of Lwr) y a n ≡ effect (command_of Lwr) x a n
effect_lasts_lwr a n x y controller same =
    let F : List SyncMan → List Fmmu → Effect = λ ms fs. record {
      reading = nothing;
      writing = where_served (names (target_places ms fs (8 * a)) (8 * n))
          (record { places = write_map ms fs (8 * a) (8 * n); gain = 1; mail = None });
    } in
    ap (λ (ms : List SyncMan). F ms (fmmus_of y.memory)) (managers_last x y controller same)
    ∙ ap (F (sync_managers_of x.memory)) (fmmus_last x y controller same)

effect_lasts_fprd : (a n : ℕ) (x y : ControllerState) → IsController x → SameSteady x y
    → effect (command_of Fprd) y a n ≡ effect (command_of Fprd) x a n
effect_lasts_fprd a n x y controller same =
    let F : List SyncMan → ℕ → Effect = λ ms station. record {
      reading = where_served (eqb (adp_of a) station && serves_physical_read ms (ado_of a) n)
          (record { places = range_sources (ado_of a); gain = 1; mail = emptied_by ms (ado_of a) n });
      writing = nothing;
    } in
    ap (λ (ms : List SyncMan). F ms (word_at y.memory STATION_ADDRESS)) (managers_last x y controller same)
    ∙ ap (F (sync_managers_of x.memory)) (station_lasts x y controller same)

-- a write of a range: also on which bytes take writes
write_effect : (a n : ℕ) → List SyncMan → ℕ → (ℕ → Bool) → Effect
write_effect a n ms station takes =
    let from = ado_of a in
    record {
      reading = nothing;
      writing = where_served
          (eqb (adp_of a) station
          && (is_range from n
          && ((not (meets_locked ms from n) && some_address takes from n)
          || is_some (filled_by ms from n))))
          (record {
            places = λ p. cond (within from n (p / 8) && takes (p / 8)) (Some (p - 8 * from)) None;
            gain = 1;
            mail = filled_by ms from n;
          });
    }

effect_lasts_fpwr : (a n : ℕ) (x y : ControllerState) → IsController x → SameSteady x y
    → effect (command_of Fpwr) y a n ≡ effect (command_of Fpwr) x a n
unfolding write_effect
effect_lasts_fpwr a n x y controller same =
    ap (λ (ms : List SyncMan). write_effect a n ms (word_at y.memory STATION_ADDRESS) (takes_writes y.memory))
    (managers_last x y controller same)
    ∙ ap (λ (s : ℕ). write_effect a n (sync_managers_of x.memory) s (takes_writes y.memory))
    (station_lasts x y controller same)
    ∙ ap (λ (t : ℕ → Bool). write_effect a n (sync_managers_of x.memory) (word_at x.memory STATION_ADDRESS) t)
    (takes_writes_same x.memory y.memory (registers_of x y controller same))

-- what is served of a broadcast read does too
serves_lasts : (from n : ℕ) (x y : ControllerState) → IsController x → SameSteady x y
    → serves_range_read y from n ≡ serves_range_read x from n
serves_lasts from n x y controller same =
    ap (λ (ms : List SyncMan). serves_physical_read ms from n) (managers_last x y controller same)

-- ---- gains

where_gain : (b : Bool) (h : Half) → (where_served b h).gain ≡ cond b h.gain 0
where_gain true h = refl
where_gain false h = refl

gain_lasts_kind : (k : Kind) (a n : ℕ) (x y : ControllerState) → IsController x → SameSteady x y
    → gain (record { kind = k; address = a; count = n }) y
    ≡ gain (record { kind = k; address = a; count = n }) x
unfolding gain
gain_lasts_kind Lrd a n x y controller same =
    ap (λ (e : Effect). e.reading.gain + e.writing.gain) (effect_lasts_lrd a n x y controller same)
gain_lasts_kind Lwr a n x y controller same =
    ap (λ (e : Effect). e.reading.gain + e.writing.gain) (effect_lasts_lwr a n x y controller same)
gain_lasts_kind Lrw a n x y controller same =
    ap (λ (e : Effect). e.reading.gain + e.writing.gain) (effect_lasts_logical Lrw a n x y controller same)
gain_lasts_kind Brd a n x y controller same =
    let from = ado_of a in
    let half : ControllerState
    → Half = λ c. record { places = broadcast_sources c from; gain = 1; mail = read_mailbox c from n } in
    ap (λ g. g + 0) (where_gain (serves_range_read y from n) (half y))
    ∙ ap (λ b. cond b 1 0 + 0) (serves_lasts from n x y controller same)
    ∙ ap (λ g. g + 0) (sym (where_gain (serves_range_read x from n) (half x)))
gain_lasts_kind Fprd a n x y controller same =
    ap (λ (e : Effect). e.reading.gain + e.writing.gain) (effect_lasts_fprd a n x y controller same)
gain_lasts_kind Fpwr a n x y controller same =
    ap (λ (e : Effect). e.reading.gain + e.writing.gain) (effect_lasts_fpwr a n x y controller same)

pub gain_lasts : (r : Request) (x y : ControllerState) → IsController x → SameSteady x y → gain r y ≡ gain r x
gain_lasts r x y controller same = gain_lasts_kind r.kind r.address r.count x y controller same

-- ---- takes

taken_lasts_kind : (k : Kind) (a n : ℕ) (x y : ControllerState) → IsController x → SameSteady x y
    → taken (record { kind = k; address = a; count = n }) y
    ≡ taken (record { kind = k; address = a; count = n }) x
unfolding taken
taken_lasts_kind Lrd a n x y controller same = refl
taken_lasts_kind Lwr a n x y controller same =
    ap (λ (e : Effect). e.writing.places) (effect_lasts_lwr a n x y controller same)
taken_lasts_kind Lrw a n x y controller same =
    ap (λ (e : Effect). e.writing.places) (effect_lasts_logical Lrw a n x y controller same)
taken_lasts_kind Brd a n x y controller same = refl
taken_lasts_kind Fprd a n x y controller same = refl
taken_lasts_kind Fpwr a n x y controller same =
    ap (λ (e : Effect). e.writing.places) (effect_lasts_fpwr a n x y controller same)

pub taken_lasts : (r : Request) (x y : ControllerState) → IsController x → SameSteady x y
    → taken r y ≡ taken r x
taken_lasts r x y controller same = taken_lasts_kind r.kind r.address r.count x y controller same

-- ---- claims

-- within the data, and behind them
pub claim_in : (r : Request) (c : ControllerState) (i : ℕ) → i < 8 * r.count
    → claim r c i ≡ option_map (bit c.memory) ((effect_of r c).reading.places i)
unfolding claim
claim_in r c i inside =
    let test : ltb i (8 * r.count) ≡ true = grind (arith, nat_tests) in
    ap (λ b. cond b (option_map (bit c.memory) ((effect_of r c).reading.places i)) None) test

pub claim_out : (r : Request) (c : ControllerState) (i : ℕ) → 8 * r.count ≤ i → claim r c i ≡ None
unfolding claim
claim_out r c i past =
    let test : ltb i (8 * r.count) ≡ false = grind (arith, nat_tests) in
    ap (λ b. cond b (option_map (bit c.memory) ((effect_of r c).reading.places i)) None) test

-- a place of a half that is served
pub where_some : (b : Bool) (h : Half) (i p : ℕ) → (where_served b h).places i ≡ Some p
    → (b ≡ true) × (h.places i ≡ Some p)
where_some true h i p e = (refl, e)
where_some false h i p e = absurd (cc)

-- bits of two memories, at a place where they are the same
same_mapped : (x y : ControllerState) (o : Option ℕ)
    → ((p : ℕ) → o ≡ Some p → bit y.memory p ≡ bit x.memory p)
    → option_map (bit y.memory) o ≡ option_map (bit x.memory) o
same_mapped x y None same = refl
same_mapped x y (Some p) same = ap Some (same p refl)

-- claims where the effect lasts and its places are steady
claim_lasts_by : (r : Request) (x y : ControllerState) (i : ℕ) → effect_of r y ≡ effect_of r x → SameSteady x y
    → i < 8 * r.count
    → ((p : ℕ) → (effect_of r x).reading.places i ≡ Some p → is_steady (sync_managers_of x.memory) (p / 8)
    ≡ true)
    → claim r y i ≡ claim r x i
claim_lasts_by r x y i effects same inside steady =
    claim_in r y i inside
    ∙ ap (λ (e : Effect). option_map (bit y.memory) (e.reading.places i)) effects
    ∙ same_mapped x y ((effect_of r x).reading.places i) (λ p e. bit_lasts x y p same (steady p e))
    ∙ sym (claim_in r x i inside)

-- a bit that an accepted range gives
range_steady : (c : ControllerState) (from n i : ℕ) → 1 ≤ n → i < 8 * n → LiesInRegisters from n
    ⊎ LiesInArea master_reads c from n
    → is_steady (sync_managers_of c.memory) ((8 * from + i) / 8) ≡ true
range_steady c from n i some inside place =
    let managers = sync_managers_of c.memory in
    let address = (8 * from + i) / 8 in
    ⊎_elim
    (λ (registers : LiesInRegisters from n). register_steady managers address (omega arith))
    (λ (area : LiesInArea master_reads c from n).
    let s : SyncMan = area.1 in
    let lies : IsWithinArea master_reads s from n = area.4 in
    let starts = lies.starts in
    let ends = lies.ends in
    let guarded : guards s address ≡ true = guards_from s address lies.active (omega arith) (omega arith) in
    let hit : (guards s address && is_buffered s && master_reads s) ≡ true =
    rw (guarded, lies.buffered, lies.direction_is) refl in
    let F : SyncMan → Bool = λ t. guards t address && is_buffered t && master_reads t in
    input_steady managers address (list_any_at F managers area.0 s area.2 (ap F area.3 ∙ hit)))
    place

-- a broadcast read claims the bits that are 1
pub broadcast_claim : (a n : ℕ) (c : ControllerState) (i : ℕ) → i < 8 * n
    → claim (record { kind = Brd; address = a; count = n }) c i
    ≡ cond (serves_range_read c (ado_of a) n)
    (cond (eqb (bit c.memory (8 * ado_of a + i)) 1) (Some (bit c.memory (8 * ado_of a + i))) None) None
broadcast_claim a n c i inside =
    let from = ado_of a in
    let q = 8 * from + i in
    let half : Half = record { places = broadcast_sources c from; gain = 1; mail = read_mailbox c from n } in
    let P : Bool → Type 0 =
    λ b. option_map (bit c.memory) ((where_served b half).places i)
    ≡ cond b (cond (eqb (bit c.memory q) 1) (Some (bit c.memory q)) None) None in
    let Q : Bool → Type 0 = λ b. option_map (bit c.memory) (cond b (Some q) None)
    ≡ cond b (Some (bit c.memory q)) None in
    claim_in (record { kind = Brd; address = a; count = n }) c i inside
    ∙ elim (serves_range_read c from n) as P
    [ true ↦ elim (eqb (bit c.memory q) 1) as Q [ true ↦ refl | false ↦ refl ] | false ↦ refl ]

claim_lasts_kind : (k : Kind) (a n : ℕ) (x y : ControllerState) (i : ℕ) → IsFitAlone x
    → Accepts (record { kind = k; address = a; count = n }) x
    → SameSteady x y → i < 8 * n
    → claim (record { kind = k; address = a; count = n }) y i
    ≡ claim (record { kind = k; address = a; count = n }) x i
claim_lasts_kind Lrd a n x y i fit accepts same inside =
    claim_lasts_by (record { kind = Lrd; address = a; count = n }) x y i
    (effect_lasts_lrd a n x y fit.controller same) same inside
    (λ p e.
    let found = where_some (serves_read x a n) (record { places = read_sources x a; gain = 1; mail = None }) i
    p e in
    fit.steady (8 * a + i) p
    ((NamesPairs-read_map (sync_managers_of x.memory) (fmmus_of x.memory)).is_paired (8 * a + i) p found.1))
claim_lasts_kind Lwr a n x y i fit accepts same inside =
    claim_lasts_by (record { kind = Lwr; address = a; count = n }) x y i
    (effect_lasts_lwr a n x y fit.controller same) same inside (λ p e. absurd (cc))
claim_lasts_kind Lrw a n x y i fit accepts same inside =
    claim_lasts_by (record { kind = Lrw; address = a; count = n }) x y i
    (effect_lasts_logical Lrw a n x y fit.controller same) same inside
    (λ p e.
    let found = where_some (serves_read x a n) (record { places = read_sources x a; gain = 1; mail = None }) i
    p e in
    fit.steady (8 * a + i) p
    ((NamesPairs-read_map (sync_managers_of x.memory) (fmmus_of x.memory)).is_paired (8 * a + i) p found.1))
claim_lasts_kind Brd a n x y i fit accepts same inside =
    let from = ado_of a in
    let q = 8 * from + i in
    let registers : from + n ≤ PROCESS_MEMORY = accepts.place in
    let G : Bool → ℕ → Option ℕ = λ b v. cond b (cond (eqb v 1) (Some v) None) None in
    let bits : bit y.memory q ≡ bit x.memory q =
    bit_lasts x y q same (register_steady (sync_managers_of x.memory) (q / 8) (omega arith)) in
    broadcast_claim a n y i inside
    ∙ ap (λ b. G b (bit y.memory q)) (serves_lasts from n x y fit.controller same)
    ∙ ap (G (serves_range_read x from n)) bits
    ∙ sym (broadcast_claim a n x i inside)
claim_lasts_kind Fprd a n x y i fit accepts same inside =
    claim_lasts_by (record { kind = Fprd; address = a; count = n }) x y i
    (effect_lasts_fprd a n x y fit.controller same) same inside
    (λ p e.
    let from = ado_of a in
    let served = eqb (adp_of a) (word_at x.memory 16) && serves_range_read x from n in
    let found = where_some served
    (record { places = range_sources from; gain = 1; mail = read_mailbox x from n }) i p e in
    let here : 8 * from + i ≡ p = let s = found.1 in cc in
    ap (λ q. is_steady (sync_managers_of x.memory) (q / 8)) (sym here)
    ∙ range_steady x from n i accepts.some inside
    (accepts.place (station_named a x (serves_range_read x from n) found.0)))
claim_lasts_kind Fpwr a n x y i fit accepts same inside =
    claim_lasts_by (record { kind = Fpwr; address = a; count = n }) x y i
    (effect_lasts_fpwr a n x y fit.controller same) same inside (λ p e. absurd (cc))

pub claim_lasts : (r : Request) (x y : ControllerState) (i : ℕ) → IsFitAlone x → Accepts r x → SameSteady x y
    → claim r y i ≡ claim r x i
claim_lasts r x y i fit accepts same =
    ⊎_elim
    (λ (inside : i < 8 * r.count). claim_lasts_kind r.kind r.address r.count x y i fit accepts same inside)
    (λ (past : 8 * r.count ≤ i). claim_out r y i past ∙ sym (claim_out r x i past))
    (cases_lt i (8 * r.count))

-- ---- what is taken is not steady

-- a write that is served and fills no mailbox meets no area that is locked
open_write : (memory : List ℕ) (managers : List SyncMan) (from n : ℕ)
    → serves_physical_write memory managers from n ≡ true
    → filled_by managers from n ≡ None → meets_locked managers from n ≡ false
open_write memory managers from n served unfilled =
    let open_ : Bool = not (meets_locked managers from n) && some_address (takes_writes memory) from n in
    let parts = and_parts (is_range from n) (open_ || is_some (filled_by managers from n)) served in
    let either : (open_ || is_some {T = ℕ} None) ≡ true =
    ap (λ (o : Option ℕ). open_ || is_some o) (sym unfilled) ∙ parts.1 in
    ⊎_elim
    (λ (locked : meets_locked managers from n ≡ true).
    absurd (let no : (false || false) ≡ true = rw locked at either in cc))
    (λ (free : meets_locked managers from n ≡ false). free)
    (cases_Bool (meets_locked managers from n))

-- a place of a range whose byte takes writes
range_some : (c : ControllerState) (from n p i : ℕ) → range_targets c from n p ≡ Some i
    → (from ≤ p / 8) × (p / 8 < from + n)
range_some c from n p i e =
    let test = within from n (p / 8) && takes_writes c.memory (p / 8) in
    let kept : test ≡ true =
    ⊎_elim
    (λ (t : test ≡ true). t)
    (λ (f : test ≡ false).
    absurd (let no : None ≡ Some i = ap (λ b. cond b (Some (p - 8 * from)) None) (sym f) ∙ e in cc))
    (cases_Bool test) in
    let parts = and_parts (within from n (p / 8)) (takes_writes c.memory (p / 8)) kept in
    let ends = and_parts (leb from (p / 8)) (ltb (p / 8) (from + n)) parts.0 in
    let low : leb from (p / 8) ≡ true = ends.0 in
    let high : ltb (p / 8) (from + n) ≡ true = ends.1 in
    (grind (arith, nat_tests), grind (arith, nat_tests))

-- a byte that a write through FMMUs reaches lies in process memory, and no area locks it
by_fmmu : (a n : ℕ) (c : ControllerState) (p i : ℕ)
    → write_map (sync_managers_of c.memory) (fmmus_of c.memory) (8 * a) (8 * n) p ≡ Some i
    → (PROCESS_MEMORY ≤ p / 8) × (is_locked (sync_managers_of c.memory) (p / 8) ≡ false)
by_fmmu a n c p i e =
    let managers = sync_managers_of c.memory in
    let found = (NamesPairs-write_map managers (fmmus_of c.memory) (8 * a) (8 * n)).is_paired p i e in
    let parts = writable_parts managers (p / 8) found.1.4.allowed in
    (parts.0, parts.2)

-- so does a byte that an accepted request writes
pub written_free : (k : Kind) (a n : ℕ) (c : ControllerState) (p i : ℕ)
    → Accepts (record { kind = k; address = a; count = n }) c
    → (effect (command_of k) c a n).writing.places p ≡ Some i
    → (PROCESS_MEMORY ≤ p / 8) × (is_locked (sync_managers_of c.memory) (p / 8) ≡ false)
written_free Lrd a n c p i accepts e = absurd (cc)
written_free Lwr a n c p i accepts e =
    by_fmmu a n c p i
    (where_some (serves_write c a n) (record { places = write_sources c a n; gain = 1; mail = None }) p i e).1
written_free Lrw a n c p i accepts e =
    by_fmmu a n c p i
    (where_some (serves_write c a n) (record { places = write_sources c a n; gain = 2; mail = None }) p i e).1
written_free Brd a n c p i accepts e = absurd (cc)
written_free Fprd a n c p i accepts e = absurd (cc)
written_free Fpwr a n c p i accepts e =
    let from = ado_of a in
    let managers = sync_managers_of c.memory in
    let station = eqb (adp_of a) (word_at c.memory 16) in
    let found = where_some (station && serves_range_write c from n)
    (record { places = range_targets c from n; gain = 1; mail = written_mailbox c from n }) p i e in
    let served = and_parts station (serves_range_write c from n) found.0 in
    let lies = lies_buffered master_writes c from n accepts.some
    (accepts.place (station_named a c (serves_range_write c from n) found.0)) in
    let place = buffered_place lies.1 from n lies.4 in
    let inside = range_some c from n p i found.1 in
    let free = unlocked_in_range managers from n (p / 8)
    (open_write c.memory managers from n served.1 (filled_buffered managers from n lies)) inside.0
    inside.1 in
    (omega (arith, place.0, inside.0), free)

pub taken_unsteady : (r : Request) (c : ControllerState) (p i : ℕ) → Accepts r c → taken r c p ≡ Some i
    → is_steady (sync_managers_of c.memory) (p / 8) ≡ false
unfolding taken
taken_unsteady r c p i accepts e =
    let free = written_free r.kind r.address r.count c p i accepts e in
    unlocked_unsteady (sync_managers_of c.memory) (p / 8) free.0 free.1

-- ---- a controller after an item

-- its steady bytes are the same
pub after_steady : (r : Request) (payload : List ℕ) (c : ControllerState) → IsController c → Accepts r c
    → SameSteady c (after r payload c)
unfolding written_through
after_steady r payload c controller accepts = record {
  size = length-with_bits c.memory payload (taken r c);
  bytes = λ a steady.
      get_or-with_bits_kept c.memory payload (taken r c) a controller.memory
      (λ b below.
      let byte : (8 * a + b) / 8 ≡ a = omega arith in
      let P : Option ℕ → Type 0 = λ o. taken r c (8 * a + b) ≡ o → o ≡ None in
      elim (taken r c (8 * a + b)) as P [
        | None ↦ λ _. refl
        | Some i ↦ λ e.
            let unsteady : is_steady (sync_managers_of c.memory) ((8 * a + b) / 8) ≡ false =
            taken_unsteady r c (8 * a + b) i accepts e in
            absurd (let no : true ≡ false = sym steady ∙ ap (is_steady (sync_managers_of c.memory)) (sym byte)
            ∙ unsteady in cc)
      ] refl);
}

-- it is a controller
shown_are_bytes : (f : ℕ → Bool) (befores afters : List SyncMan) (memory shown : List ℕ) → AreBytes memory
    → AreBytes shown
    → AreBytes (shown_after f befores afters memory shown)
shown_are_bytes f befores afters memory shown m s k =
    ⊎_elim
    (λ (inside : k < length shown).
    let byte = shown_byte f befores afters memory shown k in
    let below : byte < 256 =
    elim (is_shown_anew f befores afters (4096 + k)) as
    (λ b. cond b (get_or memory (4096 + k) 0) (get_or shown k 0) < 256) [
      | true ↦ m (4096 + k)
      | false ↦ s k
    ] in
    omega (arith, get_or-shown_after f befores afters memory shown k inside))
    (λ (past : length shown ≤ k).
    omega (
      arith,
      get_or_past (shown_after f befores afters memory shown) k 0
          (omega (arith, length-shown_after f befores afters memory shown)),
    ))
    (cases_lt k (length shown))

pub after_controller : (r : Request) (payload : List ℕ) (c : ControllerState) → IsController c
    → IsController (after r payload c)
unfolding written_through
after_controller r payload c controller =
    let managers = sync_managers_of c.memory in
    let memory : List ℕ = with_bits c.memory payload (taken r c) in
    let bytes : AreBytes memory = AreBytes-with_bits c.memory payload (taken r c) in
    record {
      memory_size = length-with_bits c.memory payload (taken r c) ∙ controller.memory_size;
      memory = bytes;
      shown_size = length-shown_after (touches (taken r c)) managers managers memory c.shown
          ∙ controller.shown_size;
      shown = shown_are_bytes (touches (taken r c)) managers managers memory c.shown bytes controller.shown;
    }

-- ---- fitness lasts

pub reads_last : (x y : ControllerState) (l p : ℕ) → IsController x → SameSteady x y → Reads y l p → Reads x l p
reads_last x y l p controller same pair =
    let P : List SyncMan → List Fmmu → Type 0 = λ ms fs. IsReadable ms fs l p in
    subst (λ (fs : List Fmmu). P (sync_managers_of x.memory) fs) (fmmus_last x y controller same)
    (subst (λ (ms : List SyncMan). P ms (fmmus_of y.memory)) (managers_last x y controller same) pair)

pub writes_last : (x y : ControllerState) (l p : ℕ) → IsController x → SameSteady x y → Writes y l p
    → Writes x l p
writes_last x y l p controller same pair =
    let P : List SyncMan → List Fmmu → Type 0 = λ ms fs. IsWritable ms fs l p in
    subst (λ (fs : List Fmmu). P (sync_managers_of x.memory) fs) (fmmus_last x y controller same)
    (subst (λ (ms : List SyncMan). P ms (fmmus_of y.memory)) (managers_last x y controller same) pair)

pub fit_lasts : (x y : ControllerState) → IsFitAlone x → IsController y → SameSteady x y → IsFitAlone y
fit_lasts x y fit controller same = record {
  controller = controller;
  steady = λ l p pair.
      ap (λ (ms : List SyncMan). is_steady ms (p / 8)) (managers_last x y fit.controller same)
      ∙ fit.steady l p (reads_last x y l p fit.controller same pair);
  read_once = λ l p q one two.
      fit.read_once l p q (reads_last x y l p fit.controller same one)
      (reads_last x y l q fit.controller same two);
  written_once = λ l m p one two.
      fit.written_once l m p (writes_last x y l p fit.controller same one)
      (writes_last x y m p fit.controller same two);
}

area_lasts : (direction : SyncMan → Bool) (x y : ControllerState) (from n : ℕ) → IsController x → SameSteady x y
    → LiesInArea direction x from n
    → LiesInArea direction y from n
area_lasts direction x y from n controller same lies =
    subst (λ (ms : List SyncMan). Any (λ s. IsWithinArea direction s from n) ms)
    (sym (managers_last x y controller same)) lies

accepts_lasts_kind : (k : Kind) (a n : ℕ) (x y : ControllerState) → IsController x → SameSteady x y
    → AcceptsPlace k (record { kind = k; address = a; count = n }) x
    → AcceptsPlace k (record { kind = k; address = a; count = n }) y
accepts_lasts_kind Lrd a n x y controller same place = tt
accepts_lasts_kind Lwr a n x y controller same place = tt
accepts_lasts_kind Lrw a n x y controller same place = tt
accepts_lasts_kind Brd a n x y controller same place = place
accepts_lasts_kind Fprd a n x y controller same place = λ station.
    ⊎_elim
    (λ (registers : LiesInRegisters (ado_of a) n). inl registers)
    (λ (area : LiesInArea master_reads x (ado_of a) n).
    inr (area_lasts master_reads x y (ado_of a) n controller same area))
    (place (station ∙ station_lasts x y controller same))
accepts_lasts_kind Fpwr a n x y controller same place = λ station.
    area_lasts master_writes x y (ado_of a) n controller same
    (place (station ∙ station_lasts x y controller same))

pub accepts_lasts : (r : Request) (x y : ControllerState) → IsController x → SameSteady x y → Accepts r x
    → Accepts r y
accepts_lasts r x y controller same accepts = record {
  some = accepts.some;
  place = accepts_lasts_kind r.kind r.address r.count x y controller same accepts.place;
}
