-- A datagram of a frame is served in steps, on its data, its counter and its address; what is served that
-- does nothing; and what a write through FMMUs and one of a range leave.
use Rattle.std.proofs.Common.{◌≡◌, ℕ, ◌+◌, ◌-◌, ◌*◌, ◌/◌, ◌<◌, ◌≤◌, Bool, true, false, ◌&&◌}
use Rattle.std.proofs.Common.{◌||◌, cond, List, length, set, Option, None, Some, sym, ◌∙◌, ap, subst, refl}
use Rattle.std.proofs.Common.{arith, ⊎_elim}
use Rattle.std.proofs.Math.Path.{fun_ext}
use Rattle.std.specs.Option.{is_some}
use Rattle.std.proofs.Math.Bool.{or-false}
use Rattle.std.proofs.lemmas.Bool.{cases_Bool}
use Rattle.std.proofs.lemmas.List.{set-set, set-get_or, get_or-set_same}
use Rattle.ec_regs.specs.Bits.{AreBytes, with_bits}
use Rattle.ec_regs.specs.declared.sync_man.SyncMan.{SyncMan}
use Rattle.ec_regs.specs.declared.registers.TheConstants.{MEMORY_SIZE, PROCESS_MEMORY, AL_CONTROL}
use Rattle.ec_regs.proofs.Laws.{length-with_bits, with_bits_none, get_or-with_bits_kept}
use Rattle.ec_wire.specs.Datagram.{DatagramRecord, nth, blank, ado}
use Rattle.ec_regs.specs.AddressRange.{within}
use Rattle.ec_areas.specs.Ranges.{takes_writes, filled_by}
use Rattle.ec_areas.specs.Records.{sync_managers_of, fmmus_of}
use Rattle.ec_areas.specs.Records.{SameRegisters}
use Rattle.ec_areas.proofs.Laws.{names_nowhere, names_none, names_at, write_map_none}
use Rattle.ec_areas.proofs.Laws.{write_map_register, write_empties_none, sync_managers_same}
use Rattle.ec_esc.specs.State.{ControllerState}
use Rattle.ec_esc.specs.Writing.{settled, shown_after, with_emptied, with_filled}
use Rattle.ec_esc.specs.Pass.{Half, Effect, nothing, where_served, only_reads, only_writes, touches}
use Rattle.ec_esc.specs.Pass.{counter_after, served, state_after, written_by, read_by, Arrives, IsServed}
use Rattle.ec_esc.specs.Pass.{read_sources, write_sources, serves_read, serves_write, mapped_read, mapped_write}
use Rattle.ec_esc.specs.Pass.{is_written, range_sources, range_targets, range_given, range_taken, range_read}
use Rattle.ec_esc.specs.Pass.{range_write, read_mailbox, written_mailbox, serves_range_read}
use Rattle.ec_esc.specs.Pass.{serves_range_write}
use Rattle.ec_esc.proofs.IdleLemmas.{settled_same, shown_after_same, written_by_nothing, taken_nothing}

-- ---- one datagram of a frame

-- a datagram that was put at k is the one there
pub nth-set : (rs frame : List DatagramRecord) (k : ℕ) (d : DatagramRecord) → k < length rs → frame
    ≡ set rs k d → nth frame k ≡ d
nth-set rs frame k d inside put =
    ap (λ (f : List DatagramRecord). nth f k) put ∙ get_or-set_same rs k d blank inside

-- of two that were put at k, the later one is there
pub set-put : (rs first second : List DatagramRecord) (k : ℕ) (d e : DatagramRecord) → first
    ≡ set rs k d → second ≡ set first k e
    → second ≡ set rs k e
set-put rs first second k d e one two =
    two ∙ ap (λ (f : List DatagramRecord). set f k e) one ∙ set-set rs k d e

-- a datagram put where it stands changes nothing
pub set_nth : (rs : List DatagramRecord) (k : ℕ) → set rs k (nth rs k) ≡ rs
set_nth rs k = set-get_or rs k blank

-- a datagram with other data and another counter
abbrev pub with_both : DatagramRecord → List ℕ → ℕ → DatagramRecord
with_both d payload counter = record d { payload = payload; counter = counter }

-- one whose data were filled
abbrev pub filled_with : (ℕ → Option ℕ) → ControllerState → DatagramRecord → DatagramRecord
filled_with places c d = record d { payload = with_bits d.payload c.memory places }

-- it reaches no further than before
pub filled_inside : (places : ℕ → Option ℕ) (c : ControllerState) (rs filled : List DatagramRecord)
    (k : ℕ) → k < length rs
    → filled ≡ set rs k (filled_with places c (nth rs k))
    → ado (nth rs k) + length (nth rs k).payload ≤ MEMORY_SIZE
    → ado (nth filled k) + length (nth filled k).payload ≤ MEMORY_SIZE
filled_inside places c rs filled k inside filled_is within =
    let P : DatagramRecord → Type 0 = λ d. ado d + length d.payload ≤ MEMORY_SIZE in
    let d : DatagramRecord = nth rs k in
    let full : P (filled_with places c d) = omega (arith, length-with_bits d.payload c.memory places) in
    subst P (sym (nth-set rs filled k (filled_with places c d) inside filled_is)) full

-- ---- nothing is served

-- a counter that gains nothing stays
counter_kept : (d : DatagramRecord) → d.counter < 65536 → counter_after d 0 ≡ d.counter
counter_kept d fits = omega arith

-- the datagram stays
served_nothing : (c : ControllerState) (d : DatagramRecord) → Arrives c d → served (only_reads nothing) c d
    ≡ d
served_nothing c d fits =
    ap (λ (p : List ℕ). with_both d p (counter_after d 0)) (taken_nothing d.payload c.memory fits.payload)
    ∙ ap (λ n. with_both d d.payload n) (counter_kept d fits.counter)

-- and the controller
left_by_nothing : (c : ControllerState) (d : DatagramRecord) → Arrives c d
    → written_by nothing d.payload c ≡ c
left_by_nothing c d fits =
    written_by_nothing c d.payload fits.controller.memory fits.controller.memory_size

-- so both stay
pub IsServed-nothing : (rs : List DatagramRecord) (k : ℕ) (c : ControllerState) → Arrives c (nth rs k)
    → IsServed (only_reads nothing) k rs c rs c
IsServed-nothing rs k c fits = record {
  frame = sym (ap (set rs k) (served_nothing c (nth rs k) fits) ∙ set_nth rs k);
  state = sym (left_by_nothing c (nth rs k) fits);
}

-- ---- one way or both

-- the data are filled, and then the counter is raised
filled_and_raised : (places : ℕ → Option ℕ) (n : ℕ) (c : ControllerState)
    (rs filled raised : List DatagramRecord) (k : ℕ) → k < length rs
    → filled ≡ set rs k (filled_with places c (nth rs k))
    → raised ≡ set filled k (record (nth filled k) { counter = counter_after (nth filled k) n })
    → raised ≡ set rs k (with_both (nth rs k) (with_bits (nth rs k).payload c.memory places)
    (counter_after (nth rs k) n))
filled_and_raised places n c rs filled raised k inside filled_is raised_is =
    let d : DatagramRecord = nth rs k in
    let full : DatagramRecord = filled_with places c d in
    let up : DatagramRecord → DatagramRecord = λ e. record e { counter = counter_after e n } in
    set-put rs filled raised k full (up (nth filled k)) filled_is raised_is
    ∙ ap (λ (e : DatagramRecord). set rs k (up e)) (nth-set rs filled k full inside filled_is)

-- a read is served so
pub IsServed-read : (half : Half) (c after : ControllerState) (rs filled raised : List DatagramRecord)
    (k : ℕ) → k < length rs → Arrives c (nth rs k)
    → filled ≡ set rs k (filled_with half.places c (nth rs k))
    → raised ≡ set filled k (record (nth filled k) { counter = counter_after (nth filled k) half.gain })
    → after ≡ read_by half c
    → IsServed (only_reads half) k rs c raised after
IsServed-read half c after rs filled raised k inside fits filled_is raised_is after_is =
    let d : DatagramRecord = nth rs k in
    let gain : half.gain ≡ half.gain + 0 = omega arith in
    record {
      frame = filled_and_raised half.places half.gain c rs filled raised k inside filled_is raised_is
          ∙ ap (λ (n : ℕ). set rs k (with_both d (with_bits d.payload c.memory half.places)
          (counter_after d n))) gain;
      state = after_is ∙ ap (read_by half) (sym (left_by_nothing c d fits));
    }

-- a write is served by a counter that is raised, and by what it leaves
pub IsServed-write : (half : Half) (c after : ControllerState) (rs raised : List DatagramRecord)
    (k : ℕ) → Arrives c (nth rs k)
    → raised ≡ set rs k (record (nth rs k) { counter = counter_after (nth rs k) half.gain })
    → after ≡ written_by half (nth rs k).payload c
    → IsServed (only_writes half) k rs c raised after
IsServed-write half c after rs raised k fits raised_is after_is =
    let d : DatagramRecord = nth rs k in
    let gain : half.gain ≡ 0 + half.gain = omega arith in
    record {
      frame = raised_is
          ∙ ap (λ (p : List ℕ). set rs k (with_both d p (counter_after d half.gain)))
          (sym (taken_nothing d.payload c.memory fits.payload))
          ∙ ap (λ (n : ℕ). set rs k (with_both d (with_bits d.payload c.memory (λ _. None))
          (counter_after d n))) gain;
      state = after_is;
    }

-- both at once
pub IsServed-both : (e : Effect) (c after : ControllerState) (rs filled raised : List DatagramRecord)
    (k : ℕ) → k < length rs
    → filled ≡ set rs k (filled_with e.reading.places c (nth rs k))
    → raised ≡ set filled k (record (nth filled k) {
      counter = counter_after (nth filled k) (e.reading.gain + e.writing.gain);
    })
    → after ≡ state_after e c (nth rs k).payload
    → IsServed e k rs c raised after
IsServed-both e c after rs filled raised k inside filled_is raised_is after_is = record {
  frame = filled_and_raised e.reading.places (e.reading.gain + e.writing.gain) c rs filled raised k inside
      filled_is raised_is;
  state = after_is;
}

-- ---- through FMMUs

-- what is taken where it is served is taken, since nothing is taken where it is not
pub read_placed : (c : ControllerState) (address : ℕ) (payload : List ℕ) → AreBytes payload
    → with_bits payload c.memory (read_sources c address)
    ≡ with_bits payload c.memory (mapped_read c address (length payload)).places
read_placed c address payload are =
    let half : Half = record { places = read_sources c address; gain = 1; mail = None } in
    let b = serves_read c address (length payload) in
    let P : Bool → Type 0 = λ x. with_bits payload c.memory (read_sources c address)
    ≡ with_bits payload c.memory (where_served x half).places in
    ⊎_elim
    (λ (met : b ≡ true). subst P (sym met) refl)
    (λ (unmet : b ≡ false).
    let none : with_bits payload c.memory (read_sources c address) ≡ payload =
    with_bits_none payload c.memory (read_sources c address) are
    (λ i inside. names_none (read_sources c address) (8 * length payload) i unmet inside) in
    subst P (sym unmet) (none ∙ sym (taken_nothing payload c.memory are)))
    (cases_Bool b)

-- no mailbox is read out
pub read_by_mapped : (c after : ControllerState) (address count : ℕ)
    → read_by (mapped_read c address count) after ≡ after
read_by_mapped c after address count =
    let half : Half = record { places = read_sources c address; gain = 1; mail = None } in
    elim (serves_read c address count) as (λ b. read_by (where_served b half) after ≡ after) [
      | true ↦ refl
      | false ↦ refl
    ]

-- a read that is not served takes nothing
pub IsServed-unmapped : (c : ControllerState) (rs filled : List DatagramRecord) (k : ℕ)
    → Arrives c (nth rs k)
    → filled ≡ set rs k (filled_with (read_sources c (nth rs k).address) c (nth rs k))
    → serves_read c (nth rs k).address (length (nth rs k).payload) ≡ false
    → IsServed (only_reads (mapped_read c (nth rs k).address (length (nth rs k).payload))) k rs c filled c
IsServed-unmapped c rs filled k fits filled_is unserved =
    let d : DatagramRecord = nth rs k in
    let half : Half = record { places = read_sources c d.address; gain = 1; mail = None } in
    let taken : List ℕ → List DatagramRecord = λ p. set rs k (record d { payload = p }) in
    subst (λ b. IsServed (only_reads (where_served b half)) k rs c filled c) (sym unserved) (record {
      frame = filled_is
          ∙ ap taken (read_placed c d.address d.payload fits.payload)
          ∙ ap (λ b. taken (with_bits d.payload c.memory (where_served b half).places)) unserved
          ∙ ap (λ (n : ℕ). set rs k (with_both d (with_bits d.payload c.memory (λ _. None)) n))
          (sym (counter_kept d fits.counter));
      state = sym (left_by_nothing c d fits);
    })

-- what a half counts where it is served
gain_where : (b : Bool) (h : Half) → cond b h.gain 0 ≡ (where_served b h).gain
gain_where true h = refl
gain_where false h = refl

-- what both ways count
pub gains_both : (c : ControllerState) (address count : ℕ) (reads writes : Bool)
    → reads ≡ serves_read c address count → writes ≡ serves_write c address count
    → cond reads 1 0 + cond writes 2 0
    ≡ (mapped_read c address count).gain + (mapped_write 2 c address count).gain
gains_both c address count reads writes reads_is writes_is =
    let reading : Half = record { places = read_sources c address; gain = 1; mail = None } in
    let writing : Half = record { places = write_sources c address count; gain = 2; mail = None } in
    ap (λ b. cond b 1 0 + cond writes 2 0) reads_is
    ∙ ap (λ b. cond (serves_read c address count) 1 0 + cond b 2 0) writes_is
    ∙ ap (λ n. n + cond (serves_write c address count) 2 0) (gain_where (serves_read c address count) reading)
    ∙ ap (λ n. (mapped_read c address count).gain + n) (gain_where (serves_write c address count) writing)

-- registers stay
registers_written : (c : ControllerState) (address : ℕ) (payload : List ℕ) → AreBytes c.memory
    → length c.memory ≡ MEMORY_SIZE
    → SameRegisters c.memory (with_bits c.memory payload (write_sources c address (length payload)))
registers_written c address payload are size =
    let places = write_sources c address (length payload) in
    record {
      size = length-with_bits c.memory payload places;
      room = omega arith;
      bytes = λ a below.
          get_or-with_bits_kept c.memory payload places a are
          (λ b bit.
          let byte : (8 * a + b) / 8 < PROCESS_MEMORY = omega arith in
          write_map_register (sync_managers_of c.memory) (fmmus_of c.memory) (8 * address)
          (8 * length payload) (8 * a + b) byte);
    }

-- no register is touched
control_untouched : (c : ControllerState) (address count : ℕ)
    → touches (write_sources c address count) AL_CONTROL ≡ false
control_untouched c address count =
    names_nowhere (λ b. write_sources c address count (8 * AL_CONTROL + b)) 8
    (λ b bit.
    let byte : (8 * 288 + b) / 8 < PROCESS_MEMORY = omega arith in
    write_map_register (sync_managers_of c.memory) (fmmus_of c.memory) (8 * address)
    (8 * count) (8 * 288 + b) byte)

-- the controller once memory bits were written through its FMMUs
abbrev pub mapped_state : ControllerState → ℕ → List ℕ → ControllerState
mapped_state c address payload =
    let managers = sync_managers_of c.memory in
    let places = write_sources c address (length payload) in
    let memory = with_bits c.memory payload places
    in record c { memory = memory; shown = shown_after (touches places) managers managers memory c.shown }

-- it is as the rule says where the write is served
written_served : (c : ControllerState) (address : ℕ) (payload : List ℕ) (n : ℕ) → AreBytes c.memory
    → length c.memory ≡ MEMORY_SIZE
    → mapped_state c address payload
    ≡ written_by (record {
      places = write_sources c address (length payload);
      gain = n;
      mail = None;
    }) payload c
written_served c address payload n are size =
    let places = write_sources c address (length payload) in
    let memory : List ℕ = with_bits c.memory payload places in
    let managers = sync_managers_of c.memory in
    let same = registers_written c address payload are size in
    let F : List ℕ → List SyncMan → Bool → ControllerState = λ m ms w. record {
      memory = m;
      shown = shown_after (touches places) managers ms m c.shown;
      written = w;
    } in
    let mark : (c.written || touches places AL_CONTROL) ≡ c.written =
    ap (λ b. c.written || b) (control_untouched c address (length payload)) ∙ or-false c.written in
    sym (ap (λ (m : List ℕ). F m (sync_managers_of m) (c.written || touches places AL_CONTROL))
    (settled_same c.memory memory same)
    ∙ ap (λ (ms : List SyncMan). F memory ms (c.written || touches places AL_CONTROL))
    (sync_managers_same c.memory memory same)
    ∙ ap (F memory managers) mark)

-- and where it is not
unwritten : (c : ControllerState) (address : ℕ) (payload : List ℕ) → AreBytes c.memory
    → length c.memory ≡ MEMORY_SIZE → serves_write c address (length payload) ≡ false
    → mapped_state c address payload ≡ written_by nothing payload c
unwritten c address payload are size unserved =
    let none : (p : ℕ) → write_sources c address (length payload) p ≡ None =
    λ p. write_map_none (sync_managers_of c.memory) (fmmus_of c.memory) (8 * address)
    (8 * length payload) p unserved in
    written_served c address payload 0 are size
    ∙ ap (λ (f : ℕ → Option ℕ). written_by (record {
      places = f;
      gain = 0;
      mail = None;
    }) payload c) (fun_ext none)

-- so each write through FMMUs leaves the controller as the rule says
pub written_mapped : (c : ControllerState) (address : ℕ) (payload : List ℕ) (n : ℕ) → AreBytes c.memory
    → length c.memory ≡ MEMORY_SIZE
    → mapped_state c address payload ≡ written_by (mapped_write n c address (length payload)) payload c
written_mapped c address payload n are size =
    let half : Half = record { places = write_sources c address (length payload); gain = n; mail = None } in
    let b = serves_write c address (length payload) in
    let P : Bool → Type 0 = λ x. mapped_state c address payload ≡ written_by (where_served x half) payload c in
    ⊎_elim
    (λ (met : b ≡ true). subst P (sym met) (written_served c address payload n are size))
    (λ (unmet : b ≡ false). subst P (sym unmet) (unwritten c address payload are size unmet))
    (cases_Bool b)

-- a write of data that are a datagram's is that of the datagram
pub mapped_as : (n : ℕ) (c after : ControllerState) (a : ℕ) (ys : List ℕ) (d : DatagramRecord)
    → a ≡ d.address → ys ≡ d.payload
    → after ≡ written_by (mapped_write n c a (length ys)) ys c
    → after ≡ written_by (mapped_write n c d.address (length d.payload)) d.payload c
mapped_as n c after a ys d a_is ys_is told =
    told
    ∙ ap (λ (b : ℕ). written_by (mapped_write n c b (length ys)) ys c) a_is
    ∙ ap (λ (zs : List ℕ). written_by (mapped_write n c d.address (length zs)) zs c) ys_is

-- and it is served where that is
pub serves_as : (c : ControllerState) (is_served : Bool) (a : ℕ) (ys : List ℕ) (d : DatagramRecord)
    → a ≡ d.address → ys ≡ d.payload → is_served ≡ serves_write c a (length ys)
    → is_served ≡ serves_write c d.address (length d.payload)
serves_as c is_served a ys d a_is ys_is told =
    told
    ∙ ap (λ (b : ℕ). serves_write c b (length ys)) a_is
    ∙ ap (λ (zs : List ℕ). serves_write c d.address (length zs)) ys_is

-- a write that is served
pub IsServed-mapped_write : (c after : ControllerState) (rs raised : List DatagramRecord) (k : ℕ)
    → Arrives c (nth rs k) → serves_write c (nth rs k).address (length (nth rs k).payload) ≡ true
    → raised ≡ set rs k (record (nth rs k) { counter = counter_after (nth rs k) 1 })
    → after ≡ written_by (mapped_write 1 c (nth rs k).address (length (nth rs k).payload)) (nth rs k).payload c
    → IsServed (only_writes (mapped_write 1 c (nth rs k).address (length (nth rs k).payload))) k rs c raised
    after
IsServed-mapped_write c after rs raised k fits met raised_is after_is =
    let d : DatagramRecord = nth rs k in
    let half : Half = record {
      places = write_sources c d.address (length d.payload);
      gain = 1;
      mail = None;
    } in
    subst (λ b. IsServed (only_writes (where_served b half)) k rs c raised after) (sym met)
    (IsServed-write half c after rs raised k fits raised_is
    (after_is ∙ ap (λ b. written_by (where_served b half) d.payload c) met))

-- and one that is not
pub IsServed-unwritten : (c after : ControllerState) (rs : List DatagramRecord) (k : ℕ)
    → Arrives c (nth rs k) → serves_write c (nth rs k).address (length (nth rs k).payload) ≡ false
    → after ≡ written_by (mapped_write 1 c (nth rs k).address (length (nth rs k).payload)) (nth rs k).payload c
    → IsServed (only_writes (mapped_write 1 c (nth rs k).address (length (nth rs k).payload))) k rs c rs after
IsServed-unwritten c after rs k fits unmet after_is =
    let d : DatagramRecord = nth rs k in
    let half : Half = record {
      places = write_sources c d.address (length d.payload);
      gain = 1;
      mail = None;
    } in
    subst (λ b. IsServed (only_writes (where_served b half)) k rs c rs after) (sym unmet) (record {
      frame = sym (ap (set rs k) (served_nothing c d fits) ∙ set_nth rs k);
      state = after_is ∙ ap (λ b. written_by (where_served b half) d.payload c) unmet;
    })

-- ---- ranges

-- the bytes of a range that take writes are those that are touched
touches_range : (c : ControllerState) (from count a : ℕ) → touches (range_targets c from count) a
    ≡ is_written c.memory from count a
touches_range c from count a =
    let test : ℕ → Bool = is_written c.memory from count in
    let byte : (b : ℕ) → b < 8 → (8 * a + b) / 8 ≡ a = λ b below. omega arith in
    let at : (b : ℕ) → b < 8 → range_targets c from count (8 * a + b)
    ≡ cond (test a) (Some (8 * a + b - 8 * from)) None =
    λ b below. ap (λ x. cond (test x) (Some (8 * a + b - 8 * from)) None) (byte b below) in
    ⊎_elim
    (λ (written : test a ≡ true).
    names_at (λ b. range_targets c from count (8 * a + b)) 8 0 (omega arith) (ap is_some (at 0 (omega arith))
    ∙ rw written refl)
    ∙ sym written)
    (λ (kept : test a ≡ false).
    names_nowhere (λ b. range_targets c from count (8 * a + b)) 8 (λ b below. at b below ∙ rw kept refl)
    ∙ sym kept)
    (cases_Bool (test a))

-- AL control always takes writes
control_takes : (memory : List ℕ) → takes_writes memory AL_CONTROL ≡ true
unfolding takes_writes
control_takes memory = refl

-- what is so and true is so
and_true : (b : Bool) → (b && true) ≡ b
and_true true = refl
and_true false = refl

-- the controller once the bytes of a range were written and all else was done, by the sync managers on
-- arrival
abbrev pub range_state : ControllerState → List SyncMan → ℕ → ℕ → List ℕ → ControllerState
range_state c before from count written =
    let memory = settled c.memory written in
    record {
      memory = with_filled (filled_by before from count) memory;
      shown = shown_after (is_written c.memory from count) before (sync_managers_of memory) memory c.shown;
      written = c.written || within from count AL_CONTROL;
    }

-- it is as the rule says
pub written_range : (c : ControllerState) (from : ℕ) (payload : List ℕ) (n : ℕ)
    → range_state c (sync_managers_of c.memory) from (length payload)
    (with_bits c.memory payload (range_targets c from (length payload)))
    ≡ written_by (range_taken n c from (length payload)) payload c
written_range c from payload n =
    let count = length payload in
    let places = range_targets c from count in
    let memory : List ℕ = settled c.memory (with_bits c.memory payload places) in
    let before = sync_managers_of c.memory in
    let filled : List ℕ = with_filled (written_mailbox c from count) memory in
    let shown : shown_after (is_written c.memory from count) before (sync_managers_of memory) memory c.shown
    ≡ shown_after (touches places) before (sync_managers_of memory) memory c.shown =
    shown_after_same (is_written c.memory from count) (touches places) before (sync_managers_of memory)
    memory c.shown (λ a. sym (touches_range c from count a)) in
    let mark : within from count AL_CONTROL ≡ touches places AL_CONTROL =
    sym (touches_range c from count AL_CONTROL
    ∙ ap (λ b. within from count AL_CONTROL && b) (control_takes c.memory)
    ∙ and_true (within from count AL_CONTROL)) in
    ap (λ (s : List ℕ). record {
      memory = filled;
      shown = s;
      written = c.written || within from count AL_CONTROL;
    }) shown
    ∙ ap (λ (w : Bool). record {
      memory = filled;
      shown = shown_after (touches places) before (sync_managers_of memory) memory c.shown;
      written = c.written || w;
    }) mark

-- ---- a range is served, or not

-- the mailbox that is read out once the data were filled is that of the datagram on arrival
read_out_filled : (places : ℕ → Option ℕ) (c after : ControllerState) (rs filled : List DatagramRecord)
    (k : ℕ) → k < length rs
    → filled ≡ set rs k (filled_with places c (nth rs k))
    → after ≡ record c {
      memory = with_emptied (read_mailbox c (ado (nth filled k)) (length (nth filled k).payload)) c.memory;
    }
    → after ≡ read_by (range_given places c (ado (nth rs k)) (length (nth rs k).payload)) c
read_out_filled places c after rs filled k inside filled_is after_is =
    let d : DatagramRecord = nth rs k in
    let out : ℕ → ℕ → ControllerState = λ from n. record c {
      memory = with_emptied (read_mailbox c from n) c.memory;
    } in
    after_is
    ∙ ap (λ (e : DatagramRecord). out (ado e) (length e.payload))
    (nth-set rs filled k (filled_with places c d) inside filled_is)
    ∙ ap (out (ado d)) (length-with_bits d.payload c.memory places)

-- a read that is served
pub IsServed-range_read : (places : ℕ → Option ℕ) (c after : ControllerState)
    (rs filled raised : List DatagramRecord) (k : ℕ) → k < length rs → Arrives c (nth rs k)
    → serves_range_read c (ado (nth rs k)) (length (nth rs k).payload) ≡ true
    → filled ≡ set rs k (filled_with places c (nth rs k))
    → raised ≡ set filled k (record (nth filled k) { counter = counter_after (nth filled k) 1 })
    → after ≡ record c {
      memory = with_emptied (read_mailbox c (ado (nth filled k)) (length (nth filled k).payload)) c.memory;
    }
    → IsServed (only_reads (range_read true places c (ado (nth rs k)) (length (nth rs k).payload))) k rs c
    raised after
IsServed-range_read places c after rs filled raised k inside fits met filled_is raised_is after_is =
    let half : Half = range_given places c (ado (nth rs k)) (length (nth rs k).payload) in
    subst (λ b. IsServed (only_reads (where_served b half)) k rs c raised after) (sym met)
    (IsServed-read half c after rs filled raised k inside fits filled_is raised_is
    (read_out_filled places c after rs filled k inside filled_is after_is))

-- and one that is not
pub IsServed-unread : (places : ℕ → Option ℕ) (c : ControllerState) (rs : List DatagramRecord) (k : ℕ)
    → Arrives c (nth rs k) → serves_range_read c (ado (nth rs k)) (length (nth rs k).payload) ≡ false
    → IsServed (only_reads (range_read true places c (ado (nth rs k)) (length (nth rs k).payload))) k rs c
    rs c
IsServed-unread places c rs k fits unmet =
    let half : Half = range_given places c (ado (nth rs k)) (length (nth rs k).payload) in
    subst (λ b. IsServed (only_reads (where_served b half)) k rs c rs c) (sym unmet)
    (IsServed-nothing rs k c fits)

-- a write that is served
pub IsServed-range_write : (c after : ControllerState) (rs raised : List DatagramRecord) (k : ℕ)
    → Arrives c (nth rs k) → serves_range_write c (ado (nth rs k)) (length (nth rs k).payload) ≡ true
    → raised ≡ set rs k (record (nth rs k) { counter = counter_after (nth rs k) 1 })
    → after ≡ written_by (range_taken 1 c (ado (nth rs k)) (length (nth rs k).payload)) (nth rs k).payload c
    → IsServed (only_writes (range_write true 1 c (ado (nth rs k)) (length (nth rs k).payload))) k rs c
    raised after
IsServed-range_write c after rs raised k fits met raised_is after_is =
    let half : Half = range_taken 1 c (ado (nth rs k)) (length (nth rs k).payload) in
    subst (λ b. IsServed (only_writes (where_served b half)) k rs c raised after) (sym met)
    (IsServed-write half c after rs raised k fits raised_is after_is)

-- and one that is not
pub IsServed-untaken : (c : ControllerState) (rs : List DatagramRecord) (k : ℕ)
    → Arrives c (nth rs k) → serves_range_write c (ado (nth rs k)) (length (nth rs k).payload) ≡ false
    → IsServed (only_writes (range_write true 1 c (ado (nth rs k)) (length (nth rs k).payload))) k rs c rs c
IsServed-untaken c rs k fits unmet =
    let half : Half = range_taken 1 c (ado (nth rs k)) (length (nth rs k).payload) in
    subst (λ b. IsServed (only_writes (where_served b half)) k rs c rs c) (sym unmet)
    (IsServed-nothing rs k c fits)

-- ---- an exchange whose write is served

-- it reads out no mailbox
read_by_none : (half : Half) (after : ControllerState) → half.mail ≡ None → read_by half after ≡ after
read_by_none half after none =
    ap (λ (o : Option ℕ). record after { memory = with_emptied o after.memory }) none

-- both are served
pub IsServed-exchange : (c after : ControllerState) (rs filled raised : List DatagramRecord) (k : ℕ)
    → k < length rs
    → serves_range_write c (ado (nth rs k)) (length (nth rs k).payload) ≡ true
    → serves_range_read c (ado (nth rs k)) (length (nth rs k).payload) ≡ true
    → filled ≡ set rs k (filled_with (range_sources (ado (nth rs k))) c (nth rs k))
    → raised ≡ set filled k (record (nth filled k) { counter = counter_after (nth filled k) 3 })
    → after ≡ written_by (range_taken 2 c (ado (nth rs k)) (length (nth rs k).payload)) (nth rs k).payload c
    → IsServed (record {
      reading = range_read true (range_sources (ado (nth rs k))) c (ado (nth rs k))
          (length (nth rs k).payload);
      writing = range_taken 2 c (ado (nth rs k)) (length (nth rs k).payload);
    }) k rs c raised after
IsServed-exchange c after rs filled raised k inside writes reads filled_is raised_is after_is =
    let from = ado (nth rs k) in
    let n = length (nth rs k).payload in
    let given : Half = range_given (range_sources from) c from n in
    let taken : Half = range_taken 2 c from n in
    let none : read_mailbox c from n ≡ None = write_empties_none c.memory (sync_managers_of c.memory) from n
    writes in
    subst (λ b. IsServed (record { reading = where_served b given; writing = taken }) k rs c raised after)
    (sym reads)
    (IsServed-both (record { reading = given; writing = taken }) c after rs filled raised k inside filled_is
    raised_is (after_is ∙ sym (read_by_none given (written_by taken (nth rs k).payload c) none)))

-- the write alone is
pub IsServed-taken : (c after : ControllerState) (rs raised : List DatagramRecord) (k : ℕ)
    → Arrives c (nth rs k)
    → serves_range_read c (ado (nth rs k)) (length (nth rs k).payload) ≡ false
    → raised ≡ set rs k (record (nth rs k) { counter = counter_after (nth rs k) 2 })
    → after ≡ written_by (range_taken 2 c (ado (nth rs k)) (length (nth rs k).payload)) (nth rs k).payload c
    → IsServed (record {
      reading = range_read true (range_sources (ado (nth rs k))) c (ado (nth rs k))
          (length (nth rs k).payload);
      writing = range_taken 2 c (ado (nth rs k)) (length (nth rs k).payload);
    }) k rs c raised after
IsServed-taken c after rs raised k fits unread raised_is after_is =
    let from = ado (nth rs k) in
    let n = length (nth rs k).payload in
    let given : Half = range_given (range_sources from) c from n in
    let taken : Half = range_taken 2 c from n in
    subst (λ b. IsServed (record { reading = where_served b given; writing = taken }) k rs c raised after)
    (sym unread) (IsServed-write taken c after rs raised k fits raised_is after_is)
