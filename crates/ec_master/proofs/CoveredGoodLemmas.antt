-- On a covered line a good cycle shows each application what the master sent.
use Rattle.std.proofs.Common.{◌≡◌, ⊎_elim, ℕ, suc, ◌+◌, ◌≤◌, ◌<◌, ◌/◌, ◌%◌, true, false}
use Rattle.std.proofs.Common.{Some, List, [], ◌∷◌, length, get_or, sym, subst, ap, ◌∙◌, Ok}
use Rattle.std.specs.Prelude.{Result}
use Rattle.std.specs.Int.{bit_at}
use Rattle.std.specs.List.{AllByRecursion}
use Rattle.std.specs.Option.{option_map}
use Rattle.std.proofs.lemmas.Bool.{cases_Bool, both_ways, or_parts}
use Rattle.ec_regs.specs.declared.registers.TheConstants.{PROCESS_MEMORY, PROCESS_MEMORY_SIZE}
use Rattle.ec_regs.specs.declared.sync_man.SyncMan.{SyncMan}
use Rattle.ec_regs.proofs.Laws.{each-map}
use Rattle.ec_app.specs.State.{SlaveState}
use Rattle.ec_esc.specs.State.{ControllerState}
use Rattle.ec_line.specs.After.{Entry}
use Rattle.ec_line.specs.Fit.{Writes as WritesPair}
use Rattle.ec_line.specs.Shown.{writes_byte, shows_byte, some_shows, ShowsLast}
use Rattle.ec_check.specs.Line.{controllers}
use Rattle.ec_map.specs.Covered.{IsCovered}
use Rattle.ec_map.specs.Item.{ItemRecord, IsItem}
use Rattle.ec_map.specs.NotShown.{AreShown}
use Rattle.ec_ring.specs.Ring.{RingState, line_of}
use Rattle.ec_ring.specs.declared.links.TheConstants.{MAX_SLAVES}
use Rattle.ec_ring.specs.declared.weather.Weather.{Weather}
use Rattle.ec_master.specs.Certificate.{verdict_under, verdict_by_counts, shown_at}
use Rattle.ec_master.specs.Covered.{NoWriteTo, last_sent, writes_at, IsOutputByte, CompletesWhere}
use Rattle.ec_master.specs.Covered.{InputsStand, OutputsAreShown}
use Rattle.ec_master.specs.Cut.{concat, entries_from, frames_of}
use Rattle.ec_master.specs.Suffice.{SaysOf}
use Rattle.ec_master.specs.Travelled.{answers_under, ring_under, trips_under}
use Rattle.ec_master.specs.Unordered.{ByStation, by_station, slave_after, slaves_after, slaves_after_all}
use Rattle.ec_master.specs.Unordered.{AreAnswers, IsCycle, IsAccepted}
use Rattle.ec_master.specs.Work.{with_answers}
use Rattle.ec_master.specs.declared.cycle.CycleFault.{CycleFault}
use Rattle.ec_master.specs.declared.verdict.Verdict.{Verdict}
use Rattle.ec_master.specs.declared.verdict.Verdict.TheVariants.{Good}
use Rattle.ec_master.proofs.CertificateLemmas.{good_answers, good_shows}
use Rattle.ec_master.proofs.CoveredLemmas.{shows_at, shows_completed, byte_place, slave_of, inputs_stand}
use Rattle.ec_master.proofs.CoveredLemmas.{outputs_stand, outputs_are_shown}
use Rattle.ec_master.proofs.CoveredLineLemmas.{covered_writes}
use Rattle.ec_master.proofs.ShownLineLemmas.{ArePlaced, covered_outputs}
use Rattle.ec_master.proofs.SlaveLemmas.{concat-cut, each-concat}
use Rattle.ec_master.proofs.VerdictLemmas.{verdict-counts}

-- ---- in each frame

-- an entry that writes the byte shows it
abbrev ShowsWhereWrites : ControllerState → ℕ → Entry → Type 0
ShowsWhereWrites x a e = writes_byte x a e ≡ true → shows_byte x a e ≡ true

-- what nobody shows nobody writes
unwritten : (x : ControllerState) (a : ℕ) (es : List Entry) → AllByRecursion (ShowsWhereWrites x a) es
    → some_shows x a es ≡ false → AllByRecursion (λ f. writes_byte x a f ≡ false) es
unwritten x a [] all none = tt
unwritten x a (f ∷ fs) all none =
    let parts = or_parts (shows_byte x a f) (some_shows x a fs) none in (
      ⊎_elim
          (λ (writes : writes_byte x a f ≡ true).
          absurd (both_ways (shows_byte x a f) parts.0 (all.0 writes)))
          (λ (idle : writes_byte x a f ≡ false). idle)
          (cases_Bool (writes_byte x a f)),
      unwritten x a fs all.1 parts.1,
    )

shows_last : (x : ControllerState) (a : ℕ) (es : List Entry) → AllByRecursion (ShowsWhereWrites x a) es
    → ShowsLast x a es
shows_last x a [] all = tt
shows_last x a (e ∷ es) all = (λ shows none. unwritten x a es all.1 none, shows_last x a es all.1)

entries_show : (x : ControllerState) (number a : ℕ) (s : SyncMan) (k : ℕ) (items : List ItemRecord)
    → IsOutputByte x number a s → AllByRecursion (CompletesWhere x a s) items
    → AllByRecursion (ShowsWhereWrites x a) (entries_from k items)
unfolding entries_from writes_at shows_at
entries_show x number a s k [] byte completes = tt
entries_show x number a s k (r ∷ rs) byte completes =
    (entry_shows r completes.0, entries_show x number a s (suc k) rs byte completes.1)
  where
    entry_shows : (t : ItemRecord) → CompletesWhere x a s t → (writes_at x a t ≡ true → shows_at x a t ≡ true)
    entry_shows t completes writes = shows_completed x number a s t byte (completes writes)

frames_show : (x : ControllerState) (number a : ℕ) (s : SyncMan) (items : List ItemRecord)
    → IsOutputByte x number a s → AllByRecursion (CompletesWhere x a s) items
    → AllByRecursion (ShowsLast x a) (frames_of items)
frames_show x number a s items byte completes =
    let all : AllByRecursion (ShowsWhereWrites x a) (concat (frames_of items)) =
    subst (λ (l : List Entry). AllByRecursion (ShowsWhereWrites x a) l) (sym (concat-cut (entries_from 0 items)))
    (entries_show x number a s 0 items byte completes) in
    each-map (λ f. AllByRecursion (ShowsWhereWrites x a) f) (ShowsLast x a) (frames_of items)
    (λ f shows. shows_last x a f shows) (each-concat (ShowsWhereWrites x a) (frames_of items) all)

-- ---- the slave afterwards

left_there : (items : List ItemRecord) (now : ByStation) (n : ℕ) (t : SlaveState) → now n ≡ Some t
    → (after_all : SlaveState) × (slaves_after_all items now n ≡ Some after_all)
left_there [] now n t is = (t, is)
left_there (r ∷ rs) now n t is =
    left_there rs (slaves_after r now) n (slave_after r t) (ap (option_map (slave_after r)) is)

pub answered_inputs : (slaves : List SlaveState) (items got : List ItemRecord) → IsAccepted slaves items
    → AllByRecursion IsItem items → AreAnswers (by_station slaves) items got → InputsStand slaves items got
answered_inputs slaves items got accepted are answers n s found =
    inputs_stand slaves items got n s accepted are answers found

pub good_inputs : (ws : List Weather) (r : RingState) (items : List ItemRecord)
    → length r.slaves ≤ MAX_SLAVES → IsAccepted r.slaves items → AllByRecursion IsItem items
    → verdict_under ws r items ≡ Good
    → InputsStand r.slaves items (with_answers items (answers_under ws r items))
good_inputs ws r items room accepted are good =
    answered_inputs r.slaves items (with_answers items (answers_under ws r items)) accepted are
    (good_answers ws r items room accepted are good)

-- where a mapped output lies, what is sent for it, and what is shown of it behind all items
record Mapped (slaves : List SlaveState) (items : List ItemRecord) (n l p k : ℕ) (s : SlaveState) : Type 0 where
  number : ℕ
  area : SyncMan
  byte : IsOutputByte s.controller number (PROCESS_MEMORY + k) area
  completes : AllByRecursion (CompletesWhere s.controller (PROCESS_MEMORY + k) area) items
  inside : k < PROCESS_MEMORY_SIZE
  value : ℕ
  sent : last_sent items l ≡ Some value
  shown : option_map (λ (byte : ℕ). bit_at byte (p % 8))
      (shown_at (slaves_after_all items (by_station slaves)) k n) ≡ Some value

mapped : ArePlaced → (slaves : List SlaveState) (items : List ItemRecord) (n l p k : ℕ) (s : SlaveState)
    → IsAccepted slaves items → AllByRecursion IsItem items → IsCovered (controllers slaves) items
    → AreShown (controllers slaves) items → NoWriteTo n items → by_station slaves n ≡ Some s
    → WritesPair s.controller l p → p / 8 ≡ PROCESS_MEMORY + k → Mapped slaves items n l p k s
mapped placed slaves items n l p k s accepted are covered shown elsewhere found pair at =
    let sent = covered_writes slaves items n l p s covered found pair in
    let whole = covered_outputs placed slaves items n l p s accepted are shown found pair elsewhere in
    let is_of = slave_of slaves items n s accepted are found in
    let byte : IsOutputByte s.controller whole.number (PROCESS_MEMORY + k) whole.area =
    subst (λ (a : ℕ). IsOutputByte s.controller whole.number a whole.area) at whole.byte in
    let completes : AllByRecursion (CompletesWhere s.controller (PROCESS_MEMORY + k) whole.area) items =
    subst (λ (a : ℕ). AllByRecursion (CompletesWhere s.controller a whole.area) items) at whole.completes in
    let left = left_there items (by_station slaves) n s found in
    let stands_now = outputs_stand slaves items n l p sent.0 s left.0 accepted are found left.1 pair elsewhere
    sent.1 in
    let shows = outputs_are_shown slaves items n whole.number k whole.area s left.0 accepted are found left.1
    byte completes whole.completed in
    let slave_shows : shown_at (slaves_after_all items (by_station slaves)) k n
    ≡ Some (get_or left.0.controller.shown k 0) =
    ap (option_map (λ (t : SlaveState). get_or t.controller.shown k 0)) left.1 in
    record {
      number = whole.number;
      area = whole.area;
      byte = byte;
      completes = completes;
      inside = byte_place s.controller whole.number k whole.area is_of.fit.controller byte;
      value = sent.0;
      sent = sent.1;
      shown = ap (option_map (λ (b : ℕ). bit_at b (p % 8))) slave_shows
          ∙ ap (λ (b : ℕ). Some (bit_at b (p % 8)))
          (shows ∙ ap (λ (a : ℕ). get_or left.0.controller.memory a 0) (sym at))
          ∙ ap Some stands_now;
    }

-- slaves that show what they show behind all items show what was sent
shows_alike : (slaves : List SlaveState) (items : List ItemRecord) (later : List SlaveState) (n l p k : ℕ)
    (s : SlaveState) → (m : Mapped slaves items n l p k s)
    → shown_at (by_station later) k n ≡ shown_at (slaves_after_all items (by_station slaves)) k n
    → (v : ℕ) × (last_sent items l ≡ Some v)
    × (option_map (λ (byte : ℕ). bit_at byte (p % 8)) (shown_at (by_station later) k n) ≡ Some v)
shows_alike slaves items later n l p k s m alike =
    (m.value, m.sent, ap (option_map (λ (b : ℕ). bit_at b (p % 8))) alike ∙ m.shown)

pub good_outputs : ArePlaced → (ws : List Weather) (r : RingState) (items : List ItemRecord)
    → length r.slaves ≤ MAX_SLAVES → IsAccepted r.slaves items → AllByRecursion IsItem items
    → IsCovered (controllers r.slaves) items → AreShown (controllers r.slaves) items
    → verdict_under ws r items ≡ Good → OutputsAreShown r.slaves items (ring_under ws r items).slaves
good_outputs placed ws r items room accepted are covered shown good n l p k s elsewhere found pair at =
    let m = mapped placed r.slaves items n l p k s accepted are covered shown elsewhere found pair at in
    shows_alike r.slaves items (ring_under ws r items).slaves n l p k s m
    (good_shows ws r items n k s room accepted are good m.inside found
    (frames_show s.controller m.number (PROCESS_MEMORY + k) m.area items m.byte m.completes))

-- the unordered cycle shows what was sent
pub cycle_outputs : ArePlaced → (slaves : List SlaveState) (items got : List ItemRecord)
    (later : List SlaveState)
    → IsAccepted slaves items → AllByRecursion IsItem items → IsCovered (controllers slaves) items
    → AreShown (controllers slaves) items → IsCycle (by_station slaves) items got (by_station later)
    → OutputsAreShown slaves items later
cycle_outputs placed slaves items got later accepted are covered shown cycle n l p k s elsewhere found pair at =
    let m = mapped placed slaves items n l p k s accepted are covered shown elsewhere found pair at in
    shows_alike slaves items later n l p k s m
    (ap (option_map (λ (t : SlaveState). get_or t.controller.shown k 0)) (cycle.slaves n))

-- what is said of a ring by what came over ports
pub over_ports : ArePlaced → (ws : List Weather) (r : RingState) (items later : List ItemRecord)
    (result : Result Verdict CycleFault) → length r.slaves ≤ MAX_SLAVES → IsAccepted r.slaves items
    → AllByRecursion IsItem items → IsCovered (controllers r.slaves) items
    → AreShown (controllers r.slaves) items → SaysOf ws r items result later → result ≡ Ok Good
    → InputsStand r.slaves items later × OutputsAreShown r.slaves items (ring_under ws r items).slaves
over_ports placed ws r items later result room accepted are covered shown says good =
    let v : Verdict = verdict_by_counts (trips_under ws r items) items (line_of r) in
    let is : v ≡ Good = let e : Ok v ≡ Ok Good = sym says.counted ∙ good in cc in (
      answered_inputs r.slaves items later accepted are (says.good good),
      good_outputs placed ws r items room accepted are covered shown
          (verdict-counts ws r items room accepted are ∙ is),
    )
