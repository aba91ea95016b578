-- What applications leave.
use Rattle.std.proofs.Common.{◌≡◌, ◌≢◌, inl, inr, ℕ, ◌+◌, ◌≤◌, ◌<◌, List, [], ◌∷◌, length, Bool, true, false}
use Rattle.std.proofs.Common.{Option, Some, None, refl, ◌∙◌, ap, sym, arith, subst, zero, suc, get_or, map}
use Rattle.std.proofs.lemmas.Bool.{and_parts}
use Rattle.std.proofs.lemmas.Bool.Decides.{eqb_tells, nat_tests}
use Rattle.std.proofs.lemmas.List.{get_or-set_same, length-set}
use Rattle.std.proofs.lemmas.List.Elements.{All-head, All-tail}
use Rattle.std.proofs.lemmas.Option.{slice_get-get_or, slice_get_within}
use Rattle.ec_esc.specs.declared.application.AreaFault.{AreaFault}
use Rattle.std.specs.Prelude.{slice_get, slice_set, slice_index, ◌&&◌, is_none, if◌then◌else◌}
use Rattle.std.specs.List.{All}
use Rattle.ec_app.specs.State.{SlaveState}
use Rattle.ec_areas.specs.Areas.{is_locked}
use Rattle.ec_areas.specs.Records.{sync_manager_at, sync_managers_of, SameRegisters}
use Rattle.ec_areas.proofs.Laws.{fmmus_same, sync_managers_same}
use Rattle.ec_esc.specs.Application.{outputs_of, put_inputs_fault, with_inputs}
use Rattle.ec_esc.specs.State.{ControllerState, IsController, word_at}
use Rattle.ec_esc.proofs.Laws.{inputs_place, length-with_run, get_or-with_run_beside}
use Rattle.ec_regs.specs.declared.registers.TheConstants.{MEMORY_SIZE, PROCESS_MEMORY, STATION_ADDRESS}
use Rattle.ec_regs.specs.declared.sync_man.SyncMan.{SyncMan}
use Rattle.ec_line.specs.Mapping.{without_status, mapping_of}
use Rattle.ec_line.specs.Moving.{HasMoved}
use Rattle.ec_line.proofs.Laws.{moved_by_mapping}
use Rattle.ec_ring.specs.Ring.{RingState}
use Rattle.ec_applications.specs.Acting.{acted, behaved, is_manager, one_acted, placed, put, put_number, put_shown}
use Rattle.ec_applications.specs.Acting.{low_bytes, slave_behaved}
use Rattle.ec_applications.specs.Left.{HasMemory, KeepsAllElse}
use Rattle.ec_app.proofs.Laws.{area_free}
use Rattle.ec_applications.proofs.AreaLemmas.{unlocked_by, inputs_fill}
use Rattle.ec_applications.specs.declared.application.Application.{Application}
use Rattle.ec_applications.specs.declared.application.Behaviour.{Behaviour}
use Rattle.ec_applications.specs.declared.application.Behaviour.TheVariants.{Mirror, Count}

-- ---- a controller

-- what of a controller stays
pub record Stays (c d : ControllerState) : Type 0 where
  pub shown : d.shown ≡ c.shown
  pub written : d.written ≡ c.written
  pub size : length d.memory ≡ length c.memory
  pub registers : (address : ℕ) → address < PROCESS_MEMORY
      → slice_index d.memory address ≡ slice_index c.memory address
  pub outputs : (address : ℕ) → PROCESS_MEMORY ≤ address
      → is_locked (sync_managers_of c.memory) address ≡ false
      → slice_index d.memory address ≡ slice_index c.memory address

same : (c : ControllerState) → Stays c c
same c = record {
  shown = refl;
  written = refl;
  size = refl;
  registers = λ address below. refl;
  outputs = λ address process free. refl;
}

-- inputs that fit
put-fit : (c : ControllerState) (i : ℕ) (bytes : List ℕ) → length c.memory ≡ MEMORY_SIZE → i < 8
    → put_inputs_fault (sync_manager_at c.memory i) bytes ≡ None → Stays c (with_inputs c i bytes)
put-fit c i bytes size number fits =
    let start : ℕ = (sync_manager_at c.memory i).start in
    let place = inputs_place (sync_manager_at c.memory i) bytes fits in
    let within : start + length bytes ≤ length c.memory = rw size place.1 in
    let fill = inputs_fill (sync_manager_at c.memory i) bytes fits in
    record {
      shown = refl;
      written = refl;
      size = length-with_run c.memory bytes start within;
      registers = λ address below. get_or-with_run_beside c.memory bytes start address within
          (inl (omega (arith, below, place.0)));
      outputs = λ address process free.
          area_free c.memory (sync_manager_at c.memory i) address bytes size fill.active fill.kind
          (omega (arith, fill.size)) (unlocked_by c.memory i address number free);
    }

none-of : (o : Option AreaFault) → is_none o ≡ true → o ≡ None
none-of None is = refl
none-of (Some fault) is = absurd cc

put-by : (c : ControllerState) (i : ℕ) (bytes : List ℕ) (fits : Bool) → length c.memory ≡ MEMORY_SIZE → i < 8
    → is_none (put_inputs_fault (sync_manager_at c.memory i) bytes) ≡ fits
    → Stays c (if fits then with_inputs c i bytes else c)
put-by c i bytes true size number is =
    put-fit c i bytes size number (none-of (put_inputs_fault (sync_manager_at c.memory i) bytes) is)
put-by c i bytes false size number is = same c

put-stays : (c : ControllerState) (i : ℕ) (bytes : List ℕ) → length c.memory ≡ MEMORY_SIZE → i < 8
    → Stays c (put c i bytes)
put-stays c i bytes size number =
    put-by c i bytes (is_none (put_inputs_fault (sync_manager_at c.memory i) bytes)) size number refl

shown-stays : (c : ControllerState) (i : ℕ) (seen : Option (List ℕ)) → length c.memory ≡ MEMORY_SIZE → i < 8
    → Stays c (put_shown c i seen)
shown-stays c i None size number = same c
shown-stays c i (Some bytes) size number = put-stays c i bytes size number

either : (b : Bool) (c d : ControllerState) → (b ≡ true → Stays c d) → Stays c (if b then d else c)
either true c d stays = stays refl
either false c d stays = same c

numbered : (i : ℕ) → is_manager i ≡ true → i < 8
numbered i is = grind (arith, nat_tests)

behaved-stays : (times : ℕ) (does : Behaviour) (c : ControllerState) → length c.memory ≡ MEMORY_SIZE
    → Stays c (behaved times does c)
behaved-stays times (Mirror inputs outputs) c size =
    either (is_manager inputs && is_manager outputs) c (put_shown c inputs (outputs_of c outputs))
    (λ both.
    shown-stays c inputs (outputs_of c outputs) size
    (numbered inputs (and_parts (is_manager inputs) (is_manager outputs) both).0))
behaved-stays times (Count inputs) c size =
    either (is_manager inputs) c (put_number c inputs times)
    (λ is. put-stays c inputs (low_bytes (sync_manager_at c.memory inputs).length times) size (numbered inputs is))

-- ---- a slave

slave-stays : (times : ℕ) (does : Behaviour) (s : SlaveState) → HasMemory s
    → KeepsAllElse s (slave_behaved times does s)
slave-stays times does s size =
    let stays = behaved-stays times does s.controller size in record {
      application = refl;
      shown = stays.shown;
      written = stays.written;
      size = stays.size;
      registers = stays.registers;
      outputs = stays.outputs;
    }

keeps-same : (s : SlaveState) → KeepsAllElse s s
keeps-same s = record {
  application = refl;
  shown = refl;
  written = refl;
  size = refl;
  registers = λ address below. refl;
  outputs = λ address process free. refl;
}

-- the sync managers stay
managers-same : (s t : SlaveState) → HasMemory s → KeepsAllElse s t
    → sync_managers_of t.controller.memory ≡ sync_managers_of s.controller.memory
managers-same s t size keeps =
    sync_managers_same s.controller.memory t.controller.memory
    (record { size = keeps.size; room = omega (arith, size); bytes = keeps.registers })

keeps-both : (s t u : SlaveState) → HasMemory s → KeepsAllElse s t → KeepsAllElse t u → KeepsAllElse s u
keeps-both s t u memory first second = record {
  application = second.application ∙ first.application;
  shown = second.shown ∙ first.shown;
  written = second.written ∙ first.written;
  size = second.size ∙ first.size;
  registers = λ address below. second.registers address below ∙ first.registers address below;
  outputs = λ address process free.
      second.outputs address process
      (ap (λ (ms : List SyncMan). is_locked ms address) (managers-same s t memory first) ∙ free)
      ∙ first.outputs address process free;
}

-- ---- a line

pub get-same : (xs : List SlaveState) (k : ℕ) (x : SlaveState) → k < length xs
    → slice_get (slice_set xs k x) k ≡ Some x
get-same xs k x inside =
    let within : k < length (slice_set xs k x) = rw (length-set xs k x) inside in
    slice_get-get_or (slice_set xs k x) k x within ∙ ap Some (get_or-set_same xs k x x inside)

pub get-other : (xs : List SlaveState) (i k : ℕ) (x : SlaveState) → k ≢ i
    → slice_get (slice_set xs i x) k ≡ slice_get xs k
get-other [] i k x apart = refl
get-other (y ∷ ys) zero zero x apart = absurd (apart refl)
get-other (y ∷ ys) zero (suc k) x apart = refl
get-other (y ∷ ys) (suc i) zero x apart = refl
get-other (y ∷ ys) (suc i) (suc k) x apart = get-other ys i k x (λ e. apart (ap (λ (n : ℕ). suc n) e))

-- the slave at a place, once the application of one has acted
placed-stays : (times : ℕ) (one : Application) (r : RingState) (found : Option SlaveState) (k : ℕ)
    (before after : SlaveState) → slice_get r.slaves one.place ≡ found → slice_get r.slaves k ≡ Some before
    → slice_get (placed times one r found).slaves k ≡ Some after → HasMemory before
    → KeepsAllElse before after
placed-stays times one r None k before after at there later size =
    let is : before ≡ after = cc in subst (λ (s : SlaveState). KeepsAllElse before s) is (keeps-same before)
placed-stays times one r (Some s) k before after at there later size =
    elim (eqb_tells k one.place) [
      | inl h ↦
          let place : k ≡ one.place = h.1 in
          let new : SlaveState = slave_behaved times one.behaviour s in
          let here : slice_get r.slaves one.place ≡ Some before = rw (← place) there in
          let is : s ≡ before = cc in
          let inside : one.place < length r.slaves = slice_get_within r.slaves one.place s at in
          let got : slice_get (slice_set r.slaves one.place new) one.place ≡ Some new =
          get-same r.slaves one.place new inside in
          let late : slice_get (slice_set r.slaves one.place new) one.place ≡ Some after =
          subst (λ (n : ℕ). slice_get (slice_set r.slaves one.place new) n ≡ Some after) place later in
          let same_new : new ≡ after = cc in
          subst (λ (t : SlaveState). KeepsAllElse before t) same_new
          (subst (λ (t : SlaveState). KeepsAllElse t new) is
          (slave-stays times one.behaviour s (subst HasMemory (sym is) size)))
      | inr h ↦
          let new : SlaveState = slave_behaved times one.behaviour s in
          let got = get-other r.slaves one.place k new h.1 in
          let is : before ≡ after = cc in
          subst (λ (t : SlaveState). KeepsAllElse before t) is (keeps-same before)
    ]

-- how many slaves there are
placed-size : (times : ℕ) (one : Application) (r : RingState) (found : Option SlaveState)
    → length (placed times one r found).slaves ≡ length r.slaves
placed-size times one r None = refl
placed-size times one r (Some s) = length-set r.slaves one.place (slave_behaved times one.behaviour s)

placed-links : (times : ℕ) (one : Application) (r : RingState) (found : Option SlaveState)
    → (placed times one r found).links ≡ r.links
placed-links times one r None = refl
placed-links times one r (Some s) = refl

placed-beside : (times : ℕ) (one : Application) (r : RingState) (found : Option SlaveState) (k : ℕ)
    → one.place ≢ k → slice_get (placed times one r found).slaves k ≡ slice_get r.slaves k
placed-beside times one r None k apart = refl
placed-beside times one r (Some s) k apart =
    get-other r.slaves one.place k (slave_behaved times one.behaviour s) (λ e. apart (sym e))

-- ---- all applications

pub acted-size : (times : ℕ) (all : List Application) (r : RingState)
    → length (acted times all r).slaves ≡ length r.slaves
acted-size times [] r = refl
acted-size times (one ∷ more) r =
    acted-size times more (one_acted times one r) ∙ placed-size times one r (slice_get r.slaves one.place)

pub acted-links : (times : ℕ) (all : List Application) (r : RingState) → (acted times all r).links ≡ r.links
acted-links times [] r = refl
acted-links times (one ∷ more) r =
    acted-links times more (one_acted times one r) ∙ placed-links times one r (slice_get r.slaves one.place)

pub acted-beside : (times : ℕ) (all : List Application) (r : RingState) (k : ℕ)
    → All (λ (one : Application). one.place ≢ k) all
    → slice_get (acted times all r).slaves k ≡ slice_get r.slaves k
acted-beside times [] r k apart = refl
acted-beside times (one ∷ more) r k apart =
    acted-beside times more (one_acted times one r) k
    (All-tail (λ (a : Application). a.place ≢ k) one more apart)
    ∙ placed-beside times one r (slice_get r.slaves one.place) k
    (All-head (λ (a : Application). a.place ≢ k) one more apart)

pub acted-stays : (times : ℕ) (all : List Application) (r : RingState) (k : ℕ) (before after : SlaveState)
    → slice_get r.slaves k ≡ Some before → slice_get (acted times all r).slaves k ≡ Some after
    → HasMemory before → KeepsAllElse before after
acted-stays times [] r k before after there later size =
    let is : before ≡ after = cc in subst (λ (s : SlaveState). KeepsAllElse before s) is (keeps-same before)
acted-stays times (one ∷ more) r k before after there later size =
    let next : RingState = one_acted times one r in
    let inside : k < length next.slaves =
    rw (placed-size times one r (slice_get r.slaves one.place)) (slice_get_within r.slaves k before there)
    in
    let mid : SlaveState = get_or next.slaves k before in
    let at_mid : slice_get next.slaves k ≡ Some mid = slice_get-get_or next.slaves k before inside in
    let first = placed-stays times one r (slice_get r.slaves one.place) k before mid refl there at_mid size in
    keeps-both before mid after size first
    (acted-stays times more next k mid after at_mid later (first.size ∙ size))

-- ---- moves

-- what applications leave of a slave makes what they do a move
pub keeps_moved : (s t : SlaveState) → HasMemory s → IsController t.controller → KeepsAllElse s t
    → HasMoved s.controller t.controller
unfolding mapping_of
keeps_moved s t size is keeps =
    let c : ControllerState = s.controller in
    let d : ControllerState = t.controller in
    let registers : SameRegisters c.memory d.memory =
    record { size = keeps.size; room = omega (arith, size); bytes = keeps.registers } in
    let low = keeps.registers 16 (omega arith) in
    let high = keeps.registers 17 (omega arith) in
    let station : word_at d.memory STATION_ADDRESS ≡ word_at c.memory STATION_ADDRESS = omega (arith, low, high) in
    let mapping : mapping_of d ≡ mapping_of c =
    (λ i. record {
      station = station i;
      fmmus = fmmus_same c.memory d.memory registers i;
      sync_managers = map without_status (sync_managers_same c.memory d.memory registers i);
    }) in
    moved_by_mapping c d mapping is keeps.shown keeps.outputs

pub acted_moved : (times : ℕ) (all : List Application) (r : RingState) (k : ℕ) (before after : SlaveState)
    → slice_get r.slaves k ≡ Some before → slice_get (acted times all r).slaves k ≡ Some after
    → IsController before.controller → IsController after.controller
    → HasMoved before.controller after.controller
acted_moved times all r k before after there later was is =
    keeps_moved before after was.memory_size is
    (acted-stays times all r k before after there later was.memory_size)
