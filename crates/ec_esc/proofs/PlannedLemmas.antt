-- Records that are kept decoded: which of them stay when bytes of a memory change.
use Rattle.std.proofs.Common.{◌≡◌, ℕ, ◌+◌, ◌*◌, ◌/◌, ◌%◌, ◌<◌, ◌≤◌, false, ◌&&◌, ltb, List, []}
use Rattle.std.proofs.Common.{◌∷◌, length, Bool, Option, ◌⊎◌, inl, inr}
use Rattle.std.proofs.Common.{get_or, set, take, drop, sym, ◌∙◌, ap, refl, arith, ⊎_elim, below_more}
use Rattle.std.proofs.Common.{get_or-set_same, get_or-set_other}
use Rattle.std.proofs.Math.Bool.{and-false}
use Rattle.std.specs.Prelude.{nat_le}
use Rattle.std.proofs.lemmas.Bool.{and_cases, le-ltb, lt-leb, ltb-false}
use Rattle.std.proofs.lemmas.List.{ext_get_or, length-take-le, length-drop, take_all}
use Rattle.std.specs.Option.{is_some}
use Rattle.ec_regs.specs.declared.registers.TheConstants.{FMMU_COUNT, SYNC_MANAGER_COUNT}
use Rattle.ec_regs.specs.Al.{state_of, status_byte}
use Rattle.ec_regs.specs.Bits.{AreBytes, with_bits}
use Rattle.ec_regs.specs.Fmmu.{fmmu_of}
use Rattle.ec_regs.specs.SyncMan.{sync_man_of}
use Rattle.ec_regs.specs.declared.al.AlStatus.{AlStatus}
use Rattle.ec_regs.specs.declared.fmmu.Fmmu.{Fmmu}
use Rattle.ec_regs.specs.declared.registers.TheConstants.{AL_STATUS, MEMORY_SIZE}
use Rattle.ec_regs.specs.declared.sync_man.SyncMan.{SyncMan}
use Rattle.ec_regs.proofs.Laws.{length-with_bits, state_of-status_byte, get_or-run}
use Rattle.ec_regs.proofs.Laws.{get_or-with_bits_kept}
use Rattle.ec_areas.specs.Extent.{mapped_count}
use Rattle.ec_areas.specs.Logical.{names, read_map, reads_some, write_map, writes_some}
use Rattle.ec_areas.specs.Ranges.{takes_writes}
use Rattle.ec_areas.specs.Records.{fmmu_at, fmmus_of, sync_manager_at, sync_managers_of}
use Rattle.ec_areas.specs.Records.{SameRegisters}
use Rattle.ec_areas.proofs.Laws.{get_or-sync_managers_of, write_map_register, get_or-fmmus_of}
use Rattle.ec_areas.proofs.Laws.{length-fmmus_of, length-sync_managers_of}
use Rattle.ec_areas.proofs.Laws.{read_map_mapped, reads_some_mapped, write_map_mapped, writes_some_mapped}
use Rattle.ec_areas.proofs.Laws.{written_byte_mapped}
use Rattle.ec_regs.specs.AddressRange.{within}
use Rattle.ec_esc.specs.Pass.{is_written, written_places}
use Rattle.ec_esc.specs.Reached.{AreUsed}
use Rattle.ec_esc.specs.Renewal.{ChangesWithin}
use Rattle.ec_esc.specs.State.{NamesState, with_run}
use Rattle.ec_esc.proofs.ApplicationLemmas.{length-with_run, get_or-with_run_before, get_or-with_run_behind}
use Rattle.ec_esc.proofs.ApplicationLemmas.{get_or-with_run_inside}

-- ---- a write through FMMUs

-- it reaches no register
pub registers_stay : (memory payload : List ℕ) (managers : List SyncMan) (fmmus : List Fmmu) (from n : ℕ)
    → length memory ≡ MEMORY_SIZE → AreBytes memory
    → SameRegisters memory (with_bits memory payload (write_map managers fmmus from n))
registers_stay memory payload managers fmmus from n size are = record {
  size = length-with_bits memory payload (write_map managers fmmus from n);
  room = omega arith;
  bytes = λ a below.
      get_or-with_bits_kept memory payload (write_map managers fmmus from n) a are
      (λ b bit.
      let byte : (8 * a + b) / 8 < 4096 = omega arith in write_map_register managers fmmus from n
      (8 * a + b) byte);
}

-- ---- AL status

-- it names a state where its byte is that of a memory in which it does
pub status_stays : (before after : List ℕ) → get_or after AL_STATUS 0 ≡ get_or before AL_STATUS 0
    → NamesState before → NamesState after
status_stays before after same named = ap (λ (byte : ℕ). is_some (state_of (byte % 16))) same ∙ named

-- it names the state of the status that was set
pub status_names : (memory : List ℕ) (status : AlStatus) → length memory ≡ MEMORY_SIZE
    → NamesState (with_run memory AL_STATUS (status_byte status ∷ 0 ∷ []))
status_names memory status size =
    ap (λ (byte : ℕ). is_some (state_of (byte % 16)))
    (get_or-with_run_inside memory (status_byte status ∷ 0 ∷ []) AL_STATUS 0 (omega arith) (omega arith))
    ∙ ap is_some (state_of-status_byte status)

-- it takes no write
pub status_takes_none : (memory : List ℕ) → takes_writes memory AL_STATUS ≡ false
unfolding takes_writes
status_takes_none memory = refl

-- ---- records outside a range that was written

-- a run of bytes that do not change
run_stays : (before after : List ℕ) (from n at size : ℕ) → ChangesWithin from n before after
    → at + size ≤ length before → (ltb at (from + n) && ltb from (at + size)) ≡ false
    → take size (drop at after) ≡ take size (drop at before)
run_stays before after from n at size changes inside apart =
    let length_is = changes.size in
    let cut : (m : List ℕ) → at + size ≤ length m → length (take size (drop at m)) ≡ size =
    λ m room. length-take-le size (drop at m) (omega (arith, length-drop at m)) in
    let old_size : length (take size (drop at before)) ≡ size = cut before inside in
    let new_size : length (take size (drop at after)) ≡ size = cut after (omega arith) in
    ext_get_or 0 (take size (drop at after)) (take size (drop at before)) (new_size ∙ sym old_size)
    (λ k within.
    let below : k < size = omega arith in
    get_or-run after at size k below
    ∙ ⊎_elim
    (λ (behind : ltb at (from + n) ≡ false).
    let reaches : from + n ≤ at = ltb-false at (from + n) behind in changes.behind (at + k) (omega arith))
    (λ (front : ltb from (at + size) ≡ false).
    let begins : at + size ≤ from = ltb-false from (at + size) front in changes.front (at + k) (omega arith))
    (and_cases (ltb at (from + n)) (ltb from (at + size)) apart)
    ∙ sym (get_or-run before at size k below))

-- so an FMMU stays of whose record no byte changes
pub fmmu_stays : (before after : List ℕ) (from n number : ℕ) → ChangesWithin from n before after
    → length before ≡ MEMORY_SIZE
    → number < FMMU_COUNT → (ltb (1536 + 16 * number) (from + n) && ltb from (1536 + 16 * number + 16)) ≡ false
    → fmmu_at after number ≡ fmmu_at before number
unfolding fmmu_at
fmmu_stays before after from n number changes size below apart =
    ap fmmu_of (run_stays before after from n (1536 + 16 * number) 16 changes (omega arith) apart)

-- and a sync manager
pub manager_stays : (before after : List ℕ) (from n number : ℕ) → ChangesWithin from n before after
    → length before ≡ MEMORY_SIZE
    → number < SYNC_MANAGER_COUNT → (ltb (2048 + 8 * number) (from + n) && ltb from (2048 + 8 * number + 8)) ≡ false
    → sync_manager_at after number ≡ sync_manager_at before number
unfolding sync_manager_at
manager_stays before after from n number changes size below apart =
    ap sync_man_of (run_stays before after from n (2048 + 8 * number) 8 changes (omega arith) apart)

-- a range that meets no byte of some records meets none of one of them
apart_within : (from n at size all : ℕ) → at + size ≤ all → (base : ℕ) → base ≤ at
    → (ltb base (from + n) && ltb from all) ≡ false → (ltb at (from + n) && ltb from (at + size)) ≡ false
apart_within from n at size all ends base begins apart =
    ⊎_elim
    (λ (behind : ltb base (from + n) ≡ false).
    let reaches : from + n ≤ base = ltb-false base (from + n) behind in
    rw (le-ltb at (from + n) (omega arith)) refl)
    (λ (front : ltb from all ≡ false).
    let starts : all ≤ from = ltb-false from all front in
    rw (le-ltb from (at + size) (omega arith)) (and-false (ltb at (from + n))))
    (and_cases (ltb base (from + n)) (ltb from all) apart)

-- ---- records are decoded anew one after the other

-- the first n of them are those that stand in the memory now, and the others wait
pub record RenewedTo {T : Type 0} (n : ℕ) (old new : List T) (now : ℕ → T) : Type 0 where
  pub done : (d : T) (j : ℕ) → j < n → get_or new j d ≡ now j
  pub waiting : (d : T) (j : ℕ) → n ≤ j → get_or new j d ≡ get_or old j d

-- none is yet
pub renewed_none : {T : Type 0} (old : List T) (now : ℕ → T) → RenewedTo 0 old old now
renewed_none old now = record { done = λ d j below. absurd (omega arith); waiting = λ d j behind. refl }

-- one more that is decoded
pub renewed_more : {T : Type 0} (n : ℕ) (old new : List T) (now : ℕ → T) → RenewedTo n old new now
    → n < length new
    → RenewedTo (n + 1) old (set new n (now n)) now
renewed_more {T} n old new now so_far inside = record {
  done = λ d.
      below_more (λ (j : ℕ). get_or (set new n (now n)) j d ≡ now j) n
      (λ j below. get_or-set_other new n j (now n) d (omega arith) ∙ so_far.done d j below)
      (get_or-set_same new n (now n) d inside);
  waiting = λ d j behind. get_or-set_other new n j (now n) d (omega arith) ∙ so_far.waiting d j (omega arith);
}

-- one more that stays
pub renewed_kept : {T : Type 0} (n : ℕ) (old new : List T) (now : ℕ → T) → RenewedTo n old new now
    → ((d : T) → get_or old n d ≡ now n) → RenewedTo (n + 1) old new now
renewed_kept {T} n old new now so_far same = record {
  done = λ d.
      below_more (λ (j : ℕ). get_or new j d ≡ now j) n (so_far.done d) (so_far.waiting d n (omega arith)
      ∙ same d);
  waiting = λ d j behind. so_far.waiting d j (omega arith);
}

-- ---- all eight of them

-- FMMUs of which all are decoded anew are those of the memory
pub fmmus_renewed : (old new : List Fmmu) (memory : List ℕ) → RenewedTo FMMU_COUNT old new (fmmu_at memory)
    → length new ≡ FMMU_COUNT
    → new ≡ fmmus_of memory
fmmus_renewed old new memory all size =
    let d : Fmmu = fmmu_at memory 0 in
    ext_get_or d new (fmmus_of memory) (size ∙ sym (length-fmmus_of memory))
    (λ j inside.
    let below : j < FMMU_COUNT = omega arith in all.done d j below ∙ sym (get_or-fmmus_of memory d j below))

-- and so are sync managers
pub managers_renewed : (old new : List SyncMan) (memory : List ℕ)
    → RenewedTo SYNC_MANAGER_COUNT old new (sync_manager_at memory) → length new ≡ SYNC_MANAGER_COUNT
    → new ≡ sync_managers_of memory
managers_renewed old new memory all size =
    let d : SyncMan = sync_manager_at memory 0 in
    ext_get_or d new (sync_managers_of memory) (size ∙ sym (length-sync_managers_of memory))
    (λ j inside.
    let below : j < SYNC_MANAGER_COUNT = omega arith in all.done d j below ∙ sym (get_or-sync_managers_of memory d j below))

-- all FMMUs stay where a range meets none of their bytes
pub fmmus_stay : (before after : List ℕ) (from n : ℕ) → ChangesWithin from n before after
    → length before ≡ MEMORY_SIZE
    → (ltb 1536 (from + n) && ltb from 1664) ≡ false → fmmus_of before ≡ fmmus_of after
fmmus_stay before after from n changes size apart =
    fmmus_renewed (fmmus_of before) (fmmus_of before) after
    (record {
      done = λ d j below.
          get_or-fmmus_of before d j below
          ∙ sym (fmmu_stays before after from n j changes size below (apart_within from n
          (1536 + 16 * j) 16 1664 (omega arith) 1536 (omega arith) apart));
      waiting = λ d j behind. refl;
    })
    (length-fmmus_of before)

-- and so do all sync managers
pub managers_stay : (before after : List ℕ) (from n : ℕ) → ChangesWithin from n before after
    → length before ≡ MEMORY_SIZE
    → (ltb 2048 (from + n) && ltb from 2112) ≡ false → sync_managers_of before ≡ sync_managers_of after
managers_stay before after from n changes size apart =
    managers_renewed (sync_managers_of before) (sync_managers_of before) after
    (record {
      done = λ d j below.
          get_or-sync_managers_of before d j below
          ∙ sym (manager_stays before after from n j changes size below (apart_within from n
          (2048 + 8 * j) 8 2112 (omega arith) 2048 (omega arith) apart));
      waiting = λ d j behind. refl;
    })
    (length-sync_managers_of before)

-- ---- what changes within a range

-- a run of bytes
pub run_changes : (memory after bytes : List ℕ) (address : ℕ) → address + length bytes ≤ length memory
    → after ≡ with_run memory address bytes → ChangesWithin address (length bytes) memory after
run_changes memory after bytes address inside after_is =
    rw after_is record {
      size = length-with_run memory bytes address inside;
      front = λ a before. get_or-with_run_before memory bytes address a before (omega arith);
      behind = λ a reaches. get_or-with_run_behind memory bytes address a reaches inside;
    }

-- a byte of a run that takes no write is what it was
written_stays : (memory payload : List ℕ) (from n a : ℕ) → AreBytes memory → is_written memory from n a ≡ false
    → get_or (with_bits memory payload (written_places memory from n)) a 0 ≡ get_or memory a 0
written_stays memory payload from n a are apart =
    get_or-with_bits_kept memory payload (written_places memory from n) a are
    (λ b below.
    let byte : (8 * a + b) / 8 ≡ a = omega arith in
    rw byte (rw apart refl))

-- a run that is written as far as its bytes take writes
pub written_changes : (memory after payload : List ℕ) (from n : ℕ) → AreBytes memory
    → after ≡ with_bits memory payload (written_places memory from n) → ChangesWithin from n memory after
written_changes memory after payload from n are after_is =
    rw after_is record {
      size = length-with_bits memory payload (written_places memory from n);
      front = λ a before.
          written_stays memory payload from n a are (rw (lt-leb from a before) refl);
      behind = λ a reaches.
          written_stays memory payload from n a are
          (rw (le-ltb a (from + n) reaches, and-false (nat_le from a)) refl);
    }

-- and AL status, which takes no write, names a state as before
pub written_names : (memory after payload : List ℕ) (from n : ℕ) → AreBytes memory
    → after ≡ with_bits memory payload (written_places memory from n) → NamesState memory → NamesState after
written_names memory after payload from n are after_is =
    status_stays memory after
    (ap (λ (m : List ℕ). get_or m AL_STATUS 0) after_is
    ∙ written_stays memory payload from n AL_STATUS are
    (rw (status_takes_none memory) (and-false (within from n AL_STATUS))))

-- ---- FMMUs that need be looked at

-- a bit is read from the same place through them
pub read_by_used : (managers : List SyncMan) (fmmus few : List Fmmu) → AreUsed fmmus few → (l : ℕ)
    → read_map managers few l ≡ read_map managers fmmus l
read_by_used managers fmmus few used l =
    let by : List Fmmu → Option ℕ = λ fs. read_map managers fs l in
    ⊎_elim
    (λ (front : few ≡ take (mapped_count fmmus) fmmus). ap by front ∙ read_map_mapped managers fmmus l)
    (λ (all : few ≡ fmmus). ap by all) used

-- a physical bit takes the same
pub written_by_used : (managers : List SyncMan) (fmmus few : List Fmmu) → AreUsed fmmus few → (from n p : ℕ)
    → write_map managers few from n p ≡ write_map managers fmmus from n p
written_by_used managers fmmus few used from n p =
    let by : List Fmmu → Option ℕ = λ fs. write_map managers fs from n p in
    ⊎_elim
    (λ (front : few ≡ take (mapped_count fmmus) fmmus). ap by front ∙ write_map_mapped managers fmmus from n p)
    (λ (all : few ≡ fmmus). ap by all) used

-- a read is served alike
pub reads_some_by_used : (managers : List SyncMan) (fmmus few : List Fmmu) → AreUsed fmmus few
    → (from n : ℕ) → reads_some managers few from n ≡ reads_some managers fmmus from n
reads_some_by_used managers fmmus few used from n =
    let by : List Fmmu → Bool = λ fs. reads_some managers fs from n in
    ⊎_elim
    (λ (front : few ≡ take (mapped_count fmmus) fmmus). ap by front ∙ reads_some_mapped managers fmmus from n)
    (λ (all : few ≡ fmmus). ap by all) used

-- and a write
pub writes_some_by_used : (managers : List SyncMan) (fmmus few : List Fmmu) → AreUsed fmmus few
    → (from n : ℕ) → writes_some managers few from n ≡ writes_some managers fmmus from n
writes_some_by_used managers fmmus few used from n =
    let by : List Fmmu → Bool = λ fs. writes_some managers fs from n in
    ⊎_elim
    (λ (front : few ≡ take (mapped_count fmmus) fmmus). ap by front ∙ writes_some_mapped managers fmmus from n)
    (λ (all : few ≡ fmmus). ap by all) used

-- and a byte is written alike
pub written_byte_by_used : (managers : List SyncMan) (fmmus few : List Fmmu) → AreUsed fmmus few
    → (from n byte : ℕ)
    → names (λ b. write_map managers few from n (8 * byte + b)) 8
    ≡ names (λ b. write_map managers fmmus from n (8 * byte + b)) 8
written_byte_by_used managers fmmus few used from n byte =
    let by : List Fmmu → Bool = λ fs. names (λ b. write_map managers fs from n (8 * byte + b)) 8 in
    ⊎_elim
    (λ (front : few ≡ take (mapped_count fmmus) fmmus).
    ap by front ∙ written_byte_mapped managers fmmus from n byte)
    (λ (all : few ≡ fmmus). ap by all) used

-- as many as map, or eight, of a memory's FMMUs are those
pub first_are_used : (memory : List ℕ) (fmmus : List Fmmu) (count : ℕ) → fmmus ≡ fmmus_of memory
    → ((count ≡ mapped_count (fmmus_of memory)) ⊎ (count ≡ 8)) → AreUsed (fmmus_of memory) (take count fmmus)
first_are_used memory fmmus count are counts =
    ⊎_elim
    (λ (some : count ≡ mapped_count (fmmus_of memory)).
    inl (ap (λ (n : ℕ). take n fmmus) some ∙ ap (take (mapped_count (fmmus_of memory))) are))
    (λ (eight : count ≡ 8).
    inr (ap (λ (n : ℕ). take n fmmus) eight ∙ ap (take 8) are
    ∙ take_all 8 (fmmus_of memory) (omega (arith, length-fmmus_of memory))))
    counts
