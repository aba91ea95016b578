-- The mapping of a controller hangs on few registers, and none of them is one that its application writes.
use Rattle.std.proofs.Common.{◌≡◌, ◌≢◌, ◌⊎◌, ⊎_elim, true, false, inl, inr, ℕ, ◌+◌, ◌*◌, ◌<◌, ◌≤◌, List, [], ◌∷◌}
use Rattle.std.proofs.Common.{length, get_or, take, drop, Some, Bool, cond}
use Rattle.std.proofs.Common.{sym, ◌∙◌, ap, arith, None, refl}
use Rattle.std.specs.Int.{w16, from_le_bytes}
use Rattle.std.proofs.lemmas.List.{ext_get_or, length-take-le, length-drop, get_or-set_other}
use Rattle.ec_regs.specs.Fmmu.{fmmu_of}
use Rattle.ec_regs.specs.declared.al.AlStatus.{AlStatus}
use Rattle.ec_regs.specs.declared.registers.TheConstants.{MEMORY_SIZE, PROCESS_MEMORY}
use Rattle.ec_regs.proofs.Laws.{get_or-run}
use Rattle.ec_areas.specs.Records.{fmmu_at, fmmus_of, sync_manager_at, sync_managers_of}
use Rattle.ec_esc.specs.Application.{put_inputs_fault, with_al, with_inputs, are_told, with_registers}
use Rattle.ec_esc.specs.Application.{holds_mail, with_mail_again, with_mail_repeated, with_repeat_told}
use Rattle.ec_esc.specs.Writing.{with_filled}
use Rattle.ec_esc.proofs.Laws.{told_place, registers_controller, repeated_controller}
use Rattle.ec_esc.proofs.Laws.{repeat_told_controller}
use Rattle.ec_regs.specs.SyncMan.{repeat_asked}
use Rattle.ec_regs.specs.declared.sync_man.SyncMan.{SyncMan}
use Rattle.std.specs.Prelude.{slice_set, bit_or}
use Rattle.std.proofs.lemmas.Bool.{cases_Bool}
use Rattle.ec_line.specs.Moving.{HasMoved}
use Rattle.ec_line.proofs.Laws.{moved_by_mapping}
use Rattle.ec_regs.specs.Bits.{AreBytes}
use Rattle.ec_esc.specs.State.{ControllerState, IsController}
use Rattle.ec_esc.proofs.Laws.{get_or-with_run_beside, length-with_run, inputs_place}
use Rattle.ec_line.specs.Mapping.{without_status, mapping_of}
use Rattle.ec_app.specs.Left.{SameLeft}
use Rattle.ec_app.specs.Slave.{step}
use Rattle.ec_app.specs.State.{SlaveState}
use Rattle.ec_app.proofs.Laws.{step_leaves, al_left}

-- ---- the registers of a mapping

-- the byte at an address is the same in two memories
abbrev Same : List ℕ → List ℕ → ℕ → Type 0
Same before after a = get_or after a 0 ≡ get_or before a 0

-- both words of the station address, the records of FMMUs, and those of sync managers but for their
-- status bytes and their PDI bytes
record SameMapped (before after : List ℕ) : Type 0 where
  size : length after ≡ length before
  room : PROCESS_MEMORY ≤ length before
  station : (k : ℕ) → k < 2 → Same before after (16 + k)
  fmmus : (a : ℕ) → 1536 ≤ a → a < 1664 → Same before after a
  managers : (i k : ℕ) → i < 8 → k < 8 → k ≢ 5 → k ≢ 7 → Same before after (2048 + 8 * i + k)

-- a run of bytes that are the same
run_same : (before after : List ℕ) (at n : ℕ) → length after ≡ length before → at + n ≤ length before
    → ((k : ℕ) → k < n → Same before after (at + k)) → take n (drop at after) ≡ take n (drop at before)
run_same before after at n size inside same =
    let cut : (m : List ℕ) → at + n ≤ length m → length (take n (drop at m)) ≡ n =
    λ m room. length-take-le n (drop at m) (omega (arith, length-drop at m)) in
    let old_size = cut before inside in
    let new_size = cut after (omega arith) in
    ext_get_or 0 (take n (drop at after)) (take n (drop at before)) (new_size ∙ sym old_size)
    (λ k within.
    let below : k < n = omega arith in
    get_or-run after at n k below ∙ same k below ∙ sym (get_or-run before at n k below))

fmmu_same : (before after : List ℕ) (i : ℕ) → SameMapped before after → i < 8
    → fmmu_at after i ≡ fmmu_at before i
unfolding fmmu_at
fmmu_same before after i same below =
    ap fmmu_of
    (run_same before after (1536 + 16 * i) 16 same.size (omega (arith, same.room))
    (λ k within. same.fmmus (1536 + 16 * i + k) (omega arith) (omega arith)))

-- two neighbouring bytes of a sync manager's record
field_same : (before after : List ℕ) (i j : ℕ) → SameMapped before after → i < 8 → j ≤ 3
    → take 2 (drop j (take 8 (drop (2048 + 8 * i) after))) ≡ take 2 (drop j (take 8 (drop (2048 + 8 * i) before)))
field_same before after i j same below early =
    let at : ℕ = 2048 + 8 * i in
    let cut : (m : List ℕ) → at + 8 ≤ length m → length (take 8 (drop at m)) ≡ 8 =
    λ m room. length-take-le 8 (drop at m) (omega (arith, length-drop at m)) in
    let old_size = cut before (omega (arith, same.room)) in
    let new_size = cut after (omega (arith, same.room, same.size)) in
    run_same (take 8 (drop at before)) (take 8 (drop at after)) j 2 (new_size ∙ sym old_size) (omega arith)
    (λ k within.
    let inside : j + k < 8 = omega arith in
    let beside : j + k ≢ 5 = λ is. omega (arith, is) in
    get_or-run after at 8 (j + k) inside
    ∙ same.managers i (j + k) below inside beside (λ is. omega (arith, is))
    ∙ sym (get_or-run before at 8 (j + k) inside))

-- one of its other bytes
byte_same : (before after : List ℕ) (i k : ℕ) → SameMapped before after → i < 8 → k < 8 → k ≢ 5 → k ≢ 7
    → get_or (take 8 (drop (2048 + 8 * i) after)) k 0 ≡ get_or (take 8 (drop (2048 + 8 * i) before)) k 0
byte_same before after i k same below inside beside other =
    get_or-run after (2048 + 8 * i) 8 k inside
    ∙ same.managers i k below inside beside other
    ∙ sym (get_or-run before (2048 + 8 * i) 8 k inside)

manager_same : (before after : List ℕ) (i : ℕ) → SameMapped before after → i < 8
    → without_status (sync_manager_at after i) ≡ without_status (sync_manager_at before i)
unfolding sync_manager_at
manager_same before after i same below =
    let start = field_same before after i 0 same below (omega arith) in
    let size = field_same before after i 2 same below (omega arith) in
    let byte : (k : ℕ) → k < 8 → k ≢ 5 → k ≢ 7 → get_or (take 8 (drop (2048 + 8 * i) after)) k 0
    ≡ get_or (take 8 (drop (2048 + 8 * i) before)) k 0 =
    λ k inside beside other. byte_same before after i k same below inside beside other in
    let control = byte 4 (omega arith) (λ is. omega (arith, is)) (λ is. omega (arith, is)) in
    let activate = byte 6 (omega arith) (λ is. omega (arith, is)) (λ is. omega (arith, is)) in
    (λ j. record {
      start = from_le_bytes w16 (start j);
      length = from_le_bytes w16 (size j);
      control = control j;
      status = 0;
      activate = activate j;
      pdi = 0;
    })

-- memories with these registers the same have the same mapping
mapping_same : (c d : ControllerState) → SameMapped c.memory d.memory → mapping_of d ≡ mapping_of c
unfolding mapping_of fmmus_of sync_managers_of
mapping_same c d same =
    let f : (i : ℕ) → i < 8 → fmmu_at d.memory i ≡ fmmu_at c.memory i =
    λ i below. fmmu_same c.memory d.memory i same below in
    let m : (i : ℕ) → i < 8
    → without_status (sync_manager_at d.memory i) ≡ without_status (sync_manager_at c.memory i) =
    λ i below. manager_same c.memory d.memory i same below in
    let f0 = f 0 (omega arith) in
    let f1 = f 1 (omega arith) in
    let f2 = f 2 (omega arith) in
    let f3 = f 3 (omega arith) in
    let f4 = f 4 (omega arith) in
    let f5 = f 5 (omega arith) in
    let f6 = f 6 (omega arith) in
    let f7 = f 7 (omega arith) in
    let m0 = m 0 (omega arith) in
    let m1 = m 1 (omega arith) in
    let m2 = m 2 (omega arith) in
    let m3 = m 3 (omega arith) in
    let m4 = m 4 (omega arith) in
    let m5 = m 5 (omega arith) in
    let m6 = m 6 (omega arith) in
    let m7 = m 7 (omega arith) in
    let low = same.station 0 (omega arith) in
    let high = same.station 1 (omega arith) in
    (λ j. record {
      station = low j + 256 * high j;
      fmmus = f0 j ∷ f1 j ∷ f2 j ∷ f3 j ∷ f4 j ∷ f5 j ∷ f6 j ∷ f7 j ∷ [];
      sync_managers = m0 j ∷ m1 j ∷ m2 j ∷ m3 j ∷ m4 j ∷ m5 j ∷ m6 j ∷ m7 j ∷ [];
    })

-- ---- what an application does

-- what a step leaves has the registers of a mapping
mapped_left : (before after : List ℕ) → PROCESS_MEMORY ≤ length before → SameLeft before after
    → SameMapped before after
mapped_left before after room left = record {
  size = left.size;
  room = room;
  station = λ k below. left.bytes (16 + k) (record {
    al_status = inl (omega arith);
    al_status_code = inl (omega arith);
    requests = λ is. omega (arith, is);
    answers = λ is. omega (arith, is);
    register = omega arith;
  });
  fmmus = λ a from to. left.bytes a (record {
    al_status = inr (omega arith);
    al_status_code = inr (omega arith);
    requests = λ is. omega (arith, is);
    answers = λ is. omega (arith, is);
    register = omega arith;
  });
  managers = λ i k number inside beside other. left.bytes (2048 + 8 * i + k) (record {
    al_status = inr (omega arith);
    al_status_code = inr (omega arith);
    requests = λ is. beside (omega (arith, is));
    answers = λ is. beside (omega (arith, is));
    register = omega arith;
  });
}

pub mapping_left : (c d : ControllerState) → length c.memory ≡ MEMORY_SIZE → SameLeft c.memory d.memory
    → mapping_of d ≡ mapping_of c
mapping_left c d size left = mapping_same c d (mapped_left c.memory d.memory (omega (arith, size)) left)

pub mapping_step : (s : SlaveState) → IsController s.controller
    → mapping_of (step s).controller ≡ mapping_of s.controller
mapping_step s is =
    mapping_left s.controller (step s).controller is.memory_size (step_leaves s is.memory_size)

pub mapping_al : (c : ControllerState) (status : AlStatus) (code : ℕ) → IsController c
    → mapping_of (with_al c status code) ≡ mapping_of c
mapping_al c status code is =
    mapping_left c (with_al c status code) is.memory_size (al_left c status code is.memory_size)

pub mapping_inputs : (c : ControllerState) (i : ℕ) (bytes : List ℕ) → IsController c
    → put_inputs_fault (sync_manager_at c.memory i) bytes ≡ None
    → mapping_of (with_inputs c i bytes) ≡ mapping_of c
mapping_inputs c i bytes is none =
    let at : ℕ = (sync_manager_at c.memory i).start in
    let place = inputs_place (sync_manager_at c.memory i) bytes none in
    let inside : at + length bytes ≤ length c.memory = omega (arith, place.1, is.memory_size) in
    let same : (a : ℕ) → a < PROCESS_MEMORY → Same c.memory (with_inputs c i bytes).memory a =
    λ a below. get_or-with_run_beside c.memory bytes at a inside (inl (omega (arith, place.0))) in
    mapping_same c (with_inputs c i bytes)
    (record {
      size = length-with_run c.memory bytes at inside;
      room = omega (arith, is.memory_size);
      station = λ k below. same (16 + k) (omega arith);
      fmmus = λ a from to. same a (omega arith);
      managers = λ j k number within beside other. same (2048 + 8 * j + k) (omega arith);
    })

-- ---- registers that are told

-- they lie beside all that a mapping hangs on, and before process memory
beside_told : (from n a : ℕ) → are_told from n ≡ true → ((10 ≤ a) × (a < 272)) ⊎ (1296 ≤ a)
    → (a < from) ⊎ (from + n ≤ a)
beside_told from n a told place =
    ⊎_elim
    (λ (first : from + n ≤ 10).
    ⊎_elim
    (λ (low : (10 ≤ a) × (a < 272)). inr (omega (arith, low.0)))
    (λ (high : 1296 ≤ a). inr (omega arith))
    place)
    (λ (rest : (272 ≤ from) × (from + n ≤ 1296)).
    ⊎_elim
    (λ (low : (10 ≤ a) × (a < 272)). inl (omega (arith, low.1, rest.0)))
    (λ (high : 1296 ≤ a). inr (omega (arith, rest.1)))
    place)
    (told_place from n told)

told_same : (c : ControllerState) (from : ℕ) (bytes : List ℕ) → IsController c
    → are_told from (length bytes) ≡ true → (a : ℕ) → ((10 ≤ a) × (a < 272)) ⊎ (1296 ≤ a)
    → Same c.memory (with_registers c from bytes).memory a
told_same c from bytes is told a place =
    let inside : from + length bytes ≤ length c.memory =
    ⊎_elim
    (λ (past : 1296 < from). absurd
    (⊎_elim
    (λ (first : from + length bytes ≤ 10). omega arith)
    (λ (rest : (272 ≤ from) × (from + length bytes ≤ 1296)). omega (arith, rest.1))
    (told_place from (length bytes) told)))
    (λ (reaches : from + length bytes ≤ 1296). omega (arith, is.memory_size))
    (beside_told from (length bytes) 1296 told (inr (omega arith))) in
    get_or-with_run_beside c.memory bytes from a inside (beside_told from (length bytes) a told place)

pub mapping_told : (c : ControllerState) (from : ℕ) (bytes : List ℕ) → IsController c
    → are_told from (length bytes) ≡ true → AreBytes bytes
    → mapping_of (with_registers c from bytes) ≡ mapping_of c
mapping_told c from bytes is told are =
    let same = told_same c from bytes is told in
    let size = (registers_controller c from bytes is are told).memory_size in
    mapping_same c (with_registers c from bytes)
    (record {
      size = size ∙ sym is.memory_size;
      room = omega (arith, is.memory_size);
      station = λ k below. same (16 + k) (inl (omega arith, omega arith));
      fmmus = λ a low high. same a (inr (omega arith));
      managers = λ j k number within beside other. same (2048 + 8 * j + k) (inr (omega arith));
    })

pub moved_told : (c : ControllerState) (from : ℕ) (bytes : List ℕ) → IsController c → AreBytes bytes
    → are_told from (length bytes) ≡ true → HasMoved c (with_registers c from bytes)
moved_told c from bytes is are told =
    moved_by_mapping c (with_registers c from bytes) (mapping_told c from bytes is told are)
    (registers_controller c from bytes is are told) refl
    (λ a low free. told_same c from bytes is told a (inr (omega arith)))

-- ---- a mail once more

-- the byte at an address that is not the status byte of a sync manager
filled_beside : (s : SyncMan) (i a : ℕ) (stood m : List ℕ) → a ≢ 2048 + 8 * i + 5
    → Same m (with_mail_again s i stood m) a
filled_beside s i a stood m apart =
    let choice : Bool → List ℕ = λ b. cond b (with_filled (Some i) m) m in
    ⊎_elim
    (λ (yes : holds_mail s stood ≡ true).
    ap (λ (b : Bool). get_or (choice b) a 0) yes
    ∙ get_or-set_other m (2048 + 8 * i + 5) a (bit_or (get_or m (2048 + 8 * i + 5) 0) 8) 0 apart)
    (λ (no : holds_mail s stood ≡ false). ap (λ (b : Bool). get_or (choice b) a 0) no)
    (cases_Bool (holds_mail s stood))

told_beside : (c : ControllerState) (i a : ℕ) → a ≢ 2048 + 8 * i + 7
    → Same c.memory (with_repeat_told c i).memory a
told_beside c i a pdi =
    get_or-set_other c.memory (2048 + 8 * i + 7) a (2 * repeat_asked (sync_manager_at c.memory i)) 0 pdi

pub repeated_same : (c : ControllerState) (i a : ℕ) → a ≢ 2048 + 8 * i + 5 → a ≢ 2048 + 8 * i + 7
    → Same c.memory (with_mail_repeated c i).memory a
repeated_same c i a status pdi =
    let s : SyncMan = sync_manager_at c.memory i in
    filled_beside s i a c.memory (slice_set c.memory (2048 + 8 * i + 7) (2 * repeat_asked s)) status
    ∙ told_beside c i a pdi

pub mapping_repeated : (c : ControllerState) (i : ℕ) → IsController c → i < 8
    → mapping_of (with_mail_repeated c i) ≡ mapping_of c
mapping_repeated c i is below =
    let same : (a : ℕ) → a ≢ 2048 + 8 * i + 5 → a ≢ 2048 + 8 * i + 7
    → Same c.memory (with_mail_repeated c i).memory a = repeated_same c i in
    let size = (repeated_controller c i is).memory_size in
    mapping_same c (with_mail_repeated c i)
    (record {
      size = size ∙ sym is.memory_size;
      room = omega (arith, is.memory_size);
      station = λ k low. same (16 + k) (λ is. omega (arith, is)) (λ is. omega (arith, is));
      fmmus = λ a from to. same a (λ is. omega (arith, is)) (λ is. omega (arith, is));
      managers = λ j k number within beside other.
          same (2048 + 8 * j + k)
          (λ is. beside (omega (arith, is)))
          (λ is. other (omega (arith, is)));
    })

pub moved_repeated : (c : ControllerState) (i : ℕ) → IsController c → i < 8
    → HasMoved c (with_mail_repeated c i)
moved_repeated c i is below =
    moved_by_mapping c (with_mail_repeated c i) (mapping_repeated c i is below)
    (repeated_controller c i is) refl
    (λ a low free. repeated_same c i a (λ is. omega (arith, is)) (λ is. omega (arith, is)))

-- where it is told alone
pub mapping_repeat_told : (c : ControllerState) (i : ℕ) → IsController c → i < 8
    → mapping_of (with_repeat_told c i) ≡ mapping_of c
mapping_repeat_told c i is below =
    let size = (repeat_told_controller c i is).memory_size in
    mapping_same c (with_repeat_told c i)
    (record {
      size = size ∙ sym is.memory_size;
      room = omega (arith, is.memory_size);
      station = λ k low. told_beside c i (16 + k) (λ is. omega (arith, is));
      fmmus = λ a from to. told_beside c i a (λ is. omega (arith, is));
      managers = λ j k number within beside other.
          told_beside c i (2048 + 8 * j + k) (λ is. other (omega (arith, is)));
    })

pub moved_repeat_told : (c : ControllerState) (i : ℕ) → IsController c → i < 8
    → HasMoved c (with_repeat_told c i)
moved_repeat_told c i is below =
    moved_by_mapping c (with_repeat_told c i) (mapping_repeat_told c i is below)
    (repeat_told_controller c i is) refl (λ a low free. told_beside c i a (λ is. omega (arith, is)))
