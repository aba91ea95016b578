-- What is read off a slave that stands as it is to be fits each slave whose application needs the same.
use Rattle.std.proofs.Common.{◌≡◌, ℕ, ◌+◌, ◌*◌, ◌<◌, ◌≤◌, Bool, true, false, ◌&&◌, not, List, [], ◌∷◌}
use Rattle.std.proofs.Common.{◌++◌, length}
use Rattle.std.proofs.Common.{take, drop, get_or, refl, sym, ap, ◌∙◌, arith, subst, true≢false}
use Rattle.std.specs.Int.{w16, w32, to_le_bytes}
use Rattle.std.specs.List.{AllByRecursion}
use Rattle.std.proofs.lemmas.Bool.{and_parts}
use Rattle.ec_regs.specs.Bits.{AreBytes}
use Rattle.ec_regs.specs.Fmmu.{fmmu_bytes, fmmu_of}
use Rattle.ec_regs.specs.declared.fmmu.Fmmu.{Fmmu}
use Rattle.ec_regs.specs.declared.registers.TheConstants.{MEMORY_SIZE}
use Rattle.ec_regs.specs.declared.sync_man.SyncMan.{SyncMan}
use Rattle.ec_regs.proofs.Laws.{AreBytes-run, get_or-run}
use Rattle.ec_areas.specs.Ranges.{meets}
use Rattle.ec_areas.specs.Records.{fmmu_at, fmmus_of, sync_manager_at, sync_managers_of}
use Rattle.ec_app.specs.Roles.{fits_inputs, fits_outputs, has_mailboxes, is_answer_mailbox}
use Rattle.ec_app.specs.Roles.{is_request_mailbox}
use Rattle.ec_app.specs.State.{SlaveState}
use Rattle.ec_run.specs.Wanted.{wanted_by}
use Rattle.ec_over_ring.specs.Fit.{FitsRegisters, IsFitFor, NeedsSame, StandsFit}
use Rattle.ec_over_ring.specs.Started.{IsWanted}
use Rattle.ec_over_ring.proofs.BytesLemmas.{append_bytes, small_bytes}
use Rattle.ec_over_ring.proofs.ManagerLemmas.{manager_is}
use Rattle.ec_over_ring.proofs.RegisterLemmas.{run_size}

-- ---- one record

manager_fits : (m : List ℕ) (i : ℕ) → AreBytes m → FitsRegisters (sync_manager_at m i)
manager_fits m i are =
    let at : ℕ = 2048 + 8 * i in
    let a : get_or m (at + 0) 0 < 256 = are (at + 0) in
    let b : get_or m (at + 1) 0 < 256 = are (at + 1) in
    let c : get_or m (at + 2) 0 < 256 = are (at + 2) in
    let d : get_or m (at + 3) 0 < 256 = are (at + 3) in
    subst FitsRegisters (sym (manager_is m i)) (record {
      start = omega (arith, a, b);
      length = omega (arith, c, d);
      control = are (at + 4);
      status = are (at + 5);
      activate = are (at + 6);
      pdi = are (at + 7);
    })

run_bytes : (m : List ℕ) (from n : ℕ) → from + n ≤ length m → AreBytes m → AreBytes (take n (drop from m))
run_bytes m from n inside are =
    let size : length (take n (drop from m)) ≡ n = run_size m from n inside in
    AreBytes-run (take n (drop from m)) m from n (omega (arith, size)) are
    (λ k below. get_or-run m from n k below)

-- the FMMU that sixteen bytes spell is spelt by sixteen bytes
fmmu_small : (bs : List ℕ) → length bs ≡ 16 → AreBytes bs → AreBytes (fmmu_bytes (fmmu_of bs))
fmmu_small bs size are =
    let f : Fmmu = fmmu_of bs in
    let head : List ℕ = to_le_bytes w32 f.logical ++ to_le_bytes w16 f.length ++ f.start ∷ f.stop ∷ []
    ++ to_le_bytes w16 f.physical ++ f.bit ∷ f.kind ∷ f.activate ∷ [] in
    append_bytes head (take 3 (drop 13 bs))
    (small_bytes head (
      omega arith,
      (
        omega arith,
        (
          omega arith,
          (
            omega arith,
            (
              omega arith,
              (
                omega arith,
                (are 6, (are 7, (omega arith, (omega arith, (are 10, (are 11, (are 12, tt))))))),
              ),
            ),
          ),
        ),
      ),
    ))
    (run_bytes bs 13 3 (omega (arith, size)) are)

fmmu_size : (bs : List ℕ) → length bs ≡ 16 → length (fmmu_bytes (fmmu_of bs)) ≡ 16
fmmu_size bs size =
    let rest : length (take 3 (drop 13 bs)) ≡ 3 = run_size bs 13 3 (omega (arith, size)) in
    omega (arith, rest)

fmmu_fits : (m : List ℕ) (i : ℕ) → length m ≡ MEMORY_SIZE → i < 8 → AreBytes m
    → AreBytes (fmmu_bytes (fmmu_at m i))
unfolding fmmu_at
fmmu_fits m i size few are =
    fmmu_small (take 16 (drop (1536 + 16 * i) m)) (run_size m (1536 + 16 * i) 16 (omega (arith, size, few)))
    (run_bytes m (1536 + 16 * i) 16 (omega (arith, size, few)) are)

fmmu_long : (m : List ℕ) (i : ℕ) → length m ≡ MEMORY_SIZE → i < 8 → length (fmmu_bytes (fmmu_at m i)) ≡ 16
unfolding fmmu_at
fmmu_long m i size few =
    fmmu_size (take 16 (drop (1536 + 16 * i) m)) (run_size m (1536 + 16 * i) 16 (omega (arith, size, few)))

-- ---- all of them

each_manager : (P : SyncMan → Type 0) (m : List ℕ) → ((i : ℕ) → P (sync_manager_at m i))
    → AllByRecursion P (sync_managers_of m)
unfolding sync_managers_of
each_manager P m so = (so 0, (so 1, (so 2, (so 3, (so 4, (so 5, (so 6, (so 7, tt))))))))

each_fmmu : (P : Fmmu → Type 0) (m : List ℕ) → ((i : ℕ) → i < 8 → P (fmmu_at m i))
    → AllByRecursion P (fmmus_of m)
unfolding fmmus_of
each_fmmu P m so = (
  so 0 (omega arith),
  (
    so 1 (omega arith),
    (
      so 2 (omega arith),
      (
        so 3 (omega arith),
        (
          so 4 (omega arith),
          (so 5 (omega arith), (so 6 (omega arith), (so 7 (omega arith), tt))),
        ),
      ),
    ),
  ),
)

-- ---- the slave

not_so : (b : Bool) → not b ≡ true → b ≡ false
not_so true is = absurd (true≢false (sym is))
not_so false is = refl

has_them : (simple has : Bool) → simple ≡ false → (not simple && not has) ≡ false → has ≡ true
has_them true has real lacks = absurd (true≢false real)
has_them false true real lacks = refl
has_them false false real lacks = absurd (true≢false lacks)

paired : (m : List ℕ) → has_mailboxes m ≡ true
    → (is_request_mailbox (sync_manager_at m 0) ≡ true) × (is_answer_mailbox (sync_manager_at m 1) ≡ true)
    × (meets (sync_manager_at m 0) (sync_manager_at m 1).start (sync_manager_at m 1).length ≡ false)
paired m has =
    let requests : SyncMan = sync_manager_at m 0 in
    let answers : SyncMan = sync_manager_at m 1 in
    let both = and_parts (is_request_mailbox requests && is_answer_mailbox answers)
    (not (meets requests answers.start answers.length)) has in
    let kinds = and_parts (is_request_mailbox requests) (is_answer_mailbox answers) both.0 in
    (kinds.0, kinds.1, not_so (meets requests answers.start answers.length) both.1)

pub read_off_fits : (s t : SlaveState) → StandsFit s → NeedsSame s t → IsFitFor (wanted_by s) t
unfolding sync_managers_of
read_off_fits s t stands same =
    let m : List ℕ = s.controller.memory in
    record {
      records = record {
        managers = each_manager FitsRegisters m (λ i. manager_fits m i stands.controller.memory);
        fmmus = each_fmmu (λ (f : Fmmu). AreBytes (fmmu_bytes f)) m
            (λ i few. fmmu_fits m i stands.controller.memory_size few stands.controller.memory);
      };
      mailboxes = λ real.
          paired m
          (has_them s.application.simple (has_mailboxes m) (sym same.simple ∙ real) stands.mailboxes);
      outputs = ap (λ (n : ℕ). fits_outputs (sync_manager_at m 2) n) same.out_length ∙ stands.outputs;
      inputs = ap (λ (n : ℕ). fits_inputs (sync_manager_at m 3) n) same.in_length ∙ stands.inputs;
    }

pub read_off_wanted : (s : SlaveState) → StandsFit s → IsWanted (wanted_by s)
read_off_wanted s stands =
    let m : List ℕ = s.controller.memory in
    let low : get_or m 16 0 < 256 = stands.controller.memory 16 in
    let high : get_or m 17 0 < 256 = stands.controller.memory 17 in
    record {
      station = omega (arith, low, high);
      fmmus = each_fmmu (λ (f : Fmmu). length (fmmu_bytes f) ≡ 16) m
          (λ i few. fmmu_long m i stands.controller.memory_size few);
    }
