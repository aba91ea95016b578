-- A byte that no area of inputs or mailbox guards, and what inputs fill that are put.
use Rattle.std.proofs.Common.{◌≡◌, ℕ, ◌<◌, Bool, true, false, ◌&&◌, ◌||◌, cond, List}
use Rattle.std.proofs.Common.{length, Some, None, sym, ◌∙◌, ap, refl, arith, ⊎_elim}
use Rattle.std.specs.Prelude.{not}
use Rattle.std.proofs.lemmas.Bool.{cases_Bool, eqb-true}
use Rattle.std.proofs.lemmas.List.Folds.{list_any_at}
use Rattle.ec_regs.specs.SyncMan.{is_active, is_buffered, is_mailbox, master_reads}
use Rattle.ec_regs.specs.declared.sync_man.SyncMan.{SyncMan}
use Rattle.ec_areas.specs.Areas.{locks, is_locked}
use Rattle.ec_areas.specs.Records.{sync_manager_at, sync_managers_of}
use Rattle.ec_areas.proofs.Laws.{get_or-sync_managers_of, length-sync_managers_of}
use Rattle.ec_esc.specs.Application.{put_inputs_fault}
use Rattle.ec_esc.specs.declared.application.AreaFault.{AreaFault}

-- a byte in the area of a sync manager that locks it is locked
locked_by : (memory : List ℕ) (i a : ℕ) → i < 8 → locks (sync_manager_at memory i) a ≡ true
    → is_locked (sync_managers_of memory) a ≡ true
locked_by memory i a below hit =
    let s : SyncMan = sync_manager_at memory i in
    list_any_at (λ t. locks t a) (sync_managers_of memory) i s (omega (arith, below, length-sync_managers_of memory))
    (ap (λ t. locks t a) (get_or-sync_managers_of memory s i below) ∙ hit)

-- so one that is not locked is locked by none
pub unlocked_by : (memory : List ℕ) (i a : ℕ) → i < 8 → is_locked (sync_managers_of memory) a ≡ false
    → locks (sync_manager_at memory i) a ≡ false
unlocked_by memory i a below free =
    ⊎_elim
    (λ (locked : locks (sync_manager_at memory i) a ≡ true).
    absurd (let no : true ≡ false = sym (locked_by memory i a below locked) ∙ free in cc))
    (λ (open_ : locks (sync_manager_at memory i) a ≡ false). open_)
    (cases_Bool (locks (sync_manager_at memory i) a))

-- ---- inputs

-- no test of inputs fails
tests_passed : (active kind fits : Bool) (x y z : AreaFault)
    → cond (not active) (Some x) (cond (not kind) (Some y) (cond (not fits) (Some z) None)) ≡ None
    → (active ≡ true) × (kind ≡ true) × (fits ≡ true)
tests_passed true true true x y z none = (refl, refl, refl)
tests_passed true true false x y z none = absurd (cc)
tests_passed true false fits x y z none = absurd (cc)
tests_passed false kind fits x y z none = absurd (cc)

second_of : (a b : Bool) → (a && b) ≡ true → b ≡ true
second_of true b both = both
second_of false b both = absurd (cc)

either_of : (a b : Bool) → b ≡ true → (a || b) ≡ true
either_of true b is = refl
either_of false b is = is

-- inputs that are put fill an area that the master reads
pub record FillInputs (s : SyncMan) (bytes : List ℕ) : Type 0 where
  pub active : is_active s ≡ true
  pub kind : (is_mailbox s || master_reads s) ≡ true
  pub size : length bytes ≡ s.length

pub inputs_fill : (s : SyncMan) (bytes : List ℕ) → put_inputs_fault s bytes ≡ None → FillInputs s bytes
inputs_fill s bytes none =
    let passed = tests_passed (is_active s) (is_buffered s && master_reads s) _ _ _ _ none in
    record {
      active = passed.0;
      kind = either_of (is_mailbox s) (master_reads s)
          (second_of (is_buffered s) (master_reads s) passed.1);
      size = eqb-true (length bytes) s.length passed.2;
    }
