-- What an application puts into an area of inputs or a mailbox leaves every byte that the area does not lock.
use Rattle.std.proofs.Common.{◌≡◌, ◌⊎◌, inl, inr, ℕ, ◌+◌, ◌<◌, ◌≤◌, true, false, ◌||◌, List, length, get_or}
use Rattle.std.proofs.Common.{sym, ◌∙◌, refl, arith, ⊎_elim}
use Rattle.std.proofs.lemmas.Bool.{cases_lt}
use Rattle.ec_regs.specs.SyncMan.{is_active, is_mailbox, master_reads}
use Rattle.ec_regs.specs.declared.registers.TheConstants.{MEMORY_SIZE}
use Rattle.ec_regs.specs.declared.sync_man.SyncMan.{SyncMan}
use Rattle.ec_areas.specs.Areas.{guards, locks}
use Rattle.ec_areas.proofs.Laws.{active_place, guards_from}
use Rattle.ec_esc.specs.State.{with_run}
use Rattle.ec_esc.proofs.Laws.{get_or-with_run_beside}

locks_inside : (s : SyncMan) (a : ℕ) → is_active s ≡ true → (is_mailbox s || master_reads s) ≡ true
    → s.start ≤ a → a < s.start + s.length → locks s a ≡ true
unfolding locks
locks_inside s a active kind from till =
    let guarded : guards s a ≡ true = guards_from s a active from till in
    rw (guarded, kind) refl

pub area_free : (memory : List ℕ) (s : SyncMan) (a : ℕ) (bytes : List ℕ) → length memory ≡ MEMORY_SIZE
    → is_active s ≡ true → (is_mailbox s || master_reads s) ≡ true → length bytes ≤ s.length
    → locks s a ≡ false → get_or (with_run memory s.start bytes) a 0 ≡ get_or memory a 0
area_free memory s a bytes size active kind fits free =
    let place = active_place s active in
    let inside : s.start + length bytes ≤ length memory = omega (arith, place.1, size, fits) in
    let beside : (a < s.start) ⊎ (s.start + length bytes ≤ a) → get_or (with_run memory s.start bytes) a 0
    ≡ get_or memory a 0 = λ where_is. get_or-with_run_beside memory bytes s.start a inside where_is in
    ⊎_elim
    (λ (before : a < s.start). beside (inl before))
    (λ (from : s.start ≤ a).
    ⊎_elim
    (λ (till : a < s.start + s.length).
    absurd (let no : true ≡ false = sym (locks_inside s a active kind from till) ∙ free in cc))
    (λ (past : s.start + s.length ≤ a). beside (inr (omega (arith, past, fits))))
    (cases_lt a (s.start + s.length)))
    (cases_lt a s.start)
