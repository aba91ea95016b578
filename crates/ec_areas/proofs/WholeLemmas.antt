-- A range that meets no area that is kept from reads, or from writes, has no byte that is.
use Rattle.std.proofs.Common.{◌≡◌, ℕ, ◌+◌, ◌<◌, ◌≤◌, Bool, true, false, ◌&&◌, ◌||◌, ltb, leb, List, [], ◌∷◌}
use Rattle.std.proofs.Common.{sym, ◌∙◌, ap, refl, arith, ⊎_elim}
use Rattle.std.specs.List.{list_any}
use Rattle.std.proofs.lemmas.Bool.{and_parts, cases_Bool, false≢true}
use Rattle.std.proofs.lemmas.Bool.Decides.{nat_tests}
use Rattle.ec_regs.specs.SyncMan.{is_active, is_mailbox, master_reads, master_writes}
use Rattle.ec_regs.specs.declared.sync_man.SyncMan.{SyncMan}
use Rattle.ec_regs.specs.declared.registers.TheConstants.{MEMORY_SIZE, PROCESS_MEMORY}
use Rattle.ec_areas.specs.Areas.{holds, guards, hides, locks, is_readable, is_writable, is_hidden, is_locked}
use Rattle.ec_areas.specs.Ranges.{meets, meets_hidden, meets_locked}

-- what implies a test that none passes is passed by none
none_of : (p q : SyncMan → Bool) (ss : List SyncMan) → ((s : SyncMan) → q s ≡ true → p s ≡ true)
    → list_any p ss ≡ false → list_any q ss ≡ false
none_of p q [] implies none = refl
none_of p q (s ∷ ss) implies none =
    ⊎_elim
    (λ (passes : p s ≡ true). absurd (false≢true (sym none ∙ ap (λ b. b || list_any p ss) passes)))
    (λ (fails : p s ≡ false).
    let rest : list_any p ss ≡ false = sym (ap (λ b. b || list_any p ss) fails) ∙ none in
    ⊎_elim
    (λ (would : q s ≡ true). absurd (false≢true (sym fails ∙ implies s would)))
    (λ (fails_too : q s ≡ false). ap (λ b. b || list_any q ss) fails_too ∙ none_of p q ss implies rest)
    (cases_Bool (q s)))
    (cases_Bool (p s))

-- an area that guards a byte of the range meets the range
meets-guards : (s : SyncMan) (from n address : ℕ) → from ≤ address → address < from + n
    → guards s address ≡ true → meets s from n ≡ true
unfolding meets guards
meets-guards s from n address starts ends guarded =
    let parts = and_parts (is_active s) (holds s address) guarded in
    let bounds = and_parts (leb s.start address) (ltb address (s.start + s.length)) parts.1 in
    let after : leb s.start address ≡ true = bounds.0 in
    let before : ltb address (s.start + s.length) ≡ true = bounds.1 in
    let first : ltb s.start (from + n) ≡ true = grind (arith, nat_tests) in
    let last : ltb from (s.start + s.length) ≡ true = grind (arith, nat_tests) in
    rw (parts.0, first, last) refl

-- two parts of a conjunction
and_true : (a b c : Bool) → (a && c) ≡ true → (a ≡ true → b ≡ true) → (b && c) ≡ true
and_true a b c h implies = let parts = and_parts a c h in ap (λ x. x && c) (implies parts.0) ∙ parts.1

-- no area hides a byte of a range that meets none of those that are kept from reads
pub is_readable-meets_hidden : (managers : List SyncMan) (from n address : ℕ)
    → meets_hidden managers from n ≡ false → from ≤ address
    → address < from + n → address < MEMORY_SIZE → is_readable managers address ≡ true
unfolding is_readable hides
is_readable-meets_hidden managers from n address clear starts ends inside =
    let in_memory : ltb address MEMORY_SIZE ≡ true = grind (arith, nat_tests) in
    let shown : is_hidden managers address ≡ false =
    none_of (λ s. meets s from n && (is_mailbox s || master_writes s)) (λ s. hides s address) managers
    (λ s hidden. and_true (guards s address) (meets s from n) (is_mailbox s || master_writes s) hidden
    (meets-guards s from n address starts ends)) clear in
    rw (in_memory, shown) refl

-- nor does one lock a byte of a range that meets none of those that are kept from writes
pub is_writable-meets_locked : (managers : List SyncMan) (from n address : ℕ)
    → meets_locked managers from n ≡ false → from ≤ address
    → address < from + n → PROCESS_MEMORY ≤ address → address < MEMORY_SIZE
    → is_writable managers address ≡ true
unfolding is_writable locks
is_writable-meets_locked managers from n address clear starts ends process inside =
    let in_process : leb PROCESS_MEMORY address ≡ true = grind (arith, nat_tests) in
    let in_memory : ltb address MEMORY_SIZE ≡ true = grind (arith, nat_tests) in
    let free : is_locked managers address ≡ false =
    none_of (λ s. meets s from n && (is_mailbox s || master_reads s)) (λ s. locks s address) managers
    (λ s locked. and_true (guards s address) (meets s from n) (is_mailbox s || master_reads s) locked
    (meets-guards s from n address starts ends)) clear in
    rw (in_process, in_memory, free) refl
