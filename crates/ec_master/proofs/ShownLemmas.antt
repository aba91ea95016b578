-- Which bytes an application is shown anew after an item, by the areas of outputs and their last bytes.
use Rattle.std.proofs.Common.{◌≡◌, ℕ, zero, suc, ◌+◌, ◌*◌, ◌<◌, Bool, true, false, cond, not, ◌&&◌, ◌||◌, refl}
use Rattle.std.proofs.Common.{ap, subst, ◌∙◌, arith, List, [], ◌∷◌, get_or, None, Some}
use Rattle.std.specs.Prelude.{slice_get, slice_index}
use Rattle.std.specs.Option.{is_some}
use Rattle.ec_regs.specs.Bits.{with_bits}
use Rattle.ec_regs.specs.SyncMan.{is_active, is_buffered, master_writes, guards_outputs}
use Rattle.ec_regs.specs.declared.registers.TheConstants.{PROCESS_MEMORY, PROCESS_MEMORY_SIZE}
use Rattle.ec_regs.specs.declared.sync_man.SyncMan.{SyncMan}
use Rattle.ec_areas.specs.Areas.{guards}
use Rattle.ec_areas.specs.Records.{sync_managers_of}
use Rattle.ec_areas.specs.Showing.{last_byte}
use Rattle.ec_areas.proofs.Laws.{names_at, names_nowhere}
use Rattle.ec_esc.specs.Pass.{touches}
use Rattle.ec_esc.specs.State.{ControllerState, IsController}
use Rattle.ec_esc.specs.Writing.{hands_over, is_shown_anew}
use Rattle.ec_esc.proofs.Laws.{get_or-shown_after}
use Rattle.ec_line.specs.After.{after, written_through}
use Rattle.ec_line.specs.Claims.{taken}
use Rattle.ec_line.specs.Request.{Request}

-- ---- one area

handed : (a b c w g : Bool) → (a && b && c) ≡ true → w ≡ true → g ≡ true
    → ((a && (not a || (b && c && w))) && g) ≡ true
handed false b c w g outputs written guarded = absurd (cc)
handed true false c w g outputs written guarded = absurd (cc)
handed true true false w g outputs written guarded = absurd (cc)
handed true true true false g outputs written guarded = absurd (cc)
handed true true true true false outputs written guarded = absurd (cc)
handed true true true true true outputs written guarded = refl

withheld : (a b c w g : Bool) → ((a && b && c) ≡ true → g ≡ true → w ≡ false)
    → ((a && (not a || (b && c && w))) && g) ≡ false
withheld false b c w g unwritten = refl
withheld true false c w g unwritten = refl
withheld true true false w g unwritten = refl
withheld true true true false g unwritten = refl
withheld true true true true false unwritten = refl
withheld true true true true true unwritten = unwritten refl refl

or_right : (a b : Bool) → b ≡ true → (a || b) ≡ true
or_right false b right = right
or_right true b right = refl

-- ---- all areas

anew : (w : ℕ → Bool) (ms : List SyncMan) (address i : ℕ) (s : SyncMan) → slice_get ms i ≡ Some s
    → guards_outputs s ≡ true → guards s address ≡ true → w (last_byte s) ≡ true
    → is_shown_anew w ms ms address ≡ true
unfolding is_shown_anew
anew w [] address zero s there outputs guarded written = absurd (let no : None ≡ Some s = there in cc)
anew w [] address (suc i) s there outputs guarded written = absurd (let no : None ≡ Some s = there in cc)
anew w (m ∷ ms) address zero s there outputs guarded written =
    let same : s ≡ m = let e : Some m ≡ Some s = there in cc in
    subst (λ (x : SyncMan). ((hands_over w x x && guards x address) || is_shown_anew w ms ms address) ≡ true) same
    (ap (λ (b : Bool). b || is_shown_anew w ms ms address)
    (handed (is_active s) (is_buffered s) (master_writes s) (w (last_byte s)) (guards s address) outputs written
    guarded))
anew w (m ∷ ms) address (suc i) s there outputs guarded written =
    or_right (hands_over w m m && guards m address) (is_shown_anew w ms ms address)
    (anew w ms address i s there outputs guarded written)

as_before : (w : ℕ → Bool) (ms : List SyncMan) (address : ℕ)
    → ((i : ℕ) (s : SyncMan) → slice_get ms i ≡ Some s → guards_outputs s ≡ true → guards s address ≡ true
    → w (last_byte s) ≡ false) → is_shown_anew w ms ms address ≡ false
unfolding is_shown_anew
as_before w [] address unwritten = refl
as_before w (m ∷ ms) address unwritten =
    ap (λ (b : Bool). b || is_shown_anew w ms ms address)
    (withheld (is_active m) (is_buffered m) (master_writes m) (w (last_byte m)) (guards m address)
    (unwritten zero m refl))
    ∙ as_before w ms address (λ i s there. unwritten (suc i) s there)

-- ---- after a request

pub shown : (r : Request) (payload : List ℕ) (c : ControllerState) (k i b p : ℕ) (s : SyncMan) → IsController c
    → k < PROCESS_MEMORY_SIZE → slice_get (sync_managers_of c.memory) i ≡ Some s → guards_outputs s ≡ true
    → guards s (PROCESS_MEMORY + k) ≡ true → b < 8 → taken r c (8 * last_byte s + b) ≡ Some p
    → slice_index (after r payload c).shown k ≡ slice_index (after r payload c).memory (PROCESS_MEMORY + k)
unfolding written_through
shown r payload c k i b p s controller inside there outputs guarded below takes =
    let ms : List SyncMan = sync_managers_of c.memory in
    let w : ℕ → Bool = touches (taken r c) in
    let memory : List ℕ = with_bits c.memory payload (taken r c) in
    let written : w (last_byte s) ≡ true =
    names_at (λ (j : ℕ). taken r c (8 * last_byte s + j)) 8 b below (ap is_some takes) in
    get_or-shown_after w ms ms memory c.shown k (omega (arith, inside, controller.shown_size))
    ∙ ap (λ (x : Bool). cond x (get_or memory (PROCESS_MEMORY + k) 0) (get_or c.shown k 0))
    (anew w ms (PROCESS_MEMORY + k) i s there outputs guarded written)

pub kept : (r : Request) (payload : List ℕ) (c : ControllerState) (k : ℕ) → IsController c
    → k < PROCESS_MEMORY_SIZE
    → ((i b : ℕ) (s : SyncMan) → slice_get (sync_managers_of c.memory) i ≡ Some s → guards_outputs s ≡ true
    → guards s (PROCESS_MEMORY + k) ≡ true → b < 8 → taken r c (8 * last_byte s + b) ≡ None)
    → slice_index (after r payload c).shown k ≡ slice_index c.shown k
unfolding written_through
kept r payload c k controller inside untaken =
    let ms : List SyncMan = sync_managers_of c.memory in
    let w : ℕ → Bool = touches (taken r c) in
    let memory : List ℕ = with_bits c.memory payload (taken r c) in
    get_or-shown_after w ms ms memory c.shown k (omega (arith, inside, controller.shown_size))
    ∙ ap (λ (x : Bool). cond x (get_or memory (PROCESS_MEMORY + k) 0) (get_or c.shown k 0))
    (as_before w ms (PROCESS_MEMORY + k) (λ i s there outputs guarded.
    names_nowhere (λ (j : ℕ). taken r c (8 * last_byte s + j)) 8
    (λ b below. untaken i b s there outputs guarded below)))
