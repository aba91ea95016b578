-- Shown bytes: a frame twice shows what a frame once shows, wherever the last entry that shows a byte is the
-- last that writes it.
use Rattle.std.proofs.Common.{◌≡◌, ℕ, ◌+◌, ◌-◌, ◌*◌, ◌<◌, Bool, true, false, ◌&&◌, ◌||◌}
use Rattle.std.proofs.Common.{cond, List, [], ◌∷◌, length, get_or}
use Rattle.std.proofs.Common.{Option, sym, ◌∙◌, ap, refl, arith, ⊎_elim}
use Rattle.std.specs.Prelude.{not}
use Rattle.std.specs.List.{AllByRecursion}
use Rattle.std.proofs.lemmas.Bool.{and_parts, cases_Bool}
use Rattle.ec_regs.specs.Bits.{with_bits}
use Rattle.ec_regs.specs.SyncMan.{is_active, is_buffered, master_writes}
use Rattle.ec_regs.specs.declared.sync_man.SyncMan.{SyncMan}
use Rattle.ec_regs.specs.declared.registers.TheConstants.{PROCESS_MEMORY}
use Rattle.ec_regs.proofs.Laws.{get_or-with_bits_kept}
use Rattle.ec_areas.specs.Areas.{guards}
use Rattle.ec_areas.specs.Records.{sync_managers_of}
use Rattle.ec_areas.proofs.Laws.{names_none, guards_parts, guards_from}
use Rattle.ec_esc.specs.State.{ControllerState, IsController}
use Rattle.ec_esc.specs.Writing.{hands_over, is_shown_anew}
use Rattle.ec_esc.specs.Pass.{touches}
use Rattle.ec_esc.proofs.Laws.{get_or-shown_after}
use Rattle.ec_line.specs.Accepted.{Accepts, AcceptsAll}
use Rattle.ec_line.specs.After.{Entry, written_through, after, after_frame}
use Rattle.ec_line.specs.Steady.{SameSteady}
use Rattle.ec_line.specs.Claims.{taken}
use Rattle.ec_line.specs.Shown.{writes_byte, shows_byte, some_shows, ShowsLast, NoAreaTwice}
use Rattle.ec_line.proofs.SteadyLemmas.{managers_last, same_steady_trans, taken_lasts, after_steady}
use Rattle.ec_line.proofs.SteadyLemmas.{after_controller, accepts_lasts}
use Rattle.ec_line.proofs.FrameLemmas.{after_frame_keeps}
use Rattle.ec_line.proofs.MemoryLemmas.{twice_is_once, same_memory_after}

-- ---- one item

-- a byte that the item does not write stays
byte_kept : (e : Entry) (x y : ControllerState) (a : ℕ) → IsController x → IsController y → SameSteady x y
    → writes_byte x a e ≡ false
    → get_or (after e.request e.sent.payload y).memory a 0 ≡ get_or y.memory a 0
unfolding written_through
byte_kept e x y a was controller same unwritten =
    get_or-with_bits_kept y.memory e.sent.payload (taken e.request y) a controller.memory
    (λ b below.
    ap (λ (f : ℕ → Option ℕ). f (8 * a + b)) (taken_lasts e.request x y was same)
    ∙ names_none (λ c. taken e.request x (8 * a + c)) 8 b unwritten below)

-- a shown byte after the item
shown_item : (e : Entry) (x y : ControllerState) (k : ℕ) → IsController x → IsController y → SameSteady x y
    → k < length y.shown
    → get_or (after e.request e.sent.payload y).shown k 0
    ≡ cond (shows_byte x (PROCESS_MEMORY + k) e)
    (get_or (after e.request e.sent.payload y).memory (PROCESS_MEMORY + k) 0) (get_or y.shown k 0)
unfolding written_through
shown_item e x y k was controller same inside =
    let r = e.request in
    let memory : List ℕ = with_bits y.memory e.sent.payload (taken r y) in
    let managers = sync_managers_of y.memory in
    let anew : is_shown_anew (touches (taken r y)) managers managers (4096 + k) ≡ shows_byte x (4096 + k) e =
    ap (λ (f : ℕ → Option ℕ). is_shown_anew (touches f) managers managers (4096 + k))
    (taken_lasts r x y was same)
    ∙ ap (λ (ms : List SyncMan). is_shown_anew (touches (taken r x)) ms ms (4096 + k))
    (managers_last x y was same) in
    get_or-shown_after (touches (taken r y)) managers managers memory y.shown k inside
    ∙ ap (λ b. cond b (get_or memory (4096 + k) 0) (get_or y.shown k 0)) anew

-- ---- a frame

-- a byte that no entry writes stays
byte_kept_frame : (es : List Entry) (x y : ControllerState) (a : ℕ) → IsController x → IsController y
    → SameSteady x y → AcceptsAll es x
    → AllByRecursion (λ e. writes_byte x a e ≡ false) es
    → get_or (after_frame es y).memory a 0 ≡ get_or y.memory a 0
unfolding after_frame
byte_kept_frame [] x y a was controller same accepts unwritten = refl
byte_kept_frame (e ∷ es) x y a was controller same accepts unwritten =
    let r = e.request in
    let accepts_now : Accepts r y = accepts_lasts r x y was same accepts.0 in
    let next : ControllerState = after r e.sent.payload y in
    byte_kept_frame es x next a was (after_controller r e.sent.payload y controller)
    (same_steady_trans x y next was same (after_steady r e.sent.payload y controller accepts_now)) accepts.1
    unwritten.1
    ∙ byte_kept e x y a was controller same unwritten.0

-- what is shown behind a frame: the memory's byte where some entry showed it, else as it was
pub shown_frame : (es : List Entry) (x y : ControllerState) (k : ℕ) → IsController x → IsController y
    → SameSteady x y → AcceptsAll es x
    → k < length y.shown → ShowsLast x (PROCESS_MEMORY + k) es
    → get_or (after_frame es y).shown k 0
    ≡ cond (some_shows x (PROCESS_MEMORY + k) es) (get_or (after_frame es y).memory (PROCESS_MEMORY + k) 0)
    (get_or y.shown k 0)
unfolding after_frame
shown_frame [] x y k was controller same accepts inside last = refl
shown_frame (e ∷ es) x y k was controller same accepts inside last =
    let a = 4096 + k in
    let r = e.request in
    let accepts_now : Accepts r y = accepts_lasts r x y was same accepts.0 in
    let next : ControllerState = after r e.sent.payload y in
    let next_is : IsController next = after_controller r e.sent.payload y controller in
    let next_same : SameSteady x next =
    same_steady_trans x y next was same (after_steady r e.sent.payload y controller accepts_now) in
    let size = next_is.shown_size in
    let was_size = controller.shown_size in
    let final : ControllerState = after_frame es next in
    let rest : get_or final.shown k 0
    ≡ cond (some_shows x a es) (get_or final.memory a 0) (get_or next.shown k 0) =
    shown_frame es x next k was next_is next_same accepts.1 (omega arith) last.1 in
    let here : get_or next.shown k 0 ≡ cond (shows_byte x a e) (get_or next.memory a 0) (get_or y.shown k 0) =
    shown_item e x y k was controller same inside in
    let goal : Bool → Bool
    → Type 0 = λ s l. cond l (get_or final.memory a 0) (cond s (get_or next.memory a 0) (get_or y.shown k 0))
    ≡ cond (s || l) (get_or final.memory a 0) (get_or y.shown k 0) in
    let P : Bool → Type 0 = λ s. shows_byte x a e ≡ s → goal s (some_shows x a es) in
    let Q : Bool → Type 0 = λ l. some_shows x a es ≡ l → shows_byte x a e ≡ true → goal true l in
    let R : Bool → Type 0 = λ l. goal false l in
    rest
    ∙ ap (cond (some_shows x a es) (get_or final.memory a 0)) here
    ∙ elim (shows_byte x a e) as P [
      | true ↦ λ shows. elim (some_shows x a es) as Q [
        | true ↦ λ _ _. refl
        | false ↦ λ none s. sym (byte_kept_frame es x next a was next_is next_same accepts.1 (last.0 s none))
      ] refl shows
      | false ↦ λ _. elim (some_shows x a es) as R [ true ↦ refl | false ↦ refl ]
    ] refl

-- a condition twice is a condition once
cond_twice : (b : Bool) (v w : ℕ) → cond b v (cond b v w) ≡ cond b v w
cond_twice true v w = refl
cond_twice false v w = refl

-- so a frame twice shows what a frame once shows
pub shown_twice : (es : List Entry) (x y : ControllerState) (k : ℕ) → IsController x → IsController y
    → SameSteady x y → AcceptsAll es x
    → k < length y.shown → ShowsLast x (PROCESS_MEMORY + k) es
    → get_or (after_frame es (after_frame es y)).shown k 0 ≡ get_or (after_frame es y).shown k 0
shown_twice es x y k was controller same accepts inside last =
    let a = 4096 + k in
    let once : ControllerState = after_frame es y in
    let twice : ControllerState = after_frame es once in
    let kept = after_frame_keeps es x y was controller same accepts in
    let size = kept.0.shown_size in
    let was_size = controller.shown_size in
    let first = shown_frame es x y k was controller same accepts inside last in
    let memory : get_or twice.memory a 0 ≡ get_or once.memory a 0 =
    ap (λ (m : List ℕ). get_or m a 0) (twice_is_once es x y was controller same accepts) in
    shown_frame es x once k was kept.0 kept.1 accepts (omega arith) last
    ∙ ap (λ v. cond (some_shows x a es) v (get_or once.shown k 0)) memory
    ∙ ap (cond (some_shows x a es) (get_or once.memory a 0)) first
    ∙ cond_twice (some_shows x a es) (get_or once.memory a 0) (get_or y.shown k 0)
    ∙ sym first

-- and two of the same memory that show the same do so behind a frame
pub shown_same : (es : List Entry) (x y z : ControllerState) (k : ℕ) → IsController x → IsController y
    → IsController z → SameSteady x y → SameSteady x z
    → AcceptsAll es x → k < length y.shown → ShowsLast x (PROCESS_MEMORY + k) es → y.memory ≡ z.memory
    → get_or y.shown k 0 ≡ get_or z.shown k 0
    → get_or (after_frame es y).shown k 0 ≡ get_or (after_frame es z).shown k 0
shown_same es x y z k was y_is z_is y_same z_same accepts inside last memory shown =
    let a = 4096 + k in
    let y_size = y_is.shown_size in
    let z_size = z_is.shown_size in
    shown_frame es x y k was y_is y_same accepts inside last
    ∙ ap (λ (m : List ℕ). cond (some_shows x a es) (get_or m a 0) (get_or y.shown k 0))
    (same_memory_after es x y z was y_is z_is y_same z_same accepts memory)
    ∙ ap (cond (some_shows x a es) (get_or (after_frame es z).memory a 0)) shown
    ∙ sym (shown_frame es x z k was z_is z_same accepts (omega arith) last)

-- ---- no area is written by two entries

-- what is shown anew lies in an area of outputs, whose last byte was written
pub shown_anew_area : (f : ℕ → Bool) (managers : List SyncMan) (a : ℕ) (P : SyncMan → Type 0)
    → is_shown_anew f managers managers a ≡ true
    → AllByRecursion P managers
    → (s : SyncMan) × P s × (guards s a ≡ true) × (is_buffered s ≡ true) × (master_writes s ≡ true)
    × (guards s (s.start + s.length - 1) ≡ true) × (f (s.start + s.length - 1) ≡ true)
unfolding is_shown_anew
shown_anew_area f [] a P shown all = absurd (cc)
shown_anew_area f (s ∷ ss) a P shown all =
    ⊎_elim
    (λ (here : (hands_over f s s && guards s a) ≡ true).
    let parts = and_parts (hands_over f s s) (guards s a) here in
    let last = s.start + s.length - 1 in
    let active = and_parts (is_active s) (not (is_active s) || (is_buffered s && master_writes s && f last))
    parts.0 in
    let rest : (not (is_active s) || (is_buffered s && master_writes s && f last))
    ≡ (is_buffered s && master_writes s && f last) = rw active.0 refl in
    let reached = and_parts (is_buffered s && master_writes s) (f last) (sym rest ∙ active.1) in
    let kind = and_parts (is_buffered s) (master_writes s) reached.0 in
    let place = guards_parts s a parts.1 in
    let from = place.1 in
    let till = place.2 in
    (s, all.0, parts.1, kind.0, kind.1, guards_from s last active.0 (omega arith) (omega arith), reached.1))
    (λ (elsewhere : (hands_over f s s && guards s a) ≡ false).
    let behind : is_shown_anew f ss ss a ≡ true = rw elsewhere at shown in
    shown_anew_area f ss a P behind all.1)
    (cases_Bool (hands_over f s s && guards s a))

-- an entry that writes into no area that another one shows does not write the byte
unwritten_by : (x : ControllerState) (a : ℕ) (e : Entry) (es : List Entry) → shows_byte x a e ≡ true
    → AllByRecursion (λ f. AllByRecursion (λ s. (b c : ℕ) → guards s b ≡ true → guards s c ≡ true
    → is_buffered s ≡ true → master_writes s ≡ true → writes_byte x b e ≡ true → writes_byte x c f ≡ true → ⊥)
    (sync_managers_of x.memory)) es
    → AllByRecursion (λ f. writes_byte x a f ≡ false) es
unwritten_by x a e [] shows apart = tt
unwritten_by x a e (f ∷ fs) shows apart =
    let area = shown_anew_area (λ b. writes_byte x b e) (sync_managers_of x.memory) a
    (λ s. (b c : ℕ) → guards s b ≡ true → guards s c ≡ true → is_buffered s ≡ true → master_writes s ≡ true
    → writes_byte x b e ≡ true → writes_byte x c f ≡ true → ⊥)
    shows apart.0 in
    let last = area.0.start + area.0.length - 1 in
    let unwritten : writes_byte x a f ≡ false =
    ⊎_elim
    (λ (written : writes_byte x a f ≡ true).
    absurd (area.1 last a area.5 area.2 area.3 area.4 area.6 written))
    (λ (kept : writes_byte x a f ≡ false). kept)
    (cases_Bool (writes_byte x a f)) in
    (unwritten, unwritten_by x a e fs shows apart.1)

-- then the last entry that shows a byte is the last that writes it
pub shows_last : (x : ControllerState) (a : ℕ) (es : List Entry) → NoAreaTwice x es → ShowsLast x a es
shows_last x a [] apart = tt
shows_last x a (e ∷ es) apart = (λ shows none. unwritten_by x a e es shows apart.0, shows_last x a es apart.1)
