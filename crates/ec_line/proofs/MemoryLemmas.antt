-- A frame twice is a frame once, for memory: each bit holds what the last entry that writes it sent.
use Rattle.std.proofs.Common.{◌≡◌, ℕ, ◌*◌, ◌<◌, false, List, []}
use Rattle.std.proofs.Common.{◌∷◌, Option, None, Some}
use Rattle.std.proofs.Common.{sym, ◌∙◌, ap, refl, arith}
use Rattle.std.specs.List.{AllByRecursion}
use Rattle.std.specs.Option.{option_map, unwrap_or}
use Rattle.std.proofs.Math.Path.{fun_ext}
use Rattle.ec_regs.specs.Bits.{bit, placed_bit, with_bits, later}
use Rattle.ec_regs.specs.declared.registers.TheConstants.{MEMORY_SIZE}
use Rattle.ec_regs.proofs.Laws.{bit-with_bits, placed_bit_taken, placed_bit_kept, same_from_list_bits}
use Rattle.ec_regs.proofs.Laws.{with_bits_none}
use Rattle.ec_areas.specs.Records.{sync_managers_of}
use Rattle.ec_areas.proofs.Laws.{names_nowhere}
use Rattle.ec_esc.specs.State.{ControllerState, IsController}
use Rattle.ec_esc.specs.Writing.{shown_after}
use Rattle.ec_esc.specs.Pass.{touches}
use Rattle.ec_esc.proofs.Laws.{shown_after_same, shown_after_nothing}
use Rattle.ec_line.specs.Accepted.{Accepts, AcceptsAll}
use Rattle.ec_line.specs.After.{Entry, written_through, after, after_frame}
use Rattle.ec_line.specs.Steady.{SameSteady}
use Rattle.ec_line.specs.Claims.{taken, gain}
use Rattle.ec_line.specs.Request.{Request}
use Rattle.ec_line.proofs.SteadyLemmas.{same_steady_trans, taken_lasts, after_steady, after_controller}
use Rattle.ec_line.proofs.SteadyLemmas.{accepts_lasts}
use Rattle.ec_line.proofs.FitLemmas.{IsSilent, silent}
use Rattle.ec_line.proofs.FrameLemmas.{after_frame_keeps}

-- ---- the bit that stands behind a frame

-- the value that the last entry which writes a memory bit has sent for it, if one writes it
unfoldable pub last_sent : List Entry → ControllerState → ℕ → Option ℕ
last_sent [] x p = None
last_sent (e ∷ es) x p = later (option_map (bit e.sent.payload) (taken e.request x p)) (last_sent es x p)

-- the second of two values, else the first, else what stood there
later_or : (a b : Option ℕ) (v : ℕ) → unwrap_or (later a b) v ≡ unwrap_or b (unwrap_or a v)
later_or a None v = refl
later_or a (Some w) v = refl

-- one item
bit_after : (r : Request) (payload : List ℕ) (y : ControllerState) (p : ℕ) → IsController y
    → p < 8 * MEMORY_SIZE
    → bit (after r payload y).memory p ≡ unwrap_or (option_map (bit payload) (taken r y p)) (bit y.memory p)
unfolding written_through
bit_after r payload y p controller inside =
    let size = controller.memory_size in
    let P : Option ℕ → Type 0 =
    λ o. taken r y p ≡ o
    → placed_bit y.memory payload (taken r y) p ≡ unwrap_or (option_map (bit payload) o) (bit y.memory p) in
    bit-with_bits y.memory payload (taken r y) p (omega arith)
    ∙ elim (taken r y p) as P [
      | None ↦ λ none. placed_bit_kept y.memory payload (taken r y) p none
      | Some i ↦ λ some. placed_bit_taken y.memory payload (taken r y) p i some
    ] refl

-- all of a frame
pub bit_after_frame : (es : List Entry) (x y : ControllerState) (p : ℕ) → IsController x → IsController y
    → SameSteady x y → AcceptsAll es x
    → p < 8 * MEMORY_SIZE → bit (after_frame es y).memory p ≡ unwrap_or (last_sent es x p) (bit y.memory p)
unfolding after_frame last_sent
bit_after_frame [] x y p was controller same accepts inside = refl
bit_after_frame (e ∷ es) x y p was controller same accepts inside =
    let r = e.request in
    let accepts_now : Accepts r y = accepts_lasts r x y was same accepts.0 in
    let next : ControllerState = after r e.sent.payload y in
    let next_same : SameSteady x next =
    same_steady_trans x y next was same (after_steady r e.sent.payload y controller accepts_now) in
    let value : Option ℕ = option_map (bit e.sent.payload) (taken r x p) in
    let here : bit next.memory p ≡ unwrap_or value (bit y.memory p) =
    bit_after r e.sent.payload y p controller inside
    ∙ ap (λ (f : ℕ → Option ℕ). unwrap_or (option_map (bit e.sent.payload) (f p)) (bit y.memory p))
    (taken_lasts r x y was same) in
    bit_after_frame es x next p was (after_controller r e.sent.payload y controller) next_same accepts.1
    inside
    ∙ ap (unwrap_or (last_sent es x p)) here
    ∙ sym (later_or value (last_sent es x p) (bit y.memory p))

-- the memory behind a frame hangs on the memory before it alone
pub same_memory_after : (es : List Entry) (x y z : ControllerState) → IsController x → IsController y
    → IsController z → SameSteady x y → SameSteady x z
    → AcceptsAll es x → y.memory ≡ z.memory → (after_frame es y).memory ≡ (after_frame es z).memory
same_memory_after es x y z was y_is z_is y_same z_same accepts memory =
    let one = after_frame_keeps es x y was y_is y_same accepts in
    let two = after_frame_keeps es x z was z_is z_same accepts in
    let one_size = one.0.memory_size in
    same_from_list_bits (after_frame es y).memory (after_frame es z).memory (one_size ∙ sym two.0.memory_size)
    one.0.memory two.0.memory
    (λ p inside.
    let below : p < 8 * MEMORY_SIZE = omega arith in
    bit_after_frame es x y p was y_is y_same accepts below
    ∙ ap (λ (m : List ℕ). unwrap_or (last_sent es x p) (bit m p)) memory
    ∙ sym (bit_after_frame es x z p was z_is z_same accepts below))

-- a frame twice is a frame once
pub settled_or : (o : Option ℕ) (v : ℕ) → unwrap_or o (unwrap_or o v) ≡ unwrap_or o v
settled_or None v = refl
settled_or (Some w) v = refl

pub twice_is_once : (es : List Entry) (x y : ControllerState) → IsController x → IsController y → SameSteady x y
    → AcceptsAll es x
    → (after_frame es (after_frame es y)).memory ≡ (after_frame es y).memory
twice_is_once es x y was controller same accepts =
    let once = after_frame_keeps es x y was controller same accepts in
    let again : ControllerState = after_frame es y in
    let twice = after_frame_keeps es x again was once.0 once.1 accepts in
    let twice_size = twice.0.memory_size in
    same_from_list_bits (after_frame es again).memory again.memory (twice_size ∙ sym once.0.memory_size)
    twice.0.memory once.0.memory
    (λ p inside.
    let below : p < 8 * MEMORY_SIZE = omega arith in
    let v = bit y.memory p in
    let first : bit again.memory p ≡ unwrap_or (last_sent es x p) v =
    bit_after_frame es x y p was controller same accepts below in
    bit_after_frame es x again p was once.0 once.1 accepts below
    ∙ ap (unwrap_or (last_sent es x p)) first
    ∙ settled_or (last_sent es x p) v
    ∙ sym first)

-- ---- silent controllers

-- an item of which a controller takes nothing leaves it
pub after_untaken : (r : Request) (payload : List ℕ) (y : ControllerState) → IsController y
    → ((p : ℕ) → taken r y p ≡ None) → after r payload y ≡ y
unfolding written_through
after_untaken r payload y controller takes =
    let none : taken r y ≡ (λ _. None) = fun_ext takes in
    let managers = sync_managers_of y.memory in
    let F : (ℕ → Option ℕ) → ControllerState = λ f. record y {
      memory = with_bits y.memory payload f;
      shown = shown_after (touches f) managers managers (with_bits y.memory payload f) y.shown;
    } in
    let kept : with_bits y.memory payload (λ _. None) ≡ y.memory =
    with_bits_none y.memory payload (λ _. None) controller.memory (λ i inside. refl) in
    let untouched : (a : ℕ) → touches (λ _. None) a ≡ false =
    λ a. names_nowhere (λ _. None) 8 (λ i below. refl) in
    let shown : shown_after (touches (λ _. None)) managers managers y.memory y.shown ≡ y.shown =
    shown_after_same (touches (λ _. None)) (λ _. false) managers managers y.memory y.shown untouched
    ∙ shown_after_nothing managers y.memory y.shown in
    ap F none
    ∙ ap (λ (m : List ℕ).
    record y { memory = m; shown = shown_after (touches (λ _. None)) managers managers m y.shown }) kept
    ∙ ap (λ (s : List ℕ). record y { shown = s }) shown

-- a controller that is silent at each entry
abbrev pub IsSilentAt : List Entry → ControllerState → Type 0
IsSilentAt es x = AllByRecursion (λ e. gain e.request x ≡ 0) es

-- is left as it was
pub after_frame_silent : (es : List Entry) (x y : ControllerState) → IsController x → IsController y
    → SameSteady x y → IsSilentAt es x
    → after_frame es y ≡ y
unfolding after_frame
after_frame_silent [] x y was controller same still = refl
after_frame_silent (e ∷ es) x y was controller same still =
    let r = e.request in
    let at_first : IsSilent r x = silent r x still.0 in
    let takes : (p : ℕ) → taken r y p ≡ None =
    λ p. ap (λ (f : ℕ → Option ℕ). f p) (taken_lasts r x y was same) ∙ at_first.takes p in
    let kept : after r e.sent.payload y ≡ y = after_untaken r e.sent.payload y controller takes in
    ap (after_frame es) kept ∙ after_frame_silent es x y was controller same still.1
