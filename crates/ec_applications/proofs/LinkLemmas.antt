-- What a line keeps that is told of its links, and what each of its slaves is told.
use Rattle.std.proofs.Common.{◌≡◌, ◌≢◌, ⊎_elim, refl, ℕ, zero, suc, ◌<◌, ◌≤◌, Bool, true, false, length, Option, Some}
use Rattle.std.proofs.Common.{None, inl, inr, ◌∙◌, ap, subst, sym, arith, cond, get_or, List, [], ◌∷◌}
use Rattle.std.proofs.lemmas.Bool.{cases_Bool}
use Rattle.std.proofs.lemmas.Bool.Decides.{eqb_tells}
use Rattle.std.proofs.lemmas.List.{length-set}
use Rattle.std.proofs.lemmas.Option.{slice_get_within}
use Rattle.std.specs.Int.{w16, to_le_bytes}
use Rattle.std.specs.Prelude.{slice_get, not, ◌&&◌}
use Rattle.ec_app.specs.State.{SlaveState}
use Rattle.ec_areas.specs.Ranges.{has_sii}
use Rattle.ec_check.proofs.Laws.{moved_told}
use Rattle.ec_esc.specs.Application.{lost_links, with_registers}
use Rattle.ec_esc.specs.State.{ControllerState, IsController, word_at}
use Rattle.ec_esc.proofs.Laws.{registers_controller}
use Rattle.ec_line.specs.Moving.{HasMoved}
use Rattle.ec_line.proofs.Laws.{moved-refl, moved-trans}
use Rattle.ec_regs.specs.Bits.{AreBytes}
use Rattle.ec_regs.specs.declared.registers.TheConstants.{DL_STATUS, LOST_LINK}
use Rattle.ec_ring.specs.Ring.{RingState}
use Rattle.ec_applications.specs.Links.{all_told, controller_told, dl_status, first_told, place_told, slave_told}
use Rattle.ec_applications.specs.Links.{counted, has_link, is_lost, lost_after, with_links}
use Rattle.ec_applications.proofs.LeftLemmas.{get-same, get-other}

-- what the slave at a place is told
abbrev pub status_at : (ℕ → Bool) → ℕ → ℕ
status_at is_up k = dl_status (is_up k) (is_up (suc k))

-- ---- one slave

place_links : (place status : ℕ) (r : RingState) (found : Option SlaveState)
    → (place_told place status r found).links ≡ r.links
place_links place status r None = refl
place_links place status r (Some s) = refl

place_size : (place status : ℕ) (r : RingState) (found : Option SlaveState)
    → length (place_told place status r found).slaves ≡ length r.slaves
place_size place status r None = refl
place_size place status r (Some s) = length-set r.slaves place (slave_told status s)

place_beside : (place status : ℕ) (r : RingState) (found : Option SlaveState) (k : ℕ) → k ≢ place
    → slice_get (place_told place status r found).slaves k ≡ slice_get r.slaves k
place_beside place status r None k apart = refl
place_beside place status r (Some s) k apart = get-other r.slaves place k (slave_told status s) apart

place_own : (place status : ℕ) (r : RingState) (found : Option SlaveState) (before : SlaveState)
    → slice_get r.slaves place ≡ found → found ≡ Some before
    → slice_get (place_told place status r found).slaves place ≡ Some (slave_told status before)
place_own place status r None before at is = absurd cc
place_own place status r (Some s) before at is =
    let same : s ≡ before = cc in
    get-same r.slaves place (slave_told status s) (slice_get_within r.slaves place s at)
    ∙ ap (λ (t : SlaveState). Some (slave_told status t)) same

-- ---- the line

pub told_links : (is_up : ℕ → Bool) (n : ℕ) (r : RingState) → (first_told is_up n r).links ≡ r.links
told_links is_up zero r = refl
told_links is_up (suc k) r =
    place_links k (status_at is_up k) (first_told is_up k r) (slice_get (first_told is_up k r).slaves k)
    ∙ told_links is_up k r

pub told_size : (is_up : ℕ → Bool) (n : ℕ) (r : RingState)
    → length (first_told is_up n r).slaves ≡ length r.slaves
told_size is_up zero r = refl
told_size is_up (suc k) r =
    place_size k (status_at is_up k) (first_told is_up k r) (slice_get (first_told is_up k r).slaves k)
    ∙ told_size is_up k r

-- what is told goes by which links are up
pub told_same : (f g : ℕ → Bool) → ((k : ℕ) → f k ≡ g k) → (n : ℕ) (r : RingState)
    → first_told f n r ≡ first_told g n r
told_same f g same zero r = refl
told_same f g same (suc k) r = rw (same k, same (suc k), told_same f g same k r) refl

-- a slave whose turn has not come is as it was
told_later : (is_up : ℕ → Bool) (n : ℕ) (r : RingState) (k : ℕ) → n ≤ k
    → slice_get (first_told is_up n r).slaves k ≡ slice_get r.slaves k
told_later is_up zero r k later = refl
told_later is_up (suc n) r k later =
    place_beside n (status_at is_up n) (first_told is_up n r) (slice_get (first_told is_up n r).slaves n) k
    (λ (e : k ≡ n). absurd (omega (arith, later, e)))
    ∙ told_later is_up n r k (omega (arith, later))

-- and one that had it was told of the links beside it
told_own : (is_up : ℕ → Bool) (n : ℕ) (r : RingState) (k : ℕ) (before : SlaveState)
    → slice_get r.slaves k ≡ Some before → k < n
    → slice_get (first_told is_up n r).slaves k ≡ Some (slave_told (status_at is_up k) before)
told_own is_up zero r k before there inside = absurd (omega (arith, inside))
told_own is_up (suc n) r k before there inside =
    elim (eqb_tells k n) [
      | inl h ↦
          let at : slice_get (first_told is_up n r).slaves n ≡ Some before =
          told_later is_up n r n (omega arith)
          ∙ subst (λ (i : ℕ). slice_get r.slaves i ≡ Some before) h.1 there in
          subst (λ (i : ℕ). slice_get (first_told is_up (suc n) r).slaves i
          ≡ Some (slave_told (status_at is_up i) before)) (sym h.1)
          (place_own n (status_at is_up n) (first_told is_up n r)
          (slice_get (first_told is_up n r).slaves n) before refl at)
      | inr h ↦
          place_beside n (status_at is_up n) (first_told is_up n r)
          (slice_get (first_told is_up n r).slaves n) k h.1
          ∙ told_own is_up n r k before there (let apart : k ≢ n = h.1 in omega (arith, inside, apart))
    ]

pub all_own : (is_up : ℕ → Bool) (r : RingState) (k : ℕ) (before : SlaveState)
    → slice_get r.slaves k ≡ Some before
    → slice_get (all_told is_up r).slaves k ≡ Some (slave_told (status_at is_up k) before)
all_own is_up r k before there =
    told_own is_up (length r.slaves) r k before there (slice_get_within r.slaves k before there)

-- ---- lost links

-- DL status tells of the links
link_before : (before behind : Bool) → has_link (dl_status before behind) 0 ≡ before
link_before true true = refl
link_before true false = refl
link_before false true = refl
link_before false false = refl

link_behind : (before behind : Bool) → has_link (dl_status before behind) 1 ≡ behind
link_behind true true = refl
link_behind true false = refl
link_behind false true = refl
link_behind false false = refl

-- so a link is lost that was there and is there no more
pub lost_before : (before behind later_before later_behind : Bool)
    → is_lost (dl_status before behind) (dl_status later_before later_behind) 0 ≡ (before && not later_before)
lost_before before behind later_before later_behind = λ i.
    link_before before behind i && not (link_before later_before later_behind i)

pub lost_behind : (before behind later_before later_behind : Bool)
    → is_lost (dl_status before behind) (dl_status later_before later_behind) 1 ≡ (behind && not later_behind)
lost_behind before behind later_before later_behind = λ i.
    link_behind before behind i && not (link_behind later_before later_behind i)

-- ---- what is told is a move

two_small : (status k : ℕ) → get_or (to_le_bytes w16 status) k 0 < 256
two_small status zero = omega arith
two_small status (suc zero) = omega arith
two_small status (suc (suc k)) = omega arith

-- a counter is a byte
counted_small : (lost : Bool) (count : ℕ) → count < 256 → counted lost count < 256
counted_small true count small = omega arith
counted_small false count small = small

both_small : (a b k : ℕ) → a < 256 → b < 256 → get_or (a ∷ b ∷ []) k 0 < 256
both_small a b zero first second = first
both_small a b (suc zero) first second = second
both_small a b (suc (suc k)) first second = omega arith

lost_small : (c : ControllerState) (before now : ℕ) → IsController c
    → AreBytes (lost_after before now (lost_links c))
lost_small c before now is = λ k.
    both_small (counted (is_lost before now 0) (get_or c.memory 784 0))
    (counted (is_lost before now 1) (get_or c.memory 785 0)) k
    (counted_small (is_lost before now 0) (get_or c.memory 784 0) (is.memory 784))
    (counted_small (is_lost before now 1) (get_or c.memory 785 0) (is.memory 785))

-- a controller with new links stays one, and has moved
links_told : (status : ℕ) (c : ControllerState) → IsController c
    → IsController (with_links c status) × HasMoved c (with_links c status)
links_told status c is =
    let bytes : List ℕ = to_le_bytes w16 status in
    let lost : List ℕ = lost_after (word_at c.memory DL_STATUS) status (lost_links c) in
    let small : AreBytes lost = lost_small c (word_at c.memory DL_STATUS) status is in
    let mid : ControllerState = with_registers c DL_STATUS bytes in
    let mid_is : IsController mid = registers_controller c DL_STATUS bytes is (two_small status) refl in (
      registers_controller mid LOST_LINK lost mid_is small refl,
      moved-trans c mid (with_registers mid LOST_LINK lost)
          (moved_told c DL_STATUS bytes is (two_small status) refl)
          (moved_told mid LOST_LINK lost mid_is small refl),
    )

-- and so does one that tells of itself or not
by_told : (P : ControllerState → Type 0) (status : ℕ) (c : ControllerState) → P c → P (with_links c status)
    → P (controller_told status c)
by_told P status c same told =
    let choice : Bool → ControllerState = λ b. cond b (with_links c status) c in
    ⊎_elim
    (λ (yes : has_sii c.memory ≡ true). subst (λ (b : Bool). P (choice b)) (sym yes) told)
    (λ (no : has_sii c.memory ≡ false). subst (λ (b : Bool). P (choice b)) (sym no) same)
    (cases_Bool (has_sii c.memory))

pub told_controller : (status : ℕ) (c : ControllerState) → IsController c
    → IsController (controller_told status c)
told_controller status c is = by_told IsController status c is (links_told status c is).0

controller_moved : (status : ℕ) (c : ControllerState) → IsController c → HasMoved c (controller_told status c)
controller_moved status c is =
    by_told (λ (d : ControllerState). HasMoved c d) status c (moved-refl c) (links_told status c is).1

pub told_moved : (is_up : ℕ → Bool) (r : RingState) (k : ℕ) (before after : SlaveState)
    → slice_get r.slaves k ≡ Some before → slice_get (all_told is_up r).slaves k ≡ Some after
    → IsController before.controller → HasMoved before.controller after.controller
told_moved is_up r k before after there later is =
    let own = all_own is_up r k before there in
    let same : slave_told (status_at is_up k) before ≡ after = cc in
    subst (λ (s : SlaveState). HasMoved before.controller s.controller) same
    (controller_moved (status_at is_up k) before.controller is)
