-- What EEPROMs leave of a line, one after the other.
use Rattle.std.proofs.Common.{◌≡◌, ◌≢◌, refl, ℕ, zero, suc, ◌<◌, ◌≤◌, List, [], ◌∷◌, ◌++◌, length, take, drop}
use Rattle.std.proofs.Common.{set, get_or, Option, Some, None, inl, inr, false, true, ◌∙◌, ap, subst, sym, arith}
use Rattle.std.proofs.Common.{leb, ltb}
use Rattle.std.proofs.lemmas.Bool.Decides.{eqb_tells, nat_tests}
use Rattle.std.proofs.lemmas.List.{length-set}
use Rattle.std.proofs.lemmas.List.Elements.{All-head, All-tail}
use Rattle.std.proofs.lemmas.Option.{slice_get-get_or, slice_get_within}
use Rattle.std.specs.List.{All}
use Rattle.std.specs.Prelude.{slice_get, slice_set, slice_index}
use Rattle.ec_app.specs.State.{SlaveState}
use Rattle.ec_areas.specs.Ranges.{is_in_sii}
use Rattle.ec_esc.specs.State.{ControllerState, IsController}
use Rattle.ec_line.specs.Moving.{HasMoved}
use Rattle.ec_line.proofs.Laws.{moved-refl, moved-trans}
use Rattle.ec_regs.specs.Bits.{AreBytes}
use Rattle.ec_regs.specs.declared.registers.TheConstants.{PROCESS_MEMORY}
use Rattle.ec_ring.specs.Ring.{RingState}
use Rattle.ec_sii.proofs.Laws.{served_moved, served_controller, served_shown, served_written, served_size}
use Rattle.ec_sii.proofs.Laws.{served_beside}
use Rattle.ec_sii.specs.Served.{served as answered}
use Rattle.ec_applications.specs.Eeproms.{one_served, place_served, slave_served, all_served, all_kept}
use Rattle.ec_applications.specs.Eeproms.{placed_after}
use Rattle.ec_applications.specs.Left.{HasMemory}
use Rattle.ec_applications.specs.Repeats.{is_of_repeats, repeated}
use Rattle.ec_applications.specs.declared.eeproms.PlacedEeprom.{PlacedEeprom}
use Rattle.ec_applications.proofs.LeftLemmas.{get-same, get-other}
use Rattle.ec_applications.proofs.RepeatLemmas.{device_same, repeats_by, repeated_beside, repeated_controller}
use Rattle.ec_applications.proofs.RepeatLemmas.{repeated_moved, repeated_shown, repeated_size, repeated_written}

-- ---- one slave

-- what holds of each slave and itself, and of the slave at the place and itself served, holds of the slave at
-- any place and itself once one was served
by_place : (P : SlaveState → SlaveState → Type 0) (place : ℕ) (contents : List ℕ) (r : RingState)
    (found : Option SlaveState) (k : ℕ) (before after : SlaveState) → slice_get r.slaves place ≡ found
    → slice_get r.slaves k ≡ Some before
    → slice_get (place_served place contents r found).slaves k ≡ Some after
    → P before before → P before (slave_served contents before) → P before after
by_place P place contents r None k before after at there later same served =
    let is : before ≡ after = cc in subst (P before) is same
by_place P place contents r (Some s) k before after at there later same served =
    elim (eqb_tells k place) [
      | inl h ↦
          let here : k ≡ place = h.1 in
          let new : SlaveState = slave_served contents s in
          let stands : slice_get r.slaves place ≡ Some before = rw (← here) there in
          let is : s ≡ before = cc in
          let inside : place < length r.slaves = slice_get_within r.slaves place s at in
          let got : slice_get (slice_set r.slaves place new) place ≡ Some new =
          get-same r.slaves place new inside in
          let late : slice_get (slice_set r.slaves place new) place ≡ Some after =
          subst (λ (n : ℕ). slice_get (slice_set r.slaves place new) n ≡ Some after) here later in
          let same_new : new ≡ after = cc in
          subst (P before) same_new
          (subst (λ (t : SlaveState). P before (slave_served contents t)) (sym is) served)
      | inr h ↦
          let new : SlaveState = slave_served contents s in
          let got = get-other r.slaves place k new h.1 in
          let is : before ≡ after = cc in
          subst (P before) is same
    ]

by_one : (P : SlaveState → SlaveState → Type 0) (place : ℕ) (contents : List ℕ) (r : RingState) (k : ℕ)
    (before after : SlaveState) → slice_get r.slaves k ≡ Some before
    → slice_get (one_served place contents r).slaves k ≡ Some after
    → P before before → P before (slave_served contents before) → P before after
by_one P place contents r k before after there later same served =
    by_place P place contents r (slice_get r.slaves place) k before after refl there later same served

-- it is as before, or has moved, and stays one
pub one_moved : (place : ℕ) (contents : List ℕ) (r : RingState) (k : ℕ) (before after : SlaveState)
    → slice_get r.slaves k ≡ Some before → slice_get (one_served place contents r).slaves k ≡ Some after
    → IsController before.controller → AreBytes contents
    → HasMoved before.controller after.controller
one_moved place contents r k before after there later is are =
    by_one (λ (s t : SlaveState). HasMoved s.controller t.controller) place contents r k before after there
    later (moved-refl before.controller)
    (moved-trans before.controller (answered contents before.controller)
    (repeated (answered contents before.controller)) (served_moved contents before.controller is are)
    (repeated_moved (answered contents before.controller)
    (served_controller contents before.controller is are)))

one_controller : (place : ℕ) (contents : List ℕ) (r : RingState) (k : ℕ) (before after : SlaveState)
    → slice_get r.slaves k ≡ Some before → slice_get (one_served place contents r).slaves k ≡ Some after
    → IsController before.controller → AreBytes contents → IsController after.controller
one_controller place contents r k before after there later is are =
    by_one (λ (s t : SlaveState). IsController t.controller) place contents r k before after there later is
    (repeated_controller (answered contents before.controller)
    (served_controller contents before.controller is are))

-- what of a slave stays
pub record LeavesAllElse (s t : SlaveState) : Type 0 where
  pub application : t.application ≡ s.application
  pub shown : t.controller.shown ≡ s.controller.shown
  pub written : t.controller.written ≡ s.controller.written
  pub size : length t.controller.memory ≡ length s.controller.memory
  pub bytes : (a : ℕ) → is_in_sii a ≡ false → is_of_repeats s.controller.memory a ≡ false
      → slice_index t.controller.memory a ≡ slice_index s.controller.memory a

same : (s : SlaveState) → LeavesAllElse s s
same s = record {
  application = refl;
  shown = refl;
  written = refl;
  size = refl;
  bytes = λ a beside other. refl;
}

both : (s t u : SlaveState) → LeavesAllElse s t → LeavesAllElse t u → LeavesAllElse s u
both s t u first second = record {
  application = second.application ∙ first.application;
  shown = second.shown ∙ first.shown;
  written = second.written ∙ first.written;
  size = second.size ∙ first.size;
  bytes = λ a beside other.
      second.bytes a beside
      (repeats_by s.controller.memory t.controller.memory a
      (device_same s.controller.memory t.controller.memory (first.bytes 0 refl refl)) other)
      ∙ first.bytes a beside other;
}

served : (contents : List ℕ) (s : SlaveState) → HasMemory s → LeavesAllElse s (slave_served contents s)
served contents s size =
    let c : ControllerState = s.controller in
    let d : ControllerState = answered contents c in
    record {
      application = refl;
      shown = repeated_shown d ∙ served_shown contents c;
      written = repeated_written d ∙ served_written contents c;
      size = repeated_size d ∙ served_size contents c size ∙ sym size;
      bytes = λ a beside other.
          repeated_beside d a
          (repeats_by c.memory d.memory a
          (device_same c.memory d.memory (served_beside contents c 0 size refl)) other)
          ∙ served_beside contents c a size beside;
    }

one_leaves : (place : ℕ) (contents : List ℕ) (r : RingState) (k : ℕ) (before after : SlaveState)
    → slice_get r.slaves k ≡ Some before → slice_get (one_served place contents r).slaves k ≡ Some after
    → HasMemory before → LeavesAllElse before after
one_leaves place contents r k before after there later size =
    by_one LeavesAllElse place contents r k before after there later (same before)
    (served contents before size)

-- process memory is no register
pub process_beside : (a : ℕ) → PROCESS_MEMORY ≤ a → is_in_sii a ≡ false
process_beside a process =
    let from : leb 1280 a ≡ true = grind (arith, nat_tests) in
    let past : ltb a 1296 ≡ false = grind (arith, nat_tests) in
    rw (from, past) refl

-- ---- the line

place_size : (place : ℕ) (contents : List ℕ) (r : RingState) (found : Option SlaveState)
    → length (place_served place contents r found).slaves ≡ length r.slaves
place_size place contents r None = refl
place_size place contents r (Some s) = length-set r.slaves place (slave_served contents s)

place_links : (place : ℕ) (contents : List ℕ) (r : RingState) (found : Option SlaveState)
    → (place_served place contents r found).links ≡ r.links
place_links place contents r None = refl
place_links place contents r (Some s) = refl

place_beside : (place : ℕ) (contents : List ℕ) (r : RingState) (found : Option SlaveState) (k : ℕ)
    → place ≢ k → slice_get (place_served place contents r found).slaves k ≡ slice_get r.slaves k
place_beside place contents r None k apart = refl
place_beside place contents r (Some s) k apart =
    get-other r.slaves place k (slave_served contents s) (λ e. apart (sym e))

pub served_length : (all : List PlacedEeprom) (r : RingState)
    → length (all_served all r).slaves ≡ length r.slaves
served_length [] r = refl
served_length (one ∷ more) r =
    served_length more (one_served one.place one.eeprom r)
    ∙ place_size one.place one.eeprom r (slice_get r.slaves one.place)

pub served_links : (all : List PlacedEeprom) (r : RingState) → (all_served all r).links ≡ r.links
served_links [] r = refl
served_links (one ∷ more) r =
    served_links more (one_served one.place one.eeprom r)
    ∙ place_links one.place one.eeprom r (slice_get r.slaves one.place)

pub served_others : (all : List PlacedEeprom) (r : RingState) (k : ℕ)
    → All (λ (one : PlacedEeprom). one.place ≢ k) all
    → slice_get (all_served all r).slaves k ≡ slice_get r.slaves k
served_others [] r k apart = refl
served_others (one ∷ more) r k apart =
    served_others more (one_served one.place one.eeprom r) k
    (All-tail (λ (a : PlacedEeprom). a.place ≢ k) one more apart)
    ∙ place_beside one.place one.eeprom r (slice_get r.slaves one.place) k
    (All-head (λ (a : PlacedEeprom). a.place ≢ k) one more apart)

-- the slave at a place once the first one has answered
next_at : (one : PlacedEeprom) (r : RingState) (k : ℕ) (before : SlaveState)
    → slice_get r.slaves k ≡ Some before
    → slice_get (one_served one.place one.eeprom r).slaves k
    ≡ Some (get_or (one_served one.place one.eeprom r).slaves k before)
next_at one r k before there =
    let next : RingState = one_served one.place one.eeprom r in
    let inside : k < length next.slaves =
    rw (place_size one.place one.eeprom r (slice_get r.slaves one.place))
    (slice_get_within r.slaves k before there) in
    slice_get-get_or next.slaves k before inside

pub all_leave : (all : List PlacedEeprom) (r : RingState) (k : ℕ) (before after : SlaveState)
    → slice_get r.slaves k ≡ Some before → slice_get (all_served all r).slaves k ≡ Some after
    → HasMemory before → LeavesAllElse before after
all_leave [] r k before after there later size =
    let is : before ≡ after = cc in subst (LeavesAllElse before) is (same before)
all_leave (one ∷ more) r k before after there later size =
    let next : RingState = one_served one.place one.eeprom r in
    let mid : SlaveState = get_or next.slaves k before in
    let at : slice_get next.slaves k ≡ Some mid = next_at one r k before there in
    let first : LeavesAllElse before mid =
    one_leaves one.place one.eeprom r k before mid there at size in
    both before mid after first (all_leave more next k mid after at later (first.size ∙ size))

pub all_moved : (all : List PlacedEeprom) (r : RingState) (k : ℕ) (before after : SlaveState)
    → slice_get r.slaves k ≡ Some before → slice_get (all_served all r).slaves k ≡ Some after
    → IsController before.controller → All (λ (one : PlacedEeprom). AreBytes one.eeprom) all
    → HasMoved before.controller after.controller
all_moved [] r k before after there later is are =
    let same : before ≡ after = cc in
    subst (λ (s : SlaveState). HasMoved before.controller s.controller) same (moved-refl before.controller)
all_moved (one ∷ more) r k before after there later is are =
    let next : RingState = one_served one.place one.eeprom r in
    let mid : SlaveState = get_or next.slaves k before in
    let at : slice_get next.slaves k ≡ Some mid = next_at one r k before there in
    let bytes : AreBytes one.eeprom = All-head (λ (a : PlacedEeprom). AreBytes a.eeprom) one more are in
    moved-trans before.controller mid.controller after.controller
    (one_moved one.place one.eeprom r k before mid there at is bytes)
    (all_moved more next k mid after at later
    (one_controller one.place one.eeprom r k before mid there at is bytes)
    (All-tail (λ (a : PlacedEeprom). AreBytes a.eeprom) one more are))

-- ---- one after the other

-- once the next one has answered, those that are left make of the line what they made of it with that one
pub step_served : (xs : List PlacedEeprom) (k : ℕ) (r : RingState) (d y : PlacedEeprom) → k < length xs
    → all_served (drop (suc k) (set xs k y)) (one_served (get_or xs k d).place (get_or xs k d).eeprom r)
    ≡ all_served (drop k xs) r
step_served [] k r d y inside = absurd (omega arith)
step_served (x ∷ xs) zero r d y inside = refl
step_served (x ∷ xs) (suc k) r d y inside = step_served xs k r d y (omega arith)

pub step_kept : (xs : List PlacedEeprom) (k : ℕ) (r : RingState) (d : PlacedEeprom) → k < length xs
    → take (suc k) (set xs k (placed_after (get_or xs k d) r))
    ++ all_kept (drop (suc k) (set xs k (placed_after (get_or xs k d) r)))
    (one_served (get_or xs k d).place (get_or xs k d).eeprom r)
    ≡ take k xs ++ all_kept (drop k xs) r
step_kept [] k r d inside = absurd (omega arith)
step_kept (x ∷ xs) zero r d inside = refl
step_kept (x ∷ xs) (suc k) r d inside =
    ap (λ (ys : List PlacedEeprom). x ∷ ys) (step_kept xs k r d (omega arith))
