-- Serving the slave information interface of a controller leaves all but its registers.
use Rattle.std.proofs.Common.{◌≡◌, ⊎_elim, ℕ, ◌+◌, ◌<◌, ◌≤◌, Bool, true, false, cond, List, length, get_or}
use Rattle.std.proofs.Common.{take, drop}
use Rattle.std.proofs.Common.{refl, sym, ◌∙◌, ap, subst, arith, ◌⊎◌, inl, inr, ltb, leb, ◌&&◌}
use Rattle.std.proofs.lemmas.Bool.{cases_Bool}
use Rattle.std.proofs.lemmas.Bool.Decides.{nat_tests}
use Rattle.std.proofs.lemmas.List.{length-take-le, length-drop}
use Rattle.ec_regs.specs.Bits.{AreBytes}
use Rattle.ec_regs.proofs.Laws.{AreBytes-run, get_or-run}
use Rattle.ec_areas.specs.Ranges.{has_sii, is_in_sii}
use Rattle.ec_regs.specs.declared.registers.TheConstants.{MEMORY_SIZE}
use Rattle.ec_esc.specs.Application.{sii_registers, with_registers}
use Rattle.ec_esc.specs.State.{ControllerState, IsController}
use Rattle.ec_esc.proofs.Laws.{registers_controller, length-with_run, get_or-with_run_beside}
use Rattle.ec_line.specs.Mapping.{mapping_of}
use Rattle.ec_line.specs.Moving.{HasMoved}
use Rattle.ec_line.proofs.Laws.{moved-refl}
use Rattle.ec_check.proofs.Laws.{mapping_told, moved_told}
use Rattle.ec_sii.specs.Served.{answered, served}
use Rattle.ec_sii.proofs.AnswerLemmas.{answered_small}

-- the registers are bytes
registers_small : (c : ControllerState) → IsController c → AreBytes (sii_registers c)
registers_small c is =
    let size : length (take 16 (drop 1280 c.memory)) ≡ 16 =
    length-take-le 16 (drop 1280 c.memory) (omega (arith, length-drop 1280 c.memory, is.memory_size)) in
    AreBytes-run (sii_registers c) c.memory 1280 16 (omega (arith, size)) is.memory
    (λ k below. get_or-run c.memory 1280 16 k below)

pub served_without : (contents : List ℕ) (c : ControllerState) → has_sii c.memory ≡ false
    → served contents c ≡ c
served_without contents c none = rw none refl

-- what holds of a controller that tells registers, and of one that stays, holds of one that was served
by_case : (P : ControllerState → Type 0) (contents : List ℕ) (c : ControllerState) → P c
    → P (with_registers c 1280 (answered contents (sii_registers c))) → P (served contents c)
by_case P contents c stays told =
    let there : Bool = has_sii c.memory in
    let after : ControllerState = with_registers c 1280 (answered contents (sii_registers c)) in
    let choice : Bool → ControllerState = λ b. cond b after c in
    ⊎_elim
    (λ (yes : there ≡ true). subst (λ (b : Bool). P (choice b)) (sym yes) told)
    (λ (no : there ≡ false). subst (λ (b : Bool). P (choice b)) (sym no) stays)
    (cases_Bool there)

pub served_controller : (contents : List ℕ) (c : ControllerState) → IsController c → AreBytes contents
    → IsController (served contents c)
served_controller contents c is are =
    let bytes : List ℕ = answered contents (sii_registers c) in
    by_case IsController contents c is
    (registers_controller c 1280 bytes is
    (answered_small contents (sii_registers c) are (registers_small c is)) refl)

pub served_mapping : (contents : List ℕ) (c : ControllerState) → IsController c → AreBytes contents
    → mapping_of (served contents c) ≡ mapping_of c
served_mapping contents c is are =
    let bytes : List ℕ = answered contents (sii_registers c) in
    by_case (λ (d : ControllerState). mapping_of d ≡ mapping_of c) contents c refl
    (mapping_told c 1280 bytes is refl
    (answered_small contents (sii_registers c) are (registers_small c is)))

pub served_moved : (contents : List ℕ) (c : ControllerState) → IsController c → AreBytes contents
    → HasMoved c (served contents c)
served_moved contents c is are =
    let bytes : List ℕ = answered contents (sii_registers c) in
    by_case (HasMoved c) contents c (moved-refl c)
    (moved_told c 1280 bytes is (answered_small contents (sii_registers c) are (registers_small c is)) refl)

-- ---- what it leaves

pub served_shown : (contents : List ℕ) (c : ControllerState) → (served contents c).shown ≡ c.shown
served_shown contents c = by_case (λ (d : ControllerState). d.shown ≡ c.shown) contents c refl refl

pub served_written : (contents : List ℕ) (c : ControllerState) → (served contents c).written ≡ c.written
served_written contents c = by_case (λ (d : ControllerState). d.written ≡ c.written) contents c refl refl

pub served_size : (contents : List ℕ) (c : ControllerState) → length c.memory ≡ MEMORY_SIZE
    → length (served contents c).memory ≡ MEMORY_SIZE
served_size contents c size =
    let bytes : List ℕ = answered contents (sii_registers c) in
    let inside : 1280 + length bytes ≤ length c.memory = omega (arith, size) in
    by_case (λ (d : ControllerState). length d.memory ≡ MEMORY_SIZE) contents c size
    (length-with_run c.memory bytes 1280 inside ∙ size)

-- an address beside the interface lies before or behind it
beside_sii : (a : ℕ) → is_in_sii a ≡ false → (a < 1280) ⊎ (1296 ≤ a)
beside_sii a beside =
    ⊎_elim
    (λ (from : leb 1280 a ≡ true).
    let past : ltb a 1296 ≡ false = ap (λ (b : Bool). b && ltb a 1296) (sym from) ∙ beside in
    inr (grind (arith, nat_tests)))
    (λ (before : leb 1280 a ≡ false). inl (grind (arith, nat_tests)))
    (cases_Bool (leb 1280 a))

pub served_beside : (contents : List ℕ) (c : ControllerState) (a : ℕ) → length c.memory ≡ MEMORY_SIZE
    → is_in_sii a ≡ false → get_or (served contents c).memory a 0 ≡ get_or c.memory a 0
served_beside contents c a size beside =
    let bytes : List ℕ = answered contents (sii_registers c) in
    let inside : 1280 + length bytes ≤ length c.memory = omega (arith, size) in
    by_case (λ (d : ControllerState). get_or d.memory a 0 ≡ get_or c.memory a 0) contents c refl
    (get_or-with_run_beside c.memory bytes 1280 a inside (beside_sii a beside))
