-- The last slave changes, or the line is at fault.
use Rattle.std.proofs.Common.{◌≡◌, ◌+◌, ℕ, zero, suc, List, [], ◌∷◌, Result, Ok, Err, ap, sym, ◌∙◌, arith}
use Rattle.std.proofs.Common.{length, map, slice_set, get_or}
use Rattle.ecat_scene.specs.declared.fault.LineFault.{LineFault}
use Rattle.ecat_scene.specs.declared.scene.SceneSlave.{SceneSlave}
use Rattle.ecat_scene.specs.Deeds.{with_last}
use Rattle.ecat_scene.specs.Scene.{slave_record, SlaveRecord}
use Rattle.ecat_scene.specs.Words.{◌>>=◌}

-- where the change is at fault for the last one
pub last-fault : (change : SlaveRecord → Result SlaveRecord LineFault) (xs : List SceneSlave) (i : ℕ)
    (x : SceneSlave) (fault : LineFault) → i + 1 ≡ length xs → x ≡ get_or xs i x
    → change (slave_record x) ≡ Err fault → with_last change (map slave_record xs) ≡ Err fault
last-fault change [] i x fault last is h = absurd (omega arith)
last-fault change (y ∷ []) i x fault last is h =
    let first : i ≡ 0 = omega arith in
    let same : x ≡ y = is ∙ ap (λ k. get_or (y ∷ []) k x) first in
    ap (λ s. change (slave_record s) >>= λ t. Ok (t ∷ [])) (sym same) ∙ ap (λ r. r >>= λ t. Ok (t ∷ [])) h
last-fault change (y ∷ z ∷ xs) zero x fault last is h = absurd (omega arith)
last-fault change (y ∷ z ∷ xs) (suc i) x fault last is h =
    ap (λ r. r >>= λ us. Ok (slave_record y ∷ us)) (last-fault change (z ∷ xs) i x fault (omega arith) is h)

pub last-done : (change : SlaveRecord → Result SlaveRecord LineFault) (xs : List SceneSlave) (i : ℕ)
    (x y : SceneSlave) → i + 1 ≡ length xs → x ≡ get_or xs i x → change (slave_record x) ≡ Ok (slave_record y)
    → with_last change (map slave_record xs) ≡ Ok (map slave_record (slice_set xs i y))
last-done change [] i x y last is h = absurd (omega arith)
last-done change (w ∷ []) zero x y last is h =
    ap (λ s. change (slave_record s) >>= λ t. Ok (t ∷ [])) (sym is) ∙ ap (λ r. r >>= λ t. Ok (t ∷ [])) h
last-done change (w ∷ []) (suc i) x y last is h = absurd (omega arith)
last-done change (w ∷ z ∷ xs) zero x y last is h = absurd (omega arith)
last-done change (w ∷ z ∷ xs) (suc i) x y last is h =
    ap (λ r. r >>= λ us. Ok (slave_record w ∷ us)) (last-done change (z ∷ xs) i x y (omega arith) is h)

pub ruleset lasts = (last-fault, last-done)
