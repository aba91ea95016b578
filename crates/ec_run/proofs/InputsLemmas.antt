-- Inputs that are taken one item behind the other.
use Rattle.std.proofs.Common.{◌≡◌, ◌<◌, ◌≤◌, ◌+◌, ◌∙◌, ◌++◌, ◌∷◌, ℕ, List, [], ap, sym, arith, refl, suc}
use Rattle.std.proofs.Common.{take, get_or, length}
use Rattle.std.proofs.Math.Seq.{take-suc}
use Rattle.std.proofs.lemmas.List.{append_assoc, append-nil}
use Rattle.ec_map.specs.Item.{ItemRecord}
use Rattle.ec_run.specs.Inputs.{given_by, inputs_of}

-- one item more behind others
inputs_snoc : (rs : List ItemRecord) (r : ItemRecord) → inputs_of (rs ++ r ∷ []) ≡ inputs_of rs ++ given_by r
inputs_snoc [] r = append-nil (given_by r)
inputs_snoc (x ∷ rs) r =
    ap (λ (bytes : List ℕ). given_by x ++ bytes) (inputs_snoc rs r)
    ∙ sym (append_assoc (given_by x) (inputs_of rs) (given_by r))

pub inputs_more : (rs : List ItemRecord) (k : ℕ) (d : ItemRecord) → k < length rs
    → inputs_of (take (k + 1) rs) ≡ inputs_of (take k rs) ++ given_by (get_or rs k d)
inputs_more rs k d inside =
    ap (λ (n : ℕ). inputs_of (take n rs)) (let e : k + 1 ≡ suc k = omega arith in e)
    ∙ ap (λ (xs : List ItemRecord). inputs_of xs) (take-suc rs k d inside)
    ∙ inputs_snoc (take k rs) (get_or rs k d)
