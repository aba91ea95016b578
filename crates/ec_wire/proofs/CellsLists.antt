-- A run of a list, cut out and written over.
use Rattle.std.proofs.Common.{◌≡◌, ℕ, ◌-◌, ◌≤◌, List, ◌++◌, length, take, drop, slice_range, sym, ap, ◌∙◌}
use Rattle.std.proofs.Common.{arith, length-take-le, length-drop, take-append-drop}
use Rattle.std.proofs.lemmas.List.{take_at}
use Rattle.std.proofs.lemmas.List.Folds.{drop_split}
use Rattle.ec_wire.specs.Cells.{with_run}

-- what comes before a run, the run, and what comes after it are the list
pub around_run : (xs : List ℕ) (from to : ℕ) → from ≤ to
    → take from xs ++ (slice_range xs from to ++ drop to xs) ≡ xs
around_run xs from to ordered =
    ap (λ rest. take from xs ++ rest) (sym (drop_split xs from to ordered)) ∙ take-append-drop from xs

-- a run has as many elements as its ends are apart
pub length_slice_range : (xs : List ℕ) (from to : ℕ) → from ≤ to → to ≤ length xs
    → length (slice_range xs from to) ≡ to - from
length_slice_range xs from to ordered within =
    let rest = length-drop from xs in length-take-le (to - from) (drop from xs) (omega arith)

-- a list as long as the run replaces all of it
pub with_run_whole : (xs : List ℕ) (from to : ℕ) (ws : List ℕ) → length ws ≡ to - from
    → with_run xs from to ws ≡ take from xs ++ (ws ++ drop to xs)
with_run_whole xs from to ws same =
    ap (λ run. take from xs ++ (run ++ drop to xs))
    (take_at ws (drop (length ws) (slice_range xs from to)) (to - from) same)
