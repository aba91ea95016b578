-- Behind the bytes the zeros of the array are left.
use Rattle.std.proofs.Common.{List, ℕ, ◌++◌, length, drop, ◌∙◌, ap}
use Rattle.std.specs.Prelude.{replicate}
use Rattle.std.proofs.lemmas.List.{drop-replicate}
use Rattle.ec_applications.proofs.act.padded.Goals as goal

pub returns : goal.returns
returns c =
    let front : List ℕ = c.args.front.now in
    ap (λ (xs : List ℕ). xs ++ drop (length front) (replicate 8192 0)) c.copy_from_slice.ensures.after
    ∙ ap (λ (xs : List ℕ). front ++ xs) (drop-replicate (length front) 8192 0)
