use Rattle.std.proofs.Common.{List, ℕ, ◌++◌, length, drop, ◌∙◌, ap}
use Rattle.std.specs.Prelude.{replicate}
use Rattle.std.proofs.lemmas.List.{drop-replicate}
use Rattle.ec_esc.proofs.application.padded.Goals as goal

pub returns : goal.returns
returns c =
    let mail : List ℕ = c.args.mail.now in
    ap (λ (xs : List ℕ). xs ++ drop (length mail) (replicate 1486 0)) c.copy_from_slice.ensures.after
    ∙ ap (λ (xs : List ℕ). mail ++ xs) (drop-replicate (length mail) 1486 0)
