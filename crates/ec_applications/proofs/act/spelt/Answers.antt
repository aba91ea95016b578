-- A number has eight bytes.
use Rattle.std.proofs.Common.{List, ℕ, ◌++◌, ◌-◌, length, ◌∙◌, ap}
use Rattle.std.specs.Prelude.{replicate}
use Rattle.ec_applications.proofs.act.spelt.Goals as goal

pub returns : goal.returns
returns c =
    c.padded.ensures ∙ ap (λ (xs : List ℕ). xs ++ replicate (8192 - length xs) 0) c.to_le_bytes-bytes.ensures
