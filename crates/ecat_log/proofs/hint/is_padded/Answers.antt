-- Bytes that a reader takes in no form are no frame with bytes behind it.
use Rattle.std.proofs.Common.{◌≡◌, Ok, Err}
use Rattle.ecat_log.proofs.hint.is_padded.Goals as goal

pub returns-in-Err-clause-no : goal.returns-in-Err-clause-no
returns-in-Err-clause-no c =
    λ _ padded. absurd
    (let no : Err c.in-Err.field-0 ≡ Ok padded.0 = c.in-Err.ensures.only_found padded.0 padded.1 in cc)
