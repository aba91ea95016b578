use Rattle.std.proofs.Common.{inl, refl}
use Rattle.ecat_told.proofs.FoundLemmas.{line_found}
use Rattle.ecat_told.proofs.JourneyLemmas.{journeys_so}
use Rattle.ecat_told.proofs.promises.told_is_so.Goals as goal

pub returns-clause-at_first : goal.returns-clause-at_first
returns-clause-at_first c = λ states line. inl refl

pub returns-clause-none_at_first : goal.returns-clause-none_at_first
returns-clause-none_at_first c = λ states line. inl refl

pub returns-clause-later : goal.returns-clause-later
returns-clause-later c = journeys_so

pub returns-clause-line : goal.returns-clause-line
returns-clause-line c = line_found
