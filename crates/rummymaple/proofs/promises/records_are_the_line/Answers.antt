use Rattle.rummymaple.proofs.ReadBackLemmas.{line_read, fit_read, fit_told}
use Rattle.rummymaple.proofs.SameLineLemmas.{outside-same, expected-same, gaps-same}
use Rattle.rummymaple.proofs.SameAreaLemmas.{areas-same}
use Rattle.rummymaple.proofs.promises.records_are_the_line.Goals as goal

pub returns-clause-mapping : goal.returns-clause-mapping
returns-clause-mapping c = line_read

pub returns-clause-fit : goal.returns-clause-fit
returns-clause-fit c = fit_read

pub returns-clause-unfit : goal.returns-clause-unfit
returns-clause-unfit c = fit_told

pub returns-clause-outside : goal.returns-clause-outside
returns-clause-outside c = outside-same

pub returns-clause-expected : goal.returns-clause-expected
returns-clause-expected c = expected-same

pub returns-clause-gaps : goal.returns-clause-gaps
returns-clause-gaps c = gaps-same

pub returns-clause-areas : goal.returns-clause-areas
returns-clause-areas c = areas-same
