use Rattle.ec_master.proofs.DivisionLemmas.{cut-IsCut, IsCut-cut, items-fit}
use Rattle.ec_master.proofs.promises.the_cut.Goals as goal

pub returns-clause-is_cut : goal.returns-clause-is_cut
returns-clause-is_cut c = cut-IsCut

pub returns-clause-one_cut : goal.returns-clause-one_cut
returns-clause-one_cut c = IsCut-cut

pub returns-clause-items_fit : goal.returns-clause-items_fit
returns-clause-items_fit c = items-fit
