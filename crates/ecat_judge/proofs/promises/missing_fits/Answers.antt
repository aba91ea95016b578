use Rattle.ecat_judge.proofs.WithoutLemmas.{fits_without}
use Rattle.ecat_judge.proofs.promises.missing_fits.Goals as goal

pub returns : goal.returns
returns c = fits_without
