use Rattle.ec_over_ring.proofs.Laws.{read_off_fits, read_off_wanted}
use Rattle.ec_over_ring.proofs.brought.read_off_fits.Goals as goal

pub returns-clause-fits : goal.returns-clause-fits
returns-clause-fits c = read_off_fits

pub returns-clause-wanted : goal.returns-clause-wanted
returns-clause-wanted c = read_off_wanted
