-- The table says what is known.
use Rattle.ec_diag.proofs.CutLemmas.{cut_tells}
use Rattle.ec_diag.proofs.located.Located.cut_off.Goals as goal

pub returns-clause-tells : goal.returns-clause-tells
returns-clause-tells c links n known = rw c.cut.ensures (cut_tells c.args.self links n known)
