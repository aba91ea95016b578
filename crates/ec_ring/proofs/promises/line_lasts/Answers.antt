use Rattle.std.proofs.Common.{sym, ◌∙◌, refl}
use Rattle.ec_ring.proofs.RingLemmas.{length-controllers}
use Rattle.ec_ring.proofs.TravelLemmas.{length-travelled, line-between, with_line-between}
use Rattle.ec_ring.specs.Ring.{with_line}
use Rattle.ec_ring.proofs.promises.line_lasts.Goals as goal

pub returns-clause-size : goal.returns-clause-size
returns-clause-size c = length-travelled

pub returns-clause-line : goal.returns-clause-line
returns-clause-line c r line size =
    line-between r (with_line r line) line refl (size ∙ sym (length-controllers r.slaves))

pub returns-clause-again : goal.returns-clause-again
returns-clause-again c r line later size = with_line-between r (with_line r line) line later refl size
