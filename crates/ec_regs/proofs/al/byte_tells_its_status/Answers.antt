use Rattle.ec_regs.proofs.AlLemmas.{status_of-status_byte}
use Rattle.ec_regs.proofs.al.byte_tells_its_status.Goals as goal

pub returns : goal.returns
returns c = status_of-status_byte c.args.status
