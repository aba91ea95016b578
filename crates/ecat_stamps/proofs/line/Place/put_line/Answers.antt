use Rattle.std.proofs.Common.{rules}
use Rattle.ecat_stamps.proofs.line.Place.put_line.Goals as goal

pub returns-clause-written : goal.returns-clause-written
returns-clause-written g c = (c.before-stamp.result.bytes, c.before-stamp.ensures.text, search rules)
