use Rattle.std.proofs.Common.{arith}
use Rattle.std.proofs.lemmas.List.{length-take-le}
use Rattle.ec_master.proofs.work.Work.resize.Goals as goal

pub returns : goal.returns
returns c = length-take-le _ _ (omega (arith, c.requires, c.self.invariant.1))
