use Rattle.std.proofs.Common.{arith}
use Rattle.ecat_judge.proofs.TwoLemmas.{two_lacking}
use Rattle.ecat_judge.proofs.share.two_lack.Goals as goal

pub returns : goal.returns
returns c =
    let sum = two_lacking c.args.shares.now c.args.one c.args.other c.requires in
    grind arith
