use Rattle.std.proofs.Common.{arith}
use Rattle.std.proofs.lemmas.Bool.Decides.{nat_tests}
use Rattle.ecat_list.proofs.StatsLemmas as stats
use Rattle.ecat_list.proofs.stats.Stats.take_new.Goals as goal

pub returns : goal.returns
returns c = λ all h.
    rw (c.saturating_add-self.ensures)
    (stats.told_left_out all c.args.passed.now c.args.self.now h c.requires
    (grind (arith, nat_tests, c.len.ensures.len, c.if-len-lt-MAX_GROUPS.false)))
