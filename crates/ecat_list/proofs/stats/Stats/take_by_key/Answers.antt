use Rattle.std.proofs.Common.{sym}
use Rattle.ecat_list.proofs.StatsLemmas as stats
use Rattle.ecat_list.proofs.stats.Stats.take_by_key.Goals as goal

pub take_at-requires : goal.take_at-requires
take_at-requires c =
    stats.found_at _ c.in-Some.place c.in-Some.field-0-1.now c.args.passed.now.key c.in-Some.field-0-2.now
    c.in-Some.ensures.entry (sym c.in-Some.ensures.value) (sym c.in-Some.ensures.key)
