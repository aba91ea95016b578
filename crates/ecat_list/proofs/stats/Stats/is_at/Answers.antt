use Rattle.std.proofs.Common.{sym, ◌∙◌}
use Rattle.ecat_list.proofs.StatsLemmas as stats
use Rattle.ecat_list.proofs.stats.Stats.is_at.Goals as goal

pub returns-in-Some : goal.returns-in-Some
returns-in-Some c = λ t.
    stats.is_at c.args.self.now c.args.place c.in-Some.here.now c.args.key.now c.in-Some.field-0-1.now
    (sym c.in-Some.ensures.entry) c.in-Some.ensures.value (sym c.eq.ensures ∙ t)
