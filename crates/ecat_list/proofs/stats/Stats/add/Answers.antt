use Rattle.std.proofs.Common.{Bool, [], refl}
use Rattle.ecat_list.specs.declared.passed.What.{What}
use Rattle.ecat_list.proofs.StatsLemmas as stats
use Rattle.ecat_list.proofs.stats.Stats.add.Goals as goal

pub returns-in-Ok : goal.returns-in-Ok
returns-in-Ok c = λ all h.
    stats.told_first all c.args.passed.now c.args.self.now _ h c.take.new.self
    c.in-Ok.ensures.updates.0 c.requires.absent refl c.requires.room
    (c.take.ensures (λ (is : What → Bool). []) c.new-group.ensures)
