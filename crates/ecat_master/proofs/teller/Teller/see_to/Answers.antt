use Rattle.ecat_master.specs.Course.{IsCaredFor}
use Rattle.ecat_master.proofs.teller.Teller.see_to.Goals as goal

pub returns-in-LooksAt : goal.returns-in-LooksAt
returns-in-LooksAt g c = record { seen_to = IsCaredFor.looked_at c.look_at_one.ensures.looked_at }
