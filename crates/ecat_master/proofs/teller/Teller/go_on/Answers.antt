use Rattle.std.proofs.Common.{rules}
use Rattle.ecat_master.specs.Course.{IsCaredFor}
use Rattle.ecat_master.proofs.teller.Teller.go_on.Goals as goal

pub returns : goal.returns
returns g c = record {
  seen_to = IsCaredFor.turned c.in-Some.wanted.now _ _ (search rules) c.turn-turn.ensures.turn;
}
