use Rattle.std.proofs.Common.{◌∙◌, sym}
use Rattle.ecat_master.specs.Course.{IsCaredFor}
use Rattle.ecat_master.proofs.acyclic.Acyclic.serve.Goals as goal

pub returns : goal.returns
returns g c = record {
  seen_to = IsCaredFor.served c.in-Some.under_way.place c.in-Some-slave_at._wanted.now
      c.in-Some.under_way.talk c.turn-turn.result c.in-Some-slave_at.ensures.0
      (sym (c.in-Some-slave_at.ensures.1 ∙ c.station.ensures)) c.turn-turn.ensures.turn;
}
