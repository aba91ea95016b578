use Rattle.ecat_master.specs.Course.{IsCaredFor}
use Rattle.ecat_master.proofs.teller.Teller.look_along.Goals as goal

pub returns-in_default-look_along : goal.returns-in_default-look_along
returns-in_default-look_along g c = record {
  seen_to = IsCaredFor.looked_along _ _ c.look_along.ensures.along;
}

pub returns-in_default-out : goal.returns-in_default-out
returns-in_default-out g c = record {
  seen_to = IsCaredFor.looked_along _ _ c.look_along.ensures.along;
}

pub returns : goal.returns
returns g c = record {
  seen_to = IsCaredFor.looked_along _ _ c.look_along.ensures.along;
}
