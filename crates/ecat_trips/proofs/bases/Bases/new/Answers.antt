use Rattle.std.proofs.Common.{[], subst, sym}
use Rattle.ecat_trips.specs.Bases.{AreBasesOf}
use Rattle.ecat_trips.proofs.BasesLemmas.{told_nothing}
use Rattle.ecat_trips.proofs.bases.Bases.new.Goals as goal

pub returns : goal.returns
returns c = subst (AreBasesOf []) (sym c.new.ensures) told_nothing
