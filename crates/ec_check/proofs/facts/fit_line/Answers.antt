use Rattle.ec_check.proofs.FactLemmas.{IsWellPlaced-fit, IsFitLine-fit}
use Rattle.ec_check.proofs.facts.fit_line.Goals as goal

pub returns : goal.returns
returns c = record {
  placed = λ line slave number fit there active. IsWellPlaced-fit line slave number fit there active;
  facts = λ line are fit. IsFitLine-fit line are fit;
}
