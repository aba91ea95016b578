use Rattle.ec_master.proofs.CoveredLineLemmas.{covered_reads, covered_writes}
use Rattle.ec_master.proofs.covered.covered_bits.Goals as goal

pub returns : goal.returns
returns c = record {
  reads = λ slaves items n l p s covered found pair. covered_reads slaves items n l p s covered found pair;
  writes = λ slaves items n l p s covered found pair. covered_writes slaves items n l p s covered found pair;
}
