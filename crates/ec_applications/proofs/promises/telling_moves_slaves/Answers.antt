use Rattle.std.proofs.Common.{ℕ, Bool, length}
use Rattle.ec_ring.specs.Ring.{RingState}
use Rattle.ec_applications.proofs.LinkLemmas.{all_own, told_links, told_moved}
use Rattle.ec_applications.proofs.promises.telling_moves_slaves.Goals as goal

pub returns-clause-links : goal.returns-clause-links
returns-clause-links c = λ (is_up : ℕ → Bool) (r : RingState). told_links is_up (length r.slaves) r

pub returns-clause-told : goal.returns-clause-told
returns-clause-told c = all_own

pub returns-clause-moved : goal.returns-clause-moved
returns-clause-moved c = told_moved
