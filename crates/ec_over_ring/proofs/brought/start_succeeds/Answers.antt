use Rattle.ec_over_ring.proofs.Laws.{all_succeed, none_taken, off_free}
use Rattle.ec_over_ring.proofs.brought.start_succeeds.Goals as goal

pub returns-clause-succeeds : goal.returns-clause-succeeds
returns-clause-succeeds c = all_succeed

pub returns-clause-no_objects : goal.returns-clause-no_objects
returns-clause-no_objects c = none_taken

pub returns-clause-switched_off : goal.returns-clause-switched_off
returns-clause-switched_off c = off_free
