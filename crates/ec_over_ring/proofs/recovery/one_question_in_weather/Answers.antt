use Rattle.ec_over_ring.proofs.Laws.{ring_fate}
use Rattle.ec_over_ring.proofs.recovery.one_question_in_weather.Goals as goal

pub returns : goal.returns
returns c = λ w d r before behind s. ring_fate w d r before s behind
