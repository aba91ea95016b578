use Rattle.ec_line.proofs.Laws.{good_counters_answered, good_counters_memories, good_counters_shown}
use Rattle.ec_line.proofs.promises.good_counters.Goals as goal

pub returns-clause-answered : goal.returns-clause-answered
returns-clause-answered c = good_counters_answered

pub returns-clause-memories : goal.returns-clause-memories
returns-clause-memories c = good_counters_memories

pub returns-clause-shown : goal.returns-clause-shown
returns-clause-shown c = good_counters_shown
