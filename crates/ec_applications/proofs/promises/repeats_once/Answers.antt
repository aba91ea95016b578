use Rattle.ec_applications.proofs.RepeatLemmas.{given_once, repeated_once, repeated_plain, told_once}
use Rattle.ec_applications.proofs.promises.repeats_once.Goals as goal

pub returns-clause-given : goal.returns-clause-given
returns-clause-given c = given_once

pub returns-clause-once : goal.returns-clause-once
returns-clause-once c = repeated_once

pub returns-clause-plain : goal.returns-clause-plain
returns-clause-plain c = repeated_plain

pub returns-clause-told : goal.returns-clause-told
returns-clause-told c = told_once
