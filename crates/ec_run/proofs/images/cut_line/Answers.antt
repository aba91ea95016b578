use Rattle.std.proofs.Common.{rules}
use Rattle.ec_run.proofs.ImagesLemmas.{cut_at, line_alone, not_found}
use Rattle.ec_run.proofs.images.cut_line.Goals as goal

pub returns-in-Some-clause-line : goal.returns-in-Some-clause-line
returns-in-Some-clause-line c = cut_at c.args.text.now c.in-Some.at (search rules)

pub returns-in-None-clause-line : goal.returns-in-None-clause-line
returns-in-None-clause-line c = line_alone c.args.text.now (not_found c.args.text.now (search rules))
