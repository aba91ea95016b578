use Rattle.std.proofs.Common.{◌∙◌}
use Rattle.ec_areas.specs.Areas.{is_readable}
use Rattle.ec_areas.proofs.NamedLemmas.{names-bytes}
use Rattle.ec_areas.proofs.named.reads_run.Goals as goal

pub returns : goal.returns
returns c = λ bits within.
    let run = c.args.run in
    c.some_readable.ensures
    ∙ names-bytes (is_readable c.args.managers.now) run.at run.physical run.count bits c.requires.some within
