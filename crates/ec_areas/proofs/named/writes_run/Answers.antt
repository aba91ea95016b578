use Rattle.std.proofs.Common.{◌∙◌}
use Rattle.ec_areas.specs.Areas.{is_writable}
use Rattle.ec_areas.proofs.NamedLemmas.{names-bytes}
use Rattle.ec_areas.proofs.named.writes_run.Goals as goal

pub returns : goal.returns
returns c = λ bits within.
    let run = c.args.run in
    c.some_writable.ensures
    ∙ names-bytes (is_writable c.args.managers.now) run.at run.physical run.count bits c.requires.some within
