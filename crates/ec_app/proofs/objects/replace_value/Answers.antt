use Rattle.std.proofs.Common.{ap, ◌∙◌, set}
use Rattle.ec_app.specs.Objects.{with_value}
use Rattle.ec_app.proofs.ObjectLemmas.{set_mapped}
use Rattle.ec_app.proofs.objects.replace_value.Goals as goal

pub loop-entry-preserved : goal.loop-entry-preserved
loop-entry-preserved c =
    let i = c.loop-entry.entry-index in
    ap (λ e. set c.loop-entry.entries i e) c.with_value.ensures
    ∙ set_mapped (with_value c.args.index c.args.sub c.args.value) c.args.entries.now c.loop-entry.entries i _
    c.loop-entry-test.true c.loop-entry.invariant
