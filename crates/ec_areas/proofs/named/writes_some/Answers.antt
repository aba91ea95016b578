use Rattle.std.proofs.Common.{◌*◌, ◌∙◌}
use Rattle.ec_areas.proofs.NamedLemmas.{names-target_map, writes_some_pair}
use Rattle.ec_areas.proofs.named.writes_some.Goals as goal

pub returns-clause-served : goal.returns-clause-served
returns-clause-served c =
    c.one_writes.ensures ∙ names-target_map c.args.managers.now c.args.fmmus.now (8 * c.args.address) (8 * c.args.bytes)

pub returns-clause-pair : goal.returns-clause-pair
returns-clause-pair c =
    let managers = c.args.managers.now in
    let fmmus = c.args.fmmus.now in
    let from = 8 * c.args.address in
    let bits = 8 * c.args.bytes in
    rw (c.one_writes.ensures ∙ names-target_map managers fmmus from bits) (writes_some_pair managers fmmus from bits)
