use Rattle.std.proofs.Common.{◌∷◌, [], Ok, ap, map, sym, ◌∙◌}
use Rattle.std.proofs.lemmas.List.{map-append}
use Rattle.ecat_scene.specs.Deeds.{with_pdo}
use Rattle.ecat_scene.specs.Scene.{pdo_record, slave_record}
use Rattle.ecat_scene.proofs.LastLemmas.{last-done}
use Rattle.ecat_scene.proofs.last_slave.push_pdo.Goals as goal

pub returns : goal.returns
returns c =
    let x = c.index_mut.result.now in
    let added = ap (map pdo_record) c.in_ok-push.ensures.items
    ∙ map-append pdo_record x.pdos.items (c.args.pdo ∷ []) in
    last-done (with_pdo (pdo_record c.args.pdo)) c.args.slaves.now.items c.args.last x _ c.requires
    c.index_mut.ensures.value (ap (λ them. Ok (record (slave_record x) { pdos = them })) (sym added))
