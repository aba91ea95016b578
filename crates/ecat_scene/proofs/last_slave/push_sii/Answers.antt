use Rattle.std.proofs.Common.{◌∷◌, [], Ok, ap, map, sym, ◌∙◌}
use Rattle.std.proofs.lemmas.List.{map-append}
use Rattle.ecat_scene.specs.Deeds.{with_sii}
use Rattle.ecat_scene.specs.Scene.{sii_record, slave_record}
use Rattle.ecat_scene.proofs.LastLemmas.{last-done}
use Rattle.ecat_scene.proofs.last_slave.push_sii.Goals as goal

pub returns : goal.returns
returns c =
    let x = c.index_mut.result.now in
    let added = ap (map sii_record) c.in_ok-push.ensures.items
    ∙ map-append sii_record x.sii.items (c.args.piece ∷ []) in
    last-done (with_sii (sii_record c.args.piece)) c.args.slaves.now.items c.args.last x _ c.requires
    c.index_mut.ensures.value (ap (λ them. Ok (record (slave_record x) { sii = them })) (sym added))
