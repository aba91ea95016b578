use Rattle.std.proofs.Common.{◌∷◌, [], Ok, ap, map, sym, ◌∙◌}
use Rattle.std.proofs.lemmas.List.{map-append}
use Rattle.ecat_scene.specs.Deeds.{set_up}
use Rattle.ecat_scene.specs.Scene.{setting_record, slave_record}
use Rattle.ecat_scene.proofs.LastLemmas.{last-done}
use Rattle.ecat_scene.proofs.last_slave.set_up.Goals as goal

pub returns : goal.returns
returns c =
    let x = c.index_mut.result.now in
    let added = ap (map setting_record) c.in_ok-push.ensures.items
    ∙ map-append setting_record x.settings.items (c.args.setting ∷ []) in
    last-done (set_up (setting_record c.args.setting)) c.args.slaves.now.items c.args.last x _ c.requires
    c.index_mut.ensures.value (ap (λ ss. Ok (record (slave_record x) { settings = ss })) (sym added))
