use Rattle.std.proofs.Common.{rules, ◌∙◌, ap, map}
use Rattle.std.proofs.lemmas.Fn.{filter_same}
use Rattle.ecat_scene.specs.Scene.{setting_record}
use Rattle.ecat_scene.specs.declared.scene.Setting.{Setting}
use Rattle.ecat_setup.specs.Devices.{is_load}
use Rattle.ecat_setup.proofs.DeviceLemmas.{map-filter}
use Rattle.ecat_setup.proofs.devices.keep_loads.Goals as goal

pub returns : goal.returns
returns c =
    ap (map setting_record)
    (filter_same _ (λ (s : Setting). is_load (setting_record s)) _ (λ x b f' k. search rules) _ _
    c.retain.ensures.filtered)
    ∙ map-filter setting_record is_load c.args.settings.now.items
