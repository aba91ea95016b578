-- What the settings that are left find behind what was found is what all find.
use Rattle.std.proofs.Common.{◌≡◌, map, drop, None}
use Rattle.ecat_scene.specs.Scene.{setting_record}
use Rattle.ecat_setup.specs.Devices.{last_found}
use Rattle.ecat_setup.proofs.devices.manager_of.Given as goal

abbrev pub invariant-loop-setting : goal.invariant-loop-setting
invariant-loop-setting l =
    last_found l.number l.found (map setting_record (drop l.setting-index l.described.settings.items))
    ≡ last_found l.number None (map setting_record l.described.settings.items)
