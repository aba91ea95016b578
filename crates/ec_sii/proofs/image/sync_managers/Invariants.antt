use Rattle.std.proofs.Common.{◌≡◌, take}
use Rattle.std.specs.List.{flat_map}
use Rattle.ec_sii.specs.Image.{sync_manager_bytes}
use Rattle.ec_sii.proofs.image.sync_managers.Given as goal

abbrev pub invariant-loop-manager : goal.invariant-loop-manager
invariant-loop-manager l = l.bytes.items ≡ flat_map sync_manager_bytes (take l.manager-index l.managers)
