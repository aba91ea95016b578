use Rattle.std.proofs.Common.{◌≡◌, take}
use Rattle.std.specs.List.{flat_map}
use Rattle.ec_sii.specs.Image.{pdo_bytes}
use Rattle.ec_sii.proofs.image.pdos.Given as goal

abbrev pub invariant-loop-pdo : goal.invariant-loop-pdo
invariant-loop-pdo l = l.bytes.items ≡ flat_map (pdo_bytes l.name) (take l.pdo-index l.all)
