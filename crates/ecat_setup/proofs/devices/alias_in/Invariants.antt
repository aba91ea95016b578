-- What the lines that are left tell behind the alias now is what all tell.
use Rattle.std.proofs.Common.{◌≡◌, map, drop}
use Rattle.ecat_scene.specs.Scene.{sii_record}
use Rattle.ecat_setup.specs.Devices.{alias_in}
use Rattle.ecat_setup.proofs.devices.alias_in.Given as goal

abbrev pub invariant-loop-piece : goal.invariant-loop-piece
invariant-loop-piece l =
    alias_in l.alias (map sii_record (drop l.piece-index l.pieces))
    ≡ alias_in l.said (map sii_record l.pieces)
