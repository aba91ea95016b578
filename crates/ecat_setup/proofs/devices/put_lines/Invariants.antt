-- What the lines that are left make of the contents now is what all make of them at first.
use Rattle.std.proofs.Common.{◌≡◌, map, drop}
use Rattle.ecat_scene.specs.Scene.{sii_record}
use Rattle.ecat_setup.specs.Devices.{lines_put}
use Rattle.ecat_setup.proofs.devices.put_lines.Given as goal

abbrev pub invariant-loop-line : goal.invariant-loop-line
invariant-loop-line l =
    lines_put (map sii_record (drop l.line-index l.lines)) l.contents.items
    ≡ lines_put (map sii_record l.lines) l.initial.contents.items
