use Rattle.std.proofs.Common.{◌≡◌, drop, length, Result, Some}
use Rattle.std.specs.List.{slice_split}
use Rattle.ecat_scene.specs.declared.fault.LineFault.{LineFault}
use Rattle.ecat_scene.specs.Deeds.{is_line_end, lines_do}
use Rattle.ecat_scene.specs.Scene.{scene_record, SceneRecord}
use Rattle.ecat_scene.proofs.reader.Reader.read.Given as goal

-- what is left of the lines makes of the scene now what all of them make of it at first
abbrev pub invariant-loop-line : goal.invariant-loop-line
invariant-loop-line l =
    (does : Result SceneRecord LineFault)
    → lines_do (slice_split is_line_end l.text) (scene_record l.fn.self.scene) ≡ Some does
    → (lines_do (drop (length l.yielded) (slice_split is_line_end l.text)) (scene_record l.self.scene)
    ≡ Some does)
    × (l.self.links.items ≡ l.fn.self.links.items)
