-- What reading a line makes of the reader: the scene so far, and the links that its lines named.
use Rattle.std.specs.Prelude.{◌≡◌, Result, Ok, Err}
use Rattle.ecat_scene.specs.declared.fault.LineFault.{LineFault}
use Rattle.ecat_scene.specs.declared.fault.SceneFault.{SceneFault}
use Rattle.ecat_scene.specs.declared.fault.SceneFault.TheVariants.{Line, NoMemory, TooLong}
use Rattle.ecat_scene.specs.declared.fault.Stop.{Stop}
use Rattle.ecat_scene.specs.declared.reader.Reader.{Reader}
use Rattle.ecat_scene.specs.declared.scene.Scene.{Scene}
use Rattle.ecat_scene.specs.Deeds.{Does}
use Rattle.ecat_scene.specs.Scene.{scene_record, SceneRecord}

-- the scene is what the line made of it, or the line was at fault, and it named no link
pub record Did (before after : Reader) (result : Result (Unit {0}) Stop) (does : Result SceneRecord LineFault)
    : Type 0 where
  pub done : Does result (scene_record after.scene) does
  pub links : after.links.items ≡ before.links.items

-- a text is read as the scene that its lines make, or a line is told that is at fault so, unless memory ran
-- out
abbrev pub ReadAs : Result Scene SceneFault → Result SceneRecord LineFault → Type 0
ReadAs (Ok scene) does = does ≡ Ok (scene_record scene)
ReadAs (Err TooLong) does = ⊥
ReadAs (Err (Line line fault)) does = does ≡ Err fault
ReadAs (Err NoMemory) does = Unit {0}
