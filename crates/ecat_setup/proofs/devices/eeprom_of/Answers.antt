use Rattle.std.proofs.Common.{◌∙◌, List, ap, map}
use Rattle.ecat_scene.specs.Scene.{sii_record}
use Rattle.ecat_scene.specs.declared.scene.SiiBytes.{SiiBytes}
use Rattle.ecat_setup.specs.Devices.{lines_put}
use Rattle.ecat_setup.proofs.devices.eeprom_of.Goals as goal

pub returns-in-Ok-put_lines : goal.returns-in-Ok-put_lines
returns-in-Ok-put_lines c =
    let lines = c.args.described.now.sii.items in (
      c.in-Ok.contents,
      c.in-Ok.ensures,
      c.new.ensures ∙ c.in-Ok-put_lines.ensures
          ∙ ap (λ (all : List SiiBytes). lines_put (map sii_record all) c.in-Ok-image.bytes.items)
          c.as_slice.ensures.value
          ∙ ap (lines_put (map sii_record lines)) c.in-Ok-image.ensures,
    )
