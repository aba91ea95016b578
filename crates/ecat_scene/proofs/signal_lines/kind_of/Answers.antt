use Rattle.std.proofs.Common.{codes, refl}
use Rattle.ecat_scene.proofs.TextLemmas.{other}
use Rattle.ecat_scene.proofs.signal_lines.kind_of.Goals as goal

pub returns-in_default : goal.returns-in_default
returns-in_default c =
    let word = c.args.kind.now in
    let text = c.text_of.result.now in
    rw (
      other word text (codes "bool") c.text_of.ensures refl c.in_default.not-bool,
      other word text (codes "u8") c.text_of.ensures refl c.in_default.not-u8,
      other word text (codes "i8") c.text_of.ensures refl c.in_default.not-i8,
      other word text (codes "u16") c.text_of.ensures refl c.in_default.not-u16,
      other word text (codes "i16") c.text_of.ensures refl c.in_default.not-i16,
      other word text (codes "u32") c.text_of.ensures refl c.in_default.not-u32,
      other word text (codes "i32") c.text_of.ensures refl c.in_default.not-i32,
      other word text (codes "f32") c.text_of.ensures refl c.in_default.not-f32,
      other word text (codes "raw") c.text_of.ensures refl c.in_default.not-raw,
    ) refl
