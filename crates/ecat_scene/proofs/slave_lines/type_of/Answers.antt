use Rattle.std.proofs.Common.{codes, refl}
use Rattle.ecat_scene.proofs.TextLemmas.{other}
use Rattle.ecat_scene.proofs.slave_lines.type_of.Goals as goal

pub returns-in_default : goal.returns-in_default
returns-in_default c =
    let word = c.args.kind.now in
    let text = c.text_of.result.now in
    rw (
      other word text (codes "read") c.text_of.ensures refl c.in_default.not-read,
      other word text (codes "write") c.text_of.ensures refl c.in_default.not-write,
      other word text (codes "both") c.text_of.ensures refl c.in_default.not-both,
    ) refl
