use Rattle.std.proofs.Common.{codes, refl}
use Rattle.ecat_scene.proofs.TextLemmas.{other}
use Rattle.ecat_scene.proofs.slave_lines.rights_of.Goals as goal

pub returns-in_default : goal.returns-in_default
returns-in_default c =
    let word = c.args.rights.now in
    let text = c.text_of.result.now in
    rw (
      other word text (codes "ro") c.text_of.ensures refl c.in_default.not-ro,
      other word text (codes "wo") c.text_of.ensures refl c.in_default.not-wo,
      other word text (codes "rw") c.text_of.ensures refl c.in_default.not-rw,
    ) refl
