use Rattle.std.proofs.Common.{◌∙◌, sym}
use Rattle.ecat_scene.proofs.TextLemmas.{text-is, no-text}
use Rattle.ecat_scene.proofs.words.text_of.Goals as goal

pub returns-in-Ok : goal.returns-in-Ok
returns-in-Ok c = c.in-Ok.ensures.cases.0 ∙ sym (text-is c.args.word.now c.in-Ok.ensures.cases.1)

pub returns-in-Err : goal.returns-in-Err
returns-in-Err c = sym (no-text c.args.word.now c.in-Err.ensures.cases.0)
