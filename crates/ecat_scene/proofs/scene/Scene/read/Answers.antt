use Rattle.std.proofs.Common.{ap, refl, subst, ◌∙◌}
use Rattle.std.specs.Prelude.{IfSome}
use Rattle.ecat_scene.specs.Deeds.{text_does}
use Rattle.ecat_scene.specs.Read.{ReadAs}
use Rattle.ecat_scene.specs.Scene.{empty_scene}
use Rattle.ecat_scene.specs.Signals.{judged}
use Rattle.ecat_scene.proofs.MeantLemmas.{lines-mean}
use Rattle.ecat_scene.proofs.SignalLemmas.{judged-written}
use Rattle.ecat_scene.proofs.scene.Scene.read.Goals as goal

pub returns-clause-written : goal.returns-clause-written
returns-clause-written c = λ lines are is short.
    let meant = ap (text_does c.args.text.now) c.new.ensures.scene ∙ ap (λ t. text_does t empty_scene) is
    ∙ lines-mean lines empty_scene are in
    subst (λ d. ReadAs c.read.result d) (judged-written lines empty_scene refl)
    (subst (λ o. IfSome o (λ does. ReadAs c.read.result (judged does))) meant
    (c.read.ensures.read c.new.ensures.links))
