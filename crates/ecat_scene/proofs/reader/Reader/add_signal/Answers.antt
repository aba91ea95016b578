use Rattle.std.proofs.Common.{◌∙◌, rules, sym}
use Rattle.ecat_scene.specs.Scene.{scene_record}
use Rattle.ecat_scene.proofs.SignalLemmas.{added, twin}
use Rattle.ecat_scene.proofs.reader.Reader.add_signal.Goals as goal

pub returns-then-has_signal-clause-done : goal.returns-then-has_signal-clause-done
returns-then-has_signal-clause-done c =
    let scene = c.args.self.now.scene in
    twin c.args.signal scene.signals.items _ (scene_record scene) _ (search rules)
    c.as_slice-2.ensures.value c.as_slice.ensures.value
    (sym c.has_signal.ensures ∙ c.if-has_signal.true)

pub returns-clause-done : goal.returns-clause-done
returns-clause-done c =
    let scene = c.args.self.now.scene in
    added c.args.signal scene.signals.items _ _ (scene_record scene) _ (search rules)
    c.as_slice-2.ensures.value c.as_slice.ensures.value
    (sym c.has_signal.ensures ∙ c.if-has_signal.false)
    c.in_ok-push-2.ensures.items
