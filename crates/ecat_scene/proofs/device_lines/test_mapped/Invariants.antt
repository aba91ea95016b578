-- the words that are left are tested as all are
use Rattle.std.proofs.Common.{◌≡◌, drop, map}
use Rattle.ecat_scene.specs.Words.{all_mapped}
use Rattle.ecat_scene.proofs.device_lines.test_mapped.Given as goal

abbrev pub invariant-loop-word : goal.invariant-loop-word
invariant-loop-word l =
    all_mapped (map (λ word. word.now) (drop l.word-index l.words))
    ≡ all_mapped (map (λ word. word.now) l.words)
