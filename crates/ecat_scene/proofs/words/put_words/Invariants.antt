use Rattle.std.proofs.Common.{◌≡◌, map, filter}
use Rattle.ecat_scene.specs.Text.{has_bytes}
use Rattle.ecat_scene.proofs.words.put_words.Given as goal

abbrev pub invariant-loop-word : goal.invariant-loop-word
invariant-loop-word l =
    map (λ word. word.now) l.words.items ≡ filter has_bytes (map (λ word. word.now) l.yielded)
