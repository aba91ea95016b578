-- what the words that are left make of the entries now is what all of them make of none
use Rattle.std.proofs.Common.{◌≡◌, [], drop, map}
use Rattle.ecat_scene.specs.Words.{entries_from}
use Rattle.ecat_scene.proofs.device_lines.entries_of.Given as goal

abbrev pub invariant-loop-word : goal.invariant-loop-word
invariant-loop-word l =
    entries_from l.entries.items (map (λ word. word.now) (drop l.word-index l.words))
    ≡ entries_from [] (map (λ word. word.now) l.words)
