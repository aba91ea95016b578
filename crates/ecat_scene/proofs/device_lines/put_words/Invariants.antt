-- The words before the next one are put.
use Rattle.std.proofs.Common.{◌≡◌, ◌++◌, ◌∷◌, List, ℕ, drop, map}
use Rattle.std.specs.List.{flat_map}
use Rattle.ecat_scene.proofs.device_lines.put_words.Given as goal

abbrev pub invariant-loop-word : goal.invariant-loop-word
invariant-loop-word l = record {
  text : l.text.items ++ flat_map (λ (word : List ℕ). 32 ∷ word) (map (λ word. word.now) (drop l.word-index l.words))
      ≡ l.initial.text.items ++ flat_map (λ (word : List ℕ). 32 ∷ word) (map (λ word. word.now) l.words);
}
