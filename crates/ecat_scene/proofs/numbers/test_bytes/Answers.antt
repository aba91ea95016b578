use Rattle.std.proofs.Common.{not, ◌∙◌, ap, sym}
use Rattle.std.proofs.lemmas.Bool.{true≢false}
use Rattle.ecat_scene.proofs.RowLemmas.{row-good, row-none, row-odd, row-other}
use Rattle.ecat_scene.proofs.numbers.test_bytes.Goals as goal
use Rattle.ecat_scene.proofs.numbers.test_bytes.Goals.{then-not-is_empty, else-not-is_empty}
use Rattle.ecat_scene.proofs.numbers.test_bytes.Goals.{else-whole-via-then-whole+else-are_digits}
use Rattle.ecat_scene.proofs.numbers.test_bytes.Goals.{else-whole-via-else-whole}

pub returns-then-are_digits : goal.returns-then-are_digits
returns-then-are_digits c =
    elim c.if-not-is_empty.branch [
      | then-not-is_empty w ↦
          row-good c.args.word.now (sym c.is_empty.ensures ∙ w.if-not-is_empty.true)
          (sym w.whole-is ∙ c.if-whole.true) (sym c.are_digits.ensures ∙ c.if-are_digits.true)
      | else-not-is_empty w ↦
          absurd (true≢false (sym c.if-whole.true ∙ w.whole-is ∙ ap not w.if-not-is_empty.false))
    ]

pub returns-else-whole : goal.returns-else-whole
returns-else-whole c =
    elim c.else-whole.branch [
      | else-whole-via-then-whole+else-are_digits w ↦
          row-other c.args.word.now (sym w.are_digits.ensures ∙ w.if-are_digits.false)
      | else-whole-via-else-whole w ↦
          elim c.if-not-is_empty.branch [
            | then-not-is_empty v ↦ row-odd c.args.word.now (sym v.whole-is ∙ w.if-whole.false)
            | else-not-is_empty v ↦
                row-none c.args.word.now (sym c.is_empty.ensures ∙ v.if-not-is_empty.false)
          ]
    ]
