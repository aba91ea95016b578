-- What is printed of a judged cycle: how often an item was counted, and which copies of a frame came back.
use Rattle.std.specs.Prelude.{ℕ, ◌++◌, Bool, true, false, List, codes}
use Rattle.std.specs.Fmt.{decimal}
use Rattle.ecat_text.specs.declared.judgement.CopiesText.{CopiesText}
use Rattle.ecat_text.specs.declared.judgement.CountText.{CountText}

-- how far the working counter of an item moved, and how far it should have
abbrev pub count_words : CountText → List ℕ
count_words count = codes "item " ++ decimal count.item ++ codes ": came " ++ decimal count.came
    ++ codes " of " ++ decimal count.wanted

-- whether the copies from port A and from port B came back
abbrev pub back_words : Bool → Bool → List ℕ
back_words true true = codes "both back"
back_words true false = codes "A back, B lost"
back_words false true = codes "A lost, B back"
back_words false false = codes "both lost"

-- a frame by its number, and which of its copies came back
abbrev pub copies_words : CopiesText → List ℕ
copies_words text =
    codes "frame " ++ decimal text.frame ++ codes ": " ++ back_words text.copies.a text.copies.b
