-- The packets of a listing that were cut when they were captured, as a capture with few bytes a packet has
-- them: how many they are, and behind how many bytes they are cut.
use Rattle.std.specs.Prelude.{ℕ, ◌==◌, if◌then◌else◌, List, ◌++◌, codes}
use Rattle.std.specs.Fmt.{decimal}
use Rattle.ecat_frames.specs.declared.notes.CutPackets.{CutPackets}

-- one length, or the least and the greatest
unfoldable pub lengths_words : ℕ → ℕ → List ℕ
lengths_words least greatest =
    if least == greatest then decimal least else (decimal least ++ codes " to " ++ decimal greatest)

-- how many they are, and what that means
unfoldable pub number_words : ℕ → List ℕ
number_words count = decimal count ++ codes "; no counter behind that is known\n"

-- the line of them
abbrev pub cut_line_words : CutPackets → List ℕ
cut_line_words cut =
    codes "packets cut at " ++ lengths_words cut.least cut.greatest
    ++ codes " bytes: " ++ number_words cut.count
