-- What is printed of a line whose items don't carry all that it is mapped for: the first mapped bit that is
-- left out (IEC 61158-4-12, FMMU), or the first area of outputs that is not shown (sync manager).
use Rattle.std.specs.Prelude.{ℕ, ◌++◌, ◌/◌, ◌%◌, List, codes}
use Rattle.std.specs.Fmt.{decimal}
use Rattle.ec_map.specs.declared.covered.Gap.{Gap}
use Rattle.ec_map.specs.declared.covered.Way.{Way}
use Rattle.ec_map.specs.declared.covered.Way.TheVariants.{Reads, Writes}
use Rattle.ec_map.specs.declared.not_shown.NotShown.{NotShown}
use Rattle.ec_map.specs.declared.not_shown.WhyNotShown.{WhyNotShown}
use Rattle.ec_map.specs.declared.not_shown.WhyNotShown.TheVariants.{LeftBy, NeverCompleted}
use Rattle.ecat_text.specs.Words.{hexadecimal}

-- a bit of the logical image: its byte address, eight digits, and its number in that byte
unfoldable pub place_words : ℕ → List ℕ
place_words bit = codes "0x" ++ (hexadecimal 8 (bit / 8) ++ (codes "." ++ decimal (bit % 8)))

-- what the master does through an FMMU
abbrev pub way_words : Way → List ℕ
way_words Reads = codes " reads "
way_words Writes = codes " writes "

-- a mapped bit that no item carries: the slave and the FMMU by their numbers, and the bit
abbrev pub gap_words : Gap → List ℕ
gap_words gap = codes "uncovered: slave " ++ (decimal gap.slave
    ++ (codes " FMMU " ++ (decimal gap.fmmu ++ (way_words gap.way ++ place_words gap.bit))))

-- why an area is not shown
abbrev pub why_words : WhyNotShown → List ℕ
why_words (LeftBy item) = codes ": item " ++ (decimal item ++ codes " writes it without its last byte")
why_words NeverCompleted = codes ": no item writes its last byte"

-- an area of outputs that is not shown: the slave and the sync manager by their numbers, and why
abbrev pub not_shown_words : NotShown → List ℕ
not_shown_words area = codes "not shown: slave " ++ (decimal area.slave
    ++ (codes " SM " ++ (decimal area.sync_manager ++ why_words area.why)))
