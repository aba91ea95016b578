-- What is printed of a sweep: a line for each of its cycles, and how many had which verdict.
use Rattle.std.specs.Prelude.{ℕ, ◌++◌, List, codes}
use Rattle.std.specs.Fmt.{decimal}
use Rattle.ecat_text.specs.Cables.{missing_words, port_words}
use Rattle.ecat_text.specs.Cycles.{verdict_words}
use Rattle.ecat_simulation.specs.declared.sweeps.Case.{Case}
use Rattle.ecat_simulation.specs.declared.sweeps.Case.TheVariants.{Whole, Link, Links, Lost}
use Rattle.ecat_simulation.specs.declared.sweeps.Sums.{Sums}
use Rattle.ecat_simulation.specs.declared.sweeps.SweptText.{SweptText}

-- what befalls the ring: which links are down, or the copy of a frame that is lost, by its port
abbrev pub case_words : Case → List ℕ
case_words Whole = codes "whole"
case_words (Link link) = codes "link " ++ decimal link
case_words (Links first second) = codes "links " ++ decimal first ++ codes "," ++ decimal second
case_words (Lost frame port) =
    codes "frame " ++ decimal frame ++ codes " copy " ++ port_words port ++ codes " lost"

-- a cycle: what befell it, its verdict, and who was missing
abbrev pub swept_words : SweptText → List ℕ
swept_words swept = case_words swept.case ++ codes ": " ++ verdict_words swept.verdict
    ++ missing_words swept.missing

-- how many cycles had which verdict
abbrev pub sums_words : Sums → List ℕ
sums_words sums = codes "cycles " ++ decimal sums.cycles ++ codes " good " ++ decimal sums.good
    ++ codes " short " ++ decimal sums.short ++ codes " over " ++ decimal sums.over
