-- What is printed of a cycle: its verdict, and the line of each item round its data.
use Rattle.std.specs.Prelude.{ℕ, ◌++◌, [], List, Option, Some, None, codes}
use Rattle.std.specs.Fmt.{decimal}
use Rattle.ec_master.specs.declared.verdict.Verdict.{Verdict}
use Rattle.ec_master.specs.declared.verdict.Verdict.TheVariants.{Good, Short, Over}
use Rattle.ec_wire.specs.Command.{name_of}
use Rattle.ecat_text.specs.declared.cycle.ItemHead.{ItemHead}
use Rattle.ecat_text.specs.declared.cycle.ItemTail.{ItemTail}

-- a verdict, with the number of the item that it names
abbrev pub verdict_words : Verdict → List ℕ
verdict_words Good = codes "good"
verdict_words (Short item) = codes "short " ++ decimal item
verdict_words (Over item) = codes "over " ++ decimal item

-- the exit status that a verdict gives
abbrev pub verdict_status : Verdict → ℕ
verdict_status Good = 0
verdict_status (Short item) = 1
verdict_status (Over item) = 1

-- an item's line as far as its data: its number and its command's name
abbrev pub item_head_words : ItemHead → List ℕ
item_head_words head =
    codes "item " ++ decimal head.number ++ codes " " ++ name_of head.command ++ codes " data "

-- the place of a broadcast, if it is one
abbrev pub adp_words : Option ℕ → List ℕ
adp_words None = []
adp_words (Some adp) = codes " adp " ++ decimal adp

-- an item's line behind its data: its counter, what was expected of it, and the place of a broadcast
abbrev pub item_tail_words : ItemTail → List ℕ
item_tail_words tail =
    codes " wkc " ++ decimal tail.counter ++ codes " of " ++ decimal tail.expected ++ adp_words tail.adp
