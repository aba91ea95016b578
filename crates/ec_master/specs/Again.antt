-- Cycle after cycle: items that ask the same as others did, whatever their data and what was answered.
use Rattle.std.specs.Prelude.{List, [], ◌∷◌}
use Rattle.ec_map.specs.Item.{ItemRecord, AsksTheSame}

-- as many items, each of the kind, the address and the size of the one that it stands for
abbrev pub AskTheSame : List ItemRecord → List ItemRecord → Type 0
AskTheSame [] [] = Unit {0}
AskTheSame (r ∷ rs) (s ∷ ss) = AsksTheSame r s × AskTheSame rs ss
AskTheSame _ _ = ⊥
