-- The inputs of a cycle: what the items of a work that read brought back.
use Rattle.std.specs.Prelude.{ℕ, if◌then◌else◌, List, [], ◌∷◌, ◌++◌}
use Rattle.ec_wire.specs.Command.{reads}
use Rattle.ec_wire.specs.Kind.{command_of}
use Rattle.ec_map.specs.Item.{ItemRecord}

-- what an item gives: its data if it reads
abbrev pub given_by : ItemRecord → List ℕ
given_by r = if reads (command_of r.kind) then r.payload else []

-- what all of them give, one item behind the other
abbrev pub inputs_of : List ItemRecord → List ℕ
inputs_of [] = []
inputs_of (r ∷ rest) = given_by r ++ inputs_of rest
