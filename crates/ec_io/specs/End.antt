-- How a cycle ended: a number, and for two of the ends an item.
use Rattle.std.specs.Prelude.{ℕ, ◌==◌, ◌||◌, Bool, if◌then◌else◌}
use Rattle.ec_io.specs.declared.end.CycleEnded.{CycleEnded}
use Rattle.ec_io.specs.declared.end.CycleEnded.TheVariants.{Good, Short, Over, PortFailed, Stranger}

-- the number of an end
abbrev pub end_code : CycleEnded → ℕ
end_code Good = 0
end_code (Short _) = 1
end_code (Over _) = 2
end_code PortFailed = 3
end_code Stranger = 4

-- the item that was short or over, and 0 with the other ends
abbrev pub end_item : CycleEnded → ℕ
end_item (Short item) = item
end_item (Over item) = item
end_item _ = 0

-- the end of a number, with an item where it has one
abbrev pub end_of : ℕ → ℕ → CycleEnded
end_of code item =
    if code == 0 then Good
    else if code == 1 then Short item
    else if code == 2 then Over item
    else if code == 3 then PortFailed
    else Stranger

-- has the end of a number an item
abbrev pub has_item : ℕ → Bool
has_item code = code == 1 || code == 2
