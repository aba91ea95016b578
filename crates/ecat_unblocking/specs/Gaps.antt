-- What of the lines that come is left out: whole lines, of one that has begun to go out its rest.
use Rattle.std.specs.Prelude.{ℕ, ◌+◌, ◌-◌, ◌^◌, ◌==◌, ◌||◌, Bool, true, false, List, Option, None, Some}
use Rattle.std.specs.Prelude.{length, min}
use Rattle.ecat_unblocking.specs.declared.gap.Gap.{Gap}

-- a byte ends a line
abbrev pub ends_line : ℕ → Bool
ends_line byte = byte == 10

-- a line of which something is left out stands cut where its beginning went out
abbrev pub cut : Gap → Bool
cut gap = gap.is_cut || gap.is_within

-- behind bytes that were left out, where the line ends at that place of them, or does not end there
abbrev pub gap_behind : Gap → Option ℕ → Gap
gap_behind gap None = record { is_within = false; is_cut = cut gap; is_open = true; lines = gap.lines }
gap_behind gap (Some place) =
    record { is_within = false; is_cut = cut gap; is_open = false; lines = min (gap.lines + 1) (2 ^ 64 - 1) }

-- how many of the bytes are left out: those up to the end of the line, or all of them
abbrev pub passed : List ℕ → Option ℕ → ℕ
passed bytes None = length bytes
passed bytes (Some place) = place + 1
