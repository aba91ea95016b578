-- What befalls the copies that leave an end of a served line, so that a master is tried on it: late, twice or
-- damaged (IEC 61158-4-12, the EtherCAT frame header, whose length a damaged copy has wrong).
use Rattle.std.specs.Prelude.{ℕ, ◌+◌, ◌-◌, ◌^◌, ◌==◌, not, min, if◌then◌else◌, None, Some}
use Rattle.std.specs.Prelude.{List, [], ◌∷◌, length, drop, slice_index}
use Rattle.std.specs.Int.Bits.{bit_xor}
use Rattle.ecat_serve.specs.declared.disturbed.Disturbance.{Disturbance}
use Rattle.ecat_serve.specs.declared.disturbed.Disturbance.TheVariants.{Late, Double, Damage}
use Rattle.ecat_serve.specs.declared.disturbed.Disturbances.{Disturbances}
use Rattle.ecat_serve.specs.declared.disturbed.Fate.{Fate}

-- nothing befalls the next copies
abbrev pub undisturbed : Disturbances
undisturbed = record { late = 0; milliseconds = 0; double = 0; damage = 0 }

-- so many more, at most the greatest number
abbrev pub more : ℕ → ℕ → ℕ
more before count = min (before + count) (2 ^ 32 - 1)

-- something befalls so many more copies
abbrev pub disturbed_by : Disturbance → ℕ → Disturbances → Disturbances
disturbed_by (Late milliseconds) count before =
    record before { late = more before.late count; milliseconds = milliseconds }
disturbed_by Double count before = record before { double = more before.double count }
disturbed_by Damage count before = record before { damage = more before.damage count }

-- what befalls the next copy
abbrev pub fate_of : Disturbances → Fate
fate_of before = record {
  late = if before.late == 0 then None else Some before.milliseconds;
  twice = not (before.double == 0);
  is_damaged = not (before.damage == 0);
}

-- what is left for those behind it
abbrev pub disturbing : Disturbances → Disturbances
disturbing before = record before {
  late = before.late - 1;
  double = before.double - 1;
  damage = before.damage - 1;
}

-- a packet with the lowest bit of its first byte turned
abbrev pub damaged : List ℕ → List ℕ
damaged packet =
    if length packet == 0 then [] else bit_xor (slice_index packet 0) 1 ∷ drop 1 packet
