-- What a slave adds to the working counter of an item, and what of it lacks where slaves are missing (IEC
-- 61158-4-12, working counter).
use Rattle.std.specs.Prelude.{ℕ, zero, suc, ◌+◌, ◌-◌, ◌%◌, ◌==◌, ◌&&◌, ◌||◌, Bool, false, nat_le, nat_lt}
use Rattle.std.specs.Prelude.{if◌then◌else◌}
use Rattle.std.specs.Prelude.{List, length, slice_index_or}
use Rattle.ec_wire.specs.declared.kind.Kind.{Kind}
use Rattle.ec_wire.specs.declared.kind.Kind.TheVariants.{Lrd, Lwr, Lrw, Brd, Fprd, Fpwr}
use Rattle.ecat_judge.specs.declared.share.Share.{Share}
use Rattle.ecat_judge.specs.declared.share.Missing.{Missing}
use Rattle.ecat_judge.specs.declared.share.Missing.TheVariants.{Slaves, Inputs, Outputs, Two}

-- ---- the share of one slave

abbrev pub for_inputs : ℕ → Share
for_inputs gain = record { inputs = gain; outputs = 0; registers = 0 }

abbrev pub for_outputs : ℕ → Share
for_outputs gain = record { inputs = 0; outputs = gain; registers = 0 }

abbrev pub for_registers : ℕ → Share
for_registers gain = record { inputs = 0; outputs = 0; registers = gain }

-- what it adds is for inputs, for outputs or for registers, by the kind of the item and where it lies
abbrev pub share_of : ℕ → Kind → Bool → Share
share_of gain Brd registers = for_registers gain
share_of gain Lrd registers = for_inputs gain
share_of gain Lwr registers = for_outputs gain
share_of gain Lrw registers = record { inputs = gain % 2; outputs = gain - gain % 2; registers = 0 }
share_of gain Fprd registers = if registers then for_registers gain else for_inputs gain
share_of gain Fpwr registers = if registers then for_registers gain else for_outputs gain

-- all that it adds
abbrev pub whole : Share → ℕ
whole s = s.inputs + s.outputs + s.registers

-- ---- what lacks

-- the inputs of the slave at a place are missing
abbrev pub has_inputs_of : Missing → ℕ → Bool
has_inputs_of (Slaves from to) place = nat_le from place && nat_lt place to
has_inputs_of (Inputs slave) place = place == slave
has_inputs_of (Outputs slave) place = false
has_inputs_of (Two one other) place = place == one || place == other

-- what lacks of the share of the slave at a place, where this is missing
abbrev pub part : Missing → Share → ℕ → ℕ
part (Slaves from to) s place = if nat_le from place && nat_lt place to then whole s else 0
part (Inputs slave) s place = if place == slave then s.inputs else 0
part (Outputs slave) s place = if place == slave then s.outputs else 0
part (Two one other) s place = if place == one || place == other then whole s else 0

abbrev pub no_share : Share
no_share = record { inputs = 0; outputs = 0; registers = 0 }

abbrev pub share_at : List Share → ℕ → Share
share_at shares place = slice_index_or shares place no_share

unfoldable pub part_at : Missing → List Share → ℕ → ℕ
part_at missing shares place = part missing (share_at shares place) place

-- the sum of a number of each place below n
unfoldable pub sum_below : (ℕ → ℕ) → ℕ → ℕ
sum_below f zero = 0
sum_below f (suc n) = sum_below f n + f n

-- what lacks of the counter of an item, where this is missing
unfoldable pub lacking : Missing → List Share → ℕ
lacking missing shares = sum_below (part_at missing shares) (length shares)
