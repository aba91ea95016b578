-- In what the answer of a line to a datagram differs from the one in a capture: the first of three things,
-- which are how far its counter moved, how many slaves it passed, and its data (IEC 61158-4-12, the datagram
-- structure).
use Rattle.std.specs.Prelude.{◌≡◌, ℕ, ◌==◌, ◌&&◌, ◌||◌, Bool, false, true, not, nat_lt, if◌then◌else◌}
use Rattle.std.specs.Prelude.{Option, None, Some, List, [], ◌∷◌, length, position, slice_index}
use Rattle.std.specs.Option.{option_map}
use Rattle.std.specs.Prelude.{zip}
use Rattle.ec_wire.specs.Command.{counts_adp, reads}
use Rattle.ec_wire.specs.Datagram.{DatagramRecord, nth}
use Rattle.ec_wire.specs.declared.command.Command.{Command}
use Rattle.ec_wire.specs.declared.command.Command.TheVariants.{Armw, Frmw}
use Rattle.ecat_trips.specs.Copies.{grown, moved}
use Rattle.ecat_replay.specs.declared.difference.Difference.{Difference}
use Rattle.ecat_replay.specs.declared.difference.Kind.{Kind}
use Rattle.ecat_replay.specs.declared.difference.Kind.TheVariants.{Unanswered, Counter, Passed, Data}
use Rattle.ecat_replay.specs.declared.part.Part.{Part}
use Rattle.ecat_replay.specs.declared.part.TheConstants.{PROCESS_MEMORY}
use Rattle.ecat_replay.specs.Parts.{register_of}

-- two values differ, or not
abbrev pub differing : Kind → ℕ → ℕ → Option Difference
differing kind there here =
    if there == here then None else Some (record { kind = kind; there = there; here = here })

-- ---- data

-- does a slave fill the data of a command: one that reads, or that the addressed slave alone reads by
abbrev pub is_filled : Command → Bool
is_filled Armw = true
is_filled Frmw = true
is_filled command = reads command

-- is a register that of the mailbox of answers
abbrev pub is_mailbox : Option ℕ → ℕ → Bool
is_mailbox None register = false
is_mailbox (Some mailbox) register = mailbox == register

-- is there no process data: in registers below process memory, and in the mailbox of answers
abbrev pub is_of_line : Option ℕ → Option ℕ → Bool
is_of_line mailbox None = false
is_of_line mailbox (Some register) = nat_lt register PROCESS_MEMORY || is_mailbox mailbox register

-- are the data of a datagram compared that asks this part: where slaves fill them, and not with process data
abbrev pub has_data : Part → Option ℕ → Bool
has_data part mailbox = is_filled part.command && is_of_line mailbox (register_of part)

-- the place of the first byte that differs, as far as both go
abbrev pub first_other : List ℕ → List ℕ → Option ℕ
first_other there here = position (λ (pair : ℕ × ℕ). not (pair.0 == pair.1)) (zip there here)

-- the bytes at a place
abbrev pub bytes_at : List ℕ → List ℕ → ℕ → Difference
bytes_at there here at =
    record { kind = Data at; there = slice_index there at; here = slice_index here at }

-- the first byte that differs, if one does
unfoldable pub other_byte : List ℕ → List ℕ → Option Difference
other_byte there here = option_map (bytes_at there here) (first_other there here)

-- ---- answers

-- how far the counters moved
abbrev pub by_counter : DatagramRecord → DatagramRecord → DatagramRecord → Option Difference
by_counter sent there here = differing Counter (moved sent there) (moved sent here)

-- how many slaves were passed, where each counts up the ADP
abbrev pub by_passed : DatagramRecord → DatagramRecord → DatagramRecord → Part → Option Difference
by_passed sent there here part =
    if counts_adp part.command then differing Passed (grown sent there) (grown sent here) else None

-- the data, where they are compared
abbrev pub by_data : DatagramRecord → DatagramRecord → Part → Option ℕ → Option Difference
by_data there here part mailbox =
    if has_data part mailbox then other_byte there.payload here.payload else None

-- the first of these, if there is any
abbrev pub first_of : List (Option Difference) → Option Difference
first_of [] = None
first_of (None ∷ rest) = first_of rest
first_of (Some difference ∷ rest) = Some difference

-- how the answer `here` to the datagram `sent`, which asks this part, differs from the answer `there`
unfoldable pub difference_of : DatagramRecord → DatagramRecord → DatagramRecord → Part → Option ℕ
    → Option Difference
difference_of sent there here part mailbox =
    first_of (by_counter sent there here ∷ by_passed sent there here part ∷ by_data there here part mailbox
    ∷ [])

-- of the datagrams at a place, where all three frames have one there
unfoldable pub difference_at : ℕ → List DatagramRecord → List DatagramRecord → List DatagramRecord → Part
    → Option ℕ → Option Difference
difference_at k sent there here part mailbox =
    if nat_lt k (length sent) && nat_lt k (length there) && nat_lt k (length here)
    then difference_of (nth sent k) (nth there k) (nth here k) part mailbox
    else None

-- what was answered there was not here: how far the counter moved there
unfoldable pub unanswered_at : ℕ → List DatagramRecord → List DatagramRecord → Option Difference
unanswered_at k sent there =
    if nat_lt k (length sent) && nat_lt k (length there)
    then Some (record { kind = Unanswered; there = moved (nth sent k) (nth there k); here = 0 })
    else None

-- ---- alike

-- two answers are alike: their counters moved as far, they passed as many slaves where each counts up the
-- ADP, and they have the same data where these are compared
pub record AreAlike (sent there here : DatagramRecord) (part : Part) (mailbox : Option ℕ) : Type 0 where
  pub counters : moved sent there ≡ moved sent here
  pub passed : counts_adp part.command ≡ true → grown sent there ≡ grown sent here
  pub data_bytes : has_data part mailbox ≡ true → there.payload ≡ here.payload
