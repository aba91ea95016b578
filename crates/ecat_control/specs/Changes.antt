-- What a change makes of outputs: the bytes of its places, or some of their bits, one place after the other;
-- or nothing.
use Rattle.std.specs.Prelude.{◌+◌, ◌*◌, ◌-◌, ◌^◌, ◌&&◌, min, ℕ, Bool, true, nat_le, if◌then◌else◌}
use Rattle.std.specs.Prelude.{List, [], ◌∷◌, ◌++◌, take, drop, length, slice_get, Option, None, Some}
use Rattle.std.specs.Prelude.{Result, Ok, Err}
use Rattle.ec_map.specs.Item.{ItemRecord}
use Rattle.ec_regs.specs.Bits.{with_bits}
use Rattle.ec_regs.specs.Pairs.{partner}
use Rattle.ec_wire.specs.Command.{writes}
use Rattle.ec_wire.specs.Kind.{command_of}
use Rattle.ecat_control.specs.declared.change.Place.{Place}
use Rattle.ecat_control.specs.declared.change.Run.{Run}
use Rattle.ecat_control.specs.declared.held.Span.{Span}
use Rattle.ecat_control.specs.declared.refusal.Fault.{Fault}
use Rattle.ecat_control.specs.declared.refusal.Fault.TheVariants.{NoItem, NoOutputs, OutOfRange}

-- bytes in the place of as many others, behind so many of these
abbrev pub put_at : ℕ → List ℕ → List ℕ → List ℕ
put_at at bytes outputs = take at outputs ++ bytes ++ drop (at + length bytes) outputs

-- where among the outputs the bytes of a place go that is to lie in an item
abbrev pub placed_in : Span → Place → Result ℕ Fault
placed_in span place =
    if span.writes then (if nat_le (place.offset + place.count) span.count
    then Ok (min (span.at + place.offset) (2 ^ 64 - 1)) else Err OutOfRange) else Err NoOutputs

-- and that of any item: the first thing that is wrong with it, if something is
abbrev pub placed_at : Option Span → Place → Result ℕ Fault
placed_at None place = Err NoItem
placed_at (Some span) place = placed_in span place

abbrev pub placed : List Span → Place → Result ℕ Fault
placed spans place = placed_at (slice_get spans place.item) place

-- the bytes of a place, among those of its change
abbrev pub bytes_of : Place → List ℕ → List ℕ
bytes_of place bytes = take place.count (drop place.from bytes)

-- bytes of which all go to the place of as many others, or those bits alone that a run names
abbrev pub over : Option Run → List ℕ → List ℕ → List ℕ
over None bytes others = bytes
over (Some run) bytes others = with_bits others bytes (partner run.first run.first run.count)

-- does a run lie in bytes, whose bits a number of 64 bits counts
abbrev pub has_run : Option Run → List ℕ → Bool
has_run None bytes = true
has_run (Some run) bytes = nat_le (run.first + run.count) (min (8 * length bytes) (2 ^ 64 - 1))

-- outputs with the bytes of a place, or with some of their bits, if it has room where it is to lie
abbrev pub put_placed : Result ℕ Fault → Option Run → List ℕ → List ℕ → Result (List ℕ) Fault
put_placed (Ok at) run bytes outputs =
    if nat_le (at + length bytes) (length outputs) && has_run run bytes
    then Ok (put_at at (over run bytes (take (length bytes) (drop at outputs))) outputs) else Err OutOfRange
put_placed (Err fault) run bytes outputs = Err fault

-- what comes behind a place, if that could be put
abbrev pub go_on : (List ℕ → Result (List ℕ) Fault) → Result (List ℕ) Fault → Result (List ℕ) Fault
go_on next (Ok outputs) = next outputs
go_on next (Err fault) = Err fault

-- outputs with the bytes of each place, one place after the other; or what is wrong with the first place that
-- cannot be put
unfoldable pub changed : List Span → List ℕ → List Place → List ℕ → Result (List ℕ) Fault
changed spans bytes [] outputs = Ok outputs
changed spans bytes (place ∷ rest) outputs =
    go_on (λ later. changed spans bytes rest later)
    (put_placed (placed spans place) place.run (bytes_of place bytes) outputs)

-- ---- changes, one after the other

-- the bytes of a change, and its places
pub record Made : Type 0 where
  pub bytes : List ℕ
  pub places : List Place

-- outputs with each change, one after the other, none of which is refused
unfoldable pub changed_by : List Span → List Made → List ℕ → Result (List ℕ) Fault
changed_by spans [] outputs = Ok outputs
changed_by spans (made ∷ rest) outputs =
    go_on (λ later. changed_by spans rest later) (changed spans made.bytes made.places outputs)

-- ---- the items

-- what stands of an item behind so many outputs
abbrev pub span_of : ℕ → ItemRecord → Span
span_of at r = record { writes = writes (command_of r.kind); at = at; count = length r.payload }

-- how many outputs an item has
abbrev pub outputs_of : ItemRecord → List ℕ
outputs_of r = if writes (command_of r.kind) then r.payload else []

-- the outputs of items, one item behind the other
abbrev pub outputs_in : List ItemRecord → List ℕ
outputs_in [] = []
outputs_in (r ∷ rest) = outputs_of r ++ outputs_in rest

-- where those of each stand that begin behind so many
unfoldable pub spans_in : ℕ → List ItemRecord → List Span
spans_in at [] = []
spans_in at (r ∷ rest) = span_of at r ∷ spans_in (at + length (outputs_of r)) rest
