use Rattle.std.proofs.Common.{◌≡◌, ℕ, false, List}
use Rattle.ec_areas.specs.Ranges.{takes_writes, some_address, IsOnArrival}
use Rattle.ec_areas.proofs.ranges.some_byte_takes_writes.Given as goal

-- none of the bytes before takes a write
abbrev pub invariant-loop-place : goal.invariant-loop-place
invariant-loop-place l = (memory : List ℕ) → IsOnArrival memory l.managers l.sii
    → some_address (takes_writes memory) l.range.first l.place ≡ false
