-- What a frame is once its lent data come back.
use Rattle.std.specs.Prelude.{ℕ, List, length, slice_set}
use Rattle.std.specs.List.{refill}
use Rattle.std.specs.Borrow.{Lends, Fml, MutBor, Array, u8}
use Rattle.ec_wire.specs.Datagram.{DatagramRecord, nth}
use Rattle.ec_wire.specs.contracts.frame.FrameBuf.{the_row}

-- a frame with the data of the datagram at `k` written over, their number kept
abbrev pub with_data : List DatagramRecord → ℕ → List ℕ → List DatagramRecord
with_data rs k bytes =
    slice_set rs k
    (record (nth rs k) { payload = refill (length (nth rs k).payload) (nth rs k).payload bytes })

-- once the borrow r ends, the data of the datagram at `k` are what was last behind r, and all else is as
-- before
abbrev pub LendsData : MutBor (List DatagramRecord) → ℕ → MutBor (List ℕ) → Fml
LendsData frame k r = Lends the_row (Array u8 0) frame r (with_data frame.now k)
