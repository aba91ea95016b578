-- What a run of bytes that was lent leaves behind.
use Rattle.std.specs.Prelude.{ℕ, ◌-◌, List, ◌++◌, take, drop, slice_range}
use Rattle.std.specs.List.{refill}
use Rattle.std.specs.Borrow.{Lends, Fml, RattleType, MutBor, Array, u8}
use Rattle.ec_wire.specs.contracts.cells.Cells.{the_row}

-- xs with the run from `from` up to `to` written over by ws, cut or filled up to the run's length
abbrev pub with_run : List ℕ → ℕ → ℕ → List ℕ → List ℕ
with_run xs from to ws = take from xs ++ (refill (to - from) (slice_range xs from to) ws ++ drop to xs)

-- once the borrow r ends, the run holds what was last behind r, and the other bytes are as before
abbrev pub lends_run : (N : RattleType) → MutBor (the_row N).Denot → ℕ → ℕ → MutBor (List ℕ) → Fml
lends_run N cells from to r =
    Lends (the_row N) (Array u8 0) cells r (λ ws. record { bytes = with_run cells.now.bytes from to ws })
