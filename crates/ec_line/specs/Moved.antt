-- By how much the working counters of a copy have moved on its way (IEC 61158-4-12, working counter).
use Rattle.std.specs.Prelude.{◌≡◌, ◌≤◌, ℕ, ◌+◌, ◌%◌, List, [], ◌∷◌}
use Rattle.ec_wire.specs.Datagram.{DatagramRecord}

-- the counter of a datagram has moved on by at most n from the sent one
pub record IsMoved (n : ℕ) (sent got : DatagramRecord) : Type 0 where
  pub gain : ℕ
  pub few : gain ≤ n
  pub counter : got.counter ≡ (sent.counter + gain) % 65536

-- so has that of each datagram of a copy, and there are as many as were sent
abbrev pub AllMoved : ℕ → List DatagramRecord → List DatagramRecord → Type 0
AllMoved n [] [] = Unit {0}
AllMoved n (s ∷ ss) (g ∷ gs) = IsMoved n s g × AllMoved n ss gs
AllMoved n _ _ = ⊥
