-- What a ring is once a lent slave comes back.
use Rattle.std.specs.Prelude.{ℕ}
use Rattle.std.specs.Borrow.{Lends, Fml, MutBor}
use Rattle.ec_app.specs.State.{SlaveState}
use Rattle.ec_app.specs.contracts.slave.Slave.{the_row as slave_row}
use Rattle.ec_ring.specs.Ring.{RingState, with_slave}
use Rattle.ec_ring.specs.contracts.ring.Ring.{the_row}

-- once the borrow r ends, the slave at `k` is what was last behind r, and all else is as before
abbrev pub LendsSlave : MutBor RingState → ℕ → MutBor SlaveState → Fml
LendsSlave ring k r = Lends the_row slave_row ring r (with_slave ring.now k)
