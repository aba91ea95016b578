-- Ports over packets seen from outside: the ring behind them, and what carries the packets.
use Rattle.ec_ring.specs.Ring.{RingState}

pub record PortsState (L : Type 0) : Type 0 where
  pub ring : RingState
  pub line : L
