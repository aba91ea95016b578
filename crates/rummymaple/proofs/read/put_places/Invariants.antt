-- The first k datagrams are put, and the next one begins behind them.
use Rattle.std.proofs.Common.{◌≡◌, ◌+◌, ◌++◌, take, drop}
use Rattle.ec_wire.specs.Spelling.{body_length}
use Rattle.rummymaple.specs.Read.{places_from}
use Rattle.rummymaple.proofs.read.put_places.Given as goal

abbrev pub invariant-loop-k : goal.invariant-loop-k
invariant-loop-k l = record {
  next : l.at ≡ 2 + body_length (take l.k l.frame);
  put : l.room ≡ places_from 2 (take l.k l.frame) ++ drop l.k l.initial.room;
}
