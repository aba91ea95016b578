-- The datagrams from here on are to be changed.
use Rattle.std.proofs.Common.{◌≡◌, length}
use Rattle.ec_line.specs.Trip.{circulated}
use Rattle.ec_ring.proofs.PassLemmas.{circulating_from}
use Rattle.ec_ring.proofs.ring.circulate.Given as goal

abbrev pub invariant-loop-k : goal.invariant-loop-k
invariant-loop-k l = record {
  size : length l.frame ≡ length l.initial.frame;
  so_far : circulating_from l.k l.frame ≡ circulated l.initial.frame;
}
