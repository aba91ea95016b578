-- What is left to travel makes of the work and the ring as they are what the whole makes of those at first.
use Rattle.std.proofs.Common.{◌≡◌, ℕ, ◌-◌, ◌≤◌, length}
use Rattle.ec_ring.specs.Ring.{line_of}
use Rattle.ec_master.proofs.TravelLemmas.{finished, IsLaterRing}
use Rattle.ec_master.proofs.ring.travel.Given as goal

abbrev pub invariant-loop-first : goal.invariant-loop-first
invariant-loop-first g l =
    let at_first = g.T.Travel.ring l.initial.ring in
    let now = g.T.Travel.ring l.ring in
    let n : ℕ = length at_first.slaves in
    record {
      left : finished l.ahead at_first.links n l.first l.work (line_of now)
          ≡ finished l.weather at_first.links n 0 l.initial.work (line_of at_first);
      ring : IsLaterRing at_first now;
      inside : l.first ≤ length l.work;
    }

abbrev pub decreases-loop-first : goal.decreases-loop-first
decreases-loop-first g l = length l.work - l.first
