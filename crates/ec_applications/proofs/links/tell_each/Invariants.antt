-- The slaves before the next one are told.
use Rattle.std.proofs.Common.{◌≡◌, ◌≤◌, length}
use Rattle.ec_ring.specs.Links.{is_up}
use Rattle.ec_ring.specs.declared.links.TheConstants.{MAX_SLAVES}
use Rattle.ec_applications.specs.Links.{first_told}
use Rattle.ec_applications.proofs.links.tell_each.Given as goal

abbrev pub invariant-loop-k : goal.invariant-loop-k
invariant-loop-k l = record {
  limit : l.count ≤ MAX_SLAVES;
  count : l.count ≡ length l.initial.ring.slaves;
  ring : l.ring ≡ first_told (is_up l.links) l.k l.initial.ring;
}
