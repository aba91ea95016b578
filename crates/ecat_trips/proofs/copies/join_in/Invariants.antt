use Rattle.std.proofs.Common.{◌≡◌, take}
use Rattle.ecat_trips.specs.Copies.{joined_or}
use Rattle.ecat_trips.specs.Zipped.{zipped}
use Rattle.ecat_trips.proofs.copies.join_in.Given as goal

-- the first k datagrams are joined
abbrev pub invariant-loop-k : goal.invariant-loop-k
invariant-loop-k l = l.into ≡ zipped joined_or (take l.k l.sent) l.initial.into l.other
