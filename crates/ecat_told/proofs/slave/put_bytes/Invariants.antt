use Rattle.std.proofs.Common.{◌≡◌, ◌+◌, drop}
use Rattle.ecat_told.specs.Slave.{with_bytes}
use Rattle.ecat_told.proofs.slave.put_bytes.Given as goal

-- what is left makes of the bytes now what all make of them at first
abbrev pub invariant-loop-k : goal.invariant-loop-k
invariant-loop-k l =
    with_bytes l.how l.arrived (l.address + l.k) (drop l.k l.values) l.now
    ≡ with_bytes l.how l.arrived l.address l.values l.initial.now
