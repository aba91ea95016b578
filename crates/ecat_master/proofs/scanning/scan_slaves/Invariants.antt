use Rattle.std.proofs.Common.{◌≡◌, true}
use Rattle.ecat_master.specs.Scan.{ArePlacesRead}
use Rattle.ecat_master.proofs.scanning.scan_slaves.Given as goal

abbrev pub invariant-loop-place : goal.invariant-loop-place
invariant-loop-place g l =
    l.all ≡ true → ArePlacesRead g.P.HeardPorts.trips l.initial.ports l.located l.place l.ports
