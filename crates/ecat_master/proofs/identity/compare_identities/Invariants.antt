use Rattle.std.proofs.Common.{drop}
use Rattle.ecat_master.proofs.IdentityLemmas.{SlavesOn}
use Rattle.ecat_master.proofs.identity.compare_identities.Given as goal

abbrev pub invariant-loop-place : goal.invariant-loop-place
invariant-loop-place g l =
    SlavesOn g.P.Ports.trips l.initial.ports l.ports 0 l.place l.line (drop l.place l.line) l.identities
    (drop l.place l.identities)
