use Rattle.std.proofs.Common.{◌+◌, drop}
use Rattle.ec_services.specs.Mailbox.{IsPeer}
use Rattle.ecat_master.specs.Identities.{entry_at}
use Rattle.ecat_master.proofs.IdentityLemmas.{EntriesOn}
use Rattle.ecat_master.proofs.identity.compare_entries.Given as goal

abbrev pub invariant-loop-number : goal.invariant-loop-number
invariant-loop-number g l = record {
  peer : IsPeer l.peer;
  on : EntriesOn g.P.Ports.trips l.initial.ports l.ports l.initial.peer l.peer
      (entry_at l.place l.station 1) (entry_at l.place l.station (l.number + 1)) l.identity
      (drop l.number l.identity);
}
