use Rattle.std.proofs.Common.{◌+◌, None, arith, drop}
use Rattle.ecat_master.specs.Identities.{entry_at}
use Rattle.ecat_master.proofs.IdentityLemmas.{entries_all, entries_end, entries_on, left_is, left_none}
use Rattle.ecat_master.proofs.identity.compare_entries.Goals as goal

pub returns-in-Err : goal.returns-in-Err
returns-in-Err g c =
    entries_end g.P.Ports.trips c.args.ports.now c.loop-number.ports c.compare_entry.new.ports c.args.peer
    c.loop-number.peer c.compare_entry.new.peer (entry_at c.args.place c.args.station 1)
    (entry_at c.args.place c.args.station (c.loop-number.number + 1)) _ c.args.identity.now
    (drop c.loop-number.number c.args.identity.now)
    (drop (c.loop-number.number + 1) c.args.identity.now) c.in-Err.other c.loop-number.invariant.on
    (left_is c.args.identity.now c.loop-number.number None (omega (arith, c.loop-number-test.true)))
    c.in-Err.ensures.compared

pub loop-number-preserved : goal.loop-number-preserved
loop-number-preserved g c = record {
  peer = c.in-Ok.ensures.still_peer;
  on = entries_on g.P.Ports.trips c.args.ports.now c.loop-number.ports c.compare_entry.new.ports c.args.peer
      c.loop-number.peer c.compare_entry.new.peer (entry_at c.args.place c.args.station 1)
      (entry_at c.args.place c.args.station (c.loop-number.number + 1)) _ c.args.identity.now
      (drop c.loop-number.number c.args.identity.now)
      (drop (c.loop-number.number + 1) c.args.identity.now) c.loop-number.invariant.on
      (left_is c.args.identity.now c.loop-number.number None (omega (arith, c.loop-number-test.true)))
      c.in-Ok.ensures.compared;
}

pub returns : goal.returns
returns g c =
    entries_all g.P.Ports.trips c.args.ports.now c.loop-number.ports c.args.peer c.loop-number.peer
    (entry_at c.args.place c.args.station 1)
    (entry_at c.args.place c.args.station (c.loop-number.number + 1)) c.args.identity.now
    (drop c.loop-number.number c.args.identity.now) c.loop-number.invariant.on
    (left_none c.args.identity.now c.loop-number.number (omega (arith, c.loop-number-test.false)))
