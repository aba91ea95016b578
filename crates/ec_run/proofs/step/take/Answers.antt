use Rattle.std.proofs.Common.{◌+◌, ◌-◌, ◌%◌, true, false, ℕ, subst}
use Rattle.std.specs.List.{slice_get}
use Rattle.ec_services.specs.Ask.{write}
use Rattle.ec_run.specs.StartupObjects.{startup_peer, WritesStartup}
use Rattle.ec_run.specs.Step.{manager_number, address_write, behind_question}
use Rattle.ec_run.proofs.StepLemmas.{talks_last, sets_manager}
use Rattle.ec_run.proofs.step.take.Goals as goal

pub returns-in-Station-clause-done : goal.returns-in-Station-clause-done
returns-in-Station-clause-done g c =
    rw c.in-Station.is
    (talks_last g.P.Ports.trips c.args.ports.now c.give_station.new.ports
    (write (address_write c.args.place c.args.wanted.now.station false)) c.give_station.result
    c.give_station.ensures.asked)

pub returns-in-StationBehind-clause-done : goal.returns-in-StationBehind-clause-done
returns-in-StationBehind-clause-done g c =
    rw c.in-StationBehind.is
    (talks_last g.P.Ports.trips c.args.ports.now c.give_station_behind.new.ports
    (behind_question ((c.args.place + (65536 - c.in-StationBehind.first)) % 65536) c.args.wanted.now.station)
    c.give_station_behind.result c.give_station_behind.ensures.asked)

pub returns-in-StationBefore-clause-done : goal.returns-in-StationBefore-clause-done
returns-in-StationBefore-clause-done g c =
    rw c.in-StationBefore.is
    (talks_last g.P.Ports.trips c.args.ports.now c.give_station-in-StationBefore.new.ports
    (write (address_write c.args.place c.args.wanted.now.station true)) c.give_station-in-StationBefore.result
    c.give_station-in-StationBefore.ensures.asked)

pub returns-in-SyncManager-clause-done : goal.returns-in-SyncManager-clause-done
returns-in-SyncManager-clause-done g c =
    rw c.in-SyncManager.is
    (sets_manager g.P.Ports.trips c.args.ports.now c.set_manager.new.ports c.args.wanted.now.station
    (manager_number c.in-SyncManager.number) c.manager_number-number.result c.args.wanted.now.managers
    c.manager.result.now c.write-record.result c.set_manager.result c.manager_number-number.ensures.value
    c.manager.ensures c.write-record.ensures.value c.set_manager.ensures.talk)

pub returns-in-Startup-clause-done : goal.returns-in-Startup-clause-done
returns-in-Startup-clause-done g c =
    rw c.in-Startup.is
    (subst
    (λ (k : ℕ). WritesStartup g.P.Ports.trips c.args.ports.now (startup_peer c.args.wanted.now k)
    (slice_get c.args.wanted.now.startup k) c.write_startup.result c.write_startup.new.ports)
    c.startup_number.ensures.value c.write_startup.ensures.writes)
