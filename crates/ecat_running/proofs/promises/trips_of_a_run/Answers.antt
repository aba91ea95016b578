use Rattle.std.proofs.Common.{◌*◌, ◌<◌, ◌≤◌, ◌^◌, length, arith}
use Rattle.ecat_master.specs.Course.{round_trips, sides_of}
use Rattle.ecat_master.specs.Leaving.{leaving_trips}
use Rattle.ecat_master.specs.Start.{start_trips}
use Rattle.ecat_master.proofs.Laws.{left_within, rounds_within, started_within}
use Rattle.ecat_remote.specs.Trips.{HeardTrips}
use Rattle.ecat_running.proofs.HistoryLemmas.{history_of, joined}
use Rattle.ecat_running.proofs.promises.trips_of_a_run.Goals as goal

pub returns-clause-started : goal.returns-clause-started
returns-clause-started g c before later line identities cable started =
    history_of g.C.Carrier.gives g.C.Carrier.heard c.no_number_is_given_twice.ensures.is
    (start_trips (length line) identities) before.ports later.ports
    (started_within (HeardTrips g.C.Carrier.gives g.C.Carrier.heard) before later line identities cable started)

pub returns-clause-rounds : goal.returns-clause-rounds
returns-clause-rounds g c planned n s after before later last rounds =
    history_of g.C.Carrier.gives g.C.Carrier.heard c.no_number_is_given_twice.ensures.is
    (n * round_trips (length s.asked) planned.plan.now.stop) before.ports later.ports
    (rounds_within (sides_of (HeardTrips g.C.Carrier.gives g.C.Carrier.heard) g.D.Task.listens g.D.Task.held
    g.T.Pace.over) planned n s after before later last rounds)

pub returns-clause-left : goal.returns-clause-left
returns-clause-left g c state slaves before later left is =
    history_of g.C.Carrier.gives g.C.Carrier.heard c.no_number_is_given_twice.ensures.is leaving_trips
    before.ports later.ports
    (left_within (HeardTrips g.C.Carrier.gives g.C.Carrier.heard) state slaves before later left is)

pub returns-clause-joined : goal.returns-clause-joined
returns-clause-joined g c = joined c.no_number_is_given_twice.ensures.more

pub returns-clause-fresh : goal.returns-clause-fresh
returns-clause-fresh g c n before later history few =
    let bound : length history.past ≤ n = history.bound in
    let less : length history.past < 2 ^ 63 = omega (arith, bound, few) in
    c.no_number_is_given_twice.ensures.fresh before later history.past less history.went
