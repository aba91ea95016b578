use Rattle.ec_run.proofs.AlikeLemmas as like
use Rattle.ec_run.proofs.AlikeTurnLemmas as like_turns
use Rattle.ec_run.proofs.AlikeCycleLemmas as like_cycles
use Rattle.ec_run.proofs.alike.over_like_ports.Goals as goal

pub returns-clause-brings : goal.returns-clause-brings
returns-clause-brings g c f are before later place line steps result brings =
    like.brings_of f g.P.Ports.trips g.Q.Ports.trips are before later place line steps result brings

pub returns-clause-counted : goal.returns-clause-counted
returns-clause-counted g c f are before later count counted =
    like.counted_of f g.P.Ports.trips g.Q.Ports.trips are before later count counted

pub returns-clause-looked_up : goal.returns-clause-looked_up
returns-clause-looked_up g c f are before later station seen looked =
    like.looked_up_of f g.P.Ports.trips g.Q.Ports.trips are before later station seen looked

pub returns-clause-recovered : goal.returns-clause-recovered
returns-clause-recovered g c f are before later place wanted tells outcome recovered =
    like.recovered_of f g.P.Ports.trips g.Q.Ports.trips are before later place wanted tells outcome recovered

pub returns-clause-looked_along : goal.returns-clause-looked_along
returns-clause-looked_along g c f are before later line first result along =
    like_turns.along_of_like f g.P.Ports.trips g.Q.Ports.trips are before later line first result along

pub returns-clause-turned : goal.returns-clause-turned
returns-clause-turned g c f are before later wanted r turn taken =
    like_turns.turn_of_like f g.P.Ports.trips g.Q.Ports.trips are before later wanted r turn taken

pub returns-clause-cycle : goal.returns-clause-cycle
returns-clause-cycle g c f are before later outputs expected s after end cycle =
    like_cycles.cycle_of f g.P.Ports.trips g.Q.Ports.trips are before later outputs expected s after end cycle

pub returns-clause-run : goal.returns-clause-run
returns-clause-run g c f are outputs expected start now run =
    like_cycles.run_of f g.P.Ports.trips g.Q.Ports.trips are outputs expected start now run

pub returns-clause-within : goal.returns-clause-within
returns-clause-within g c f are most before later within =
    like.within_of f g.P.Ports.trips g.Q.Ports.trips are most before later within

pub returns-clause-left : goal.returns-clause-left
returns-clause-left g c f are most before later state slaves result leaves =
    like.leaves_of f g.P.Ports.trips g.Q.Ports.trips are most before later state slaves result leaves
