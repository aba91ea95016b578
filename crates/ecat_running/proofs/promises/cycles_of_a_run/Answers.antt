use Rattle.ec_run.specs.Cycles.{items_sent}
use Rattle.ec_run.specs.Watched.{untold}
use Rattle.ecat_running.proofs.OwnLemmas.{brought_by_ports}
use Rattle.ecat_running.proofs.promises.cycles_of_a_run.Goals as goal

pub returns : goal.returns
returns g c = record {
  own = λ planned s after before later end round.
      let suffices = round.cycle.suffices in
      record {
        came = suffices.came;
        taken = λ none room.
            c.a_good_is_of_its_cycle.ensures.watched before.ports round.behind.ports _ suffices.came none room
            (brought_by_ports g.C.Carrier.gives g.C.Carrier.heard (untold before.ports) round.behind _
            suffices.came suffices.brought);
        says = record {
          still = λ r taken behind expects takes gave.
              c.a_good_is_of_its_cycle.ensures.says before.ports round.behind.ports r
              (items_sent planned.plan.now.outputs round.supplied) planned.expected.now taken suffices.came
              behind end round.cycle.brought expects.size expects.accepted expects.expects suffices.says
              takes gave;
          moving = λ r ws runs taken expects moves takes gave.
              c.a_good_is_of_its_cycle.ensures.says_moving before.ports round.behind.ports r
              (items_sent planned.plan.now.outputs round.supplied) planned.expected.now ws runs taken
              suffices.came end round.cycle.brought expects.size expects.accepted moves expects.expects
              suffices.says_moving takes gave;
        };
      };
}
