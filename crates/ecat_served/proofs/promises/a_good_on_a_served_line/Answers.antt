use Rattle.ecat_served.proofs.NetworkLemmas.{sealed_cycle}
use Rattle.ecat_served.proofs.promises.a_good_on_a_served_line.Goals as goal

pub returns-clause-gave : goal.returns-clause-gave
returns-clause-gave g c =
    sealed_cycle c.numbers_go_through_moving.ensures.a c.numbers_go_through_moving.ensures.b

pub returns-clause-says : goal.returns-clause-says
returns-clause-says g c before after ws r items expected gots later taken came result items_later room
    accepted counts says takes served gave =
    let all =
    sealed_cycle c.numbers_go_through_moving.ensures.a c.numbers_go_through_moving.ensures.b before.next ws r
    items gots later taken served gave in
    record {
      runs = all.0;
      met = all.1.met;
      left = all.1.left;
      says = c.a_good_is_of_its_cycle.ensures.says_moving before after r items expected ws all.0 taken came
          result items_later room accepted all.1.moving counts says takes all.1.gave;
    }
