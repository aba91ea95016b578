use Rattle.ecat_served.proofs.ServingLemmas.{answered_history, dropped_history, sent_as}
use Rattle.ecat_serve.specs.State.{spoken}
use Rattle.ecat_served.proofs.promises.serving_makes_a_history.Goals as goal

pub returns-clause-answered : goal.returns-clause-answered
returns-clause-answered g c =
    answered_history g.E.Ends.sends
    (record {
      steps = c.moves_between_passages.ensures.step;
      acts = c.moves_between_passages.ensures.acting;
      serves = c.serving_moves_slaves.ensures;
      size_acted = c.acting_leaves.ensures.size;
      size_behind = c.behind_leaves.ensures.size;
    })
    c.telling_moves_slaves.ensures.moved

pub returns-clause-sent : goal.returns-clause-sent
returns-clause-sent g c arrived packet before later result answered =
    sent_as (spoken before.line arrived.at arrived.from) answered.walked arrived.at answered.frame
    answered.arrival answered.walks

pub returns-clause-dropped : goal.returns-clause-dropped
returns-clause-dropped g c packet before later result dropped sound =
    dropped_history
    (record {
      steps = c.moves_between_passages.ensures.step;
      acts = c.moves_between_passages.ensures.acting;
      serves = c.serving_moves_slaves.ensures;
      size_acted = c.acting_leaves.ensures.size;
      size_behind = c.behind_leaves.ensures.size;
    })
    before.line later.line sound dropped.leaves
