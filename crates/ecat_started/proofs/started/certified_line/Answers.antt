use Rattle.ec_run.specs.Watched.{untold}
use Rattle.ecat_started.proofs.StartedLemmas.{started_certified}
use Rattle.ecat_started.proofs.started.certified_line.Goals as goal

pub returns-clause-started : goal.returns-clause-started
returns-clause-started g c =
    started_certified
    (record {
      set_up = c.started_line.ensures.started;
      slaves = c.found_line.ensures.slaves;
      mailboxes = c.mailboxes_stand.ensures;
    })
    c.set_up_line.ensures

pub returns-clause-good : goal.returns-clause-good
returns-clause-good g c slaves work planned r told each ring wanted run =
    started_certified
    (record {
      set_up = c.started_line.ensures.started;
      slaves = c.found_line.ensures.slaves;
      mailboxes = c.mailboxes_stand.ensures;
    })
    c.set_up_line.ensures slaves planned.line.now work planned.expected.now planned.plan.now.identities.now
    run.made.cable (untold r) run.made.begun told each ring wanted run.made.started
