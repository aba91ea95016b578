use Rattle.ecat_started.proofs.SetUpLemmas.{set_up_certified}
use Rattle.ecat_started.proofs.set_up.set_up_line.Goals as goal

pub returns : goal.returns
returns c =
    set_up_certified
    (record {
      accepted = c.accepted_by_mapping.ensures.accepted;
      expected = c.accepted_by_mapping.ensures.expected;
      any_order = c.accepted_in_any_order.ensures.accepted;
    })
