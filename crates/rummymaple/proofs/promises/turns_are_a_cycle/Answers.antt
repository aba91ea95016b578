use Rattle.std.proofs.Common.{subst, map}
use Rattle.rummymaple.specs.Cycle.{AreCalls, AreGood}
use Rattle.rummymaple.specs.Items.{asked}
use Rattle.rummymaple.proofs.TurnLemmas.{turns-calls, turns-good}
use Rattle.rummymaple.proofs.PacketLemmas.{packets-turns}
use Rattle.rummymaple.proofs.promises.turns_are_a_cycle.Goals as goal

pub returns-clause-packets : goal.returns-clause-packets
returns-clause-packets c form h later packets form_is turns =
    packets-turns form h later packets c.one_spelling.ensures form_is turns

pub returns-clause-calls : goal.returns-clause-calls
returns-clause-calls c h later came joined turns first = (
  subst (λ k. AreCalls (map (asked h.image) h.items) k came joined) first
      (turns-calls h came joined later turns),
  subst (λ k. AreGood h.items k joined) first (turns-good h came joined later turns),
)

pub returns-clause-cycle : goal.returns-clause-cycle
returns-clause-cycle c h later came joined turns first =
    c.calls_are_a_cycle.ensures.cycle h.items h.image came joined
    (subst (λ k. AreCalls (map (asked h.image) h.items) k came joined) first
    (turns-calls h came joined later turns))
    (subst (λ k. AreGood h.items k joined) first (turns-good h came joined later turns))
