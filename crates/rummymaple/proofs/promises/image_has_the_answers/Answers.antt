use Rattle.std.proofs.Common.{◌≤◌, arith, length, map}
use Rattle.std.proofs.lemmas.List.{length-map}
use Rattle.ec_master.specs.Cut.{concat}
use Rattle.rummymaple.specs.Items.{asked}
use Rattle.rummymaple.proofs.CallLemmas.{stored-frames}
use Rattle.rummymaple.proofs.ImageLemmas.{has-answers, stored-bytes, stores-all, calls-all}
use Rattle.rummymaple.proofs.TurnImageLemmas.{turns-answers, told-answers}
use Rattle.rummymaple.proofs.promises.image_has_the_answers.Goals as goal

pub returns-clause-stored : goal.returns-clause-stored
returns-clause-stored c items image before later came joined calls stored =
    let all : length items ≤ length (concat joined) =
    omega (arith, calls-all (map (asked image) items) 0 came joined calls, length-map items (asked image)) in
    has-answers items (map (asked image) items) (concat joined) before later
    (stored-bytes items (concat joined) before later all (stores-all items 0 joined before later stored))

pub returns-clause-taken : goal.returns-clause-taken
returns-clause-taken c h later came joined = turns-answers h came joined later

pub returns-clause-told : goal.returns-clause-told
returns-clause-told c form h later packets form_is begun told =
    let turns = c.turns_are_a_cycle.ensures.packets form h later packets form_is told in (
      turns.0,
      turns.1,
      turns.2,
      turns.3,
      told-answers form h packets turns.0 turns.1 later told begun turns.3,
    )

pub returns-clause-bytes : goal.returns-clause-bytes
returns-clause-bytes c items before later bytes joined =
    stored-frames items 0 bytes joined before later c.one_spelling.ensures
