use Rattle.std.proofs.Common.{List, refl, sym, ◌∙◌}
use Rattle.std.specs.List.{AllByRecursion}
use Rattle.ec_app.specs.State.{SlaveState}
use Rattle.ec_map.specs.Item.{ItemRecord, IsItem}
use Rattle.ec_master.specs.Again.{AskTheSame}
use Rattle.ec_master.specs.Cut.{entries_from}
use Rattle.ec_master.specs.Moments.{answers_moving}
use Rattle.ec_master.specs.Unordered.{IsAccepted}
use Rattle.ec_master.specs.Work.{with_answers}
use Rattle.ec_run.specs.Cycles.{items_sent}
use Rattle.ec_over_ring.proofs.InOpLemmas as lemmas
use Rattle.ec_over_ring.proofs.InOpMovingLemmas as moving
use Rattle.ec_over_ring.proofs.SentLemmas.{sent_asks, sent_items}
use Rattle.ec_over_ring.proofs.states.all_in_op.Goals as goal

pub returns-clause-before : goal.returns-clause-before
returns-clause-before c ws r items sent n s told is names =
    let answers = c.good_image.ensures.answers ws r sent told.limit told.accepted told.each told.good in
    lemmas.in_op_before ws r items sent n s answers told is names

pub returns-clause-behind : goal.returns-clause-behind
returns-clause-behind c ws r items sent n s told is names =
    let answers = c.good_image.ensures.answers ws r sent told.limit told.accepted told.each told.good in
    let memories = c.good_image.ensures.memories ws r sent n told.limit told.accepted told.each told.good in
    lemmas.in_op_behind ws r items sent n s answers memories told is names

pub returns-clause-by_cycles : goal.returns-clause-by_cycles
returns-clause-by_cycles c before later outputs expected cycles after n s told is names =
    let slaves : List SlaveState = before.ring.slaves in
    let sent : List ItemRecord = items_sent outputs cycles in
    let asks : AskTheSame cycles.asked sent = sent_asks outputs cycles in
    let each : AllByRecursion IsItem sent = sent_items outputs cycles told.each in
    let accepted : IsAccepted slaves sent =
    c.accepted_by_mapping.ensures.accepted slaves slaves cycles.asked sent told.accepted asks refl
    told.accepted.are in
    let expects =
    told.expects
    ∙ sym (c.accepted_by_mapping.ensures.expected slaves slaves cycles.asked sent told.accepted told.each each
    asks refl) in
    let given = c.weathers_give.ensures.gives sent before later _ each told.cycle.suffices.brought in
    lemmas.in_op_by_cycles before later outputs expected cycles after n s told
    (told.cycle.suffices.says before.ahead before.ring told.limit accepted expects given) accepted is names

pub returns-clause-told : goal.returns-clause-told
returns-clause-told c ws r items sent image n s told is names =
    lemmas.in_op_told ws r items sent image n s told is names

pub returns-clause-moving : goal.returns-clause-moving
returns-clause-moving c ws r items sent runs told =
    let is_cut =
    c.the_cut.ensures.is_cut (entries_from 0 sent) (c.the_cut.ensures.items_fit 0 sent told.each) in
    moving.work_in_op ws r items sent (with_answers sent (answers_moving ws r sent runs)) runs told.asks
    told.accepted told.each is_cut
    (c.good_at_one_moment.ensures.image ws r sent runs told.limit told.accepted told.each told.moves
    told.good)
    told.tells

pub returns-clause-told_moving : goal.returns-clause-told_moving
returns-clause-told_moving c ws r items sent image runs told =
    let is_cut =
    c.the_cut.ensures.is_cut (entries_from 0 sent) (c.the_cut.ensures.items_fit 0 sent told.each) in
    moving.work_in_op ws r items sent image runs told.asks told.accepted told.each is_cut
    (told.says.image refl) told.tells
