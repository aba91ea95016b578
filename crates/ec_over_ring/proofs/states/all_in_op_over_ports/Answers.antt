use Rattle.std.proofs.Common.{List, refl, sym, ap, ◌∙◌, subst}
use Rattle.std.specs.List.{AllByRecursion}
use Rattle.ec_app.specs.State.{SlaveState}
use Rattle.ec_map.specs.Item.{ItemRecord, IsItem}
use Rattle.ec_master.specs.Again.{AskTheSame}
use Rattle.ec_master.specs.Cut.{entries_from}
use Rattle.ec_master.specs.Moments.{AllGivenByMoving}
use Rattle.ec_master.specs.Suffice.{AllGivenBy}
use Rattle.ec_master.specs.Travelled.{trips_under}
use Rattle.ec_master.specs.Unordered.{IsAccepted}
use Rattle.ec_ring.specs.Ring.{line_of}
use Rattle.ec_run.specs.Cycles.{items_sent}
use Rattle.ec_run.specs.declared.cycles.Cycles.{Cycles}
use Rattle.ec_over_ring.proofs.InOpLemmas as lemmas
use Rattle.ec_over_ring.proofs.InOpMovingLemmas as moving
use Rattle.ec_over_ring.proofs.SentLemmas.{sent_asks, sent_items}
use Rattle.ec_over_ring.proofs.states.all_in_op_over_ports.Goals as goal

pub returns-clause-still : goal.returns-clause-still
returns-clause-still g c before later outputs expected cycles after came ws r n s told counts given is names =
    let slaves : List SlaveState = r.slaves in
    let sent : List ItemRecord = items_sent outputs cycles in
    let asks : AskTheSame cycles.asked sent = sent_asks outputs cycles in
    let each : AllByRecursion IsItem sent = sent_items outputs cycles told.each in
    let accepted : IsAccepted slaves sent =
    c.accepted_by_mapping.ensures.accepted slaves slaves cycles.asked sent counts.accepted asks refl
    counts.accepted.are in
    let expects =
    counts.expects
    ∙ sym (c.accepted_by_mapping.ensures.expected slaves slaves cycles.asked sent counts.accepted told.each
    each asks refl) in
    let says =
    told.cycle.suffices.says ws r counts.limit accepted expects
    (subst (AllGivenBy (trips_under ws r sent) (line_of r)) (sym told.came_is) given) in
    let so : lemmas.IsToldSo told.items sent told.cycle.brought =
    lemmas.told_so outputs cycles after told.items told.image told.cycle.brought told.asks told.image_is
    (ap (λ (x : Cycles). x.image) told.cycle.after_is) told.tells in
    lemmas.in_op_told ws r told.items sent told.cycle.brought n s
    (record { asks = so.asks; accepted = accepted; each = each; says = says; tells = so.tells }) is names

pub returns-clause-moving : goal.returns-clause-moving
returns-clause-moving g c before later outputs expected cycles after came ws r runs told counts moves given =
    let slaves : List SlaveState = r.slaves in
    let sent : List ItemRecord = items_sent outputs cycles in
    let asks : AskTheSame cycles.asked sent = sent_asks outputs cycles in
    let each : AllByRecursion IsItem sent = sent_items outputs cycles told.each in
    let accepted : IsAccepted slaves sent =
    c.accepted_by_mapping.ensures.accepted slaves slaves cycles.asked sent counts.accepted asks refl
    counts.accepted.are in
    let expects =
    counts.expects
    ∙ sym (c.accepted_by_mapping.ensures.expected slaves slaves cycles.asked sent counts.accepted told.each
    each asks refl) in
    let says =
    told.cycle.suffices.says_moving ws r runs counts.limit accepted moves expects
    (subst (AllGivenByMoving (trips_under ws r sent) runs) (sym told.came_is) given) in
    let so : lemmas.IsToldSo told.items sent told.cycle.brought =
    lemmas.told_so outputs cycles after told.items told.image told.cycle.brought told.asks told.image_is
    (ap (λ (x : Cycles). x.image) told.cycle.after_is) told.tells in
    let is_cut =
    c.the_cut.ensures.is_cut (entries_from 0 sent) (c.the_cut.ensures.items_fit 0 sent each) in
    moving.work_in_op ws r told.items sent told.cycle.brought runs so.asks accepted each is_cut
    (says.image refl) so.tells
