use Rattle.std.proofs.Common.{◌++◌, ap, sym, subst, ◌∙◌}
use Rattle.std.proofs.lemmas.List.{append_assoc}
use Rattle.std.proofs.lemmas.Result.{on_ok_weaker}
use Rattle.ecat_list.specs.Passed.{all_of, ended, fated, seen_in}
use Rattle.ecat_list.specs.Stats.{IsStatsOf}
use Rattle.ecat_list.specs.declared.passed.What.TheVariants.{Sent}
use Rattle.ecat_list.proofs.stats.Stats.take_fate.Goals as goal

-- the trip that ended, and behind it the frame that was sent
pub returns-in_ok-take_trip-in-Replaces : goal.returns-in_ok-take_trip-in-Replaces
returns-in_ok-take_trip-in-Replaces c =
    let frame = c.args.frame.now in
    let first = ended c.args.by_index c.trip.result.now in
    let second = all_of c.args.by_index (seen_in Sent c.args.packet.now) frame frame in
    on_ok_weaker c.take_packet-in-Replaces.result
    (λ more all told.
    subst (λ xs. IsStatsOf xs c.take_packet-in-Replaces.new.self)
    (append_assoc all first second
    ∙ ap (λ xs. all ++ xs) (ap (λ t. ended c.args.by_index t ++ second) c.trip.ensures
    ∙ sym (ap (fated c.args.by_index c.args.packet.now frame) c.in-Replaces.is)))
    (more (all ++ first) (c.in_ok-take_trip-in-Replaces.ensures all told)))
    c.take_packet-in-Replaces.ensures
