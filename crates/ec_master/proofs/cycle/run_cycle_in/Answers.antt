use Rattle.std.proofs.Common.{◌∙◌, ap, length, Ok, Err, rules}
use Rattle.ec_master.specs.Cut.{concat}
use Rattle.ec_master.proofs.WorkLemmas.{length-with_answers}
use Rattle.ec_master.proofs.BroughtLemmas.{cycle-suffices}
use Rattle.ec_master.proofs.cycle.run_cycle_in.Goals as goal

pub conclude-requires-clause-taken : goal.conclude-requires-clause-taken
conclude-requires-clause-taken g c =
    ap length c.in-Ok.ensures.answers.taken_are
    ∙ length-with_answers c.assign.new.self (concat c.in-Ok.ensures.answers.joined)

pub returns-in-Ok-clause-frames_suffice : goal.returns-in-Ok-clause-frames_suffice
returns-in-Ok-clause-frames_suffice g c =
    cycle-suffices g.P.Ports.trips c.args.ports.now c.carry_all.new.ports c.args.work.now c.args.expected.now
    (Ok c.conclude.result)
    c.conclude.new.work c.are_items.ensures.items c.requires (search rules)

pub returns-in-Err-clause-frames_suffice : goal.returns-in-Err-clause-frames_suffice
returns-in-Err-clause-frames_suffice g c =
    cycle-suffices g.P.Ports.trips c.args.ports.now c.carry_all.new.ports c.args.work.now c.args.expected.now
    (Err c.in-Err.fault)
    c.assign-in-Err.new.self c.are_items.ensures.items c.requires (search rules)
