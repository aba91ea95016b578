use Rattle.std.proofs.Common.{◌∙◌, ap, sym, length}
use Rattle.std.proofs.lemmas.List.{length-map}
use Rattle.ec_master.specs.Work.{rewound}
use Rattle.ec_run.proofs.OutputLemmas.{length_of_outputs}
use Rattle.ec_run.proofs.cycles.Cycles.cycle_in.Goals as goal

pub run_cycle_in-ended-requires : goal.run_cycle_in-ended-requires
run_cycle_in-ended-requires g c =
    c.requires.items
    ∙ sym (length_of_outputs c.args.outputs c.args.self.now.counts.cycles c.args.self.now.asked)
    ∙ sym (ap length c.put.ensures)
    ∙ sym (length-map c.put.new.work rewound)
    ∙ sym (ap length c.rewind.ensures)
