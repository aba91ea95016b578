use Rattle.std.proofs.Common.{◌∙◌, take, ap}
use Rattle.std.proofs.lemmas.List.{take_min}
use Rattle.ec_wire.specs.declared.frame.TheConstants.{MAX_FRAME}
use Rattle.ecat_record.proofs.copies.front_of.Goals as goal

pub returns-clause-value : goal.returns-clause-value
returns-clause-value c =
    ap (λ n. take n c.args.frame.now) c.min.ensures ∙ take_min MAX_FRAME c.args.frame.now
