use Rattle.ecat_master.proofs.StartLemmas.{unwritten_is_no_fault}
use Rattle.ecat_master.proofs.startup.count.Goals as goal

pub returns-in_err-text-clause-failed : goal.returns-in_err-text-clause-failed
returns-in_err-text-clause-failed g c fault told =
    unwritten_is_no_fault _ c.from_residual.result fault c.from_residual.ensures.1 told

pub returns-in_err-text-2-clause-failed : goal.returns-in_err-text-2-clause-failed
returns-in_err-text-2-clause-failed g c fault told =
    unwritten_is_no_fault _ c.from_residual-in_err-text-2.result fault
    c.from_residual-in_err-text-2.ensures.1 told

pub returns-in_err-end-clause-failed : goal.returns-in_err-end-clause-failed
returns-in_err-end-clause-failed g c fault told =
    unwritten_is_no_fault _ c.from_residual-in_err-end.result fault c.from_residual-in_err-end.ensures.1 told

pub returns-in_err-put-clause-failed : goal.returns-in_err-put-clause-failed
returns-in_err-put-clause-failed g c fault told =
    unwritten_is_no_fault _ c.from_residual-in_err-put.result fault c.from_residual-in_err-put.ensures.1 told
