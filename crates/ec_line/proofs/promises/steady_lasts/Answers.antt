use Rattle.ec_line.proofs.promises.steady_lasts.Goals as goal
use Rattle.ec_line.proofs.Laws.{after_steady, after_controller, claim_lasts, taken_lasts, gain_lasts}
use Rattle.ec_line.proofs.Laws.{managers_last, fmmus_last, fit_lasts, accepts_lasts}

pub returns-clause-steady : goal.returns-clause-steady
returns-clause-steady c = after_steady

pub returns-clause-claims : goal.returns-clause-claims
returns-clause-claims c = claim_lasts

pub returns-clause-takes : goal.returns-clause-takes
returns-clause-takes c = taken_lasts

pub returns-clause-gains : goal.returns-clause-gains
returns-clause-gains c = gain_lasts

pub returns-clause-controller : goal.returns-clause-controller
returns-clause-controller c = after_controller

pub returns-clause-managers : goal.returns-clause-managers
returns-clause-managers c = managers_last

pub returns-clause-fmmus : goal.returns-clause-fmmus
returns-clause-fmmus c = fmmus_last

pub returns-clause-fit : goal.returns-clause-fit
returns-clause-fit c = fit_lasts

pub returns-clause-accepts : goal.returns-clause-accepts
returns-clause-accepts c = accepts_lasts
