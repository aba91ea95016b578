use Rattle.ecat_signals.proofs.FieldLemmas.{number-back, number-others, row-others}
use Rattle.ecat_signals.proofs.laws.fields_read_back.Goals as goal

pub returns : goal.returns
returns c = record { numbers = number-back; others = number-others; rows = row-others }
