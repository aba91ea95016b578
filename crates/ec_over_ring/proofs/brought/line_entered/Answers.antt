use Rattle.ec_over_ring.proofs.Laws.{all_entered, all_in_op}
use Rattle.ec_over_ring.proofs.brought.line_entered.Goals as goal

pub returns-clause-entered : goal.returns-clause-entered
returns-clause-entered c place line state r later ring addresses brings =
    all_entered state place line r later ring addresses brings

pub returns-clause-in_op : goal.returns-clause-in_op
returns-clause-in_op c = all_in_op
