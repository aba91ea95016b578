use Rattle.std.proofs.Common.{◌∙◌, ap, sym}
use Rattle.ecat_list.specs.Seconds.{fraction_words}
use Rattle.ecat_list.proofs.SecondsLemmas as seconds
use Rattle.ecat_list.proofs.text.one_and_fraction.Goals as goal

pub returns-then-fine : goal.returns-then-fine
returns-then-fine c = seconds.nine_behind c.args.nanoseconds ∙ ap (fraction_words c.args.nanoseconds) (sym c.if-fine.true)

pub returns-else-fine : goal.returns-else-fine
returns-else-fine c = seconds.six_behind c.args.nanoseconds ∙ ap (fraction_words c.args.nanoseconds) (sym c.if-fine.false)
