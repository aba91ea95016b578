use Rattle.std.proofs.Common.{◌≢◌, ◌∙◌, sym, slice_index, rules}
use Rattle.std.proofs.lemmas.Bool.{false≢true}
use Rattle.std.proofs.lemmas.Str.Pattern.{starts_char}
use Rattle.ecat_args.proofs.NumberLemmas.{result_ok-parsed}
use Rattle.ecat_args.proofs.number.numeral.Goals as goal

pub returns : goal.returns
returns c =
    let starts = starts_char 43 c.args.digits.now c.starts_with.result c.starts_with.ensures.cases
    (search rules) (search rules) in
    let plain : slice_index c.args.digits.now 0 ≢ 43 =
    λ plus. false≢true (sym c.if-starts_with.false ∙ starts.1 plus) in
    c.ok.ensures.value
    ∙ result_ok-parsed c.args.radix c.args.digits.now c.from_str_radix.result plain
    c.from_str_radix.ensures.value
