use Rattle.std.proofs.Common.{rules, ◌≤◌, ◌<◌, arith, length, decimal}
use Rattle.std.proofs.lemmas.Fmt.{length-decimal-le, decimal_nonempty}
use Rattle.ecat_list.proofs.row.Row.lead_decimal.Goals as goal

pub write_digits-self-requires : goal.write_digits-self-requires
write_digits-self-requires c =
    let short : length (decimal c.args.number) ≤ 20 = search (rules, length-decimal-le 20) in
    (omega arith, search rules)

pub returns-clause-some : goal.returns-clause-some
returns-clause-some c =
    let some : 0 < length (decimal c.args.number) = search (rules, decimal_nonempty) in
    omega arith

pub returns-clause-at : goal.returns-clause-at
returns-clause-at c =
    let short : length (decimal c.args.number) ≤ 20 = search (rules, length-decimal-le 20) in
    omega arith
