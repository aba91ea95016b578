use Rattle.std.proofs.Common.{◌<◌, length, decimal, rules}
use Rattle.std.proofs.lemmas.Fmt.{decimal_nonempty}
use Rattle.ecat_list.proofs.SecondsLemmas as seconds
use Rattle.ecat_list.proofs.row.Row.lead_behind.Goals as goal

pub returns-clause-written : goal.returns-clause-written
returns-clause-written c =
    let some : 0 < length (decimal c.args.one_and_digits) = search (rules, decimal_nonempty) in
    let inside : c.lead_decimal.new.self.from < length c.lead_decimal.new.self.bytes = search rules in
    seconds.over_first c.lead_decimal.new.self.bytes (decimal c.args.one_and_digits) _ c.lead_decimal.new.self.from _
    inside some c.lead_decimal.ensures.written
