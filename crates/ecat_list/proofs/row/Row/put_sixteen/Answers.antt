use Rattle.std.proofs.Common.{rules, ◌≡◌, ◌≤◌, ◌++◌, length, take, drop, ◌+◌, ap, ap₂, ◌∙◌}
use Rattle.ecat_list.proofs.HexLemmas as hexes
use Rattle.ecat_list.proofs.row.Row.put_sixteen.Goals as goal

pub returns-clause-written : goal.returns-clause-written
returns-clause-written c =
    let bytes = c.args.self.now.bytes in
    let room : c.args.at + 32 ≤ length bytes = search rules in
    let first : length c.as_array.result.now ≡ 16 = search rules in
    let last : length c.as_array-2.result.now ≡ 16 = search rules in
    hexes.two_puts bytes c.put.new.self.bytes c.put-2.new.self.bytes c.as_array.result.now c.as_array-2.result.now
    c.args.at room first last c.put.ensures.written c.put-2.ensures.written
    ∙ ap (λ ds. take c.args.at bytes ++ (ds ++ drop (c.args.at + 32) bytes))
    (ap₂ (λ a b. a ++ b) c.as_array.ensures c.as_array-2.ensures ∙ c.digits_of_sixteen.ensures)
