use Rattle.std.proofs.Common.{rules, arith, ◌≡◌, ◌++◌, ◌∷◌, [], decimal}
use Rattle.json.specs.Token as token
use Rattle.json.specs.Json as json
use Rattle.serde_json.specs.Data as value
use Rattle.ecat_json.proofs.Reading.{item_added, of_unsigned}
use Rattle.ecat_json.proofs.list.List.number.Goals as goal

pub invariant_of-result : goal.invariant_of-result
invariant_of-result c =
    let old = c.self.inside.writer.tokens in
    let step : c.u64.new.self.tokens ≡ old ++ token.number (decimal c.args.value) ∷ [] = search rules in
    let before : c.u64.new.self.before ≡ [] = search rules in
    (item_added old c.u64.new.self.tokens (json.number (decimal c.args.value)) (value.number (value.unsigned c.args.value)) (omega arith) (of_unsigned c.args.value (search rules)) c.self.invariant.0 step, before)
