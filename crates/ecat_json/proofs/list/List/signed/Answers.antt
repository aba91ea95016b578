use Rattle.std.proofs.Common.{rules, ◌≡◌, ◌++◌, ◌∷◌, []}
use Rattle.std.specs.Fmt.{signed_decimal}
use Rattle.json.specs.Token as token
use Rattle.ecat_json.proofs.Reading.{signed_item_added}
use Rattle.ecat_json.proofs.list.List.signed.Goals as goal

pub invariant_of-result : goal.invariant_of-result
invariant_of-result c =
    let old = c.self.inside.writer.tokens in
    let step : c.i64.new.self.tokens ≡ old ++ token.number (signed_decimal c.args.value) ∷ [] = search rules in
    let before : c.i64.new.self.before ≡ [] = search rules in
    (signed_item_added old c.i64.new.self.tokens c.args.value (search rules) c.self.invariant.0 step, before)
