use Rattle.std.proofs.Common.{rules, arith, refl, ◌≡◌, ◌++◌, ◌∷◌, []}
use Rattle.json.specs.Token as token
use Rattle.json.specs.Json as json
use Rattle.serde_json.specs.Data as value
use Rattle.ecat_json.proofs.Reading.{item_added}
use Rattle.ecat_json.proofs.list.List.text.Goals as goal

pub invariant_of-result : goal.invariant_of-result
invariant_of-result c =
    let old = c.self.inside.writer.tokens in
    let step : c.string.new.self.tokens ≡ old ++ token.string c.args.value.now ∷ [] = search rules in
    let before : c.string.new.self.before ≡ [] = search rules in
    (item_added old c.string.new.self.tokens (json.string c.args.value.now) (value.string c.args.value.now) (omega arith) (refl) c.self.invariant.0 step, before)
