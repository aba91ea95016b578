use Rattle.std.proofs.Common.{rules, arith, refl, ◌≡◌, ◌++◌, ◌∷◌, []}
use Rattle.json.specs.Token as token
use Rattle.json.specs.Json as json
use Rattle.serde_json.specs.Data as value
use Rattle.ecat_json.proofs.Reading.{item_added}
use Rattle.ecat_json.proofs.list.List.nothing.Goals as goal

pub invariant_of-result : goal.invariant_of-result
invariant_of-result c =
    let old = c.self.inside.writer.tokens in
    let step : c.null.new.self.tokens ≡ old ++ token.null ∷ [] = search rules in
    let before : c.null.new.self.before ≡ [] = search rules in
    (item_added old c.null.new.self.tokens (json.null) (value.null) (omega arith) (refl) c.self.invariant.0 step, before)
