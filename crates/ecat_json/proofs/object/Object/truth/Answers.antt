use Rattle.std.proofs.Common.{rules, arith, refl, ◌≡◌, ◌++◌, ◌∷◌, []}
use Rattle.json.specs.Token as token
use Rattle.json.specs.Json as json
use Rattle.serde_json.specs.Data as value
use Rattle.ecat_json.proofs.Reading.{member_added}
use Rattle.ecat_json.proofs.object.Object.truth.Goals as goal

pub invariant_of-result : goal.invariant_of-result
invariant_of-result c =
    let old = c.self.inside.writer.tokens in
    let first : c.key.new.self.tokens ≡ old ++ token.key c.args.name.now ∷ [] = search rules in
    let second : c.boolean.new.self.tokens ≡ c.key.new.self.tokens ++ token.boolean c.args.value ∷ [] = search rules in
    let before : c.boolean.new.self.before ≡ [] = search rules in
    (member_added old c.key.new.self.tokens c.boolean.new.self.tokens c.args.name.now (json.boolean c.args.value) (value.boolean c.args.value) (omega arith) (refl) c.self.invariant.0 first second, before)
