use Rattle.std.proofs.Common.{rules, arith, refl, ◌≡◌, ◌++◌, ◌∷◌, []}
use Rattle.json.specs.Token as token
use Rattle.json.specs.Json as json
use Rattle.serde_json.specs.Data as value
use Rattle.ecat_json.proofs.Reading.{member_added}
use Rattle.ecat_json.proofs.object.Object.text.Goals as goal

pub invariant_of-result : goal.invariant_of-result
invariant_of-result c =
    let old = c.self.inside.writer.tokens in
    let first : c.key.new.self.tokens ≡ old ++ token.key c.args.name.now ∷ [] = search rules in
    let second : c.string.new.self.tokens ≡ c.key.new.self.tokens ++ token.string c.args.value.now ∷ [] = search rules in
    let before : c.string.new.self.before ≡ [] = search rules in
    (member_added old c.key.new.self.tokens c.string.new.self.tokens c.args.name.now (json.string c.args.value.now) (value.string c.args.value.now) (omega arith) (refl) c.self.invariant.0 first second, before)
