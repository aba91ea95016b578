use Rattle.std.proofs.Common.{rules, arith, ◌≡◌, ◌++◌, ◌∷◌, [], decimal}
use Rattle.json.specs.Token as token
use Rattle.json.specs.Json as json
use Rattle.serde_json.specs.Data as value
use Rattle.ecat_json.proofs.Reading.{member_added, of_unsigned}
use Rattle.ecat_json.proofs.object.Object.number.Goals as goal

pub invariant_of-result : goal.invariant_of-result
invariant_of-result c =
    let old = c.self.inside.writer.tokens in
    let first : c.key.new.self.tokens ≡ old ++ token.key c.args.name.now ∷ [] = search rules in
    let second : c.u64.new.self.tokens ≡ c.key.new.self.tokens ++ token.number (decimal c.args.value) ∷ [] = search rules in
    let before : c.u64.new.self.before ≡ [] = search rules in
    (member_added old c.key.new.self.tokens c.u64.new.self.tokens c.args.name.now (json.number (decimal c.args.value)) (value.number (value.unsigned c.args.value)) (omega arith) (of_unsigned c.args.value (search rules)) c.self.invariant.0 first second, before)
