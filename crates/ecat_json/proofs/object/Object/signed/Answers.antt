use Rattle.std.proofs.Common.{rules, ◌≡◌, ◌++◌, ◌∷◌, []}
use Rattle.std.specs.Fmt.{signed_decimal}
use Rattle.json.specs.Token as token
use Rattle.ecat_json.proofs.Reading.{signed_added}
use Rattle.ecat_json.proofs.object.Object.signed.Goals as goal

pub invariant_of-result : goal.invariant_of-result
invariant_of-result c =
    let old = c.self.inside.writer.tokens in
    let first : c.key.new.self.tokens ≡ old ++ token.key c.args.name.now ∷ [] = search rules in
    let second : c.i64.new.self.tokens ≡ c.key.new.self.tokens ++ token.number (signed_decimal c.args.value) ∷ [] = search rules in
    let before : c.i64.new.self.before ≡ [] = search rules in
    (signed_added old c.key.new.self.tokens c.i64.new.self.tokens c.args.name.now c.args.value (search rules) c.self.invariant.0 first second, before)
