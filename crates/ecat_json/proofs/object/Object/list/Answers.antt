use Rattle.std.proofs.Common.{rules, ◌≡◌, ◌++◌, ◌∷◌, []}
use Rattle.json.specs.Token as token
use Rattle.ecat_json.proofs.Reading.{list_added}
use Rattle.ecat_json.proofs.object.Object.list.Goals as goal

pub invariant_of-result : goal.invariant_of-result
invariant_of-result c =
    let old = c.self.inside.writer.tokens in
    let first : c.key.new.self.tokens ≡ old ++ token.key c.args.name.now ∷ [] = search rules in
    let second : c.begin_array.new.self.tokens ≡ c.key.new.self.tokens ++ token.begin_array ∷ [] = search rules in
    let before : c.begin_array.new.self.before ≡ [] = search rules in
    (list_added old c.key.new.self.tokens c.begin_array.new.self.tokens c.args.name.now c.self.invariant.0 first second, before)
