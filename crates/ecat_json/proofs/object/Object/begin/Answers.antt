use Rattle.std.proofs.Common.{rules, arith, ◌∙◌, refl, ◌≡◌, ◌++◌, ◌∷◌, [], codes, ap}
use Rattle.json.specs.Token as token
use Rattle.json.specs.Json as json
use Rattle.serde_json.specs.Data as value
use Rattle.ecat_json.proofs.Reading.{opens, member_added}
use Rattle.ecat_json.proofs.object.Object.begin.Goals as goal

pub invariant_of-result : goal.invariant_of-result
invariant_of-result c =
    let old = token.begin_object ∷ [] in
    let begun : c.begin_object.new.self.tokens ≡ old = search rules in
    let named : c.key.new.self.tokens ≡ c.begin_object.new.self.tokens ++ token.key (codes "kind") ∷ [] = search rules in
    let first : c.key.new.self.tokens ≡ old ++ token.key (codes "kind") ∷ [] = named ∙ ap (λ ts. ts ++ token.key (codes "kind") ∷ []) begun in
    let second : c.string.new.self.tokens ≡ c.key.new.self.tokens ++ token.string c.args.kind.now ∷ [] = search rules in
    let before : c.string.new.self.before ≡ [] = search rules in
    (member_added old c.key.new.self.tokens c.string.new.self.tokens (codes "kind") (json.string c.args.kind.now) (value.string c.args.kind.now) (omega arith) refl opens first second, before)
