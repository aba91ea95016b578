use Rattle.std.proofs.Common.{rules, ◌≡◌, ◌++◌, ◌∷◌, []}
use Rattle.json.specs.Token as token
use Rattle.ecat_json.proofs.Reading.{list_closed}
use Rattle.ecat_json.proofs.list.List.end.Goals as goal

pub invariant_of-result : goal.invariant_of-result
invariant_of-result c =
    let old = c.self.inside.writer.tokens in
    let step : c.end_array.new.self.tokens ≡ old ++ token.end_array ∷ [] = search rules in
    let before : c.end_array.new.self.before ≡ [] = search rules in
    (list_closed old c.end_array.new.self.tokens c.self.invariant.0 step, before)
