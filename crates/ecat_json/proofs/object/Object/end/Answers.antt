use Rattle.std.proofs.Common.{rules, ◌≡◌, ◌++◌, ◌∷◌, [], subst}
use Rattle.json.specs.Token as token
use Rattle.ecat_json.specs.Lines.{IsLine}
use Rattle.ecat_json.proofs.Reading.{line_made}
use Rattle.ecat_json.proofs.object.Object.end.Goals as goal
use Rattle.json.specs.Print.{print}

pub returns-in-Ok : goal.returns-in-Ok
returns-in-Ok c =
    let old = c.self.inside.writer.tokens in
    let whole = c.end_object.new.self.tokens in
    let step : whole ≡ old ++ token.end_object ∷ [] = search rules in
    let printed : c.into_inner-line.result.items ≡ print whole = search rules in
    let same : old ≡ c.args.self = search rules in
    subst (IsLine c.push.new.self.items) same (line_made old whole c.into_inner-line.result.items c.push.new.self.items c.self.invariant.0 step c.into_inner-line.ensures.reads_back printed c.in-Ok.ensures.items)
