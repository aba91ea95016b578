use Rattle.std.proofs.Common.{◌≡◌, length, map, ap, ◌∙◌}
use Rattle.std.specs.List.{refill}
use Rattle.ec_app.specs.Objects.{with_value}
use Rattle.ec_app.proofs.ObjectLemmas.{IsDictionary-map-with_value, refill-map}
use Rattle.ec_app.proofs.objects.Objects.set.Goals as goal

pub invariant_of-self : goal.invariant_of-self
invariant_of-self c =
    let entries = c.self.inside.entries.items in
    let changed = with_value c.args.index c.args.sub c.args.value in
    let written : c.replace_value.new.entries ≡ map changed entries =
    c.replace_value.ensures ∙ ap (map changed) c.as_mut_slice.ensures.value in
    let refilled : refill (length entries) entries c.replace_value.new.entries ≡ map changed entries =
    ap (refill (length entries) entries) written ∙ refill-map changed entries in
    rw refilled (IsDictionary-map-with_value c.args.index c.args.sub c.args.value entries c.self.invariant)
