use Rattle.std.proofs.Common.{sym, ◌∙◌, ap}
use Rattle.ec_app.specs.Objects.{stands_at}
use Rattle.ec_app.proofs.ObjectLemmas.{IsDictionary-push}
use Rattle.ec_app.proofs.objects.Objects.add.Goals as goal

pub invariant_of-self : goal.invariant_of-self
invariant_of-self c =
    let entries = c.self.inside.entries.items in
    rw c.push.ensures.items
    (IsDictionary-push entries _ c.self.invariant
    (sym c.is_full.ensures.value ∙ c.if-is_full.false)
    (ap (stands_at c.args.index c.args.sub) c.self.view_is ∙ sym c.stands_at.ensures ∙ c.if-stands_at.false))
