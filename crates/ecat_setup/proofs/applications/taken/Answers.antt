use Rattle.std.proofs.Common.{◌≡◌, ◌∙◌, List, ap, subst}
use Rattle.std.specs.List.{remove}
use Rattle.ec_applications.specs.declared.eeproms.PlacedEeprom.{PlacedEeprom}
use Rattle.ecat_setup.specs.Applications.{given_at}
use Rattle.ecat_setup.proofs.ApplicationLemmas.{others_left}
use Rattle.ecat_setup.proofs.applications.taken.Goals as goal

pub returns-in-Some-clause-others : goal.returns-in-Some-clause-others
returns-in-Some-clause-others c other differs =
    let number = c.in-Some.number in
    ap (λ (xs : List PlacedEeprom). given_at xs other) c.remove.ensures.items
    ∙ subst (λ (xs : List PlacedEeprom). given_at (remove xs number) other ≡ given_at xs other)
    c.as_slice.ensures.value
    (others_left c.as_slice.result.now number c.args.place other c.remove.result differs
    c.in-Some.ensures.some.0 c.in-Some.ensures.some.1)
