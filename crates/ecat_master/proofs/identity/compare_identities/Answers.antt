use Rattle.std.proofs.Common.{◌+◌, ◌∷◌, ◌∙◌, ap, sym, arith, drop}
use Rattle.ecat_master.proofs.IdentityLemmas.{left_is, left_none, slaves_all, slaves_end, slaves_on}
use Rattle.ecat_master.proofs.IdentityLemmas.{slaves_rest}
use Rattle.ecat_master.specs.Identities.{WantedIdentity}
use Rattle.ecat_master.proofs.identity.compare_identities.Goals as goal

pub returns-in-None : goal.returns-in-None
returns-in-None g c =
    slaves_rest g.P.Ports.trips c.args.ports.now c.loop-place.ports 0 c.loop-place.place c.args.line.now
    (drop c.loop-place.place c.args.line.now) c.args.identities.now
    (drop c.loop-place.place c.args.identities.now) c.loop-place.invariant
    (left_none c.args.identities.now c.loop-place.place c.in-None.ensures.lookup.3)

pub returns-in-Err : goal.returns-in-Err
returns-in-Err g c =
    slaves_end g.P.Ports.trips c.args.ports.now c.loop-place.ports c.compare_identity.new.ports 0
    c.loop-place.place _ c.in-Some.identity.now c.args.line.now (drop c.loop-place.place c.args.line.now)
    (drop (c.loop-place.place + 1) c.args.line.now) c.args.identities.now
    (drop c.loop-place.place c.args.identities.now) (drop (c.loop-place.place + 1) c.args.identities.now)
    c.in-Err.other c.loop-place.invariant
    (left_is c.args.line.now c.loop-place.place _ (omega (arith, c.loop-place-test.true)))
    (left_is c.args.identities.now c.loop-place.place c.in-Some.identity.now c.in-Some.ensures.lookup.3.0
    ∙ ap (λ (first : WantedIdentity). first ∷ drop (c.loop-place.place + 1) c.args.identities.now)
    (sym c.in-Some.ensures.lookup.1))
    c.in-Err.ensures

pub loop-place-preserved : goal.loop-place-preserved
loop-place-preserved g c =
    slaves_on g.P.Ports.trips c.args.ports.now c.loop-place.ports c.compare_identity.new.ports 0
    c.loop-place.place _ c.in-Some.identity.now c.args.line.now (drop c.loop-place.place c.args.line.now)
    (drop (c.loop-place.place + 1) c.args.line.now) c.args.identities.now
    (drop c.loop-place.place c.args.identities.now) (drop (c.loop-place.place + 1) c.args.identities.now)
    c.loop-place.invariant
    (left_is c.args.line.now c.loop-place.place _ (omega (arith, c.loop-place-test.true)))
    (left_is c.args.identities.now c.loop-place.place c.in-Some.identity.now c.in-Some.ensures.lookup.3.0
    ∙ ap (λ (first : WantedIdentity). first ∷ drop (c.loop-place.place + 1) c.args.identities.now)
    (sym c.in-Some.ensures.lookup.1))
    c.in-Ok.ensures

pub returns : goal.returns
returns g c =
    slaves_all g.P.Ports.trips c.args.ports.now c.loop-place.ports 0 c.loop-place.place c.args.line.now
    (drop c.loop-place.place c.args.line.now) c.args.identities.now
    (drop c.loop-place.place c.args.identities.now) c.loop-place.invariant
    (left_none c.args.line.now c.loop-place.place (omega (arith, c.loop-place-test.false)))
