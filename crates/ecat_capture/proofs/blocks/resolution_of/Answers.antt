-- An option at a time is looked at, as the definition does it.
use Rattle.std.proofs.Common.{arith, ◌≡◌, ◌-◌, ◌+◌, take, drop, length, sym, ◌∙◌, refl, ap}
use Rattle.std.proofs.Math.Nat.{sub-zero}
use Rattle.std.proofs.lemmas.List.{take_all, length-drop}
use Rattle.ecat_capture.specs.Blocks.{resolution_of, resolution_within}
use Rattle.ecat_capture.proofs.Options.{resolution-ends, resolution-found, resolution-goes_on}
use Rattle.ecat_capture.proofs.blocks.resolution_of.Goals as goal

pub loop-init : goal.loop-init
unfolding resolution_of
loop-init c = rw sub-zero refl

pub returns-in-End : goal.returns-in-End
returns-in-End c =
    sym (
    c.loop.invariant
    ∙ resolution-ends (length c.args.options.now) c.loop.counter c.args.order c.loop.rest.now
    c.loop-test.true (sym c.next_option.ensures.value ∙ c.in-End.is)
    )

pub returns-in-Resolution : goal.returns-in-Resolution
returns-in-Resolution c =
    sym (
    c.loop.invariant
    ∙ resolution-found (length c.args.options.now) c.loop.counter c.args.order c.loop.rest.now
    c.loop-test.true c.in-Resolution.value (sym c.next_option.ensures.value ∙ c.in-Resolution.is)
    )

pub loop-preserved : goal.loop-preserved
loop-preserved c =
    let rest = c.loop.rest.now in
    let size = c.in-Other.size in
    let all : take (length rest - size) (drop size rest) ≡ drop size rest =
    take_all _ _ (omega (arith, length-drop size rest)) in
    c.loop.invariant
    ∙ resolution-goes_on (length c.args.options.now) c.loop.counter c.args.order rest c.loop-test.true size
    (sym c.next_option.ensures.value ∙ c.in-Other.is)
    ∙ ap (resolution_within (length c.args.options.now - (c.loop.counter + 1)) c.args.order) (sym all)
