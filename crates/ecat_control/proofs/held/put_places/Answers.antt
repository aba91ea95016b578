use Rattle.std.proofs.Common.{◌∙◌, sym}
use Rattle.ecat_control.proofs.ChangeLemmas.{all_put, place_put, place_refused}
use Rattle.ecat_control.proofs.held.put_places.Goals as goal

pub loop-place-preserved : goal.loop-place-preserved
loop-place-preserved c = record {
  goes_on = sym (place_put c.args.spans.now c.args.bytes.now c.args.places.now c.loop-place.place-index _
      c.loop-place.outputs c.put_place.new.outputs c.loop-place-test.true c.in-Ok.ensures.done)
      ∙ c.loop-place.invariant.goes_on;
  size = c.put_place.ensures.size ∙ c.loop-place.invariant.size;
}

pub returns-in-Err-clause-refused : goal.returns-in-Err-clause-refused
returns-in-Err-clause-refused c fault is =
    sym c.loop-place.invariant.goes_on
    ∙ place_refused c.args.spans.now c.args.bytes.now c.args.places.now c.loop-place.place-index _
    c.loop-place.outputs fault c.loop-place-test.true
    (c.in-Err.ensures.refused fault is)

pub returns-clause-done : goal.returns-clause-done
returns-clause-done c =
    sym c.loop-place.invariant.goes_on
    ∙ all_put c.args.spans.now c.args.bytes.now c.args.places.now c.loop-place.place-index c.loop-place.outputs
    c.loop-place-test.false
