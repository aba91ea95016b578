-- What is in the room after one more piece was taken from the bytes ahead.
use Rattle.std.proofs.Common.{arith, rules, ◌-◌, length}
use Rattle.std.proofs.lemmas.List.{places}
use Rattle.ecat_source.proofs.Consuming.{Consumes-append, take-filled}
use Rattle.ecat_source.proofs.buffer.Buffered.take.Goals as goal

pub loop-count-preserved : goal.loop-count-preserved
loop-count-preserved g c =
    let filled = take-filled c.loop-count.count c.in_ok-some.some
    (length c.loop-count.into - c.loop-count.count) c.loop-count.into c.take_some.new.into
    c.loop-count.invariant.within c.in_ok-some.ensures.bound in
    record {
      taken = rw filled
          (Consumes-append _ c.loop-count.self.ahead _ _ _ c.loop-count.invariant.taken
          c.in_ok-some.ensures.taken);
      within = search (rules, places);
      monotone = omega (arith, c.loop-count.invariant.monotone, c.take_some.ensures.monotone);
    }
