use Rattle.std.proofs.Common.{◌≡◌, ◌<◌, ◌+◌, ◌++◌, ℕ, ◌∙◌, arith, ap, sym, subst, List, [], ◌∷◌, length}
use Rattle.std.proofs.Common.{length-append}
use Rattle.std.proofs.lemmas.Result.{err_from_is_err_and}
use Rattle.ec_wire.specs.Datagram.{DatagramRecord}
use Rattle.ec_line.specs.Answered.{sent_of}
use Rattle.ec_map.specs.Item.{ItemRecord}
use Rattle.ec_master.specs.Cut.{concat, frame_at}
use Rattle.ec_master.specs.Work.{with_answers, with_answers_at, nth_item}
use Rattle.ec_master.proofs.TravelLemmas.{SameSizes, sizes-count, sizes_items, with_answers-more}
use Rattle.ec_master.proofs.WorkLemmas.{with_answers-none, length-with_answers}
use Rattle.ec_master.proofs.PortLemmas.{after_joined, concat-end, trip_sizes, past_answers, next_within}
use Rattle.ec_master.proofs.PortLemmas.{goes_on_joined, ends_fault, ends_joined}
use Rattle.ec_master.proofs.cycle.carry_all.Goals as goal

pub loop-first-init : goal.loop-first-init
unfolding after_joined
loop-first-init g c = record {
  joined = [];
  taken = c.requires ∙ sym (with_answers-none c.args.work.now);
  count = omega arith;
  inside = omega arith;
  counted = omega arith;
  goes_on = λ outcome later sends. sends;
}

pub returns-in_err-joined-clause-fault : goal.returns-in_err-joined-clause-fault
returns-in_err-joined-clause-fault g c =
    let inside : c.loop-first.first < length c.args.work.now =
    omega (arith, c.loop-first-test.true, c.len.ensures.count) in
    let p = err_from_is_err_and c.from_residual.result c.from_residual.ensures.1 in
    rw (p.1, p.2)
    (ends_fault g.P.Ports.trips c.args.ports.now c.loop-first.ports c.carry.new.ports c.args.work.now
    c.loop-first.invariant.joined c.loop-first.first
    c.frame_from.result c.in_err-joined.field-0.0 inside c.frame_from.ensures c.in_err-joined.ensures.trip
    c.loop-first.invariant.goes_on)

pub take_answers-requires-clause-room : goal.take_answers-requires-clause-room
take_answers-requires-clause-room g c =
    let inside : c.loop-first.first < length c.args.work.now =
    omega (arith, c.loop-first-test.true, c.len.ensures.count) in
    let n = (next_within c.loop-first.first c.args.work.now c.frame_from.result inside
    c.frame_from.ensures).1 in
    let same = sizes-count c.frame_from.result c.in_ok-joined.joined
    (trip_sizes g.P.Ports.trips c.loop-first.ports c.carry.new.ports c.frame_from.result c.in_ok-joined.joined
    c.in_ok-joined.ensures.trip) in
    omega (
      arith,
      n,
      same,
      ap length c.loop-first.invariant.taken,
      length-with_answers c.args.work.now (concat c.loop-first.invariant.joined),
    )

pub take_answers-requires-clause-sizes : goal.take_answers-requires-clause-sizes
take_answers-requires-clause-sizes g c j there =
    let first : ℕ = c.loop-first.first in
    let items : List ItemRecord = c.args.work.now in
    let frame : List DatagramRecord = c.in_ok-joined.joined in
    let inside : first < length items = omega (arith, c.loop-first-test.true, c.len.ensures.count) in
    let same : SameSizes (sent_of (frame_at first items)) frame =
    subst (λ (sent : List DatagramRecord). SameSizes sent frame) c.frame_from.ensures
    (trip_sizes g.P.Ports.trips c.loop-first.ports c.carry.new.ports c.frame_from.result frame
    c.in_ok-joined.ensures.trip) in
    sizes_items first items frame j inside same there
    ∙ ap (λ (r : ItemRecord). length r.payload)
    (sym (past_answers first j items (concat c.loop-first.invariant.joined) c.loop-first.invariant.count)
    ∙ ap (λ (rs : List ItemRecord). nth_item rs (first + j)) (sym c.loop-first.invariant.taken))

pub overflow_add-first : goal.overflow_add-first
overflow_add-first g c =
    let inside : c.loop-first.first < length c.args.work.now =
    omega (arith, c.loop-first-test.true, c.len.ensures.count) in
    let n = (next_within c.loop-first.first c.args.work.now c.frame_from.result inside
    c.frame_from.ensures).1 in
    let same = sizes-count c.frame_from.result c.in_ok-joined.joined
    (trip_sizes g.P.Ports.trips c.loop-first.ports c.carry.new.ports c.frame_from.result c.in_ok-joined.joined
    c.in_ok-joined.ensures.trip) in
    omega (arith, n, same, c.len.ensures.limit, c.len.ensures.count, c.count-first.ensures.count)

pub loop-first-preserved : goal.loop-first-preserved
loop-first-preserved g c =
    let first : ℕ = c.loop-first.first in
    let items : List ItemRecord = c.args.work.now in
    let before : List (List DatagramRecord) = c.loop-first.invariant.joined in
    let frame : List DatagramRecord = c.in_ok-joined.joined in
    let inside : first < length items = omega (arith, c.loop-first-test.true, c.len.ensures.count) in
    let n = (next_within first items c.frame_from.result inside c.frame_from.ensures).1 in
    let same = sizes-count c.frame_from.result frame
    (trip_sizes g.P.Ports.trips c.loop-first.ports c.carry.new.ports c.frame_from.result frame
    c.in_ok-joined.ensures.trip) in
    let more : concat (before ++ frame ∷ []) ≡ concat before ++ frame = concat-end before frame in
    record {
      joined = before ++ frame ∷ [];
      taken = c.take_answers.ensures
          ∙ ap (λ (rs : List ItemRecord). with_answers_at first rs frame) c.loop-first.invariant.taken
          ∙ ap (λ (k : ℕ). with_answers_at k (with_answers items (concat before)) frame)
          (sym c.loop-first.invariant.count)
          ∙ sym (with_answers-more items (concat before) frame)
          ∙ ap (with_answers items) (sym more);
      count = omega (
        arith,
        ap length more,
        length-append (concat before) frame,
        c.loop-first.invariant.count,
        c.count-first.ensures.count,
      );
      inside = omega (arith, n, same, c.count-first.ensures.count);
      counted = omega (arith, c.loop-first.invariant.counted, c.carry.ensures.never_lower);
      goes_on = goes_on_joined g.P.Ports.trips c.args.ports.now c.loop-first.ports c.carry.new.ports items
          before first
          c.count-first.result c.frame_from.result frame inside c.frame_from.ensures
          c.in_ok-joined.ensures.trip (sym c.count-first.ensures.count)
          c.loop-first.invariant.goes_on;
    }

pub loop-first-smaller : goal.loop-first-smaller
loop-first-smaller g c =
    let first : ℕ = c.loop-first.first in
    let inside : first < length c.args.work.now =
    omega (arith, c.loop-first-test.true, c.len.ensures.count) in
    let n = next_within first c.args.work.now c.frame_from.result inside c.frame_from.ensures in
    let same = sizes-count c.frame_from.result c.in_ok-joined.joined
    (trip_sizes g.P.Ports.trips c.loop-first.ports c.carry.new.ports c.frame_from.result c.in_ok-joined.joined
    c.in_ok-joined.ensures.trip) in
    omega (arith, n.0, n.1, same, c.count-first.ensures.count)

pub returns-clause-answers : goal.returns-clause-answers
returns-clause-answers g c =
    let at_end : c.loop-first.first ≡ length c.args.work.now =
    omega (arith, c.loop-first-test.false, c.loop-first.invariant.inside, c.len.ensures.count) in
    record {
      joined = c.loop-first.invariant.joined;
      sends = ends_joined g.P.Ports.trips c.args.ports.now c.loop-first.ports c.args.work.now
          c.loop-first.invariant.joined c.loop-first.first
          at_end c.loop-first.invariant.goes_on;
      count = c.loop-first.invariant.count ∙ at_end;
      taken_are = c.loop-first.invariant.taken;
    }
