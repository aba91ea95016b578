use Rattle.std.proofs.Common.{◌≡◌, ◌<◌, ◌++◌, ◌+◌, ℕ, ◌∙◌, arith, ap, sym, List, [], ◌∷◌}
use Rattle.std.proofs.Common.{length, map, take, get_or, slice_set}
use Rattle.std.proofs.lemmas.List.{map_more, take_more_set, length-set}
use Rattle.std.proofs.lemmas.Option.{get_or_from_slice_get}
use Rattle.ec_check.specs.Line.{controllers}
use Rattle.ec_map.specs.Item.{ItemRecord}
use Rattle.ec_map.specs.Share.{expected_of}
use Rattle.ec_master.specs.Work.{no_item}
use Rattle.ec_master.proofs.acceptance.all_expected.Goals as goal

pub loop-k-preserved : goal.loop-k-preserved
loop-k-preserved c =
    let k : ℕ = c.loop-k.k in
    let items : List ItemRecord = c.args.work.now in
    let all : List ℕ = c.loop-k.all in
    let wanted : ItemRecord → ℕ = expected_of (controllers c.args.line.now) in
    let inside : k < length items = omega (arith, c.loop-k-test.true, c.len-k-end.ensures.count) in
    let room : k < length all = omega (arith, inside, c.loop-k.invariant.limit, c.loop-k.invariant.places) in
    let item : c.item.result.now ≡ get_or items k no_item =
    sym (get_or_from_slice_get items k _ no_item c.item.ensures) in
    let one : c.expected.result ≡ wanted (get_or items k no_item) = c.expected.ensures ∙ ap wanted item in
    let more : take (k + 1) (slice_set all k c.expected.result)
    ≡ map wanted (take k items) ++ wanted (get_or items k no_item) ∷ [] =
    take_more_set all k c.expected.result room
    ∙ ap (λ (ns : List ℕ). ns ++ c.expected.result ∷ []) c.loop-k.invariant.done
    ∙ ap (λ (n : ℕ). map wanted (take k items) ++ n ∷ []) one in
    record {
      limit = c.loop-k.invariant.limit;
      places = length-set all k c.expected.result ∙ c.loop-k.invariant.places;
      done = more ∙ sym (map_more wanted items k no_item inside);
    }
