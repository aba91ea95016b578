use Rattle.std.proofs.Common.{◌≡◌, ◌∙◌, ap, sym}
use Rattle.std.proofs.lemmas.Option.{get_or_from_slice_get}
use Rattle.ec_map.specs.Item.{ItemRecord}
use Rattle.ec_merge.specs.Rule.{distance}
use Rattle.ec_master.specs.Work.{no_item, nth_item}
use Rattle.ec_master.proofs.verdict.counted.Goals as goal

pub returns : goal.returns
returns c =
    let sent : c.counter-2.result ≡ (nth_item c.args.work.now c.args.k).counter
    = c.counter-2.ensures
    ∙ ap (λ (r : ItemRecord). r.counter)
    (sym (get_or_from_slice_get c.args.work.now c.args.k _ no_item c.item-2.ensures)) in
    let back : c.counter.result ≡ (nth_item c.args.taken.now c.args.k).counter
    = c.counter.ensures
    ∙ ap (λ (r : ItemRecord). r.counter)
    (sym (get_or_from_slice_get c.args.taken.now c.args.k _ no_item c.item.ensures)) in
    (λ i. distance (sent i) (back i))
