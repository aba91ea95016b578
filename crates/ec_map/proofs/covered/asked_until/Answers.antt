use Rattle.std.proofs.Common.{◌≡◌, ◌<◌, ℕ, List, [], false, get_or, length, refl, sym, ap, ◌∙◌, arith}
use Rattle.std.proofs.lemmas.List.{get_or-map, length-map}
use Rattle.std.proofs.lemmas.List.Folds.{list_any_more, list_any_at}
use Rattle.ec_map.specs.Covered.{asks_bit}
use Rattle.ec_map.specs.Item.{ItemRecord, items_by, new_item}
use Rattle.ec_map.proofs.CoveredLemmas.{asked_run}
use Rattle.ec_map.proofs.covered.asked_until.Goals as goal
use Rattle.ec_wire.specs.declared.kind.Kind.TheVariants.{Lrd}

pub loop-item-preserved : goal.loop-item-preserved
loop-item-preserved g c =
    let items : List ItemRecord = items_by g.I.Asking.item c.args.items.now in
    let blank : ItemRecord = new_item Lrd 0 [] in
    let k : ℕ = c.loop-item.item-index in
    let here : get_or items k blank ≡ g.I.Asking.item c.item-item.result =
    get_or-map g.I.Asking.item c.args.items.now k c.item-item.result blank c.loop-item-test.true
    ∙ ap g.I.Asking.item (sym c.item-item.is) in
    let unasked : asks_bit c.args.way c.args.bit (get_or items k blank) ≡ false =
    ap (asks_bit c.args.way c.args.bit) here ∙ sym c.asks_bit.ensures ∙ c.if-asks_bit.false in
    rw (
      list_any_more (asks_bit c.args.way c.args.bit) items k blank
          (omega (arith, c.loop-item-test.true, length-map c.args.items.now g.I.Asking.item)),
      c.loop-item.invariant,
      unasked,
    ) refl

pub returns-then-asks_bit : goal.returns-then-asks_bit
returns-then-asks_bit g c =
    let items : List ItemRecord = items_by g.I.Asking.item c.args.items.now in
    let blank : ItemRecord = new_item Lrd 0 [] in
    let k : ℕ = c.loop-item.item-index in
    let item : ItemRecord = g.I.Asking.item c.item-item.result in
    let inside : k < length items =
    omega (arith, c.loop-item-test.true, length-map c.args.items.now g.I.Asking.item) in
    let here : get_or items k blank ≡ item =
    get_or-map g.I.Asking.item c.args.items.now k c.item-item.result blank c.loop-item-test.true
    ∙ ap g.I.Asking.item (sym c.item-item.is) in
    let run = asked_run c.args.way c.args.bit item (sym c.asks_bit.ensures ∙ c.if-asks_bit.true) in
    rw c.end_of.ensures (
      run.0,
      λ l above below. list_any_at (asks_bit c.args.way l) items k blank inside
          (ap (asks_bit c.args.way l) here ∙ run.1 l above below),
    )
