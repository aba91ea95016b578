use Rattle.std.proofs.Common.{◌≡◌, List}
use Rattle.std.proofs.lemmas.List.{map-id}
use Rattle.ec_map.specs.Item.{ItemRecord, items_by}
use Rattle.ec_map.proofs.not_shown.first_not_shown.Goals as goal

-- a master's items ask what they are
same : (items : List ItemRecord) → items_by (λ i. i) items ≡ items
same items = map-id items

pub returns-clause-first : goal.returns-clause-first
returns-clause-first g c = rw (← same c.args.items.now) c.first_area_not_shown.ensures.first

pub returns-clause-shown : goal.returns-clause-shown
returns-clause-shown g c = rw (← same c.args.items.now) c.first_area_not_shown.ensures.shown
