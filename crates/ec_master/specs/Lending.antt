-- What a work is once a lent item comes back.
use Rattle.std.specs.Prelude.{ℕ, List, slice_set}
use Rattle.std.specs.Borrow.{Lends, Fml, MutBor}
use Rattle.ec_map.specs.Item.{ItemRecord}
use Rattle.ec_map.specs.contracts.item.Item.{the_row as item_row}
use Rattle.ec_master.specs.contracts.work.Work.{the_row}

-- once the borrow r ends, the item at `k` is what was last behind r, and all others are as before
abbrev pub LendsItem : MutBor (List ItemRecord) → ℕ → MutBor ItemRecord → Fml
LendsItem work k r = Lends the_row item_row work r (λ item. slice_set work.now k item)
