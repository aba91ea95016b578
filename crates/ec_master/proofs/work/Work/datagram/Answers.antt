use Rattle.std.proofs.Common.{◌∙◌, arith, ap, sym, subst}
use Rattle.std.proofs.lemmas.Option.{get_or_from_slice_get}
use Rattle.ec_map.specs.Item.{ItemRecord, IsItem, datagram_of}
use Rattle.ec_master.specs.Work.{no_item}
use Rattle.ec_master.proofs.work.Work.datagram.Goals as goal

pub overflow_cast-k : goal.overflow_cast-k
overflow_cast-k c = omega (arith, c.requires, c.len-count.ensures.count, c.len-count.ensures.limit)

pub returns-clause-datagram : goal.returns-clause-datagram
returns-clause-datagram c =
    c.datagram.ensures
    ∙ ap (λ (r : ItemRecord). datagram_of r c.args.k)
    (sym (get_or_from_slice_get c.args.self.now c.args.k _ no_item c.item-item.ensures))

pub returns-clause-item : goal.returns-clause-item
returns-clause-item c =
    subst IsItem (sym (get_or_from_slice_get c.args.self.now c.args.k _ no_item c.item-item.ensures))
    c.len-length.ensures.item
