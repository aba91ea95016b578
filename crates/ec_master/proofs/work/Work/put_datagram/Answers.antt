use Rattle.std.proofs.Common.{◌∙◌, arith, ap, sym}
use Rattle.std.proofs.lemmas.Option.{get_or_from_slice_get}
use Rattle.ec_map.specs.Item.{ItemRecord, datagram_of}
use Rattle.ec_master.specs.Work.{no_item}
use Rattle.ec_master.proofs.work.Work.put_datagram.Goals as goal

pub overflow_cast-k : goal.overflow_cast-k
overflow_cast-k c = omega (arith, c.requires, c.len-count.ensures.count, c.len-count.ensures.limit)

pub returns : goal.returns
returns c =
    c.put_datagram.ensures
    ∙ ap (λ (r : ItemRecord). datagram_of r c.args.k)
    (sym (get_or_from_slice_get c.args.self.now c.args.k _ no_item c.item.ensures))
