-- What is carried is the frame of the cut, and the room has place for it or not.
use Rattle.std.proofs.Common.{◌∙◌, length, map, arith, ap, sym, refl}
use Rattle.ec_line.specs.Answered.{sent_of}
use Rattle.ec_master.specs.Cut.{frame_at}
use Rattle.rummymaple.specs.Items.{asked}
use Rattle.rummymaple.proofs.CutLemmas.{between-count}
use Rattle.ec_wire.proofs.Laws.{length-spelling}
use Rattle.rummymaple.proofs.frame.make_frame.Goals as goal

pub overflow_add-bytes : goal.overflow_add-bytes
overflow_add-bytes c =
    let fits = (c.carried_from-carried.ensures c.args.image.now c.requires.taken).fits in
    omega (arith, fits)

pub returns-then-room-bytes : goal.returns-then-room-bytes
returns-then-room-bytes c =
    let carried = c.carried_from-carried.ensures c.args.image.now c.requires.taken in
    let asks = map (asked c.args.image.now) c.args.items.now in
    let long = length-spelling (sent_of (frame_at c.args.first asks)) in
    (omega (arith, c.if-room-bytes.true, carried.bytes_are, long), refl)

pub put_items-requires-clause-carried : goal.put_items-requires-clause-carried
put_items-requires-clause-carried c = c.carried_from-carried.ensures c.args.image.now c.requires.taken

pub returns : goal.returns
returns c =
    let carried = c.carried_from-carried.ensures c.args.image.now c.requires.taken in
    record {
      items_are = sym (ap (λ es. length (sent_of es)) carried.items_are
          ∙ between-count c.args.image.now c.args.items.now c.args.first c.carried_from-carried.result.items
          carried.inside);
      put = c.put_items.ensures;
    }
