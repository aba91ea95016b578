-- The header and then one datagram after the other are written.
use Rattle.std.proofs.Common.{◌+◌, ◌∙◌, ℕ, [], arith, ap, refl}
use Rattle.std.proofs.Common.{add-one}
use Rattle.std.specs.Int.{w16, to_le_bytes}
use Rattle.std.proofs.lemmas.Bool.{lt-ltb, le-ltb}
use Rattle.ec_line.specs.Answered.{sent_of}
use Rattle.ec_wire.specs.Spelling.{body_length}
use Rattle.rummymaple.proofs.SpellLemmas.{spelling-first, spelling-room, spelling-more}
use Rattle.rummymaple.proofs.SpellLemmas.{spelling-end}
use Rattle.rummymaple.proofs.spell.put_items.Goals as goal

pub loop-k-init : goal.loop-k-init
loop-k-init c =
    let carried = c.requires.carried in
    let bytes = carried.bytes_are ∙ ap (λ es. body_length (sent_of es)) carried.items_are in
    record {
      spelling =
          spelling-first c.args.image.now c.args.items.now c.args.first
          (c.args.first + c.args.carried.now.items) _ c.args.room.now _ _
          (c.to_le_bytes.ensures ∙ ap (to_le_bytes w16) (c.header_field.ensures ∙ ap (λ n. n + 4096) bytes))
          (c.put-at.ensures.written [] c.args.room.now (record { at_is = refl; room_is = refl }));
      inside = omega arith;
      size = c.put-at.ensures.size;
    }

pub put_datagram-at-requires-clause-fits : goal.put_datagram-at-requires-clause-fits
put_datagram-at-requires-clause-fits c =
    let carried = c.requires.carried in
    let room = spelling-room c.args.image.now c.args.items.now c.args.first
    (c.args.first + c.args.carried.now.items) c.loop-k.k c.loop-k.at c.args.room.now c.loop-k.room
    c.requires.taken c.loop-k-test.true carried.inside c.loop-k.invariant.spelling in
    omega (
      arith,
      room,
      c.requires.fits,
      c.loop-k.invariant.size,
      carried.bytes_are ∙ ap (λ es. body_length (sent_of es)) carried.items_are,
    )

pub loop-k-preserved : goal.loop-k-preserved
loop-k-preserved c =
    let k : ℕ = c.loop-k.k in
    let before = c.loop-k-test.true in
    record {
      spelling =
          rw (add-one k)
          (spelling-more c.args.image.now c.args.items.now c.args.first
          (c.args.first + c.args.carried.now.items) k c.loop-k.at c.put_datagram-at.result c.args.room.now
          c.loop-k.room _ _ before c.requires.carried.inside
          (λ h. lt-ltb _ _ (omega (arith, h))) (λ h. le-ltb _ _ (omega (arith, h)))
          c.loop-k.invariant.spelling c.put_datagram-at.ensures.written);
      inside = omega (arith, before);
      size = c.put_datagram-at.ensures.size ∙ c.loop-k.invariant.size;
    }

pub returns : goal.returns
returns c =
    rw (c.requires.carried.bytes_are, c.requires.carried.items_are)
    (spelling-end c.args.image.now c.args.items.now c.args.first (c.args.first + c.args.carried.now.items)
    c.loop-k.k c.loop-k.at c.args.room.now c.loop-k.room
    (omega (arith, c.loop-k-test.false, c.loop-k.invariant.inside)) c.loop-k.invariant.size
    c.loop-k.invariant.spelling)
