-- An item that is taken fits its datagram, whose parts are put one behind the other.
use Rattle.std.proofs.Common.{◌≡◌, ◌<◌, ◌∙◌, ℕ, true, List, length, arith, ap, sym, ◌+◌, ◌*◌}
use Rattle.std.proofs.Math.Nat.{add-zero}
use Rattle.std.specs.Int.{w16, w32, to_le_bytes}
use Rattle.ec_wire.specs.Datagram.{DatagramRecord, code_of}
use Rattle.ec_wire.specs.Kind.{command_of}
use Rattle.ec_wire.specs.Spelling.{bit_of, length_word}
use Rattle.ec_wire.specs.declared.kind.Kind.{Kind}
use Rattle.ec_wire.specs.declared.kind.Kind.TheVariants.{Lrd, Lwr, Lrw, Brd, Fprd, Fpwr}
use Rattle.ec_map.specs.Item.{is_in_range, is_broadcast, datagram_of}
use Rattle.rummymaple.specs.Items.{kind_named, asked}
use Rattle.rummymaple.proofs.ItemLemmas.{taken}
use Rattle.rummymaple.proofs.SpellLemmas.{written-datagram}
use Rattle.std.proofs.lemmas.Bool.Decides.{nat_tests}
use Rattle.rummymaple.proofs.item.Item.put_datagram.Goals as goal

-- the registers' addresses have 16 bits
broadcast : (kind : Kind) (address n : ℕ) → is_in_range kind address n ≡ true → is_broadcast kind ≡ true
    → address < 65536
broadcast Brd address n range is = grind (arith, nat_tests, range)
broadcast Lrd address n range is = absurd (cc)
broadcast Lwr address n range is = absurd (cc)
broadcast Lrw address n range is = absurd (cc)
broadcast Fprd address n range is = absurd (cc)
broadcast Fpwr address n range is = absurd (cc)

pub wire_address-requires : goal.wire_address-requires
wire_address-requires c is =
    broadcast (kind_named c.args.self.now.kind) c.args.self.now.address c.args.self.now.length
    (taken _ c.args.self.now c.requires.taken).range is

pub length_field-requires : goal.length_field-requires
length_field-requires c = (taken _ c.args.self.now c.requires.taken).most

pub data-requires : goal.data-requires
data-requires c = (taken _ c.args.self.now c.requires.taken).place

pub returns-clause-written : goal.returns-clause-written
returns-clause-written c written before is =
    let image : List ℕ = c.args.image.now in
    let r : DatagramRecord = datagram_of (asked image c.args.self.now) c.args.k in
    let one = c.put-address_at.ensures.written written before is in
    let two = c.put-length_at.ensures.written _ before one in
    let three = c.put-irq_at.ensures.written _ before two in
    let four = c.put-data_at.ensures.written _ before three in
    let five = c.put-counter_at.ensures.written _ before four in
    let six = c.put.ensures.written _ before five in
    let size : length r.payload ≡ c.args.self.now.length
    = ap length (sym c.data.ensures.value) ∙ c.data.ensures.count in
    let field : c.length_field.result ≡ length_word c.args.more r =
    c.length_field.ensures ∙ ap (λ n. n + 32768 * bit_of c.args.more) (sym size ∙ sym (add-zero _)) in
    written-datagram written before _ _ c.args.more r _ _ _ _ _
    (c.code.ensures ∙ ap code_of (c.command.ensures ∙ ap command_of c.kind.ensures))
    (c.to_le_bytes.ensures ∙ ap (to_le_bytes w32) (c.wire_address.ensures image))
    (c.to_le_bytes-2.ensures ∙ ap (to_le_bytes w16) field) c.data.ensures.value
    c.to_le_bytes-3.ensures six
