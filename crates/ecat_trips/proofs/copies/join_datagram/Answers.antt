use Rattle.ec_wire.specs.Datagram.{nth}
use Rattle.ec_merge.specs.Bytes.{joined_bytes}
use Rattle.ecat_trips.specs.Copies.{joined_address, with_fields}
use Rattle.ecat_trips.proofs.SetLemmas.{set_again}
use Rattle.ecat_trips.proofs.copies.join_datagram.Goals as goal

pub returns : goal.returns
returns c =
    let rs = c.args.into.now in
    let k = c.args.k in
    let s = nth c.args.sent.now k in
    let a = nth rs k in
    let b = nth c.args.other.now k in
    let placed = record a { address = joined_address s.command s.address a.address b.address } in
    let counted =
    set_again (λ r. with_fields s r b) rs c.join_adp.new.into c.join_fields.new.into k placed c.requires.into
    c.join_adp.ensures c.join_fields.ensures in
    set_again (λ r. record r { payload = joined_bytes s.payload r.payload b.payload }) rs
    c.join_fields.new.into c.join_data.new.into k (with_fields s placed b) c.requires.into counted
    c.join_data.ensures
