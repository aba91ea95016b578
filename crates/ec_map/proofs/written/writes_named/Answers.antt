use Rattle.std.proofs.Common.{◌≡◌, sym, ap, ◌∙◌}
use Rattle.std.proofs.lemmas.Bool.{eqb-true}
use Rattle.ec_wire.specs.Datagram.{adp_of, ado_of}
use Rattle.ec_check.specs.Line.{controllers_by, station_of}
use Rattle.ec_map.specs.Item.{ItemRecord}
use Rattle.ec_map.specs.Place.{station_named}
use Rattle.ec_map.proofs.WrittenLemmas.{writes_from_range, range_from_writes}
use Rattle.ec_map.proofs.written.writes_named.Goals as goal

pub returns-then-station_of-adp_of : goal.returns-then-station_of-adp_of
returns-then-station_of-adp_of g c =
    let line = controllers_by g.S.Mapped.controller c.args.line.now in
    let item : ItemRecord = g.I.Asking.item c.args.item.now in
    let here : station_of line c.args.slave ≡ station_named item =
    sym c.station_of.ensures ∙ c.if-station_of-adp_of.true ∙ c.adp_of.ensures
    ∙ ap adp_of c.address-2.ensures in
    let first = c.ado_of.ensures ∙ ap ado_of c.address.ensures in (
      λ yes. writes_from_range line c.args.slave c.args.bytes _ item c.requires.kind here first
          c.count.ensures (c.share_a_byte.ensures.0 yes),
      λ some. c.share_a_byte.ensures.1
          (range_from_writes line c.args.slave c.args.bytes _ item c.requires.kind first c.count.ensures
          some).1,
    )

pub returns-else-station_of-adp_of : goal.returns-else-station_of-adp_of
returns-else-station_of-adp_of g c =
    let line = controllers_by g.S.Mapped.controller c.args.line.now in
    let item : ItemRecord = g.I.Asking.item c.args.item.now in
    let first = c.ado_of.ensures ∙ ap ado_of c.address.ensures in (
      λ yes. absurd (c.if-station_of-adp_of.false (eqb-true c.station_of.result c.adp_of.result yes)),
      λ some. absurd (c.if-station_of-adp_of.false
          (c.station_of.ensures
          ∙ (range_from_writes line c.args.slave c.args.bytes
          (record { first = c.ado_of.result; count = c.count.result }) item c.requires.kind first
          c.count.ensures some).0
          ∙ sym (c.adp_of.ensures ∙ ap adp_of c.address-2.ensures))),
    )
