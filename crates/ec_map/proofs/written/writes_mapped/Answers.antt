use Rattle.ec_check.specs.Line.{controllers_by}
use Rattle.ec_map.proofs.WrittenLemmas.{writes_from_runs, runs_from_writes}
use Rattle.ec_map.proofs.written.writes_mapped.Goals as goal

pub returns : goal.returns
returns g c =
    let line = controllers_by g.S.Mapped.controller c.args.line.now in (
      λ yes. writes_from_runs line c.args.slave c.args.bytes.first c.args.bytes.count (g.I.Asking.item c.args.item.now)
          c.requires.kind
          (rw (← c.address.ensures, ← c.from-first.ensures, ← c.count.ensures, ← c.from.ensures, ← c.bits_of.ensures)
          (c.pairs_runs.ensures.0 yes)),
      λ some. c.pairs_runs.ensures.1
          (rw (c.from-first.ensures, c.address.ensures, c.from.ensures, c.count.ensures, c.bits_of.ensures)
          (runs_from_writes line c.args.slave c.args.bytes.first c.args.bytes.count (g.I.Asking.item c.args.item.now)
          c.requires.kind some)),
    )
