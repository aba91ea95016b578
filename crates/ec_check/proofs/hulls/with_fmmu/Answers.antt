use Rattle.std.proofs.Common.{sym, ◌∙◌}
use Rattle.ec_check.specs.Line.{controllers_by}
use Rattle.ec_check.proofs.OneSideLemmas.{IsHullOf-reads, IsHullOf-writes, IsExchangedSoFar-next}
use Rattle.ec_check.proofs.OneSideLemmas.{not-EachExchangesOnOneSide-read, not-EachExchangesOnOneSide-written}
use Rattle.ec_check.proofs.hulls.with_fmmu.Goals as goal

pub returns-then-not-is_apart : goal.returns-then-not-is_apart
returns-then-not-is_apart g c =
    let line = controllers_by g.S.Mapped.controller c.args.line.now in
    not-EachExchangesOnOneSide-read line c.args.slave c.args.number c.args.earlier.now.written
    c.hull_if-read.result c.requires.earlier.written
    (IsHullOf-reads line c.args.slave c.args.number c.reads.result c.fmmu_of-record.result
    c.hull_if-read.result c.requires.there c.fmmu_of-record.ensures c.reads.ensures c.hull_if-read.ensures)
    (sym c.is_apart.ensures ∙ c.if-not-is_apart.true)

pub returns-then-not-is_apart-2 : goal.returns-then-not-is_apart-2
returns-then-not-is_apart-2 g c =
    let line = controllers_by g.S.Mapped.controller c.args.line.now in
    not-EachExchangesOnOneSide-written line c.args.slave c.args.number c.args.earlier.now.read
    c.hull_if-written.result c.requires.earlier.read
    (IsHullOf-writes line c.args.slave c.args.number c.writes.result c.fmmu_of-record.result
    c.hull_if-written.result c.requires.there c.fmmu_of-record.ensures c.writes.ensures
    c.hull_if-written.ensures)
    (sym c.is_apart-2.ensures ∙ c.if-not-is_apart-2.true)

pub returns : goal.returns
returns g c =
    let line = controllers_by g.S.Mapped.controller c.args.line.now in
    rw (c.with.ensures, c.with-2.ensures)
    (IsExchangedSoFar-next line c.args.slave c.args.number c.args.earlier.now c.args.hulls.now
    c.hull_if-read.result c.hull_if-written.result c.requires.earlier c.requires.so_far
    (IsHullOf-reads line c.args.slave c.args.number c.reads.result c.fmmu_of-record.result
    c.hull_if-read.result c.requires.there c.fmmu_of-record.ensures c.reads.ensures c.hull_if-read.ensures)
    (IsHullOf-writes line c.args.slave c.args.number c.writes.result c.fmmu_of-record.result
    c.hull_if-written.result c.requires.there c.fmmu_of-record.ensures c.writes.ensures
    c.hull_if-written.ensures)
    (sym c.is_apart.ensures ∙ c.if-not-is_apart.false) (sym c.is_apart-2.ensures ∙ c.if-not-is_apart-2.false))
