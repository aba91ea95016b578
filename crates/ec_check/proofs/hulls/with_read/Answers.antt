use Rattle.std.proofs.Common.{sym, ◌∙◌}
use Rattle.ec_check.specs.Line.{controllers_by}
use Rattle.ec_check.proofs.OneSideLemmas.{IsHullOf-reads, IsReadSoFar-next, not-EachReadsOnOneSide}
use Rattle.ec_check.proofs.hulls.with_read.Goals as goal

pub returns-then-not-is_apart : goal.returns-then-not-is_apart
returns-then-not-is_apart g c =
    let line = controllers_by g.S.Mapped.controller c.args.line.now in
    not-EachReadsOnOneSide line c.args.slave c.args.number c.args.read c.hull_if-more.result c.requires.so_far
    (IsHullOf-reads line c.args.slave c.args.number c.reads.result c.fmmu_of-record.result
    c.hull_if-more.result c.requires.there c.fmmu_of-record.ensures c.reads.ensures c.hull_if-more.ensures)
    (sym c.is_apart.ensures ∙ c.if-not-is_apart.true)

pub returns : goal.returns
returns g c =
    let line = controllers_by g.S.Mapped.controller c.args.line.now in
    rw c.with.ensures
    (IsReadSoFar-next line c.args.slave c.args.number c.args.read c.hull_if-more.result c.requires.so_far
    (IsHullOf-reads line c.args.slave c.args.number c.reads.result c.fmmu_of-record.result
    c.hull_if-more.result c.requires.there c.fmmu_of-record.ensures c.reads.ensures c.hull_if-more.ensures)
    (sym c.is_apart.ensures ∙ c.if-not-is_apart.false))
