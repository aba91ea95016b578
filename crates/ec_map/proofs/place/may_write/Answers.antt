use Rattle.std.proofs.Common.{below_more, sym, ap, ◌∙◌, arith}
use Rattle.ec_regs.specs.declared.sync_man.SyncMan.{SyncMan}
use Rattle.ec_map.specs.Place.{is_output_run}
use Rattle.ec_map.proofs.PlaceLemmas.{some_manager, no_manager}
use Rattle.ec_map.proofs.place.may_write.Goals as goal

pub loop-number-preserved : goal.loop-number-preserved
loop-number-preserved g c =
    below_more _ _ c.loop-number.invariant
    (ap (λ (s : SyncMan). is_output_run c.args.from c.args.count s) (sym c.sync_manager.ensures)
    ∙ sym c.is_output_run.ensures ∙ c.if-is_output_run.false)

pub returns-then-is_output_run : goal.returns-then-is_output_run
returns-then-is_output_run g c =
    sym
    (some_manager (is_output_run c.args.from c.args.count) (g.S.Mapped.controller c.args.slave.now).memory
    c.loop-number.number (omega arith)
    (ap (λ (s : SyncMan). is_output_run c.args.from c.args.count s) (sym c.sync_manager.ensures)
    ∙ sym c.is_output_run.ensures ∙ c.if-is_output_run.true))

pub returns : goal.returns
returns g c =
    sym
    (no_manager (is_output_run c.args.from c.args.count) (g.S.Mapped.controller c.args.slave.now).memory
    (λ n below. c.loop-number.invariant n (omega arith)))
