use Rattle.std.proofs.Common.{below_more, sym, ap, ◌∙◌, arith}
use Rattle.ec_regs.specs.declared.sync_man.SyncMan.{SyncMan}
use Rattle.ec_check.specs.Line.{controllers_by}
use Rattle.ec_check.specs.Runs.{holds_first_byte}
use Rattle.ec_check.proofs.OutsideLemmas.{IsAreaEnd-holds, IsAreaEnd-mail, HasNoArea-none}
use Rattle.ec_check.proofs.outside.end_of_area.Goals as goal

pub loop-number-preserved : goal.loop-number-preserved
loop-number-preserved g c =
    below_more _ _ c.loop-number.invariant
    (ap (λ (s : SyncMan). holds_first_byte s c.args.fmmu.now) (sym c.sync_manager_of-manager.ensures)
    ∙ sym c.holds_first_byte.ensures.value ∙ c.if-holds_first_byte.false)

pub returns-then-holds_first_byte : goal.returns-then-holds_first_byte
returns-then-holds_first_byte g c =
    rw c.sync_manager_of-manager.ensures
    (IsAreaEnd-holds
    (controllers_by g.S.Mapped.controller c.args.line.now) c.args.slave c.loop-number.number c.args.fmmu.now c.requires.some_bit
    (omega arith)
    (ap (λ (s : SyncMan). holds_first_byte s c.args.fmmu.now) (sym c.sync_manager_of-manager.ensures)
    ∙ sym c.holds_first_byte.ensures.value ∙ c.if-holds_first_byte.true))

pub returns-then-begins_at_mail_status : goal.returns-then-begins_at_mail_status
returns-then-begins_at_mail_status g c =
    IsAreaEnd-mail (controllers_by g.S.Mapped.controller c.args.line.now) c.args.slave c.args.fmmu.now c.requires.some_bit
    (sym c.begins_at_mail_status.ensures ∙ c.if-begins_at_mail_status.true)

pub returns : goal.returns
returns g c =
    HasNoArea-none (controllers_by g.S.Mapped.controller c.args.line.now) c.args.slave c.args.fmmu.now c.requires.some_bit
    (λ n below. c.loop-number.invariant n (omega arith))
    (sym c.begins_at_mail_status.ensures ∙ c.if-begins_at_mail_status.false)
