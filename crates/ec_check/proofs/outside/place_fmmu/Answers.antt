use Rattle.std.proofs.Common.{◌+◌, ◌-◌, ◌/◌, ap, ◌∙◌, arith}
use Rattle.ec_regs.specs.Pairs.{first_physical, pair_count}
use Rattle.ec_regs.specs.declared.fmmu.Fmmu.{Fmmu}
use Rattle.ec_check.specs.Line.{controllers_by}
use Rattle.ec_check.proofs.LineLemmas.{length-controllers_by}
use Rattle.ec_check.proofs.OutsideLemmas.{HasNone-unmapped, HasNone-inside, IsFirstOf-no_area}
use Rattle.ec_check.proofs.OutsideLemmas.{IsFirstOf-behind}
use Rattle.ec_check.proofs.outside.place_fmmu.Goals as goal

pub returns-then-mapped_bits-eq0 : goal.returns-then-mapped_bits-eq0
returns-then-mapped_bits-eq0 g c =
    let is = c.fmmu_of-record.ensures in
    let count = c.mapped_bits.ensures.value ∙ ap pair_count is in
    HasNone-unmapped (controllers_by g.S.Mapped.controller c.args.line.now) c.args.slave c.args.fmmu (omega arith)

pub returns-in-None : goal.returns-in-None
returns-in-None g c =
    let is = c.fmmu_of-record.ensures in
    let count = c.mapped_bits.ensures.value ∙ ap pair_count is in
    rw is
    (IsFirstOf-no_area (controllers_by g.S.Mapped.controller c.args.line.now) c.args.slave c.args.fmmu
    (record {
      slave_there = omega
          (arith, length-controllers_by g.S.Mapped.controller c.args.line.now);
      number_there = c.requires.fmmu;
    }) (omega arith)
    (rw is at c.in-None.ensures))

pub returns-in-Some : goal.returns-in-Some
returns-in-Some g c =
    let is = c.fmmu_of-record.ensures in
    let last = c.last_byte-last.ensures ∙ ap (λ (f : Fmmu). (first_physical f + pair_count f - 1) / 8) is in
    HasNone-inside (controllers_by g.S.Mapped.controller c.args.line.now) c.args.slave c.args.fmmu c.in-Some.end
    (rw is at c.in-Some.ensures) (omega arith)

pub returns-in-Some-2 : goal.returns-in-Some-2
returns-in-Some-2 g c =
    let is = c.fmmu_of-record.ensures in
    let count = c.mapped_bits.ensures.value ∙ ap pair_count is in
    let last = c.last_byte-last.ensures ∙ ap (λ (f : Fmmu). (first_physical f + pair_count f - 1) / 8) is in
    IsFirstOf-behind (controllers_by g.S.Mapped.controller c.args.line.now) c.args.slave c.args.fmmu c.in-Some.end c.requires.areas
    (record {
      slave_there = omega
          (arith, length-controllers_by g.S.Mapped.controller c.args.line.now);
      number_there = c.requires.fmmu;
    }) (omega arith)
    (rw is at c.in-Some.ensures) (omega arith)
