use Rattle.std.proofs.Common.{◌≡◌, suc, ◌+◌, ◌-◌, ◌∙◌, sym, arith}
use Rattle.ecat_master.specs.declared.startup.TheConstants.{MORE_CABLE_LOOKS}
use Rattle.ecat_master.proofs.CourseLemmas.{looks_end, looks_known, looks_on}
use Rattle.ecat_master.proofs.startup.look_surely.Goals as goal

pub returns-then-is_last_look : goal.returns-then-is_last_look
returns-then-is_last_look g c = record {
  looks = looks_known g.P.HeardPorts.trips c.args.ports.now.ports c.loop-look.ports.ports
      c.look_once-found.new.ports.ports c.args.slaves MORE_CABLE_LOOKS (MORE_CABLE_LOOKS - c.loop-look._look)
      (MORE_CABLE_LOOKS - (c.loop-look._look + 1)) c.look_once-found.result c.loop-look.invariant.0
      (let e : MORE_CABLE_LOOKS - c.loop-look._look ≡ suc (MORE_CABLE_LOOKS - (c.loop-look._look + 1)) =
      omega (arith, c.loop-look-test.true) in e)
      c.look_once-found.ensures.look (sym c.is_last_look.ensures ∙ c.if-is_last_look.true);
  still_told = c.look_once-found.ensures.still_told ∙ c.loop-look.invariant.1;
}

pub loop-look-preserved : goal.loop-look-preserved
loop-look-preserved g c = (
  looks_on g.P.HeardPorts.trips c.args.ports.now.ports c.loop-look.ports.ports
      c.look_once-found.new.ports.ports c.args.slaves MORE_CABLE_LOOKS (MORE_CABLE_LOOKS - c.loop-look._look)
      (MORE_CABLE_LOOKS - (c.loop-look._look + 1)) c.look_once-found.result c.loop-look.invariant.0
      (let e : MORE_CABLE_LOOKS - c.loop-look._look ≡ suc (MORE_CABLE_LOOKS - (c.loop-look._look + 1)) =
      omega (arith, c.loop-look-test.true) in e)
      c.look_once-found.ensures.look (sym c.is_last_look.ensures ∙ c.if-is_last_look.false),
  c.look_once-found.ensures.still_told ∙ c.loop-look.invariant.1,
)

pub returns : goal.returns
returns g c = record {
  looks = looks_end g.P.HeardPorts.trips c.args.ports.now.ports c.loop-look.ports.ports
      c.look_once.new.ports.ports c.args.slaves MORE_CABLE_LOOKS (MORE_CABLE_LOOKS - c.loop-look._look)
      c.look_once.result c.loop-look.invariant.0
      (let e : MORE_CABLE_LOOKS - c.loop-look._look ≡ 0 = omega (arith, c.loop-look-test.false) in e)
      c.look_once.ensures.look;
  still_told = c.look_once.ensures.still_told ∙ c.loop-look.invariant.1;
}
