use Rattle.std.proofs.Common.{ℕ, refl, subst}
use Rattle.std.specs.List.{slice_get}
use Rattle.ec_run.specs.StartupObjects.{WritesStartupOn, startup_peer}
use Rattle.ec_run.proofs.recovering.Recovery.take.Goals as goal

pub returns-in-Startup-clause-taken : goal.returns-in-Startup-clause-taken
returns-in-Startup-clause-taken g c =
    rw (c.in-Startup.is, ← c.self.view_is) (
      c.write_startup_on.new.written,
      subst
          (λ (k : ℕ). WritesStartupOn g.P.Ports.trips c.args.ports.now (startup_peer c.args.wanted.now k)
          (slice_get c.args.wanted.now.startup k) c.self.inside.written c.write_startup_on.result
          c.write_startup_on.new.written c.write_startup_on.new.ports) c.startup_number.ensures.value
          c.write_startup_on.ensures.writes,
      refl,
    )
