-- Turns of a service, one after the other over ports.
use Rattle.std.specs.Prelude.{◌≡◌, ℕ, zero, suc, Result}
use Rattle.ec_master.specs.Ports.{Trips}
use Rattle.ec_services.specs.declared.fault.MasterFault.{MasterFault}
use Rattle.ec_acyclic.specs.Next.{TalkState}
use Rattle.ec_acyclic.specs.Turn.{IsServiceTurn}
use Rattle.ec_acyclic.specs.declared.service.Answer.{Answer}
use Rattle.ec_acyclic.specs.declared.turn.Turn.{Turn}
use Rattle.ec_acyclic.specs.declared.turn.Turn.TheVariants.{Goes, Ended}

-- so many at the most, until the service has ended so
unfoldable pub ServiceRuns : {P : Type 0} → Trips P → P → TalkState → ℕ → Result Answer MasterFault → P
    → Type 0
ServiceRuns trips before t zero told later = ⊥
ServiceRuns {P} trips before t (suc n) told later =
    (turn : Turn) × (between : P) × IsServiceTurn trips before t turn between
    × (elim turn [
      | Goes next ↦ ServiceRuns trips between next n told later
      | Ended ended ↦ (told ≡ ended) × (later ≡ between)
    ])
