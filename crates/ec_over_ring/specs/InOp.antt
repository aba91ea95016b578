-- A cycle that tells the states of all slaves: its last item is the broadcast read of AL status (IEC
-- 61158-4-12, broadcast read; IEC 61158-6-12, AL status).
use Rattle.std.specs.Prelude.{◌≡◌, ◌≤◌, ℕ, true, List, [], ◌∷◌, ◌++◌, length, map, Some, Ok}
use Rattle.std.specs.List.{AllByRecursion}
use Rattle.ec_map.specs.Item.{ItemRecord, IsItem}
use Rattle.ec_map.specs.Share.{expected_of}
use Rattle.ec_ring.specs.Ring.{RingState, line_of}
use Rattle.ec_ring.specs.declared.links.TheConstants.{MAX_SLAVES}
use Rattle.ec_ring.specs.declared.weather.Weather.{Weather}
use Rattle.ec_master.specs.Again.{AskTheSame}
use Rattle.ec_master.specs.Certificate.{verdict_under}
use Rattle.ec_master.specs.Suffice.{SaysOf}
use Rattle.ec_master.specs.Travelled.{answers_under}
use Rattle.ec_master.specs.Unordered.{IsAccepted}
use Rattle.ec_master.specs.WeatherTrips.{InWeather, WeatherTrips}
use Rattle.ec_master.specs.Work.{with_answers}
use Rattle.ec_master.specs.declared.verdict.Verdict.TheVariants.{Good}
use Rattle.ec_run.specs.Cycles.{IsCycle}
use Rattle.ec_run.specs.States.{states_item, tells_all_in_op}
use Rattle.ec_run.specs.declared.cycles.Cycles.{Cycles}
use Rattle.ec_run.specs.declared.outputs.Outputs.{Outputs}

-- what is sent over a ring asks what these items ask and, as the last, for the states of all slaves, with
-- whatever data and counters; in these weathers the verdict is good, and the last item brings that all are in
-- Op
pub record TellsAllInOp (ws : List Weather) (r : RingState) (items sent : List ItemRecord) : Type 0 where
  pub limit : length r.slaves ≤ MAX_SLAVES
  pub asks : AskTheSame (items ++ states_item ∷ []) sent
  pub accepted : IsAccepted r.slaves sent
  pub each : AllByRecursion IsItem sent
  pub good : verdict_under ws r sent ≡ Good
  pub tells : tells_all_in_op (with_answers sent (answers_under ws r sent)) ≡ true

-- a cycle of a running master over a ring, in whatever weather, ended well: it asks for the states last, and
-- expects what the ring counts; and its image tells that all are in Op
pub record CycleTellsAllInOp (before later : InWeather) (outputs : Outputs) (expected : List ℕ)
    (s after : Cycles) : Type 0 where
  pub items : List ItemRecord
  pub image : List ItemRecord
  pub limit : length before.ring.slaves ≤ MAX_SLAVES
  pub asks : s.asked ≡ items ++ states_item ∷ []
  pub accepted : IsAccepted before.ring.slaves s.asked
  pub each : AllByRecursion IsItem s.asked
  pub expects : expected ≡ map (expected_of (line_of before.ring)) s.asked
  pub cycle : IsCycle WeatherTrips before outputs expected s (Ok Good) after later
  pub image_is : after.image ≡ Some image
  pub tells : tells_all_in_op image ≡ true

-- over whatever ports, a good cycle says of a ring all that one over it says; its items ask for the states
-- last, and its image tells that all are in Op
pub record IsToldAllInOp (ws : List Weather) (r : RingState) (items sent image : List ItemRecord)
    : Type 0 where
  pub asks : AskTheSame (items ++ states_item ∷ []) sent
  pub accepted : IsAccepted r.slaves sent
  pub each : AllByRecursion IsItem sent
  pub says : SaysOf ws r sent (Ok Good) image
  pub tells : tells_all_in_op image ≡ true
