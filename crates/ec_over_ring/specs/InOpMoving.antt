-- A cycle that tells the states of all slaves while they move: each is in Op at its moment of the trip that
-- carries the last item, the passage of the one copy that counted; and such a cycle of a running master over
-- whatever ports (IEC 61158-4-12, broadcast read; IEC 61158-6-12, AL status).
use Rattle.std.specs.Prelude.{◌≡◌, ◌≤◌, ◌<◌, ◌⊎◌, ℕ, true, false, List, [], ◌∷◌, ◌++◌, length, map, slice_get}
use Rattle.std.specs.Prelude.{Some, Ok}
use Rattle.std.specs.List.{AllByRecursion}
use Rattle.ec_regs.specs.declared.al.AlState.TheVariants.{Op}
use Rattle.ec_esc.specs.Application.{al_status}
use Rattle.ec_esc.specs.State.{ControllerState, NamesState}
use Rattle.ec_line.specs.Moving.{Visit}
use Rattle.ec_line.specs.Trip.{Trip}
use Rattle.ec_map.specs.Item.{ItemRecord, IsItem}
use Rattle.ec_map.specs.Share.{expected_of}
use Rattle.ec_ring.specs.Ring.{RingState, line_of}
use Rattle.ec_ring.specs.declared.links.TheConstants.{MAX_SLAVES}
use Rattle.ec_ring.specs.declared.weather.Weather.{Weather}
use Rattle.ec_master.specs.Again.{AskTheSame}
use Rattle.ec_master.specs.Given.{AllThatCame}
use Rattle.ec_master.specs.Moments.{IsMovingCycle, SaysOfMoving, answers_moving, verdict_moving}
use Rattle.ec_master.specs.Ports.{Trips}
use Rattle.ec_master.specs.Unordered.{IsAccepted}
use Rattle.ec_master.specs.Work.{with_answers}
use Rattle.ec_master.specs.declared.verdict.Verdict.TheVariants.{Good}
use Rattle.ec_run.specs.Cycles.{IsCycle}
use Rattle.ec_run.specs.States.{states_item, tells_all_in_op}
use Rattle.ec_run.specs.declared.cycles.Cycles.{Cycles}
use Rattle.ec_run.specs.declared.outputs.Outputs.{Outputs}

-- ---- a slave at its moment

-- copy A passed the slave at a place, and came back
abbrev pub CameByA : Trip → ℕ → Type 0
CameByA t k = (t.lost_a ≡ false) × (k < t.front)

-- copy B did
abbrev pub CameByB : Trip → ℕ → Type 0
CameByB t k = (t.lost_b ≡ false) × (t.back ≤ k)

-- one copy alone passed the slave at a place and came back, and met it so
abbrev pub WasMet : Trip → ℕ → Visit → ControllerState → Type 0
WasMet t k v met =
    (CameByA t k × ¬ CameByB t k × (met ≡ v.at_a)) ⊎ (CameByB t k × ¬ CameByA t k × (met ≡ v.at_b))

-- as that copy met it the slave was in Op and had no error, if its AL status named a state then
pub record WasInOp (t : Trip) (k : ℕ) (v : Visit) : Type 0 where
  pub met : ControllerState
  pub moment : WasMet t k v met
  pub in_op : NamesState met.memory → al_status met ≡ record { state = Op; error = false }

-- on the last trip, that of the frame with the last item, each slave was
abbrev pub WereInOp : List Trip → List (List Visit) → Type 0
WereInOp (t ∷ []) (vs ∷ []) = (k : ℕ) (v : Visit) → slice_get vs k ≡ Some v → WasInOp t k v
WereInOp (t ∷ ts) (vs ∷ rest) = WereInOp ts rest
WereInOp _ _ = ⊥

-- ---- what tells so

-- what is sent over a ring that moves so asks what these items ask and, as the last, for the states of all
-- slaves; in these weathers the verdict is good, and the last item brings that all are in Op
pub record TellsAllInOpMoving (ws : List Weather) (r : RingState) (items sent : List ItemRecord)
    (runs : List (List Visit)) : Type 0 where
  pub limit : length r.slaves ≤ MAX_SLAVES
  pub asks : AskTheSame (items ++ states_item ∷ []) sent
  pub accepted : IsAccepted r.slaves sent
  pub each : AllByRecursion IsItem sent
  pub moves : IsMovingCycle ws r sent runs
  pub good : verdict_moving ws r sent runs ≡ Good
  pub tells : tells_all_in_op (with_answers sent (answers_moving ws r sent runs)) ≡ true

-- over whatever ports, a good cycle says of a ring that moves so all that one over it says; its items ask for
-- the states last, and its image tells that all are in Op
pub record IsToldAllInOpMoving (ws : List Weather) (r : RingState) (items sent image : List ItemRecord)
    (runs : List (List Visit)) : Type 0 where
  pub asks : AskTheSame (items ++ states_item ∷ []) sent
  pub accepted : IsAccepted r.slaves sent
  pub each : AllByRecursion IsItem sent
  pub says : SaysOfMoving ws r sent runs (Ok Good) image
  pub tells : tells_all_in_op image ≡ true

-- ---- over whatever ports

-- a cycle of a running master ended well, of which this came: it asks for the states last, and its image
-- tells that all are in Op
pub record PortsTellAllInOp {P : Type 0} (trips : Trips P) (before later : P) (outputs : Outputs)
    (expected : List ℕ) (s after : Cycles) (came : AllThatCame) : Type 0 where
  pub items : List ItemRecord
  pub image : List ItemRecord
  pub asks : s.asked ≡ items ++ states_item ∷ []
  pub each : AllByRecursion IsItem s.asked
  pub cycle : IsCycle trips before outputs expected s (Ok Good) after later
  pub came_is : cycle.suffices.came ≡ came
  pub image_is : after.image ≡ Some image
  pub tells : tells_all_in_op image ≡ true

-- a ring accepts what is asked, and counts what is expected
pub record CountsAsExpected (r : RingState) (expected : List ℕ) (asked : List ItemRecord) : Type 0 where
  pub limit : length r.slaves ≤ MAX_SLAVES
  pub accepted : IsAccepted r.slaves asked
  pub expects : expected ≡ map (expected_of (line_of r)) asked
