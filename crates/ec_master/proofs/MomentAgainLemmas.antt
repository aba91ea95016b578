-- Behind a cycle over a ring that moves the line is accepted again, and counts what it counted.
use Rattle.std.proofs.Common.{◌≡◌, sym, subst, ◌∙◌, ap, refl, List, map}
use Rattle.std.specs.List.{AllByRecursion}
use Rattle.ec_regs.proofs.Laws.{each-map}
use Rattle.ec_esc.specs.State.{ControllerState, IsController}
use Rattle.ec_line.specs.Fit.{IsFitAlone}
use Rattle.ec_line.specs.Mapping.{mapping}
use Rattle.ec_line.specs.Moving.{Visit, AllAlike, behind}
use Rattle.ec_line.specs.Trip.{Trip}
use Rattle.ec_line.proofs.Laws.{moving_alike, moving_mapping, alike_fit, alike_length}
use Rattle.ec_map.specs.Item.{ItemRecord, IsItem}
use Rattle.ec_map.specs.Share.{expected_of}
use Rattle.ec_ring.specs.Ring.{RingState, line_of}
use Rattle.ec_ring.specs.declared.weather.Weather.{Weather}
use Rattle.ec_ring.proofs.Laws.{line-between}
use Rattle.ec_master.specs.Again.{AskTheSame}
use Rattle.ec_master.specs.Moments.{IsMovingCycle, ring_moving}
use Rattle.ec_master.specs.Travelled.{trips_under}
use Rattle.ec_master.specs.Unordered.{IsAccepted}
use Rattle.ec_master.proofs.BetweenLemmas.{accepted_by_mapping, expected_by}
use Rattle.ec_master.proofs.SlaveLemmas.{trips_ready}

-- the controllers behind the cycle, which are alike to those before it
record IsBehind (r : RingState) (runs : List (List Visit)) : Type 0 where
  line : line_of (ring_moving r runs) ≡ behind runs (line_of r)
  are : AllByRecursion IsController (line_of (ring_moving r runs))
  mapping : mapping (line_of (ring_moving r runs)) ≡ mapping (line_of r)

is_behind : (ws : List Weather) (r : RingState) (items : List ItemRecord) (runs : List (List Visit))
    → IsAccepted r.slaves items → AllByRecursion IsItem items → IsMovingCycle ws r items runs → IsBehind r runs
is_behind ws r items runs accepted are moving =
    let line : List ControllerState = line_of r in
    let later : List ControllerState = behind runs line in
    let ts : List Trip = trips_under ws r items in
    let ready = trips_ready ws r items accepted are in
    let alike : AllAlike line later = moving_alike ts line runs ready moving in
    let stands : line_of (ring_moving r runs) ≡ later =
    line-between r (ring_moving r runs) later refl (alike_length line later alike) in
    record {
      line = stands;
      are = subst (λ (l : List ControllerState). AllByRecursion IsController l) (sym stands)
          (each-map IsFitAlone IsController later (λ c fit. fit.controller)
          (alike_fit line later alike ready.fit).alone);
      mapping = ap mapping stands ∙ moving_mapping ts line runs ready moving;
    }

pub moving_again : (ws : List Weather) (r : RingState) (items others : List ItemRecord)
    (runs : List (List Visit)) → IsAccepted r.slaves items → AllByRecursion IsItem items
    → IsMovingCycle ws r items runs → AskTheSame items others → IsAccepted (ring_moving r runs).slaves others
moving_again ws r items others runs accepted are moving asks =
    let later = is_behind ws r items runs accepted are moving in
    accepted_by_mapping r.slaves (ring_moving r runs).slaves items others accepted asks later.mapping later.are

pub moving_expected : (ws : List Weather) (r : RingState) (items others : List ItemRecord)
    (runs : List (List Visit)) → IsAccepted r.slaves items → AllByRecursion IsItem items
    → AllByRecursion IsItem others → IsMovingCycle ws r items runs → AskTheSame items others
    → map (expected_of (line_of (ring_moving r runs))) others ≡ map (expected_of (line_of r)) items
moving_expected ws r items others runs accepted are also moving asks =
    let later = is_behind ws r items runs accepted are moving in
    expected_by r.slaves (ring_moving r runs).slaves items others accepted are also asks later.mapping
