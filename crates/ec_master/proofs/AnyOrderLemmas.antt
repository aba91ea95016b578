-- Acceptance does not hang on the order of the slaves, and neither do slaves by their stations.
use Rattle.std.proofs.Common.{◌≡◌, ⊎_elim, ℕ, suc, ◌<◌, true, false, eqb, Option, None, Some, List, [], ◌∷◌}
use Rattle.std.proofs.Common.{length, get_or, sym, subst, ◌∙◌, ap, refl, arith}
use Rattle.std.specs.List.{AllByRecursion}
use Rattle.std.specs.List.Sorted.{IsPermutation}
use Rattle.std.proofs.lemmas.Bool.{cases_Bool, eqb-true}
use Rattle.std.proofs.lemmas.List.Elements.{All-from_get_or, All-get_or, All-from_recursion}
use Rattle.std.proofs.lemmas.List.Elements.{recursion_from_All}
use Rattle.std.proofs.lemmas.List.Sorted.{IsPermutation-sym, IsPermutation-map}
use Rattle.ec_regs.proofs.Laws.{each-map}
use Rattle.ec_esc.specs.State.{ControllerState, IsController}
use Rattle.ec_app.specs.State.{SlaveState}
use Rattle.ec_line.specs.Fit.{IsFitLine}
use Rattle.ec_line.proofs.Laws.{later-refl}
use Rattle.ec_check.specs.Line.{controllers, no_controller}
use Rattle.ec_check.proofs.Laws.{IsFitLine-fit, fit_in_any_order, stood_before}
use Rattle.ec_map.specs.Item.{ItemRecord}
use Rattle.ec_map.specs.Place.{IsPlaced}
use Rattle.ec_map.proofs.Laws.{placed_in_any_order}
use Rattle.ec_master.specs.Unordered.{by_station, station, IsAccepted}
use Rattle.ec_master.proofs.StationLemmas.{StationsApart, each_by_station, stations_apart}

-- ---- acceptance

-- what holds of each of a list holds of each in another order
each_in_order : {X : Type 0} (P : X → Type 0) (xs ys : List X) (d : X) → IsPermutation xs ys
    → AllByRecursion P xs → AllByRecursion P ys
each_in_order P xs ys d order all =
    recursion_from_All P ys (All-from_get_or P ys d
    (λ k inside.
    let found = stood_before xs ys k d order inside in
    subst P (sym found.2) (All-get_or P xs found.0 d found.1 (All-from_recursion P xs all))))

pub accepted_in_any_order : (slaves later : List SlaveState) (items : List ItemRecord)
    → IsPermutation slaves later → IsAccepted slaves items → IsAccepted later items
accepted_in_any_order slaves later items order accepted =
    let line : List ControllerState = controllers slaves in
    let lines : IsPermutation line (controllers later) =
    IsPermutation-map (λ (s : SlaveState). s.controller) slaves later order in
    record {
      are = each_in_order IsController line (controllers later) no_controller lines accepted.are;
      fit = fit_in_any_order line (controllers later) lines accepted.fit;
      placed =
          each-map (IsPlaced line) (IsPlaced (controllers later)) items
          (λ r placed. placed_in_any_order line (controllers later) r lines accepted.fit placed) accepted.placed;
    }

-- ---- by their stations

-- stations of accepted slaves differ
accepted_apart : (slaves : List SlaveState) (items : List ItemRecord) → IsAccepted slaves items
    → StationsApart slaves
accepted_apart slaves items accepted =
    let line : List ControllerState = controllers slaves in
    let fit : IsFitLine line = IsFitLine-fit line accepted.are accepted.fit in
    stations_apart line slaves fit.alone fit.apart (later-refl line fit.alone)

-- the slave of a station stands somewhere
stands : (ss : List SlaveState) (n : ℕ) (s : SlaveState) → by_station ss n ≡ Some s
    → (k : ℕ) × (k < length ss) × (get_or ss k s ≡ s) × (station s ≡ n)
unfolding by_station
stands [] n s found = absurd (cc)
stands (t ∷ ts) n s found =
    ⊎_elim
    (λ (here : eqb (station t) n ≡ true).
    let is : Some t ≡ Some s = rw here at found in
    let same : t ≡ s = cc in
    (0, omega arith, same, ap station (sym same) ∙ eqb-true (station t) n here))
    (λ (other : eqb (station t) n ≡ false).
    let behind : by_station ts n ≡ Some s = rw other at found in
    let rest = stands ts n s behind in (suc rest.0, omega (arith, rest.1), rest.2, rest.3))
    (cases_Bool (eqb (station t) n))

-- so it is the slave of its station in another order
found_again : (slaves later : List SlaveState) (n : ℕ) (s : SlaveState) → IsPermutation later slaves
    → StationsApart later → by_station slaves n ≡ Some s → by_station later n ≡ Some s
found_again slaves later n s order apart found =
    let at = stands slaves n s found in
    let before = stood_before later slaves at.0 s order at.1 in
    let is : get_or later before.0 s ≡ s = sym before.2 ∙ at.2 in
    let P : SlaveState → Type 0 = λ t. by_station later (station t) ≡ Some t in
    let own : P s =
    subst P is (All-get_or P later before.0 s before.1 (All-from_recursion P later (each_by_station later apart))) in
    ap (by_station later) (sym at.3) ∙ own

-- two options that have the same values are the same
same_option : (o p : Option SlaveState) → ((s : SlaveState) → o ≡ Some s → p ≡ Some s)
    → ((s : SlaveState) → p ≡ Some s → o ≡ Some s) → p ≡ o
same_option None None forth back = refl
same_option None (Some s) forth back = sym (back s refl)
same_option (Some s) p forth back = forth s refl

pub stations_in_any_order : (slaves later : List SlaveState) (items : List ItemRecord) (n : ℕ)
    → IsPermutation slaves later → IsAccepted slaves items → by_station later n ≡ by_station slaves n
stations_in_any_order slaves later items n order accepted =
    let apart = accepted_apart slaves items accepted in
    let later_apart =
    accepted_apart later items (accepted_in_any_order slaves later items order accepted) in
    same_option (by_station slaves n) (by_station later n)
    (λ s found. found_again slaves later n s (IsPermutation-sym slaves later order) later_apart found)
    (λ s found. found_again later slaves n s order apart found)
