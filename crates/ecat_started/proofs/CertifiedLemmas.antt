-- A ring whose slaves are, in some order, mapped as those of an accepted line is accepted, and adds the same.
use Rattle.std.proofs.Common.{◌≡◌, ◌%◌, List, [], ◌∷◌, map, refl, ◌∙◌}
use Rattle.std.specs.Prelude.{sum_by}
use Rattle.std.specs.List.{AllByRecursion}
use Rattle.std.specs.List.Sorted.{IsPermutation}
use Rattle.std.proofs.lemmas.List.Elements.{All-from_recursion, recursion_from_All}
use Rattle.std.proofs.lemmas.List.Sorted.{All-permutation, IsPermutation-map, IsPermutation-sym}
use Rattle.std.proofs.lemmas.List.Sorted.{sum_by-IsPermutation}
use Rattle.ec_esc.specs.State.{ControllerState, IsController}
use Rattle.ec_app.specs.State.{SlaveState}
use Rattle.ec_line.specs.Mapping.{mapping}
use Rattle.ec_check.specs.Line.{controllers}
use Rattle.ec_map.specs.Item.{IsItem, ItemRecord}
use Rattle.ec_map.specs.Share.{expected_of, share}
use Rattle.ec_master.specs.Again.{AskTheSame}
use Rattle.ec_master.specs.Unordered.{IsAccepted}
use Rattle.ecat_started.proofs.SlaveLemmas.{ArePicked}

-- ---- acceptance hangs on the mapping and not on the order, by the laws of a master

pub record HangsOnMapping : Type 0 where
  pub accepted : (slaves later : List SlaveState) (items others : List ItemRecord)
      → IsAccepted slaves items → AskTheSame items others
      → mapping (controllers later) ≡ mapping (controllers slaves)
      → AllByRecursion IsController (controllers later) → IsAccepted later others
  pub expected : (slaves later : List SlaveState) (items others : List ItemRecord)
      → IsAccepted slaves items → AllByRecursion IsItem items → AllByRecursion IsItem others
      → AskTheSame items others → mapping (controllers later) ≡ mapping (controllers slaves)
      → map (expected_of (controllers later)) others ≡ map (expected_of (controllers slaves)) items
  pub any_order : (slaves later : List SlaveState) (items : List ItemRecord)
      → IsPermutation slaves later → IsAccepted slaves items → IsAccepted later items

-- items ask what they ask
ask_the_same : (items : List ItemRecord) → AskTheSame items items
ask_the_same [] = tt
ask_the_same (r ∷ rs) = (record { kind = refl; address = refl; size = refl }, ask_the_same rs)

-- the same is expected of a line in another order
expected_in_order : (line later : List ControllerState) (items : List ItemRecord) → IsPermutation line later
    → map (expected_of later) items ≡ map (expected_of line) items
expected_in_order line later [] order = refl
expected_in_order line later (r ∷ rs) order =
    let sum : sum_by (share r) later ≡ sum_by (share r) line =
    sum_by-IsPermutation (share r) line later order in
    let rest = expected_in_order line later rs order in
    λ j. (sum j % 65536) ∷ rest j

pub picked_accepted : HangsOnMapping → (slaves ss : List SlaveState) (items : List ItemRecord)
    → ArePicked (mapping (controllers slaves)) ss → AllByRecursion IsController (controllers ss)
    → IsAccepted slaves items → IsAccepted ss items
picked_accepted laws slaves ss items picks are accepted =
    let lines : IsPermutation (controllers picks.picked) (controllers ss) =
    IsPermutation-map (λ (s : SlaveState). s.controller) picks.picked ss picks.order in
    let back : IsPermutation (controllers ss) (controllers picks.picked) =
    IsPermutation-sym (controllers picks.picked) (controllers ss) lines in
    laws.any_order picks.picked ss items picks.order
    (laws.accepted slaves picks.picked items items accepted (ask_the_same items) picks.mapped
    (recursion_from_All IsController (controllers picks.picked)
    (All-permutation IsController (controllers ss) (controllers picks.picked) back
    (All-from_recursion IsController (controllers ss) are))))

pub picked_expected : HangsOnMapping → (slaves ss : List SlaveState) (items : List ItemRecord)
    → ArePicked (mapping (controllers slaves)) ss → AllByRecursion IsItem items → IsAccepted slaves items
    → map (expected_of (controllers ss)) items ≡ map (expected_of (controllers slaves)) items
picked_expected laws slaves ss items picks each accepted =
    let lines : IsPermutation (controllers picks.picked) (controllers ss) =
    IsPermutation-map (λ (s : SlaveState). s.controller) picks.picked ss picks.order in
    expected_in_order (controllers picks.picked) (controllers ss) items lines
    ∙ laws.expected slaves picks.picked items items accepted each each (ask_the_same items) picks.mapped
