-- What is accepted hangs on the slaves' mapping and on what items ask, and so it lasts between cycles.
use Rattle.std.proofs.Common.{◌≡◌, ℕ, zero, suc, ◌<◌, ◌^◌, Bool, true, false, cond, List, [], ◌∷◌}
use Rattle.std.proofs.Common.{map, set, Option, None, Some, sym, subst, ◌∙◌, ap, refl, arith}
use Rattle.std.specs.Prelude.{slice_get, unwrap_or}
use Rattle.std.specs.List.{AllByRecursion}
use Rattle.ec_regs.specs.Bits.{AreBytes}
use Rattle.ec_areas.specs.Records.{sync_manager_at}
use Rattle.ec_esc.specs.Application.{put_inputs_fault, with_inputs}
use Rattle.ec_esc.specs.State.{ControllerState, IsController}
use Rattle.ec_esc.proofs.Laws.{inputs_controller}
use Rattle.ec_line.specs.Mapping.{mapping_of, mapping}
use Rattle.ec_app.specs.Lending.{with_controller}
use Rattle.ec_app.specs.Slave.{step}
use Rattle.ec_app.specs.State.{SlaveState}
use Rattle.ec_check.specs.Fit.{IsFit}
use Rattle.ec_check.specs.Line.{controllers}
use Rattle.ec_check.proofs.Laws.{fit_by_mapping, mapping_step, mapping_inputs}
use Rattle.ec_map.specs.Item.{ItemRecord, IsItem, AsksTheSame, is_broadcast}
use Rattle.ec_map.specs.Place.{IsPlaced}
use Rattle.ec_map.specs.Share.{expected_of}
use Rattle.ec_map.proofs.Laws.{expected_by_mapping}
use Rattle.ec_ring.specs.Ring.{RingState, line_of, stepped, with_slave}
use Rattle.ec_ring.specs.declared.links.Links.{Links}
use Rattle.ec_master.specs.Again.{AskTheSame}
use Rattle.ec_master.specs.Rounds.{round_counter, begun}
use Rattle.ec_master.specs.Unordered.{IsAccepted}
use Rattle.ec_master.specs.Work.{rewound}
use Rattle.ec_master.proofs.AgainLemmas.{expected_asked, placed-later, asks-itself}

-- ---- by the mapping

pub accepted_by_mapping : (slaves later : List SlaveState) (items others : List ItemRecord)
    → IsAccepted slaves items → AskTheSame items others → mapping (controllers later) ≡ mapping (controllers slaves)
    → AllByRecursion IsController (controllers later) → IsAccepted later others
accepted_by_mapping slaves later items others accepted asks alike are = record {
  are = are;
  fit = fit_by_mapping (controllers slaves) (controllers later) alike accepted.fit;
  placed = placed-later (controllers slaves) (controllers later) items others alike asks accepted.placed;
}

all_by_mapping : (line later : List ControllerState) (items others : List ItemRecord)
    → mapping later ≡ mapping line → IsFit line → AllByRecursion (IsPlaced line) items
    → AllByRecursion IsItem items → AllByRecursion IsItem others → AskTheSame items others
    → map (expected_of later) others ≡ map (expected_of line) items
all_by_mapping line later [] [] alike fit placed items others asks = refl
all_by_mapping line later [] (s ∷ ss) alike fit placed items others asks = absurd asks
all_by_mapping line later (r ∷ rs) [] alike fit placed items others asks = absurd asks
all_by_mapping line later (r ∷ rs) (s ∷ ss) alike fit placed items others asks =
    (λ i. (expected_asked r s later items.0 others.0 asks.0
    ∙ expected_by_mapping line later r alike fit items.0 placed.0) i
    ∷ all_by_mapping line later rs ss alike fit placed.1 items.1 others.1 asks.1 i)

pub expected_by : (slaves later : List SlaveState) (items others : List ItemRecord) → IsAccepted slaves items
    → AllByRecursion IsItem items → AllByRecursion IsItem others → AskTheSame items others
    → mapping (controllers later) ≡ mapping (controllers slaves)
    → map (expected_of (controllers later)) others ≡ map (expected_of (controllers slaves)) items
expected_by slaves later items others accepted are also asks alike =
    all_by_mapping (controllers slaves) (controllers later) items others alike accepted.fit accepted.placed are also
    asks

-- ---- steps

stepped_mapping : (ss : List SlaveState) → AllByRecursion IsController (controllers ss)
    → mapping (controllers (map step ss)) ≡ mapping (controllers ss)
stepped_mapping [] are = refl
stepped_mapping (s ∷ ss) are = (λ i. mapping_step s are.0 i ∷ stepped_mapping ss are.1 i)

pub stepped_accepted : (r : RingState) (items : List ItemRecord) → IsAccepted r.slaves items
    → AllByRecursion IsController (line_of (stepped r)) → IsAccepted (stepped r).slaves items
stepped_accepted r items accepted are =
    accepted_by_mapping r.slaves (map step r.slaves) items items accepted (asks-itself items)
    (stepped_mapping r.slaves accepted.are) are

pub stepped_expected : (r : RingState) (items : List ItemRecord) → IsAccepted r.slaves items
    → AllByRecursion IsItem items
    → map (expected_of (line_of (stepped r))) items ≡ map (expected_of (line_of r)) items
stepped_expected r items accepted are =
    expected_by r.slaves (map step r.slaves) items items accepted are are (asks-itself items)
    (stepped_mapping r.slaves accepted.are)

-- ---- one slave

set_mapping : (ss : List SlaveState) (k : ℕ) (s : SlaveState) (c : ControllerState) → slice_get ss k ≡ Some s
    → mapping_of c ≡ mapping_of s.controller
    → mapping (controllers (set ss k (with_controller s c))) ≡ mapping (controllers ss)
set_mapping [] k s c there same = refl
set_mapping (x ∷ xs) zero s c there same =
    let is : s ≡ x = ap (λ (o : Option SlaveState). unwrap_or o s) (sym there) in
    let alike : mapping_of c ≡ mapping_of x.controller =
    same ∙ ap (λ (t : SlaveState). mapping_of t.controller) is in
    (λ i. alike i ∷ mapping (controllers xs))
set_mapping (x ∷ xs) (suc k) s c there same =
    (λ i. mapping_of x.controller ∷ set_mapping xs k s c there same i)

set_controllers : (ss : List SlaveState) (k : ℕ) (s : SlaveState) (c : ControllerState) → IsController c
    → AllByRecursion IsController (controllers ss)
    → AllByRecursion IsController (controllers (set ss k (with_controller s c)))
set_controllers [] k s c is are = tt
set_controllers (x ∷ xs) zero s c is are = (is, are.1)
set_controllers (x ∷ xs) (suc k) s c is are = (are.0, set_controllers xs k s c is are.1)

pub changed_accepted : (r : RingState) (items : List ItemRecord) (k : ℕ) (s : SlaveState) (c : ControllerState)
    → IsAccepted r.slaves items → slice_get r.slaves k ≡ Some s → mapping_of c ≡ mapping_of s.controller
    → IsController c → IsAccepted (with_slave r k (with_controller s c)).slaves items
changed_accepted r items k s c accepted there same is =
    accepted_by_mapping r.slaves (set r.slaves k (with_controller s c)) items items accepted (asks-itself items)
    (set_mapping r.slaves k s c there same) (set_controllers r.slaves k s c is accepted.are)

pub changed_expected : (r : RingState) (items : List ItemRecord) (k : ℕ) (s : SlaveState) (c : ControllerState)
    → IsAccepted r.slaves items → AllByRecursion IsItem items → slice_get r.slaves k ≡ Some s
    → mapping_of c ≡ mapping_of s.controller
    → map (expected_of (line_of (with_slave r k (with_controller s c)))) items
    ≡ map (expected_of (line_of r)) items
changed_expected r items k s c accepted are there same =
    expected_by r.slaves (set r.slaves k (with_controller s c)) items items accepted are are (asks-itself items)
    (set_mapping r.slaves k s c there same)

-- the controller of a slave that stands on a line of controllers
controller_at : (ss : List SlaveState) (k : ℕ) (s : SlaveState) → slice_get ss k ≡ Some s
    → AllByRecursion IsController (controllers ss) → IsController s.controller
controller_at [] k s there are = absurd (cc)
controller_at (x ∷ xs) zero s there are =
    let is : x ≡ s = ap (λ (o : Option SlaveState). unwrap_or o s) there in
    subst (λ (t : SlaveState). IsController t.controller) is are.0
controller_at (x ∷ xs) (suc k) s there are = controller_at xs k s there are.1

pub inputs_accepted : (r : RingState) (items : List ItemRecord) (k sm : ℕ) (s : SlaveState) (bytes : List ℕ)
    → IsAccepted r.slaves items → slice_get r.slaves k ≡ Some s → AreBytes bytes
    → put_inputs_fault (sync_manager_at s.controller.memory sm) bytes ≡ None
    → IsAccepted (with_slave r k (with_controller s (with_inputs s.controller sm bytes))).slaves items
inputs_accepted r items k sm s bytes accepted there bytes_are none =
    let is = controller_at r.slaves k s there accepted.are in
    changed_accepted r items k s (with_inputs s.controller sm bytes) accepted there
    (mapping_inputs s.controller sm bytes is none) (inputs_controller s.controller sm bytes is bytes_are none)

pub inputs_expected : (r : RingState) (items : List ItemRecord) (k sm : ℕ) (s : SlaveState) (bytes : List ℕ)
    → IsAccepted r.slaves items → AllByRecursion IsItem items → slice_get r.slaves k ≡ Some s
    → put_inputs_fault (sync_manager_at s.controller.memory sm) bytes ≡ None
    → map (expected_of (line_of (with_slave r k (with_controller s (with_inputs s.controller sm bytes))))) items
    ≡ map (expected_of (line_of r)) items
inputs_expected r items k sm s bytes accepted are there none =
    let is = controller_at r.slaves k s there accepted.are in
    changed_expected r items k s (with_inputs s.controller sm bytes) accepted are there
    (mapping_inputs s.controller sm bytes is none)

pub links_accepted : (r : RingState) (links : Links) (items : List ItemRecord) → IsAccepted r.slaves items
    → IsAccepted (record r { links = links }).slaves items
links_accepted r links items accepted = accepted

-- ---- items that begin a round

-- an item with another counter, and another ADP or not
asks_adp : (b : Bool) (r : ItemRecord) (n m : ℕ)
    → AsksTheSame r (cond b (record r { counter = n; adp = m }) (record r { counter = n }))
asks_adp true r n m = record { kind = refl; address = refl; size = refl }
asks_adp false r n m = record { kind = refl; address = refl; size = refl }

is_adp : (b : Bool) (r : ItemRecord) (n m : ℕ) → IsItem r → n < 2 ^ 16 → m < 2 ^ 16
    → IsItem (cond b (record r { counter = n; adp = m }) (record r { counter = n }))
is_adp true r n m is few low = record { good = is.good; address = is.address; counter = few; adp = low }
is_adp false r n m is few low = record { good = is.good; address = is.address; counter = few; adp = is.adp }

asks_rewound : (items : List ItemRecord) → AskTheSame items (map rewound items)
asks_rewound [] = tt
asks_rewound (r ∷ rs) = (asks_adp (is_broadcast r.kind) r 0 0, asks_rewound rs)

are_rewound : (items : List ItemRecord) → AllByRecursion IsItem items → AllByRecursion IsItem (map rewound items)
are_rewound [] are = tt
are_rewound (r ∷ rs) are =
    (is_adp (is_broadcast r.kind) r 0 0 are.0 (omega arith) (omega arith), are_rewound rs are.1)

asks_begun : (round : ℕ) (items : List ItemRecord) → AskTheSame items (map (begun round) items)
asks_begun round [] = tt
asks_begun round (r ∷ rs) =
    (asks_adp (is_broadcast r.kind) r (round_counter round) 0, asks_begun round rs)

are_begun : (round : ℕ) (items : List ItemRecord) → AllByRecursion IsItem items
    → AllByRecursion IsItem (map (begun round) items)
are_begun round [] are = tt
are_begun round (r ∷ rs) are =
    let few : round_counter round < 2 ^ 16 = omega arith in
    (is_adp (is_broadcast r.kind) r (round_counter round) 0 are.0 few (omega arith), are_begun round rs are.1)

asked_accepted : (slaves : List SlaveState) (items others : List ItemRecord) → AskTheSame items others
    → IsAccepted slaves items → IsAccepted slaves others
asked_accepted slaves items others asks accepted =
    accepted_by_mapping slaves slaves items others accepted asks refl accepted.are

all_asked : (line : List ControllerState) (items others : List ItemRecord) → AllByRecursion IsItem items
    → AllByRecursion IsItem others → AskTheSame items others
    → map (expected_of line) others ≡ map (expected_of line) items
all_asked line [] [] are also asks = refl
all_asked line [] (s ∷ ss) are also asks = absurd asks
all_asked line (r ∷ rs) [] are also asks = absurd asks
all_asked line (r ∷ rs) (s ∷ ss) are also asks =
    (λ i. expected_asked r s line are.0 also.0 asks.0 i ∷ all_asked line rs ss are.1 also.1 asks.1 i)

pub rewound_accepted : (slaves : List SlaveState) (items : List ItemRecord) → IsAccepted slaves items
    → IsAccepted slaves (map rewound items)
rewound_accepted slaves items accepted =
    asked_accepted slaves items (map rewound items) (asks_rewound items) accepted

pub begun_accepted : (slaves : List SlaveState) (items : List ItemRecord) (round : ℕ) → IsAccepted slaves items
    → IsAccepted slaves (map (begun round) items)
begun_accepted slaves items round accepted =
    asked_accepted slaves items (map (begun round) items) (asks_begun round items) accepted

pub rewound_expected : (slaves : List SlaveState) (items : List ItemRecord) → AllByRecursion IsItem items
    → map (expected_of (controllers slaves)) (map rewound items) ≡ map (expected_of (controllers slaves)) items
rewound_expected slaves items are =
    all_asked (controllers slaves) items (map rewound items) are (are_rewound items are) (asks_rewound items)

pub begun_expected : (slaves : List SlaveState) (items : List ItemRecord) (round : ℕ)
    → AllByRecursion IsItem items
    → map (expected_of (controllers slaves)) (map (begun round) items)
    ≡ map (expected_of (controllers slaves)) items
begun_expected slaves items round are =
    all_asked (controllers slaves) items (map (begun round) items) are (are_begun round items are)
    (asks_begun round items)
