-- A ring whose slaves are set up as a line is told meets the certificate of the work.
use Rattle.std.proofs.Common.{◌≡◌, ◌≤◌, ℕ, List, [], ◌∷◌, length, sym, ◌∙◌, arith}
use Rattle.std.specs.List.{AllByRecursion}
use Rattle.ec_esc.specs.State.{IsController}
use Rattle.ec_app.specs.State.{SlaveState}
use Rattle.ec_line.specs.Mapping.{mapping}
use Rattle.ec_check.specs.Line.{controllers}
use Rattle.ec_map.specs.Item.{IsItem, ItemRecord}
use Rattle.ec_ring.specs.Ring.{RingState}
use Rattle.ec_ring.specs.declared.links.Links.{Links}
use Rattle.ec_ring.specs.declared.links.TheConstants.{MAX_SLAVES}
use Rattle.ec_run.specs.declared.wanted.Wanted.{Wanted}
use Rattle.ec_over_ring.specs.Fit.{HasMailboxes}
use Rattle.ec_over_ring.specs.Started.{AreWanted, IsSetUp}
use Rattle.ecat_started.specs.Certified.{IsCertified, IsToldOf}
use Rattle.ecat_started.proofs.CertifiedLemmas.{HangsOnMapping, picked_accepted, picked_expected}
use Rattle.ecat_started.proofs.SlaveLemmas.{ArePicked, all_picked}

-- all slaves of the ring have controllers: where one of them is set up, and where there is none
all_controllers : (line : List Wanted) (links : Links) (ss : List SlaveState) → length ss ≡ length line
    → AllByRecursion (IsSetUp (record { slaves = ss; links = links })) line
    → AllByRecursion IsController (controllers ss)
all_controllers [] links [] size set = tt
all_controllers [] links (s ∷ ss) size set = absurd (omega (arith, size))
all_controllers (w ∷ ws) links ss size set = set.0.has.controllers

pub set_up_certified : HangsOnMapping → (slaves : List SlaveState) (line : List Wanted)
    (work : List ItemRecord) (expected : List ℕ) (r : RingState) → IsToldOf slaves line work expected
    → AllByRecursion IsItem work → AreWanted line → length r.slaves ≡ length line
    → length r.slaves ≤ MAX_SLAVES → AllByRecursion (IsSetUp r) line → AllByRecursion (HasMailboxes r) line
    → IsCertified r work expected
set_up_certified laws slaves line work expected r told each wanted size limit set boxes =
    let picks : ArePicked (mapping (controllers slaves)) r.slaves =
    all_picked line slaves r told.told told.accepted.are wanted size set boxes in
    record {
      limit = limit;
      accepted =
          picked_accepted laws slaves r.slaves work picks (all_controllers line r.links r.slaves size set)
          told.accepted;
      expects = told.expects ∙ sym (picked_expected laws slaves r.slaves work picks each told.accepted);
    }
