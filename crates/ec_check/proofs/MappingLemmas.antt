-- Lines with one mapping break the same rules.
use Rattle.std.proofs.Common.{◌≡◌, inl, inr, ℕ, ◌<◌, true, sym, subst, ◌∙◌, ap, arith}
use Rattle.std.proofs.Common.{List, length, get_or}
use Rattle.std.proofs.Math.ListN.{get_or-map}
use Rattle.std.proofs.lemmas.List.{length-map}
use Rattle.ec_regs.specs.Pairs.{is_switched_on, reads, writes}
use Rattle.ec_regs.specs.SyncMan.{is_active}
use Rattle.ec_regs.specs.declared.fmmu.Fmmu.{Fmmu}
use Rattle.ec_regs.specs.declared.sync_man.SyncMan.{SyncMan}
use Rattle.ec_areas.specs.Records.{fmmu_at}
use Rattle.ec_areas.proofs.Laws.{get_or-fmmus_of}
use Rattle.ec_esc.specs.State.{ControllerState}
use Rattle.ec_line.specs.Mapping.{without_status, Mapping, mapping_of, mapping}
use Rattle.ec_line.proofs.Laws.{manager_by_mapping}
use Rattle.ec_check.specs.Fit.{Breaks, IsFit}
use Rattle.ec_check.specs.Line.{controller_of, no_controller, station_of, fmmu_of, sync_manager_of, HasFmmu}
use Rattle.ec_check.specs.Rules.{MapsLogical, MapsPhysical, ReadsLogical, WritesLogical, WritesPhysical}
use Rattle.ec_check.specs.Rules.{IsGoodFmmu, IsInArea, Area}
use Rattle.ec_check.specs.Rules.{HoldsAllOf, suits, IsAreaFor}
use Rattle.ec_check.specs.Rules.{LeavesAreasAt, IsOutsideArea}
use Rattle.ec_check.specs.declared.fault.MapFault.{MapFault}
use Rattle.ec_check.specs.declared.fault.MapFault.TheVariants.{TwinStation, BadFmmu, AreasMeet, OutsideArea}
use Rattle.ec_check.specs.declared.fault.MapFault.TheVariants.{TwiceWritten, TwiceRead, ReadAndWritten}

-- ---- what is the same of two lines with one mapping

pub same_length : (line later : List ControllerState) → mapping later ≡ mapping line → length later ≡ length line
same_length line later alike =
    sym (length-map later mapping_of) ∙ ap (λ (ms : List Mapping). length ms) alike ∙ length-map line mapping_of

-- of a slave that is not there too
pub same_mapping : (line later : List ControllerState) (slave : ℕ) → mapping later ≡ mapping line
    → mapping_of (controller_of later slave) ≡ mapping_of (controller_of line slave)
same_mapping line later slave alike =
    sym (get_or-map mapping_of later slave no_controller)
    ∙ ap (λ (ms : List Mapping). get_or ms slave (mapping_of no_controller)) alike
    ∙ get_or-map mapping_of line slave no_controller

pub same_station : (line later : List ControllerState) (slave : ℕ) → mapping later ≡ mapping line
    → station_of later slave ≡ station_of line slave
unfolding station_of mapping_of
same_station line later slave alike = ap (λ (m : Mapping). m.station) (same_mapping line later slave alike)

same_fmmu : (line later : List ControllerState) (slave number : ℕ) → mapping later ≡ mapping line → number < 8
    → fmmu_of later slave number ≡ fmmu_of line slave number
unfolding fmmu_of mapping_of
same_fmmu line later slave number alike below =
    let before : List ℕ = (controller_of line slave).memory in
    let after : List ℕ = (controller_of later slave).memory in
    let d : Fmmu = fmmu_at before number in
    sym (get_or-fmmus_of after d number below)
    ∙ ap (λ (m : Mapping). get_or m.fmmus number d) (same_mapping line later slave alike)
    ∙ get_or-fmmus_of before d number below

same_manager : (line later : List ControllerState) (slave number : ℕ) → mapping later ≡ mapping line
    → number < 8
    → without_status (sync_manager_of later slave number) ≡ without_status (sync_manager_of line slave number)
unfolding sync_manager_of
same_manager line later slave number alike below =
    manager_by_mapping (controller_of line slave) (controller_of later slave) number
    (same_mapping line later slave alike) below

-- ---- the status byte plays no part

in_area : (s t : SyncMan) (address : ℕ) → without_status t ≡ without_status s → IsInArea t address
    → IsInArea s address
unfolding is_active
in_area s t address same inside =
    let start : t.start ≡ s.start = ap (λ (x : SyncMan). x.start) same in
    let size : t.length ≡ s.length = ap (λ (x : SyncMan). x.length) same in
    record {
      active = ap is_active (sym same) ∙ inside.active;
      from = omega (arith, inside.from, start);
      to = omega (arith, inside.to, start, size);
    }

-- ---- each rule

has_fmmu : (line later : List ControllerState) (slave number : ℕ) → mapping later ≡ mapping line
    → HasFmmu later slave number → HasFmmu line slave number
has_fmmu line later slave number alike there = record {
  slave_there = omega (arith, there.slave_there, same_length line later alike);
  number_there = there.number_there;
}

reads_logical : (line later : List ControllerState) (slave fmmu l : ℕ) → mapping later ≡ mapping line
    → ReadsLogical later slave fmmu l → ReadsLogical line slave fmmu l
reads_logical line later slave fmmu l alike r =
    let same = same_fmmu line later slave fmmu alike r.there.number_there in
    record {
      there = has_fmmu line later slave fmmu alike r.there;
      for_reading = subst (λ (f : Fmmu). reads f ≡ true) same r.for_reading;
      maps = subst (λ (f : Fmmu). MapsLogical f l) same r.maps;
    }

writes_logical : (line later : List ControllerState) (slave fmmu l : ℕ) → mapping later ≡ mapping line
    → WritesLogical later slave fmmu l → WritesLogical line slave fmmu l
writes_logical line later slave fmmu l alike w =
    let same = same_fmmu line later slave fmmu alike w.there.number_there in
    record {
      there = has_fmmu line later slave fmmu alike w.there;
      for_writing = subst (λ (f : Fmmu). writes f ≡ true) same w.for_writing;
      maps = subst (λ (f : Fmmu). MapsLogical f l) same w.maps;
    }

writes_physical : (line later : List ControllerState) (slave fmmu p : ℕ) → mapping later ≡ mapping line
    → WritesPhysical later slave fmmu p → WritesPhysical line slave fmmu p
writes_physical line later slave fmmu p alike w =
    let same = same_fmmu line later slave fmmu alike w.there.number_there in
    record {
      there = has_fmmu line later slave fmmu alike w.there;
      for_writing = subst (λ (f : Fmmu). writes f ≡ true) same w.for_writing;
      maps = subst (λ (f : Fmmu). MapsPhysical f p) same w.maps;
    }

area_for : (line later : List ControllerState) (slave : ℕ) (f : Fmmu) (area : Area)
    → mapping later ≡ mapping line → IsAreaFor later slave f area → IsAreaFor line slave f area
unfolding is_active
area_for line later slave f area alike (inl g) =
    let same = same_manager line later slave g.number alike g.there in
    inl (record {
      number = g.number;
      there = g.there;
      suitable = ap (λ (s : SyncMan). suits s f) (sym same) ∙ g.suitable;
      from = g.from ∙ ap (λ (s : SyncMan). s.start) same;
      to = omega (
        arith,
        g.to,
        ap (λ (s : SyncMan). s.start) same,
        ap (λ (s : SyncMan). s.length) same,
      );
    })
area_for line later slave f area alike (inr status) = inr status

leaves_areas : (line later : List ControllerState) (slave : ℕ) (f : Fmmu) (address : ℕ)
    → mapping later ≡ mapping line → LeavesAreasAt later slave f address → LeavesAreasAt line slave f address
leaves_areas line later slave f address alike (inl none) =
    inl (λ area is. none.0 area (area_for later line slave f area (sym alike) is), none.1)
leaves_areas line later slave f address alike (inr end) =
    inr (record {
      area = end.area;
      suitable = area_for line later slave f end.area alike end.suitable;
      holds = end.holds;
      behind = end.behind;
    })

outside_area : (line later : List ControllerState) (slave fmmu address : ℕ) → mapping later ≡ mapping line
    → IsOutsideArea later slave fmmu address → IsOutsideArea line slave fmmu address
outside_area line later slave fmmu address alike r =
    let was : Fmmu = fmmu_of later slave fmmu in
    let same = same_fmmu line later slave fmmu alike r.there.number_there in
    record {
      there = has_fmmu line later slave fmmu alike r.there;
      some_bit = subst (λ (f : Fmmu). (p : ℕ) × MapsPhysical f p) same r.some_bit;
      outside =
          subst (λ (f : Fmmu). (area : Area) → IsAreaFor line slave f area → ¬ HoldsAllOf area f) same
          (λ area is. r.outside area (area_for later line slave was area (sym alike) is));
      place =
          subst (λ (f : Fmmu). LeavesAreasAt line slave f address) same
          (leaves_areas line later slave was address alike r.place);
    }

-- ---- all rules

breaks : (line later : List ControllerState) (fault : MapFault) → mapping later ≡ mapping line
    → Breaks later fault → Breaks line fault
breaks line later (TwinStation slave other) alike b = record {
  order = b.order;
  there = omega (arith, b.there, same_length line later alike);
  same = sym (same_station line later slave alike) ∙ b.same ∙ same_station line later other alike;
}
breaks line later (BadFmmu slave fmmu) alike b =
    let same = same_fmmu line later slave fmmu alike b.there.number_there in
    record {
      there = has_fmmu line later slave fmmu alike b.there;
      active = subst (λ (f : Fmmu). is_switched_on f ≡ true) same b.active;
      bad = subst (λ (f : Fmmu). ¬ IsGoodFmmu f) same b.bad;
    }
breaks line later (AreasMeet slave number other address) alike b =
    let first_there : number < 8 = omega (arith, b.order, b.number_there) in
    record {
      slave_there = omega (arith, b.slave_there, same_length line later alike);
      order = b.order;
      number_there = b.number_there;
      first = in_area _ _ address (same_manager line later slave number alike first_there) b.first;
      second = in_area _ _ address (same_manager line later slave other alike b.number_there) b.second;
    }
breaks line later (OutsideArea slave fmmu address) alike b = outside_area line later slave fmmu address alike b
breaks line later (TwiceWritten slave fmmu other bit) alike b = record {
  order = b.order;
  first = writes_physical line later slave fmmu bit alike b.first;
  second = writes_physical line later slave other bit alike b.second;
}
breaks line later (TwiceRead slave fmmu other other_fmmu bit) alike b = record {
  order = b.order;
  first = reads_logical line later slave fmmu bit alike b.first;
  second = reads_logical line later other other_fmmu bit alike b.second;
}
breaks line later (ReadAndWritten reader reader_fmmu writer writer_fmmu bit) alike b = record {
  apart = b.apart;
  read = reads_logical line later reader reader_fmmu bit alike b.read;
  written = writes_logical line later writer writer_fmmu bit alike b.written;
}

pub fit_by_mapping : (line later : List ControllerState) → mapping later ≡ mapping line → IsFit line
    → IsFit later
fit_by_mapping line later alike fit fault broken = fit fault (breaks line later fault alike broken)
