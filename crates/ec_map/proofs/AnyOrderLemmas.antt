-- Whether an item is placed on a fit line does not hang on the order of its slaves.
use Rattle.std.proofs.Common.{◌≡◌, ℕ, ◌<◌, List, length, sym, ◌∙◌, ap}
use Rattle.std.specs.List.Sorted.{IsPermutation}
use Rattle.ec_esc.specs.State.{ControllerState, word_at}
use Rattle.ec_regs.specs.declared.registers.TheConstants.{STATION_ADDRESS}
use Rattle.ec_check.specs.Fit.{IsFit}
use Rattle.ec_check.specs.Line.{controller_of, no_controller, station_of}
use Rattle.ec_check.proofs.Laws.{stood_before}
use Rattle.ec_map.specs.Item.{ItemRecord}
use Rattle.ec_map.specs.Place.{station_named, ado_named, may_read, may_write, IsFirstOfStation, IsPlaceFault}
use Rattle.ec_map.specs.Place.{IsPlaced}
use Rattle.ec_map.specs.declared.place.PlaceFault.{PlaceFault}
use Rattle.ec_map.specs.declared.place.PlaceFault.TheVariants.{OutsideRead, OutsideWrite}
use Rattle.ec_map.proofs.PlaceLemmas.{IsFirstOfStation-fit}

-- the slave that is named stands in the line before, where it is the first of its station
first_before : (line later : List ControllerState) (station slave k : ℕ) → IsFit line → k < length line
    → controller_of later slave ≡ controller_of line k → IsFirstOfStation later station slave
    → IsFirstOfStation line station k
unfolding station_of
first_before line later station slave k fit there same first =
    IsFirstOfStation-fit line station k fit there
    (ap (λ (c : ControllerState). word_at c.memory STATION_ADDRESS) (sym same) ∙ first.same)

placed_before : (line later : List ControllerState) (r : ItemRecord) → IsPermutation line later → IsFit line
    → IsPlaced line r → (fault : PlaceFault) → IsPlaceFault later r fault → ⊥
placed_before line later r order fit placed (OutsideRead slave address) is =
    let found = stood_before line later slave no_controller order is.slave_named.there in
    placed (OutsideRead found.0 address) (record {
      kind = is.kind;
      slave_named =
          first_before line later (station_named r) slave found.0 fit found.1 found.2 is.slave_named;
      outside =
          ap (λ (c : ControllerState). may_read c (ado_named r) (length r.payload)) (sym found.2) ∙ is.outside;
      address_named = is.address_named;
    })
placed_before line later r order fit placed (OutsideWrite slave address) is =
    let found = stood_before line later slave no_controller order is.slave_named.there in
    placed (OutsideWrite found.0 address) (record {
      kind = is.kind;
      slave_named =
          first_before line later (station_named r) slave found.0 fit found.1 found.2 is.slave_named;
      outside =
          ap (λ (c : ControllerState). may_write c (ado_named r) (length r.payload)) (sym found.2) ∙ is.outside;
      address_named = is.address_named;
    })

pub placed_in_any_order : (line later : List ControllerState) (r : ItemRecord) → IsPermutation line later
    → IsFit line → IsPlaced line r → IsPlaced later r
placed_in_any_order line later r order fit placed fault is = placed_before line later r order fit placed fault is
