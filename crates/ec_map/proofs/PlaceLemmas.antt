-- Where an addressed item may go.
use Rattle.std.proofs.Common.{◌≡◌, ⊎_elim, ℕ, ◌<◌, Bool, true, false, List, length, refl, sym, ap, ◌∙◌, arith}
use Rattle.std.specs.List.{list_any}
use Rattle.std.proofs.lemmas.List.Elements.{All-from_get_or}
use Rattle.std.proofs.lemmas.List.Folds.{list_any_at, list_any_none}
use Rattle.std.proofs.lemmas.Bool.{cases_Bool}
use Rattle.ec_regs.specs.declared.registers.TheConstants.{SYNC_MANAGER_COUNT}
use Rattle.ec_regs.specs.declared.sync_man.SyncMan.{SyncMan}
use Rattle.ec_areas.specs.Records.{sync_manager_at, sync_managers_of}
use Rattle.ec_areas.proofs.Laws.{get_or-sync_managers_of, length-sync_managers_of}
use Rattle.ec_esc.specs.State.{ControllerState}
use Rattle.ec_check.specs.declared.fault.MapFault.TheVariants.{TwinStation}
use Rattle.ec_check.specs.Fit.{IsFit}
use Rattle.ec_check.specs.Line.{controller_of, station_of}
use Rattle.ec_map.specs.Item.{ItemRecord}
use Rattle.ec_map.specs.Place.{station_named, ado_named, may_read, may_write, IsFirstOfStation}
use Rattle.ec_map.specs.Place.{IsPlaced}
use Rattle.ec_wire.specs.declared.kind.Kind.TheVariants.{Fprd, Fpwr}
use Rattle.ec_map.specs.declared.place.PlaceFault.TheVariants.{OutsideRead, OutsideWrite}

-- on a fit line each slave is the first of its station
pub IsFirstOfStation-fit : (line : List ControllerState) (station slave : ℕ) → IsFit line
    → slave < length line
    → station_of line slave ≡ station → IsFirstOfStation line station slave
IsFirstOfStation-fit line station slave fit there same = record {
  there = there;
  same = same;
  first = λ k before twin. fit (TwinStation k slave)
      (record { order = before; there = there; same = twin ∙ sym same });
}

-- so a placed read goes where a cycle may read, at the slave of its station
pub may_read-IsPlaced : (line : List ControllerState) (r : ItemRecord) (slave : ℕ) → IsFit line
    → IsPlaced line r → r.kind ≡ Fprd
    → slave < length line → station_of line slave ≡ station_named r
    → may_read (controller_of line slave) (ado_named r) (length r.payload) ≡ true
may_read-IsPlaced line r slave fit placed kind there same =
    ⊎_elim
    (λ (may : may_read (controller_of line slave) (ado_named r) (length r.payload) ≡ true). may)
    (λ (not : may_read (controller_of line slave) (ado_named r) (length r.payload) ≡ false).
    absurd (placed (OutsideRead slave (ado_named r)) (record {
      kind = kind;
      slave_named = IsFirstOfStation-fit line (station_named r) slave fit there same;
      outside = not;
      address_named = refl;
    })))
    (cases_Bool (may_read (controller_of line slave) (ado_named r) (length r.payload)))

-- and a placed write
pub may_write-IsPlaced : (line : List ControllerState) (r : ItemRecord) (slave : ℕ) → IsFit line
    → IsPlaced line r → r.kind ≡ Fpwr
    → slave < length line → station_of line slave ≡ station_named r
    → may_write (controller_of line slave) (ado_named r) (length r.payload) ≡ true
may_write-IsPlaced line r slave fit placed kind there same =
    ⊎_elim
    (λ (may : may_write (controller_of line slave) (ado_named r) (length r.payload) ≡ true). may)
    (λ (not : may_write (controller_of line slave) (ado_named r) (length r.payload) ≡ false).
    absurd (placed (OutsideWrite slave (ado_named r)) (record {
      kind = kind;
      slave_named = IsFirstOfStation-fit line (station_named r) slave fit there same;
      outside = not;
      address_named = refl;
    })))
    (cases_Bool (may_write (controller_of line slave) (ado_named r) (length r.payload)))

-- a sync manager that passes a test is one of those of its memory
pub some_manager : (test : SyncMan → Bool) (memory : List ℕ) (k : ℕ) → k < SYNC_MANAGER_COUNT
    → test (sync_manager_at memory k) ≡ true
    → list_any test (sync_managers_of memory) ≡ true
some_manager test memory k there is =
    list_any_at test (sync_managers_of memory) k (sync_manager_at memory 0)
    (omega (arith, there, length-sync_managers_of memory))
    (ap test (get_or-sync_managers_of memory (sync_manager_at memory 0) k there) ∙ is)

-- where none of the eight passes it, none of them all does
pub no_manager : (test : SyncMan → Bool) (memory : List ℕ)
    → ((n : ℕ) → n < SYNC_MANAGER_COUNT → test (sync_manager_at memory n) ≡ false)
    → list_any test (sync_managers_of memory) ≡ false
no_manager test memory none =
    list_any_none test (sync_managers_of memory)
    (All-from_get_or (λ (s : SyncMan). test s ≡ false) (sync_managers_of memory) (sync_manager_at memory 0)
    (λ i inside.
    let there : i < SYNC_MANAGER_COUNT = omega (arith, inside, length-sync_managers_of memory) in
    ap test (get_or-sync_managers_of memory (sync_manager_at memory 0) i there) ∙ none i there))
