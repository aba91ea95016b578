-- The applications of the slaves of a scene, slave by slave, and the EEPROMs of those that are devices: those
-- given, or else made of the scene.
use Rattle.std.specs.Prelude.{◌≡◌, ℕ, ◌+◌, ◌==◌, Bool, if◌then◌else◌, List, [], ◌∷◌, ◌++◌, map, find, Option}
use Rattle.std.specs.Prelude.{IfSome, MatchBool, MatchOption, All, slice_get}
use Rattle.ec_applications.specs.State.{ApplicationsState}
use Rattle.ec_applications.specs.declared.application.Application.{Application}
use Rattle.ec_applications.specs.declared.application.Behaviour.{Behaviour}
use Rattle.ec_applications.specs.declared.eeproms.PlacedEeprom.{PlacedEeprom}
use Rattle.ecat_scene.specs.Scene.{SlaveRecord}
use Rattle.ecat_setup.specs.Devices.{IsEepromOf, is_device}

-- what the slave at a place does
abbrev pub placed_at : ℕ → Behaviour → Application
placed_at place b = record { place = place; behaviour = b }

-- what slaves do, the first of them at a place
abbrev pub applications_from : ℕ → List SlaveRecord → List Application
applications_from place [] = []
applications_from place (s ∷ more) = map (placed_at place) s.behaviours ++ applications_from (place + 1) more

-- the places of the devices among them
abbrev pub if_device : ℕ → SlaveRecord → List ℕ
if_device place s = if is_device s.kind then place ∷ [] else []

abbrev pub devices_from : ℕ → List SlaveRecord → List ℕ
devices_from place [] = []
devices_from place (s ∷ more) = if_device place s ++ devices_from (place + 1) more

-- the EEPROM given for a place: the first of them
abbrev pub is_for : ℕ → PlacedEeprom → Bool
is_for place one = one.place == place

abbrev pub given_at : List PlacedEeprom → ℕ → Option PlacedEeprom
given_at given place = find (is_for place) given

-- the device at a place has the one given, or else the one made
abbrev pub IsOwn : List PlacedEeprom → ℕ → SlaveRecord → List ℕ → Type 0
IsOwn given place s eeprom =
    MatchOption (given_at given place) (IsEepromOf place s eeprom) (λ one. eeprom ≡ one.eeprom)

-- behind others a device's own is added, and nothing of any other slave
abbrev pub AddsOwn : List PlacedEeprom → ℕ → SlaveRecord → List PlacedEeprom → List PlacedEeprom → Type 0
AddsOwn given place s old new =
    MatchBool (is_device s.kind)
    ((eeprom : List ℕ) × IsOwn given place s eeprom
    × (new ≡ old ++ record { place = place; eeprom = eeprom } ∷ []))
    (new ≡ old)

-- an EEPROM of the line is that of the slave at its place
abbrev pub IsPlaced : List PlacedEeprom → List SlaveRecord → PlacedEeprom → Type 0
IsPlaced given slaves one = IfSome (slice_get slaves one.place) (λ s. IsOwn given one.place s one.eeprom)

-- the EEPROMs of exactly the devices, in their order
pub record AreEeproms (given : List PlacedEeprom) (slaves : List SlaveRecord) (all : List PlacedEeprom)
    : Type 0 where
  pub devices : map (λ one. one.place) all ≡ devices_from 0 slaves
  pub own : All (IsPlaced given slaves) all

-- applications that have not acted yet
pub record AreApplications (given : List PlacedEeprom) (slaves : List SlaveRecord) (a : ApplicationsState)
    : Type 0 where
  pub all : a.all ≡ applications_from 0 slaves
  pub acted : a.acted ≡ 0
  pub eeproms : AreEeproms given slaves a.eeproms
