-- What the EEPROM of a slave leaves of a line: the registers of the slave information interface of that slave
-- (ETG.1000.4, slave information interface); behind it the slave gives the last mail once more, where it is
-- asked to.
use Rattle.std.specs.Prelude.{ℕ, List, [], ◌∷◌, Option, None, Some, slice_get}
use Rattle.ec_app.specs.Lending.{with_controller}
use Rattle.ec_app.specs.State.{SlaveState}
use Rattle.ec_ring.specs.Ring.{RingState, with_slave}
use Rattle.ec_sii.specs.Served.{served, contents_served}
use Rattle.ec_applications.specs.Repeats.{repeated}
use Rattle.ec_applications.specs.declared.eeproms.PlacedEeprom.{PlacedEeprom}

abbrev pub slave_served : List ℕ → SlaveState → SlaveState
slave_served contents s = with_controller s (repeated (served contents s.controller))

-- the line, if it has the slave at the place
abbrev pub place_served : ℕ → List ℕ → RingState → Option SlaveState → RingState
place_served place contents r None = r
place_served place contents r (Some s) = with_slave r place (slave_served contents s)

abbrev pub one_served : ℕ → List ℕ → RingState → RingState
one_served place contents r = place_served place contents r (slice_get r.slaves place)

-- the contents
abbrev pub contents_kept : List ℕ → Option SlaveState → List ℕ
contents_kept contents None = contents
contents_kept contents (Some s) = contents_served contents s.controller

abbrev pub placed_after : PlacedEeprom → RingState → PlacedEeprom
placed_after one r = record one { eeprom = contents_kept one.eeprom (slice_get r.slaves one.place) }

-- ---- all of them, one after the other

abbrev pub all_served : List PlacedEeprom → RingState → RingState
all_served [] r = r
all_served (one ∷ more) r = all_served more (one_served one.place one.eeprom r)

abbrev pub all_kept : List PlacedEeprom → RingState → List PlacedEeprom
all_kept [] r = []
all_kept (one ∷ more) r = placed_after one r ∷ all_kept more (one_served one.place one.eeprom r)
