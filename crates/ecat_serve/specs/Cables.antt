-- Which link of the simulated line a cable at one of its ends is, and which change of it is seen.
use Rattle.std.specs.Prelude.{ℕ, Bool, true, false, Option, None, Some, length}
use Rattle.ec_ring.specs.declared.port.Port.{Port}
use Rattle.ec_ring.specs.declared.port.Port.TheVariants.{A, B}
use Rattle.ecat_serve.specs.State.{ServedState}
use Rattle.ecat_serve.specs.declared.cables.Cable.{Cable}
use Rattle.ecat_serve.specs.declared.cables.Seen.{Seen}

-- link 0 lies before the first slave, and link n behind the last one of n
abbrev pub link_at : ServedState → Port → ℕ
link_at line A = 0
link_at line B = length line.ring.slaves

-- how the cable at an end was seen last
abbrev pub plugged_at : Seen → Port → Bool
plugged_at cables A = cables.a
plugged_at cables B = cables.b

-- a cable that is as it was seen last has not changed
abbrev pub change : Port → (was_plugged is_plugged : Bool) → Option Cable
change at true true = None
change at false false = None
change at true false = Some (record { at = at; is_plugged = false })
change at false true = Some (record { at = at; is_plugged = true })

abbrev pub seen : Seen → Port → Bool → Option Cable
seen cables at plugged = change at (plugged_at cables at) plugged

-- how they were seen last once one was looked at
abbrev pub last_seen : Seen → Port → Bool → Seen
last_seen cables A plugged = record cables { a = plugged }
last_seen cables B plugged = record cables { b = plugged }
