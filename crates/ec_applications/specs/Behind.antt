-- What is left behind a step of a line's slaves: each application has acted, and then each EEPROM has
-- answered, behind which its slave gives the last mail once more, where it is asked to.
use Rattle.ec_ring.specs.Ring.{RingState}
use Rattle.ec_applications.specs.Acting.{acted}
use Rattle.ec_applications.specs.Eeproms.{all_served, all_kept}
use Rattle.ec_applications.specs.State.{ApplicationsState, once_more}

-- the line once the applications have acted
abbrev pub line_acted : ApplicationsState → RingState → RingState
line_acted s r = acted (once_more s).acted s.all r

-- the line then
abbrev pub line_behind : ApplicationsState → RingState → RingState
line_behind s r = all_served s.eeproms (line_acted s r)

-- and the applications
abbrev pub applications_behind : ApplicationsState → RingState → ApplicationsState
applications_behind s r = record (once_more s) { eeproms = all_kept s.eeproms (line_acted s r) }
