-- What a carrier that is one of two does: what that one does.
use Rattle.std.specs.Prelude.{ℕ, Bool, List, Option}
use Rattle.ec_ring.specs.declared.port.Port.{Port}
use Rattle.ecat_remote.specs.Taken.{Gives, Heard}
use Rattle.ecat_remote.specs.Trips.{Speaks}
use Rattle.ecat_reach.specs.declared.carrier.EitherCarrier.{EitherCarrier}
use Rattle.ecat_reach.specs.declared.carrier.EitherCarrier.TheVariants.{First, Second}

-- how many of its sends and receives have failed
abbrev pub failed_of : {A B : Type 0} → (A → ℕ) → (B → ℕ) → EitherCarrier A B → ℕ
failed_of first second (First a) = first a
failed_of first second (Second b) = second b

-- what a receive gives; it stays the one that it is
abbrev pub gives_of : {A B : Type 0} → Gives A → Gives B → Gives (EitherCarrier A B)
gives_of first second (First a) at packet (First later) = first a at packet later
gives_of first second (Second b) at packet (Second later) = second b at packet later
gives_of first second (First a) at packet (Second later) = ⊥
gives_of first second (Second b) at packet (First later) = ⊥

-- how many receives it tells apart
abbrev pub heard_of : {A B : Type 0} → Heard A → Heard B → Heard (EitherCarrier A B)
heard_of first second (First a) = first a
heard_of first second (Second b) = second b

-- which of its ports speak with an end of the line
abbrev pub speaks_of : {A B : Type 0} → Speaks A → Speaks B → Speaks (EitherCarrier A B)
speaks_of first second (First a) at = first a at
speaks_of first second (Second b) at = second b at
