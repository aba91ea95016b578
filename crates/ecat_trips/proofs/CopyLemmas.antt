-- A measure of all copies of a trip, with one more of them.
use Rattle.std.proofs.Common.{◌≡◌, ℕ, ◌+◌, Option, None, Some, List, refl, ap, arith}
use Rattle.ec_wire.specs.Datagram.{DatagramRecord}
use Rattle.ecat_trips.specs.declared.packet.Outline.{Outline}
use Rattle.ecat_trips.specs.declared.trip.Trip.{Trip}
use Rattle.ecat_trips.specs.Trip.{begun, with_second, with_return, with_return_by}
use Rattle.ecat_trips.specs.Runs.{of_some, of_copies}

module _ (w : Outline → ℕ) (p : Outline) where
  pub of_copies-begun : (frame : List DatagramRecord) → of_copies w (begun p frame) ≡ w p
  unfolding of_copies
  of_copies-begun frame = omega arith

  pub of_copies-second : (t : Trip) → t.second ≡ None
      → of_copies w (with_second p t) ≡ of_copies w t + w p
  unfolding of_copies
  of_copies-second t e =
      let none : of_some w t.second ≡ 0 = ap (of_some w) e in omega (arith, none)

  pub of_copies-return : (frame : List DatagramRecord) (t : Trip) → t.again ≡ None
      → of_copies w (with_return p frame t) ≡ of_copies w t + w p
  unfolding of_copies
  of_copies-return frame t e = by t.back refl
    where
      by : (b : Option Outline) → t.back ≡ b → of_copies w (with_return_by b p frame t) ≡ of_copies w t + w p
      by None h =
          let none : of_some w t.back ≡ 0 = ap (of_some w) h in omega (arith, none)
      by (Some q) h =
          let none : of_some w t.again ≡ 0 = ap (of_some w) e in omega (arith, none)
