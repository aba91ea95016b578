-- The numbered copies of a trip over a line that moves, and what is taken of it.
use Rattle.std.specs.Prelude.{◌≡◌, ◌⊎◌, ℕ, ◌^◌, ◌<◌, if◌then◌else◌, List, None, Some, IfSome}
use Rattle.std.specs.List.{AllByRecursion}
use Rattle.ec_wire.specs.Datagram.{DatagramRecord}
use Rattle.ec_esc.specs.State.{IsController}
use Rattle.ec_line.specs.Answered.{sent_of}
use Rattle.ec_line.specs.Moving.{Visit, when_a, when_b}
use Rattle.ec_line.specs.Trip.{Trip, PassedLine, front_pass, back_pass, circulated}
use Rattle.ec_ring.specs.declared.weather.Came.{Came}
use Rattle.ec_number.specs.Number.{Bears, numbered, number_a, number_b}
use Rattle.ec_seal.specs.Taken.{BearsOneOf}

-- what each copy becomes, and leaves
abbrev pub numbered_copy_a : ℕ → Trip → List Visit → PassedLine
numbered_copy_a n t vs = front_pass t.front (when_a vs) (numbered (number_a n) (sent_of t.entries))

abbrev pub numbered_copy_b : ℕ → Trip → List Visit → PassedLine
numbered_copy_b n t vs =
    let sent = numbered (number_b n) (sent_of t.entries) in
    back_pass t.back (when_b vs) (if t.turned then circulated sent else sent)

-- the copies on their last hop, but for those that do not get there
abbrev pub moving_back : ℕ → Trip → List Visit → Came
moving_back n t vs = record {
  a = if t.lost_a then None else Some (numbered_copy_a n t vs).frame;
  b = if t.lost_b then None else Some (numbered_copy_b n t vs).frame;
}

abbrev pub GoesBackMoving : ℕ → Trip → List Visit → List DatagramRecord → Type 0
GoesBackMoving n t vs copy = ((moving_back n t vs).a ≡ Some copy) ⊎ ((moving_back n t vs).b ≡ Some copy)

-- what was taken on a trip with a number: each bears the number of the port from which it was sent, and if it
-- bears a number of this trip it is one of its two copies; whom these met were controllers
pub record MeetsMoving (n : ℕ) (t : Trip) (vs : List Visit) (taken : Came) : Type 0 where
  pub number : n < 2 ^ 63
  pub at_a : AllByRecursion IsController (when_a vs)
  pub at_b : AllByRecursion IsController (when_b vs)
  pub a : IfSome taken.a (λ (copy : List DatagramRecord).
      (BearsOneOf n copy → GoesBackMoving n t vs copy) × Bears (number_a n) copy)
  pub b : IfSome taken.b (λ (copy : List DatagramRecord).
      (BearsOneOf n copy → GoesBackMoving n t vs copy) × Bears (number_b n) copy)
