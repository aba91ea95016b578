-- One trip more ends in front of a packet; and what is counted adds up behind each packet.
use Rattle.std.proofs.Common.{◌-◌, ◌^◌, inl, inr}
use Rattle.std.proofs.Common.{◌≡◌, ℕ, zero, suc, ◌+◌, false, refl, sym, subst, arith, List}
use Rattle.ec_wire.specs.Datagram.{DatagramRecord}
use Rattle.ecat_trips.specs.Steps.{step}
use Rattle.ecat_trips.specs.declared.marks.Marks.{Marks}
use Rattle.ecat_trips.specs.declared.packet.Outline.{Outline}
use Rattle.ecat_trips.specs.declared.trips.Fate.{Fate}
use Rattle.ecat_trips.specs.declared.trips.Fate.TheVariants.{Begins, Replaces, Second, Back, Closes, Late}
use Rattle.ecat_trips.specs.declared.trips.Fate.TheVariants.{Stray}
use Rattle.ecat_trips.specs.declared.trips.Step.{Step}
use Rattle.ecat_trips.specs.declared.trips.Step.TheVariants.{Ended, Taken}
use Rattle.ecat_replay.specs.Comparing.{AddsUp, ComparisonState}
use Rattle.ecat_replay.specs.Replaying.{EndInFront, Follows, FollowsFate, Happens, IsTaken, ReplayState}
use Rattle.ecat_replay.specs.Replaying.{Takes, is_taken}
use Rattle.ecat_replay.proofs.ComparingLemmas.{trip_adds}

pub none_ended : (m : Marks) (packet : Outline) (frame : List DatagramRecord) (s : ReplayState)
    → EndInFront 0 m packet frame s s
unfolding EndInFront
none_ended m packet frame s = refl

pub one_ended : (n : ℕ) (m : Marks) (packet : Outline) (frame : List DatagramRecord)
    (before between later : ReplayState) → EndInFront n m packet frame before between
    → is_taken (step m packet frame between.trips).step ≡ false → Happens m packet frame between later
    → EndInFront (n + 1) m packet frame before later
unfolding EndInFront
one_ended n m packet frame before between later front waits happens =
    let e : suc n ≡ n + 1 = omega arith in
    subst (λ (k : ℕ). EndInFront k m packet frame before later) e (between, front, waits, happens)

-- ---- sums

fate_adds : (fate : Fate) (before later : ComparisonState) → FollowsFate fate before later → AddsUp before
    → AddsUp later
fate_adds Begins before later is adds = subst AddsUp (sym is) adds
fate_adds (Replaces trip) before later is adds = trip_adds trip before later is adds
fate_adds (Second began) before later is adds = subst AddsUp (sym is) adds
fate_adds (Back began) before later is adds = subst AddsUp (sym is) adds
fate_adds (Closes trip) before later is adds = trip_adds trip before later is adds
fate_adds Late before later is adds = subst AddsUp (sym is)
    (record { frames = adds.frames; datagrams = adds.datagrams; found = adds.found })
fate_adds Stray before later is adds = subst AddsUp (sym is)
    (record { frames = adds.frames; datagrams = adds.datagrams; found = adds.found })

step_adds : (happened : Step) (before later : ComparisonState) → Follows happened before later
    → AddsUp before → AddsUp later
step_adds (Ended trip) before later is adds = trip_adds trip before later is adds
step_adds (Taken told fate) before later is adds = fate_adds fate before later is adds

happens_adds : (m : Marks) (packet : Outline) (frame : List DatagramRecord) (before later : ReplayState)
    → Happens m packet frame before later → AddsUp before.comparison → AddsUp later.comparison
happens_adds m packet frame before later is adds =
    step_adds (step m packet frame before.trips).step before.comparison later.comparison is.follows adds

front_adds : (n : ℕ) (m : Marks) (packet : Outline) (frame : List DatagramRecord)
    (before later : ReplayState) → EndInFront n m packet frame before later → AddsUp before.comparison
    → AddsUp later.comparison
unfolding EndInFront
front_adds zero m packet frame before later is adds =
    subst (λ (s : ReplayState). AddsUp s.comparison) (sym is) adds
front_adds (suc n) m packet frame before later is adds =
    happens_adds m packet frame is.0 later is.3 (front_adds n m packet frame before is.0 is.1 adds)

-- behind a packet what is counted adds up, if it did before
taken_adds : (m : Marks) (packet : Outline) (frame : List DatagramRecord) (before later : ReplayState)
    → IsTaken m packet frame before later → AddsUp before.comparison → AddsUp later.comparison
taken_adds m packet frame before later is adds =
    happens_adds m packet frame is.between later is.happens
    (front_adds is.ended m packet frame before is.between is.front adds)

pub takes_add : (m : Marks) (packet : Outline) (frame : List DatagramRecord) (before later : ReplayState)
    → Takes m packet frame before later → AddsUp before.comparison → AddsUp later.comparison
takes_add m packet frame before later (inl is) adds = taken_adds m packet frame before later is adds
takes_add m packet frame before later (inr front) adds =
    front_adds (2 ^ 64 - 1) m packet frame before later front adds
