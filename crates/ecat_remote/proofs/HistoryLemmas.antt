-- No trip has the number of an earlier one; and what is taken on a trip came of what was sent on it.
use Rattle.std.specs.Prelude.{◌≡◌, ◌≢◌, ◌⊎◌, ◌+◌, ◌%◌, ◌^◌, ◌<◌, ℕ}
use Rattle.std.specs.Prelude.{List, [], ◌∷◌, ◌++◌, length, Option, None, Some, IfSome}
use Rattle.std.specs.Prelude.{Result, Ok, Err, refl}
use Rattle.std.specs.List.{AllByRecursion}
use Rattle.std.proofs.Common.{arith, ap, subst, ◌∙◌, inl, inr}
use Rattle.ec_wire.specs.Datagram.{DatagramRecord}
use Rattle.ec_esc.specs.State.{ControllerState, IsController}
use Rattle.ec_ring.specs.declared.port.Port.{Port}
use Rattle.ec_ring.specs.declared.port.Port.TheVariants.{A, B}
use Rattle.ec_ring.specs.declared.port.PortFault.{PortFault}
use Rattle.ec_ring.specs.declared.weather.Came.{Came}
use Rattle.ec_ring.specs.declared.weather.Weather.{Weather}
use Rattle.ec_number.specs.Number.{CameUnder, number_a, number_b}
use Rattle.ec_seal.specs.Taken.{Made, IsMade, GoesBack, BearsOneOf, Meets}
use Rattle.ec_seal.proofs.Laws.{frame_counters}
use Rattle.ecat_remote.specs.History.{PastTrip, IsPast, Went}
use Rattle.ecat_remote.specs.Network.{frame_from, frame_if, first_of, by_number, Gave}
use Rattle.ecat_remote.specs.Taken.{Gives, Heard, AreBoth, IsCopyOfTrip, number_from, sent_from, sought}
use Rattle.ecat_remote.specs.Trips.{RemoteState, RemoteTrips, IsTurn}
use Rattle.ecat_remote.specs.declared.copies.NumberedCopy.{NumberedCopy}
use Rattle.ecat_remote.specs.declared.enough.Both.{Both}

-- ---- trips of the past

-- so many trips later the number is so much greater
went_next : {C : Type 0} (before later : RemoteState C) (ps : List PastTrip) → before.next < 2 ^ 63
    → Went before ps later → later.next ≡ (before.next + length ps) % 2 ^ 63
went_next before later [] below went = ap (λ (s : RemoteState _). s.next) went ∙ omega (arith, below)
went_next {C} before later (p ∷ ps) below went =
    let between : RemoteState C = went.0 in
    let next : between.next ≡ (before.next + 1) % 2 ^ 63 = went.1.turn.next in
    let rest : later.next ≡ (between.next + length ps) % 2 ^ 63 =
    went_next between later ps (omega (arith, next)) went.2 in
    omega (arith, next, rest)

-- no trip of the past has the next number
pub fresh : {C : Type 0} (first before : RemoteState C) (past : List PastTrip) → length past < 2 ^ 63
    → Went first past before → AllByRecursion (λ (p : PastTrip). p.number ≢ before.next) past
fresh first before [] few went = tt
fresh {C} first before (p ∷ ps) few went =
    let between : RemoteState C = went.0 in
    let is : IsPast first p between = went.1 in
    let next : between.next ≡ (first.next + 1) % 2 ^ 63 = is.turn.next in
    let now : before.next ≡ (between.next + length ps) % 2 ^ 63 =
    went_next between before ps (omega (arith, next)) went.2 in (
      λ same. omega (arith, few, is.turn.below, is.number, next, now, same),
      fresh between before ps (omega (arith, few)) went.2,
    )

-- ---- histories

-- a trip of the ports is one of the past behind it, unless nothing has changed
pub is_trip : {C : Type 0} (gives : Gives C) (heard : Heard C) (before later : RemoteState C)
    (sent : List DatagramRecord) (came : Result Came PortFault)
    → RemoteTrips gives heard before sent came later
    → (later ≡ before) ⊎ IsPast before (record { number = before.next; frame = sent }) later
is_trip gives heard before later sent (Ok copies) (inl refused) = inl refused.same
is_trip gives heard before later sent (Ok copies) (inr trip) = inr (record { number = refl; turn = trip.turn })
is_trip gives heard before later sent (Err failed) turn = inr (record { number = refl; turn = turn })

-- trips, and then more of them
pub went_on : {C : Type 0} (first before later : RemoteState C) (past more : List PastTrip)
    → Went first past before → Went before more later → Went first (past ++ more) later
went_on first before later [] more went on =
    subst (λ (s : RemoteState _). Went s more later) went on
went_on first before later (p ∷ past) more went on =
    (went.0, went.1, went_on went.0 before later past more went.2 on)

-- ---- what goes out

-- what goes out on a trip, over some line, is a trip that was made
pub made_now : {C : Type 0} (before later : RemoteState C) (sent : List DatagramRecord) (w : Weather)
    (line : List ControllerState) → AllByRecursion IsController line → IsTurn before sent later
    → IsMade (record { number = before.next; frame = sent; weather = w; line = line })
made_now before later sent w line are turn =
    record { number = turn.below; counters = frame_counters sent turn.frame; line = are }

-- ---- what was taken came of what was sent

-- of a copy that was sent from a port
frame_came : (n : ℕ) (sent : List DatagramRecord) (from port : Port) (frame : List DatagramRecord)
    → CameUnder (number_from n port) sent frame
    → IfSome (frame_from from port frame) (CameUnder (number_from n from) sent)
frame_came n sent A A frame came = came
frame_came n sent A B frame came = tt
frame_came n sent B A frame came = tt
frame_came n sent B B frame came = came

came_if : (n : ℕ) (sent : List DatagramRecord) (already : Option Port) (packet : Option (List ℕ))
    (from : Port) (copy : Option NumberedCopy) → IsCopyOfTrip (sought n sent already) packet copy
    → IfSome (frame_if from copy) (CameUnder (number_from n from) sent)
came_if n sent already packet from None is = tt
came_if n sent already None from (Some copy) is = absurd (let no : Some copy ≡ None = is in cc)
came_if n sent already (Some packet) from (Some copy) is =
    frame_came n sent from copy.from copy.frame is.is.came

came_first : (P : List DatagramRecord → Type 0) (x y : Option (List DatagramRecord)) → IfSome x P
    → IfSome y P → IfSome (first_of x y) P
came_first P None y first second = second
came_first P (Some x) y first second = first

pub came_by_number : {C : Type 0} (gives : Gives C) (heard : Heard C) (since n : ℕ) (sent : List DatagramRecord)
    (both : Both) (later : C) (from : Port) → AreBoth gives heard since n sent both later
    → IfSome (first_of (frame_if from both.a) (frame_if from both.b))
    (CameUnder (number_from n from) sent)
came_by_number gives heard since n sent both later from are =
    came_first (CameUnder (number_from n from) sent) (frame_if from both.a) (frame_if from both.b)
    (came_if n sent (sent_from both.b) are.a.packet from both.a are.a.is)
    (came_if n sent (sent_from both.a) are.b.packet from both.b are.b.is)

pub with_both : (P Q : List DatagramRecord → Type 0) (taken : Option (List DatagramRecord)) → IfSome taken P
    → IfSome taken Q → IfSome taken (λ (copy : List DatagramRecord). P copy × Q copy)
with_both P Q None p q = tt
with_both P Q (Some copy) p q = (p, q)

-- ---- so what was taken is the trip's own

pub meets : {C : Type 0} (gives : Gives C) (heard : Heard C) (before later : RemoteState C)
    (sent : List DatagramRecord) (both : Both) (w : Weather) (line : List ControllerState)
    → AllByRecursion IsController line → IsTurn before sent later
    → AreBoth gives heard (heard before.carrier) before.next sent both later.carrier
    → Gave (record { number = before.next; frame = sent; weather = w; line = line }) (by_number both)
    → Meets (record { number = before.next; frame = sent; weather = w; line = line }) (by_number both)
meets gives heard before later sent both w line controllers turn are gave =
    let n : ℕ = before.next in
    let m : Made = record { number = n; frame = sent; weather = w; line = line } in
    let P : List DatagramRecord → Type 0 = λ copy. BearsOneOf n copy → GoesBack m copy in
    let since : ℕ = heard before.carrier in
    record {
      made = made_now before later sent w line controllers turn;
      a = with_both P (CameUnder (number_a n) sent) (by_number both).a gave.a
          (came_by_number gives heard since n sent both later.carrier A are);
      b = with_both P (CameUnder (number_b n) sent) (by_number both).b gave.b
          (came_by_number gives heard since n sent both later.carrier B are);
    }
