-- What was taken at one port stays so while the other one is looked at.
use Rattle.std.specs.Prelude.{◌≡◌, ◌≢◌, ◌≤◌, ℕ, List, Option, None, Some, IfSome, refl}
use Rattle.std.proofs.Common.{arith, ap, sym, subst, ◌∙◌}
use Rattle.ec_wire.specs.Datagram.{DatagramRecord}
use Rattle.ec_ring.specs.declared.port.Port.{Port}
use Rattle.ec_ring.specs.declared.port.Port.TheVariants.{A, B}
use Rattle.ecat_remote.specs.Taken.{Gives, Heard, IsTaken, IsCopyOfTrip, AreBoth, AreSoFar, Sought}
use Rattle.ecat_remote.specs.Taken.{sent_from, sought}
use Rattle.ecat_remote.specs.declared.copies.NumberedCopy.{NumberedCopy}

-- what was taken was taken still when more was received
pub later_on : {C : Type 0} (gives : Gives C) (heard : Heard C) (first since : ℕ) (at : Port) (what : Sought)
    (copy : Option NumberedCopy) (later last : C) → first ≤ since → heard later ≤ heard last
    → IsTaken gives heard since at what copy later → IsTaken gives heard first at what copy last
later_on gives heard first since at what copy later last sooner on is = record {
  before = is.before;
  behind = is.behind;
  packet = is.packet;
  gave = is.gave;
  in_time = let in_time : since ≤ heard is.before = is.in_time in omega (arith, in_time);
  by_then = let by_then : heard is.behind ≤ heard later = is.by_then in omega (arith, by_then);
  is = is.is;
}

-- a copy that is taken is another one than that which was taken already
pub another : (what : Sought) (packet : Option (List ℕ)) (copy : NumberedCopy)
    → IsCopyOfTrip what packet (Some copy) → what.already ≢ Some copy.from
another what None copy is = absurd (let no : Some copy ≡ None = is in cc)
another what (Some packet) copy is = is.another

-- a copy that was taken when none was is one beside another that is taken behind it
copy_beside : (trip : ℕ) (sent : List DatagramRecord) (packet : Option (List ℕ)) (copy : Option NumberedCopy)
    (other : Option Port) → ((c : NumberedCopy) → copy ≡ Some c → other ≢ Some c.from)
    → IsCopyOfTrip (sought trip sent None) packet copy → IsCopyOfTrip (sought trip sent other) packet copy
copy_beside trip sent None copy other apart is = is
copy_beside trip sent (Some packet) (Some copy) other apart is =
    record { another = apart copy refl; is = is.is }
copy_beside trip sent (Some packet) None other apart is =
    λ from copy one. is from copy (record { another = λ same. cc; is = one.is })

beside : {C : Type 0} (gives : Gives C) (heard : Heard C) (since : ℕ) (at : Port) (trip : ℕ)
    (sent : List DatagramRecord) (copy : Option NumberedCopy) (other : Option Port) (later : C)
    → ((c : NumberedCopy) → copy ≡ Some c → other ≢ Some c.from)
    → IsTaken gives heard since at (sought trip sent None) copy later
    → IsTaken gives heard since at (sought trip sent other) copy later
beside gives heard since at trip sent copy other later apart is = record {
  before = is.before;
  behind = is.behind;
  packet = is.packet;
  gave = is.gave;
  in_time = is.in_time;
  by_then = is.by_then;
  is = copy_beside trip sent is.packet copy other apart is.is;
}

-- the one that was taken behind a copy came of another port
apart_from : {C : Type 0} (gives : Gives C) (heard : Heard C) (since : ℕ) (at : Port) (trip : ℕ)
    (sent : List DatagramRecord) (copy : Option NumberedCopy) (other : NumberedCopy) (later : C)
    → IsTaken gives heard since at (sought trip sent (sent_from copy)) (Some other) later
    → (c : NumberedCopy) → copy ≡ Some c → Some other.from ≢ Some c.from
apart_from gives heard since at trip sent None other later is c same = absurd cc
apart_from gives heard since at trip sent (Some copy) other later is c same =
    let no : Some copy.from ≢ Some other.from =
    another (sought trip sent (Some copy.from)) is.packet other is.is in
    λ e. no (let one : copy ≡ c = cc in ap (λ (x : NumberedCopy). Some x.from) one ∙ sym e)

-- ---- what was taken at both ports

-- a copy that came at a port is the one that is there later
abbrev Stays : Option NumberedCopy → Option NumberedCopy → Type 0
Stays copy later = IfSome copy (λ (came : NumberedCopy). later ≡ Some came)

-- a copy that came at a port was taken there, beside what came at the other one
abbrev OneTaken : {C : Type 0} → Gives C → Heard C → ℕ → Port → ℕ → List DatagramRecord → Option NumberedCopy
    → Option NumberedCopy → C → Type 0
OneTaken gives heard since at trip sent other copy later =
    IfSome copy (λ (came : NumberedCopy).
    IsTaken gives heard since at (sought trip sent (sent_from other)) (Some came) later)

-- what was taken at a port was taken beside what came at the other one behind it
beside_later : {C : Type 0} (gives : Gives C) (heard : Heard C) (since : ℕ) (at to : Port) (trip : ℕ)
    (sent : List DatagramRecord) (copy other later : Option NumberedCopy) (behind last : C)
    → heard behind ≤ heard last → Stays other later
    → (other ≡ None → OneTaken gives heard since to trip sent copy later last)
    → IsTaken gives heard since at (sought trip sent (sent_from other)) copy behind
    → IsTaken gives heard since at (sought trip sent (sent_from later)) copy last
beside_later gives heard since at to trip sent copy None None behind last on kept came is =
    later_on gives heard since since at (sought trip sent None) copy behind last (omega arith) on is
beside_later gives heard since at to trip sent copy None (Some found) behind last on kept came is =
    beside gives heard since at trip sent copy (Some found.from) last
    (apart_from gives heard since to trip sent copy found last (came refl))
    (later_on gives heard since since at (sought trip sent None) copy behind last (omega arith) on is)
beside_later gives heard since at to trip sent copy (Some other) later behind last on kept came is =
    subst
    (λ (o : Option NumberedCopy). IsTaken gives heard since at (sought trip sent (sent_from o)) copy last)
    (sym kept)
    (later_on gives heard since since at (sought trip sent (Some other.from)) copy behind last (omega arith)
    on is)

-- what is at the port that was received at
mine : {C : Type 0} (gives : Gives C) (heard : Heard C) (first since : ℕ) (at : Port) (trip : ℕ)
    (sent : List DatagramRecord) (copy later other : Option NumberedCopy) (behind last : C)
    → first ≤ since → heard behind ≤ heard last → Stays copy later
    → (copy ≡ None → OneTaken gives heard since at trip sent other later last)
    → OneTaken gives heard first at trip sent other copy behind
    → OneTaken gives heard first at trip sent other later last
mine gives heard first since at trip sent None None other behind last sooner on kept came is = tt
mine gives heard first since at trip sent None (Some found) other behind last sooner on kept came is =
    later_on gives heard first since at (sought trip sent (sent_from other)) (Some found) last last sooner
    (omega arith)
    (came refl)
mine gives heard first since at trip sent (Some copy) later other behind last sooner on kept came is =
    subst (λ (o : Option NumberedCopy). OneTaken gives heard first at trip sent other o last) (sym kept)
    (later_on gives heard first first at (sought trip sent (sent_from other)) (Some copy) behind last
    (omega arith) on is)

-- and what is at the other one
theirs : {C : Type 0} (gives : Gives C) (heard : Heard C) (first : ℕ) (at to : Port) (trip : ℕ)
    (sent : List DatagramRecord) (other later copy : Option NumberedCopy) (behind last : C)
    → heard behind ≤ heard last → Stays other later
    → (other ≡ None → OneTaken gives heard first to trip sent copy later last)
    → OneTaken gives heard first at trip sent other copy behind
    → OneTaken gives heard first at trip sent later copy last
theirs gives heard first at to trip sent other later None behind last on kept came is = tt
theirs gives heard first at to trip sent other later (Some copy) behind last on kept came is =
    beside_later gives heard first at to trip sent (Some copy) other later behind last on kept came is

-- sooner than it was taken
sooner_taken : {C : Type 0} (gives : Gives C) (heard : Heard C) (first since : ℕ) (at : Port) (trip : ℕ)
    (sent : List DatagramRecord) (other copy : Option NumberedCopy) (later : C) → first ≤ since
    → OneTaken gives heard since at trip sent other copy later
    → OneTaken gives heard first at trip sent other copy later
sooner_taken gives heard first since at trip sent other None later sooner is = tt
sooner_taken gives heard first since at trip sent other (Some copy) later sooner is =
    later_on gives heard first since at (sought trip sent (sent_from other)) (Some copy) later later sooner
    (omega arith) is

-- what a port was looked at for is another copy than the one at the other port
abbrev Came : {C : Type 0} → Gives C → Heard C → ℕ → Port → ℕ → List DatagramRecord → Option Port
    → Option NumberedCopy → C → Type 0
Came gives heard since at trip sent other later last =
    IfSome later
    (λ (found : NumberedCopy). IsTaken gives heard since at (sought trip sent other) (Some found) last)

came_beside : {C : Type 0} (gives : Gives C) (heard : Heard C) (since : ℕ) (at : Port) (trip : ℕ)
    (sent : List DatagramRecord) (copy : Option NumberedCopy) (other : Option Port)
    (later : Option NumberedCopy) (last : C) → other ≡ sent_from copy
    → Came gives heard since at trip sent other later last
    → OneTaken gives heard since at trip sent copy later last
came_beside gives heard since at trip sent copy other later last same came =
    subst (λ (o : Option Port). Came gives heard since at trip sent o later last) same came

-- behind a receive at port A and one at port B
pub turn : {C : Type 0} (gives : Gives C) (heard : Heard C) (first trip : ℕ) (sent : List DatagramRecord)
    (a b a_later b_later : Option NumberedCopy) (from_a from_b : Option Port) (behind between last : C)
    → first ≤ heard behind → heard behind ≤ heard between → heard between ≤ heard last
    → from_b ≡ sent_from b → from_a ≡ sent_from a_later → Stays a a_later → Stays b b_later
    → (a ≡ None → Came gives heard (heard behind) A trip sent from_b a_later between)
    → (b ≡ None → Came gives heard (heard between) B trip sent from_a b_later last)
    → OneTaken gives heard first A trip sent b a behind → OneTaken gives heard first B trip sent a b behind
    → AreSoFar gives heard first trip sent (record { a = a_later; b = b_later }) last
turn gives heard first trip sent a b a_later b_later from_a from_b behind between last sooner on more same_b
    same_a
    kept_a kept_b came_a came_b is_a is_b =
    let soon : first ≤ heard between = omega (arith, sooner, on) in
    let new_a : a ≡ None → OneTaken gives heard (heard behind) A trip sent b a_later between =
    λ none. came_beside gives heard (heard behind) A trip sent b from_b a_later between same_b (came_a none)
    in
    let new_b : b ≡ None → OneTaken gives heard (heard between) B trip sent a_later b_later last =
    λ none. came_beside gives heard (heard between) B trip sent a_later from_a b_later last same_a
    (came_b none) in
    let one_a : OneTaken gives heard first A trip sent b a_later between =
    mine gives heard first (heard behind) A trip sent a a_later b behind between sooner on kept_a new_a is_a
    in
    let one_b : OneTaken gives heard first B trip sent a_later b between =
    theirs gives heard first B A trip sent a a_later b behind between on kept_a
    (λ none. sooner_taken gives heard first (heard behind) A trip sent b a_later between sooner (new_a none))
    is_b
    in record {
      a = theirs gives heard first A B trip sent b b_later a_later between last more kept_b
          (λ none. sooner_taken gives heard first (heard between) B trip sent a_later b_later last soon
          (new_b none))
          one_a;
      b = mine gives heard first (heard between) B trip sent b b_later a_later between last soon more kept_b
          new_b
          one_b;
    }

-- ---- the last look

-- what is at a port at which it is looked again
looked : {C : Type 0} (gives : Gives C) (heard : Heard C) (first since : ℕ) (at : Port) (trip : ℕ)
    (sent : List DatagramRecord) (copy later other : Option NumberedCopy) (behind last : C)
    → first ≤ since → heard behind ≤ heard last → Stays copy later
    → (copy ≡ None → IsTaken gives heard since at (sought trip sent (sent_from other)) later last)
    → OneTaken gives heard first at trip sent other copy behind
    → IsTaken gives heard first at (sought trip sent (sent_from other)) later last
looked gives heard first since at trip sent None later other behind last sooner on kept came is =
    later_on gives heard first since at (sought trip sent (sent_from other)) later last last sooner
    (omega arith) (came refl)
looked gives heard first since at trip sent (Some copy) later other behind last sooner on kept came is =
    subst
    (λ (o : Option NumberedCopy). IsTaken gives heard first at (sought trip sent (sent_from other)) o last)
    (sym kept)
    (later_on gives heard first first at (sought trip sent (sent_from other)) (Some copy) behind last
    (omega arith) on is)

if_taken : {C : Type 0} (gives : Gives C) (heard : Heard C) (since : ℕ) (at : Port) (trip : ℕ)
    (sent : List DatagramRecord) (other copy : Option NumberedCopy) (later : C)
    → IsTaken gives heard since at (sought trip sent (sent_from other)) copy later
    → OneTaken gives heard since at trip sent other copy later
if_taken gives heard since at trip sent other None later is = tt
if_taken gives heard since at trip sent other (Some copy) later is = is

-- behind a last look at port A and at port B
pub both_taken : {C : Type 0} (gives : Gives C) (heard : Heard C) (first trip : ℕ)
    (sent : List DatagramRecord)
    (a b a_later b_later : Option NumberedCopy) (from_a from_b : Option Port) (behind between last : C)
    → first ≤ heard behind → heard behind ≤ heard between → heard between ≤ heard last
    → from_b ≡ sent_from b → from_a ≡ sent_from a_later → Stays a a_later → Stays b b_later
    → (a ≡ None → IsTaken gives heard (heard behind) A (sought trip sent from_b) a_later between)
    → (b ≡ None → IsTaken gives heard (heard between) B (sought trip sent from_a) b_later last)
    → OneTaken gives heard first A trip sent b a behind → OneTaken gives heard first B trip sent a b behind
    → AreBoth gives heard first trip sent (record { a = a_later; b = b_later }) last
both_taken gives heard first trip sent a b a_later b_later from_a from_b behind between last sooner on more
    same_b
    same_a kept_a kept_b came_a came_b is_a is_b =
    let soon : first ≤ heard between = omega (arith, sooner, on) in
    let new_a : a ≡ None
    → IsTaken gives heard (heard behind) A (sought trip sent (sent_from b)) a_later between =
    λ none.
    subst (λ (o : Option Port). IsTaken gives heard (heard behind) A (sought trip sent o) a_later between)
    same_b (came_a none) in
    let new_b : b ≡ None
    → IsTaken gives heard (heard between) B (sought trip sent (sent_from a_later)) b_later last =
    λ none.
    subst (λ (o : Option Port). IsTaken gives heard (heard between) B (sought trip sent o) b_later last)
    same_a (came_b none) in record {
      a = beside_later gives heard first A B trip sent a_later b b_later between last more kept_b
          (λ none.
          if_taken gives heard first B trip sent a_later b_later last
          (later_on gives heard first (heard between) B (sought trip sent (sent_from a_later)) b_later last
          last soon (omega arith) (new_b none)))
          (looked gives heard first (heard behind) A trip sent a a_later b behind between sooner on kept_a
          new_a
          is_a);
      b = looked gives heard first (heard between) B trip sent b b_later a_later between last soon more kept_b
          new_b
          (theirs gives heard first B A trip sent a a_later b behind between on kept_a
          (λ none.
          sooner_taken gives heard first (heard behind) A trip sent b a_later between sooner
          (if_taken gives heard (heard behind) A trip sent b a_later between (new_a none))) is_b);
    }
