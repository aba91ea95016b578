-- What is taken on a trip is its own, whatever else comes.
use Rattle.std.specs.Prelude.{◌≡◌, ℕ, Bool, true, false, if◌then◌else◌}
use Rattle.std.specs.Prelude.{List, Option, None, Some, IfSome, is_none, refl}
use Rattle.std.proofs.Common.{arith, ap, sym, ◌∙◌, subst, inl, inr}
use Rattle.ec_wire.specs.Datagram.{DatagramRecord}
use Rattle.ec_esc.specs.State.{ControllerState}
use Rattle.ec_ring.specs.Travel.{Travelled, travelled, came_of}
use Rattle.ec_ring.specs.Walk.{Walked, walked_from_a, walked_from_b}
use Rattle.ec_ring.specs.declared.weather.Came.{Came}
use Rattle.ec_ring.specs.declared.weather.Weather.{Weather}
use Rattle.ec_number.specs.Number.{CameUnder, numbered, number_a, number_b}
use Rattle.ec_number.proofs.Laws.{apart-number, under-bears}
use Rattle.ec_seal.specs.Taken.{Made, IsMade, none_lost, going_back, GoesBack, BearsOneOf, Meets, losing}
use Rattle.ec_seal.specs.Trips.{numbered_trip, both_opened, two_travelled, two_a_first, two_b_first}
use Rattle.ec_seal.proofs.UnderLemmas.{if_some, trip_a_under, trip_b_under}
use Rattle.ec_seal.proofs.WalkLemmas.{travelled-numbered}

-- what holds of the one there is holds of this one
of_some : {X : Type 0} (P : X → Type 0) (o : Option X) (x : X) → IfSome o P → o ≡ Some x → P x
of_some {X} P o x holds is = subst (λ (q : Option X). IfSome q P) is holds

-- ---- one number a copy

-- each copy of a trip came of what was sent, under its own number
back_a : (m : Made) (copy : List DatagramRecord) → IsMade m → (going_back m).a ≡ Some copy
    → CameUnder (number_a m.number) m.frame copy
back_a m copy made is =
    of_some (CameUnder (number_a m.number) m.frame) (going_back m).a copy
    (trip_a_under m.number (none_lost m.weather) m.frame m.line made.line made.counters) is

back_b : (m : Made) (copy : List DatagramRecord) → IsMade m → (going_back m).b ≡ Some copy
    → CameUnder (number_b m.number) m.frame copy
back_b m copy made is =
    of_some (CameUnder (number_b m.number) m.frame) (going_back m).b copy
    (trip_b_under m.number (none_lost m.weather) m.frame m.line made.line made.counters) is

-- of a trip's two copies the one that came under the number of copy A is copy A
only_a : (m : Made) (copy : List DatagramRecord) → IsMade m → GoesBack m copy
    → CameUnder (number_a m.number) m.frame copy
    → (going_back m).a ≡ Some copy
only_a m copy made (inl is) came = is
only_a m copy made (inr is) came =
    let same : number_b m.number ≡ number_a m.number =
    apart-number (number_b m.number) (number_a m.number) m.frame m.frame copy (omega (arith, made.number))
    (omega (arith, made.number)) (back_b m copy made is) came in
    absurd (omega (arith, same))

only_b : (m : Made) (copy : List DatagramRecord) → IsMade m → GoesBack m copy
    → CameUnder (number_b m.number) m.frame copy
    → (going_back m).b ≡ Some copy
only_b m copy made (inr is) came = is
only_b m copy made (inl is) came =
    let same : number_a m.number ≡ number_b m.number =
    apart-number (number_a m.number) (number_b m.number) m.frame m.frame copy (omega (arith, made.number))
    (omega (arith, made.number)) (back_a m copy made is) came in
    absurd (omega (arith, same))

-- ---- what is taken

taken_a : (m : Made) (copy : List DatagramRecord) → IsMade m → (BearsOneOf m.number copy → GoesBack m copy)
    → CameUnder (number_a m.number) m.frame copy
    → (going_back m).a ≡ Some copy
taken_a m copy made goes came =
    only_a m copy made (goes (inl (under-bears (number_a m.number) m.frame copy (omega (arith, made.number)) came)))
    came

taken_b : (m : Made) (copy : List DatagramRecord) → IsMade m → (BearsOneOf m.number copy → GoesBack m copy)
    → CameUnder (number_b m.number) m.frame copy
    → (going_back m).b ≡ Some copy
taken_b m copy made goes came =
    only_b m copy made (goes (inr (under-bears (number_b m.number) m.frame copy (omega (arith, made.number)) came)))
    came

pub own_a : (m : Made) (taken : Came) → Meets m taken
    → IfSome taken.a (λ (copy : List DatagramRecord). (going_back m).a ≡ Some copy)
own_a m taken meets =
    if_some taken.a
    (λ (copy : List DatagramRecord).
    (BearsOneOf m.number copy → GoesBack m copy) × CameUnder (number_a m.number) m.frame copy)
    (λ (copy : List DatagramRecord). (going_back m).a ≡ Some copy)
    (λ copy is. taken_a m copy meets.made is.0 is.1) meets.a

pub own_b : (m : Made) (taken : Came) → Meets m taken
    → IfSome taken.b (λ (copy : List DatagramRecord). (going_back m).b ≡ Some copy)
own_b m taken meets =
    if_some taken.b
    (λ (copy : List DatagramRecord).
    (BearsOneOf m.number copy → GoesBack m copy) × CameUnder (number_b m.number) m.frame copy)
    (λ (copy : List DatagramRecord). (going_back m).b ≡ Some copy)
    (λ copy is. taken_b m copy meets.made is.0 is.1) meets.b

-- ---- as a trip that lost what was not taken

-- two copies
abbrev two_came : Option (List DatagramRecord) → Option (List DatagramRecord) → Came
two_came a b = record { a = a; b = b }

-- what comes back where those copies are lost that were not taken
either_came : (o : Option (List DatagramRecord)) (w : Walked)
    → IfSome o (λ (copy : List DatagramRecord). came_of false w ≡ Some copy) → came_of (is_none o) w ≡ o
either_came None w is = refl
either_came (Some copy) w is = is

-- copies are taken where they were on their last hop, and lost elsewhere, whichever goes first
taken_a_first : (w : Weather) (f g : List DatagramRecord) (line : List ControllerState) (taken : Came)
    → IfSome taken.a (λ (copy : List DatagramRecord). (two_a_first (none_lost w) f g line).came.a ≡ Some copy)
    → IfSome taken.b (λ (copy : List DatagramRecord). (two_a_first (none_lost w) f g line).came.b ≡ Some copy)
    → (two_a_first (losing taken w) f g line).came ≡ taken
taken_a_first w f g line taken is_a is_b =
    let a : Walked = walked_from_a w.a f line in
    let b : Walked = walked_from_b w.b g a.line in
    ap (λ (o : Option (List DatagramRecord)). two_came o (came_of (is_none taken.b) b))
    (either_came taken.a a is_a)
    ∙ ap (λ (o : Option (List DatagramRecord)). two_came taken.a o) (either_came taken.b b is_b)

taken_b_first : (w : Weather) (f g : List DatagramRecord) (line : List ControllerState) (taken : Came)
    → IfSome taken.a (λ (copy : List DatagramRecord). (two_b_first (none_lost w) f g line).came.a ≡ Some copy)
    → IfSome taken.b (λ (copy : List DatagramRecord). (two_b_first (none_lost w) f g line).came.b ≡ Some copy)
    → (two_b_first (losing taken w) f g line).came ≡ taken
taken_b_first w f g line taken is_a is_b =
    let b : Walked = walked_from_b w.b g line in
    let a : Walked = walked_from_a w.a f b.line in
    ap (λ (o : Option (List DatagramRecord)). two_came o (came_of (is_none taken.b) b))
    (either_came taken.a a is_a)
    ∙ ap (λ (o : Option (List DatagramRecord)). two_came taken.a o) (either_came taken.b b is_b)

two_taken : (w : Weather) (f g : List DatagramRecord) (line : List ControllerState) (taken : Came)
    → IfSome taken.a
    (λ (copy : List DatagramRecord). (two_travelled (none_lost w) f g line).came.a ≡ Some copy)
    → IfSome taken.b
    (λ (copy : List DatagramRecord). (two_travelled (none_lost w) f g line).came.b ≡ Some copy)
    → (two_travelled (losing taken w) f g line).came ≡ taken
unfolding two_travelled
two_taken w f g line taken =
    let still : Weather = none_lost w in
    let P : Bool → Type 0 = λ first.
    IfSome taken.a (λ (copy : List DatagramRecord).
    (if first then two_b_first still f g line else two_a_first still f g line).came.a ≡ Some copy)
    → IfSome taken.b (λ (copy : List DatagramRecord).
    (if first then two_b_first still f g line else two_a_first still f g line).came.b ≡ Some copy)
    → (if first then two_b_first (losing taken w) f g line else two_a_first (losing taken w) f g line).came
    ≡ taken in
    elim w.b_first as P [
      | true ↦ taken_b_first w f g line taken
      | false ↦ taken_a_first w f g line taken
    ]

-- the controllers behind a trip are the same, whatever is lost on the last hop
two_line : (w : Weather) (f g : List DatagramRecord) (line : List ControllerState) (taken : Came)
    → (two_travelled (losing taken w) f g line).line ≡ (two_travelled w f g line).line
unfolding two_travelled
two_line w f g line taken =
    let P : Bool → Type 0 = λ first.
    (if first then two_b_first (losing taken w) f g line else two_a_first (losing taken w) f g line).line
    ≡ (if first then two_b_first w f g line else two_a_first w f g line).line in
    elim w.b_first as P [ true ↦ refl | false ↦ refl ]

pub brings_own : (m : Made) (taken : Came) → Meets m taken
    → both_opened taken ≡ (travelled (losing taken m.weather) m.frame m.line).came
brings_own m taken meets =
    let n : ℕ = m.number in
    let f : List DatagramRecord = m.frame in
    let w : Weather = losing taken m.weather in
    let is : (numbered_trip n w f m.line).came ≡ taken =
    two_taken m.weather (numbered (number_a n) f) (numbered (number_b n) f) m.line taken
    (own_a m taken meets) (own_b m taken meets) in
    sym (ap (λ (came : Came). both_opened came) is)
    ∙ ap (λ (t : Travelled). t.came) (travelled-numbered n w f m.line meets.made.line)

pub line_behind : (m : Made) (taken : Came) → IsMade m
    → (travelled (losing taken m.weather) m.frame m.line).line
    ≡ (numbered_trip m.number m.weather m.frame m.line).line
line_behind m taken made =
    let n : ℕ = m.number in
    let f : List DatagramRecord = m.frame in
    sym (ap (λ (t : Travelled). t.line) (travelled-numbered n (losing taken m.weather) f m.line made.line))
    ∙ two_line m.weather (numbered (number_a n) f) (numbered (number_b n) f) m.line taken
