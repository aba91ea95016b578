-- Which slaves the copies of a datagram pass: with all links up copy A passes each and copy B none; where a
-- link is down each copy that comes back has passed some.
use Rattle.std.proofs.Common.{◌≡◌, ℕ, zero, suc, ◌+◌, ◌<◌, ◌≤◌, Bool, true, false, cond, List, [], ◌∷◌}
use Rattle.std.proofs.Common.{◌++◌, length, take, drop, refl, sym, ap, ◌∙◌, arith, true≢false, Option}
use Rattle.std.proofs.Common.{None, Some, ◌&&◌}
use Rattle.std.specs.Prelude.{is_none, not}
use Rattle.std.specs.Option.{unwrap_or}
use Rattle.std.proofs.Math.Seq.{drop-length, take-length}
use Rattle.std.proofs.lemmas.List.{append-nil}
use Rattle.ec_wire.specs.Datagram.{DatagramRecord}
use Rattle.ec_wire.specs.declared.kind.Kind.TheVariants.{Fprd}
use Rattle.ec_esc.specs.State.{ControllerState}
use Rattle.ec_line.specs.After.{Entry}
use Rattle.ec_line.specs.Trip.{Passed, PassedLine, line_pass, passed}
use Rattle.ec_ring.specs.Links.{AreUp, SomeDown, first_down, is_up, is_whole, last_down}
use Rattle.ec_ring.specs.Reach.{arrival_a, arrival_b, back, front, turns}
use Rattle.ec_ring.specs.Travel.{travelled}
use Rattle.ec_ring.specs.Weather.{calm}
use Rattle.ec_ring.specs.declared.links.Links.{Links}
use Rattle.ec_ring.specs.declared.port.Port.{Port}
use Rattle.ec_ring.specs.declared.port.Port.TheVariants.{A, B}
use Rattle.ec_ring.proofs.Laws.{is-first_down, is-last_down, no-first_down, no-last_down, travelled-trip}
use Rattle.ec_over_ring.proofs.TripLemmas.{first_copy, second_copy}
use Rattle.ec_over_ring.proofs.WayLemmas.{came_back}

-- ---- both copies

-- copy A passes the first p of a line, and then copy B those from q on
unfoldable pub pieces_pass : ℕ → ℕ → Bool → List ControllerState → DatagramRecord → Passed
pieces_pass p q b line d =
    let a = first_copy p line d in
    let z = second_copy q b a.line d in
    record { a = a.frame; b = z.frame; line = z.line }

-- the datagram as an entry of a frame
abbrev alone : DatagramRecord → List Entry
alone d = record { request = record { kind = Fprd; address = 0; count = 0 }; sent = d } ∷ []

-- the trip under a ring's links
pub travelled_both : (links : Links) (d : DatagramRecord) (line : List ControllerState)
    → d.circulating ≡ false
    → let n = length line in
    travelled (calm links) (d ∷ []) line
    ≡ came_back (is_none (arrival_a links n)) (is_none (arrival_b links n))
    (pieces_pass (front links n) (back links n) (turns links n) line d)
unfolding passed pieces_pass
travelled_both links d line still = travelled-trip (calm links) (alone d) line still

-- ---- all links are up

unbroken_first : (links : Links) (n : ℕ) → AreUp links 0 n → (o : Option ℕ) → first_down links (n + 1) ≡ o
    → o ≡ None
unbroken_first links n up None is = refl
unbroken_first links n up (Some k) is =
    let down = is-first_down links n k is in
    absurd (true≢false (sym (up k (omega arith) down.0) ∙ down.1))

unbroken_last : (links : Links) (n : ℕ) → AreUp links 0 n → (o : Option ℕ) → last_down links (n + 1) ≡ o
    → o ≡ None
unbroken_last links n up None is = refl
unbroken_last links n up (Some k) is =
    let down = is-last_down links n k is in
    absurd (true≢false (sym (up k (omega arith) down.0) ∙ down.1))

-- what the links say then
record IsWhole (links : Links) (n : ℕ) : Type 0 where
  front_is : front links n ≡ n
  back_is : back links n ≡ n
  a_comes : is_none (arrival_a links n) ≡ false
  b_comes : is_none (arrival_b links n) ≡ false
  straight : turns links n ≡ false

arrives : (b : Bool) (p : Port) → b ≡ true → is_none (cond b (Some p) None) ≡ false
arrives true p is = refl
arrives false p is = absurd (true≢false (sym is))

never_turns : (a b : Bool) → b ≡ true → (a && not b) ≡ false
never_turns true true is = refl
never_turns false b is = refl
never_turns true false is = absurd (true≢false (sym is))

is_whole_line : (links : Links) (n : ℕ) → AreUp links 0 n → IsWhole links n
is_whole_line links n up =
    let first : first_down links (n + 1) ≡ None =
    unbroken_first links n up (first_down links (n + 1)) refl in
    let last : last_down links (n + 1) ≡ None = unbroken_last links n up (last_down links (n + 1)) refl in
    let whole : is_whole links n ≡ true = ap (λ (o : Option ℕ). is_none o) last in
    record {
      front_is = ap (λ (o : Option ℕ). unwrap_or o n) first;
      back_is = ap (λ (o : Option ℕ). unwrap_or o n) last;
      a_comes = arrives (is_up links 0) (cond (is_whole links n) B A) (up 0 (omega arith) (omega arith));
      b_comes = arrives (is_up links n) (cond (is_whole links n) A B) (up n (omega arith) (omega arith));
      straight = never_turns (is_up links n) (is_whole links n) whole;
    }

-- copy A passes all, and copy B none
first_whole : (d e : DatagramRecord) (line later : List ControllerState)
    → line_pass line (d ∷ []) ≡ record { frame = e ∷ []; line = later }
    → first_copy (length line) line d ≡ record { frame = e ∷ []; line = later }
first_whole d e line later passes =
    ap (λ (xs : List ControllerState). record {
      frame = (line_pass xs (d ∷ [])).frame;
      line = (line_pass xs (d ∷ [])).line ++ drop (length line) line;
    }) (take-length line)
    ∙ ap (λ (p : PassedLine). record { frame = p.frame; line = p.line ++ drop (length line) line }) passes
    ∙ ap (λ (xs : List ControllerState). record { frame = e ∷ []; line = later ++ xs }) (drop-length line)
    ∙ ap (λ (xs : List ControllerState). record { frame = e ∷ []; line = xs }) (append-nil later)

second_whole : (d : DatagramRecord) (line : List ControllerState)
    → second_copy (length line) false line d ≡ record { frame = d ∷ []; line = line }
unfolding line_pass
second_whole d line =
    ap (λ (xs : List ControllerState). record {
      frame = (line_pass xs (d ∷ [])).frame;
      line = take (length line) line ++ (line_pass xs (d ∷ [])).line;
    }) (drop-length line)
    ∙ ap (λ (xs : List ControllerState). record { frame = d ∷ []; line = xs ++ [] }) (take-length line)
    ∙ ap (λ (xs : List ControllerState). record { frame = d ∷ []; line = xs }) (append-nil line)

pieces_whole : (d e : DatagramRecord) (line later : List ControllerState)
    → line_pass line (d ∷ []) ≡ record { frame = e ∷ []; line = later } → length later ≡ length line
    → pieces_pass (length line) (length line) false line d
    ≡ record { a = e ∷ []; b = d ∷ []; line = later }
unfolding pieces_pass
pieces_whole d e line later passes size =
    ap (λ (a : PassedLine). let z = second_copy (length line) false a.line d in
    record { a = a.frame; b = z.frame; line = z.line }) (first_whole d e line later passes)
    ∙ ap (λ (n : ℕ). let z = second_copy n false later d in
    record { a = e ∷ []; b = z.frame; line = z.line }) (sym size)
    ∙ ap (λ (z : PassedLine). record { a = e ∷ []; b = z.frame; line = z.line }) (second_whole d later)

-- so copy A brings the pass of the line, and copy B what was sent
pub whole_trip : (links : Links) (d e : DatagramRecord) (line later : List ControllerState)
    → AreUp links 0 (length line) → d.circulating ≡ false
    → line_pass line (d ∷ []) ≡ record { frame = e ∷ []; line = later } → length later ≡ length line
    → travelled (calm links) (d ∷ []) line
    ≡ record { came = record { a = Some (e ∷ []); b = Some (d ∷ []) }; line = later }
whole_trip links d e line later up still passes size =
    let n : ℕ = length line in
    let whole : IsWhole links n = is_whole_line links n up in
    travelled_both links d line still
    ∙ ap (λ (b : Bool). came_back b (is_none (arrival_b links n))
    (pieces_pass (front links n) (back links n) (turns links n) line d)) whole.a_comes
    ∙ ap (λ (b : Bool). came_back false b
    (pieces_pass (front links n) (back links n) (turns links n) line d)) whole.b_comes
    ∙ ap (λ (p : ℕ). came_back false false
    (pieces_pass p (back links n) (turns links n) line d)) whole.front_is
    ∙ ap (λ (q : ℕ). came_back false false (pieces_pass n q (turns links n) line d)) whole.back_is
    ∙ ap (λ (b : Bool). came_back false false (pieces_pass n n b line d)) whole.straight
    ∙ ap (λ (p : Passed). came_back false false p) (pieces_whole d e line later passes size)

-- ---- a link is down

is_up_of : (b : Bool) (p : Port) → is_none (cond b (Some p) None) ≡ false → b ≡ true
is_up_of true p comes = refl
is_up_of false p comes = absurd (true≢false comes)

some_first : (links : Links) (n : ℕ) → SomeDown links n → is_up links 0 ≡ true → (o : Option ℕ)
    → first_down links (n + 1) ≡ o → (1 ≤ unwrap_or o n) × (unwrap_or o n ≤ n)
some_first links n down up None is =
    absurd (true≢false (sym (no-first_down links n is down.0 (omega arith) down.1) ∙ down.2))
some_first links n down up (Some zero) is =
    absurd (true≢false (sym up ∙ (is-first_down links n 0 is).1))
some_first links n down up (Some (suc k)) is =
    let inside : suc k ≤ n = (is-first_down links n (suc k) is).0 in
    (omega arith, inside)

some_last : (links : Links) (n : ℕ) → SomeDown links n → is_up links n ≡ true → (o : Option ℕ)
    → last_down links (n + 1) ≡ o → unwrap_or o n < n
some_last links n down up None is =
    absurd (true≢false (sym (no-last_down links n is down.0 (omega arith) down.1) ∙ down.2))
some_last links n down up (Some k) is =
    let last = is-last_down links n k is in
    let inside : k ≤ n = last.0 in
    below k n inside (λ same. true≢false (sym up ∙ ap (λ (j : ℕ). is_up links j) (sym same) ∙ last.1))
  where
    below : (j m : ℕ) → j ≤ m → (j ≡ m → ⊥) → j < m
    below j m at_most other = omega (arith, at_most, other)

-- a copy that comes back has passed some slaves
pub front_passes : (links : Links) (n : ℕ) → SomeDown links n → is_none (arrival_a links n) ≡ false
    → (1 ≤ front links n) × (front links n ≤ n)
front_passes links n down comes =
    some_first links n down (is_up_of (is_up links 0) (cond (is_whole links n) B A) comes)
    (first_down links (n + 1)) refl

pub back_passes : (links : Links) (n : ℕ) → SomeDown links n → is_none (arrival_b links n) ≡ false
    → back links n < n
back_passes links n down comes =
    some_last links n down (is_up_of (is_up links n) (cond (is_whole links n) A B) comes)
    (last_down links (n + 1)) refl
