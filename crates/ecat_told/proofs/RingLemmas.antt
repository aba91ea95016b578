-- A frame that port A sends over a ring passes the controllers up to the first link that is down; and one of
-- port B none, where no link is.
use Rattle.std.proofs.Common.{◌≡◌, ℕ, ◌+◌, Bool, true, false, cond, ◌&&◌, List, [], ◌∷◌, ◌++◌, length}
use Rattle.std.proofs.Common.{take, drop, Option, None, Some, is_none, refl, sym, ap, ◌∙◌, arith}
use Rattle.std.specs.Prelude.{not, unwrap_or}
use Rattle.std.specs.Option.{option_map}
use Rattle.std.proofs.Math.Bool.{and-false}
use Rattle.ec_wire.specs.Datagram.{DatagramRecord}
use Rattle.ec_esc.specs.State.{ControllerState}
use Rattle.ec_line.specs.Trip.{back_pass, circulated, front_pass, line_pass}
use Rattle.ec_ring.specs.Links.{AreUp, first_down, is_up, is_whole, last_down}
use Rattle.ec_ring.specs.Reach.{arrival_a, arrival_b, back, front, turns}
use Rattle.ec_ring.specs.Walk.{Walked, is_circulating, walked_from_a, walked_from_b}
use Rattle.ec_ring.specs.declared.links.Links.{Links}
use Rattle.ec_ring.specs.declared.port.Port.{Port}
use Rattle.ec_ring.specs.declared.port.Port.TheVariants.{A, B}
use Rattle.ec_ring.proofs.Laws.{is-first_down, no-last_down}

-- the line that it leaves
pub walk_leaves : (links : Links) (frame : List DatagramRecord) (line : List ControllerState)
    → (walked_from_a links frame line).line ≡ (front_pass (front links (length line)) line frame).line
unfolding walked_from_a
walk_leaves links frame line = refl

none_is : (o : Option ℕ) → is_none o ≡ true → o ≡ None
none_is None is = refl
none_is (Some k) is = absurd (cc)

-- all links of a whole line are up
all_up : (links : Links) (n : ℕ) → is_whole links n ≡ true → AreUp links 0 n
all_up links n whole = no-last_down links n (none_is (last_down links (n + 1)) whole)

first_is : (links : Links) (n : ℕ) → AreUp links 0 n → (o : Option ℕ) → first_down links (n + 1) ≡ o
    → unwrap_or o n ≡ n
first_is links n up None is = refl
first_is links n up (Some k) is =
    let down = is-first_down links n k is in
    let both : true ≡ false = sym (up k (omega arith) down.0) ∙ down.1 in
    absurd (cc)

-- so all controllers are passed
whole_front : (links : Links) (n : ℕ) → is_whole links n ≡ true → front links n ≡ n
whole_front links n whole = first_is links n (all_up links n whole) (first_down links (n + 1)) refl

-- and the frame arrives at port B
whole_arrival : (links : Links) (n : ℕ) → is_whole links n ≡ true → arrival_a links n ≡ Some B
whole_arrival links n whole =
    ap (λ b. cond b (Some (cond (is_whole links n) B A)) None)
    (all_up links n whole 0 (omega arith) (omega arith))
    ∙ ap (λ b. Some (cond b B A)) whole

-- it comes back as the line left it
pub whole_walk : (links : Links) (frame : List DatagramRecord) (line : List ControllerState)
    → is_whole links (length line) ≡ true
    → walked_from_a links frame line
    ≡ record {
      arrived = Some ((front_pass (length line) line frame).frame, B);
      line = (front_pass (length line) line frame).line;
    }
unfolding walked_from_a
whole_walk links frame line whole =
    let n : ℕ = length line in
    ap (λ (k : ℕ). record {
      arrived = option_map (λ port. ((front_pass k line frame).frame, port)) (arrival_a links n);
      line = (front_pass k line frame).line;
    }) (whole_front links n whole)
    ∙ ap (λ (o : Option Port). record {
      arrived = option_map (λ port. ((front_pass n line frame).frame, port)) o;
      line = (front_pass n line frame).line;
    }) (whole_arrival links n whole)

-- ---- the copy of port B

-- its way by whether it turns round, the first controller that it passes, and where it arrives
way_b : List DatagramRecord → List ControllerState → Bool → ℕ → Option Port → Walked
way_b frame line turned k at =
    let passed = back_pass k line (cond turned (circulated frame) frame) in
    cond (turned && is_circulating frame) (record { arrived = None; line = line })
    (record { arrived = option_map (λ port. (passed.frame, port)) at; line = passed.line })

way_is : (links : Links) (frame : List DatagramRecord) (line : List ControllerState)
    → walked_from_b links frame line
    ≡ way_b frame line (turns links (length line)) (back links (length line)) (arrival_b links (length line))
unfolding walked_from_b way_b
way_is links frame line = refl

whole_back : (links : Links) (n : ℕ) → is_whole links n ≡ true → back links n ≡ n
whole_back links n whole = ap (λ o. unwrap_or o n) (none_is (last_down links (n + 1)) whole)

whole_arrival_b : (links : Links) (n : ℕ) → is_whole links n ≡ true → arrival_b links n ≡ Some A
whole_arrival_b links n whole =
    ap (λ b. cond b (Some (cond (is_whole links n) A B)) None)
    (all_up links n whole n (omega arith) (omega arith))
    ∙ ap (λ b. Some (cond b A B)) whole

whole_turns : (links : Links) (n : ℕ) → is_whole links n ≡ true → turns links n ≡ false
whole_turns links n whole = ap (λ b. is_up links n && not b) whole ∙ and-false (is_up links n)

none_behind : (line : List ControllerState) → drop (length line) line ≡ []
none_behind [] = refl
none_behind (c ∷ cs) = none_behind cs

all_before : (line : List ControllerState) → take (length line) line ++ [] ≡ line
all_before [] = refl
all_before (c ∷ cs) = ap (λ es. c ∷ es) (all_before cs)

-- it comes back as it was sent, and leaves the line
pub whole_walk_b : (links : Links) (frame : List DatagramRecord) (line : List ControllerState)
    → is_whole links (length line) ≡ true
    → walked_from_b links frame line ≡ record { arrived = Some (frame, A); line = line }
unfolding way_b line_pass
whole_walk_b links frame line whole =
    let n : ℕ = length line in
    way_is links frame line
    ∙ ap (λ b. way_b frame line b (back links n) (arrival_b links n)) (whole_turns links n whole)
    ∙ ap (λ k. way_b frame line false k (arrival_b links n)) (whole_back links n whole)
    ∙ ap (λ o. way_b frame line false n o) (whole_arrival_b links n whole)
    ∙ ap (λ (xs : List ControllerState). record {
      arrived = Some ((line_pass xs frame).frame, A);
      line = take n line ++ (line_pass xs frame).line;
    }) (none_behind line)
    ∙ ap (λ (es : List ControllerState). record { arrived = Some (frame, A); line = es }) (all_before line)
