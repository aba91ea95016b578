-- A copy that came to a line passes its front or its back; one that never came passes nobody.
use Rattle.std.specs.Prelude.{◌≡◌, ℕ, Bool, true, false, ◌||◌, ◌&&◌, if◌then◌else◌}
use Rattle.std.specs.Prelude.{List, ◌++◌, length, take, Option, None, Some, is_none, refl}
use Rattle.std.specs.Option.{option_map}
use Rattle.std.proofs.Common.{arith, ap, sym, ◌∙◌, cond}
use Rattle.std.proofs.Math.Seq.{drop-length}
use Rattle.std.proofs.lemmas.List.{take_all, append-nil}
use Rattle.ec_wire.specs.Datagram.{DatagramRecord}
use Rattle.ec_esc.specs.State.{ControllerState}
use Rattle.ec_line.specs.Trip.{line_pass, front_pass, back_pass, circulated}
use Rattle.ec_ring.specs.Reach.{front, back, arrival_a, arrival_b, turns}
use Rattle.ec_ring.specs.Travel.{came_of}
use Rattle.ec_ring.specs.Walk.{Walked, walked, walked_from_a, walked_from_b, is_circulating}
use Rattle.ec_ring.specs.declared.links.Links.{Links}
use Rattle.ec_ring.specs.declared.port.Port.{Port}
use Rattle.ec_ring.specs.declared.port.Port.TheVariants.{A, B}
use Rattle.ec_ring.proofs.Laws.{lost-front, lost-back}
use Rattle.ecat_served.specs.History.{Packet, walk_of}
use Rattle.ecat_served.specs.Trips.{IsCopy, came_from}

-- ---- the way of a copy over a line of n slaves

abbrev pub way_a : Links → ℕ → List ControllerState → List DatagramRecord → Walked
way_a links n met sent =
    let passed = front_pass (front links n) met sent in
    record { arrived = option_map (λ port. (passed.frame, port)) (arrival_a links n); line = passed.line }

-- copy B as it starts to pass
abbrev pub starts : Links → ℕ → List DatagramRecord → List DatagramRecord
starts links n sent = if turns links n then circulated sent else sent

abbrev pub way_b : Links → ℕ → List ControllerState → List DatagramRecord → Walked
way_b links n met sent =
    let passed = back_pass (back links n) met (starts links n sent) in
    record { arrived = option_map (λ port. (passed.frame, port)) (arrival_b links n); line = passed.line }

is_way_a : (links : Links) (sent : List DatagramRecord) (line : List ControllerState)
    → walked_from_a links sent line ≡ way_a links (length line) line sent
unfolding walked_from_a
is_way_a links sent line = refl

and_false : (b : Bool) → (b && false) ≡ false
and_false true = refl
and_false false = refl

is_way_b : (links : Links) (sent : List DatagramRecord) (line : List ControllerState)
    → is_circulating sent ≡ false → walked_from_b links sent line ≡ way_b links (length line) line sent
unfolding walked_from_b
is_way_b links sent line still =
    let turned : Bool = turns links (length line) in
    let gone : Walked = record { arrived = None; line = line } in
    let way : Walked = way_b links (length line) line sent in
    ap (λ b. cond (turned && b) gone way) still ∙ ap (λ b. cond b gone way) (and_false turned)

-- a copy that came went its way
pub walks_a : (p : Packet) (links : Links) (sent : List DatagramRecord) (o : Option Port) (n : ℕ)
    → IsCopy A links sent o (Some p) → length p.met ≡ n → walk_of p ≡ way_a links n p.met sent
walks_a p links sent o n is size =
    ap (λ x. walked x p.links p.frame p.met) is.0 ∙ ap (λ x. walked A x p.frame p.met) is.1
    ∙ ap (λ x. walked A links x p.met) is.2 ∙ is_way_a links sent p.met
    ∙ ap (λ k. way_a links k p.met sent) size

pub walks_b : (p : Packet) (links : Links) (sent : List DatagramRecord) (o : Option Port) (n : ℕ)
    → is_circulating sent ≡ false → IsCopy B links sent o (Some p) → length p.met ≡ n
    → walk_of p ≡ way_b links n p.met sent
walks_b p links sent o n still is size =
    ap (λ x. walked x p.links p.frame p.met) is.0 ∙ ap (λ x. walked B x p.frame p.met) is.1
    ∙ ap (λ x. walked B links x p.met) is.2 ∙ is_way_b links sent p.met still
    ∙ ap (λ k. way_b links k p.met sent) size

-- ---- what came of it

-- the frame, unless it is lost or does not arrive
abbrev pub back_as : Bool → Option Port → List DatagramRecord → Option (List DatagramRecord)
back_as lost o frame = if lost || is_none o then None else Some frame

arrives_as : (lost : Bool) (o : Option Port) (frame : List DatagramRecord) (line : List ControllerState)
    → came_of lost (record { arrived = option_map (λ port. (frame, port)) o; line = line })
    ≡ back_as lost o frame
arrives_as true o frame line = refl
arrives_as false None frame line = refl
arrives_as false (Some port) frame line = refl

pub came_a : (lost : Bool) (p : Packet) (links : Links) (n : ℕ) (sent : List DatagramRecord)
    → walk_of p ≡ way_a links n p.met sent
    → came_from lost (Some p) ≡ back_as lost (arrival_a links n) (front_pass (front links n) p.met sent).frame
came_a lost p links n sent is =
    let passed = front_pass (front links n) p.met sent in
    ap (λ (x : Walked). came_of lost x) is ∙ arrives_as lost (arrival_a links n) passed.frame passed.line

pub came_b : (lost : Bool) (p : Packet) (links : Links) (n : ℕ) (sent : List DatagramRecord)
    → walk_of p ≡ way_b links n p.met sent
    → came_from lost (Some p)
    ≡ back_as lost (arrival_b links n) (back_pass (back links n) p.met (starts links n sent)).frame
came_b lost p links n sent is =
    let passed = back_pass (back links n) p.met (starts links n sent) in
    ap (λ (x : Walked). came_of lost x) is ∙ arrives_as lost (arrival_b links n) passed.frame passed.line

-- ---- a copy that never came

pub never_back : (lost : Bool) (o : Option Port) (frame : List DatagramRecord) → o ≡ None
    → came_from lost None ≡ back_as lost o frame
never_back true o frame none = refl
never_back false o frame none = sym (ap (λ x. back_as false x frame) none)

front_nobody : (line : List ControllerState) (f : List DatagramRecord) → (front_pass 0 line f).line ≡ line
unfolding line_pass
front_nobody line f = refl

back_nobody : (line : List ControllerState) (f : List DatagramRecord)
    → (back_pass (length line) line f).line ≡ line
unfolding line_pass
back_nobody line f =
    ap (λ xs. take (length line) line ++ (line_pass xs f).line) (drop-length line)
    ∙ append-nil (take (length line) line) ∙ take_all (length line) line (omega arith)

pub leaves_a : (links : Links) (n : ℕ) (line : List ControllerState) (f : List DatagramRecord)
    → arrival_a links n ≡ None → (front_pass (front links n) line f).line ≡ line
leaves_a links n line f none =
    ap (λ k. (front_pass k line f).line) (lost-front links n none) ∙ front_nobody line f

pub leaves_b : (links : Links) (n : ℕ) (line : List ControllerState) (f : List DatagramRecord)
    → length line ≡ n → arrival_b links n ≡ None → (back_pass (back links n) line f).line ≡ line
leaves_b links n line f size none =
    ap (λ k. (back_pass k line f).line) (lost-back links n none ∙ sym size) ∙ back_nobody line f
