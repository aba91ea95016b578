-- A number goes through a controller, a line and the pieces of one, a walk and a trip.
use Rattle.std.specs.Prelude.{◌≡◌, ℕ, Bool, true, false, ◌&&◌}
use Rattle.std.specs.Prelude.{if◌then◌else◌, List, [], ◌∷◌, ◌++◌, length, take, drop, Option, None, Some, refl}
use Rattle.std.specs.Option.{option_map}
use Rattle.std.proofs.Common.{ap, sym, ◌∙◌}
use Rattle.ec_regs.proofs.Laws.{each-take, each-drop}
use Rattle.ec_wire.specs.Datagram.{DatagramRecord}
use Rattle.ec_esc.specs.Pass.{Passed, PassedFrame, pass, frame_pass}
use Rattle.ec_esc.specs.State.{ControllerState, IsController}
use Rattle.ec_line.specs.Trip.{PassedLine, line_pass, front_pass, back_pass, circulated}
use Rattle.ec_ring.specs.Reach.{front, back, arrival_a, arrival_b, turns}
use Rattle.ec_ring.specs.Travel.{Travelled, travelled, came_of}
use Rattle.ec_ring.specs.Walk.{Walked, walked, walked_from_a, walked_from_b, is_circulating}
use Rattle.ec_ring.specs.declared.links.Links.{Links}
use Rattle.ec_ring.specs.declared.port.Port.{Port}
use Rattle.ec_ring.specs.declared.port.Port.TheVariants.{A, B}
use Rattle.ec_ring.specs.declared.weather.Weather.{Weather}
use Rattle.ec_number.specs.Number.{carrying, with_number, numbered, opened, number_a, number_b}
use Rattle.ec_number.proofs.Laws.{opened-with_number}
use Rattle.ec_seal.specs.Trips.{opened_arrival, opened_walk, opened_trip, numbered_trip}
use Rattle.ec_seal.specs.Trips.{two_travelled, two_a_first, two_b_first}
use Rattle.ec_esc.proofs.Laws.{pass_is}
use Rattle.ec_seal.proofs.CarryLemmas.{AreControllers, pass_carrying, front_is, back_is}

-- ---- behind controllers

abbrev pub numbered_frame : Bool → ℕ → PassedFrame → PassedFrame
numbered_frame b n p = record { frame = with_number b n p.frame; state = p.state }

abbrev pub numbered_line : Bool → ℕ → PassedLine → PassedLine
numbered_line b n p = record { frame = with_number b n p.frame; line = p.line }

pub frame_numbered : (c : ControllerState) (b : Bool) (n : ℕ) (ds : List DatagramRecord) → IsController c
    → frame_pass c (with_number b n ds) ≡ numbered_frame b n (frame_pass c ds)
unfolding frame_pass
frame_numbered c b n [] is =
    ap (λ (p : Passed). record { frame = p.datagram ∷ []; state = p.state }) (pass_carrying c b n is)
frame_numbered c b n (d ∷ ds) is =
    let first : Passed = pass c d in
    let joined : PassedFrame → PassedFrame = λ rest.
    record { frame = first.datagram ∷ rest.frame; state = rest.state } in
    ap joined (frame_numbered first.state b n ds (pass_is c d is))

pub line_numbered : (line : List ControllerState) (b : Bool) (n : ℕ) (ds : List DatagramRecord)
    → AreControllers line → line_pass line (with_number b n ds) ≡ numbered_line b n (line_pass line ds)
unfolding line_pass
line_numbered [] b n ds all = refl
line_numbered (x ∷ xs) b n ds all =
    let first : PassedFrame = frame_pass x ds in
    let behind : PassedFrame → PassedLine = λ p. let rest = line_pass xs p.frame in
    record { frame = rest.frame; line = p.state ∷ rest.line } in
    let joined : PassedLine → PassedLine = λ rest.
    record { frame = rest.frame; line = first.state ∷ rest.line } in
    ap behind (frame_numbered x b n ds all.0) ∙ ap joined (line_numbered xs b n first.frame all.1)

pub front_numbered : (k : ℕ) (line : List ControllerState) (b : Bool) (n : ℕ) (ds : List DatagramRecord)
    → AreControllers line → front_pass k line (with_number b n ds) ≡ numbered_line b n (front_pass k line ds)
front_numbered k line b n ds all =
    ap (λ (p : PassedLine). record { frame = p.frame; line = p.line ++ drop k line })
    (line_numbered (take k line) b n ds (each-take IsController k line all))

pub back_numbered : (k : ℕ) (line : List ControllerState) (b : Bool) (n : ℕ) (ds : List DatagramRecord)
    → AreControllers line → back_pass k line (with_number b n ds) ≡ numbered_line b n (back_pass k line ds)
back_numbered k line b n ds all =
    ap (λ (p : PassedLine). record { frame = p.frame; line = take k line ++ p.line })
    (line_numbered (drop k line) b n ds (each-drop IsController k line all))

-- ---- the circulating bits

pub circulated_numbered : (b : Bool) (n : ℕ) (ds : List DatagramRecord)
    → circulated (with_number b n ds) ≡ with_number true n (circulated ds)
unfolding carrying
circulated_numbered b n [] = refl
circulated_numbered b n (d ∷ ds) =
    ap (λ (rest : List DatagramRecord). record d { circulating = true } ∷ rest) (circulated_numbered b n ds)

is_circulating_numbered : (n : ℕ) (ds : List DatagramRecord) → is_circulating (numbered n ds) ≡ is_circulating ds
unfolding carrying
is_circulating_numbered n [] = refl
is_circulating_numbered n (d ∷ ds) = refl

-- ---- one copy

-- what a copy made of a line, and where it arrived
abbrev pub way : PassedLine → Option Port → Walked
way p o = record { arrived = option_map (λ port. (p.frame, port)) o; line = p.line }

-- a copy with a number behind it where it arrives
abbrev pub numbered_arrival : Bool → ℕ → List DatagramRecord × Port → List DatagramRecord × Port
numbered_arrival b n x = (with_number b n x.0, x.1)

abbrev pub numbered_walk : Bool → ℕ → Walked → Walked
numbered_walk b n w = record { arrived = option_map (numbered_arrival b n) w.arrived; line = w.line }

way_numbered : (b : Bool) (n : ℕ) (p : PassedLine) (o : Option Port)
    → way (numbered_line b n p) o ≡ numbered_walk b n (way p o)
way_numbered b n p None = refl
way_numbered b n p (Some port) = refl

pub numbered_from_a : (n : ℕ) (ds : List DatagramRecord) (links : Links) (line : List ControllerState)
    → AreControllers line
    → walked_from_a links (numbered n ds) line ≡ numbered_walk false n (walked_from_a links ds line)
unfolding walked_from_a
numbered_from_a n ds links line all =
    let m = length line in
    ap (λ (p : PassedLine). way p (arrival_a links m)) (front_numbered (front links m) line false n ds all)
    ∙ way_numbered false n (front_pass (front links m) line ds) (arrival_a links m)

-- the frame as it starts to be processed
abbrev start : Bool → List DatagramRecord → List DatagramRecord
start turned f = if turned then circulated f else f

start_numbered : (turned : Bool) (n : ℕ) (ds : List DatagramRecord)
    → start turned (numbered n ds) ≡ with_number turned n (start turned ds)
start_numbered true n ds = circulated_numbered false n ds
start_numbered false n ds = refl

either_walk : (gone b : Bool) (n : ℕ) (line : List ControllerState) (y : Walked)
    → (if gone then record { arrived = None; line = line } else numbered_walk b n y)
    ≡ numbered_walk b n (if gone then record { arrived = None; line = line } else y)
either_walk true b n line y = refl
either_walk false b n line y = refl

pub numbered_from_b : (n : ℕ) (ds : List DatagramRecord) (links : Links) (line : List ControllerState)
    → AreControllers line
    → walked_from_b links (numbered n ds) line
    ≡ numbered_walk (turns links (length line)) n (walked_from_b links ds line)
unfolding walked_from_b
numbered_from_b n ds links line all =
    let m = length line in
    let turned : Bool = turns links m in
    let gone : Walked = record { arrived = None; line = line } in
    let passed : List DatagramRecord → Walked = λ f.
    way (back_pass (back links m) line f) (arrival_b links m) in
    let sure : passed (start turned (numbered n ds)) ≡ numbered_walk turned n (passed (start turned ds)) =
    ap passed (start_numbered turned n ds)
    ∙ ap (λ (p : PassedLine). way p (arrival_b links m))
    (back_numbered (back links m) line turned n (start turned ds) all)
    ∙ way_numbered turned n (back_pass (back links m) line (start turned ds)) (arrival_b links m) in
    ap (λ (b : Bool). if turned && b then gone else passed (start turned (numbered n ds)))
    (is_circulating_numbered n ds)
    ∙ ap (λ (w : Walked). if turned && is_circulating ds then gone else w) sure
    ∙ either_walk (turned && is_circulating ds) turned n line (passed (start turned ds))

-- does a copy from a port turn
abbrev pub turned_from : Port → Links → ℕ → Bool
turned_from A links n = false
turned_from B links n = turns links n

pub numbered_from : (n : ℕ) (ds : List DatagramRecord) (from : Port) (links : Links)
    (line : List ControllerState) → AreControllers line
    → walked from links (numbered n ds) line
    ≡ numbered_walk (turned_from from links (length line)) n (walked from links ds line)
numbered_from n ds A links line all = numbered_from_a n ds links line all
numbered_from n ds B links line all = numbered_from_b n ds links line all

-- ---- opened

arrival_opened : (b : Bool) (n : ℕ) (o : Option (List DatagramRecord × Port))
    → option_map opened_arrival (option_map (numbered_arrival b n) o) ≡ o
arrival_opened b n None = refl
arrival_opened b n (Some x) =
    ap (λ (f : List DatagramRecord). Some (f, x.1)) (opened-with_number b n x.0)

walk_opened : (b : Bool) (n : ℕ) (w : Walked) → opened_walk (numbered_walk b n w) ≡ w
walk_opened b n w =
    ap (λ (o : Option (List DatagramRecord × Port)). record { arrived = o; line = w.line })
    (arrival_opened b n w.arrived)

pub walked-numbered : (n : ℕ) (ds : List DatagramRecord) (from : Port) (links : Links)
    (line : List ControllerState) → AreControllers line
    → opened_walk (walked from links (numbered n ds) line) ≡ walked from links ds line
walked-numbered n ds from links line all =
    ap opened_walk (numbered_from n ds from links line all)
    ∙ walk_opened (turned_from from links (length line)) n (walked from links ds line)

-- ---- both copies

came_opened : (lost : Bool) (w : Walked) → came_of lost (opened_walk w) ≡ option_map opened (came_of lost w)
came_opened true w = refl
came_opened false w = frame_opened w.arrived
  where
    frame_opened : (o : Option (List DatagramRecord × Port))
        → option_map (λ (x : List DatagramRecord × Port). x.0) (option_map opened_arrival o)
        ≡ option_map opened (option_map (λ (x : List DatagramRecord × Port). x.0) o)
    frame_opened None = refl
    frame_opened (Some x) = refl

came_without : (lost b : Bool) (n : ℕ) (w : Walked)
    → option_map opened (came_of lost (numbered_walk b n w)) ≡ came_of lost w
came_without lost b n w =
    sym (came_opened lost (numbered_walk b n w)) ∙ ap (λ (x : Walked). came_of lost x) (walk_opened b n w)

-- controllers behind a walk are controllers
pub a_is : (links : Links) (ds : List DatagramRecord) (line : List ControllerState) → AreControllers line
    → AreControllers (walked_from_a links ds line).line
unfolding walked_from_a
a_is links ds line all = front_is (front links (length line)) line ds all

either_is : (gone : Bool) (line : List ControllerState) (w : Walked) → AreControllers line
    → AreControllers w.line
    → AreControllers (if gone then record { arrived = None; line = line } else w).line
either_is true line w all behind = all
either_is false line w all behind = behind

pub b_is : (links : Links) (ds : List DatagramRecord) (line : List ControllerState) → AreControllers line
    → AreControllers (walked_from_b links ds line).line
unfolding walked_from_b
b_is links ds line all =
    let m = length line in
    let turned : Bool = turns links m in
    let begins : List DatagramRecord = start turned ds in
    either_is (turned && is_circulating ds) line
    (way (back_pass (back links m) line begins) (arrival_b links m)) all
    (back_is (back links m) line begins all)

two_a_numbered : (na nb : ℕ) (f g : List DatagramRecord) (w : Weather) (line : List ControllerState)
    → AreControllers line
    → opened_trip (two_a_first w (numbered na f) (numbered nb g) line) ≡ two_a_first w f g line
two_a_numbered na nb f g w line all =
    let a : Walked = walked_from_a w.a f line in
    let b : Walked = walked_from_b w.b g a.line in
    let turned : Bool = turns w.b (length a.line) in
    let behind : Walked → Travelled = λ v. let u = walked_from_b w.b (numbered nb g) v.line in
    record {
      came = record {
        a = option_map opened (came_of w.lost_a v);
        b = option_map opened (came_of w.lost_b u);
      };
      line = u.line;
    } in
    let after : Walked → Travelled = λ u.
    record {
      came = record {
        a = option_map opened (came_of w.lost_a (numbered_walk false na a));
        b = option_map opened (came_of w.lost_b u);
      };
      line = u.line;
    } in
    ap behind (numbered_from_a na f w.a line all)
    ∙ ap after (numbered_from_b nb g w.b a.line (a_is w.a f line all))
    ∙ ap (λ (o : Option (List DatagramRecord)). record {
      came = record { a = o; b = option_map opened (came_of w.lost_b (numbered_walk turned nb b)) };
      line = b.line;
    }) (came_without w.lost_a false na a)
    ∙ ap (λ (o : Option (List DatagramRecord)). record {
      came = record { a = came_of w.lost_a a; b = o };
      line = b.line;
    }) (came_without w.lost_b turned nb b)

two_b_numbered : (na nb : ℕ) (f g : List DatagramRecord) (w : Weather) (line : List ControllerState)
    → AreControllers line
    → opened_trip (two_b_first w (numbered na f) (numbered nb g) line) ≡ two_b_first w f g line
two_b_numbered na nb f g w line all =
    let b : Walked = walked_from_b w.b g line in
    let a : Walked = walked_from_a w.a f b.line in
    let turned : Bool = turns w.b (length line) in
    let behind : Walked → Travelled = λ u. let v = walked_from_a w.a (numbered na f) u.line in
    record {
      came = record {
        a = option_map opened (came_of w.lost_a v);
        b = option_map opened (came_of w.lost_b u);
      };
      line = v.line;
    } in
    let after : Walked → Travelled = λ v.
    record {
      came = record {
        a = option_map opened (came_of w.lost_a v);
        b = option_map opened (came_of w.lost_b (numbered_walk turned nb b));
      };
      line = v.line;
    } in
    ap behind (numbered_from_b nb g w.b line all)
    ∙ ap after (numbered_from_a na f w.a b.line (b_is w.b g line all))
    ∙ ap (λ (o : Option (List DatagramRecord)). record {
      came = record { a = option_map opened (came_of w.lost_a (numbered_walk false na a)); b = o };
      line = a.line;
    }) (came_without w.lost_b turned nb b)
    ∙ ap (λ (o : Option (List DatagramRecord)). record {
      came = record { a = o; b = came_of w.lost_b b };
      line = a.line;
    }) (came_without w.lost_a false na a)

either_trip : (first : Bool) (u v p q : Travelled) → opened_trip u ≡ p → opened_trip v ≡ q
    → opened_trip (if first then u else v) ≡ (if first then p else q)
either_trip true u v p q b a = b
either_trip false u v p q b a = a

pub two-numbered : (na nb : ℕ) (f g : List DatagramRecord) (w : Weather) (line : List ControllerState)
    → AreControllers line
    → opened_trip (two_travelled w (numbered na f) (numbered nb g) line) ≡ two_travelled w f g line
unfolding two_travelled
two-numbered na nb f g w line all =
    either_trip w.b_first (two_b_first w (numbered na f) (numbered nb g) line)
    (two_a_first w (numbered na f) (numbered nb g) line) (two_b_first w f g line) (two_a_first w f g line)
    (two_b_numbered na nb f g w line all) (two_a_numbered na nb f g w line all)

-- a trip of one frame twice is its trip
two_same : (w : Weather) (f : List DatagramRecord) (line : List ControllerState)
    → two_travelled w f f line ≡ travelled w f line
unfolding two_travelled travelled
two_same w f line = refl

pub travelled-numbered : (n : ℕ) (w : Weather) (ds : List DatagramRecord) (line : List ControllerState)
    → AreControllers line
    → opened_trip (numbered_trip n w ds line) ≡ travelled w ds line
travelled-numbered n w ds line all =
    two-numbered (number_a n) (number_b n) ds ds w line all ∙ two_same w ds line

-- controllers behind a trip with a number are controllers
pub numbered_is : (n : ℕ) (w : Weather) (ds : List DatagramRecord) (line : List ControllerState)
    → AreControllers line
    → AreControllers (numbered_trip n w ds line).line
unfolding two_travelled
numbered_is n w ds line all =
    let a : List DatagramRecord = numbered (number_a n) ds in
    let b : List DatagramRecord = numbered (number_b n) ds in
    let P : Bool → Type 0 = λ first.
    AreControllers (if first then two_b_first w a b line else two_a_first w a b line).line in
    elim w.b_first as P [
      | true ↦ a_is w.a a (walked_from_b w.b b line).line (b_is w.b b line all)
      | false ↦ b_is w.b b (walked_from_a w.a a line).line (a_is w.a a line all)
    ]
