-- A copy's way as a pass of a piece of the line.
use Rattle.std.specs.Prelude.{◌≡◌, ℕ, Bool, true, false, ◌&&◌, if◌then◌else◌, List, length, refl}
use Rattle.std.specs.Prelude.{Option, None}
use Rattle.std.specs.Option.{option_map}
use Rattle.std.proofs.Common.{ap, sym, ◌∙◌}
use Rattle.ec_app.specs.State.{SlaveState}
use Rattle.ec_esc.specs.State.{ControllerState}
use Rattle.ec_line.specs.Trip.{PassedLine, front_pass, back_pass, circulated}
use Rattle.ec_ring.specs.Reach.{front, back, arrival_a, arrival_b, turns}
use Rattle.ec_ring.specs.Ring.{controllers}
use Rattle.ec_ring.specs.Walk.{Walked, walked_from_a, walked_from_b, is_circulating, piece_pass}
use Rattle.ec_ring.specs.declared.links.Links.{Links}
use Rattle.ec_ring.specs.declared.port.Port.{Port}
use Rattle.ec_ring.proofs.PassLemmas.{piece_pass-front, piece_pass-back}
use Rattle.ec_ring.proofs.RingLemmas.{length-controllers}
use Rattle.ec_wire.specs.Datagram.{DatagramRecord}

-- what a copy made of a line, and where it arrived
abbrev pub way : PassedLine → Option Port → Walked
way p o = record { arrived = option_map (λ port. (p.frame, port)) o; line = p.line }

-- ---- copy A passes the first piece

pub way-of-a : (links : Links) (n : ℕ) (line : List ControllerState) (f : List DatagramRecord)
    → n ≡ length line
    → walked_from_a links f line ≡ way (front_pass (front links n) line f) (arrival_a links n)
unfolding walked_from_a
way-of-a links n line f size = rw size refl

pub way_a : (links : Links) (n p : ℕ) (ss : List SlaveState) (f : List DatagramRecord) → n ≡ length ss
    → p ≡ front links n
    → walked_from_a links f (controllers ss) ≡ way (piece_pass 0 p (controllers ss) f) (arrival_a links n)
way_a links n p ss f size reach =
    way-of-a links n (controllers ss) f (size ∙ sym (length-controllers ss))
    ∙ ap (λ (x : PassedLine). way x (arrival_a links n))
    (sym (piece_pass-front (front links n) (controllers ss) f))
    ∙ ap (λ (k : ℕ). way (piece_pass 0 k (controllers ss) f) (arrival_a links n)) (sym reach)

-- ---- copy B passes the last one

-- the frame as it starts to be processed, where it is not destroyed: whether it turned round or not
pub record IsStart (turned : Bool) (f g : List DatagramRecord) : Type 0 where
  pub frame : g ≡ (if turned then circulated f else f)
  pub kept : (turned && is_circulating f) ≡ false

pub start-turned : (b : Bool) (f g : List DatagramRecord) → b ≡ true → is_circulating f ≡ false
    → g ≡ circulated f → IsStart b f g
start-turned b f g turned still is = record { frame = rw turned is; kept = rw (turned, still) refl }

pub start-through : (b : Bool) (f g : List DatagramRecord) → b ≡ false → g ≡ f → IsStart b f g
start-through b f g through is = record { frame = rw through is; kept = rw through refl }

-- a frame that does not circulate yet is not destroyed
kept : (b c : Bool) → c ≡ false → (b && c) ≡ false
kept true c still = still
kept false c still = refl

pub start-still : (b : Bool) (f : List DatagramRecord) → is_circulating f ≡ false
    → IsStart b f (if b then circulated f else f)
start-still b f still = record { frame = refl; kept = kept b (is_circulating f) still }

pub way-of-b : (links : Links) (n : ℕ) (line : List ControllerState) (f g : List DatagramRecord)
    → n ≡ length line
    → IsStart (turns links n) f g
    → walked_from_b links f line ≡ way (back_pass (back links n) line g) (arrival_b links n)
unfolding walked_from_b
way-of-b links n line f g size starts =
    let none : (turns links (length line) && is_circulating f) ≡ false = rw size at starts.kept in
    rw (starts.frame, size, none) refl

pub way_b : (links : Links) (n q : ℕ) (ss : List SlaveState) (f g : List DatagramRecord) → n ≡ length ss
    → q ≡ back links n → IsStart (turns links n) f g
    → walked_from_b links f (controllers ss) ≡ way (piece_pass q n (controllers ss) g) (arrival_b links n)
way_b links n q ss f g size reach starts =
    let whole : n ≡ length (controllers ss) = size ∙ sym (length-controllers ss) in
    way-of-b links n (controllers ss) f g whole starts
    ∙ ap (λ (x : PassedLine). way x (arrival_b links n))
    (sym (piece_pass-back (back links n) (controllers ss) g))
    ∙ ap (λ (k : ℕ). way (piece_pass (back links n) k (controllers ss) g) (arrival_b links n)) (sym whole)
    ∙ ap (λ (k : ℕ). way (piece_pass k n (controllers ss) g) (arrival_b links n)) (sym reach)

pub destroyed_b : (links : Links) (n : ℕ) (ss : List SlaveState) (f : List DatagramRecord) → n ≡ length ss
    → turns links n ≡ true → is_circulating f ≡ true
    → walked_from_b links f (controllers ss) ≡ record { arrived = None; line = controllers ss }
unfolding walked_from_b
destroyed_b links n ss f size turned circulating =
    let whole : n ≡ length (controllers ss) = size ∙ sym (length-controllers ss) in
    let here : turns links (length (controllers ss)) ≡ true = rw whole at turned in
    rw (here, circulating) refl

-- ---- a frame that arrived

pub arrived-way : (w : Walked) (p : PassedLine) (o m : Option Port) (f : List DatagramRecord) → w ≡ way p o
    → f ≡ p.frame → m ≡ o → option_map (λ port. (f, port)) m ≡ w.arrived
arrived-way w p o m f is frame port = rw (is, frame, port) refl
