-- The second copy goes over the line that the first one left.
use Rattle.std.specs.Prelude.{◌≡◌, ℕ, suc, ◌+◌, Bool, true, false, ◌&&◌, if◌then◌else◌, refl}
use Rattle.std.specs.Prelude.{List, [], ◌∷◌, length, take, drop}
use Rattle.std.proofs.Common.{arith, ap, sym, ◌∙◌, length-append}
use Rattle.std.proofs.lemmas.List.{take-append-drop}
use Rattle.ec_esc.specs.Pass.{frame_pass}
use Rattle.ec_esc.specs.State.{ControllerState}
use Rattle.ec_line.specs.Trip.{line_pass, front_pass, back_pass, circulated}
use Rattle.ec_ring.specs.Reach.{front, back, turns}
use Rattle.ec_ring.specs.Ring.{RingState, controllers, with_line}
use Rattle.ec_ring.specs.Travel.{Travelled, travelled, with_a_first, with_b_first}
use Rattle.ec_ring.specs.declared.weather.Weather.{Weather}
use Rattle.ec_ring.specs.Walk.{Walked, walked_from_a, walked_from_b, is_circulating}
use Rattle.ec_ring.specs.declared.links.Links.{Links}
use Rattle.ec_ring.proofs.RingLemmas.{length-controllers, controllers-with_controllers}
use Rattle.ec_ring.proofs.RingLemmas.{with_controllers-with_controllers}
use Rattle.ec_wire.specs.Datagram.{DatagramRecord}

-- ---- a copy leaves as many controllers as there were

length-line_pass : (line : List ControllerState) (f : List DatagramRecord)
    → length (line_pass line f).line ≡ length line
unfolding line_pass
length-line_pass [] f = refl
length-line_pass (x ∷ xs) f = ap (λ (n : ℕ). suc n) (length-line_pass xs (frame_pass x f).frame)

length-pieces : (n : ℕ) (line : List ControllerState)
    → length (take n line) + length (drop n line) ≡ length line
length-pieces n line =
    sym (length-append (take n line) (drop n line))
    ∙ ap (λ (xs : List ControllerState). length xs) (take-append-drop n line)

pub length-front_pass : (n : ℕ) (line : List ControllerState) (f : List DatagramRecord)
    → length (front_pass n line f).line ≡ length line
length-front_pass n line f =
    let a = length-append (line_pass (take n line) f).line (drop n line) in
    omega (arith, a, length-line_pass (take n line) f, length-pieces n line)

pub length-back_pass : (n : ℕ) (line : List ControllerState) (f : List DatagramRecord)
    → length (back_pass n line f).line ≡ length line
length-back_pass n line f =
    let a = length-append (take n line) (line_pass (drop n line) f).line in
    omega (arith, a, length-line_pass (drop n line) f, length-pieces n line)

pub length-walked_from_a : (links : Links) (f : List DatagramRecord) (line : List ControllerState)
    → length (walked_from_a links f line).line ≡ length line
unfolding walked_from_a
length-walked_from_a links f line = length-front_pass (front links (length line)) line f

either-length : (b : Bool) (v w : Walked) (n : ℕ) → length v.line ≡ n → length w.line ≡ n
    → length (if b then v else w).line ≡ n
either-length true v w n a b = a
either-length false v w n a b = b

either-trip : (b : Bool) (v w : Travelled) (n : ℕ) → length v.line ≡ n → length w.line ≡ n
    → length (if b then v else w).line ≡ n
either-trip true v w n a b = a
either-trip false v w n a b = b

pub length-walked_from_b : (links : Links) (f : List DatagramRecord) (line : List ControllerState)
    → length (walked_from_b links f line).line ≡ length line
unfolding walked_from_b
length-walked_from_b links f line =
    let n = length line in
    either-length (turns links n && is_circulating f) _ _ n refl
    (length-back_pass (back links n) line (if turns links n then circulated f else f))

pub length-travelled : (w : Weather) (sent : List DatagramRecord) (line : List ControllerState)
    → length (travelled w sent line).line ≡ length line
unfolding travelled
length-travelled w sent line =
    let a : Walked = walked_from_a w.a sent line in
    let b : Walked = walked_from_b w.b sent line in
    either-trip w.b_first (with_b_first w sent line) (with_a_first w sent line) (length line)
    (length-walked_from_a w.a sent b.line ∙ length-walked_from_b w.b sent line)
    (length-walked_from_b w.b sent a.line ∙ length-walked_from_a w.a sent line)

-- ---- the ring between the copies

-- the controllers that the first copy left
pub line-between : (r s : RingState) (line : List ControllerState) → s ≡ with_line r line
    → length line ≡ length (controllers r.slaves)
    → controllers s.slaves ≡ line
line-between r s line is size =
    ap (λ (x : RingState). controllers x.slaves) is
    ∙ controllers-with_controllers r.slaves line (size ∙ length-controllers r.slaves)

-- those that the second one leaves stand in their place
pub with_line-between : (r s : RingState) (line later : List ControllerState) → s ≡ with_line r line
    → length line ≡ length later
    → with_line s later ≡ with_line r later
with_line-between r s line later is size =
    ap (λ (x : RingState). with_line x later) is
    ∙ ap (λ xs. record { slaves = xs; links = r.links })
    (with_controllers-with_controllers r.slaves line later size)
