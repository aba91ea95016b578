-- The copies of a trip of a broadcast read are heard as the links have it, each that was not lost.
use Rattle.std.specs.Prelude.{if◌then◌else◌}
use Rattle.std.proofs.Common.{◌≡◌, ℕ, ◌≤◌, Bool, true, false, cond, List, [], ◌∷◌, length, Option, None, Some}
use Rattle.std.proofs.Common.{Ok}
use Rattle.std.proofs.Common.{arith, refl, sym, ap, subst, ◌∙◌}
use Rattle.std.specs.Option.{option_map, option_and_then}
use Rattle.ec_wire.specs.Datagram.{DatagramRecord, nth}
use Rattle.ec_esc.specs.State.{ControllerState}
use Rattle.ec_esc.specs.declared.counting.TheConstants.{MOST_CONTROLLERS}
use Rattle.ec_ring.specs.Arrivals.{arrival_of, arrivals_a_first, arrivals_b_first, arrivals_of}
use Rattle.ec_ring.specs.Walk.{Walked, walked_from_a, walked_from_b}
use Rattle.ec_ring.specs.Weather.{calm}
use Rattle.ec_ring.specs.declared.arrivals.Arrival.{Arrival}
use Rattle.ec_ring.specs.declared.links.Links.{Links}
use Rattle.ec_ring.specs.declared.port.Port.{Port}
use Rattle.ec_ring.specs.declared.weather.Weather.{Weather}
use Rattle.ec_ring.specs.Arrivals.{RingArrivals}
use Rattle.ec_ring.specs.Ring.{RingState, line_of}
use Rattle.ec_ring.specs.declared.links.TheConstants.{MAX_SLAVES}
use Rattle.ec_ring.proofs.Laws.{length-walked_from_a, length-walked_from_b, length-controllers}
use Rattle.ec_diag.specs.Arrivals.{heard_arrival, with_arrivals, probe, located_of, IsLocated}
use Rattle.ec_diag.specs.declared.located.Located.{Located}
use Rattle.ec_diag.specs.Heard.{IsProbe, heard_of, heard_walk, heard_a, heard_b}
use Rattle.ec_diag.specs.Located.{seen, Tells}
use Rattle.ec_diag.specs.Join.{with_heard, CanCome}
use Rattle.ec_diag.specs.declared.heard.Heard.{Heard}
use Rattle.ec_diag.specs.declared.located.Located.TheVariants.{Unknown}
use Rattle.ec_diag.proofs.JoinLemmas.{both_seen, come_a, come_b, arrivals_exact}
use Rattle.ec_diag.proofs.WalkLemmas.{walk_heard_a, walk_heard_b}

-- what is heard of a copy, unless the weather lost it
abbrev pub unless : Bool → Option Heard → Option Heard
unless lost o = if lost then None else o

heard_unless : (d : DatagramRecord) (lost : Bool) (o : Option (List DatagramRecord × Port))
    → option_and_then (λ (x : Arrival). heard_of d (nth x.frame 0) x.at)
    (if lost then None
    else option_map (λ (x : List DatagramRecord × Port). record { frame = x.0; at = x.1 }) o)
    ≡ unless lost (option_and_then (λ (x : List DatagramRecord × Port). heard_of d (nth x.0 0) x.1) o)
heard_unless d true o = refl
heard_unless d false None = refl
heard_unless d false (Some x) = refl

heard_arrived : (d : DatagramRecord) (lost : Bool) (w : Walked)
    → heard_arrival (d ∷ []) (arrival_of lost w) ≡ unless lost (heard_walk d w)
heard_arrived d lost w = heard_unless d lost w.arrived

arrived_a : (lost : Bool) (links : Links) (line : List ControllerState) (d : DatagramRecord)
    → length line ≤ MOST_CONTROLLERS → IsProbe d
    → heard_arrival (d ∷ []) (arrival_of lost (walked_from_a links (d ∷ []) line))
    ≡ unless lost (heard_a links (length line))
arrived_a lost links line d room is =
    heard_arrived d lost (walked_from_a links (d ∷ []) line)
    ∙ ap (unless lost) (walk_heard_a links line d room is)

arrived_b : (lost : Bool) (links : Links) (line : List ControllerState) (d : DatagramRecord)
    → length line ≤ MOST_CONTROLLERS → IsProbe d
    → heard_arrival (d ∷ []) (arrival_of lost (walked_from_b links (d ∷ []) line))
    ≡ unless lost (heard_b links (length line))
arrived_b lost links line d room is =
    heard_arrived d lost (walked_from_b links (d ∷ []) line)
    ∙ ap (unless lost) (walk_heard_b links line d room is)

-- ---- both copies of a trip

pub trip_heard_a : (w : Weather) (line : List ControllerState) (d : DatagramRecord)
    → length line ≤ MOST_CONTROLLERS → IsProbe d
    → heard_arrival (d ∷ []) (arrivals_of w (d ∷ []) line).a ≡ unless w.lost_a (heard_a w.a (length line))
unfolding arrivals_of
trip_heard_a w line d room is =
    let P : Bool → Type 0 = λ x.
    heard_arrival (d ∷ []) (cond x (arrivals_b_first w (d ∷ []) line) (arrivals_a_first w (d ∷ []) line)).a
    ≡ unless w.lost_a (heard_a w.a (length line)) in
    let b : Walked = walked_from_b w.b (d ∷ []) line in
    let size : length b.line ≡ length line = length-walked_from_b w.b (d ∷ []) line in
    elim w.b_first as P [
      | true ↦
          arrived_a w.lost_a w.a b.line d (omega arith) is
          ∙ ap (λ (n : ℕ). unless w.lost_a (heard_a w.a n)) size
      | false ↦ arrived_a w.lost_a w.a line d room is
    ]

pub trip_heard_b : (w : Weather) (line : List ControllerState) (d : DatagramRecord)
    → length line ≤ MOST_CONTROLLERS → IsProbe d
    → heard_arrival (d ∷ []) (arrivals_of w (d ∷ []) line).b ≡ unless w.lost_b (heard_b w.b (length line))
unfolding arrivals_of
trip_heard_b w line d room is =
    let P : Bool → Type 0 = λ x.
    heard_arrival (d ∷ []) (cond x (arrivals_b_first w (d ∷ []) line) (arrivals_a_first w (d ∷ []) line)).b
    ≡ unless w.lost_b (heard_b w.b (length line)) in
    let a : Walked = walked_from_a w.a (d ∷ []) line in
    let size : length a.line ≡ length line = length-walked_from_a w.a (d ∷ []) line in
    elim w.b_first as P [
      | true ↦ arrived_b w.lost_b w.b line d room is
      | false ↦
          arrived_b w.lost_b w.b a.line d (omega arith) is
          ∙ ap (λ (n : ℕ). unless w.lost_b (heard_b w.b n)) size
    ]

-- ---- what they tell is so, where they travel under the same links

come_unless_a : (links : Links) (n : ℕ) (lost : Bool) → CanCome links n (unless lost (heard_a links n))
come_unless_a links n true = tt
come_unless_a links n false = come_a links n (heard_a links n) refl

come_unless_b : (links : Links) (n : ℕ) (lost : Bool) → CanCome links n (unless lost (heard_b links n))
come_unless_b links n true = tt
come_unless_b links n false = come_b links n (heard_b links n) refl

pub trip_tells : (w : Weather) (line : List ControllerState) (d : DatagramRecord)
    → length line ≤ MOST_CONTROLLERS → IsProbe d → w.a ≡ w.b
    → Tells (with_arrivals (length line) Unknown (d ∷ []) (arrivals_of w (d ∷ []) line)) w.a (length line)
trip_tells w line d room is same =
    let n : ℕ = length line in
    let a : Option Heard = heard_arrival (d ∷ []) (arrivals_of w (d ∷ []) line).a in
    let b : Option Heard = heard_arrival (d ∷ []) (arrivals_of w (d ∷ []) line).b in
    let C : Option Heard → Type 0 = λ o. CanCome w.a n o in
    let L : Links → Type 0 = λ links. CanCome links n b in
    let D : Option Heard → Type 0 = λ o. CanCome w.b n o in
    let one : CanCome w.a n a =
    subst C (sym (trip_heard_a w line d room is)) (come_unless_a w.a n w.lost_a) in
    let other : CanCome w.b n b =
    subst D (sym (trip_heard_b w line d room is)) (come_unless_b w.b n w.lost_b) in
    (arrivals_exact w.a n Unknown a b).0 (tt, one, subst L (sym same) other)

-- ---- the probe, under calm weather

pub probe_is : IsProbe probe
probe_is = record {
  command = refl;
  some = omega arith;
  registers = omega arith;
  still = refl;
  counter = omega arith;
}

pub calm_seen : (links : Links) (line : List ControllerState) → length line ≤ MOST_CONTROLLERS
    → with_arrivals (length line) Unknown (probe ∷ []) (arrivals_of (calm links) (probe ∷ []) line)
    ≡ seen links (length line)
calm_seen links line room =
    let n : ℕ = length line in
    let a = trip_heard_a (calm links) line probe room probe_is in
    let b = trip_heard_b (calm links) line probe room probe_is in
    ap (λ (o : Option Heard). with_heard n (with_heard n Unknown o)
    (heard_arrival (probe ∷ []) (arrivals_of (calm links) (probe ∷ []) line).b)) a
    ∙ ap (λ (o : Option Heard). with_heard n (with_heard n Unknown (heard_a links n)) o) b
    ∙ both_seen links n

-- what is located over a ring is what is seen of its links
pub ring_seen : (before later : RingState) (n : ℕ) (located : Located) → n ≡ length before.slaves
    → length before.slaves ≤ MAX_SLAVES
    → IsLocated RingArrivals before n (Ok located) later
    → located ≡ seen before.links (length before.slaves)
ring_seen before later n located size room is =
    let line : List ControllerState = line_of before in
    let count : length line ≡ length before.slaves = length-controllers before.slaves in
    let brought : is.came ≡ Ok (arrivals_of (calm before.links) (probe ∷ []) line) = is.made.0 in
    let told : Ok located ≡ located_of n is.came = is.located in
    let known : Ok located ≡ located_of n (Ok (arrivals_of (calm before.links) (probe ∷ []) line)) =
    told ∙ ap (located_of n) brought in
    let same : located
    ≡ with_arrivals n Unknown (probe ∷ []) (arrivals_of (calm before.links) (probe ∷ []) line) = cc in
    same
    ∙ ap (λ (k : ℕ).
    with_arrivals k Unknown (probe ∷ []) (arrivals_of (calm before.links) (probe ∷ []) line))
    (size ∙ sym count)
    ∙ calm_seen before.links line (omega arith)
    ∙ ap (λ (k : ℕ). seen before.links k) count
