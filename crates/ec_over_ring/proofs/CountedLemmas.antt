-- The slaves of a ring with at most one link down are counted: both copies together pass each of them once.
use Rattle.std.proofs.Common.{◌≡◌, ℕ, ◌+◌, ◌<◌, ◌≤◌, Bool, true, List, [], ◌∷◌, length, take, drop}
use Rattle.std.proofs.Common.{Result, Ok, Err, refl, sym, ap, ◌∙◌, arith, subst, inl}
use Rattle.std.specs.Prelude.{is_none}
use Rattle.std.proofs.Math.Seq.{drop-length}
use Rattle.std.proofs.lemmas.List.{length-append, take-append-drop}
use Rattle.ec_wire.specs.Datagram.{DatagramRecord}
use Rattle.ec_merge.specs.Frames.{IsOwn}
use Rattle.ec_esc.specs.State.{ControllerState}
use Rattle.ec_line.specs.Trip.{Passed}
use Rattle.ec_ring.specs.Links.{IsOnlyDown}
use Rattle.ec_ring.specs.Reach.{arrival_a, arrival_b, back, front, turns}
use Rattle.ec_ring.specs.Ring.{RingState, line_of}
use Rattle.ec_ring.specs.Travel.{Travelled, travelled}
use Rattle.ec_ring.specs.Weather.{calm}
use Rattle.ec_ring.specs.declared.links.Links.{Links}
use Rattle.ec_ring.specs.declared.port.PortFault.{PortFault}
use Rattle.ec_ring.specs.declared.weather.Came.{Came}
use Rattle.ec_ring.proofs.Laws.{front-is-back, length-controllers, lost-back, lost-front}
use Rattle.ec_master.specs.RingTrips.{RingTrips}
use Rattle.ec_services.specs.Ask.{Answer, Brings}
use Rattle.ec_services.specs.Stations.{status_broadcast}
use Rattle.ec_services.specs.declared.fault.MasterFault.{MasterFault}
use Rattle.ec_run.specs.Ask.{joined_by}
use Rattle.ec_run.specs.Counting.{IsCounted, count_of}
use Rattle.ec_over_ring.specs.Brought.{ReachesAll}
use Rattle.ec_over_ring.proofs.AddressedLemmas.{IsOnItsWay, way_trip}
use Rattle.ec_over_ring.proofs.CableLemmas.{pieces_pass, travelled_both}
use Rattle.ec_over_ring.proofs.CountLemmas.{AreCounted, are_counted, own_broadcast, sent_broadcast}
use Rattle.ec_over_ring.proofs.FoundLemmas.{IsMild}
use Rattle.ec_over_ring.proofs.HoldersLemmas.{lost_one, told_or_lost}
use Rattle.ec_over_ring.proofs.PlacedLemmas.{TellsCount, own_answer, own_or_lost}
use Rattle.ec_over_ring.proofs.TransferLemmas.{have_controllers}
use Rattle.ec_over_ring.proofs.TripKeepsLemmas.{AreControllers}
use Rattle.ec_over_ring.proofs.WayLemmas.{came_back}

pieces_tell : (lost_a lost_b : Bool) (i j : ℕ) (line : List ControllerState) (p : Passed) (answer : Answer)
    → AreCounted i j line p → i + j < 65536 → (lost_a ≡ true → i ≡ 0) → (lost_b ≡ true → j ≡ 0)
    → Brings status_broadcast (Ok (came_back lost_a lost_b p).came) answer → TellsCount answer (i + j)
pieces_tell lost_a lost_b i j line p answer are small none_a none_b brings =
    let d : DatagramRecord = status_broadcast in
    own_answer d (came_back lost_a lost_b p).came answer i j refl
    (told_or_lost lost_a i d are.a p.a none_a refl are.first are.a_is.counter)
    (told_or_lost lost_b j d are.b p.b none_b refl are.second are.b_is.counter)
    small
    (own_or_lost lost_a d p.a
    (subst (λ (f : List DatagramRecord). IsOwn (d ∷ []) f) (sym are.first) (own_broadcast i are.a are.a_is))
    (own_broadcast 0 d sent_broadcast))
    (own_or_lost lost_b d p.b
    (subst (λ (f : List DatagramRecord). IsOwn (d ∷ []) f) (sym are.second) (own_broadcast j are.b are.b_is))
    (own_broadcast 0 d sent_broadcast))
    brings

-- over a line with at most one link down the answer tells how many controllers there are
line_tells : (links : Links) (down : ℕ) (line : List ControllerState) (answer : Answer)
    → AreControllers line → IsOnlyDown links (length line) down → length line ≤ 256
    → Brings status_broadcast (Ok (travelled (calm links) (status_broadcast ∷ []) line).came) answer
    → TellsCount answer (length line)
line_tells links down line answer are one limit brings =
    let n : ℕ = length line in
    let p : ℕ = front links n in
    let q : ℕ = back links n in
    let meet : p ≡ q = front-is-back links n down one in
    let i : ℕ = length (take p line) in
    let j : ℕ = length (drop q line) in
    let parts : i + j ≡ n =
    ap (λ (m : ℕ). i + length (drop m line)) (sym meet)
    ∙ sym (length-append (take p line) (drop p line))
    ∙ ap (λ (xs : List ControllerState). length xs) (take-append-drop p line) in
    subst (TellsCount answer) parts
    (pieces_tell (is_none (arrival_a links n)) (is_none (arrival_b links n)) i j line
    (pieces_pass p q (turns links n) line status_broadcast) answer
    (are_counted p q (turns links n) line are limit) (omega (arith, parts, limit))
    (λ lost. ap (λ (m : ℕ). length (take m line))
    (lost-front links n (lost_one (arrival_a links n) lost)))
    (λ lost. ap (λ (m : ℕ). length (drop m line))
    (lost-back links n (lost_one (arrival_b links n) lost))
    ∙ ap (λ (xs : List ControllerState). length xs) (drop-length line))
    (subst (λ (t : Travelled). Brings status_broadcast (Ok t.came) answer)
    (travelled_both links status_broadcast line refl) brings))

count_told : (answer : Answer) (joined : Result (List DatagramRecord) MasterFault)
    (count : Result ℕ MasterFault) (n : ℕ) → TellsCount answer n → joined ≡ joined_by answer
    → count ≡ count_of joined → count ≡ Ok n
count_told (Err fault) joined count n tells is counts = absurd tells
count_told (Ok back) joined count n tells is counts =
    counts ∙ ap count_of is ∙ ap (λ (k : ℕ). Ok k) tells

broadcast_mild : IsMild status_broadcast
unfolding IsMild
broadcast_mild = inl refl

-- what a count comes to, and the ring behind it
pub record IsCountedSo (count : Result ℕ MasterFault) (r later : RingState) : Type 0 where
  pub count_is : count ≡ Ok (length r.slaves)
  pub way : IsOnItsWay r later

pub ring_counted : (r later : RingState) (count : Result ℕ MasterFault) → ReachesAll r
    → IsCounted RingTrips r count later → IsCountedSo count r later
ring_counted r later count ring counted =
    let asks = counted.puts.asks in
    let size : length (line_of r) ≡ length r.slaves = length-controllers r.slaves in
    let limit : length r.slaves ≤ 256 = ring.slaves.limit in
    let tells : TellsCount counted.puts.answer (length (line_of r)) =
    line_tells r.links ring.down.0 (line_of r) counted.puts.answer
    (have_controllers r.slaves ring.slaves.each)
    (subst (λ (n : ℕ). IsOnlyDown r.links n ring.down.0) (sym size) ring.down.1) (omega (arith, size, limit))
    (subst (λ (x : Result Came PortFault). Brings status_broadcast x counted.puts.answer) asks.made.0
    asks.brings) in
    record {
      count_is = count_told counted.puts.answer counted.joined count (length r.slaves)
          (subst (TellsCount counted.puts.answer) size tells) counted.puts.tells counted.tells;
      way = way_trip r later status_broadcast asks.came ring broadcast_mild asks.made;
    }
