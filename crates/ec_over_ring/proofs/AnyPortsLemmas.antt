-- A call that recovers over any ports that are a ring in some weather: what it comes to is what it comes to
-- over that ring.
use Rattle.std.proofs.Common.{◌≡◌, ℕ, zero, suc, List, [], ◌∷◌, length, Option, None, Some, Result, Ok, Err}
use Rattle.std.proofs.Common.{ap}
use Rattle.ec_wire.specs.Datagram.{DatagramRecord}
use Rattle.ec_app.specs.State.{SlaveState}
use Rattle.ec_app.specs.declared.mail.Mail.{Mail}
use Rattle.ec_app.specs.declared.sdo.Sdo.{Sdo}
use Rattle.ec_app.specs.declared.sdo.Sdo.TheVariants.{Upload, Download}
use Rattle.ec_app.specs.declared.value.Value.{Value}
use Rattle.ec_ring.specs.Ring.{RingState}
use Rattle.ec_ring.specs.declared.port.PortFault.{PortFault}
use Rattle.ec_ring.specs.declared.weather.Came.{Came}
use Rattle.ec_ring.specs.Weather.{calm}
use Rattle.ec_master.specs.Ports.{Trips}
use Rattle.ec_master.specs.RingTrips.{RingTrips}
use Rattle.ec_services.specs.Course.{IsStep, Runs}
use Rattle.ec_services.specs.Mailbox.{IsPeer}
use Rattle.ec_services.specs.Progress.{Known}
use Rattle.ec_services.specs.Surely.{IsSure, asking, begun, next_sent}
use Rattle.ec_services.specs.Transfer.{downloaded_by, uploaded_by, uploading, downloading, service_of}
use Rattle.ec_services.specs.declared.fault.MasterFault.{MasterFault}
use Rattle.ec_services.specs.declared.mailbox.Peer.{Peer}
use Rattle.ec_over_ring.specs.Recovery.{ComesSo, HasSlave, IsInWeather, RingHistory, WeatherSteps, begun_ring}
use Rattle.ec_over_ring.specs.Recovery.{slave_at, value_at}
use Rattle.ec_over_ring.specs.Transfers.{IsRequest}
use Rattle.ec_over_ring.proofs.RingRecoveryLemmas.{ring_downloaded, ring_uploaded}

-- ---- any ports

-- a ring and what it was before
abbrev since : List RingState → RingState → RingHistory
since past r = record { now = r; past = past }

-- ports that are a ring: each of their trips is one of that ring in some weather
abbrev pub AreRing : {P : Type 0} → Trips P → (P → RingState) → Type 0
AreRing {P} trips ring =
    (x y : P) (frame : List DatagramRecord) (came : Result Came PortFault) → trips x frame came y
    → IsInWeather (ring x) frame came (ring y)

record RunsOver {P : Type 0} (ring : P → RingState) (n : ℕ) (asked : Sdo) (p last : Known)
    (past : List RingState) (x later : P) (result : Result Mail MasterFault) : Type 0 where
  gone : List RingState
  runs : Runs WeatherSteps (since past (ring x)) (asking asked) p n result last (since gone (ring later))

step_of : {P : Type 0} (trips : Trips P) (ring : P → RingState) → AreRing trips ring → (asked : Sdo)
    (p learned : Known) (past : List RingState) (x y : P) (decided : Result (Option Mail) MasterFault)
    → IsStep trips x (asking asked) p decided learned y
    → IsStep WeatherSteps (since past (ring x)) (asking asked) p decided learned
    (since (ring x ∷ past) (ring y))
step_of trips ring are asked p learned past x y decided step =
    let so : IsInWeather (ring x) (next_sent asked p ∷ []) step.asks.came (ring y) =
    are x y (next_sent asked p ∷ []) step.asks.came step.asks.made in
    record {
      answer = step.answer;
      asks = record {
        came = step.asks.came;
        made = record {
          weather = so.weather;
          comes = so.comes;
          later_is = ap (λ (r : RingState). since (ring x ∷ past) r) so.later_is;
        };
        brings = step.asks.brings;
      };
      decides = step.decides;
      learns = step.learns;
    }

runs_of : {P : Type 0} (trips : Trips P) (ring : P → RingState) → AreRing trips ring → (n : ℕ)
    (asked : Sdo) (p last : Known) (past : List RingState) (x later : P) (result : Result Mail MasterFault)
    → Runs trips x (asking asked) p n result last later → RunsOver ring n asked p last past x later result
unfolding Runs
runs_of trips ring are zero asked p last past x later result (result_is, last_is, later_is) = record {
  gone = past;
  runs = (result_is, last_is, ap (λ y. since past (ring y)) later_is);
}
runs_of trips ring are (suc n) asked p last past x later result (Err fault, learned, y, step, left) = record {
  gone = ring x ∷ past;
  runs = (
    Err fault,
    learned,
    since (ring x ∷ past) (ring y),
    step_of trips ring are asked p learned past x y (Err fault) step,
    (left.0, left.1, ap (λ z. since (ring x ∷ past) (ring z)) left.2),
  );
}
runs_of trips ring are (suc n) asked p last past x later result (Ok (Some mail), learned, y, step, left) =
    record {
      gone = ring x ∷ past;
      runs = (
        Ok (Some mail),
        learned,
        since (ring x ∷ past) (ring y),
        step_of trips ring are asked p learned past x y (Ok (Some mail)) step,
        (left.0, left.1, ap (λ z. since (ring x ∷ past) (ring z)) left.2),
      );
    }
runs_of trips ring are (suc n) asked p last past x later result (Ok None, learned, y, step, left) =
    let rest : RunsOver ring n asked learned last (ring x ∷ past) y later result =
    runs_of trips ring are n asked learned last (ring x ∷ past) y later result left in
    record {
      gone = rest.gone;
      runs = (
        Ok None,
        learned,
        since (ring x ∷ past) (ring y),
        step_of trips ring are asked p learned past x y (Ok None) step,
        rest.runs,
      );
    }

-- a call over them is one over the ring, with a past
pub record IsOverRing {P A : Type 0} (ring : P → RingState) (peer peer_later : Peer) (asked : Sdo) (limit : ℕ)
    (comes_to : Mail → Result A MasterFault) (x later : P) (result : Result A MasterFault) : Type 0 where
  pub gone : List RingState
  pub sure : IsSure WeatherSteps (begun_ring (ring x)) peer (service_of asked comes_to) limit result
      peer_later (record { now = ring later; past = gone })

pub over_any_ports : {P A : Type 0} (trips : Trips P) (ring : P → RingState) → AreRing trips ring
    → (peer peer_later : Peer) (asked : Sdo) (limit : ℕ) (comes_to : Mail → Result A MasterFault)
    (x later : P) (result : Result A MasterFault)
    → IsSure trips x peer (service_of asked comes_to) limit result peer_later later
    → IsOverRing ring peer peer_later asked limit comes_to x later result
over_any_ports trips ring are peer peer_later asked limit comes_to x later result sure =
    let runs : RunsOver ring limit asked (begun peer) sure.last [] x later sure.answer =
    runs_of trips ring are limit asked (begun peer) sure.last [] x later sure.answer sure.runs in
    record {
      gone = runs.gone;
      sure = record {
        answer = sure.answer;
        last = sure.last;
        runs = runs.runs;
        peer_is = sure.peer_is;
        understands = sure.understands;
      };
    }

-- ---- the ports of a ring

comes_ok : (came : Result Came PortFault) (x : Came) → came ≡ Ok x → ComesSo came x
comes_ok (Err failed) x is = absurd (cc)
comes_ok (Ok came) x is = cc

ring_is : AreRing RingTrips (λ (r : RingState). r)
ring_is x y frame came made = record {
  weather = calm x.links;
  comes = comes_ok came _ made.0;
  later_is = made.1;
}

-- whatever links of it are down
pub ports_uploaded : (peer peer_later : Peer) (i j limit : ℕ) (r : RingState)
    (before behind : List SlaveState) (s : SlaveState) (value : Value) (later : RingState)
    → IsPeer peer → HasSlave peer r before s behind → IsRequest (Upload i j)
    → IsSure RingTrips r peer (uploading i j) limit (Ok value) peer_later later
    → value_at i j (slave_at (length before) s later).application.objects ≡ Some value
ports_uploaded peer peer_later i j limit r before behind s value later peer_is has fits sure =
    let over = over_any_ports RingTrips (λ (x : RingState). x) ring_is peer peer_later (Upload i j) limit
    uploaded_by r later (Ok value) sure in
    ring_uploaded peer peer_later i j limit r before behind s value
    (record { now = later; past = over.gone }) peer_is has fits over.sure

pub ports_downloaded : (peer peer_later : Peer) (i j : ℕ) (value : Value) (limit : ℕ) (r : RingState)
    (before behind : List SlaveState) (s : SlaveState) (later : RingState)
    → IsPeer peer → HasSlave peer r before s behind → IsRequest (Download i j value)
    → IsSure RingTrips r peer (downloading i j value) limit (Ok tt) peer_later later
    → value_at i j (slave_at (length before) s later).application.objects ≡ Some value
ports_downloaded peer peer_later i j value limit r before behind s later peer_is has fits sure =
    let over = over_any_ports RingTrips (λ (x : RingState). x) ring_is peer peer_later (Download i j value)
    limit downloaded_by r later (Ok tt) sure in
    ring_downloaded peer peer_later i j value limit r before behind s
    (record { now = later; past = over.gone }) peer_is has fits over.sure
