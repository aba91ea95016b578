-- A call over a ring in any weather is a call of the one slave that it asks.
use Rattle.std.proofs.Common.{◌≡◌, ℕ, zero, suc, ◌<◌, List, [], ◌∷◌, ◌++◌, map, length, get_or, Option, None}
use Rattle.std.proofs.Common.{Some, Result, Ok, Err, refl, sym, ap, ◌∙◌, subst, arith}
use Rattle.std.specs.List.{AllByRecursion}
use Rattle.std.proofs.lemmas.List.{length-map}
use Rattle.ec_regs.proofs.Laws.{each-append, each-back, each-front}
use Rattle.ec_wire.specs.Datagram.{DatagramRecord, adp}
use Rattle.ec_app.specs.Lending.{with_controller}
use Rattle.ec_app.specs.Slave.{step}
use Rattle.ec_app.specs.State.{SlaveState}
use Rattle.ec_app.specs.declared.mail.Mail.{Mail}
use Rattle.ec_app.specs.declared.sdo.Sdo.{Sdo}
use Rattle.ec_ring.specs.Ring.{RingState}
use Rattle.ec_ring.specs.declared.port.PortFault.{PortFault}
use Rattle.ec_ring.specs.declared.weather.Came.{Came}
use Rattle.ec_services.specs.Ask.{Answer, Asks}
use Rattle.ec_services.specs.Course.{IsStep, Runs}
use Rattle.ec_services.specs.Mailbox.{IsPeer}
use Rattle.ec_services.specs.Progress.{Known, any_known}
use Rattle.ec_services.specs.Surely.{IsSure, asking, begun, next_known, next_sent}
use Rattle.ec_services.specs.Transfer.{service_of}
use Rattle.ec_services.specs.declared.fault.MasterFault.{MasterFault}
use Rattle.ec_services.specs.declared.mailbox.Peer.{Peer}
use Rattle.ec_over_ring.specs.Question.{IsByStation}
use Rattle.ec_over_ring.specs.Recovery.{ComesSo, HasFate, HasSlave, History, IsCall, RingHistory, SlaveTrips}
use Rattle.ec_over_ring.specs.Recovery.{WeatherSteps, begun_at, begun_ring, fared, history_at}
use Rattle.ec_over_ring.specs.Recovery.{slave_at, steps_of, times_of}
use Rattle.ec_over_ring.specs.States.{IsElsewhere}
use Rattle.ec_over_ring.specs.Transfers.{HasPeer, IsRequest, IsSlave}
use Rattle.ec_over_ring.proofs.BytesLemmas.{zero_bytes}
use Rattle.ec_over_ring.proofs.CallLemmas.{keeps}
use Rattle.ec_over_ring.proofs.PeerLemmas.{area_bytes}
use Rattle.ec_over_ring.proofs.RecoveryLemmas.{begins}
use Rattle.ec_over_ring.proofs.StationLemmas.{adp_is, others_for, others_step}
use Rattle.ec_over_ring.proofs.TransferLemmas.{AreSlaves, have_controllers, own_slave, steps}
use Rattle.ec_over_ring.proofs.WeatherLemmas.{ring_fate}

-- ---- a place

pub at_place : (before : List SlaveState) (s : SlaveState) (behind : List SlaveState) (other : SlaveState)
    → get_or (before ++ s ∷ behind) (length before) other ≡ s
at_place [] s behind other = refl
at_place (x ∷ before) s behind other = at_place before s behind other

-- the slave at a place has a station alone, and all are slaves
pub record IsOver (station place : ℕ) (other : SlaveState) (r : RingState) : Type 0 where
  pub before : List SlaveState
  pub behind : List SlaveState
  pub size : length before ≡ place
  pub slaves : r.slaves ≡ before ++ slave_at place other r ∷ behind
  pub all : AreSlaves r.slaves
  pub others_before : AllByRecursion (IsElsewhere station) before
  pub others_behind : AllByRecursion (IsElsewhere station) behind

-- the others are slaves
pub record AreAround (before behind : List SlaveState) : Type 0 where
  pub first : AreSlaves before
  pub last : AreSlaves behind

pub around : (station place : ℕ) (other : SlaveState) (r : RingState) (over : IsOver station place other r)
    → AreAround over.before over.behind
around station place other r over =
    let s : SlaveState = slave_at place other r in
    let all : AreSlaves (over.before ++ s ∷ over.behind) =
    subst (λ (ss : List SlaveState). AreSlaves ss) over.slaves over.all in
    let rest : AreSlaves (s ∷ over.behind) = each-back IsSlave over.before (s ∷ over.behind) all in
    record {
      first = each-front IsSlave over.before (s ∷ over.behind) all;
      last = rest.1;
    }

-- ---- a trip

fate_over : (station place : ℕ) (other : SlaveState) (rh later : RingHistory) (d : DatagramRecord)
    (came : Result Came PortFault) → (over : IsOver station place other rh.now) → IsByStation d
    → adp d ≡ station → (trip : WeatherSteps rh (d ∷ []) came later)
    → HasFate trip.weather d rh.now over.before (slave_at place other rh.now) over.behind
fate_over station place other rh later d came over asked named trip =
    let parts : AreAround over.before over.behind = around station place other rh.now over in
    ring_fate trip.weather d rh.now over.before (slave_at place other rh.now) over.behind asked
    (record {
      slaves = over.slaves;
      others_before = others_for d station over.before named over.others_before
          (have_controllers over.before parts.first);
      others_behind = others_for d station over.behind named over.others_behind
          (have_controllers over.behind parts.last);
    })

-- the slaves behind it
pub record IsBehindTrip (place : ℕ) (other : SlaveState) (before behind : List SlaveState) (x : SlaveState)
    (r : RingState) : Type 0 where
  pub slaves : r.slaves ≡ map step before ++ slave_at place other r ∷ map step behind
  pub own : slave_at place other r ≡ x

pub behind_trip : (place : ℕ) (other : SlaveState) (before behind : List SlaveState) (x : SlaveState)
    (r : RingState) → length before ≡ place → r.slaves ≡ map step before ++ x ∷ map step behind
    → IsBehindTrip place other before behind x r
behind_trip place other before behind x r size is =
    let own : slave_at place other r ≡ x =
    ap (λ (ss : List SlaveState). get_or ss place other) is
    ∙ ap (λ (k : ℕ). get_or (map step before ++ x ∷ map step behind) k other)
    (sym (length-map before step ∙ size))
    ∙ at_place (map step before) x (map step behind) other in
    record {
      slaves = is ∙ ap (λ (y : SlaveState). map step before ++ y ∷ map step behind) (sym own);
      own = own;
    }

later_over : (station place : ℕ) (other : SlaveState) (rh later : RingHistory) (d : DatagramRecord)
    (came : Result Came PortFault) → (over : IsOver station place other rh.now) → (asked : IsByStation d)
    → (named : adp d ≡ station) → (trip : WeatherSteps rh (d ∷ []) came later)
    → IsBehindTrip place other over.before over.behind
    (step (with_controller (slave_at place other rh.now)
    (fared (fate_over station place other rh later d came over asked named trip).fate
    (slave_at place other rh.now).controller (d ∷ [])).state)) later.now
later_over station place other rh later d came over asked named trip =
    let fate = fate_over station place other rh later d came over asked named trip in
    behind_trip place other over.before over.behind _ later.now over.size
    (ap (λ (h : RingHistory). h.now.slaves) trip.later_is ∙ fate.slaves)

-- it is one of the slave
comes_by : (came : Result Came PortFault) (x y : Came) → x ≡ y → ComesSo came x → ComesSo came y
comes_by came x y is comes = subst (λ (z : Came). ComesSo came z) is comes

trip_over : (station place : ℕ) (other : SlaveState) (rh later : RingHistory) (d : DatagramRecord)
    (came : Result Came PortFault) → IsOver station place other rh.now → IsByStation d → adp d ≡ station
    → WeatherSteps rh (d ∷ []) came later
    → SlaveTrips (history_at place other rh) (d ∷ []) came (history_at place other later)
trip_over station place other rh later d came over asked named trip =
    let s : SlaveState = slave_at place other rh.now in
    let fate = fate_over station place other rh later d came over asked named trip in
    let f = fared fate.fate s.controller (d ∷ []) in
    let x : SlaveState = with_controller s f.state in
    let now = later_over station place other rh later d came over asked named trip in
    let once : steps_of fate.fate.steps x ≡ step x = ap (λ (n : ℕ). steps_of n x) fate.once in
    let past_is : map (slave_at place other) later.past ≡ times_of (history_at place other rh) =
    ap (λ (h : RingHistory). map (slave_at place other) h.past) trip.later_is in
    record {
      fate = fate.fate;
      comes = comes_by came _ f.came fate.came trip.comes;
      later_is = ap (λ (y : SlaveState).
          record { now = y; past = map (slave_at place other) later.past }) (now.own ∙ sym once)
          ∙ ap (λ (ss : List SlaveState). record { now = steps_of fate.fate.steps x; past = ss }) past_is;
    }

-- and the ring behind it has that slave still
pub next_over : (station place : ℕ) (other : SlaveState) (rh later : RingHistory) (d : DatagramRecord)
    (came : Result Came PortFault) → IsOver station place other rh.now → IsByStation d → adp d ≡ station
    → WeatherSteps rh (d ∷ []) came later → IsSlave (slave_at place other later.now)
    → IsOver station place other later.now
next_over station place other rh later d came over asked named trip own =
    let parts : AreAround over.before over.behind = around station place other rh.now over in
    let now = later_over station place other rh later d came over asked named trip in
    let x : SlaveState = slave_at place other later.now in
    record {
      before = map step over.before;
      behind = map step over.behind;
      size = length-map over.before step ∙ over.size;
      slaves = now.slaves;
      all = subst (λ (ss : List SlaveState). AreSlaves ss) (sym now.slaves)
          (each-append IsSlave (map step over.before) (x ∷ map step over.behind)
          (steps over.before parts.first) (own, steps over.behind parts.last));
      others_before = others_step station over.before over.others_before
          (have_controllers over.before parts.first);
      others_behind = others_step station over.behind over.others_behind
          (have_controllers over.behind parts.last);
    }

-- ---- the datagrams of a call

pub record IsAsked (station : ℕ) (d : DatagramRecord) : Type 0 where
  pub by : IsByStation d
  pub named : adp d ≡ station

abbrev pub AskedBy : Sdo → Known → Type 0
AskedBy asked p =
    IsPeer p.peer → IsRequest asked → p.peer.station < 65536 → IsAsked p.peer.station (next_sent asked p)

pub asked_by : (asked : Sdo) (p : Known) → AskedBy asked p
asked_by asked p =
    any_known (AskedBy asked)
    (λ posted peer is fits small. record {
      by = record { station = refl; circulating = refl; payload = zero_bytes 16; counter = omega arith };
      named = adp_is peer.station 2048 small;
    })
    (λ posted peer is fits small. record {
      by = record {
        station = refl;
        circulating = refl;
        payload = zero_bytes peer.from.length;
        counter = omega arith;
      };
      named = adp_is peer.station peer.from.start small;
    })
    (λ posted peer is fits small. record {
      by = record {
        station = refl;
        circulating = refl;
        payload = area_bytes peer asked is fits;
        counter = omega arith;
      };
      named = adp_is peer.station peer.to.start small;
    }) p

-- its peer keeps the station
abbrev pub KeepsStation : Known → Type 0
KeepsStation p = (answer : Answer) → (next_known p answer).peer.station ≡ p.peer.station

pub station_by : (p : Known) → KeepsStation p
station_by p =
    any_known KeepsStation (λ posted peer answer. refl) (λ posted peer answer. refl)
    (λ posted peer answer. refl) p

-- ---- the trips of a call

-- the call of a ring's slave
pub record IsCalling (asked : Sdo) (place : ℕ) (other : SlaveState) (p : Known) (rh : RingHistory)
    : Type 0 where
  pub over : IsOver p.peer.station place other rh.now
  pub call : IsCall asked p (history_at place other rh)

asks_over : (asked : Sdo) (place : ℕ) (other : SlaveState) (p : Known) (rh later : RingHistory)
    (answer : Answer) → IsRequest asked → IsCalling asked place other p rh
    → Asks WeatherSteps rh (next_sent asked p) answer later
    → Asks SlaveTrips (history_at place other rh) (next_sent asked p) answer (history_at place other later)
asks_over asked place other p rh later answer fits calling asks =
    let sent : IsAsked p.peer.station (next_sent asked p) =
    asked_by asked p calling.call.peer_is fits calling.call.slaves.0.address in
    record {
      came = asks.came;
      made = trip_over p.peer.station place other rh later (next_sent asked p) asks.came calling.over sent.by
          sent.named asks.made;
      brings = asks.brings;
    }

calls_on : (asked : Sdo) (place : ℕ) (other : SlaveState) (p learned : Known) (rh later : RingHistory)
    (answer : Answer) → IsRequest asked → IsCalling asked place other p rh
    → Asks WeatherSteps rh (next_sent asked p) answer later → learned ≡ next_known p answer
    → IsCalling asked place other learned later
calls_on asked place other p learned rh later answer fits calling asks is =
    let sent : IsAsked p.peer.station (next_sent asked p) =
    asked_by asked p calling.call.peer_is fits calling.call.slaves.0.address in
    let call : IsCall asked (next_known p answer) (history_at place other later) =
    keeps asked p (history_at place other rh) (history_at place other later) answer fits calling.call
    (asks_over asked place other p rh later answer fits calling asks) in
    subst (λ (q : Known). IsCalling asked place other q later) (sym is)
    (record {
      over = subst (λ (station : ℕ). IsOver station place other later.now)
          (sym (station_by p answer))
          (next_over p.peer.station place other rh later (next_sent asked p) asks.came calling.over sent.by
          sent.named asks.made call.slaves.0.slave);
      call = call;
    })

step_over : (asked : Sdo) (place : ℕ) (other : SlaveState) (p learned : Known) (rh later : RingHistory)
    (decided : Result (Option Mail) MasterFault) → IsRequest asked → IsCalling asked place other p rh
    → IsStep WeatherSteps rh (asking asked) p decided learned later
    → IsStep SlaveTrips (history_at place other rh) (asking asked) p decided learned
    (history_at place other later)
step_over asked place other p learned rh later decided fits calling step = record {
  answer = step.answer;
  asks = asks_over asked place other p rh later step.answer fits calling step.asks;
  decides = step.decides;
  learns = step.learns;
}

runs_over : (n : ℕ) (asked : Sdo) (place : ℕ) (other : SlaveState) (p last : Known)
    (rh later : RingHistory) (result : Result Mail MasterFault) → IsRequest asked
    → IsCalling asked place other p rh → Runs WeatherSteps rh (asking asked) p n result last later
    → Runs SlaveTrips (history_at place other rh) (asking asked) p n result last
    (history_at place other later)
unfolding Runs
runs_over zero asked place other p last rh later result fits calling (result_is, last_is, later_is) =
    (result_is, last_is, ap (λ (h : RingHistory). history_at place other h) later_is)
runs_over (suc n) asked place other p last rh later result fits calling
    (Err fault, learned, between, step, left) = (
      Err fault,
      learned,
      history_at place other between,
      step_over asked place other p learned rh between (Err fault) fits calling step,
      (left.0, left.1, ap (λ (h : RingHistory). history_at place other h) left.2),
    )
runs_over (suc n) asked place other p last rh later result fits calling
    (Ok (Some mail), learned, between, step, left) = (
      Ok (Some mail),
      learned,
      history_at place other between,
      step_over asked place other p learned rh between (Ok (Some mail)) fits calling step,
      (left.0, left.1, ap (λ (h : RingHistory). history_at place other h) left.2),
    )
runs_over (suc n) asked place other p last rh later result fits calling
    (Ok None, learned, between, step, left) = (
      Ok None,
      learned,
      history_at place other between,
      step_over asked place other p learned rh between (Ok None) fits calling step,
      runs_over n asked place other learned last between later result fits
          (calls_on asked place other p learned rh between step.answer fits calling step.asks step.learns)
          left,
    )

-- ---- the call

pub begun_same : (peer : Peer) (r : RingState) (before : List SlaveState) (s : SlaveState)
    (behind : List SlaveState) → HasSlave peer r before s behind
    → history_at (length before) s (begun_ring r) ≡ begun_at s
begun_same peer r before s behind has =
    ap (λ (x : SlaveState). begun_at x)
    (ap (λ (ss : List SlaveState). get_or ss (length before) s) has.slaves ∙ at_place before s behind s)

pub begun_calling : (asked : Sdo) (peer : Peer) (r : RingState) (before : List SlaveState) (s : SlaveState)
    (behind : List SlaveState) → IsPeer peer → HasSlave peer r before s behind
    → IsCalling asked (length before) s (begun peer) (begun_ring r)
begun_calling asked peer r before s behind peer_is has =
    let own : slave_at (length before) s r ≡ s =
    ap (λ (ss : List SlaveState). get_or ss (length before) s) has.slaves ∙ at_place before s behind s in
    record {
      over = record {
        before = before;
        behind = behind;
        size = refl;
        slaves = has.slaves ∙ ap (λ (x : SlaveState). before ++ x ∷ behind) (sym own);
        all = has.all;
        others_before = has.others_before;
        others_behind = has.others_behind;
      };
      call = subst (λ (h : History). IsCall asked (begun peer) h)
          (sym (begun_same peer r before s behind has))
          (begins asked peer s peer_is has.own);
    }

pub call_over_ring : {A : Type 0} (peer peer_later : Peer) (asked : Sdo) (limit : ℕ)
    (comes_to : Mail → Result A MasterFault) (r : RingState) (before behind : List SlaveState)
    (s : SlaveState) (result : Result A MasterFault) (later : RingHistory)
    → IsPeer peer → HasSlave peer r before s behind → IsRequest asked
    → IsSure WeatherSteps (begun_ring r) peer (service_of asked comes_to) limit result peer_later later
    → IsSure SlaveTrips (begun_at s) peer (service_of asked comes_to) limit result peer_later
    (history_at (length before) s later)
call_over_ring peer peer_later asked limit comes_to r before behind s result later peer_is has fits sure =
    record {
      answer = sure.answer;
      last = sure.last;
      runs = subst (λ (h : History). Runs SlaveTrips h (asking asked) (begun peer) limit sure.answer sure.last
          (history_at (length before) s later)) (begun_same peer r before s behind has)
          (runs_over limit asked (length before) s (begun peer) sure.last (begun_ring r) later sure.answer
          fits
          (begun_calling asked peer r before s behind peer_is has) sure.runs);
      peer_is = sure.peer_is;
      understands = sure.understands;
    }

-- a ring over which a transfer is done is such a ring
pub has_slave : (peer : Peer) (r : RingState) (before : List SlaveState) (s : SlaveState)
    (behind : List SlaveState) → HasPeer peer r before s behind → HasSlave peer r before s behind
has_slave peer r before s behind has =
    let ready = has.ready in
    record {
      slaves = has.station.slaves;
      all = has.slaves;
      others_before = has.station.others_before;
      others_behind = has.station.others_behind;
      own = record {
        slave = own_slave peer r before s behind has;
        address = has.station.address;
        station = has.station.station_is;
        unasked = ready.unasked;
        requests = ready.requests;
        answers = ready.answers;
        to = record { start = ready.to.start; length = ready.to.length; alone = ready.to.alone };
        from = record { start = ready.from.start; length = ready.from.length; alone = ready.from.alone };
      };
    }
