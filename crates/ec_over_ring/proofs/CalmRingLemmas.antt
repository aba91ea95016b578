-- A call over a ring of which at most one link is down, and nothing else is lost, is answered within ten
-- trips.
use Rattle.std.proofs.Common.{◌≡◌, ℕ, zero, suc, ◌≤◌, true, false, List, [], ◌∷◌, ◌++◌, map}
use Rattle.std.proofs.Common.{length, Option, None, Some, Result, Ok, Err, refl, sym, ap, ◌∙◌, subst}
use Rattle.std.specs.List.{AllByRecursion}
use Rattle.ec_wire.specs.Datagram.{DatagramRecord, adp}
use Rattle.ec_app.specs.Lending.{with_controller}
use Rattle.ec_app.specs.Objects.{is_at}
use Rattle.ec_app.specs.Slave.{step}
use Rattle.ec_app.specs.State.{SlaveState}
use Rattle.ec_app.specs.declared.mail.Mail.{Mail}
use Rattle.ec_app.specs.declared.objects.Entry.{Entry}
use Rattle.ec_app.specs.declared.sdo.Sdo.{Sdo}
use Rattle.ec_app.specs.declared.sdo.Sdo.TheVariants.{Upload, Download}
use Rattle.ec_app.specs.declared.value.Value.{Value}
use Rattle.ec_ring.specs.Links.{IsOnlyDown}
use Rattle.ec_ring.specs.Ring.{RingState}
use Rattle.ec_ring.specs.Weather.{calm}
use Rattle.ec_ring.specs.declared.links.Links.{Links}
use Rattle.ec_ring.specs.declared.port.PortFault.{PortFault}
use Rattle.ec_ring.specs.declared.weather.Came.{Came}
use Rattle.ec_master.specs.RingTrips.{RingTrips}
use Rattle.ec_master.specs.Travelled.{AtMostOneDown}
use Rattle.ec_services.specs.Ask.{Answer, Asks}
use Rattle.ec_services.specs.Course.{IsStep, Runs}
use Rattle.ec_services.specs.Mailbox.{IsPeer}
use Rattle.ec_services.specs.Progress.{Known}
use Rattle.ec_services.specs.Surely.{IsSure, asking, begun, next_known, next_sent}
use Rattle.ec_services.specs.Transfer.{downloaded_by, downloading, service_of, understood, uploaded_by}
use Rattle.ec_services.specs.Transfer.{uploading}
use Rattle.ec_services.specs.declared.fault.MasterFault.{MasterFault}
use Rattle.ec_services.specs.declared.mailbox.Peer.{Peer}
use Rattle.ec_over_ring.specs.Question.{IsByStation}
use Rattle.ec_over_ring.specs.Recovery.{CalmTrips, ComesSo, Fared, HasSlave, History, IsCall, IsStored}
use Rattle.ec_over_ring.specs.Recovery.{OneIs, RingHistory, TakesMail, WeatherSteps, begun_at, fared}
use Rattle.ec_over_ring.specs.Recovery.{HoldsStored, SlaveTrips, history_at, request_stands, slave_at}
use Rattle.ec_over_ring.specs.Recovery.{steps_of, times_of, value_at}
use Rattle.ec_over_ring.specs.Transfers.{IsRequest, upload_of}
use Rattle.ec_over_ring.proofs.AnsweredLemmas.{calm_runs, download_answered, upload_answered}
use Rattle.ec_over_ring.proofs.CallLemmas.{keeps, one_found}
use Rattle.ec_over_ring.proofs.CalmLemmas.{calm_asks}
use Rattle.ec_over_ring.proofs.KeptLemmas.{download_spares, none_left, value_stays}
use Rattle.ec_over_ring.proofs.RecoveryLemmas.{begins}
use Rattle.ec_over_ring.proofs.RingCallLemmas.{AreAround, IsAsked, IsCalling, IsOver, around, asked_by}
use Rattle.ec_over_ring.proofs.RingCallLemmas.{begun_calling, begun_same, behind_trip, next_over, station_by}
use Rattle.ec_over_ring.proofs.ShapeLemmas.{runs_shape, same_download, shape_of}
use Rattle.ec_over_ring.proofs.SparedLemmas.{HasSuch, such_between}
use Rattle.ec_over_ring.proofs.StationLemmas.{map_parts, others_for, size_parts}
use Rattle.ec_over_ring.proofs.TransferLemmas.{have_controllers}
use Rattle.ec_over_ring.proofs.ValueLemmas.{one_stored}
use Rattle.ec_over_ring.proofs.WeatherLemmas.{HasCalmFate, calm_ring_fate}

-- ---- a trip

-- a ring and what it was before
abbrev since : List RingState → RingState → RingHistory
since past r = record { now = r; past = past }

fate_at : (station place : ℕ) (other : SlaveState) (r : RingState) (d : DatagramRecord)
    → (over : IsOver station place other r) → AtMostOneDown r → IsByStation d → adp d ≡ station
    → HasCalmFate d r over.before (slave_at place other r) over.behind
fate_at station place other r d over down asked named =
    let parts : AreAround over.before over.behind = around station place other r over in
    calm_ring_fate d r over.before (slave_at place other r) over.behind down asked
    (record {
      slaves = over.slaves;
      others_before = others_for d station over.before named over.others_before
          (have_controllers over.before parts.first);
      others_behind = others_for d station over.behind named over.others_behind
          (have_controllers over.behind parts.last);
    })

-- it is one in some weather
comes_ok : (came : Result Came PortFault) (x : Came) → came ≡ Ok x → ComesSo came x
comes_ok (Err failed) x is = absurd (cc)
comes_ok (Ok came) x is = cc

in_weather : (past : List RingState) (r later : RingState) (frame : List DatagramRecord)
    (came : Result Came PortFault) → RingTrips r frame came later
    → WeatherSteps (since past r) frame came (since (r ∷ past) later)
in_weather past r later frame came made = record {
  weather = calm r.links;
  comes = comes_ok came _ made.0;
  later_is = ap (λ (x : RingState). since (r ∷ past) x) made.1;
}

-- and nothing of it is lost
record IsCalmStep (station place : ℕ) (other : SlaveState) (past : List RingState) (r later : RingState)
    (d : DatagramRecord) (came : Result Came PortFault) : Type 0 where
  trip : CalmTrips (history_at place other (since past r)) (d ∷ []) came
      (history_at place other (since (r ∷ past) later))
  down : AtMostOneDown later

calm_step_at : (station place : ℕ) (other : SlaveState) (past : List RingState) (r later : RingState)
    (d : DatagramRecord) (came : Result Came PortFault) → IsOver station place other r → AtMostOneDown r
    → IsByStation d → adp d ≡ station → RingTrips r (d ∷ []) came later
    → IsCalmStep station place other past r later d came
calm_step_at station place other past r later d came over down asked named made =
    let s : SlaveState = slave_at place other r in
    let calm_fate : HasCalmFate d r over.before s over.behind =
    fate_at station place other r d over down asked named in
    let fate = calm_fate.has in
    let f : Fared = fared fate.fate s.controller (d ∷ []) in
    let x : SlaveState = with_controller s f.state in
    let slaves_are : later.slaves ≡ map step over.before ++ step x ∷ map step over.behind =
    ap (λ (y : RingState). y.slaves) made.1 ∙ fate.slaves in
    let now = behind_trip place other over.before over.behind (step x) later over.size slaves_are in
    let once : steps_of fate.fate.steps x ≡ step x = ap (λ (n : ℕ). steps_of n x) fate.once in
    let sizes : length r.slaves ≡ length later.slaves =
    ap (λ (ss : List SlaveState). length ss) over.slaves
    ∙ size_parts over.before s x over.behind
    ∙ sym (ap (λ (ss : List SlaveState). length ss)
    (slaves_are ∙ sym (map_parts over.before x over.behind))) in
    let links : r.links ≡ later.links = sym (ap (λ (y : RingState). y.links) made.1) in
    record {
      trip = record {
        fate = fate.fate;
        calm = calm_fate.calm;
        comes = made.0 ∙ ap (λ (y : Came). Ok y) fate.came;
        later_is = ap (λ (y : SlaveState). record {
          now = y;
          past = times_of (history_at place other (since past r));
        }) (now.own ∙ sym once);
      };
      down = (
        down.0,
        subst (λ (l : Links). IsOnlyDown l (length later.slaves) down.0) links
            (subst (λ (n : ℕ). IsOnlyDown r.links n down.0) sizes down.1),
      );
    }

-- ---- the trips of a call

record IsOnCall (asked : Sdo) (place : ℕ) (other : SlaveState) (p : Known) (past : List RingState)
    (r : RingState) : Type 0 where
  calling : IsCalling asked place other p (since past r)
  down : AtMostOneDown r

asked_at : (asked : Sdo) (place : ℕ) (other : SlaveState) (p : Known) (past : List RingState) (r : RingState)
    → IsRequest asked → IsOnCall asked place other p past r → IsAsked p.peer.station (next_sent asked p)
asked_at asked place other p past r fits on =
    asked_by asked p on.calling.call.peer_is fits on.calling.call.slaves.0.address

asks_at : (asked : Sdo) (place : ℕ) (other : SlaveState) (p : Known) (past : List RingState)
    (r later : RingState) (answer : Answer) → IsRequest asked → IsOnCall asked place other p past r
    → Asks RingTrips r (next_sent asked p) answer later
    → Asks CalmTrips (history_at place other (since past r)) (next_sent asked p) answer
    (history_at place other (since (r ∷ past) later))
asks_at asked place other p past r later answer fits on asks =
    let sent : IsAsked p.peer.station (next_sent asked p) = asked_at asked place other p past r fits on in
    record {
      came = asks.came;
      made = (calm_step_at p.peer.station place other past r later (next_sent asked p) asks.came
          on.calling.over on.down sent.by sent.named asks.made).trip;
      brings = asks.brings;
    }

goes_at : (asked : Sdo) (place : ℕ) (other : SlaveState) (p learned : Known) (past : List RingState)
    (r later : RingState) (answer : Answer) → IsRequest asked → IsOnCall asked place other p past r
    → Asks RingTrips r (next_sent asked p) answer later → learned ≡ next_known p answer
    → IsOnCall asked place other learned (r ∷ past) later
goes_at asked place other p learned past r later answer fits on asks is =
    let sent : IsAsked p.peer.station (next_sent asked p) = asked_at asked place other p past r fits on in
    let h : History = history_at place other (since past r) in
    let next : History = history_at place other (since (r ∷ past) later) in
    let call : IsCall asked (next_known p answer) next =
    keeps asked p h next answer fits on.calling.call
    (calm_asks h next (next_sent asked p) answer
    (asks_at asked place other p past r later answer fits on asks))
    in
    subst (λ (q : Known). IsOnCall asked place other q (r ∷ past) later) (sym is)
    (record {
      calling = record {
        over = subst (λ (station : ℕ). IsOver station place other later) (sym (station_by p answer))
            (next_over p.peer.station place other (since past r) (since (r ∷ past) later)
            (next_sent asked p) asks.came on.calling.over sent.by sent.named
            (in_weather past r later (next_sent asked p ∷ []) asks.came asks.made) call.slaves.0.slave);
        call = call;
      };
      down = (calm_step_at p.peer.station place other past r later (next_sent asked p) asks.came
          on.calling.over on.down sent.by sent.named asks.made).down;
    })

step_at : (asked : Sdo) (place : ℕ) (other : SlaveState) (p learned : Known) (past : List RingState)
    (r later : RingState) (decided : Result (Option Mail) MasterFault) → IsRequest asked
    → IsOnCall asked place other p past r → IsStep RingTrips r (asking asked) p decided learned later
    → IsStep CalmTrips (history_at place other (since past r)) (asking asked) p decided learned
    (history_at place other (since (r ∷ past) later))
step_at asked place other p learned past r later decided fits on step = record {
  answer = step.answer;
  asks = asks_at asked place other p past r later step.answer fits on step.asks;
  decides = step.decides;
  learns = step.learns;
}

-- the call of the slave, with a past, and what it is at its end
record RunsCalmly (n : ℕ) (asked : Sdo) (place : ℕ) (other : SlaveState) (p last : Known)
    (past : List RingState) (r later : RingState) (result : Result Mail MasterFault) : Type 0 where
  gone : List RingState
  runs : Runs CalmTrips (history_at place other (since past r)) (asking asked) p n result last
      (history_at place other (since gone later))
  end : IsOnCall asked place other last gone later
  station : last.peer.station ≡ p.peer.station

at_end : (asked : Sdo) (place : ℕ) (other : SlaveState) (p last : Known) (past : List RingState)
    (r later : RingState) → last ≡ p → later ≡ r → IsOnCall asked place other p past r
    → IsOnCall asked place other last past later
at_end asked place other p last past r later same_last same_ring on =
    subst (λ (q : Known). IsOnCall asked place other q past later) (sym same_last)
    (subst (λ (x : RingState). IsOnCall asked place other p past x) (sym same_ring) on)

station_still : (p learned : Known) (answer : Answer) → learned ≡ next_known p answer
    → learned.peer.station ≡ p.peer.station
station_still p learned answer is = ap (λ (q : Known). q.peer.station) is ∙ station_by p answer

runs_calmly : (n : ℕ) (asked : Sdo) (place : ℕ) (other : SlaveState) (p last : Known) (past : List RingState)
    (r later : RingState) (result : Result Mail MasterFault) → IsRequest asked
    → IsOnCall asked place other p past r → Runs RingTrips r (asking asked) p n result last later
    → RunsCalmly n asked place other p last past r later result
unfolding Runs
runs_calmly zero asked place other p last past r later result fits on
    (result_is, last_is, later_is) = record {
      gone = past;
      runs = (result_is, last_is, ap (λ (x : RingState). history_at place other (since past x)) later_is);
      end = at_end asked place other p last past r later last_is later_is on;
      station = ap (λ (q : Known). q.peer.station) last_is;
    }
runs_calmly (suc n) asked place other p last past r later result fits on
    (Err fault, learned, between, step, left) = record {
      gone = r ∷ past;
      runs = (
        Err fault,
        learned,
        history_at place other (since (r ∷ past) between),
        step_at asked place other p learned past r between (Err fault) fits on step,
        (left.0, left.1, ap (λ (x : RingState). history_at place other (since (r ∷ past) x)) left.2),
      );
      end = at_end asked place other learned last (r ∷ past) between later left.1 left.2
          (goes_at asked place other p learned past r between step.answer fits on step.asks step.learns);
      station = ap (λ (q : Known). q.peer.station) left.1 ∙ station_still p learned step.answer step.learns;
    }
runs_calmly (suc n) asked place other p last past r later result fits on
    (Ok (Some mail), learned, between, step, left) = record {
      gone = r ∷ past;
      runs = (
        Ok (Some mail),
        learned,
        history_at place other (since (r ∷ past) between),
        step_at asked place other p learned past r between (Ok (Some mail)) fits on step,
        (left.0, left.1, ap (λ (x : RingState). history_at place other (since (r ∷ past) x)) left.2),
      );
      end = at_end asked place other learned last (r ∷ past) between later left.1 left.2
          (goes_at asked place other p learned past r between step.answer fits on step.asks step.learns);
      station = ap (λ (q : Known). q.peer.station) left.1 ∙ station_still p learned step.answer step.learns;
    }
runs_calmly (suc n) asked place other p last past r later result fits on
    (Ok None, learned, between, step, left) =
    let rest : RunsCalmly n asked place other learned last (r ∷ past) between later result =
    runs_calmly n asked place other learned last (r ∷ past) between later result fits
    (goes_at asked place other p learned past r between step.answer fits on step.asks step.learns) left in
    record {
      gone = rest.gone;
      runs = (
        Ok None,
        learned,
        history_at place other (since (r ∷ past) between),
        step_at asked place other p learned past r between (Ok None) fits on step,
        rest.runs,
      );
      end = rest.end;
      station = rest.station ∙ station_still p learned step.answer step.learns;
    }

-- ---- the call

record IsCalmCall {A : Type 0} (peer peer_later : Peer) (asked : Sdo) (limit place : ℕ) (s : SlaveState)
    (comes_to : Mail → Result A MasterFault) (result : Result A MasterFault) (later : RingState)
    : Type 0 where
  gone : List RingState
  sure : IsSure CalmTrips (begun_at s) peer (service_of asked comes_to) limit result peer_later
      (history_at place s (since gone later))
  end : IsOnCall asked place s sure.last gone later
  station : sure.last.peer.station ≡ peer.station

calm_call : {A : Type 0} (peer peer_later : Peer) (asked : Sdo) (limit : ℕ)
    (comes_to : Mail → Result A MasterFault) (r : RingState) (before behind : List SlaveState)
    (s : SlaveState) (result : Result A MasterFault) (later : RingState) → IsPeer peer
    → HasSlave peer r before s behind → AtMostOneDown r → IsRequest asked
    → IsSure RingTrips r peer (service_of asked comes_to) limit result peer_later later
    → IsCalmCall peer peer_later asked limit (length before) s comes_to result later
calm_call peer peer_later asked limit comes_to r before behind s result later peer_is has down fits sure =
    let place : ℕ = length before in
    let runs : RunsCalmly limit asked place s (begun peer) sure.last [] r later sure.answer =
    runs_calmly limit asked place s (begun peer) sure.last [] r later sure.answer fits
    (record { calling = begun_calling asked peer r before s behind peer_is has; down = down }) sure.runs in
    record {
      gone = runs.gone;
      sure = record {
        answer = sure.answer;
        last = sure.last;
        runs = subst (λ (h : History). Runs CalmTrips h (asking asked) (begun peer) limit sure.answer
            sure.last (history_at place s (since runs.gone later)))
            (begun_same peer r before s behind has) runs.runs;
        peer_is = sure.peer_is;
        understands = sure.understands;
      };
      end = runs.end;
      station = runs.station;
    }

pub ring_answers_upload : (peer peer_later : Peer) (i j limit : ℕ) (r : RingState)
    (before behind : List SlaveState) (s : SlaveState) (result : Result Value MasterFault) (later : RingState)
    → IsPeer peer → HasSlave peer r before s behind → AtMostOneDown r → TakesMail s
    → IsRequest (Upload i j) → 10 ≤ limit
    → IsSure RingTrips r peer (uploading i j) limit result peer_later later
    → result ≡ upload_of i j (slave_at (length before) s later).application.objects
ring_answers_upload peer peer_later i j limit r before behind s result later peer_is has down takes fits some
    sure =
    let calm = calm_call peer peer_later (Upload i j) limit uploaded_by r before behind s result later peer_is
    has down fits sure in
    upload_answered peer peer_later i j limit s result (history_at (length before) s (since calm.gone later))
    peer_is has.own fits takes some calm.sure

-- a download
stores : (i j : ℕ) (v : Value) (result : Result (Unit {0}) MasterFault) (first : SlaveState) (h : History)
    → OneIs (IsStored i j v result h.now) (times_of h)
    → AllByRecursion (λ (t : SlaveState). shape_of i j t.application.objects
    ≡ shape_of i j first.application.objects) (times_of h)
    → HoldsStored i j v result first h.now
stores i j v result first h one had =
    let at = one_found (IsStored i j v result h.now)
    (λ (t : SlaveState). shape_of i j t.application.objects ≡ shape_of i j first.application.objects)
    (times_of h) one had in
    record {
      result_is = at.first.result_is
          ∙ same_download i j v at.slave.application.objects first.application.objects at.second;
      held = λ ok.
          one_stored i j v h.now (times_of h)
          (subst (λ (x : Result (Unit {0}) MasterFault). OneIs (IsStored i j v x h.now) (times_of h)) ok one);
    }

pub ring_answers_download : (peer peer_later : Peer) (i j : ℕ) (v : Value) (limit : ℕ) (r : RingState)
    (before behind : List SlaveState) (s : SlaveState) (result : Result (Unit {0}) MasterFault)
    (later : RingState)
    → IsPeer peer → HasSlave peer r before s behind → AtMostOneDown r → TakesMail s
    → IsRequest (Download i j v) → 10 ≤ limit
    → IsSure RingTrips r peer (downloading i j v) limit result peer_later later
    → HoldsStored i j v result s (slave_at (length before) s later)
ring_answers_download peer peer_later i j v limit r before behind s result later peer_is has down takes fits
    some sure =
    let calm = calm_call peer peer_later (Download i j v) limit downloaded_by r before behind s result later
    peer_is has down fits sure in
    let h : History = history_at (length before) s (since calm.gone later) in
    stores i j v result s h
    (download_answered peer peer_later i j v limit s result h peer_is has.own fits takes some calm.sure)
    (runs_shape limit i j (shape_of i j s.application.objects) (Download i j v) (begun peer) calm.sure.last
    (begun_at s) h calm.sure.answer (refl, tt)
    (calm_runs limit (Download i j v) (begun peer) calm.sure.last (begun_at s) h calm.sure.answer
    calm.sure.runs))

-- ---- the slave behind a call

-- it is its peer's still, from whatever counter on
pub record IsStillOfPeer (peer peer_later : Peer) (place : ℕ) (s : SlaveState) (later : RingState)
    : Type 0 where
  pub peer_is : IsPeer peer_later
  pub station : peer_later.station ≡ peer.station
  pub before : List SlaveState
  pub behind : List SlaveState
  pub has : HasSlave peer_later later before (slave_at place s later) behind

pub still_of_peer : {A : Type 0} (peer peer_later : Peer) (asked : Sdo) (limit : ℕ)
    (comes_to : Mail → Result A MasterFault) (r : RingState) (before behind : List SlaveState)
    (s : SlaveState) (result : Result A MasterFault) (later : RingState) → IsPeer peer
    → HasSlave peer r before s behind → AtMostOneDown r → IsRequest asked
    → IsSure RingTrips r peer (service_of asked comes_to) limit result peer_later later
    → IsStillOfPeer peer peer_later (length before) s later
still_of_peer {A} peer peer_later asked limit comes_to r before behind s result later peer_is has down fits
    sure =
    let place : ℕ = length before in
    let calm = calm_call peer peer_later asked limit comes_to r before behind s result later peer_is has down
    fits sure in
    let over = calm.end.calling.over in
    let call = calm.end.calling.call in
    let is : peer_later ≡ calm.sure.last.peer = calm.sure.peer_is in
    record {
      peer_is = subst (λ (p : Peer). IsPeer p) (sym is) call.peer_is;
      station = ap (λ (p : Peer). p.station) is ∙ calm.station;
      before = over.before;
      behind = over.behind;
      has = subst (λ (p : Peer). HasSlave p later over.before (slave_at place s later) over.behind) (sym is)
          (record {
            slaves = over.slaves;
            all = over.all;
            others_before = over.others_before;
            others_behind = over.others_behind;
            own = call.slaves.0;
          });
    }

-- ---- the slave behind a download

-- no request stands in it, it holds the value, and where none stood at first the other objects are as they
-- were
pub record IsBehind (i j : ℕ) (v : Value) (s x : SlaveState) : Type 0 where
  pub none : request_stands x ≡ false
  pub held : value_at i j x.application.objects ≡ Some v
  pub others : request_stands s ≡ false → (k l : ℕ)
      → ((f : Entry) → is_at k l f ≡ true → is_at i j f ≡ false)
      → value_at k l x.application.objects ≡ value_at k l s.application.objects

-- it was answered
record HasMail (answer : Result Mail MasterFault) : Type 0 where
  mail : Mail
  is : answer ≡ Ok mail

has_mail : (answer : Result Mail MasterFault) → understood downloaded_by answer ≡ Ok tt → HasMail answer
has_mail (Ok mail) ok = record { mail = mail; is = refl }
has_mail (Err fault) ok = absurd (cc)

pub slave_behind : (peer peer_later : Peer) (i j : ℕ) (v : Value) (limit : ℕ) (r : RingState)
    (before behind : List SlaveState) (s : SlaveState) (result : Result (Unit {0}) MasterFault)
    (later : RingState)
    → IsPeer peer → HasSlave peer r before s behind → AtMostOneDown r → TakesMail s
    → IsRequest (Download i j v) → 10 ≤ limit → result ≡ Ok tt
    → IsSure RingTrips r peer (downloading i j v) limit result peer_later later
    → HasSuch (IsBehind i j v s) peer.station later.slaves
slave_behind peer peer_later i j v limit r before behind s result later peer_is has down takes fits some ok
    sure =
    let asked : Sdo = Download i j v in
    let place : ℕ = length before in
    let calm = calm_call peer peer_later asked limit downloaded_by r before behind s result later
    peer_is has down fits sure in
    let h : History = history_at place s (since calm.gone later) in
    let runs : Runs SlaveTrips (begun_at s) (asking asked) (begun peer) limit calm.sure.answer calm.sure.last
    h =
    calm_runs limit asked (begun peer) calm.sure.last (begun_at s) h calm.sure.answer calm.sure.runs in
    let call : IsCall asked (begun peer) (begun_at s) = begins asked peer s peer_is has.own in
    let mail : HasMail calm.sure.answer = has_mail calm.sure.answer (sym calm.sure.understands ∙ ok) in
    let held : HoldsStored i j v result s (slave_at place s later) =
    ring_answers_download peer peer_later i j v limit r before behind s result later peer_is has down takes
    fits some sure in
    let over = calm.end.calling.over in
    let is : IsBehind i j v s (slave_at place s later) = record {
      none = none_left limit asked (begun peer) calm.sure.last (begun_at s) h calm.sure.answer mail.mail fits
          call mail.is runs;
      held = held.held ok;
      others = λ none k l apart.
          value_stays limit k l asked (begun peer) calm.sure.last (begun_at s) h calm.sure.answer fits
          (download_spares k l i j v apart) call runs none;
    } in
    subst (λ (station : ℕ). HasSuch (IsBehind i j v s) station later.slaves) calm.station
    (subst (λ (ss : List SlaveState). HasSuch (IsBehind i j v s) calm.sure.last.peer.station ss)
    (sym over.slaves)
    (such_between (IsBehind i j v s) calm.sure.last.peer.station over.before (slave_at place s later)
    over.behind over.others_before calm.end.calling.call.slaves.0.station is over.others_behind))
