-- A download leaves the objects that it does not name, where no request stood before it; and behind one that
-- was answered no request stands.
use Rattle.std.proofs.Common.{◌≡◌, ℕ, zero, suc, ◌-◌, true, false, List, ◌∷◌, [], Option, None, Some}
use Rattle.std.proofs.Common.{Result, Ok, Err, refl, sym, ap, ◌∙◌, subst, inl, inr, ⊎_elim, replicate}
use Rattle.std.proofs.lemmas.Bool.{and_from, cases_Bool}
use Rattle.ec_wire.specs.Datagram.{DatagramRecord}
use Rattle.ec_esc.specs.State.{ControllerState}
use Rattle.ec_app.specs.Lending.{with_controller}
use Rattle.ec_app.specs.MailStep.{can_answer, has_request, is_kept}
use Rattle.ec_app.specs.Objects.{is_at}
use Rattle.ec_app.specs.Slave.{step}
use Rattle.ec_app.specs.State.{SlaveState}
use Rattle.ec_app.specs.declared.mail.Mail.{Mail}
use Rattle.ec_app.specs.declared.objects.Entry.{Entry}
use Rattle.ec_app.specs.declared.sdo.Sdo.{Sdo}
use Rattle.ec_app.specs.declared.sdo.Sdo.TheVariants.{Download}
use Rattle.ec_app.specs.declared.value.Value.{Value}
use Rattle.ec_app.specs.declared.value.Rights.{Rights}
use Rattle.std.specs.Option.{option_map}
use Rattle.ec_services.specs.Ask.{Answer, Asks}
use Rattle.ec_services.specs.Course.{IsStep, Runs}
use Rattle.ec_services.specs.Mailbox.{IsPeer, mail_read, mail_write, request_mail}
use Rattle.ec_services.specs.Progress.{Known, any_known, looks, posts, reads}
use Rattle.ec_services.specs.Settling.{records_read}
use Rattle.ec_services.specs.Surely.{answered as answer_decides, asking, next_decides, next_known, next_sent}
use Rattle.ec_services.specs.declared.fault.MasterFault.{MasterFault}
use Rattle.ec_services.specs.declared.fault.MasterFault.TheVariants.{NoAnswer}
use Rattle.ec_services.specs.declared.mailbox.Peer.{Peer}
use Rattle.ec_over_ring.specs.Recovery.{AreEmpty, Fared, HoldsOwn, History, IsCall, IsOfPeer}
use Rattle.ec_over_ring.specs.Recovery.{SlaveTrips, answer_stands, fared, request_stands, steps_of}
use Rattle.ec_over_ring.specs.Recovery.{ReplyWaits, times_of, value_at, with_counter}
use Rattle.ec_over_ring.specs.Transfers.{IsRequest, download_of, objects_after, stored}
use Rattle.ec_over_ring.proofs.AskedLemmas.{emptied, emptied_of_peer, emptied_request, filled, filled_of_peer}
use Rattle.ec_over_ring.proofs.AskedLemmas.{filled_waits, mail_told, mail_twice, none_twice, records_told}
use Rattle.ec_over_ring.proofs.AskedLemmas.{records_twice, write_twice}
use Rattle.ec_over_ring.proofs.CallLemmas.{either_slave, emptied_own, recounted}
use Rattle.ec_over_ring.proofs.FateLemmas.{Fares, IsTwice, fares}
use Rattle.ec_over_ring.proofs.OfPeerLemmas.{of_peer_step}
use Rattle.ec_over_ring.proofs.OwnLemmas.{HasReply, bytes_of, cannot, dropped, has_reply, idle_step, own_step}
use Rattle.ec_over_ring.proofs.PeerLemmas.{good_request}
use Rattle.ec_over_ring.proofs.RecoveryLemmas.{IsDeciding, deciding, goes_on_none, is_read, none_decides}
use Rattle.ec_over_ring.proofs.RecoveryLemmas.{step_call}
use Rattle.ec_over_ring.proofs.ShapeLemmas.{apart_kept}
use Rattle.ec_over_ring.proofs.StepLemmas.{answers_request}
use Rattle.ec_over_ring.proofs.TenTripsLemmas.{reply_of}

-- ---- no request is left

read_ends : (asked : Sdo) (posted : Option ℕ) (peer : Peer) (h later : History) (answer : Answer)
    (mail : Mail)
    → IsCall asked (reads posted peer) h → Asks SlaveTrips h (mail_read peer) answer later
    → answer_decides posted asked answer ≡ Ok (Some mail) → request_stands later.now ≡ false
read_ends asked posted peer h later answer mail call asks is =
    let so : IsDeciding posted asked answer mail = deciding posted asked answer mail is in
    ⊎_elim
    (λ (full : answer_stands h.now ≡ true).
    let reply : ReplyWaits (with_counter peer so.n) asked (times_of h) h.now =
    reply_of (with_counter peer so.n) asked (times_of h) h.now full (call.own so.n so.posted_is) in
    (is_read peer h later answer asks call.peer_is call.slaves.0 full reply.request).none)
    (λ (none : answer_stands h.now ≡ false).
    absurd (none_decides peer h later answer asks call.peer_is call.slaves.0 none so.one))
    (cases_Bool (answer_stands h.now))

abbrev EndsBy : Sdo → Known → Type 0
EndsBy asked p =
    (h later : History) (answer : Answer) (mail : Mail) → IsCall asked p h
    → Asks SlaveTrips h (next_sent asked p) answer later → next_decides asked p answer ≡ Ok (Some mail)
    → request_stands later.now ≡ false

ends_by : (asked : Sdo) (p : Known) → EndsBy asked p
ends_by asked p =
    any_known (EndsBy asked)
    (λ posted peer h later answer mail call asks is. absurd (goes_on_none answer mail is))
    (λ posted peer h later answer mail call asks is.
    read_ends asked posted peer h later answer mail call asks is)
    (λ posted peer h later answer mail call asks is. absurd (goes_on_none answer mail is)) p

-- a call that a mail answered ends so
pub none_left : (n : ℕ) (asked : Sdo) (p last : Known) (h later : History) (result : Result Mail MasterFault)
    (mail : Mail) → IsRequest asked → IsCall asked p h → result ≡ Ok mail
    → Runs SlaveTrips h (asking asked) p n result last later → request_stands later.now ≡ false
unfolding Runs
none_left zero asked p last h later result mail fits call ok (result_is, last_is, later_is) =
    let never : Err NoAnswer ≡ Ok mail = sym result_is ∙ ok in absurd (cc)
none_left (suc n) asked p last h later result mail fits call ok (Err fault, learned, between, step, left) =
    let never : Err fault ≡ Ok mail = sym left.0 ∙ ok in absurd (cc)
none_left (suc n) asked p last h later result mail fits call ok
    (Ok (Some told), learned, between, step, left) =
    ap (λ (y : History). request_stands y.now) left.2
    ∙ ends_by asked p h between step.answer told call step.asks (sym step.decides)
none_left (suc n) asked p last h later result mail fits call ok (Ok None, learned, between, step, left) =
    none_left n asked learned last between later result mail fits
    (step_call asked p learned h between (Ok None) fits call step) ok left

-- ---- other objects

-- what is stored for a request leaves the object at a place
abbrev pub Spares : Sdo → ℕ → ℕ → Type 0
Spares asked i j = (es : List Entry) → value_at i j (objects_after asked es) ≡ value_at i j es

-- at another place
stored_spares : (i j k l : ℕ) (v : Value) (result : Result (Unit {0}) MasterFault) (es : List Entry)
    → ((f : Entry) → is_at i j f ≡ true → is_at k l f ≡ false)
    → value_at i j (stored result k l v es) ≡ value_at i j es
stored_spares i j k l v (Ok done) es apart =
    ap (λ (o : Option (Rights × Value)). option_map (λ (x : Rights × Value). x.1) o)
    (apart_kept i j k l v es apart)
stored_spares i j k l v (Err fault) es apart = refl

pub download_spares : (i j k l : ℕ) (v : Value) → ((f : Entry) → is_at i j f ≡ true → is_at k l f ≡ false)
    → Spares (Download k l v) i j
download_spares i j k l v apart es = stored_spares i j k l v (download_of k l v es) es apart

-- a step with the call's own mails stores what is asked, or nothing
own_spares : (peer : Peer) (asked : Sdo) (times : List SlaveState) (s : SlaveState) (i j : ℕ) → IsPeer peer
    → IsRequest asked → IsOfPeer peer s → Spares asked i j → HoldsOwn peer asked times s
    → value_at i j (step s).application.objects ≡ value_at i j s.application.objects
own_spares peer asked times s i j peer_is fits is spares (inl empty) =
    ap (λ (x : SlaveState). value_at i j x.application.objects) (idle_step peer s is empty.request)
own_spares peer asked times s i j peer_is fits is spares (inr (inr reply)) =
    ap (λ (x : SlaveState). value_at i j x.application.objects) (idle_step peer s is reply.request)
own_spares peer asked times s i j peer_is fits is spares (inr (inl waits)) =
    let c : ControllerState = s.controller in
    let has : has_request c ≡ true = and_from _ _ is.requests waits.request in
    ⊎_elim
    (λ (can : can_answer c ≡ true).
    ⊎_elim
    (λ (kept : is_kept s.application.kept peer.counter ≡ true).
    ap (λ (x : SlaveState). value_at i j x.application.objects)
    (dropped s (request_mail peer asked) (replicate (peer.to.length - 16) 0) is.unasked can has
    (bytes_of peer asked times s is waits) (good_request peer asked peer_is fits) kept))
    (λ (other : is_kept s.application.kept peer.counter ≡ false).
    let objects : List Entry = s.application.objects in
    let reply : HasReply peer asked objects = has_reply peer asked objects peer_is fits is.slave.values in
    ap (λ (x : SlaveState). value_at i j x.application.objects)
    (answers_request s (request_mail peer asked) reply.mail (replicate (peer.to.length - 16) 0) is.unasked can
    has (bytes_of peer asked times s is waits) (good_request peer asked peer_is fits) other reply.is)
    ∙ ap (λ (es : List Entry). value_at i j es) reply.stored
    ∙ spares objects)
    (cases_Bool (is_kept s.application.kept peer.counter)))
    (λ (unable : can_answer c ≡ false).
    ap (λ (x : SlaveState). value_at i j x.application.objects) (cannot s is.unasked unable))
    (cases_Bool (can_answer c))

-- the peer's slave, in which nothing stands but what this call posted, and the object as it was
record IsMine (asked : Sdo) (peer : Peer) (posted : Option ℕ) (times : List SlaveState) (i j : ℕ)
    (value : Option Value) (x : SlaveState) : Type 0 where
  slave : IsOfPeer peer x
  none : posted ≡ None → request_stands x ≡ false
  own : (n : ℕ) → posted ≡ Some n → HoldsOwn (with_counter peer n) asked times x
  value_is : value_at i j x.application.objects ≡ value

mine_step : (asked : Sdo) (peer : Peer) (posted : Option ℕ) (times : List SlaveState) (i j : ℕ)
    (value : Option Value) (x : SlaveState) → IsRequest asked → Spares asked i j
    → ((n : ℕ) → posted ≡ Some n → IsPeer (with_counter peer n)) → IsMine asked peer posted times i j value x
    → IsMine asked peer posted times i j value (step x)
mine_step asked peer None times i j value x fits spares counter mine =
    subst (λ (y : SlaveState). IsMine asked peer None times i j value y)
    (sym (idle_step peer x mine.slave (mine.none refl))) mine
mine_step asked peer (Some m) times i j value x fits spares counter mine = record {
  slave = of_peer_step peer x mine.slave;
  none = λ never. absurd (cc);
  own = λ n is.
      own_step (with_counter peer n) asked times x (counter n is) fits (recounted peer n x mine.slave)
      (mine.own n is);
  value_is = own_spares (with_counter peer m) asked times x i j (counter m refl) fits
      (recounted peer m x mine.slave) spares (mine.own m refl)
      ∙ mine.value_is;
}

mine_steps : (n : ℕ) (asked : Sdo) (peer : Peer) (posted : Option ℕ) (times : List SlaveState) (i j : ℕ)
    (value : Option Value) (x : SlaveState) → IsRequest asked → Spares asked i j
    → ((m : ℕ) → posted ≡ Some m → IsPeer (with_counter peer m)) → IsMine asked peer posted times i j value x
    → IsMine asked peer posted times i j value (steps_of n x)
mine_steps zero asked peer posted times i j value x fits spares counter mine = mine
mine_steps (suc n) asked peer posted times i j value x fits spares counter mine =
    mine_steps n asked peer posted times i j value (step x) fits spares counter
    (mine_step asked peer posted times i j value x fits spares counter mine)

-- between the trips
record IsSpared (posted : Option ℕ) (i j : ℕ) (value : Option Value) (h : History) : Type 0 where
  none : posted ≡ None → request_stands h.now ≡ false
  value_is : value_at i j h.now.application.objects ≡ value

trip_spared : (asked : Sdo) (peer : Peer) (posted : Option ℕ) (i j : ℕ) (value : Option Value)
    (h later : History) (d e : DatagramRecord) (left : ControllerState) (answer : Answer)
    → (asks : Asks SlaveTrips h d answer later) → IsTwice h.now.controller d e left → IsRequest asked
    → Spares asked i j → ((n : ℕ) → posted ≡ Some n → IsPeer (with_counter peer n))
    → IsMine asked peer posted (times_of h) i j value h.now
    → IsMine asked peer posted (times_of h) i j value (with_controller h.now left)
    → IsSpared posted i j value later
trip_spared asked peer posted i j value h later d e left answer asks twice fits spares counter first second =
    let c : ControllerState = h.now.controller in
    let f : Fared = fared asks.made.fate c (d ∷ []) in
    let both : Fares d e c left f = fares asks.made.fate c left d e twice in
    let now : IsMine asked peer posted (times_of h) i j value
    (steps_of asks.made.fate.steps (with_controller h.now f.state)) =
    mine_steps asks.made.fate.steps asked peer posted (times_of h) i j value (with_controller h.now f.state)
    fits spares counter
    (either_slave (λ (x : SlaveState). IsMine asked peer posted (times_of h) i j value x) h.now left f.state
    both.state first second) in
    subst (λ (y : History). IsSpared posted i j value y) (sym asks.made.later_is)
    (record { none = now.none; value_is = now.value_is })

look_spared : (asked : Sdo) (posted : Option ℕ) (peer : Peer) (i j : ℕ) (value : Option Value)
    (h later : History) (answer : Answer) → IsRequest asked → Spares asked i j
    → IsCall asked (looks posted peer) h → Asks SlaveTrips h (records_read peer) answer later
    → IsSpared posted i j value h → IsSpared posted i j value later
look_spared asked posted peer i j value h later answer fits spares call asks so =
    let mine : IsMine asked peer posted (times_of h) i j value h.now = record {
      slave = call.slaves.0;
      none = so.none;
      own = call.own;
      value_is = so.value_is;
    } in
    trip_spared asked peer posted i j value h later (records_read peer) (records_told peer h.now)
    h.now.controller answer asks (records_twice peer h.now call.slaves.0) fits spares call.counter mine mine

read_spared : (asked : Sdo) (posted : Option ℕ) (peer : Peer) (i j : ℕ) (value : Option Value)
    (h later : History) (answer : Answer) → IsRequest asked → Spares asked i j
    → IsCall asked (reads posted peer) h → Asks SlaveTrips h (mail_read peer) answer later
    → IsSpared posted i j value h → IsSpared posted i j value later
read_spared asked posted peer i j value h later answer fits spares call asks so =
    let s : SlaveState = h.now in
    let is : IsOfPeer peer s = call.slaves.0 in
    let mine : IsMine asked peer posted (times_of h) i j value s = record {
      slave = is;
      none = so.none;
      own = call.own;
      value_is = so.value_is;
    } in
    ⊎_elim
    (λ (full : answer_stands s ≡ true).
    trip_spared asked peer posted i j value h later (mail_read peer) (mail_told peer s) (emptied s).controller
    answer asks (mail_twice peer s call.peer_is is full) fits spares call.counter mine
    (record {
      slave = emptied_of_peer peer s is;
      none = λ none. emptied_request peer s is ∙ so.none none;
      own = λ n posts.
          emptied_own (with_counter peer n) asked (times_of h) s (recounted peer n s is) full
          (call.own n posts);
      value_is = so.value_is;
    }))
    (λ (none : answer_stands s ≡ false).
    trip_spared asked peer posted i j value h later (mail_read peer) (mail_read peer) s.controller answer asks
    (none_twice peer s call.peer_is is none) fits spares call.counter mine mine)
    (cases_Bool (answer_stands s))

post_spared : (asked : Sdo) (posted : Option ℕ) (peer : Peer) (i j : ℕ) (value : Option Value)
    (h later : History) (answer : Answer) → IsRequest asked → Spares asked i j
    → IsCall asked (posts posted peer) h → Asks SlaveTrips h (mail_write peer asked) answer later
    → IsSpared posted i j value h → IsSpared (Some peer.counter) i j value later
post_spared asked posted peer i j value h later answer fits spares call asks so =
    let s : SlaveState = h.now in
    let is : IsOfPeer peer s = call.slaves.0 in
    let empty : AreEmpty s = call.empty refl in
    let counted : (k : ℕ) → Some peer.counter ≡ Some k → peer.counter ≡ k = λ k same. cc in
    trip_spared asked peer (Some peer.counter) i j value h later (mail_write peer asked) _
    (filled peer asked s).controller answer asks (write_twice peer asked s call.peer_is fits is empty) fits
    spares (λ k posts. subst (λ (n : ℕ). IsPeer (with_counter peer n)) (counted k posts) call.peer_is)
    (record {
      slave = is;
      none = λ never. absurd (cc);
      own = λ k posts. inl empty;
      value_is = so.value_is;
    })
    (record {
      slave = filled_of_peer peer asked s call.peer_is fits is;
      none = λ never. absurd (cc);
      own = λ k posts.
          subst (λ (n : ℕ). HoldsOwn (with_counter peer n) asked (times_of h) (filled peer asked s))
          (counted k posts)
          (inr (inl (filled_waits peer asked (times_of h) s call.peer_is fits is empty (inl refl))));
      value_is = so.value_is;
    })

abbrev SparesBy : ℕ → ℕ → Option Value → Sdo → Known → Type 0
SparesBy i j value asked p =
    (h later : History) (answer : Answer) → IsRequest asked → Spares asked i j → IsCall asked p h
    → Asks SlaveTrips h (next_sent asked p) answer later → IsSpared p.posted i j value h
    → IsSpared (next_known p answer).posted i j value later

spares_by : (i j : ℕ) (value : Option Value) (asked : Sdo) (p : Known) → SparesBy i j value asked p
spares_by i j value asked p =
    any_known (SparesBy i j value asked)
    (λ posted peer h later answer fits spares call asks so.
    look_spared asked posted peer i j value h later answer fits spares call asks so)
    (λ posted peer h later answer fits spares call asks so.
    read_spared asked posted peer i j value h later answer fits spares call asks so)
    (λ posted peer h later answer fits spares call asks so.
    post_spared asked posted peer i j value h later answer fits spares call asks so) p

step_spared : (i j : ℕ) (value : Option Value) (asked : Sdo) (p learned : Known) (h between : History)
    (decided : Result (Option Mail) MasterFault) → IsRequest asked → Spares asked i j → IsCall asked p h
    → IsStep SlaveTrips h (asking asked) p decided learned between → IsSpared p.posted i j value h
    → IsSpared learned.posted i j value between
step_spared i j value asked p learned h between decided fits spares call step so =
    subst (λ (x : Known). IsSpared x.posted i j value between) (sym step.learns)
    (spares_by i j value asked p h between step.answer fits spares call step.asks so)

runs_spared : (n i j : ℕ) (value : Option Value) (asked : Sdo) (p last : Known) (h later : History)
    (result : Result Mail MasterFault) → IsRequest asked → Spares asked i j → IsCall asked p h
    → Runs SlaveTrips h (asking asked) p n result last later → IsSpared p.posted i j value h
    → value_at i j later.now.application.objects ≡ value
unfolding Runs
runs_spared zero i j value asked p last h later result fits spares call (result_is, last_is, later_is) so =
    ap (λ (y : History). value_at i j y.now.application.objects) later_is ∙ so.value_is
runs_spared (suc n) i j value asked p last h later result fits spares call
    (Err fault, learned, between, step, left) so =
    ap (λ (y : History). value_at i j y.now.application.objects) left.2
    ∙ (step_spared i j value asked p learned h between (Err fault) fits spares call step so).value_is
runs_spared (suc n) i j value asked p last h later result fits spares call
    (Ok (Some mail), learned, between, step, left) so =
    ap (λ (y : History). value_at i j y.now.application.objects) left.2
    ∙ (step_spared i j value asked p learned h between (Ok (Some mail)) fits spares call step so).value_is
runs_spared (suc n) i j value asked p last h later result fits spares call
    (Ok None, learned, between, step, left) so =
    runs_spared n i j value asked learned last between later result fits spares
    (step_call asked p learned h between (Ok None) fits call step) left
    (step_spared i j value asked p learned h between (Ok None) fits spares call step so)

-- where no request stood at first
pub value_stays : (n i j : ℕ) (asked : Sdo) (p last : Known) (h later : History)
    (result : Result Mail MasterFault) → IsRequest asked → Spares asked i j → IsCall asked p h
    → Runs SlaveTrips h (asking asked) p n result last later → request_stands h.now ≡ false
    → value_at i j later.now.application.objects ≡ value_at i j h.now.application.objects
value_stays n i j asked p last h later result fits spares call runs none =
    runs_spared n i j (value_at i j h.now.application.objects) asked p last h later result fits spares call
    runs (record { none = λ posted. none; value_is = refl })
