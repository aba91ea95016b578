-- Where nothing is lost, a call of a slave that answers mails is answered within ten trips.
use Rattle.std.proofs.Common.{◌≡◌, ℕ, zero, suc, ◌≤◌, Bool, true, false, cond, eqb, List, Option, None}
use Rattle.std.proofs.Common.{Some, Result, Ok, Err, refl, sym, ap, ◌∙◌, arith, subst, inl, inr, ⊎_elim}
use Rattle.std.proofs.Common.{true≢false, replicate, ◌-◌, ◌&&◌, take, drop}
use Rattle.std.specs.Prelude.{not}
use Rattle.std.specs.Result.{result_ok}
use Rattle.std.proofs.lemmas.Bool.{and_parts, cases_Bool, eqb-true}
use Rattle.ec_wire.specs.Datagram.{DatagramRecord}
use Rattle.ec_esc.specs.Pass.{pass}
use Rattle.ec_app.specs.Mail.{sent}
use Rattle.ec_app.specs.MailStep.{is_kept}
use Rattle.ec_app.specs.State.{ApplicationState, SlaveState}
use Rattle.ec_app.specs.declared.mail.Mail.{Mail}
use Rattle.ec_app.specs.declared.sdo.Sdo.{Sdo}
use Rattle.ec_services.specs.Ask.{Answer, Asks, told_by}
use Rattle.ec_services.specs.Course.{Runs, goes_on}
use Rattle.ec_services.specs.Mailbox.{IsPeer, mail_read, mail_write, next_counter, request_mail, skipped}
use Rattle.ec_services.specs.Progress.{Boxes, Known, answer_there, both_empty, looks, posts, reads, unknown}
use Rattle.ec_services.specs.Settling.{answer_waits, mailboxes_by, records_read, request_waits}
use Rattle.ec_services.specs.Surely.{answered as answer_decides, asking, next_decides, next_known, next_sent}
use Rattle.ec_services.specs.Transfer.{answer_in}
use Rattle.ec_services.specs.declared.fault.MasterFault.{MasterFault}
use Rattle.ec_services.specs.declared.mailbox.Peer.{Peer}
use Rattle.ec_over_ring.specs.Question.{Tells}
use Rattle.ec_over_ring.specs.Recovery.{AreEmpty, CalmTrips, HoldsOwn, History, IsCall, IsOfPeer, ReplyWaits}
use Rattle.ec_over_ring.specs.Recovery.{RequestWaits, TakesMail, answer_stands, request_stands, steps_of}
use Rattle.ec_over_ring.specs.Recovery.{times_of, with_counter}
use Rattle.ec_over_ring.specs.Transfers.{IsRequest}
use Rattle.ec_over_ring.proofs.AskedLemmas.{answer_seen, emptied, emptied_answer, emptied_of_peer}
use Rattle.ec_over_ring.proofs.AskedLemmas.{emptied_request, filled, filled_facts}
use Rattle.ec_over_ring.proofs.AskedLemmas.{filled_of_peer, filled_waits}
use Rattle.ec_over_ring.proofs.AskedLemmas.{mail_told, mail_twice, records_told, records_twice, request_seen}
use Rattle.ec_over_ring.proofs.AskedLemmas.{write_twice}
use Rattle.ec_over_ring.proofs.CallLemmas.{keeps}
use Rattle.ec_over_ring.proofs.CalmLemmas.{IsCalmTrip, calm_asks, calm_trip}
use Rattle.ec_over_ring.proofs.MailboxLemmas.{IsEmptied, is_emptied}
use Rattle.ec_over_ring.proofs.OwnLemmas.{answered, bytes_of, dropped, idle_steps, taken_empty}
use Rattle.ec_over_ring.proofs.PeerLemmas.{good_request, next_other}
use Rattle.ec_over_ring.proofs.RecoveryLemmas.{reply_found}
use Rattle.ec_over_ring.proofs.RingCallLemmas.{asked_by}
use Rattle.ec_over_ring.proofs.TakesLemmas.{can_take, full_steps, has_one, one_step}
use Rattle.ec_over_ring.proofs.TakesLemmas.{takes_request, takes_same}
use Rattle.ec_over_ring.proofs.TakesLemmas.{takes_steps}

-- ---- a call that is answered in so many trips

record CalmCall (asked : Sdo) (p : Known) (h : History) : Type 0 where
  call : IsCall asked p h
  takes : TakesMail h.now

abbrev pub IsOkMail : Result Mail MasterFault → Type 0
IsOkMail (Ok mail) = Unit {0}
IsOkMail (Err fault) = ⊥

abbrev Within : Sdo → ℕ → Known → History → Type 0
Within asked k p h =
    (n : ℕ) (last : Known) (later : History) (result : Result Mail MasterFault) → k ≤ n
    → Runs CalmTrips h (asking asked) p n result last later → IsOkMail result

abbrev decided : Option Mail → Result (Option Mail) MasterFault
decided o = Ok o

abbrev failed : MasterFault → Result (Option Mail) MasterFault
failed fault = Err fault

within_more : (asked : Sdo) (k m : ℕ) (p : Known) (h : History) → k ≤ m → Within asked k p h
    → Within asked m p h
within_more asked k m p h more so n last later result some runs =
    so n last later result (omega (arith, more, some)) runs

-- a trip that decides nothing, and the trips behind it
record Goes (asked : Sdo) (k : ℕ) (p : Known) (answer : Answer) (between : History) : Type 0 where
  undecided : next_decides asked p answer ≡ decided None
  rest : Within asked k (next_known p answer) between

abbrev AlwaysGoes : Sdo → ℕ → Known → History → Type 0
AlwaysGoes asked k p h =
    (answer : Answer) (between : History) → Asks CalmTrips h (next_sent asked p) answer between
    → Goes asked k p answer between

within_next : (asked : Sdo) (k : ℕ) (p : Known) (h : History) → AlwaysGoes asked k p h
    → Within asked (suc k) p h
unfolding Runs
within_next asked k p h goes zero last later result some runs = absurd (omega (arith, some))
within_next asked k p h goes (suc n) last later result some (Err fault, learned, between, step, left) =
    let never : failed fault ≡ decided None =
    step.decides ∙ (goes step.answer between step.asks).undecided in
    absurd (cc)
within_next asked k p h goes (suc n) last later result some (Ok (Some mail), learned, between, step, left) =
    let never : decided (Some mail) ≡ decided None =
    step.decides ∙ (goes step.answer between step.asks).undecided in
    absurd (cc)
within_next asked k p h goes (suc n) last later result some (Ok None, learned, between, step, left) =
    (goes step.answer between step.asks).rest n last later result (omega (arith, some))
    (subst (λ (x : Known). Runs CalmTrips between (asking asked) x n result last later) step.learns left)

-- a trip that decides
record TellsMail (asked : Sdo) (p : Known) (answer : Answer) : Type 0 where
  mail : Mail
  is : next_decides asked p answer ≡ decided (Some mail)

within_last : (asked : Sdo) (p : Known) (h : History)
    → ((answer : Answer) (between : History) → Asks CalmTrips h (next_sent asked p) answer between
    → TellsMail asked p answer)
    → Within asked 1 p h
unfolding Runs
within_last asked p h tells zero last later result some runs = absurd (omega (arith, some))
within_last asked p h tells (suc n) last later result some (Err fault, learned, between, step, left) =
    let so = tells step.answer between step.asks in
    let never : failed fault ≡ decided (Some so.mail) = step.decides ∙ so.is in
    absurd (cc)
within_last asked p h tells (suc n) last later result some (Ok None, learned, between, step, left) =
    let so = tells step.answer between step.asks in
    let never : decided None ≡ decided (Some so.mail) = step.decides ∙ so.is in
    absurd (cc)
within_last asked p h tells (suc n) last later result some (Ok (Some mail), learned, between, step, left) =
    subst (λ (r : Result Mail MasterFault). IsOkMail r) (sym left.0) tt

-- what is known then is this
known_as : (asked : Sdo) (k : ℕ) (q p : Known) (h : History) → q ≡ p
    → (CalmCall asked p h → Within asked k p h) → CalmCall asked q h → Within asked k q h
known_as asked k q p h is so call =
    subst (λ (x : Known). Within asked k x h) (sym is) (so (subst (λ (x : Known). CalmCall asked x h) is
    call))

-- ---- the three trips

carries_on : (d : DatagramRecord) (answer : Answer) → Tells d answer
    → goes_on {A = Mail} answer ≡ decided None
carries_on d (Err fault) tells = absurd tells
carries_on d (Ok back) tells = refl

-- what is seen of both mailboxes
abbrev pub seen : Bool → Bool → Boxes
seen answer request = cond answer answer_there (cond request unknown both_empty)

pub boxes_told : (peer : Peer) (s : SlaveState) (answer : Answer) → Tells (records_told peer s) answer
    → mailboxes_by answer ≡ seen (answer_stands s) (request_stands s)
boxes_told peer s (Err fault) tells = absurd tells
boxes_told peer s (Ok back) tells =
    let bytes : List ℕ = (told_by back).payload in
    ap (λ (n : ℕ). cond (not (eqb n 1)) unknown (seen (answer_waits bytes) (request_waits bytes)))
    tells.counter
    ∙ ap (λ (bs : List ℕ). seen (answer_waits bs) (request_waits bs)) tells.payload
    ∙ ap (λ (b : Bool). seen b (request_waits (take 16 (drop 2048 s.controller.memory)))) (answer_seen s)
    ∙ ap (λ (b : Bool). seen (answer_stands s) b) (request_seen s)

-- both records are read
abbrev with_boxes : Option ℕ → Peer → Boxes → Known
with_boxes posted peer boxes = record (looks posted peer) { known = boxes }

record Looked (asked : Sdo) (posted : Option ℕ) (peer : Peer) (s : SlaveState) (answer : Answer)
    (between : History) : Type 0 where
  undecided : goes_on {A = Mail} answer ≡ decided None
  known : next_known (looks posted peer) answer
      ≡ with_boxes posted peer (seen (answer_stands s) (request_stands s))
  steps : ℕ
  some : 1 ≤ steps
  now : between.now ≡ steps_of steps s
  call : CalmCall asked (next_known (looks posted peer) answer) between

looked : (asked : Sdo) (posted : Option ℕ) (peer : Peer) (h between : History) (answer : Answer)
    → IsRequest asked → CalmCall asked (looks posted peer) h
    → Asks CalmTrips h (records_read peer) answer between → Looked asked posted peer h.now answer between
looked asked posted peer h between answer fits calm asks =
    let s : SlaveState = h.now in
    let is : IsOfPeer peer s = calm.call.slaves.0 in
    let trip : IsCalmTrip h between (records_told peer s) s.controller answer =
    calm_trip h between (records_read peer) (records_told peer s) s.controller answer
    (asked_by asked (looks posted peer) calm.call.peer_is fits is.address).by asks
    (records_twice peer s is).first in
    record {
      undecided = carries_on (records_told peer s) answer trip.tells;
      known = ap (λ (b : Boxes). with_boxes posted peer b) (boxes_told peer s answer trip.tells);
      steps = trip.steps;
      some = trip.some;
      now = trip.now;
      call = record {
        call = keeps asked (looks posted peer) h between answer fits calm.call
            (calm_asks h between (records_read peer) answer asks);
        takes = subst (λ (x : SlaveState). TakesMail x) (sym trip.now)
            (takes_steps peer trip.steps s is calm.takes);
      };
    }

-- a mail is read
record WasRead (asked : Sdo) (posted : Option ℕ) (peer : Peer) (s : SlaveState) (answer : Answer)
    (between : History) : Type 0 where
  tells : Tells (mail_told peer s) answer
  steps : ℕ
  some : 1 ≤ steps
  now : between.now ≡ steps_of steps (emptied s)
  slave : IsOfPeer peer (emptied s)
  takes : TakesMail (emptied s)
  call : CalmCall asked (looks posted peer) between

was_read : (asked : Sdo) (posted : Option ℕ) (peer : Peer) (h between : History) (answer : Answer)
    → IsRequest asked → CalmCall asked (reads posted peer) h → answer_stands h.now ≡ true
    → Asks CalmTrips h (mail_read peer) answer between → WasRead asked posted peer h.now answer between
was_read asked posted peer h between answer fits calm full asks =
    let s : SlaveState = h.now in
    let is : IsOfPeer peer s = calm.call.slaves.0 in
    let trip : IsCalmTrip h between (mail_told peer s) (emptied s).controller answer =
    calm_trip h between (mail_read peer) (mail_told peer s) (emptied s).controller answer
    (asked_by asked (reads posted peer) calm.call.peer_is fits is.address).by asks
    (mail_twice peer s calm.call.peer_is is full).first in
    let later : IsOfPeer peer (emptied s) = emptied_of_peer peer s is in
    let facts : IsEmptied s.controller (emptied s).controller =
    is_emptied s.controller is.slave.controller in
    let takes : TakesMail (emptied s) = takes_same s (emptied s) facts.same calm.takes in
    record {
      tells = trip.tells;
      steps = trip.steps;
      some = trip.some;
      now = trip.now;
      slave = later;
      takes = takes;
      call = record {
        call = keeps asked (reads posted peer) h between answer fits calm.call
            (calm_asks h between (mail_read peer) answer asks);
        takes = subst (λ (x : SlaveState). TakesMail x) (sym trip.now)
            (takes_steps peer trip.steps (emptied s) later takes);
      };
    }

-- the request is posted
record Posted (asked : Sdo) (peer : Peer) (s : SlaveState) (times : List SlaveState) (answer : Answer)
    (between : History) : Type 0 where
  undecided : goes_on {A = Mail} answer ≡ decided None
  steps : ℕ
  some : 1 ≤ steps
  now : between.now ≡ steps_of steps (filled peer asked s)
  slave : IsOfPeer peer (filled peer asked s)
  takes : TakesMail (filled peer asked s)
  waits : RequestWaits peer asked times (filled peer asked s)
  call : CalmCall asked (looks (Some peer.counter) (skipped peer)) between

was_posted : (asked : Sdo) (posted : Option ℕ) (peer : Peer) (h between : History) (answer : Answer)
    → IsRequest asked → CalmCall asked (posts posted peer) h
    → Asks CalmTrips h (mail_write peer asked) answer between
    → Posted asked peer h.now (times_of h) answer between
was_posted asked posted peer h between answer fits calm asks =
    let s : SlaveState = h.now in
    let is : IsOfPeer peer s = calm.call.slaves.0 in
    let peer_is : IsPeer peer = calm.call.peer_is in
    let empty : AreEmpty s = calm.call.empty refl in
    let e : DatagramRecord = (pass s.controller (mail_write peer asked)).datagram in
    let x : SlaveState = filled peer asked s in
    let trip : IsCalmTrip h between e x.controller answer =
    calm_trip h between (mail_write peer asked) e x.controller answer
    (asked_by asked (posts posted peer) peer_is fits is.address).by asks
    (write_twice peer asked s peer_is fits is empty).first in
    let later : IsOfPeer peer x = filled_of_peer peer asked s peer_is fits is in
    let facts = filled_facts peer asked s peer_is fits is in
    let takes : TakesMail x = takes_same s x facts.same calm.takes in
    record {
      undecided = carries_on e answer trip.tells;
      steps = trip.steps;
      some = trip.some;
      now = trip.now;
      slave = later;
      takes = takes;
      waits = filled_waits peer asked (times_of h) s peer_is fits is empty (inl refl);
      call = record {
        call = keeps asked (posts posted peer) h between answer fits calm.call
            (calm_asks h between (mail_write peer asked) answer asks);
        takes = subst (λ (y : SlaveState). TakesMail y) (sym trip.now)
            (takes_steps peer trip.steps x later takes);
      };
    }

-- ---- the answer is there

pub reply_of : (peer : Peer) (asked : Sdo) (times : List SlaveState) (s : SlaveState) → answer_stands s ≡ true
    → HoldsOwn peer asked times s → ReplyWaits peer asked times s
reply_of peer asked times s full (inl empty) = absurd (true≢false (sym full ∙ empty.answer))
reply_of peer asked times s full (inr (inl waits)) = absurd (true≢false (sym full ∙ waits.answer))
reply_of peer asked times s full (inr (inr reply)) = reply

decide_told : (n : ℕ) (asked : Sdo) (e : DatagramRecord) (answer : Answer) (mail : Mail) → Tells e answer
    → e.counter ≡ 1 → answer_in n asked e.payload ≡ Ok mail
    → answer_decides (Some n) asked answer ≡ decided (Some mail)
decide_told n asked e (Err fault) mail tells one is = absurd tells
decide_told n asked e (Ok back) mail tells one is =
    let bytes : List ℕ = (told_by back).payload in
    ap (λ (k : ℕ). decided (cond (eqb k 1) (result_ok (answer_in n asked bytes)) None)) (tells.counter ∙ one)
    ∙ ap (λ (bs : List ℕ). decided (result_ok (answer_in n asked bs))) tells.payload
    ∙ ap (λ (r : Result Mail MasterFault). decided (result_ok r)) is

-- its read decides
within_one : (asked : Sdo) (n : ℕ) (peer : Peer) (h : History) → IsRequest asked
    → CalmCall asked (reads (Some n) peer) h → answer_stands h.now ≡ true
    → Within asked 1 (reads (Some n) peer) h
within_one asked n peer h fits calm full =
    within_last asked (reads (Some n) peer) h
    (λ answer between asks.
    let s : SlaveState = h.now in
    let own : Peer = with_counter peer n in
    let reply : ReplyWaits own asked (times_of h) s =
    reply_of own asked (times_of h) s full (calm.call.own n refl) in
    let read = was_read asked (Some n) peer h between answer fits calm full asks in
    record {
      mail = sent reply.mail;
      is = decide_told n asked (mail_told peer s) answer (sent reply.mail) read.tells refl
          (ap (λ (bytes : List ℕ). answer_in n asked bytes) reply.bytes
          ∙ reply_found own asked (times_of h) s peer (calm.call.counter n refl) fits calm.call.slaves reply);
    })

-- it is seen
within_two : (asked : Sdo) (n : ℕ) (peer : Peer) (h : History) → IsRequest asked
    → CalmCall asked (looks (Some n) peer) h → answer_stands h.now ≡ true
    → Within asked 2 (looks (Some n) peer) h
within_two asked n peer h fits calm full =
    within_next asked 1 (looks (Some n) peer) h
    (λ answer between asks.
    let s : SlaveState = h.now in
    let look = looked asked (Some n) peer h between answer fits calm asks in
    let now : between.now ≡ s = look.now ∙ full_steps peer look.steps s calm.call.slaves.0 full in
    record {
      undecided = look.undecided;
      rest = known_as asked 1 (next_known (looks (Some n) peer) answer) (reads (Some n) peer) between
          (look.known ∙ ap (λ (b : Bool). with_boxes (Some n) peer (seen b (request_stands s))) full)
          (λ call. within_one asked n peer between fits call (ap (λ (x : SlaveState). answer_stands x) now ∙
          full))
          look.call;
    })

-- ---- both mailboxes are empty

-- a request that the slave did not take last is answered
within_three : (asked : Sdo) (posted : Option ℕ) (peer : Peer) (h : History) → IsRequest asked
    → CalmCall asked (posts posted peer) h → is_kept h.now.application.kept peer.counter ≡ false
    → Within asked 3 (posts posted peer) h
within_three asked posted peer h fits calm new =
    within_next asked 2 (posts posted peer) h
    (λ answer between asks.
    let s : SlaveState = h.now in
    let x : SlaveState = filled peer asked s in
    let post = was_posted asked posted peer h between answer fits calm asks in
    let reply : ReplyWaits peer asked (times_of h) (steps_of 1 x) =
    answered peer asked (times_of h) x calm.call.peer_is fits post.slave post.waits
    (can_take peer x post.slave post.takes post.waits.answer) (has_one peer x post.slave post.waits.request)
    new in
    let now : between.now ≡ steps_of 1 x =
    post.now ∙ one_step peer post.steps x post.some post.slave reply.request in
    record {
      undecided = post.undecided;
      rest = within_two asked peer.counter (skipped peer) between fits post.call
          (ap (λ (y : SlaveState). answer_stands y) now ∙ reply.answer);
    })

within_four : (asked : Sdo) (posted : Option ℕ) (peer : Peer) (h : History) → IsRequest asked
    → CalmCall asked (looks posted peer) h → AreEmpty h.now
    → is_kept h.now.application.kept peer.counter ≡ false → Within asked 4 (looks posted peer) h
within_four asked posted peer h fits calm empty new =
    within_next asked 3 (looks posted peer) h
    (λ answer between asks.
    let s : SlaveState = h.now in
    let look = looked asked posted peer h between answer fits calm asks in
    let now : between.now ≡ s =
    look.now ∙ idle_steps peer look.steps s calm.call.slaves.0 empty.request in
    record {
      undecided = look.undecided;
      rest = known_as asked 3 (next_known (looks posted peer) answer) (posts posted peer) between
          (look.known
          ∙ ap (λ (b : Bool). with_boxes posted peer (seen b (request_stands s))) empty.answer
          ∙ ap (λ (b : Bool). with_boxes posted peer (seen false b)) empty.request)
          (λ call. within_three asked posted peer between fits call
          (ap (λ (x : SlaveState). is_kept x.application.kept peer.counter) now ∙ new))
          look.call;
    })

-- the next counter is another
other_kept : (kept : Option ℕ) (counter : ℕ) → is_kept kept counter ≡ true
    → is_kept kept (next_counter counter) ≡ false
other_kept None counter is = absurd (true≢false (sym is))
other_kept (Some m) counter is =
    let next : ℕ = next_counter counter in
    ap (λ (n : ℕ). eqb n next && not (eqb next 0)) (eqb-true m counter (and_parts _ _ is).0)
    ∙ ap (λ (b : Bool). b && not (eqb next 0)) (next_other counter)

-- a request that the slave took last is dropped, and the next one is not
record WasDropped (peer : Peer) (asked : Sdo) (s x : SlaveState) : Type 0 where
  empty : AreEmpty x
  application : x.application ≡ s.application

was_dropped : (peer : Peer) (asked : Sdo) (times : List SlaveState) (x : SlaveState) → IsPeer peer
    → IsRequest asked → IsOfPeer peer x → TakesMail x → RequestWaits peer asked times x
    → is_kept x.application.kept peer.counter ≡ true → WasDropped peer asked x (steps_of 1 x)
was_dropped peer asked times x peer_is fits is takes waits kept =
    subst (λ (y : SlaveState). WasDropped peer asked x y)
    (sym (dropped x (request_mail peer asked) (replicate (peer.to.length - 16) 0) is.unasked
    (can_take peer x is takes waits.answer) (has_one peer x is waits.request)
    (bytes_of peer asked times x is waits) (good_request peer asked peer_is fits) kept))
    (record {
      empty = taken_empty x is.slave.controller.memory_size waits.answer;
      application = refl;
    })

within_five : (asked : Sdo) (posted : Option ℕ) (peer : Peer) (h : History) → IsRequest asked
    → CalmCall asked (posts posted peer) h → Within asked 5 (posts posted peer) h
within_five asked posted peer h fits calm =
    ⊎_elim
    (λ (kept : is_kept h.now.application.kept peer.counter ≡ true).
    within_next asked 4 (posts posted peer) h
    (λ answer between asks.
    let s : SlaveState = h.now in
    let x : SlaveState = filled peer asked s in
    let post = was_posted asked posted peer h between answer fits calm asks in
    let drop_it : WasDropped peer asked x (steps_of 1 x) =
    was_dropped peer asked (times_of h) x calm.call.peer_is fits post.slave post.takes post.waits kept in
    let now : between.now ≡ steps_of 1 x =
    post.now ∙ one_step peer post.steps x post.some post.slave drop_it.empty.request in
    record {
      undecided = post.undecided;
      rest = within_four asked (Some peer.counter) (skipped peer) between fits post.call
          (subst (λ (y : SlaveState). AreEmpty y) (sym now) drop_it.empty)
          (ap (λ (y : SlaveState). is_kept y.application.kept (next_counter peer.counter)) now
          ∙ ap (λ (a : ApplicationState). is_kept a.kept (next_counter peer.counter)) drop_it.application
          ∙ other_kept s.application.kept peer.counter kept);
    }))
    (λ (new : is_kept h.now.application.kept peer.counter ≡ false).
    within_more asked 3 5 (posts posted peer) h (omega arith)
    (within_three asked posted peer h fits calm new))
    (cases_Bool (is_kept h.now.application.kept peer.counter))

within_six : (asked : Sdo) (posted : Option ℕ) (peer : Peer) (h : History) → IsRequest asked
    → CalmCall asked (looks posted peer) h → AreEmpty h.now → Within asked 6 (looks posted peer) h
within_six asked posted peer h fits calm empty =
    within_next asked 5 (looks posted peer) h
    (λ answer between asks.
    let s : SlaveState = h.now in
    let look = looked asked posted peer h between answer fits calm asks in
    record {
      undecided = look.undecided;
      rest = known_as asked 5 (next_known (looks posted peer) answer) (posts posted peer) between
          (look.known
          ∙ ap (λ (b : Bool). with_boxes posted peer (seen b (request_stands s))) empty.answer
          ∙ ap (λ (b : Bool). with_boxes posted peer (seen false b)) empty.request)
          (λ call. within_five asked posted peer between fits call)
          look.call;
    })

-- ---- whatever stands there at first

-- where nothing was posted a mail decides nothing
abbrev no_mail : Option Mail
no_mail = None

same_either : (b : Bool) → cond b no_mail no_mail ≡ no_mail
same_either true = refl
same_either false = refl

none_posted : (asked : Sdo) (e : DatagramRecord) (answer : Answer) → Tells e answer
    → answer_decides None asked answer ≡ decided None
none_posted asked e (Err fault) tells = absurd tells
none_posted asked e (Ok back) tells =
    ap (λ (o : Option Mail). decided o) (same_either (eqb (told_by back).counter 1))

within_seven : (asked : Sdo) (peer : Peer) (h : History) → IsRequest asked
    → CalmCall asked (reads None peer) h
    → answer_stands h.now ≡ true → request_stands h.now ≡ false → Within asked 7 (reads None peer) h
within_seven asked peer h fits calm full none =
    within_next asked 6 (reads None peer) h
    (λ answer between asks.
    let s : SlaveState = h.now in
    let is : IsOfPeer peer s = calm.call.slaves.0 in
    let read = was_read asked None peer h between answer fits calm full asks in
    let empty : AreEmpty (emptied s) = record {
      request = emptied_request peer s is ∙ none;
      answer = emptied_answer peer s is;
    } in
    let now : between.now ≡ emptied s =
    read.now ∙ idle_steps peer read.steps (emptied s) read.slave empty.request in
    record {
      undecided = none_posted asked (mail_told peer s) answer read.tells;
      rest = within_six asked None peer between fits read.call
          (subst (λ (y : SlaveState). AreEmpty y) (sym now) empty);
    })

within_eight : (asked : Sdo) (peer : Peer) (h : History) → IsRequest asked
    → CalmCall asked (looks None peer) h
    → answer_stands h.now ≡ true → request_stands h.now ≡ false → Within asked 8 (looks None peer) h
within_eight asked peer h fits calm full none =
    within_next asked 7 (looks None peer) h
    (λ answer between asks.
    let s : SlaveState = h.now in
    let look = looked asked None peer h between answer fits calm asks in
    let now : between.now ≡ s = look.now ∙ full_steps peer look.steps s calm.call.slaves.0 full in
    record {
      undecided = look.undecided;
      rest = known_as asked 7 (next_known (looks None peer) answer) (reads None peer) between
          (look.known ∙ ap (λ (b : Bool). with_boxes None peer (seen b (request_stands s))) full)
          (λ call. within_seven asked peer between fits call (ap (λ (x : SlaveState). answer_stands x) now ∙
          full)
          (ap (λ (x : SlaveState). request_stands x) now ∙ none))
          look.call;
    })

-- behind a request that was taken
within_taken : (asked : Sdo) (peer : Peer) (h : History) → IsRequest asked
    → CalmCall asked (looks None peer) h
    → request_stands h.now ≡ false → Within asked 8 (looks None peer) h
within_taken asked peer h fits calm none =
    ⊎_elim
    (λ (full : answer_stands h.now ≡ true). within_eight asked peer h fits calm full none)
    (λ (empty : answer_stands h.now ≡ false).
    within_more asked 6 8 (looks None peer) h (omega arith)
    (within_six asked None peer h fits calm (record { request = none; answer = empty })))
    (cases_Bool (answer_stands h.now))

within_nine : (asked : Sdo) (peer : Peer) (h : History) → IsRequest asked → CalmCall asked (reads None peer) h
    → answer_stands h.now ≡ true → Within asked 9 (reads None peer) h
within_nine asked peer h fits calm full =
    ⊎_elim
    (λ (there : request_stands h.now ≡ true).
    within_next asked 8 (reads None peer) h
    (λ answer between asks.
    let s : SlaveState = h.now in
    let is : IsOfPeer peer s = calm.call.slaves.0 in
    let read = was_read asked None peer h between answer fits calm full asks in
    let none : request_stands (steps_of 1 (emptied s)) ≡ false =
    takes_request peer (emptied s) read.slave read.takes (emptied_request peer s is ∙ there)
    (emptied_answer peer s is) in
    let now : between.now ≡ steps_of 1 (emptied s) =
    read.now ∙ one_step peer read.steps (emptied s) read.some read.slave none in
    record {
      undecided = none_posted asked (mail_told peer s) answer read.tells;
      rest = within_taken asked peer between fits read.call
          (ap (λ (x : SlaveState). request_stands x) now ∙ none);
    }))
    (λ (none : request_stands h.now ≡ false).
    within_more asked 7 9 (reads None peer) h (omega arith) (within_seven asked peer h fits calm full none))
    (cases_Bool (request_stands h.now))

within_ten : (asked : Sdo) (peer : Peer) (h : History) → IsRequest asked → CalmCall asked (looks None peer) h
    → Within asked 10 (looks None peer) h
within_ten asked peer h fits calm =
    within_next asked 9 (looks None peer) h
    (λ answer between asks.
    let s : SlaveState = h.now in
    let is : IsOfPeer peer s = calm.call.slaves.0 in
    let look = looked asked None peer h between answer fits calm asks in
    record {
      undecided = look.undecided;
      rest = ⊎_elim
          (λ (full : answer_stands s ≡ true).
          let now : between.now ≡ s = look.now ∙ full_steps peer look.steps s is full in
          known_as asked 9 (next_known (looks None peer) answer) (reads None peer) between
          (look.known ∙ ap (λ (b : Bool). with_boxes None peer (seen b (request_stands s))) full)
          (λ call. within_nine asked peer between fits call (ap (λ (x : SlaveState). answer_stands x) now ∙
          full))
          look.call)
          (λ (empty : answer_stands s ≡ false).
          ⊎_elim
          (λ (there : request_stands s ≡ true).
          let none : request_stands (steps_of 1 s) ≡ false =
          takes_request peer s is calm.takes there empty in
          let now : between.now ≡ steps_of 1 s =
          look.now ∙ one_step peer look.steps s look.some is none in
          known_as asked 9 (next_known (looks None peer) answer) (looks None peer) between
          (look.known
          ∙ ap (λ (b : Bool). with_boxes None peer (seen b (request_stands s))) empty
          ∙ ap (λ (b : Bool). with_boxes None peer (seen false b)) there)
          (λ call. within_more asked 8 9 (looks None peer) between (omega arith)
          (within_taken asked peer between fits call (ap (λ (x : SlaveState). request_stands x) now ∙ none)))
          look.call)
          (λ (none : request_stands s ≡ false).
          known_as asked 9 (next_known (looks None peer) answer) (posts None peer) between
          (look.known
          ∙ ap (λ (b : Bool). with_boxes None peer (seen b (request_stands s))) empty
          ∙ ap (λ (b : Bool). with_boxes None peer (seen false b)) none)
          (λ call. within_more asked 5 9 (posts None peer) between (omega arith)
          (within_five asked None peer between fits call))
          look.call)
          (cases_Bool (request_stands s)))
          (cases_Bool (answer_stands s));
    })

pub ten_trips : (asked : Sdo) (peer : Peer) (h last_h : History) (limit : ℕ) (last : Known)
    (result : Result Mail MasterFault) → IsRequest asked → IsCall asked (looks None peer) h
    → TakesMail h.now → 10 ≤ limit
    → Runs CalmTrips h (asking asked) (looks None peer) limit result last last_h → IsOkMail result
ten_trips asked peer h last_h limit last result fits call takes some runs =
    within_ten asked peer h fits (record { call = call; takes = takes }) limit last last_h result some runs
