-- A call keeps its invariant in each of its trips, and a mail that decides it answers its request.
use Rattle.std.proofs.Common.{◌≡◌, ℕ, Bool, true, false, eqb, List, [], ◌∷◌}
use Rattle.std.proofs.Common.{Option, Some, Ok, Err, refl, sym, ap, ◌∙◌, subst, inl, inr}
use Rattle.std.proofs.Common.{⊎_elim, true≢false}
use Rattle.std.specs.Prelude.{◌⊎◌, not}
use Rattle.std.specs.List.{AllByRecursion}
use Rattle.std.proofs.lemmas.Bool.{cases_Bool, eqb-true}
use Rattle.ec_wire.specs.Datagram.{DatagramRecord}
use Rattle.ec_esc.specs.State.{ControllerState}
use Rattle.ec_app.specs.Lending.{with_controller}
use Rattle.ec_app.specs.State.{SlaveState}
use Rattle.ec_app.specs.Table.{first_fitting}
use Rattle.ec_app.specs.declared.sdo.Sdo.{Sdo}
use Rattle.ec_services.specs.Ask.{Answer, Asks, told_by}
use Rattle.ec_services.specs.Mailbox.{IsPeer, mail_read, mail_write, skipped}
use Rattle.ec_services.specs.Progress.{Boxes, Known, answer_there, any_known, both_empty, looks, posts, reads}
use Rattle.ec_services.specs.Progress.{unknown}
use Rattle.ec_services.specs.Settling.{answer_waits, mailboxes_by, records_read, request_waits}
use Rattle.ec_services.specs.Surely.{next_known, next_sent}
use Rattle.ec_services.specs.declared.mailbox.Peer.{Peer}
use Rattle.ec_over_ring.specs.Recovery.{AreEmpty, Fared, HoldsOwn, History, IsCall, IsOfPeer, OneIs}
use Rattle.ec_over_ring.specs.Recovery.{SlaveTrips, answer_stands, fared, steps_of, times_of}
use Rattle.ec_over_ring.specs.Recovery.{with_counter}
use Rattle.ec_over_ring.specs.Transfers.{IsRequest}
use Rattle.ec_over_ring.proofs.AskedLemmas.{answer_seen, emptied, emptied_answer, emptied_of_peer}
use Rattle.ec_over_ring.proofs.AskedLemmas.{emptied_request, filled, filled_of_peer, filled_waits}
use Rattle.ec_over_ring.proofs.AskedLemmas.{mail_told, mail_twice, none_twice, records_counted}
use Rattle.ec_over_ring.proofs.AskedLemmas.{records_told, records_twice, request_seen, write_twice}
use Rattle.ec_over_ring.proofs.FateLemmas.{Fares, IsTold, IsTwice, fares, told_once}
use Rattle.ec_over_ring.proofs.OfPeerLemmas.{of_peer_steps}
use Rattle.ec_over_ring.proofs.OwnLemmas.{idle_steps, own_steps}
use Rattle.ec_over_ring.proofs.PeerLemmas.{skipped_peer}

-- ---- one of several, and all of them

-- one that is so, and what all are
pub record Found (P Q : SlaveState → Type 0) : Type 0 where
  pub slave : SlaveState
  pub first : P slave
  pub second : Q slave

pub one_found : (P Q : SlaveState → Type 0) (ss : List SlaveState) → OneIs P ss → AllByRecursion Q ss
    → Found P Q
one_found P Q [] one all = absurd one
one_found P Q (s ∷ ss) (inl here) all = record { slave = s; first = here; second = all.0 }
one_found P Q (s ∷ ss) (inr there) all = one_found P Q ss there all.1

pub each_so : (P Q : SlaveState → Type 0) (ss : List SlaveState) → ((s : SlaveState) → P s → Q s)
    → AllByRecursion P ss → AllByRecursion Q ss
each_so P Q [] so all = tt
each_so P Q (s ∷ ss) so all = (so s all.0, each_so P Q ss so all.1)

-- ---- another counter

-- whose slave it is does not hang on the counter
pub recounted : (peer : Peer) (n : ℕ) (s : SlaveState) → IsOfPeer peer s → IsOfPeer (with_counter peer n) s
recounted peer n s is = record {
  slave = is.slave;
  address = is.address;
  station = is.station;
  unasked = is.unasked;
  requests = is.requests;
  answers = is.answers;
  to = is.to;
  from = is.from;
}

-- ---- a trip

-- more times to look back at
grown : (peer : Peer) (asked : Sdo) (t : SlaveState) (times : List SlaveState) (s : SlaveState)
    → HoldsOwn peer asked times s → HoldsOwn peer asked (t ∷ times) s
grown peer asked t times s (inl empty) = inl empty
grown peer asked t times s (inr (inl waits)) =
    inr (inl (record {
      request = waits.request;
      answer = waits.answer;
      bytes = waits.bytes;
      before = inr waits.before;
    }))
grown peer asked t times s (inr (inr reply)) =
    inr (inr (record {
      request = reply.request;
      answer = reply.answer;
      mail = reply.mail;
      bytes = reply.bytes;
      at = inr reply.at;
    }))

-- what holds of the slave that was not passed and of the one that was holds of either
pub either_slave : (P : SlaveState → Type 0) (s : SlaveState) (left state : ControllerState)
    → (state ≡ s.controller) ⊎ (state ≡ left) → P s → P (with_controller s left) → P (with_controller s state)
either_slave P s left state (inl is) first second =
    subst (λ (x : ControllerState). P (with_controller s x)) (sym is) first
either_slave P s left state (inr is) first second =
    subst (λ (x : ControllerState). P (with_controller s x)) (sym is) second

-- the slave that the copies left, before it steps
record IsLeft (asked : Sdo) (p : Known) (times : List SlaveState) (x : SlaveState) : Type 0 where
  slave : IsOfPeer p.peer x
  empty : p.known ≡ both_empty → AreEmpty x
  own : (n : ℕ) → p.posted ≡ Some n → HoldsOwn (with_counter p.peer n) asked times x

-- and the call behind its steps
stepped_call : (asked : Sdo) (p : Known) (h : History) (x : SlaveState) (n : ℕ) → IsRequest asked
    → IsPeer p.peer → ((k : ℕ) → p.posted ≡ Some k → IsPeer (with_counter p.peer k))
    → AllByRecursion (IsOfPeer p.peer) (times_of h) → IsLeft asked p (times_of h) x
    → IsCall asked p (record { now = steps_of n x; past = times_of h })
stepped_call asked p h x n fits peer_is counter all left = record {
  peer_is = peer_is;
  slaves = (of_peer_steps p.peer n x left.slave, all);
  empty = λ is.
      subst (λ (y : SlaveState). AreEmpty y)
      (sym (idle_steps p.peer n x left.slave (left.empty is).request)) (left.empty is);
  counter = counter;
  own = λ k is.
      grown (with_counter p.peer k) asked (steps_of n x) (times_of h) (steps_of n x)
      (own_steps (with_counter p.peer k) asked (times_of h) n x (counter k is) fits
      (recounted p.peer k x left.slave) (left.own k is));
}

-- a datagram's trip
trip_call : (asked : Sdo) (p : Known) (h later : History) (d e : DatagramRecord) (left : ControllerState)
    (answer : Answer) → (asks : Asks SlaveTrips h d answer later) → IsTwice h.now.controller d e left
    → IsRequest asked → IsPeer p.peer → ((k : ℕ) → p.posted ≡ Some k → IsPeer (with_counter p.peer k))
    → AllByRecursion (IsOfPeer p.peer) (times_of h) → IsLeft asked p (times_of h) h.now
    → IsLeft asked p (times_of h) (with_controller h.now left) → IsCall asked p later
trip_call asked p h later d e left answer asks twice fits peer_is counter all first second =
    let c : ControllerState = h.now.controller in
    let f : Fared = fared asks.made.fate c (d ∷ []) in
    let both : Fares d e c left f = fares asks.made.fate c left d e twice in
    subst (λ (y : History). IsCall asked p y) (sym asks.made.later_is)
    (stepped_call asked p h (with_controller h.now f.state) asks.made.fate.steps fits peer_is counter all
    (either_slave (λ (x : SlaveState). IsLeft asked p (times_of h) x) h.now left f.state both.state first
    second))

-- ---- both records are read

empty_parts : (a b c : Bool)
    → first_fitting {R = Boxes} ((not a, unknown) ∷ (b, answer_there) ∷ (c, unknown) ∷ []) both_empty
    ≡ both_empty
    → (a ≡ true) × (b ≡ false) × (c ≡ false)
empty_parts false b c is = absurd (cc)
empty_parts true true c is = absurd (cc)
empty_parts true false true is = absurd (cc)
empty_parts true false false is = (refl, refl, refl)

seen_empty : (peer : Peer) (h later : History) (answer : Answer) → IsOfPeer peer h.now
    → Asks SlaveTrips h (records_read peer) answer later → mailboxes_by answer ≡ both_empty → AreEmpty h.now
seen_empty peer h later (Err fault) is asks empty = absurd (cc)
seen_empty peer h later (Ok back) is asks empty =
    let s : SlaveState = h.now in
    let c : ControllerState = s.controller in
    let d : DatagramRecord = records_read peer in
    let e : DatagramRecord = records_told peer s in
    let bytes : List ℕ = (told_by back).payload in
    let parts = empty_parts (eqb (told_by back).counter 1) (answer_waits bytes) (request_waits bytes) empty in
    let told : IsTold e (told_by back) =
    told_once d e c c (fared asks.made.fate c (d ∷ [])) asks.came (Ok back)
    (fares asks.made.fate c c d e (records_twice peer s is)) (records_counted peer s is) asks.made.comes
    asks.brings (eqb-true _ 1 parts.0) in
    record {
      request = sym (request_seen s) ∙ sym (ap (λ (bs : List ℕ). request_waits bs) told.payload) ∙ parts.2;
      answer = sym (answer_seen s) ∙ sym (ap (λ (bs : List ℕ). answer_waits bs) told.payload) ∙ parts.1;
    }

look_call : (asked : Sdo) (posted : Option ℕ) (peer : Peer) (h later : History) (answer : Answer)
    → IsRequest asked → IsCall asked (looks posted peer) h
    → Asks SlaveTrips h (records_read peer) answer later
    → IsCall asked (next_known (looks posted peer) answer) later
look_call asked posted peer h later answer fits call asks =
    let p : Known = next_known (looks posted peer) answer in
    let left : IsLeft asked p (times_of h) h.now = record {
      slave = call.slaves.0;
      empty = λ is. seen_empty peer h later answer call.slaves.0 asks is;
      own = call.own;
    } in
    trip_call asked p h later (records_read peer) (records_told peer h.now) h.now.controller answer asks
    (records_twice peer h.now call.slaves.0) fits call.peer_is call.counter call.slaves left left

-- ---- the mailbox of answers is read

-- where an answer stood, both are empty behind it
pub emptied_own : (peer : Peer) (asked : Sdo) (times : List SlaveState) (s : SlaveState) → IsOfPeer peer s
    → answer_stands s ≡ true → HoldsOwn peer asked times s → HoldsOwn peer asked times (emptied s)
emptied_own peer asked times s is full (inl empty) = absurd (true≢false (sym full ∙ empty.answer))
emptied_own peer asked times s is full (inr (inl waits)) = absurd (true≢false (sym full ∙ waits.answer))
emptied_own peer asked times s is full (inr (inr reply)) =
    inl (record {
      request = emptied_request peer s is ∙ reply.request;
      answer = emptied_answer peer s is;
    })

read_call : (asked : Sdo) (posted : Option ℕ) (peer : Peer) (h later : History) (answer : Answer)
    → IsRequest asked → IsCall asked (reads posted peer) h
    → Asks SlaveTrips h (mail_read peer) answer later
    → IsCall asked (looks posted peer) later
read_call asked posted peer h later answer fits call asks =
    let p : Known = looks posted peer in
    let s : SlaveState = h.now in
    let is : IsOfPeer peer s = call.slaves.0 in
    let first : IsLeft asked p (times_of h) s =
    record { slave = is; empty = λ never. absurd (cc); own = call.own } in
    ⊎_elim
    (λ (full : answer_stands s ≡ true).
    trip_call asked p h later (mail_read peer) (mail_told peer s) (emptied s).controller answer asks
    (mail_twice peer s call.peer_is is full) fits call.peer_is call.counter call.slaves first
    (record {
      slave = emptied_of_peer peer s is;
      empty = λ never. absurd (cc);
      own = λ n posts.
          emptied_own (with_counter peer n) asked (times_of h) s (recounted peer n s is) full
          (call.own n posts);
    }))
    (λ (none : answer_stands s ≡ false).
    trip_call asked p h later (mail_read peer) (mail_read peer) s.controller answer asks
    (none_twice peer s call.peer_is is none) fits call.peer_is call.counter call.slaves first first)
    (cases_Bool (answer_stands s))

-- ---- the request is posted

post_call : (asked : Sdo) (posted : Option ℕ) (peer : Peer) (h later : History) (answer : Answer)
    → IsRequest asked → IsCall asked (posts posted peer) h
    → Asks SlaveTrips h (mail_write peer asked) answer later
    → IsCall asked (looks (Some peer.counter) (skipped peer)) later
post_call asked posted peer h later answer fits call asks =
    let p : Known = looks (Some peer.counter) (skipped peer) in
    let s : SlaveState = h.now in
    let is : IsOfPeer peer s = call.slaves.0 in
    let empty : AreEmpty s = call.empty refl in
    let skips : (x : SlaveState) → IsOfPeer peer x → IsOfPeer (skipped peer) x =
    λ x so. recounted peer (skipped peer).counter x so in
    let counted : (k : ℕ) → Some peer.counter ≡ Some k → peer.counter ≡ k = λ k same. cc in
    trip_call asked p h later (mail_write peer asked) _ (filled peer asked s).controller answer asks
    (write_twice peer asked s call.peer_is fits is empty) fits (skipped_peer peer call.peer_is)
    (λ k posts. subst (λ (n : ℕ). IsPeer (with_counter peer n)) (counted k posts) call.peer_is)
    (each_so (IsOfPeer peer) (IsOfPeer (skipped peer)) (times_of h) skips call.slaves)
    (record { slave = skips s is; empty = λ never. absurd (cc); own = λ k posts. inl empty })
    (record {
      slave = skips (filled peer asked s) (filled_of_peer peer asked s call.peer_is fits is);
      empty = λ never. absurd (cc);
      own = λ k posts.
          subst (λ (n : ℕ). HoldsOwn (with_counter peer n) asked (times_of h) (filled peer asked s))
          (counted k posts)
          (inr (inl (filled_waits peer asked (times_of h) s call.peer_is fits is empty (inl refl))));
    })

-- ---- any trip of the call

abbrev Keeps : Sdo → Known → Type 0
Keeps asked p =
    (h later : History) (answer : Answer) → IsRequest asked → IsCall asked p h
    → Asks SlaveTrips h (next_sent asked p) answer later → IsCall asked (next_known p answer) later

pub keeps : (asked : Sdo) (p : Known) → Keeps asked p
keeps asked p = any_known (Keeps asked) (look_call asked) (read_call asked) (post_call asked) p
