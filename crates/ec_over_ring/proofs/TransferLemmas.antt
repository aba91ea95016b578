-- A transfer over a ring: its two trips, and what it comes to.
use Rattle.std.proofs.Common.{◌≡◌, ℕ, zero, suc, ◌≤◌, Bool, cond, eqb, ltb, ◌-◌, ◌||◌, true, List, [], ◌∷◌}
use Rattle.std.proofs.Common.{◌++◌, map, length, Option, None, Some, Result, Ok, Err, refl, ap, ◌∙◌, arith}
use Rattle.std.proofs.Common.{subst, replicate}
use Rattle.std.specs.Prelude.{not}
use Rattle.std.specs.List.{AllByRecursion}
use Rattle.std.specs.Option.{is_some}
use Rattle.std.proofs.lemmas.Bool.{and_from, eq-eqb}
use Rattle.ec_regs.specs.declared.registers.TheConstants.{STATION_ADDRESS}
use Rattle.ec_wire.specs.Datagram.{DatagramRecord, nth}
use Rattle.ec_wire.specs.declared.command.Command.TheVariants.{Fprd, Fpwr}
use Rattle.ec_esc.specs.Pass.{pass}
use Rattle.ec_esc.specs.State.{IsController, word_at}
use Rattle.ec_app.specs.Mail.{mail_bytes, mail_of, sent}
use Rattle.ec_app.specs.Sdo.{index, sub}
use Rattle.ec_app.specs.Slave.{step}
use Rattle.ec_app.specs.State.{SlaveState}
use Rattle.ec_app.specs.Table.{first_fitting}
use Rattle.ec_app.specs.declared.mail.Mail.{Mail}
use Rattle.ec_app.specs.declared.mail.MailFault.{MailFault}
use Rattle.ec_app.specs.declared.objects.Entry.{Entry}
use Rattle.ec_app.specs.declared.sdo.Sdo.{Sdo}
use Rattle.ec_ring.specs.Ring.{RingState, controllers}
use Rattle.ec_master.specs.RingTrips.{RingTrips}
use Rattle.ec_services.specs.Ask.{Answer, Asks, Question, write_decides}
use Rattle.ec_services.specs.Mailbox.{mail_decides, mail_question, mail_read, mail_write, next_counter}
use Rattle.ec_services.specs.Mailbox.{request_mail, skipped, with_counted}
use Rattle.ec_services.specs.Transfer.{IsTransferred, ThenFetches, answer_in, answer_of, answers}
use Rattle.ec_services.specs.Transfer.{service_of, understood}
use Rattle.ec_services.specs.declared.fault.MasterFault.{MasterFault}
use Rattle.ec_services.specs.declared.fault.MasterFault.TheVariants.{BadAnswer, NoAnswer, NoSlave}
use Rattle.ec_services.specs.declared.mailbox.Peer.{Peer}
use Rattle.ec_over_ring.specs.Question.{ReachesOne, Tells, after_question, ring_after}
use Rattle.ec_over_ring.specs.States.{HasStation}
use Rattle.ec_over_ring.specs.Transfers.{HasPeer, IsRequest, IsSlave, answered, answered_ring, answering}
use Rattle.ec_over_ring.specs.Transfers.{posted_ring, two_steps}
use Rattle.ec_over_ring.proofs.AnswerLemmas.{Comes, outcome_of}
use Rattle.ec_over_ring.proofs.BytesLemmas.{zero_bytes}
use Rattle.ec_over_ring.proofs.PeerLemmas.{HasAnswered, HasRead, IsDone, IsPosted, area_bytes, has_answered}
use Rattle.ec_over_ring.proofs.PeerLemmas.{has_read, is_done, posted, request_area, skipped_peer}
use Rattle.ec_over_ring.proofs.PeerLemmas.{station_same}
use Rattle.ec_over_ring.proofs.QuestionLemmas.{asked_alone}
use Rattle.ec_over_ring.proofs.SlaveLemmas.{step_slave}
use Rattle.ec_over_ring.proofs.SpellingLemmas.{no_fault, read_back}
use Rattle.ec_over_ring.proofs.StationLemmas.{ado_is, has_later, meant, reaches}
use Rattle.ec_over_ring.proofs.TalkLemmas.{IsBegun, begun, ends}

-- ---- slaves

abbrev pub AreSlaves : List SlaveState → Type 0
AreSlaves ss = AllByRecursion IsSlave ss

-- one among them is another
pub one_other : (before : List SlaveState) (s t : SlaveState) (behind : List SlaveState)
    → AreSlaves (before ++ s ∷ behind) → IsSlave t → AreSlaves (before ++ t ∷ behind)
one_other [] s t behind all is = (is, all.1)
one_other (x ∷ before) s t behind all is = (all.0, one_other before s t behind all.1 is)

pub one_of : (before : List SlaveState) (s : SlaveState) (behind : List SlaveState)
    → AreSlaves (before ++ s ∷ behind) → IsSlave s
one_of [] s behind all = all.0
one_of (x ∷ before) s behind all = one_of before s behind all.1

-- each takes its step
pub steps : (ss : List SlaveState) → AreSlaves ss → AreSlaves (map step ss)
steps [] all = tt
steps (s ∷ ss) all = (step_slave s all.0, steps ss all.1)

-- and has a controller
pub have_controllers : (ss : List SlaveState) → AreSlaves ss → AllByRecursion IsController (controllers ss)
have_controllers [] all = tt
have_controllers (s ∷ ss) all = (all.0.controller, have_controllers ss all.1)

-- ---- what an answer decides

-- a write that is counted once decides nothing, and moves the peer's counter
write_goes_on : (told : DatagramRecord) (answer : Answer) → told.counter ≡ 1 → Tells told answer
    → write_decides {A = Mail} answer ≡ Ok None
write_goes_on told (Err fault) one tells = absurd tells
write_goes_on told (Ok back) one tells =
    ap (λ (n : ℕ). first_fitting {R = Result (Option Mail) MasterFault}
    ((eqb n 0, Err NoSlave) ∷ (ltb 1 n, Err BadAnswer) ∷ []) (Ok None)) (tells.counter ∙ one)

counter_moves : (peer : Peer) (told : DatagramRecord) (answer : Answer) → told.counter ≡ 1 → Tells told answer
    → with_counted peer answer ≡ skipped peer
counter_moves peer told (Err fault) one tells = absurd tells
counter_moves peer told (Ok back) one tells =
    ap (λ (n : ℕ). cond (eqb n 1) (record peer { counter = next_counter peer.counter }) peer)
    (tells.counter ∙ one)

-- a read that is counted once brings the mail
record IsFetched (told : DatagramRecord) (answer : Answer) : Type 0 where
  frame : List DatagramRecord
  decides : mail_decides answer ≡ Ok (Some frame)
  payload : (nth frame 0).payload ≡ told.payload

fetched : (told : DatagramRecord) (answer : Answer) → told.counter ≡ 1 → Tells told answer
    → IsFetched told answer
fetched told (Err fault) one tells = absurd tells
fetched told (Ok back) one tells = record {
  frame = back.joined;
  decides = ap (λ (n : ℕ). first_fitting {R = Result (Option (List DatagramRecord)) MasterFault}
      ((eqb n 0, Ok None) ∷ (ltb 1 n, Err BadAnswer) ∷ []) (Ok (Some back.joined))) (tells.counter ∙ one);
  payload = tells.payload;
}

-- and the mail answers the request
mail_found : {A : Type 0} (peer : Peer) (asked : Sdo) (comes_to : Mail → Result A MasterFault)
    (result : Result A MasterFault) (after : List Entry) (o : Option Mail × List Entry) (rest : List ℕ)
    → (comes : Comes peer (index asked) (sub asked) comes_to result after o)
    → answer_in peer.counter asked (mail_bytes (sent comes.mail) ++ rest) ≡ Ok (sent comes.mail)
mail_found peer asked comes_to result after o rest comes =
    let m : Mail = sent comes.mail in
    let bytes : List ℕ = mail_bytes m ++ rest in
    let back : mail_of bytes ≡ m = read_back m rest comes.good in
    let right : answers peer.counter asked m ≡ true =
    and_from _ _ (eq-eqb m.counter peer.counter comes.counter)
    (and_from _ _ (eq-eqb (index m.sdo) (index asked) comes.index_is)
    (eq-eqb (sub m.sdo) (sub asked) comes.sub_is)) in
    ap (λ (f : Option MailFault).
    cond (is_some f || not (answers peer.counter asked (mail_of bytes))) (Err BadAnswer) (Ok (mail_of bytes)))
    (no_fault m rest comes.good)
    ∙ ap (λ (n : Mail). cond (not (answers peer.counter asked n)) (Err BadAnswer) (Ok n)) back
    ∙ ap (λ (b : Bool). cond (not b) (Err BadAnswer) (Ok m)) right

-- ---- the first trip

record IsWritten (peer : Peer) (asked : Sdo) (r : RingState) (before : List SlaveState) (s : SlaveState)
    (behind : List SlaveState) (answer : Answer) (between : RingState) : Type 0 where
  ring : between ≡ posted_ring peer asked r before s behind
  undecided : write_decides {A = Mail} answer ≡ Ok None
  moves : with_counted peer answer ≡ skipped peer

-- the slave that is meant
pub own_slave : (peer : Peer) (r : RingState) (before : List SlaveState) (s : SlaveState)
    (behind : List SlaveState) → HasPeer peer r before s behind → IsSlave s
own_slave peer r before s behind has =
    one_of before s behind
    (subst (λ (ss : List SlaveState). AreSlaves ss) has.station.slaves has.slaves)

is_posted : (peer : Peer) (asked : Sdo) (r : RingState) (before : List SlaveState) (s : SlaveState)
    (behind : List SlaveState) → HasPeer peer r before s behind → IsRequest asked → IsPosted peer asked s
is_posted peer asked r before s behind has fits =
    posted peer asked s has.peer_is fits (own_slave peer r before s behind has).controller has.ready
    (meant peer.station peer.to.start r before s behind has.station)
    (ado_is peer.station peer.to.start has.station.address)

first_trip : (peer : Peer) (asked : Sdo) (r : RingState) (before : List SlaveState) (s : SlaveState)
    (behind : List SlaveState) (answer : Answer) (between : RingState)
    → HasPeer peer r before s behind → IsRequest asked
    → Asks RingTrips r (mail_write peer asked) answer between
    → IsWritten peer asked r before s behind answer between
first_trip peer asked r before s behind answer between has fits asks =
    let d : DatagramRecord = mail_write peer asked in
    let one : ReachesOne d r before s behind =
    reaches peer.station peer.to.start Fpwr (request_area peer asked) r before s behind has.station refl
    (area_bytes peer asked has.peer_is fits) in
    let comes = asked_alone d r before behind s answer between one.asked one.alone one.down asks in
    let post : IsPosted peer asked s = is_posted peer asked r before s behind has fits in
    record {
      ring = comes.1;
      undecided = write_goes_on (pass s.controller d).datagram answer post.counted comes.0;
      moves = counter_moves peer (pass s.controller d).datagram answer post.counted comes.0;
    }

-- ---- the ring between both

-- slaves and station behind a question to the one
pub slaves_later : (d : DatagramRecord) (r : RingState) (before : List SlaveState) (s : SlaveState)
    (behind : List SlaveState) → r.slaves ≡ before ++ s ∷ behind → AreSlaves r.slaves
    → IsSlave (after_question d s) → AreSlaves (ring_after d r before s behind).slaves
slaves_later d r before s behind are all one =
    steps (before ++ after_question d s ∷ behind)
    (one_other before s (after_question d s) behind
    (subst (λ (ss : List SlaveState). AreSlaves ss) are all) one)

station_later : (station : ℕ) (d : DatagramRecord) (r : RingState) (before : List SlaveState) (s : SlaveState)
    (behind : List SlaveState) → HasStation station r before s behind
    → AreSlaves (ring_after d r before s behind).slaves
    → IsController (after_question d s).controller
    → word_at (after_question d s).controller.memory STATION_ADDRESS
    ≡ word_at s.controller.memory STATION_ADDRESS
    → HasStation station (ring_after d r before s behind) (map step before) (step (after_question d s))
    (map step behind)
station_later station d r before s behind has all controller same =
    has_later station r before s (after_question d s) behind has controller.memory_size
    (same ∙ has.station_is)
    (have_controllers (ring_after d r before s behind).slaves all)

-- what stands between both trips
record IsBetween (peer : Peer) (asked : Sdo) (r : RingState) (before : List SlaveState)
    (s : SlaveState) (behind : List SlaveState) (mail : Mail) (after : List Entry) : Type 0 where
  station : HasStation peer.station (posted_ring peer asked r before s behind) (map step before)
      (answering peer asked s) (map step behind)
  slaves : AreSlaves (posted_ring peer asked r before s behind).slaves
  has : HasAnswered peer s mail after (answering peer asked s)
  read : HasRead peer mail (answering peer asked s)

is_between : {A : Type 0} (peer : Peer) (asked : Sdo) (r : RingState) (before : List SlaveState)
    (s : SlaveState) (behind : List SlaveState) (comes_to : Mail → Result A MasterFault)
    (result : Result A MasterFault) (after : List Entry) → HasPeer peer r before s behind → IsRequest asked
    → (comes : Comes peer (index asked) (sub asked) comes_to result after
    (outcome_of (request_mail peer asked) s.application.objects))
    → IsBetween peer asked r before s behind comes.mail after
is_between peer asked r before s behind comes_to result after has fits comes =
    let d : DatagramRecord = mail_write peer asked in
    let own : IsSlave s = own_slave peer r before s behind has in
    let post : IsPosted peer asked s = is_posted peer asked r before s behind has fits in
    let done : HasAnswered peer s comes.mail after (answering peer asked s) =
    has_answered peer asked s comes_to result after has.peer_is fits own has.ready post comes in
    let slaves : AreSlaves (posted_ring peer asked r before s behind).slaves =
    slaves_later d r before s behind has.station.slaves has.slaves
    (record { controller = post.filled.controller; values = own.values }) in
    let station : HasStation peer.station (posted_ring peer asked r before s behind) (map step before)
    (answering peer asked s) (map step behind) =
    station_later peer.station d r before s behind has.station slaves post.filled.controller
    (station_same s.controller.memory (after_question d s).controller.memory post.filled.same) in
    record {
      station = station;
      slaves = slaves;
      has = done;
      read = has_read peer s comes.mail after (answering peer asked s) has.peer_is has.ready done
          (meant peer.station peer.from.start (posted_ring peer asked r before s behind) (map step before)
          (answering peer asked s) (map step behind) station)
          (ado_is peer.station peer.from.start has.station.address);
    }

-- ---- the second trip

record IsRead (peer : Peer) (asked : Sdo) (r : RingState) (before : List SlaveState) (s : SlaveState)
    (behind : List SlaveState) (answer : Answer) (later : RingState) : Type 0 where
  ring : later ≡ answered_ring peer asked r before s behind
  brings : IsFetched (pass (answering peer asked s).controller (mail_read peer)).datagram answer

second_trip : (peer : Peer) (asked : Sdo) (r : RingState) (before : List SlaveState) (s : SlaveState)
    (behind : List SlaveState) (mail : Mail) (after : List Entry) (answer : Answer) (later : RingState)
    → IsBetween peer asked r before s behind mail after
    → Asks RingTrips (posted_ring peer asked r before s behind) (mail_read peer) answer later
    → IsRead peer asked r before s behind answer later
second_trip peer asked r before s behind mail after answer later between asks =
    let d : DatagramRecord = mail_read peer in
    let x : SlaveState = answering peer asked s in
    let ring : RingState = posted_ring peer asked r before s behind in
    let one : ReachesOne d ring (map step before) x (map step behind) =
    reaches peer.station peer.from.start Fprd (replicate peer.from.length 0) ring (map step before) x
    (map step behind) between.station refl (zero_bytes peer.from.length) in
    let comes = asked_alone d ring (map step before) (map step behind) x answer later one.asked one.alone
    one.down asks in
    record {
      ring = comes.1;
      brings = fetched (pass x.controller d).datagram answer between.read.counted comes.0;
    }

-- ---- the next transfer

has_peer : (peer : Peer) (asked : Sdo) (r : RingState) (before : List SlaveState) (s : SlaveState)
    (behind : List SlaveState) (mail : Mail) (after : List Entry) → HasPeer peer r before s behind
    → IsBetween peer asked r before s behind mail after
    → IsDone peer s after (answered peer asked s)
    → HasPeer (skipped peer) (answered_ring peer asked r before s behind) (two_steps before)
    (answered peer asked s) (two_steps behind)
has_peer peer asked r before s behind mail after has between done =
    let d : DatagramRecord = mail_read peer in
    let x : SlaveState = answering peer asked s in
    let ring : RingState = posted_ring peer asked r before s behind in
    let emptied = between.read.emptied in
    let slaves : AreSlaves (answered_ring peer asked r before s behind).slaves =
    slaves_later d ring (map step before) x (map step behind) between.station.slaves between.slaves
    (record { controller = emptied.controller; values = between.has.slave.values }) in
    record {
      peer_is = skipped_peer peer has.peer_is;
      station = station_later peer.station d ring (map step before) x (map step behind) between.station slaves
          emptied.controller
          (station_same x.controller.memory (after_question d x).controller.memory emptied.same);
      slaves = slaves;
      ready = done.ready;
    }

-- ---- the transfer

-- what it comes to
pub record ComesTo {A : Type 0} (peer : Peer) (asked : Sdo) (r : RingState) (before : List SlaveState)
    (s : SlaveState) (behind : List SlaveState) (expected : Result A MasterFault)
    (result : Result A MasterFault) (peer_later : Peer) (later : RingState) : Type 0 where
  pub result_is : result ≡ expected
  pub moves : peer_later ≡ skipped peer
  pub ring : later ≡ answered_ring peer asked r before s behind

-- the slave alone
pub done_alone : {A : Type 0} (peer : Peer) (asked : Sdo) (r : RingState) (before : List SlaveState)
    (s : SlaveState) (behind : List SlaveState) (comes_to : Mail → Result A MasterFault)
    (expected : Result A MasterFault) (after : List Entry) → HasPeer peer r before s behind → IsRequest asked
    → Comes peer (index asked) (sub asked) comes_to expected after
    (outcome_of (request_mail peer asked) s.application.objects)
    → IsDone peer s after (answered peer asked s)
done_alone peer asked r before s behind comes_to expected after has fits comes =
    let between = is_between peer asked r before s behind comes_to expected after has fits comes in
    is_done peer asked s comes.mail after has.ready between.has between.read

-- and the ring
pub peer_again : {A : Type 0} (peer : Peer) (asked : Sdo) (r : RingState) (before : List SlaveState)
    (s : SlaveState) (behind : List SlaveState) (comes_to : Mail → Result A MasterFault)
    (expected : Result A MasterFault) (after : List Entry) → HasPeer peer r before s behind → IsRequest asked
    → Comes peer (index asked) (sub asked) comes_to expected after
    (outcome_of (request_mail peer asked) s.application.objects)
    → HasPeer (skipped peer) (answered_ring peer asked r before s behind) (two_steps before)
    (answered peer asked s) (two_steps behind)
peer_again peer asked r before s behind comes_to expected after has fits comes =
    let between = is_between peer asked r before s behind comes_to expected after has fits comes in
    has_peer peer asked r before s behind comes.mail after has between
    (is_done peer asked s comes.mail after has.ready between.has between.read)

-- what is left behind the write
fetches : {A : Type 0} (peer : Peer) (asked : Sdo) (limit : ℕ) (r : RingState) (before : List SlaveState)
    (s : SlaveState) (behind : List SlaveState) (comes_to : Mail → Result A MasterFault)
    (expected : Result A MasterFault) (after : List Entry) (answer : Result Mail MasterFault)
    (later : RingState) → HasPeer peer r before s behind → IsRequest asked
    → (comes : Comes peer (index asked) (sub asked) comes_to expected after
    (outcome_of (request_mail peer asked) s.application.objects))
    → 1 ≤ limit
    → ThenFetches RingTrips (posted_ring peer asked r before s behind) peer asked limit (Ok None) answer later
    → (answer ≡ Ok (sent comes.mail)) × (later ≡ answered_ring peer asked r before s behind)
fetches peer asked zero r before s behind comes_to expected after answer later has fits comes some fetching =
    absurd (omega (arith, some))
fetches peer asked (suc n) r before s behind comes_to expected after answer later has fits comes some
    fetching =
    let ring : RingState = posted_ring peer asked r before s behind in
    let q : Question (List DatagramRecord) = mail_question peer in
    let got : Result (List DatagramRecord) MasterFault = fetching.0 in
    let first : IsBegun RingTrips ring q (replicate n q) (Err NoAnswer) got later =
    begun RingTrips ring q (replicate n q) (Err NoAnswer) got later fetching.1 in
    let between = is_between peer asked r before s behind comes_to expected after has fits comes in
    let read : IsRead peer asked r before s behind first.answer first.between =
    second_trip peer asked r before s behind comes.mail after first.answer first.between between first.asks in
    let end = ends RingTrips ring q (replicate n q) (Err NoAnswer) got later first (Ok read.brings.frame)
    read.brings.decides in (
      fetching.2
          ∙ ap (λ (f : Result (List DatagramRecord) MasterFault). answer_of peer.counter asked f) end.0
          ∙ ap (λ (bytes : List ℕ). answer_in peer.counter asked bytes)
          (read.brings.payload ∙ between.read.payload)
          ∙ mail_found peer asked comes_to expected after
          (outcome_of (request_mail peer asked) s.application.objects)
          (replicate (peer.from.length - length (mail_bytes (sent comes.mail))) 0) comes,
      end.1 ∙ read.ring,
    )

pub transferred : {A : Type 0} (peer peer_later : Peer) (asked : Sdo) (limit : ℕ) (r : RingState)
    (before : List SlaveState)
    (s : SlaveState) (behind : List SlaveState) (comes_to : Mail → Result A MasterFault)
    (expected : Result A MasterFault) (after : List Entry) (result : Result A MasterFault) (later : RingState)
    → HasPeer peer r before s behind → IsRequest asked
    → Comes peer (index asked) (sub asked) comes_to expected after
    (outcome_of (request_mail peer asked) s.application.objects)
    → 1 ≤ limit → IsTransferred RingTrips r peer (service_of asked comes_to) limit result peer_later later
    → ComesTo peer asked r before s behind expected result peer_later later
transferred peer peer_later asked limit r before s behind comes_to expected after result later has fits comes
    some transfer =
    let exchange = transfer.exchange in
    let posting = exchange.posting in
    let written : IsWritten peer asked r before s behind posting.answer exchange.between =
    first_trip peer asked r before s behind posting.answer exchange.between has fits posting.asks in
    let left : ThenFetches RingTrips (posted_ring peer asked r before s behind) peer asked limit (Ok None)
    transfer.answer later =
    subst (λ (x : RingState). ThenFetches RingTrips x peer asked limit (Ok None) transfer.answer later)
    written.ring
    (subst (λ (x : Result (Option Mail) MasterFault).
    ThenFetches RingTrips exchange.between peer asked limit x transfer.answer later)
    (posting.decides ∙ written.undecided) exchange.fetching) in
    let end = fetches peer asked limit r before s behind comes_to expected after transfer.answer later has
    fits comes some left in
    record {
      result_is = transfer.understands
          ∙ ap (λ (x : Result Mail MasterFault). understood comes_to x) end.0 ∙ comes.says;
      moves = posting.counted ∙ written.moves;
      ring = end.1;
    }
