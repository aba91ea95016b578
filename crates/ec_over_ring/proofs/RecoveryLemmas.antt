-- What a call comes to in any weather.
use Rattle.std.proofs.Common.{◌≡◌, ℕ, zero, suc, Bool, true, false, cond, eqb, ◌||◌, List, [], ◌∷◌, ◌++◌}
use Rattle.std.proofs.Common.{arith, Option, None, Some, Result, Ok, Err, refl, sym, ap, ◌∙◌, subst, inl}
use Rattle.std.proofs.Common.{inr, length}
use Rattle.std.proofs.Common.{replicate, ⊎_elim, ◌-◌, true≢false}
use Rattle.std.specs.Prelude.{◌⊎◌, not}
use Rattle.std.specs.List.{AllByRecursion}
use Rattle.std.specs.Option.{is_some}
use Rattle.std.specs.Result.{result_ok}
use Rattle.std.proofs.lemmas.Bool.{and_from, cases_Bool, eq-eqb, eqb-true}
use Rattle.ec_wire.specs.Datagram.{DatagramRecord}
use Rattle.ec_app.specs.Mail.{mail_bytes, mail_of, sent}
use Rattle.ec_app.specs.Lending.{with_controller}
use Rattle.ec_app.specs.Sdo.{index, sub}
use Rattle.ec_app.specs.State.{ApplicationState, SlaveState}
use Rattle.ec_app.specs.declared.mail.Mail.{Mail}
use Rattle.ec_app.specs.declared.mail.MailFault.{MailFault}
use Rattle.ec_app.specs.declared.objects.Entry.{Entry}
use Rattle.ec_app.specs.declared.sdo.Sdo.{Sdo}
use Rattle.ec_app.specs.declared.sdo.Sdo.TheVariants.{Upload, Download}
use Rattle.ec_app.specs.declared.value.Value.{Value}
use Rattle.ec_ring.specs.declared.port.PortFault.{PortFault}
use Rattle.ec_ring.specs.declared.weather.Came.{Came}
use Rattle.ec_services.specs.Ask.{Answer, Asks, Brings, told_by}
use Rattle.ec_services.specs.Course.{IsStep, Runs, goes_on}
use Rattle.ec_services.specs.Mailbox.{IsPeer, mail_read}
use Rattle.ec_services.specs.Progress.{Known, any_known, reads}
use Rattle.ec_services.specs.Surely.{IsSure, answered, asking, begun, next_decides}
use Rattle.ec_services.specs.Surely.{next_sent}
use Rattle.ec_services.specs.Transfer.{answer_in, answers, downloaded_by, downloading, understood}
use Rattle.ec_services.specs.Transfer.{uploaded_by, uploading}
use Rattle.ec_services.specs.declared.fault.MasterFault.{MasterFault}
use Rattle.ec_services.specs.declared.fault.MasterFault.TheVariants.{BadAnswer, NoAnswer, Port, Stranger}
use Rattle.ec_services.specs.declared.mailbox.Peer.{Peer}
use Rattle.ec_over_ring.specs.Recovery.{Decides, Fared, HasNoAnswer, HoldsOwn, History, IsCall}
use Rattle.ec_over_ring.specs.Recovery.{IsOfPeer, IsStored}
use Rattle.ec_over_ring.specs.Recovery.{OneIs, Replies, ReplyWaits, SlaveTrips, answer_stands}
use Rattle.ec_over_ring.specs.Recovery.{begun_at, fared}
use Rattle.ec_over_ring.specs.Recovery.{request_stands, times_of, with_counter}
use Rattle.ec_over_ring.specs.Transfers.{IsRequest, upload_of}
use Rattle.ec_over_ring.proofs.AnswerLemmas.{AreValues, download_comes, upload_comes}
use Rattle.ec_over_ring.proofs.AskedLemmas.{emptied, emptied_of_peer, emptied_request}
use Rattle.ec_over_ring.proofs.AskedLemmas.{mail_counted, mail_told}
use Rattle.ec_over_ring.proofs.AskedLemmas.{mail_twice, none_counted, none_twice}
use Rattle.ec_over_ring.proofs.CallLemmas.{Found, either_slave, keeps, one_found}
use Rattle.ec_over_ring.proofs.FateLemmas.{CountsOne, Fares, TellsPass, fares, told_once}
use Rattle.ec_over_ring.proofs.OwnLemmas.{HasReply, has_reply, idle_steps, one_map}
use Rattle.ec_over_ring.proofs.SpellingLemmas.{no_fault, read_back}

-- ---- the mail that is read

-- it is found to answer the request
found_in : (peer : Peer) (asked : Sdo) (objects : List Entry) (rest : List ℕ)
    → (has : HasReply peer asked objects)
    → answer_in peer.counter asked (mail_bytes (sent has.mail) ++ rest) ≡ Ok (sent has.mail)
found_in peer asked objects rest has =
    let m : Mail = sent has.mail in
    let bytes : List ℕ = mail_bytes m ++ rest in
    let back : mail_of bytes ≡ m = read_back m rest has.good in
    let right : answers peer.counter asked m ≡ true =
    and_from _ _ (eq-eqb m.counter peer.counter has.counter)
    (and_from _ _ (eq-eqb (index m.sdo) (index asked) has.index_is)
    (eq-eqb (sub m.sdo) (sub asked) has.sub_is)) in
    ap (λ (f : Option MailFault).
    cond (is_some f || not (answers peer.counter asked (mail_of bytes))) (Err BadAnswer) (Ok (mail_of bytes)))
    (no_fault m rest has.good)
    ∙ ap (λ (n : Mail). cond (not (answers peer.counter asked n)) (Err BadAnswer) (Ok n)) back
    ∙ ap (λ (b : Bool). cond (not b) (Err BadAnswer) (Ok m)) right

pub reply_found : (peer : Peer) (asked : Sdo) (times : List SlaveState) (s : SlaveState) (first : Peer)
    → IsPeer peer → IsRequest asked → AllByRecursion (IsOfPeer first) times
    → (reply : ReplyWaits peer asked times s)
    → answer_in peer.counter asked (mail_bytes (sent reply.mail)
    ++ replicate (peer.from.length - length (mail_bytes (sent reply.mail))) 0)
    ≡ Ok (sent reply.mail)
reply_found peer asked times s first peer_is fits all reply =
    let at : Found (Replies peer asked reply.mail s) (IsOfPeer first) =
    one_found (Replies peer asked reply.mail s) (IsOfPeer first) times reply.at all in
    let objects : List Entry = at.slave.application.objects in
    let has : HasReply peer asked objects =
    has_reply peer asked objects peer_is fits at.second.slave.values in
    let same : has.mail ≡ reply.mail = cc (has.is, at.first.reply_is) in
    subst (λ (m : Mail). answer_in peer.counter asked (mail_bytes (sent m)
    ++ replicate (peer.from.length - length (mail_bytes (sent m))) 0) ≡ Ok (sent m)) same
    (found_in peer asked objects
    (replicate (peer.from.length - length (mail_bytes (sent has.mail))) 0) has)

-- ---- the slave behind the read

-- no request stands in it, and its application is that before it
pub record IsRead (peer : Peer) (s x : SlaveState) : Type 0 where
  pub slave : IsOfPeer peer x
  pub none : request_stands x ≡ false
  pub same : x.application ≡ s.application

pub is_read : (peer : Peer) (h later : History) (answer : Answer)
    → (asks : Asks SlaveTrips h (mail_read peer) answer later) → IsPeer peer → IsOfPeer peer h.now
    → answer_stands h.now ≡ true → request_stands h.now ≡ false
    → IsRead peer h.now later.now
is_read peer h later answer asks peer_is is full none =
    let s : SlaveState = h.now in
    let d : DatagramRecord = mail_read peer in
    let f : Fared = fared asks.made.fate s.controller (d ∷ []) in
    let both : Fares d (mail_told peer s) s.controller (emptied s).controller f =
    fares asks.made.fate s.controller (emptied s).controller d (mail_told peer s)
    (mail_twice peer s peer_is is full) in
    let left : IsRead peer s (with_controller s f.state) =
    either_slave (IsRead peer s) s (emptied s).controller f.state both.state
    (record { slave = is; none = none; same = refl })
    (record {
      slave = emptied_of_peer peer s is;
      none = emptied_request peer s is ∙ none;
      same = refl;
    }) in
    subst (λ (x : SlaveState). IsRead peer s x)
    (sym (ap (λ (y : History). y.now) asks.made.later_is
    ∙ idle_steps peer asks.made.fate.steps (with_controller s f.state) left.slave left.none))
    left

-- ---- what decides

-- one more time to look back at
one_later : (P : SlaveState → Type 0) (h later : History) {x : SlaveState}
    → later ≡ record { now = x; past = times_of h } → OneIs P (times_of h) → OneIs P (times_of later)
one_later P h later {x} is one =
    subst (λ (y : History). OneIs P (times_of y)) (sym is) (inr one)

-- the read counted 1 and brought a mail that answers
abbrev decided : Option Mail → Result (Option Mail) MasterFault
decided o = Ok o

counted_parts : (b : Bool) (o : Option Mail) (mail : Mail) → decided (cond b o None) ≡ decided (Some mail)
    → (b ≡ true) × (o ≡ Some mail)
counted_parts true o mail is = (refl, cc)
counted_parts false o mail is = absurd (cc)

-- by the request that was posted last
-- what a read finds of an answer to the last request
abbrev pub FindsMail : ℕ → Sdo → Answer → Mail → Type 0
FindsMail n asked (Err fault) mail = ⊥
FindsMail n asked (Ok back) mail = result_ok (answer_in n asked (told_by back).payload) ≡ Some mail

mail_brought : (n : ℕ) (asked : Sdo) (e : DatagramRecord) (answer : Answer) (mail reply : Mail)
    → TellsPass e answer → FindsMail n asked answer mail → answer_in n asked e.payload ≡ Ok reply
    → mail ≡ reply
mail_brought n asked e (Err fault) mail reply told found is = absurd told
mail_brought n asked e (Ok back) mail reply told found is =
    let same : Some mail ≡ Some reply =
    sym found ∙ ap (λ (bytes : List ℕ). result_ok (answer_in n asked bytes)) told.payload
    ∙ ap (λ (r : Result Mail MasterFault). result_ok r) is in
    cc

decided_own : (asked : Sdo) (n : ℕ) (peer : Peer) (h later : History) (answer : Answer) (mail : Mail)
    → (asks : Asks SlaveTrips h (mail_read peer) answer later) → IsRequest asked
    → IsPeer peer → IsPeer (with_counter peer n) → AllByRecursion (IsOfPeer peer) (times_of h)
    → answer_stands h.now ≡ true → CountsOne answer → FindsMail n asked answer mail
    → HoldsOwn (with_counter peer n) asked (times_of h) h.now → Decides asked mail later
decided_own asked n peer h later answer mail asks fits peer_is counter all full one found (inl empty) =
    absurd (true≢false (sym full ∙ empty.answer))
decided_own asked n peer h later answer mail asks fits peer_is counter all full one found (inr (inl waits)) =
    absurd (true≢false (sym full ∙ waits.answer))
decided_own asked n peer h later answer mail asks fits peer_is counter all full one found (inr (inr reply)) =
    let s : SlaveState = h.now in
    let is : IsOfPeer peer s = all.0 in
    let d : DatagramRecord = mail_read peer in
    let e : DatagramRecord = mail_told peer s in
    let told : TellsPass e answer =
    told_once d e s.controller (emptied s).controller (fared asks.made.fate s.controller (d ∷ [])) asks.came
    answer
    (fares asks.made.fate s.controller (emptied s).controller d e (mail_twice peer s peer_is is full))
    (mail_counted peer s peer_is is) asks.made.comes asks.brings one in
    let brought : answer_in n asked e.payload ≡ Ok (sent reply.mail) =
    ap (λ (bytes : List ℕ). answer_in n asked bytes) reply.bytes
    ∙ reply_found (with_counter peer n) asked (times_of h) s peer counter fits all reply in
    let same : later.now.application ≡ s.application =
    (is_read peer h later answer asks peer_is is full reply.request).same in
    let at : OneIs (Replies (with_counter peer n) asked reply.mail later.now) (times_of h) =
    one_map (Replies (with_counter peer n) asked reply.mail s)
    (Replies (with_counter peer n) asked reply.mail later.now) (times_of h)
    (λ t so. record {
      not_before = so.not_before;
      taken = ap (λ (a : ApplicationState). a.kept) same ∙ so.taken;
      reply_is = so.reply_is;
      stored = ap (λ (a : ApplicationState). a.objects) same ∙ so.stored;
    }) reply.at in
    record {
      peer = with_counter peer n;
      peer_is = counter;
      reply = reply.mail;
      mail_is = mail_brought n asked e answer mail (sent reply.mail) told found brought;
      at = one_later (Replies (with_counter peer n) asked reply.mail later.now) h later asks.made.later_is at;
    }

-- an empty mailbox of answers decides nothing
never_told : (peer : Peer) (answer : Answer) → TellsPass (mail_read peer) answer → ⊥
never_told peer (Err fault) told = told
never_told peer (Ok back) told =
    let never : (mail_read peer).counter ≡ 1 = told.counter in
    absurd (omega (arith, never))

pub none_decides : (peer : Peer) (h later : History) (answer : Answer)
    → (asks : Asks SlaveTrips h (mail_read peer) answer later) → IsPeer peer → IsOfPeer peer h.now
    → answer_stands h.now ≡ false → CountsOne answer → ⊥
none_decides peer h later answer asks peer_is is none one =
    let s : SlaveState = h.now in
    let d : DatagramRecord = mail_read peer in
    never_told peer answer
    (told_once d d s.controller s.controller (fared asks.made.fate s.controller (d ∷ [])) asks.came answer
    (fares asks.made.fate s.controller s.controller d d (none_twice peer s peer_is is none))
    (none_counted peer) asks.made.comes asks.brings one)

-- what a deciding answer is
pub record IsDeciding (posted : Option ℕ) (asked : Sdo) (answer : Answer) (mail : Mail) : Type 0 where
  pub n : ℕ
  pub posted_is : posted ≡ Some n
  pub one : CountsOne answer
  pub found : FindsMail n asked answer mail

pub deciding : (posted : Option ℕ) (asked : Sdo) (answer : Answer) (mail : Mail)
    → answered posted asked answer ≡ Ok (Some mail) → IsDeciding posted asked answer mail
deciding posted asked (Err fault) mail is = absurd (cc)
deciding None asked (Ok back) mail is =
    let parts = counted_parts (eqb (told_by back).counter 1) None mail is in
    let never : None ≡ Some mail = parts.1 in
    absurd (cc)
deciding (Some n) asked (Ok back) mail is =
    let parts = counted_parts (eqb (told_by back).counter 1)
    (result_ok (answer_in n asked (told_by back).payload)) mail is in
    record { n = n; posted_is = refl; one = eqb-true _ 1 parts.0; found = parts.1 }

decided_read : (asked : Sdo) (posted : Option ℕ) (peer : Peer) (h later : History) (answer : Answer)
    (mail : Mail) → IsRequest asked → IsCall asked (reads posted peer) h
    → Asks SlaveTrips h (mail_read peer) answer later → answered posted asked answer ≡ Ok (Some mail)
    → Decides asked mail later
decided_read asked posted peer h later answer mail fits call asks is =
    let so : IsDeciding posted asked answer mail = deciding posted asked answer mail is in
    ⊎_elim
    (λ (full : answer_stands h.now ≡ true).
    decided_own asked so.n peer h later answer mail asks fits call.peer_is (call.counter so.n so.posted_is)
    call.slaves full so.one so.found (call.own so.n so.posted_is))
    (λ (none : answer_stands h.now ≡ false).
    absurd (none_decides peer h later answer asks call.peer_is call.slaves.0 none so.one))
    (cases_Bool (answer_stands h.now))

pub goes_on_none : (answer : Answer) (mail : Mail) → goes_on {A = Mail} answer ≡ Ok (Some mail) → ⊥
goes_on_none (Err fault) mail is = absurd (cc)
goes_on_none (Ok back) mail is = absurd (cc)

abbrev DecidesBy : Sdo → Known → Type 0
DecidesBy asked p =
    (h later : History) (answer : Answer) (mail : Mail) → IsRequest asked → IsCall asked p h
    → Asks SlaveTrips h (next_sent asked p) answer later → next_decides asked p answer ≡ Ok (Some mail)
    → Decides asked mail later

pub decides : (asked : Sdo) (p : Known) → DecidesBy asked p
decides asked p =
    any_known (DecidesBy asked)
    (λ posted peer h later answer mail fits call asks is. absurd (goes_on_none answer mail is))
    (λ posted peer h later answer mail fits call asks is.
    decided_read asked posted peer h later answer mail fits call asks is)
    (λ posted peer h later answer mail fits call asks is. absurd (goes_on_none answer mail is)) p

-- ---- what does not

-- the fault of an answer that is none
abbrev IsNoAnswer : MasterFault → Type 0
IsNoAnswer fault = (fault ≡ Port) ⊎ ((fault ≡ Stranger) ⊎ (fault ≡ NoAnswer))

answer_fault : (d : DatagramRecord) (came : Result Came PortFault) (answer : Answer) (fault : MasterFault)
    → Brings d came answer → answer ≡ Err fault → IsNoAnswer fault
answer_fault d (Err failed) answer fault brings is = inl (cc (brings, is))
answer_fault d (Ok came) (Err f) fault brings is =
    let stranger : f ≡ Stranger = brings.0 in
    inr (inl (cc (stranger, is)))
answer_fault d (Ok came) (Ok back) fault brings is = absurd (cc)

goes_on_fault : (answer : Answer) (fault : MasterFault) → goes_on {A = Mail} answer ≡ Err fault
    → answer ≡ Err fault
goes_on_fault (Err f) fault is = cc
goes_on_fault (Ok back) fault is = absurd (cc)

answered_fault : (posted : Option ℕ) (asked : Sdo) (answer : Answer) (fault : MasterFault)
    → answered posted asked answer ≡ Err fault → answer ≡ Err fault
answered_fault posted asked (Err f) fault is = cc
answered_fault posted asked (Ok back) fault is = absurd (cc)

abbrev FaultsBy : Sdo → Known → Type 0
FaultsBy asked p =
    (answer : Answer) (fault : MasterFault) → next_decides asked p answer ≡ Err fault → answer ≡ Err fault

fault_by : (asked : Sdo) (p : Known) → FaultsBy asked p
fault_by asked p =
    any_known (FaultsBy asked) (λ posted peer. goes_on_fault) (λ posted peer. answered_fault posted asked)
    (λ posted peer. goes_on_fault) p

-- ---- the trips of a call

abbrev Says : Sdo → Result Mail MasterFault → History → Type 0
Says asked (Err fault) h = IsNoAnswer fault
Says asked (Ok mail) h = Decides asked mail h

-- a call at its end
pub record Ends (asked : Sdo) (result : Result Mail MasterFault) (last : Known) (h : History)
    : Type 0 where
  pub call : IsCall asked last h
  pub says : Says asked result h

end_at : (asked : Sdo) (result told : Result Mail MasterFault) (last now : Known) (later between : History)
    → result ≡ told → last ≡ now → later ≡ between → Ends asked told now between
    → Ends asked result last later
end_at asked result told last now later between result_is last_is later_is ends =
    subst (λ (r : Result Mail MasterFault). Ends asked r last later) (sym result_is)
    (subst (λ (p : Known). Ends asked told p later) (sym last_is)
    (subst (λ (y : History). Ends asked told now y) (sym later_is) ends))

pub step_call : (asked : Sdo) (p learned : Known) (h between : History)
    (decided : Result (Option Mail) MasterFault) → IsRequest asked → IsCall asked p h
    → IsStep SlaveTrips h (asking asked) p decided learned between → IsCall asked learned between
step_call asked p learned h between decided fits call step =
    subst (λ (x : Known). IsCall asked x between) (sym step.learns)
    (keeps asked p h between step.answer fits call step.asks)

pub runs_end : (n : ℕ) (asked : Sdo) (p last : Known) (h later : History) (result : Result Mail MasterFault)
    → IsRequest asked → IsCall asked p h → Runs SlaveTrips h (asking asked) p n result last later
    → Ends asked result last later
unfolding Runs
runs_end zero asked p last h later result fits call (result_is, last_is, later_is) =
    end_at asked result (Err NoAnswer) last p later h result_is last_is later_is
    (record { call = call; says = inr (inr refl) })
runs_end (suc n) asked p last h later result fits call (Err fault, learned, between, step, left) =
    end_at asked result (Err fault) last learned later between left.0 left.1 left.2
    (record {
      call = step_call asked p learned h between (Err fault) fits call step;
      says = answer_fault (next_sent asked p) step.asks.came step.answer fault step.asks.brings
          (fault_by asked p step.answer fault (sym step.decides));
    })
runs_end (suc n) asked p last h later result fits call (Ok (Some mail), learned, between, step, left) =
    end_at asked result (Ok mail) last learned later between left.0 left.1 left.2
    (record {
      call = step_call asked p learned h between (Ok (Some mail)) fits call step;
      says = decides asked p h between step.answer mail fits call step.asks (sym step.decides);
    })
runs_end (suc n) asked p last h later result fits call (Ok None, learned, between, step, left) =
    runs_end n asked learned last between later result fits
    (step_call asked p learned h between (Ok None) fits call step) left

-- ---- the call

pub begins : (asked : Sdo) (peer : Peer) (s : SlaveState) → IsPeer peer → IsOfPeer peer s
    → IsCall asked (begun peer) (begun_at s)
begins asked peer s peer_is is = record {
  peer_is = peer_is;
  slaves = (is, tt);
  empty = λ never. absurd (cc);
  counter = λ n never. absurd (cc);
  own = λ n never. absurd (cc);
}

no_answer_said : (A : Type 0) (fault : MasterFault) → IsNoAnswer fault → HasNoAnswer {A = A} (Err fault)
no_answer_said A fault (inl is) = subst (λ (f : MasterFault). HasNoAnswer {A = A} (Err f)) (sym is) tt
no_answer_said A fault (inr (inl is)) = subst (λ (f : MasterFault). HasNoAnswer {A = A} (Err f)) (sym is) tt
no_answer_said A fault (inr (inr is)) = subst (λ (f : MasterFault). HasNoAnswer {A = A} (Err f)) (sym is) tt

-- an upload comes to what the answer says, and the objects are as they were then
upload_replied : (i j : ℕ) (peer : Peer) (mail reply : Mail) (s t : SlaveState) → IsRequest (Upload i j)
    → IsPeer peer → mail ≡ sent reply → AreValues t.application.objects
    → Replies peer (Upload i j) reply s t → uploaded_by mail ≡ upload_of i j s.application.objects
upload_replied i j peer mail reply s t fits peer_is mail_is values replies =
    let comes = upload_comes peer i j t.application.objects peer_is fits.0 fits.1 values in
    let same : reply ≡ comes.mail = cc (comes.is, replies.reply_is) in
    ap (λ (m : Mail). uploaded_by m) mail_is
    ∙ ap (λ (m : Mail). uploaded_by (sent m)) same ∙ comes.says
    ∙ sym (ap (λ (es : List Entry). upload_of i j es) replies.stored)

pub upload_ok : (i j : ℕ) (last : Known) (h : History) (mail : Mail) → IsRequest (Upload i j)
    → Ends (Upload i j) (Ok mail) last h → uploaded_by mail ≡ upload_of i j h.now.application.objects
upload_ok i j last h mail fits ends =
    let d : Decides (Upload i j) mail h = ends.says in
    let at : Found (Replies d.peer (Upload i j) d.reply h.now) (IsOfPeer last.peer) =
    one_found (Replies d.peer (Upload i j) d.reply h.now) (IsOfPeer last.peer) (times_of h) d.at
    ends.call.slaves in
    upload_replied i j d.peer mail d.reply h.now at.slave fits d.peer_is d.mail_is at.second.slave.values
    at.first

upload_says : (i j : ℕ) (last : Known) (h : History) (answer : Result Mail MasterFault)
    → IsRequest (Upload i j) → Ends (Upload i j) answer last h
    → HasNoAnswer (understood uploaded_by answer)
    ⊎ (understood uploaded_by answer ≡ upload_of i j h.now.application.objects)
upload_says i j last h (Err fault) fits ends = inl (no_answer_said Value fault ends.says)
upload_says i j last h (Ok mail) fits ends = inr (upload_ok i j last h mail fits ends)

pub upload_recovers : (peer peer_later : Peer) (i j limit : ℕ) (s : SlaveState)
    (result : Result Value MasterFault) (later : History) → IsPeer peer → IsOfPeer peer s
    → IsRequest (Upload i j)
    → IsSure SlaveTrips (begun_at s) peer (uploading i j) limit result peer_later later
    → HasNoAnswer result ⊎ (result ≡ upload_of i j later.now.application.objects)
upload_recovers peer peer_later i j limit s result later peer_is is fits sure =
    subst (λ (r : Result Value MasterFault).
    HasNoAnswer r ⊎ (r ≡ upload_of i j later.now.application.objects))
    (sym sure.understands)
    (upload_says i j sure.last later sure.answer fits
    (runs_end limit (Upload i j) (begun peer) sure.last (begun_at s) later sure.answer fits
    (begins (Upload i j) peer s peer_is is) sure.runs))

-- and so does a download, and stores what it says
pub download_ok : (i j : ℕ) (v : Value) (last : Known) (h : History) (mail : Mail)
    → IsRequest (Download i j v) → Ends (Download i j v) (Ok mail) last h
    → OneIs (IsStored i j v (downloaded_by mail) h.now) (times_of h)
download_ok i j v last h mail fits ends =
    let d : Decides (Download i j v) mail h = ends.says in
    one_map (Replies d.peer (Download i j v) d.reply h.now) (IsStored i j v (downloaded_by mail) h.now)
    (times_of h)
    (λ t replies.
    let comes = download_comes d.peer i j v t.application.objects d.peer_is fits.0 fits.1 in
    let same : d.reply ≡ comes.mail = cc (comes.is, replies.reply_is) in
    record {
      counter = d.peer.counter;
      not_before = replies.not_before;
      taken = replies.taken;
      result_is = ap (λ (m : Mail). downloaded_by m) d.mail_is
          ∙ ap (λ (m : Mail). downloaded_by (sent m)) same ∙ comes.says;
      stored = replies.stored;
    }) d.at

download_says : (i j : ℕ) (v : Value) (last : Known) (h : History) (answer : Result Mail MasterFault)
    → IsRequest (Download i j v) → Ends (Download i j v) answer last h
    → HasNoAnswer (understood downloaded_by answer)
    ⊎ OneIs (IsStored i j v (understood downloaded_by answer) h.now) (times_of h)
download_says i j v last h (Err fault) fits ends = inl (no_answer_said (Unit {0}) fault ends.says)
download_says i j v last h (Ok mail) fits ends = inr (download_ok i j v last h mail fits ends)

pub download_recovers : (peer peer_later : Peer) (i j : ℕ) (v : Value) (limit : ℕ) (s : SlaveState)
    (result : Result (Unit {0}) MasterFault) (later : History) → IsPeer peer → IsOfPeer peer s
    → IsRequest (Download i j v)
    → IsSure SlaveTrips (begun_at s) peer (downloading i j v) limit result peer_later later
    → HasNoAnswer result ⊎ OneIs (IsStored i j v result later.now) (times_of later)
download_recovers peer peer_later i j v limit s result later peer_is is fits sure =
    subst (λ (r : Result (Unit {0}) MasterFault). HasNoAnswer r
    ⊎ OneIs (IsStored i j v r later.now) (times_of later))
    (sym sure.understands)
    (download_says i j v sure.last later sure.answer fits
    (runs_end limit (Download i j v) (begun peer) sure.last (begun_at s) later sure.answer fits
    (begins (Download i j v) peer s peer_is is) sure.runs))
