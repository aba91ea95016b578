-- What stands in the mailboxes of a peer's slave while it steps: nothing, its request, or the answer to it.
use Rattle.std.proofs.Common.{◌≡◌, ℕ, zero, suc, ◌-◌, Bool, true, false, cond, ◌&&◌, ◌||◌}
use Rattle.std.proofs.Common.{List, [], ◌∷◌, ◌++◌, length, take, drop, get_or, set, Option, Some, refl}
use Rattle.std.proofs.Common.{sym, ap, ◌∙◌, arith, subst, inl, inr, replicate, ⊎_elim}
use Rattle.std.proofs.Common.{get_or-set_other, get_or-set_same}
use Rattle.std.specs.Prelude.{bit_and}
use Rattle.std.specs.Int.{bit_at}
use Rattle.std.specs.Option.{is_some}
use Rattle.std.proofs.lemmas.Bool.{and_from, cases_Bool}
use Rattle.std.proofs.lemmas.List.{length-set}
use Rattle.ec_regs.specs.declared.registers.TheConstants.{MEMORY_SIZE}
use Rattle.ec_areas.specs.Records.{sync_manager_at}
use Rattle.ec_areas.specs.Ranges.{has_sii}
use Rattle.ec_esc.specs.Application.{with_mail_taken}
use Rattle.ec_esc.specs.State.{ControllerState}
use Rattle.ec_app.specs.Mail.{IsMail, counter_of, mail_bytes, mail_of, sent}
use Rattle.ec_app.specs.MailStep.{after_bytes, after_mail, can_answer, has_request, is_dropped, is_kept}
use Rattle.ec_app.specs.MailStep.{mail_step, request_bytes}
use Rattle.ec_app.specs.Sdo.{index, sub}
use Rattle.ec_app.specs.Slave.{step}
use Rattle.ec_app.specs.State.{ApplicationState, SlaveState}
use Rattle.ec_app.specs.declared.mail.Mail.{Mail}
use Rattle.ec_app.specs.declared.mail.MailFault.{MailFault}
use Rattle.ec_app.specs.declared.objects.Entry.{Entry}
use Rattle.ec_app.specs.declared.sdo.Sdo.{Sdo}
use Rattle.ec_app.specs.declared.sdo.Sdo.TheVariants.{Upload, UploadAnswer, Download, DownloadAnswer, Abort}
use Rattle.ec_app.specs.declared.sdo.Sdo.TheVariants.{Other}
use Rattle.ec_services.specs.Mailbox.{IsPeer, request_mail}
use Rattle.ec_services.specs.declared.mailbox.Peer.{Peer}
use Rattle.ec_app.proofs.Laws.{no_fault_for}
use Rattle.ec_over_ring.specs.Recovery.{AreEmpty, HoldsOwn, IsOfPeer, OneIs, Replies}
use Rattle.ec_over_ring.specs.Recovery.{ReplyWaits, RequestWaits}
use Rattle.ec_over_ring.specs.Recovery.{answer_stands, reply_to, request_stands, steps_of}
use Rattle.ec_over_ring.specs.Transfers.{IsRequest, objects_after}
use Rattle.ec_over_ring.proofs.AnswerLemmas.{AreValues, Outcome, download_comes, outcome_of, upload_comes}
use Rattle.ec_over_ring.proofs.MailboxLemmas.{clear_bit}
use Rattle.ec_over_ring.proofs.ManagerLemmas.{SameBut}
use Rattle.ec_over_ring.proofs.OfPeerLemmas.{of_peer_step}
use Rattle.ec_over_ring.proofs.PeerLemmas.{full_by, full_same, good_request, request_area}
use Rattle.ec_over_ring.proofs.SpellingLemmas.{no_fault, read_back, sixteen}
use Rattle.ec_over_ring.proofs.StepLemmas.{IsAnswering, answer_put, answers_request, idle, idle_al}
use Rattle.ec_over_ring.proofs.StepLemmas.{is_answering}

-- ---- one of several

pub one_map : (P Q : SlaveState → Type 0) (ss : List SlaveState) → ((s : SlaveState) → P s → Q s)
    → OneIs P ss → OneIs Q ss
one_map P Q [] so one = absurd one
one_map P Q (s ∷ ss) so (inl here) = inl (so s here)
one_map P Q (s ∷ ss) so (inr there) = inr (one_map P Q ss so there)

-- ---- the answer to a request

-- there is one, and it answers this request
pub record HasReply (peer : Peer) (asked : Sdo) (objects : List Entry) : Type 0 where
  pub mail : Mail
  pub is : reply_to peer asked objects ≡ Some mail
  pub good : IsMail (sent mail)
  pub counter : mail.counter ≡ peer.counter
  pub index_is : index mail.sdo ≡ index asked
  pub sub_is : sub mail.sdo ≡ sub asked
  pub stored : (outcome_of (request_mail peer asked) objects).1 ≡ objects_after asked objects

pub has_reply : (peer : Peer) (asked : Sdo) (objects : List Entry) → IsPeer peer → IsRequest asked
    → AreValues objects → HasReply peer asked objects
has_reply peer (Upload i j) objects is fits values =
    let comes = upload_comes peer i j objects is fits.0 fits.1 values in
    record {
      mail = comes.mail;
      is = comes.is;
      good = comes.good;
      counter = comes.counter;
      index_is = comes.index_is;
      sub_is = comes.sub_is;
      stored = comes.objects;
    }
has_reply peer (Download i j v) objects is fits values =
    let comes = download_comes peer i j v objects is fits.0 fits.1 in
    record {
      mail = comes.mail;
      is = comes.is;
      good = comes.good;
      counter = comes.counter;
      index_is = comes.index_is;
      sub_is = comes.sub_is;
      stored = comes.objects;
    }
has_reply peer (UploadAnswer i j v) objects is fits values = absurd fits
has_reply peer (DownloadAnswer i j) objects is fits values = absurd fits
has_reply peer (Abort i j code) objects is fits values = absurd fits
has_reply peer (Other bytes) objects is fits values = absurd fits

-- ---- a step with no request

pub idle_step : (peer : Peer) (s : SlaveState) → IsOfPeer peer s → request_stands s ≡ false → step s ≡ s
idle_step peer s is none = idle s is.unasked none

pub idle_steps : (peer : Peer) (n : ℕ) (s : SlaveState) → IsOfPeer peer s → request_stands s ≡ false
    → steps_of n s ≡ s
idle_steps peer zero s is none = refl
idle_steps peer (suc n) s is none =
    ap (λ (x : SlaveState). steps_of n x) (idle_step peer s is none) ∙ idle_steps peer n s is none

-- ---- a step with the request

-- where it can't be answered it waits on
pub cannot : (s : SlaveState) → s.controller.written ≡ false → can_answer s.controller ≡ false → step s ≡ s
unfolding step mail_step
cannot s unasked unable =
    let c : ControllerState = s.controller in
    let taken : SlaveState = record s { controller = with_mail_taken c 0 } in
    ap (λ (x : SlaveState). mail_step x) (idle_al s unasked)
    ∙ ap (λ (b : Bool). cond (b && has_request c) (after_bytes (request_bytes c) taken) s) unable

-- the slave took a request with that counter last: it drops this one
pub dropped : (s : SlaveState) (m : Mail) (rest : List ℕ) → s.controller.written ≡ false
    → can_answer s.controller ≡ true → has_request s.controller ≡ true
    → request_bytes s.controller ≡ mail_bytes m ++ rest → IsMail m
    → is_kept s.application.kept m.counter ≡ true
    → step s ≡ record s { controller = with_mail_taken s.controller 0 }
unfolding step mail_step
dropped s m rest unasked can has bytes_are is kept =
    let c : ControllerState = s.controller in
    let taken : SlaveState = record s { controller = with_mail_taken c 0 } in
    let bytes : List ℕ = mail_bytes m ++ rest in
    let device : Bool = has_sii taken.controller.memory in
    let drops : is_dropped device s.application.kept bytes ≡ true =
    ap (λ (o : Option MailFault). is_some o || is_kept s.application.kept (counter_of bytes))
    (no_fault_for device bytes (no_fault m rest is))
    ∙ ap (λ (n : Mail). is_kept s.application.kept n.counter) (read_back m rest is) ∙ kept in
    ap (λ (x : SlaveState). mail_step x) (idle_al s unasked)
    ∙ ap (λ (b : Bool). cond b (after_bytes (request_bytes c) taken) s) (and_from _ _ can has)
    ∙ ap (λ (x : List ℕ). after_bytes x taken) bytes_are
    ∙ ap (λ (b : Bool). cond b taken (after_mail (mail_of bytes) taken)) drops

-- both mailboxes are empty then
pub taken_empty : (s : SlaveState) → length s.controller.memory ≡ MEMORY_SIZE → answer_stands s ≡ false
    → AreEmpty (record s { controller = with_mail_taken s.controller 0 })
taken_empty s size none =
    let m : List ℕ = s.controller.memory in
    let v : ℕ = bit_and (get_or m 2053 0) 247 in
    let same : SameBut m (set m 2053 v) = record {
      size = length-set m 2053 v;
      bytes = λ a low requests answers. get_or-set_other m 2053 a v 0 requests;
    } in
    record {
      request = full_by m (set m 2053 v) 0 0 same (omega arith)
          (ap (λ (x : ℕ). bit_at x 3) (get_or-set_same m 2053 v 0 (omega (arith, size)))
          ∙ clear_bit (get_or m 2053 0));
      answer = full_same m (set m 2053 v) 1 same (omega arith)
          (get_or-set_other m 2053 2061 v 0 (omega arith)) ∙ none;
    }

-- the request's bytes, by the slave's own record of the mailbox
pub bytes_of : (peer : Peer) (asked : Sdo) (times : List SlaveState) (s : SlaveState) → IsOfPeer peer s
    → RequestWaits peer asked times s → request_bytes s.controller ≡ request_area peer asked
bytes_of peer asked times s is waits =
    let m : List ℕ = s.controller.memory in
    ap (λ (k : ℕ). take (sync_manager_at m 0).length (drop k m)) is.to.start
    ∙ ap (λ (k : ℕ). take k (drop peer.to.start m)) is.to.length
    ∙ waits.bytes

-- it is answered by the objects that the slave has
pub answered : (peer : Peer) (asked : Sdo) (times : List SlaveState) (s : SlaveState) → IsPeer peer
    → IsRequest asked → IsOfPeer peer s → RequestWaits peer asked times s → can_answer s.controller ≡ true
    → has_request s.controller ≡ true → is_kept s.application.kept peer.counter ≡ false
    → ReplyWaits peer asked times (step s)
answered peer asked times s peer_is fits is waits can has other =
    let m : Mail = request_mail peer asked in
    let c : ControllerState = s.controller in
    let objects : List Entry = s.application.objects in
    let has_mail : HasReply peer asked objects = has_reply peer asked objects peer_is fits is.slave.values in
    let mail : Mail = has_mail.mail in
    let o : Outcome = outcome_of m objects in
    let put : SlaveState = answer_put s peer.counter o mail in
    let becomes : step s ≡ put =
    answers_request s m mail (replicate (peer.to.length - 16) 0) is.unasked can has
    (bytes_of peer asked times s is waits) (good_request peer asked peer_is fits) other has_mail.is in
    let facts : IsAnswering c peer.from.start peer.from.length (mail_bytes (sent mail)) put.controller =
    is_answering c (mail_bytes (sent mail)) peer.from.start peer.from.length
    is.slave.controller.memory_size is.answers (sixteen (sent mail) has_mail.good) is.from.start
    is.from.length in
    subst (λ (x : SlaveState). ReplyWaits peer asked times x) (sym becomes)
    (record {
      request = full_by c.memory put.controller.memory 0 0 facts.same (omega arith) facts.empty;
      answer = full_by c.memory put.controller.memory 1 1 facts.same (omega arith) facts.full;
      mail = mail;
      bytes = facts.mail_is;
      at = one_map (λ (t : SlaveState). t.application ≡ s.application) (Replies peer asked mail put) times
          (λ (t : SlaveState) (same : t.application ≡ s.application). record {
            not_before = ap (λ (a : ApplicationState). is_kept a.kept peer.counter) same ∙ other;
            taken = refl;
            reply_is = ap (λ (a : ApplicationState). reply_to peer asked a.objects) same ∙ has_mail.is;
            stored = has_mail.stored ∙ ap (λ (a : ApplicationState). objects_after asked a.objects)
                (sym same);
          }) waits.before;
    })

waits_step : (peer : Peer) (asked : Sdo) (times : List SlaveState) (s : SlaveState) → IsPeer peer
    → IsRequest asked → IsOfPeer peer s → RequestWaits peer asked times s → HoldsOwn peer asked times (step s)
waits_step peer asked times s peer_is fits is waits =
    let c : ControllerState = s.controller in
    let has : has_request c ≡ true = and_from _ _ is.requests waits.request in
    ⊎_elim
    (λ (can : can_answer c ≡ true).
    ⊎_elim
    (λ (kept : is_kept s.application.kept peer.counter ≡ true).
    inl (subst (λ (x : SlaveState). AreEmpty x)
    (sym (dropped s (request_mail peer asked) (replicate (peer.to.length - 16) 0) is.unasked can has
    (bytes_of peer asked times s is waits) (good_request peer asked peer_is fits) kept))
    (taken_empty s is.slave.controller.memory_size waits.answer)))
    (λ (other : is_kept s.application.kept peer.counter ≡ false).
    inr (inr (answered peer asked times s peer_is fits is waits can has other)))
    (cases_Bool (is_kept s.application.kept peer.counter)))
    (λ (unable : can_answer c ≡ false).
    inr (inl (subst (λ (x : SlaveState). RequestWaits peer asked times x) (sym (cannot s is.unasked unable))
    waits)))
    (cases_Bool (can_answer c))

-- ---- a step, and several

pub own_step : (peer : Peer) (asked : Sdo) (times : List SlaveState) (s : SlaveState) → IsPeer peer
    → IsRequest asked → IsOfPeer peer s → HoldsOwn peer asked times s → HoldsOwn peer asked times (step s)
own_step peer asked times s peer_is fits is (inl empty) =
    subst (λ (x : SlaveState). HoldsOwn peer asked times x) (sym (idle_step peer s is empty.request))
    (inl empty)
own_step peer asked times s peer_is fits is (inr (inl waits)) =
    waits_step peer asked times s peer_is fits is waits
own_step peer asked times s peer_is fits is (inr (inr reply)) =
    subst (λ (x : SlaveState). HoldsOwn peer asked times x) (sym (idle_step peer s is reply.request))
    (inr (inr reply))

pub own_steps : (peer : Peer) (asked : Sdo) (times : List SlaveState) (n : ℕ) (s : SlaveState) → IsPeer peer
    → IsRequest asked → IsOfPeer peer s → HoldsOwn peer asked times s
    → HoldsOwn peer asked times (steps_of n s)
own_steps peer asked times zero s peer_is fits is own = own
own_steps peer asked times (suc n) s peer_is fits is own =
    own_steps peer asked times n (step s) peer_is fits (of_peer_step peer s is)
    (own_step peer asked times s peer_is fits is own)
