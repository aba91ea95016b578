-- A peer's slave takes a request, answers it, and its answer is read: the slave behind each trip.
use Rattle.std.proofs.Common.{◌≡◌, ℕ, ◌+◌, ◌*◌, ◌-◌, ◌<◌, ◌≤◌, Bool, true, false, cond, eqb, List, ◌++◌}
use Rattle.std.proofs.Common.{length, take, drop, get_or, Option, Some, Result, refl, sym, ap, ◌∙◌, arith}
use Rattle.std.proofs.Common.{◌&&◌, subst, inl, replicate, length-append, ⊎_elim}
use Rattle.std.specs.Prelude.{not, ◌≢◌}
use Rattle.std.specs.Int.{bit_at}
use Rattle.std.proofs.lemmas.Bool.{and_parts, and_from, cases_eq, ne_eqb}
use Rattle.std.proofs.lemmas.List.{length-replicate}
use Rattle.ec_regs.specs.Al.{status_of}
use Rattle.ec_regs.specs.Bits.{AreBytes}
use Rattle.ec_regs.specs.SyncMan.{is_active, is_mailbox, is_full, master_reads, master_writes}
use Rattle.ec_regs.specs.declared.registers.TheConstants.{STATION_ADDRESS, MEMORY_SIZE}
use Rattle.ec_regs.specs.declared.sync_man.SyncMan.{SyncMan}
use Rattle.ec_areas.specs.Ranges.{emptied_by, filled_by, meets_one}
use Rattle.ec_areas.specs.Records.{sync_manager_at, sync_managers_of}
use Rattle.ec_areas.proofs.Laws.{active_place}
use Rattle.ec_wire.specs.Datagram.{DatagramRecord, adp_of, ado_of, address_of}
use Rattle.ec_esc.specs.Application.{al_status}
use Rattle.ec_esc.specs.Pass.{pass, Passed}
use Rattle.ec_esc.specs.State.{ControllerState, IsController, word_at}
use Rattle.ec_app.specs.Mail.{IsMail, mail_bytes, sent}
use Rattle.ec_app.specs.MailStep.{can_answer, has_mail, has_request, is_kept, request_bytes}
use Rattle.ec_app.specs.Roles.{is_answer_mailbox}
use Rattle.ec_app.specs.Sdo.{FitsSdo, IsProper, download, index, no_data, sdo_bytes, sub, value_bytes}
use Rattle.ec_app.specs.State.{SlaveState}
use Rattle.ec_app.specs.declared.mail.Mail.{Mail}
use Rattle.ec_app.specs.declared.objects.Entry.{Entry}
use Rattle.ec_app.specs.declared.sdo.Sdo.{Sdo}
use Rattle.ec_app.specs.declared.sdo.Sdo.TheVariants.{Upload, UploadAnswer, Download, DownloadAnswer, Abort}
use Rattle.ec_app.specs.declared.sdo.Sdo.TheVariants.{Other}
use Rattle.ec_app.specs.declared.value.Value.{Value}
use Rattle.ec_app.specs.declared.value.Value.TheVariants.{One, Two, Four}
use Rattle.ec_services.specs.Mailbox.{IsPeer, mail_read, mail_write, next_counter, request_mail, skipped}
use Rattle.ec_services.specs.declared.fault.MasterFault.{MasterFault}
use Rattle.ec_services.specs.declared.mailbox.Area.{Area}
use Rattle.ec_services.specs.declared.mailbox.Peer.{Peer}
use Rattle.ec_over_ring.specs.Question.{after_question}
use Rattle.ec_over_ring.specs.Transfers.{IsSlave, IsEmptyMailbox, IsReady, IsRequest, answering, answered}
use Rattle.ec_over_ring.proofs.AnswerLemmas.{Comes, outcome_of}
use Rattle.ec_over_ring.proofs.BytesLemmas.{AreSmall, append_bytes, mail_are_bytes, no_data_small}
use Rattle.ec_over_ring.proofs.BytesLemmas.{spelt_small, value_bytes_small, zero_bytes}
use Rattle.ec_over_ring.proofs.MailboxLemmas.{IsFilled, IsEmptied, fills, empties, is_filled}
use Rattle.ec_over_ring.proofs.MailboxLemmas.{is_emptied, mail_written, mail_taken}
use Rattle.ec_over_ring.proofs.ManagerLemmas.{SameBut, but_then, start_same, length_same, status_is}
use Rattle.ec_over_ring.proofs.ManagerLemmas.{requests_same, answers_same, meets_one_same}
use Rattle.ec_over_ring.proofs.SlaveLemmas.{step_slave}
use Rattle.ec_over_ring.proofs.SpellingLemmas.{sixteen}
use Rattle.ec_over_ring.proofs.StepLemmas.{IsAnswering, answer_put, answers_request, idle, is_answering}

-- ---- the request

fits_request : (asked : Sdo) → IsRequest asked → FitsSdo asked
fits_request (Upload i j) fits = fits
fits_request (Download i j v) fits = fits
fits_request (UploadAnswer i j v) fits = absurd fits
fits_request (DownloadAnswer i j) fits = absurd fits
fits_request (Abort i j code) fits = absurd fits
fits_request (Other bytes) fits = absurd fits

proper_request : (asked : Sdo) → IsRequest asked → IsProper asked
proper_request (Upload i j) fits = tt
proper_request (Download i j v) fits = tt
proper_request (UploadAnswer i j v) fits = absurd fits
proper_request (DownloadAnswer i j) fits = absurd fits
proper_request (Abort i j code) fits = absurd fits
proper_request (Other bytes) fits = absurd fits

request_bytes_small : (asked : Sdo) → IsRequest asked → AreSmall (sdo_bytes asked)
request_bytes_small (Upload i j) fits = spelt_small 64 i j no_data (omega arith) fits.1 no_data_small
request_bytes_small (Download i j v) fits =
    spelt_small (download v) i j (value_bytes v) (small_command v) fits.1 (value_bytes_small v fits.2)
  where
    small_command : (v : Value) → download v < 256
    small_command (One x) = omega arith
    small_command (Two x) = omega arith
    small_command (Four x) = omega arith
request_bytes_small (UploadAnswer i j v) fits = absurd fits
request_bytes_small (DownloadAnswer i j) fits = absurd fits
request_bytes_small (Abort i j code) fits = absurd fits
request_bytes_small (Other bytes) fits = absurd fits

pub good_request : (peer : Peer) (asked : Sdo) → IsPeer peer → IsRequest asked
    → IsMail (request_mail peer asked)
good_request peer asked is fits = record {
  address = omega arith;
  channel = omega arith;
  priority = omega arith;
  first_counter = is.least;
  last_counter = is.most;
  number = omega arith;
  service = inl refl;
  sdo_fits = fits_request asked fits;
  sdo_proper = proper_request asked fits;
}

-- the data of its write
abbrev pub request_area : Peer → Sdo → List ℕ
request_area peer asked = mail_bytes (request_mail peer asked) ++ replicate (peer.to.length - 16) 0

pub area_size : (peer : Peer) (asked : Sdo) → IsPeer peer → IsRequest asked
    → length (request_area peer asked) ≡ peer.to.length
area_size peer asked is fits =
    let mail : List ℕ = mail_bytes (request_mail peer asked) in
    let zeros : List ℕ = replicate (peer.to.length - 16) 0 in
    let size : length mail ≡ 16 = sixteen (request_mail peer asked) (good_request peer asked is fits) in
    let rest : length zeros ≡ peer.to.length - 16 = length-replicate {A = ℕ} (peer.to.length - 16) 0 in
    let room = is.to.0 in
    omega (arith, length-append mail zeros, size, rest, room)

pub area_bytes : (peer : Peer) (asked : Sdo) → IsPeer peer → IsRequest asked
    → AreBytes (request_area peer asked)
area_bytes peer asked is fits =
    append_bytes (mail_bytes (request_mail peer asked)) (replicate (peer.to.length - 16) 0)
    (mail_are_bytes (request_mail peer asked) is.most (omega arith) (request_bytes_small asked fits))
    (zero_bytes (peer.to.length - 16))

-- ---- a controller ready for it

-- the area of an active mailbox
pub record IsPlaced (start n : ℕ) : Type 0 where
  pub some : 1 ≤ n
  pub low : 4096 ≤ start
  pub high : start + n ≤ MEMORY_SIZE

to_place : (peer : Peer) (s : SlaveState) → IsPeer peer → IsReady peer s
    → IsPlaced peer.to.start peer.to.length
to_place peer s is ready =
    let m : SyncMan = sync_manager_at s.controller.memory 0 in
    let kind = and_parts (is_active m && is_mailbox m) (master_writes m) ready.requests in
    let active = and_parts (is_active m) (is_mailbox m) kind.0 in
    let place = active_place m active.0 in
    let room = is.to.0 in
    let start = ready.to.start in
    let size = ready.to.length in
    record {
      some = omega (arith, room);
      low = omega (arith, place.0, start);
      high = omega (arith, place.1, start, size);
    }

from_place : (peer : Peer) (s : SlaveState) → IsPeer peer → IsReady peer s
    → IsPlaced peer.from.start peer.from.length
from_place peer s is ready =
    let m : SyncMan = sync_manager_at s.controller.memory 1 in
    let kind = and_parts (is_active m && is_mailbox m) (master_reads m) ready.answers in
    let active = and_parts (is_active m) (is_mailbox m) kind.0 in
    let place = active_place m active.0 in
    let room = is.from.0 in
    let start = ready.from.start in
    let size = ready.from.length in
    record {
      some = omega (arith, room);
      low = omega (arith, place.0, start);
      high = omega (arith, place.1, start, size);
    }

-- is a mailbox full, by its status byte
pub full_by : (before after : List ℕ) (i v : ℕ) → SameBut before after → i < 8
    → bit_at (get_or after (2048 + 8 * i + 5) 0) 3 ≡ v → is_full (sync_manager_at after i) ≡ eqb v 1
full_by before after i v same below bit =
    ap (λ (x : ℕ). eqb (bit_at x 3) 1) (status_is before after i same below)
    ∙ ap (λ (b : ℕ). eqb b 1) bit

same_all : (m : List ℕ) → SameBut m m
same_all m = record { size = refl; bytes = λ a low requests answers. refl }

pub full_same : (before after : List ℕ) (i : ℕ) → SameBut before after → i < 8
    → get_or after (2048 + 8 * i + 5) 0 ≡ get_or before (2048 + 8 * i + 5) 0
    → is_full (sync_manager_at after i) ≡ is_full (sync_manager_at before i)
full_same before after i same below is =
    full_by before after i _ same below (ap (λ (x : ℕ). bit_at x 3) is)
    ∙ sym (full_by before before i _ (same_all before) below refl)

pub state_same : (before after : ControllerState) → SameBut before.memory after.memory
    → has_mail (al_status after).state ≡ has_mail (al_status before).state
state_same before after same =
    ap (λ (x : ℕ). has_mail (status_of x).state)
    (same.bytes 304 (omega arith) (λ is. absurd (omega (arith, is))) (λ is. absurd (omega (arith, is))))

pub station_same : (before after : List ℕ) → SameBut before after
    → word_at after STATION_ADDRESS ≡ word_at before STATION_ADDRESS
station_same before after same =
    let low : get_or after 16 0 ≡ get_or before 16 0 =
    same.bytes 16 (omega arith) (λ is. absurd (omega (arith, is))) (λ is. absurd (omega (arith, is))) in
    let high : get_or after 17 0 ≡ get_or before 17 0 =
    same.bytes 17 (omega arith) (λ is. absurd (omega (arith, is))) (λ is. absurd (omega (arith, is))) in
    omega (arith, low, high)

-- ---- the request is taken

-- the slave that the write has passed
pub record IsPosted (peer : Peer) (asked : Sdo) (s : SlaveState) : Type 0 where
  pub counted : (pass s.controller (mail_write peer asked)).datagram.counter ≡ 1
  pub filled : IsFilled s.controller peer.to.start (request_area peer asked)
      (pass s.controller (mail_write peer asked)).state

pub posted : (peer : Peer) (asked : Sdo) (s : SlaveState) → IsPeer peer → IsRequest asked
    → IsController s.controller → IsReady peer s
    → eqb (adp_of (address_of peer.station peer.to.start)) (word_at s.controller.memory STATION_ADDRESS)
    ≡ true
    → ado_of (address_of peer.station peer.to.start) ≡ peer.to.start
    → IsPosted peer asked s
posted peer asked s is fits controller ready meant place =
    let c : ControllerState = s.controller in
    let payload : List ℕ = request_area peer asked in
    let size : length payload ≡ peer.to.length = area_size peer asked is fits in
    let at : IsPlaced peer.to.start peer.to.length = to_place peer s is ready in
    let some = at.some in
    let high = at.high in
    let inside : peer.to.start + length payload ≤ MEMORY_SIZE = omega (arith, size, high) in
    let alone : meets_one (sync_managers_of c.memory) peer.to.start (length payload) ≡ true =
    ap (λ (n : ℕ). meets_one (sync_managers_of c.memory) peer.to.start n) size ∙ ready.to.alone in
    let filled : filled_by (sync_managers_of c.memory) peer.to.start (length payload) ≡ Some 0 =
    fills c.memory peer.to.start (length payload) ready.requests ready.to.start (ready.to.length ∙ sym size)
    alone ready.to.empty in
    let passed = mail_written c (address_of peer.station peer.to.start) peer.to.start payload controller meant
    place (omega (arith, size, some)) at.low inside filled in
    record {
      counted = passed.0;
      filled = subst (IsFilled c peer.to.start payload) (sym passed.1)
          (is_filled c peer.to.start payload controller (area_bytes peer asked is fits) at.low inside);
    }

-- ---- it is answered

-- the slave that has answered with this mail, and has these objects
pub record HasAnswered (peer : Peer) (s : SlaveState) (mail : Mail) (after : List Entry) (x : SlaveState)
    : Type 0 where
  pub same : SameBut s.controller.memory x.controller.memory
  pub unasked : x.controller.written ≡ false
  pub mail_is : take peer.from.length (drop peer.from.start x.controller.memory)
      ≡ mail_bytes (sent mail) ++ replicate (peer.from.length - length (mail_bytes (sent mail))) 0
  pub empty : bit_at (get_or x.controller.memory 2053 0) 3 ≡ 0
  pub full : bit_at (get_or x.controller.memory 2061 0) 3 ≡ 1
  pub kept : x.application.kept ≡ Some peer.counter
  pub objects : x.application.objects ≡ after
  pub slave : IsSlave x

pub has_answered : {A : Type 0} (peer : Peer) (asked : Sdo) (s : SlaveState)
    (comes_to : Mail → Result A MasterFault) (result : Result A MasterFault) (after : List Entry)
    → IsPeer peer → IsRequest asked → IsSlave s → IsReady peer s → IsPosted peer asked s
    → (comes : Comes peer (index asked) (sub asked) comes_to result after
    (outcome_of (request_mail peer asked) s.application.objects))
    → HasAnswered peer s comes.mail after (answering peer asked s)
has_answered peer asked s comes_to result after is fits slave ready post comes =
    let m : Mail = request_mail peer asked in
    let mail : Mail = comes.mail in
    let c : ControllerState = s.controller in
    let d : DatagramRecord = mail_write peer asked in
    let t : SlaveState = after_question d s in
    let x : ControllerState = t.controller in
    let filled : IsFilled c peer.to.start (request_area peer asked) x = post.filled in
    let size : length (request_area peer asked) ≡ peer.to.length = area_size peer asked is fits in
    let unasked : x.written ≡ false = filled.unasked ∙ ready.unasked in
    let answers : is_answer_mailbox (sync_manager_at x.memory 1) ≡ true =
    answers_same c.memory x.memory filled.same ∙ ready.answers in
    let room : is_full (sync_manager_at x.memory 1) ≡ false =
    full_same c.memory x.memory 1 filled.same (omega arith) filled.other ∙ ready.from.empty in
    let can : can_answer x ≡ true =
    and_from _ _ (and_from _ _ (state_same c x filled.same ∙ ready.state) answers)
    (ap (λ (b : Bool). not b) room) in
    let has : has_request x ≡ true =
    and_from _ _ (requests_same c.memory x.memory filled.same ∙ ready.requests)
    (full_by c.memory x.memory 0 1 filled.same (omega arith) filled.full) in
    let bytes_are : request_bytes x ≡ request_area peer asked =
    ap (λ (k : ℕ). take (sync_manager_at x.memory 0).length (drop k x.memory))
    (start_same c.memory x.memory 0 filled.same (omega arith) ∙ ready.to.start)
    ∙ ap (λ (k : ℕ). take k (drop peer.to.start x.memory))
    (length_same c.memory x.memory 0 filled.same (omega arith) ∙ ready.to.length ∙ sym size)
    ∙ filled.mail in
    let put : SlaveState = answer_put t peer.counter (outcome_of m s.application.objects) mail in
    let becomes : answering peer asked s ≡ put =
    answers_request t m mail (replicate (peer.to.length - 16) 0) unasked can has bytes_are
    (good_request peer asked is fits) ready.counter comes.is in
    let memory : length x.memory ≡ MEMORY_SIZE = filled.controller.memory_size in
    let facts : IsAnswering x peer.from.start peer.from.length (mail_bytes (sent mail)) put.controller =
    is_answering x (mail_bytes (sent mail)) peer.from.start peer.from.length memory answers
    (sixteen (sent mail) comes.good)
    (start_same c.memory x.memory 1 filled.same (omega arith) ∙ ready.from.start)
    (length_same c.memory x.memory 1 filled.same (omega arith) ∙ ready.from.length) in
    subst (λ (y : SlaveState). HasAnswered peer s mail after y) (sym becomes)
    (record {
      same = but_then c.memory x.memory put.controller.memory filled.same facts.same;
      unasked = facts.unasked ∙ unasked;
      mail_is = facts.mail_is;
      empty = facts.empty;
      full = facts.full;
      kept = refl;
      objects = comes.objects;
      slave = subst (λ (y : SlaveState). IsSlave y) becomes
          (step_slave t (record { controller = filled.controller; values = slave.values }));
    })

-- ---- the answer is read

-- what the read tells, and the slave behind it
pub record HasRead (peer : Peer) (mail : Mail) (x : SlaveState) : Type 0 where
  pub counted : (pass x.controller (mail_read peer)).datagram.counter ≡ 1
  pub payload : (pass x.controller (mail_read peer)).datagram.payload
      ≡ mail_bytes (sent mail) ++ replicate (peer.from.length - length (mail_bytes (sent mail))) 0
  pub emptied : IsEmptied x.controller (pass x.controller (mail_read peer)).state

pub has_read : (peer : Peer) (s : SlaveState) (mail : Mail) (after : List Entry) (x : SlaveState)
    → IsPeer peer → IsReady peer s → HasAnswered peer s mail after x
    → eqb (adp_of (address_of peer.station peer.from.start)) (word_at x.controller.memory STATION_ADDRESS)
    ≡ true
    → ado_of (address_of peer.station peer.from.start) ≡ peer.from.start
    → HasRead peer mail x
has_read peer s mail after x is ready has meant place =
    let c : ControllerState = x.controller in
    let before : List ℕ = s.controller.memory in
    let n : ℕ = peer.from.length in
    let from : ℕ = peer.from.start in
    let at : IsPlaced from n = from_place peer s is ready in
    let emptied : emptied_by (sync_managers_of c.memory) from n ≡ Some 1 =
    empties c.memory from n (requests_same before c.memory has.same ∙ ready.requests)
    (answers_same before c.memory has.same ∙ ready.answers)
    (start_same before c.memory 1 has.same (omega arith) ∙ ready.from.start)
    (length_same before c.memory 1 has.same (omega arith) ∙ ready.from.length)
    (meets_one_same before c.memory from n has.same ∙ ready.from.alone)
    (full_by before c.memory 1 1 has.same (omega arith) has.full) in
    let passed = mail_taken c (address_of peer.station from) from n has.slave.controller meant place
    at.some at.high
    emptied in
    record {
      counted = ap (λ (p : Passed). p.datagram.counter) passed;
      payload = ap (λ (p : Passed). p.datagram.payload) passed ∙ has.mail_is;
      emptied = subst (λ (y : ControllerState). IsEmptied c y) (sym (ap (λ (p : Passed). p.state) passed))
          (is_emptied c has.slave.controller);
    }

-- ---- and it is ready for the next

pub next_other : (counter : ℕ) → eqb counter (next_counter counter) ≡ false
next_other counter =
    ⊎_elim
    (λ (last : counter ≡ 7). rw last refl)
    (λ (other : counter ≢ 7).
    ap (λ (b : Bool). eqb counter (cond b 1 (counter + 1))) (ne_eqb counter 7 other)
    ∙ ne_eqb counter (counter + 1) (λ is. absurd (omega (arith, is))))
    (cases_eq counter 7)

next_inside : (counter : ℕ) → counter ≤ 7 → (1 ≤ next_counter counter) × (next_counter counter ≤ 7)
next_inside counter most =
    ⊎_elim
    (λ (last : counter ≡ 7). rw last (omega arith, omega arith))
    (λ (other : counter ≢ 7).
    subst (λ (b : Bool). (1 ≤ cond b 1 (counter + 1)) × (cond b 1 (counter + 1) ≤ 7))
    (sym (ne_eqb counter 7 other)) (omega arith, omega (arith, most, other)))
    (cases_eq counter 7)

pub skipped_peer : (peer : Peer) → IsPeer peer → IsPeer (skipped peer)
skipped_peer peer is =
    let inside = next_inside peer.counter is.most in
    record { to = is.to; from = is.from; least = inside.0; most = inside.1 }

-- a mailbox that is empty again
empty_again : (before after : List ℕ) (i : ℕ) (area : Area) → SameBut before after → i < 8
    → bit_at (get_or after (2048 + 8 * i + 5) 0) 3 ≡ 0 → IsEmptyMailbox before i area
    → IsEmptyMailbox after i area
empty_again before after i area same below bit old = record {
  start = start_same before after i same below ∙ old.start;
  length = length_same before after i same below ∙ old.length;
  alone = meets_one_same before after area.start area.length same ∙ old.alone;
  empty = full_by before after i 0 same below bit;
}

-- the slave that the read has passed
pub record IsDone (peer : Peer) (s : SlaveState) (after : List Entry) (x : SlaveState) : Type 0 where
  pub same : SameBut s.controller.memory x.controller.memory
  pub ready : IsReady (skipped peer) x
  pub objects : x.application.objects ≡ after
  pub slave : IsSlave x

pub is_done : (peer : Peer) (asked : Sdo) (s : SlaveState) (mail : Mail) (after : List Entry) → IsReady peer s
    → HasAnswered peer s mail after (answering peer asked s) → HasRead peer mail (answering peer asked s)
    → IsDone peer s after (answered peer asked s)
is_done peer asked s mail after ready has read =
    let y : SlaveState = answering peer asked s in
    let x : SlaveState = after_question (mail_read peer) y in
    let before : List ℕ = s.controller.memory in
    let m : List ℕ = x.controller.memory in
    let emptied : IsEmptied y.controller x.controller = read.emptied in
    let same : SameBut before m = but_then before y.controller.memory m has.same emptied.same in
    let unasked : x.controller.written ≡ false = emptied.unasked ∙ has.unasked in
    let none : bit_at (get_or m 2053 0) 3 ≡ 0 = ap (λ (v : ℕ). bit_at v 3) emptied.other ∙ has.empty in
    let stays : answered peer asked s ≡ x = idle x unasked (full_by before m 0 0 same (omega arith) none) in
    subst (λ (z : SlaveState). IsDone peer s after z) (sym stays)
    (record {
      same = same;
      ready = record {
        state = state_same s.controller x.controller same ∙ ready.state;
        unasked = unasked;
        requests = requests_same before m same ∙ ready.requests;
        answers = answers_same before m same ∙ ready.answers;
        to = empty_again before m 0 peer.to same (omega arith) none ready.to;
        from = empty_again before m 1 peer.from same (omega arith) emptied.empty ready.from;
        counter = ap (λ (o : Option ℕ). is_kept o (next_counter peer.counter)) has.kept
            ∙ ap (λ (b : Bool). b && not (eqb (next_counter peer.counter) 0)) (next_other peer.counter);
      };
      objects = has.objects;
      slave = record { controller = emptied.controller; values = has.slave.values };
    })
