-- The slave of a peer stays its slave: whatever mail it takes in a step, no register of it changes but the
-- status bytes of both mailboxes.
use Rattle.std.proofs.Common.{◌≡◌, ℕ, zero, suc, ◌<◌, Bool, true, false, ◌&&◌, cond, List}
use Rattle.std.proofs.Common.{length, get_or, Some, refl, sym, ◌∙◌, arith, subst}
use Rattle.std.proofs.Common.{get_or-set_other}
use Rattle.std.specs.Prelude.{bit_and, unwrap_or}
use Rattle.std.specs.List.{AllByRecursion}
use Rattle.std.proofs.lemmas.Bool.{and_parts}
use Rattle.std.proofs.lemmas.List.{length-set}
use Rattle.ec_regs.specs.SyncMan.{is_active, is_mailbox, master_reads}
use Rattle.ec_regs.specs.declared.registers.TheConstants.{MEMORY_SIZE}
use Rattle.ec_regs.specs.declared.sync_man.SyncMan.{SyncMan}
use Rattle.ec_areas.specs.Records.{sync_manager_at}
use Rattle.ec_areas.specs.Ranges.{has_sii}
use Rattle.ec_esc.specs.Application.{with_mail_put, with_mail_taken}
use Rattle.ec_esc.specs.State.{ControllerState}
use Rattle.ec_app.specs.AbortCode.{abort_code}
use Rattle.ec_app.specs.Mail.{mail_bytes, mail_of, sent}
use Rattle.ec_app.specs.MailStep.{after_bytes, after_mail, can_answer, has_request, is_dropped, mail_answer}
use Rattle.ec_app.specs.MailStep.{mail_back, mail_rows, mail_step, named, reply, request_bytes, with_reply}
use Rattle.ec_app.specs.Roles.{is_answer_mailbox}
use Rattle.ec_app.specs.Sdo.{index, sdo_bytes, sub}
use Rattle.ec_app.specs.Slave.{step}
use Rattle.ec_app.specs.State.{SlaveState}
use Rattle.ec_app.specs.Table.{first_fitting}
use Rattle.ec_app.specs.declared.abort_code.AbortCode.{AbortCode}
use Rattle.ec_app.specs.declared.abort_code.AbortCode.TheVariants.{UnknownCommand, NoObject, NoSubindex}
use Rattle.ec_app.specs.declared.abort_code.AbortCode.TheVariants.{ReadOfWriteOnly, WriteOfReadOnly}
use Rattle.ec_app.specs.declared.abort_code.AbortCode.TheVariants.{WrongLength}
use Rattle.ec_app.specs.declared.mail.Mail.{Mail}
use Rattle.ec_app.specs.declared.mail.TheConstants.{REQUEST, RESPONSE}
use Rattle.ec_app.specs.declared.objects.Entry.{Entry}
use Rattle.ec_app.specs.declared.sdo.Sdo.{Sdo}
use Rattle.ec_app.specs.declared.sdo.Sdo.TheVariants.{Abort, DownloadAnswer, UploadAnswer}
use Rattle.ec_app.specs.declared.value.Rights.TheVariants.{ReadOnly}
use Rattle.ec_app.specs.declared.value.Value.{Value}
use Rattle.ec_app.specs.declared.value.Value.TheVariants.{One}
use Rattle.ec_app.proofs.Laws.{can_answer-taken, uploaded_eight}
use Rattle.ec_services.specs.declared.mailbox.Area.{Area}
use Rattle.ec_services.specs.declared.mailbox.Peer.{Peer}
use Rattle.ec_over_ring.specs.Recovery.{IsMailboxAt, IsOfPeer, steps_of}
use Rattle.ec_over_ring.specs.Transfers.{IsSlave}
use Rattle.ec_over_ring.proofs.ManagerLemmas.{SameBut, but_then, start_same, length_same, meets_one_same}
use Rattle.ec_over_ring.proofs.ManagerLemmas.{answers_same, requests_same}
use Rattle.ec_over_ring.proofs.PeerLemmas.{station_same}
use Rattle.ec_over_ring.proofs.SlaveLemmas.{step_slave, table_holds}
use Rattle.ec_over_ring.proofs.StepLemmas.{enough_room, idle_al, put_facts}

-- ---- where the registers are the same

mailbox_same : (before after : List ℕ) (i : ℕ) (area : Area) → SameBut before after → i < 8
    → IsMailboxAt before i area → IsMailboxAt after i area
mailbox_same before after i area same below is = record {
  start = start_same before after i same below ∙ is.start;
  length = length_same before after i same below ∙ is.length;
  alone = meets_one_same before after area.start area.length same ∙ is.alone;
}

-- another slave with those registers
pub of_peer_same : (peer : Peer) (s x : SlaveState) → IsOfPeer peer s
    → SameBut s.controller.memory x.controller.memory → IsSlave x → x.controller.written ≡ false
    → IsOfPeer peer x
of_peer_same peer s x is same slave unasked =
    let before : List ℕ = s.controller.memory in
    let after : List ℕ = x.controller.memory in
    record {
      slave = slave;
      address = is.address;
      station = station_same before after same ∙ is.station;
      unasked = unasked;
      requests = requests_same before after same ∙ is.requests;
      answers = answers_same before after same ∙ is.answers;
      to = mailbox_same before after 0 peer.to same (omega arith) is.to;
      from = mailbox_same before after 1 peer.from same (omega arith) is.from;
    }

-- ---- what a mail leaves

-- the registers but those status bytes, and the mark of AL control
pub record StaysBut (c x : ControllerState) : Type 0 where
  pub same : SameBut c.memory x.memory
  pub asked : x.written ≡ c.written

stays : (c : ControllerState) → StaysBut c c
stays c = record {
  same = record { size = refl; bytes = λ a low requests answers. refl };
  asked = refl;
}

-- an answer leaves the mailbox of requests too
pub record RepliesOnly (c x : ControllerState) : Type 0 where
  pub same : SameBut c.memory x.memory
  pub asked : x.written ≡ c.written
  pub request : get_or x.memory 2053 0 ≡ get_or c.memory 2053 0

nothing_put : (c : ControllerState) → RepliesOnly c c
nothing_put c = record {
  same = record { size = refl; bytes = λ a low requests answers. refl };
  asked = refl;
  request = refl;
}

put_stays : (c : ControllerState) (mail : List ℕ) → length c.memory ≡ MEMORY_SIZE → can_answer c ≡ true
    → length mail ≡ 16 → RepliesOnly c (with_mail_put c 1 mail)
put_stays c mail size room sixteen =
    let s : SyncMan = sync_manager_at c.memory 1 in
    let answers : is_answer_mailbox s ≡ true = (and_parts _ _ (and_parts _ _ room).0).1 in
    let area = and_parts (is_active s && is_mailbox s) (master_reads s) answers in
    let kind = and_parts (is_active s) (is_mailbox s) area.0 in
    let facts = put_facts c s mail size kind.0 (enough_room s kind.0 kind.1) sixteen in
    record { same = facts.0; asked = refl; request = facts.2 }

back_stays : (c : ControllerState) (m : Mail) (service : ℕ) (sdo : Sdo) → length c.memory ≡ MEMORY_SIZE
    → can_answer c ≡ true → length (sdo_bytes sdo) ≡ 8
    → RepliesOnly c (with_reply c (Some (mail_back m service sdo)))
back_stays c m service sdo size room eight =
    put_stays c (mail_bytes (sent (mail_back m service sdo))) size room (omega (arith, eight))

aborts : (c : ControllerState) (m : Mail) (reason : AbortCode) → length c.memory ≡ MEMORY_SIZE
    → can_answer c ≡ true
    → RepliesOnly c
    (with_reply c (Some (mail_back m REQUEST (Abort (index m.sdo) (sub m.sdo) (abort_code reason)))))
aborts c m reason size room =
    back_stays c m REQUEST (Abort (index m.sdo) (sub m.sdo) (abort_code reason)) size room refl

-- whichever row fits
rows_stay : {R : Type 0} (c : ControllerState) (f : R → ControllerState) (answer other : R)
    (rows : List (Bool × R)) → answer ≡ first_fitting rows other
    → AllByRecursion (λ (row : Bool × R). RepliesOnly c (f row.1)) rows → RepliesOnly c (f other)
    → RepliesOnly c (f answer)
rows_stay {R} c f answer other rows is each last =
    subst (λ (a : R). RepliesOnly c (f a)) (sym is)
    (table_holds (λ (a : R). RepliesOnly c (f a)) rows other each last)

pub reply_stays : (c : ControllerState) (m : Mail) (objects : List Entry) → length c.memory ≡ MEMORY_SIZE
    → can_answer c ≡ true → RepliesOnly c (with_reply c (reply m (mail_answer m objects)))
unfolding mail_answer
reply_stays c m objects size room =
    let value : Value = (unwrap_or (named m.sdo objects) (ReadOnly, One 0)).1 in
    rows_stay c (λ a. with_reply c (reply m a)) (mail_answer m objects) _ (mail_rows m objects) refl (
      nothing_put c,
      (
        aborts c m UnknownCommand size room,
        (
          aborts c m NoObject size room,
          (
            aborts c m NoSubindex size room,
            (
              aborts c m ReadOfWriteOnly size room,
              (
                aborts c m WriteOfReadOnly size room,
                (
                  aborts c m WrongLength size room,
                  (
                    back_stays c m RESPONSE (UploadAnswer (index m.sdo) (sub m.sdo) value) size room
                        (uploaded_eight (index m.sdo) (sub m.sdo) value),
                    tt,
                  ),
                ),
              ),
            ),
          ),
        ),
      ),
    )
    (back_stays c m RESPONSE (DownloadAnswer (index m.sdo) (sub m.sdo)) size room refl)

-- ---- what a step leaves

replies_stay : (c x : ControllerState) → RepliesOnly c x → StaysBut c x
replies_stay c x so = record { same = so.same; asked = so.asked }

stays_then : (x y z : ControllerState) → StaysBut x y → StaysBut y z → StaysBut x z
stays_then x y z one two = record {
  same = but_then x.memory y.memory z.memory one.same two.same;
  asked = two.asked ∙ one.asked;
}

taken_stays : (c : ControllerState) → StaysBut c (with_mail_taken c 0)
taken_stays c =
    let v : ℕ = bit_and (get_or c.memory 2053 0) 247 in
    record {
      same = record {
        size = length-set c.memory 2053 v;
        bytes = λ a low requests answers. get_or-set_other c.memory 2053 a v 0 requests;
      };
      asked = refl;
    }

either_stays : (c : ControllerState) (b : Bool) (x y : SlaveState) → (b ≡ true → StaysBut c x.controller)
    → StaysBut c y.controller → StaysBut c (cond b x y).controller
either_stays c true x y holds fails = holds refl
either_stays c false x y holds fails = fails

mail_stays : (s : SlaveState) → length s.controller.memory ≡ MEMORY_SIZE
    → StaysBut s.controller (mail_step s).controller
unfolding mail_step
mail_stays s size =
    let c : ControllerState = s.controller in
    let taken : SlaveState = record s { controller = with_mail_taken c 0 } in
    let first : StaysBut c taken.controller = taken_stays c in
    let bytes : List ℕ = request_bytes c in
    either_stays c (can_answer c && has_request c) (after_bytes bytes taken) s
    (λ both.
    either_stays c (is_dropped (has_sii taken.controller.memory) s.application.kept bytes) taken (after_mail (mail_of bytes) taken)
    (λ dropped. first)
    (stays_then c taken.controller (after_mail (mail_of bytes) taken).controller first
    (replies_stay taken.controller (after_mail (mail_of bytes) taken).controller
    (reply_stays taken.controller (mail_of bytes) s.application.objects (first.same.size ∙ size)
    (can_answer-taken c ∙ (and_parts (can_answer c) (has_request c) both).0)))))
    (stays c)

pub step_stays : (s : SlaveState) → length s.controller.memory ≡ MEMORY_SIZE → s.controller.written ≡ false
    → StaysBut s.controller (step s).controller
unfolding step
step_stays s size unasked =
    subst (λ (x : SlaveState). StaysBut s.controller (mail_step x).controller) (sym (idle_al s unasked))
    (mail_stays s size)

-- the slave of a peer behind a step
pub of_peer_step : (peer : Peer) (s : SlaveState) → IsOfPeer peer s → IsOfPeer peer (step s)
of_peer_step peer s is =
    let left : StaysBut s.controller (step s).controller =
    step_stays s is.slave.controller.memory_size is.unasked in
    of_peer_same peer s (step s) is left.same (step_slave s is.slave) (left.asked ∙ is.unasked)

pub of_peer_steps : (peer : Peer) (n : ℕ) (s : SlaveState) → IsOfPeer peer s → IsOfPeer peer (steps_of n s)
of_peer_steps peer zero s is = is
of_peer_steps peer (suc n) s is = of_peer_steps peer n (step s) (of_peer_step peer s is)
