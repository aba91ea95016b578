-- A slave that answers mails takes its next request in a step, and an answer that waits stops it.
use Rattle.std.proofs.Common.{◌≡◌, ℕ, zero, suc, ◌≤◌, Bool, true, false, cond, ◌&&◌, List, length, get_or}
use Rattle.std.proofs.Common.{refl, ap, ◌∙◌, arith, get_or-set_same}
use Rattle.std.proofs.lemmas.List.{length-set}
use Rattle.std.specs.Prelude.{bit_and, not}
use Rattle.std.specs.Int.{bit_at}
use Rattle.std.proofs.Math.Bool.{and-false}
use Rattle.std.proofs.lemmas.Bool.{and_from}
use Rattle.ec_regs.specs.declared.registers.TheConstants.{MEMORY_SIZE}
use Rattle.ec_areas.specs.Records.{sync_manager_at}
use Rattle.ec_areas.specs.Ranges.{has_sii}
use Rattle.ec_esc.specs.Application.{al_status, with_mail_taken}
use Rattle.ec_esc.specs.State.{ControllerState}
use Rattle.ec_app.specs.Mail.{mail_of}
use Rattle.ec_app.specs.MailStep.{after_bytes, after_mail, can_answer, has_mail, has_request, is_dropped}
use Rattle.ec_app.specs.MailStep.{mail_step, request_bytes}
use Rattle.ec_app.specs.Roles.{is_answer_mailbox}
use Rattle.ec_app.specs.Slave.{step}
use Rattle.ec_app.specs.State.{SlaveState}
use Rattle.ec_app.proofs.Laws.{can_answer-taken}
use Rattle.ec_services.specs.declared.mailbox.Peer.{Peer}
use Rattle.ec_over_ring.specs.Recovery.{IsOfPeer, TakesMail, answer_stands, request_stands, steps_of}
use Rattle.ec_over_ring.proofs.MailboxLemmas.{clear_bit}
use Rattle.ec_over_ring.proofs.ManagerLemmas.{SameBut}
use Rattle.ec_over_ring.proofs.OfPeerLemmas.{RepliesOnly, of_peer_step, reply_stays, step_stays}
use Rattle.ec_over_ring.proofs.OwnLemmas.{cannot, idle_steps}
use Rattle.ec_over_ring.proofs.PeerLemmas.{full_by, state_same}
use Rattle.ec_over_ring.proofs.StepLemmas.{idle_al}

-- ---- it answers mails still

pub takes_same : (s x : SlaveState) → SameBut s.controller.memory x.controller.memory → TakesMail s
    → TakesMail x
takes_same s x same takes = state_same s.controller x.controller same ∙ takes

pub step_same : (peer : Peer) (s : SlaveState) → IsOfPeer peer s
    → SameBut s.controller.memory (step s).controller.memory
step_same peer s is = (step_stays s is.slave.controller.memory_size is.unasked).same

pub takes_steps : (peer : Peer) (n : ℕ) (s : SlaveState) → IsOfPeer peer s → TakesMail s
    → TakesMail (steps_of n s)
takes_steps peer zero s is takes = takes
takes_steps peer (suc n) s is takes =
    takes_steps peer n (step s) (of_peer_step peer s is) (takes_same s (step s) (step_same peer s is) takes)

-- ---- an answer waits

full_idle : (peer : Peer) (s : SlaveState) → IsOfPeer peer s → answer_stands s ≡ true → step s ≡ s
full_idle peer s is full =
    let c : ControllerState = s.controller in
    let others : Bool = has_mail (al_status c).state && is_answer_mailbox (sync_manager_at c.memory 1) in
    cannot s is.unasked (ap (λ (b : Bool). others && not b) full ∙ and-false others)

pub full_steps : (peer : Peer) (n : ℕ) (s : SlaveState) → IsOfPeer peer s → answer_stands s ≡ true
    → steps_of n s ≡ s
full_steps peer zero s is full = refl
full_steps peer (suc n) s is full =
    ap (λ (x : SlaveState). steps_of n x) (full_idle peer s is full) ∙ full_steps peer n s is full

-- ---- a request waits

pub can_take : (peer : Peer) (s : SlaveState) → IsOfPeer peer s → TakesMail s → answer_stands s ≡ false
    → can_answer s.controller ≡ true
can_take peer s is takes none =
    and_from _ _ (and_from _ _ takes is.answers) (ap (λ (b : Bool). not b) none)

pub has_one : (peer : Peer) (s : SlaveState) → IsOfPeer peer s → request_stands s ≡ true
    → has_request s.controller ≡ true
has_one peer s is there = and_from _ _ is.requests there

-- the status byte of its mailbox behind the step
either_byte : (b : Bool) (x y : SlaveState) (v : ℕ) → get_or x.controller.memory 2053 0 ≡ v
    → get_or y.controller.memory 2053 0 ≡ v → get_or (cond b x y).controller.memory 2053 0 ≡ v
either_byte true x y v first second = first
either_byte false x y v first second = second

taken_byte : (s : SlaveState) → length s.controller.memory ≡ MEMORY_SIZE → can_answer s.controller ≡ true
    → has_request s.controller ≡ true
    → get_or (mail_step s).controller.memory 2053 0 ≡ bit_and (get_or s.controller.memory 2053 0) 247
unfolding mail_step
taken_byte s size can has =
    let c : ControllerState = s.controller in
    let v : ℕ = bit_and (get_or c.memory 2053 0) 247 in
    let taken : SlaveState = record s { controller = with_mail_taken c 0 } in
    let bytes : List ℕ = request_bytes c in
    let cleared : get_or taken.controller.memory 2053 0 ≡ v =
    get_or-set_same c.memory 2053 v 0 (omega (arith, size)) in
    let same_size : length taken.controller.memory ≡ MEMORY_SIZE =
    length-set c.memory 2053 v ∙ size in
    let replies : RepliesOnly taken.controller (after_mail (mail_of bytes) taken).controller =
    reply_stays taken.controller (mail_of bytes) s.application.objects same_size (can_answer-taken c ∙ can) in
    ap (λ (b : Bool). get_or (cond b (after_bytes bytes taken) s).controller.memory 2053 0)
    (and_from _ _ can has)
    ∙ either_byte (is_dropped (has_sii taken.controller.memory) s.application.kept bytes) taken (after_mail (mail_of bytes) taken) v cleared
    (replies.request ∙ cleared)

pub takes_request : (peer : Peer) (s : SlaveState) → IsOfPeer peer s → TakesMail s
    → request_stands s ≡ true → answer_stands s ≡ false → request_stands (step s) ≡ false
unfolding step
takes_request peer s is takes there none =
    let m : List ℕ = s.controller.memory in
    let byte : get_or (step s).controller.memory 2053 0 ≡ bit_and (get_or m 2053 0) 247 =
    ap (λ (x : SlaveState). get_or (mail_step x).controller.memory 2053 0) (idle_al s is.unasked)
    ∙ taken_byte s is.slave.controller.memory_size (can_take peer s is takes none) (has_one peer s is there)
    in
    full_by m (step s).controller.memory 0 0 (step_same peer s is) (omega arith)
    (ap (λ (x : ℕ). bit_at x 3) byte ∙ clear_bit (get_or m 2053 0))

-- and no more steps change it
pub one_step : (peer : Peer) (n : ℕ) (s : SlaveState) → 1 ≤ n → IsOfPeer peer s
    → request_stands (step s) ≡ false → steps_of n s ≡ step s
one_step peer zero s some is none = absurd (omega (arith, some))
one_step peer (suc n) s some is none = idle_steps peer n (step s) (of_peer_step peer s is) none
