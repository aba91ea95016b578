-- A slave as it is made, in Pre-Op and with two mailboxes that share no byte, takes a peer's first request.
use Rattle.std.proofs.Common.{◌≡◌, ℕ, ◌+◌, ◌*◌, ◌<◌, ◌≤◌, Bool, true, false, ◌&&◌, eqb, ltb, List, [], ◌∷◌}
use Rattle.std.proofs.Common.{length, get_or, Option, None, refl, sym, ap, ◌∙◌, arith, inl, inr}
use Rattle.std.proofs.Common.{◌⊎◌, true≢false}
use Rattle.std.proofs.Math.Bool.{and-false}
use Rattle.std.proofs.lemmas.Bool.{and_from, and_parts, ne_eqb}
use Rattle.std.proofs.lemmas.Bool.Decides.{nat_tests}
use Rattle.std.proofs.lemmas.Nat.{from_le_bytes-to_le_bytes_2}
use Rattle.ec_regs.specs.Al.{status_of}
use Rattle.ec_regs.specs.SyncMan.{is_active, is_full, is_mailbox, master_reads, master_writes, sync_man_bytes}
use Rattle.ec_regs.specs.SyncMan.{sync_man_of}
use Rattle.ec_regs.specs.AddressRange.{share_a_byte}
use Rattle.ec_regs.specs.declared.al.AlState.TheVariants.{PreOp}
use Rattle.ec_regs.specs.declared.al.AlStatus.{AlStatus}
use Rattle.ec_regs.specs.declared.sync_man.SyncMan.{SyncMan}
use Rattle.ec_areas.specs.Ranges.{meets, meets_one}
use Rattle.ec_areas.specs.Records.{sync_manager_at, sync_managers_of}
use Rattle.ec_areas.proofs.Laws.{active_place}
use Rattle.ec_esc.specs.State.{ControllerState, IsFresh, fresh_byte, with_run}
use Rattle.ec_esc.proofs.Laws.{get_or-with_run_beside, length-with_run}
use Rattle.ec_app.specs.AlStep.{with_state}
use Rattle.ec_app.specs.MailStep.{has_mail, is_kept}
use Rattle.ec_app.specs.Roles.{is_answer_mailbox, is_request_mailbox}
use Rattle.ec_app.specs.State.{ApplicationState}
use Rattle.ec_app.proofs.Laws.{al_left}
use Rattle.ec_services.specs.declared.mailbox.Area.{Area}
use Rattle.ec_services.specs.declared.mailbox.Peer.{Peer}
use Rattle.ec_over_ring.specs.Transfers.{AreMailboxes, IsReady, prepared}
use Rattle.ec_over_ring.proofs.AlLemmas.{status_stands}
use Rattle.ec_over_ring.proofs.ManagerLemmas.{manager_is}
use Rattle.ec_over_ring.proofs.StepLemmas.{enough_room, run_put}

-- ---- the records

-- a record that was put is read back
record_back : (s : SyncMan) → s.start < 65536 → s.length < 65536 → sync_man_of (sync_man_bytes s) ≡ s
record_back s start size =
    rw (from_le_bytes-to_le_bytes_2 s.start start, from_le_bytes-to_le_bytes_2 s.length size) refl

put_manager : (m : List ℕ) (i : ℕ) (s : SyncMan) → 2048 + 8 * i ≤ length m → s.start < 65536
    → s.length < 65536 → sync_manager_at (with_run m (2048 + 8 * i) (sync_man_bytes s)) i ≡ s
unfolding sync_manager_at
put_manager m i s inside start size =
    ap (λ (bytes : List ℕ). sync_man_of bytes) (run_put m (sync_man_bytes s) (2048 + 8 * i) 8 inside refl)
    ∙ record_back s start size

-- a record hangs on its bytes
same_manager : (x y : List ℕ) (i : ℕ)
    → ((k : ℕ) → k < 8 → get_or y (2048 + 8 * i + k) 0 ≡ get_or x (2048 + 8 * i + k) 0)
    → sync_manager_at y i ≡ sync_manager_at x i
same_manager x y i byte =
    rw (
      manager_is y i,
      manager_is x i,
      byte 0 (omega arith),
      byte 1 (omega arith),
      byte 2 (omega arith),
      byte 3 (omega arith),
      byte 4 (omega arith),
      byte 5 (omega arith),
      byte 6 (omega arith),
      byte 7 (omega arith),
    ) refl

-- a record that is not switched on meets nothing
pub switched_off : (s : SyncMan) (from n : ℕ) → s.activate ≡ 0 → meets s from n ≡ false
unfolding meets is_active
switched_off s from n off = rw off refl

-- a mailbox meets its own area
pub meets_itself : (s : SyncMan) → is_active s ≡ true → 1 ≤ s.length → meets s s.start s.length ≡ true
unfolding meets
meets_itself s active some =
    let inside : ltb s.start (s.start + s.length) ≡ true = grind (arith, nat_tests) in
    and_from _ _ active (and_from _ _ inside inside)

-- areas that share no byte share none either way
swapped : (y p q : Bool) → (p && q) ≡ false → (y && (q && p)) ≡ false
swapped y true true shared = absurd (true≢false shared)
swapped y true false shared = and-false y
swapped y false true shared = and-false y
swapped y false false shared = and-false y

pub apart_back : (a b : SyncMan) → is_active a ≡ true → meets a b.start b.length ≡ false
    → meets b a.start a.length ≡ false
unfolding meets
apart_back a b active apart =
    swapped (is_active b) (ltb a.start (b.start + b.length)) (ltb b.start (a.start + a.length))
    (sym (ap (λ (x : Bool). x && share_a_byte a.start a.length b.start b.length) active) ∙ apart)

-- ---- the memory

fresh_zero : (station k : ℕ) → 310 ≤ k → fresh_byte station k ≡ 0
unfolding fresh_byte
fresh_zero station k low =
    let one : eqb k 16 ≡ false = ne_eqb k 16 (λ is. absurd (omega (arith, is, low))) in
    let two : eqb k 17 ≡ false = ne_eqb k 17 (λ is. absurd (omega (arith, is, low))) in
    let three : eqb k 304 ≡ false = ne_eqb k 304 (λ is. absurd (omega (arith, is, low))) in
    rw (one, two, three) refl

-- of a fresh controller in Pre-Op every byte from 0x0136 on is 0
low_bytes : (station : ℕ) (c : ControllerState) (k : ℕ) → IsFresh station c → 310 ≤ k
    → get_or (with_state c PreOp).memory k 0 ≡ 0
low_bytes station c k fresh low =
    let size : length c.memory ≡ 12288 = fresh.memory_size in
    let first : List ℕ = with_run c.memory 304 (2 ∷ 0 ∷ []) in
    let first_size : length first ≡ length c.memory =
    length-with_run c.memory (2 ∷ 0 ∷ []) 304 (omega (arith, size)) in
    get_or-with_run_beside first (0 ∷ 0 ∷ []) 308 k (omega (arith, first_size, size))
    (inr (omega (arith, low)))
    ∙ get_or-with_run_beside c.memory (2 ∷ 0 ∷ []) 304 k (omega (arith, size)) (inr (omega (arith, low)))
    ∙ fresh.memory k
    ∙ fresh_zero station k low

-- the records that stand in it, and AL status
record IsMade (c : ControllerState) (a b : SyncMan) : Type 0 where
  first : sync_manager_at c.memory 0 ≡ a
  second : sync_manager_at c.memory 1 ≡ b
  others : (i : ℕ) → 2 ≤ i → i < 8 → (sync_manager_at c.memory i).activate ≡ 0
  state : get_or c.memory 304 0 ≡ 2

is_made : (station : ℕ) (c : ControllerState) (a b : SyncMan) → IsFresh station c → is_active a ≡ true
    → is_active b ≡ true → IsMade (prepared c a b) a b
is_made station c a b fresh a_active b_active =
    let size : length c.memory ≡ 12288 = fresh.memory_size in
    let m1 : List ℕ = (with_state c PreOp).memory in
    let status : AlStatus = record { state = PreOp; error = false } in
    let size1 : length m1 ≡ length c.memory = (al_left c status 0 size).size in
    let m2 : List ℕ = with_run m1 2048 (sync_man_bytes a) in
    let size2 : length m2 ≡ length m1 =
    length-with_run m1 (sync_man_bytes a) 2048 (omega (arith, size1, size)) in
    let m3 : List ℕ = with_run m2 2056 (sync_man_bytes b) in
    let a_place = active_place a a_active in
    let b_place = active_place b b_active in
    let beside2 : (k : ℕ) → (k < 2048) ⊎ (2056 ≤ k) → get_or m2 k 0 ≡ get_or m1 k 0 =
    λ k. get_or-with_run_beside m1 (sync_man_bytes a) 2048 k (omega (arith, size1, size)) in
    let beside3 : (k : ℕ) → (k < 2056) ⊎ (2064 ≤ k) → get_or m3 k 0 ≡ get_or m2 k 0 =
    λ k. get_or-with_run_beside m2 (sync_man_bytes b) 2056 k (omega (arith, size2, size1, size)) in
    record {
      first = same_manager m2 m3 0 (λ k small. beside3 (2048 + k) (inl (omega (arith, small))))
          ∙ put_manager m1 0 a (omega (arith, size1, size)) (omega (arith, a_place.1))
          (omega (arith, a_place.1));
      second = put_manager m2 1 b (omega (arith, size2, size1, size)) (omega (arith, b_place.1))
          (omega (arith, b_place.1));
      others = λ i low high.
          ap (λ (s : SyncMan). s.activate) (manager_is m3 i)
          ∙ beside3 (2048 + 8 * i + 6) (inr (omega (arith, low)))
          ∙ beside2 (2048 + 8 * i + 6) (inr (omega (arith, low)))
          ∙ low_bytes station c (2048 + 8 * i + 6) fresh (omega arith);
      state = beside3 304 (inl (omega arith)) ∙ beside2 304 (inl (omega arith))
          ∙ status_stands c status 0 size;
    }

-- ---- each mailbox is alone

pub first_alone : (m : List ℕ) (from n : ℕ) → meets (sync_manager_at m 0) from n ≡ true
    → meets (sync_manager_at m 1) from n ≡ false
    → ((i : ℕ) → 2 ≤ i → i < 8 → meets (sync_manager_at m i) from n ≡ false)
    → meets_one (sync_managers_of m) from n ≡ true
unfolding sync_managers_of
first_alone m from n first second others =
    rw (
      first,
      second,
      others 2 (omega arith) (omega arith),
      others 3 (omega arith) (omega arith),
      others 4 (omega arith) (omega arith),
      others 5 (omega arith) (omega arith),
      others 6 (omega arith) (omega arith),
      others 7 (omega arith) (omega arith),
    ) refl

pub second_alone : (m : List ℕ) (from n : ℕ) → meets (sync_manager_at m 0) from n ≡ false
    → meets (sync_manager_at m 1) from n ≡ true
    → ((i : ℕ) → 2 ≤ i → i < 8 → meets (sync_manager_at m i) from n ≡ false)
    → meets_one (sync_managers_of m) from n ≡ true
unfolding sync_managers_of
second_alone m from n first second others =
    rw (
      first,
      second,
      others 2 (omega arith) (omega arith),
      others 3 (omega arith) (omega arith),
      others 4 (omega arith) (omega arith),
      others 5 (omega arith) (omega arith),
      others 6 (omega arith) (omega arith),
      others 7 (omega arith) (omega arith),
    ) refl

-- ---- the slave

pub ready_at_first : (station : ℕ) (c : ControllerState) (a b : SyncMan) (application : ApplicationState)
    (peer : Peer) → IsFresh station c → AreMailboxes peer a b → application.kept ≡ None
    → IsReady peer (record { controller = prepared c a b; application = application })
ready_at_first station c a b application peer fresh are none =
    let a_kind = and_parts (is_active a && is_mailbox a) (master_writes a) are.requests_are in
    let a_active = and_parts (is_active a) (is_mailbox a) a_kind.0 in
    let b_kind = and_parts (is_active b && is_mailbox b) (master_reads b) are.answers_are in
    let b_active = and_parts (is_active b) (is_mailbox b) b_kind.0 in
    let made : IsMade (prepared c a b) a b = is_made station c a b fresh a_active.0 b_active.0 in
    let m : List ℕ = (prepared c a b).memory in
    let a_room : 16 ≤ a.length = enough_room a a_active.0 a_active.1 in
    let b_room : 16 ≤ b.length = enough_room b b_active.0 b_active.1 in
    record {
      state = ap (λ (x : ℕ). has_mail (status_of x).state) made.state;
      unasked = fresh.written;
      requests = ap (λ (s : SyncMan). is_request_mailbox s) made.first ∙ are.requests_are;
      answers = ap (λ (s : SyncMan). is_answer_mailbox s) made.second ∙ are.answers_are;
      to = record {
        start = ap (λ (s : SyncMan). s.start) made.first ∙ sym (ap (λ (x : Area). x.start) are.to);
        length = ap (λ (s : SyncMan). s.length) made.first ∙ sym (ap (λ (x : Area). x.length) are.to);
        alone = ap (λ (x : Area). meets_one (sync_managers_of m) x.start x.length) are.to
            ∙ first_alone m a.start a.length
            (ap (λ (s : SyncMan). meets s a.start a.length) made.first
            ∙ meets_itself a a_active.0 (omega (arith, a_room)))
            (ap (λ (s : SyncMan). meets s a.start a.length) made.second
            ∙ apart_back a b a_active.0 are.apart)
            (λ i low high. switched_off (sync_manager_at m i) a.start a.length (made.others i low high));
        empty = ap (λ (s : SyncMan). is_full s) made.first ∙ are.no_request;
      };
      from = record {
        start = ap (λ (s : SyncMan). s.start) made.second ∙ sym (ap (λ (x : Area). x.start) are.from);
        length = ap (λ (s : SyncMan). s.length) made.second ∙ sym (ap (λ (x : Area). x.length) are.from);
        alone = ap (λ (x : Area). meets_one (sync_managers_of m) x.start x.length) are.from
            ∙ second_alone m b.start b.length
            (ap (λ (s : SyncMan). meets s b.start b.length) made.first ∙ are.apart)
            (ap (λ (s : SyncMan). meets s b.start b.length) made.second
            ∙ meets_itself b b_active.0 (omega (arith, b_room)))
            (λ i low high. switched_off (sync_manager_at m i) b.start b.length (made.others i low high));
        empty = ap (λ (s : SyncMan). is_full s) made.second ∙ are.no_answer;
      };
      counter = ap (λ (o : Option ℕ). is_kept o peer.counter) none;
    }
