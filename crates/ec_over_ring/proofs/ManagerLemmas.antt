-- Where the status bytes of both mailboxes alone have changed, the areas of all sync managers are as before.
use Rattle.std.proofs.Common.{◌≡◌, ℕ, suc, ◌+◌, ◌*◌, ◌<◌, Bool, true, false, cond, eqb, List, ◌∷◌}
use Rattle.std.proofs.Common.{length, take, drop, get_or, refl, sym, ap, ◌∙◌, arith, true≢false}
use Rattle.std.specs.Prelude.{◌≢◌}
use Rattle.std.specs.Int.{w16, from_le_bytes}
use Rattle.ec_regs.specs.SyncMan.{is_active}
use Rattle.ec_regs.specs.declared.sync_man.SyncMan.{SyncMan}
use Rattle.ec_regs.proofs.Laws.{get_or-run}
use Rattle.ec_areas.specs.Ranges.{meets, meets_one}
use Rattle.ec_areas.specs.Records.{sync_manager_at, sync_managers_of}
use Rattle.ec_app.specs.Roles.{is_answer_mailbox, is_request_mailbox}

-- two memories of one length whose registers are the same but for those status bytes
pub record SameBut (before after : List ℕ) : Type 0 where
  pub size : length after ≡ length before
  pub bytes : (a : ℕ) → a < 4096 → a ≢ 2053 → a ≢ 2061 → get_or after a 0 ≡ get_or before a 0

pub but_then : (x y z : List ℕ) → SameBut x y → SameBut y z → SameBut x z
but_then x y z one two = record {
  size = two.size ∙ one.size;
  bytes = λ a low requests answers.
      two.bytes a low requests answers ∙ one.bytes a low requests answers;
}

-- ---- a record

-- the record of eight bytes, the status aside
abbrev record_of : ℕ → ℕ → ℕ → ℕ → ℕ → ℕ → ℕ → ℕ → SyncMan
record_of a b c d e f g h =
    record { start = a + 256 * b; length = c + 256 * d; control = e; status = f; activate = g; pdi = h }

pub manager_is : (m : List ℕ) (i : ℕ) → sync_manager_at m i
    ≡ record_of (get_or m (2048 + 8 * i + 0) 0) (get_or m (2048 + 8 * i + 1) 0)
    (get_or m (2048 + 8 * i + 2) 0)
    (get_or m (2048 + 8 * i + 3) 0) (get_or m (2048 + 8 * i + 4) 0) (get_or m (2048 + 8 * i + 5) 0)
    (get_or m (2048 + 8 * i + 6) 0) (get_or m (2048 + 8 * i + 7) 0)
unfolding sync_manager_at
manager_is m i =
    let bs : List ℕ = take 8 (drop (2048 + 8 * i) m) in
    let at : (k : ℕ) → k < 8 → get_or bs k 0 ≡ get_or m (2048 + 8 * i + k) 0 =
    λ k below. get_or-run m (2048 + 8 * i) 8 k below in
    let a : get_or (take 2 (drop 0 bs)) 0 0 ≡ get_or m (2048 + 8 * i + 0) 0 =
    get_or-run bs 0 2 0 (omega arith) ∙ at 0 (omega arith) in
    let b : get_or (take 2 (drop 0 bs)) 1 0 ≡ get_or m (2048 + 8 * i + 1) 0 =
    get_or-run bs 0 2 1 (omega arith) ∙ at 1 (omega arith) in
    let c : get_or (take 2 (drop 2 bs)) 0 0 ≡ get_or m (2048 + 8 * i + 2) 0 =
    get_or-run bs 2 2 0 (omega arith) ∙ at 2 (omega arith) in
    let d : get_or (take 2 (drop 2 bs)) 1 0 ≡ get_or m (2048 + 8 * i + 3) 0 =
    get_or-run bs 2 2 1 (omega arith) ∙ at 3 (omega arith) in
    let start : from_le_bytes w16 (take 2 (drop 0 bs))
    ≡ get_or m (2048 + 8 * i + 0) 0 + 256 * get_or m (2048 + 8 * i + 1) 0 = omega (arith, a, b) in
    let size : from_le_bytes w16 (take 2 (drop 2 bs))
    ≡ get_or m (2048 + 8 * i + 2) 0 + 256 * get_or m (2048 + 8 * i + 3) 0 = omega (arith, c, d) in
    rw (
      start,
      size,
      at 4 (omega arith),
      at 5 (omega arith),
      at 6 (omega arith),
      at 7 (omega arith),
    ) refl

-- it is as before, but for its status
manager_same : (before after : List ℕ) (i : ℕ) → SameBut before after → i < 8
    → sync_manager_at after i
    ≡ record (sync_manager_at before i) { status = get_or after (2048 + 8 * i + 5) 0 }
manager_same before after i same below =
    let byte : (k : ℕ) → k < 8 → k ≢ 5
    → get_or after (2048 + 8 * i + k) 0 ≡ get_or before (2048 + 8 * i + k) 0 =
    λ k small other.
    same.bytes (2048 + 8 * i + k) (omega (arith, small, below)) (λ is. other (omega (arith, is, small)))
    (λ is. other (omega (arith, is, small))) in
    rw (
      manager_is after i,
      manager_is before i,
      byte 0 (omega arith) (λ is. absurd (omega (arith, is))),
      byte 1 (omega arith) (λ is. absurd (omega (arith, is))),
      byte 2 (omega arith) (λ is. absurd (omega (arith, is))),
      byte 3 (omega arith) (λ is. absurd (omega (arith, is))),
      byte 4 (omega arith) (λ is. absurd (omega (arith, is))),
      byte 6 (omega arith) (λ is. absurd (omega (arith, is))),
      byte 7 (omega arith) (λ is. absurd (omega (arith, is))),
    ) refl

-- ---- the areas that a range meets

-- as many pass a test where each passes as its fellow does
counted : (b c : Bool) (x y : SyncMan) (xs ys : List SyncMan) → b ≡ c → length xs ≡ length ys
    → length (cond b (x ∷ xs) xs) ≡ length (cond c (y ∷ ys) ys)
counted true true x y xs ys same rest = ap (λ (n : ℕ). suc n) rest
counted false false x y xs ys same rest = rest
counted true false x y xs ys same rest = absurd (true≢false same)
counted false true x y xs ys same rest = absurd (true≢false (sym same))

meets_same : (before after : List ℕ) (i from n : ℕ) → SameBut before after → i < 8
    → meets (sync_manager_at after i) from n ≡ meets (sync_manager_at before i) from n
unfolding meets is_active
meets_same before after i from n same below =
    ap (λ (s : SyncMan). meets s from n) (manager_same before after i same below)

-- a range that met one area does still
pub meets_one_same : (before after : List ℕ) (from n : ℕ) → SameBut before after
    → meets_one (sync_managers_of after) from n ≡ meets_one (sync_managers_of before) from n
unfolding sync_managers_of
meets_one_same before after from n same =
    let m : (i : ℕ) → i < 8
    → meets (sync_manager_at after i) from n ≡ meets (sync_manager_at before i) from n =
    λ i below. meets_same before after i from n same below in
    ap (λ (k : ℕ). eqb k 1)
    (counted _ _ _ _ _ _ (m 0 (omega arith))
    (counted _ _ _ _ _ _ (m 1 (omega arith))
    (counted _ _ _ _ _ _ (m 2 (omega arith))
    (counted _ _ _ _ _ _ (m 3 (omega arith))
    (counted _ _ _ _ _ _ (m 4 (omega arith))
    (counted _ _ _ _ _ _ (m 5 (omega arith))
    (counted _ _ _ _ _ _ (m 6 (omega arith))
    (counted _ _ _ _ _ _ (m 7 (omega arith)) refl))))))))

-- ---- both mailboxes

pub start_same : (before after : List ℕ) (i : ℕ) → SameBut before after → i < 8
    → (sync_manager_at after i).start ≡ (sync_manager_at before i).start
start_same before after i same below =
    ap (λ (s : SyncMan). s.start) (manager_same before after i same below)

pub length_same : (before after : List ℕ) (i : ℕ) → SameBut before after → i < 8
    → (sync_manager_at after i).length ≡ (sync_manager_at before i).length
length_same before after i same below =
    ap (λ (s : SyncMan). s.length) (manager_same before after i same below)

pub status_is : (before after : List ℕ) (i : ℕ) → SameBut before after → i < 8
    → (sync_manager_at after i).status ≡ get_or after (2048 + 8 * i + 5) 0
status_is before after i same below =
    ap (λ (s : SyncMan). s.status) (manager_same before after i same below)

pub requests_same : (before after : List ℕ) → SameBut before after
    → is_request_mailbox (sync_manager_at after 0) ≡ is_request_mailbox (sync_manager_at before 0)
unfolding is_active
requests_same before after same =
    ap (λ (s : SyncMan). is_request_mailbox s) (manager_same before after 0 same (omega arith))

pub answers_same : (before after : List ℕ) → SameBut before after
    → is_answer_mailbox (sync_manager_at after 1) ≡ is_answer_mailbox (sync_manager_at before 1)
unfolding is_active
answers_same before after same =
    ap (λ (s : SyncMan). is_answer_mailbox s) (manager_same before after 1 same (omega arith))
