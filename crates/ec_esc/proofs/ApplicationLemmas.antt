-- What the application finds after it wrote: runs of the memory, AL status, and the status byte of a mailbox.
use Rattle.std.proofs.Common.{◌≡◌, ℕ, ◌+◌, ◌-◌, ◌/◌, ◌%◌, ◌^◌, ◌<◌, ◌≤◌, true, List, [], ◌∷◌, ◌++◌}
use Rattle.std.proofs.Common.{length, get_or, take, drop, ◌∙◌, ap, arith, length-append}
use Rattle.std.specs.Prelude.{replicate}
use Rattle.std.specs.Int.{w16, to_le_bytes}
use Rattle.std.proofs.Math.ListN.{get_or-append}
use Rattle.std.proofs.Math.Seq.{take-append-add}
use Rattle.std.proofs.lemmas.Bool.Decides.{nat_tests}
use Rattle.std.proofs.lemmas.List.{get_or-take, get_or-drop, get_or-append_right, length-take-le}
use Rattle.std.proofs.lemmas.List.{length-drop, take-replicate}
use Rattle.ec_regs.specs.Al.{status_byte, status_of}
use Rattle.ec_regs.specs.declared.al.AlStatus.{AlStatus}
use Rattle.ec_regs.specs.declared.registers.TheConstants.{AL_STATUS, AL_STATUS_CODE, MEMORY_SIZE}
use Rattle.ec_regs.specs.declared.sync_man.SyncMan.{SyncMan}
use Rattle.ec_esc.specs.Application.{with_al, al_status, al_status_code, mail_area}
use Rattle.ec_regs.specs.SyncMan.{is_active, is_mailbox}
use Rattle.ec_regs.proofs.Laws.{status_of-status_byte}
use Rattle.ec_esc.specs.State.{ControllerState, with_run}

-- ---- a run of a list replaced

-- its length stays
pub length-with_run : (xs ys : List ℕ) (at : ℕ) → at + length ys ≤ length xs
    → length (with_run xs at ys) ≡ length xs
length-with_run xs ys at inside =
    omega (
      arith,
      length-append (take at xs ++ ys) (drop (at + length ys) xs),
      length-append
          (take at xs) ys,
      length-take-le at xs (omega arith),
      length-drop (at + length ys) xs,
    )

-- the elements before the run stay
pub get_or-with_run_before : (xs ys : List ℕ) (at k : ℕ) → k < at → at ≤ length xs
    → get_or (with_run xs at ys) k 0 ≡ get_or xs k 0
get_or-with_run_before xs ys at k before inside =
    let front : length (take at xs) ≡ at = length-take-le at xs inside in
    get_or-append (take at xs ++ ys) (drop (at + length ys) xs) 0 k (omega (
      arith,
      length-append
          (take at xs) ys,
    ))
    ∙ get_or-append (take at xs) ys 0 k (omega arith)
    ∙ get_or-take at xs k 0 before

-- those of the run are the new ones
pub get_or-with_run_inside : (xs ys : List ℕ) (at k : ℕ) → at ≤ length xs → k < length ys
    → get_or (with_run xs at ys) (at + k) 0 ≡ get_or ys k 0
get_or-with_run_inside xs ys at k inside within =
    let front : length (take at xs) ≡ at = length-take-le at xs inside in
    let place : at + k - at ≡ k = omega arith in
    get_or-append (take at xs ++ ys) (drop (at + length ys) xs) 0 (at + k) (omega (
      arith,
      length-append
          (take at xs) ys,
    ))
    ∙ get_or-append_right (take at xs) ys at (at + k) 0 front (omega arith)
    ∙ ap (λ j. get_or ys j 0) place

-- and those behind it stay
pub get_or-with_run_behind : (xs ys : List ℕ) (at k : ℕ) → at + length ys ≤ k → at + length ys ≤ length xs
    → get_or (with_run xs at ys) k 0 ≡ get_or xs k 0
get_or-with_run_behind xs ys at k behind inside =
    let size : length (take at xs ++ ys) ≡ at + length ys =
    length-append (take at xs) ys ∙ ap (λ n. n + length ys) (length-take-le at xs (omega arith)) in
    let place : at + length ys + (k - (at + length ys)) ≡ k = omega arith in
    get_or-append_right (take at xs ++ ys) (drop (at + length ys) xs) (at + length ys) k 0 size behind
    ∙ get_or-drop (at + length ys) xs (k - (at + length ys)) 0
    ∙ ap (λ j. get_or xs j 0) place

-- ---- AL status

-- AL status is what was set
pub al_status-with_al : (c : ControllerState) (status : AlStatus) (code : ℕ) → length c.memory ≡ MEMORY_SIZE
    → al_status (with_al c status code) ≡ status
al_status-with_al c status code size =
    let bytes : List ℕ = status_byte status ∷ 0 ∷ [] in
    let first : List ℕ = with_run c.memory AL_STATUS bytes in
    let first_size : length first ≡ length c.memory =
    length-with_run c.memory bytes AL_STATUS (omega arith) in
    ap status_of
    (get_or-with_run_before first (to_le_bytes w16 code) AL_STATUS_CODE AL_STATUS (omega arith) (omega arith)
    ∙ get_or-with_run_inside c.memory bytes AL_STATUS 0 (omega arith) (omega arith))
    ∙ status_of-status_byte status

-- and so is the AL status code
pub al_status_code-with_al : (c : ControllerState) (status : AlStatus) (code : ℕ) → length c.memory
    ≡ MEMORY_SIZE → code < 2 ^ 16
    → al_status_code (with_al c status code) ≡ code
al_status_code-with_al c status code size small =
    let bytes : List ℕ = status_byte status ∷ 0 ∷ [] in
    let first : List ℕ = with_run c.memory AL_STATUS bytes in
    let first_size : length first ≡ length c.memory =
    length-with_run c.memory bytes AL_STATUS (omega arith) in
    let spelt : List ℕ = to_le_bytes w16 code in
    let low : get_or (with_run first AL_STATUS_CODE spelt) AL_STATUS_CODE 0 ≡ code % 256 =
    get_or-with_run_inside first spelt AL_STATUS_CODE 0 (omega arith) (omega arith) in
    let high : get_or (with_run first AL_STATUS_CODE spelt) (AL_STATUS_CODE + 1) 0 ≡ code / 256 % 256 =
    get_or-with_run_inside first spelt AL_STATUS_CODE 1 (omega arith) (omega arith) in
    omega (arith, low, high)

-- ---- mailboxes

-- an active mailbox has at most 1,486 bytes
pub mailbox_length-le : (s : SyncMan) → is_active s ≡ true → is_mailbox s ≡ true → s.length ≤ 1486
unfolding is_active
mailbox_length-le s active mailbox = grind (arith, nat_tests)

-- a mail and zeros up to the longest length begin with the mail as it fills its area
pub take-padded : (s : SyncMan) (mail : List ℕ) → length mail ≤ s.length → s.length ≤ 1486
    → take s.length (mail ++ replicate (1486 - length mail) 0) ≡ mail_area s mail
take-padded s mail room bound =
    let rest : ℕ = s.length - length mail in
    let whole : s.length ≡ length mail + rest = omega arith in
    ap (λ n. take n (mail ++ replicate (1486 - length mail) 0)) whole
    ∙ take-append-add mail (replicate (1486 - length mail) 0) rest
    ∙ ap (λ (zeros : List ℕ). mail ++ zeros) (take-replicate rest (1486 - length mail) 0 (omega arith))
