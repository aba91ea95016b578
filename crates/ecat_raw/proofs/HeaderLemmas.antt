-- How long the header of a packet is.
use Rattle.std.proofs.Common.{arith, ◌≡◌, ◌≤◌, ◌+◌, ◌-◌, ◌==◌, ℕ, Bool, true, false}
use Rattle.std.proofs.Common.{List, length, take, drop, Some, None, IsSome, if◌then◌else◌}
use Rattle.std.proofs.Common.{◌∙◌, refl, sym, ap, subst}
use Rattle.std.proofs.lemmas.Bool.Decides.{nat_tests}
use Rattle.std.proofs.lemmas.List.{length-drop, length-take}
use Rattle.ecat_raw.specs.Ethernet.{is_tag, untagged, typed, type_of, cut, frame_in}

-- a tag has four bytes
untagged_by : (b : Bool) (rest : List ℕ)
    → (length (if b then drop 4 rest else rest) ≤ length rest)
    × (length rest ≤ 4 + length (if b then drop 4 rest else rest))
untagged_by true rest = (grind (arith, length-drop), grind (arith, length-drop))
untagged_by false rest = (omega arith, omega arith)

-- without its tag what follows the addresses is at most four bytes shorter
untagged_length : (rest : List ℕ)
    → (length (untagged rest) ≤ length rest) × (length rest ≤ 4 + length (untagged rest))
untagged_length rest = untagged_by (is_tag rest) rest

-- behind the addresses and at most two tags
typed_length : (packet : List ℕ)
    → (length (typed packet) ≤ length packet - 12) × (length packet ≤ 20 + length (typed packet))
typed_length packet =
    let once = untagged_length (drop 12 packet) in
    let twice = untagged_length (untagged (drop 12 packet)) in
    let front : length (drop 12 packet) ≡ length packet - 12 = length-drop 12 packet in
    (omega arith, omega arith)

-- a header has at most 22 bytes
pub room : (packet behind payload : List ℕ) → behind ≡ typed packet → payload ≡ drop 2 behind
    → length (take (length packet - length payload) packet) ≤ 22
room packet behind payload is rest =
    let sizes = subst (λ xs. (length xs ≤ length packet - 12) × (length packet ≤ 20 + length xs)) (sym is)
    (typed_length packet) in
    let size : length payload ≡ length behind - 2 = ap length rest ∙ length-drop 2 behind in
    let header = length-take (length packet - length payload) packet in
    grind arith

-- a type takes two bytes
type_fits : (rest : List ℕ) → (type_of rest == 0x88a4) ≡ true → 2 ≤ length rest
type_fits rest found = grind (arith, nat_tests)

-- where there is a frame, the type is that of EtherCAT
is_framed : (b : Bool) (frame : List ℕ) → IsSome (if b then Some frame else None) → b ≡ true
is_framed true frame found = refl
is_framed false frame found = absurd (cc)

-- and then a header has at least 14 bytes
pub least : (packet behind payload : List ℕ) → behind ≡ typed packet → payload ≡ drop 2 behind
    → IsSome (frame_in packet) → 14 ≤ length (take (length packet - length payload) packet)
least packet behind payload is rest found =
    let framed = is_framed (type_of (typed packet) == 0x88a4) (cut (drop 2 (typed packet))) found in
    let fits : 2 ≤ length behind = subst (λ xs. 2 ≤ length xs) (sym is) (type_fits (typed packet) framed) in
    let sizes = subst (λ xs. (length xs ≤ length packet - 12) × (length packet ≤ 20 + length xs)) (sym is)
    (typed_length packet) in
    let size : length payload ≡ length behind - 2 = ap length rest ∙ length-drop 2 behind in
    let header = length-take (length packet - length payload) packet in
    grind arith
