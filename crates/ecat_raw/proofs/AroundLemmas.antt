-- What is put around a frame is taken out again.
use Rattle.std.proofs.Common.{arith, ◌≡◌, ◌+◌, ◌-◌, ◌==◌, ◌||◌, ◌∙◌, ℕ, false, nat_lt}
use Rattle.std.proofs.Common.{List, [], ◌∷◌, ◌++◌, length, take, drop, replicate, Some, None}
use Rattle.std.proofs.Common.{if◌then◌else◌, sym, ap}
use Rattle.std.specs.Int.{w16, from_be_bytes}
use Rattle.std.proofs.Math.Seq.{take-append_seam, drop-append_seam}
use Rattle.std.proofs.lemmas.Bool.Decides.{nat_tests}
use Rattle.std.proofs.lemmas.List.{append_assoc, length-append}
use Rattle.ec_wire.specs.Fault.{frame_end}
use Rattle.ecat_raw.specs.Ethernet.{broadcast, header_of, packet_of, typed, type_of, untagged, cut, frame_in}

-- ---- where a frame ends by its header

-- padding behind it is cut
cut_padding : (frame zeros : List ℕ) → frame_end frame ≡ length frame → cut (frame ++ zeros) ≡ frame
cut_padding [] zeros is = absurd (omega (arith, is))
cut_padding (a ∷ []) zeros is = absurd (omega (arith, is))
cut_padding (a ∷ b ∷ rest) zeros is =
    ap (λ n. take n ((a ∷ b ∷ rest) ++ zeros)) is ∙ take-append_seam (a ∷ b ∷ rest) zeros

-- ---- the type before it

type_is : (rest : List ℕ) → type_of (0x88 ∷ 0xa4 ∷ rest) ≡ 0x88a4
type_is rest =
    let long : nat_lt (length (0x88 ∷ 0xa4 ∷ rest)) 2 ≡ false = grind (arith, nat_tests) in
    ap (λ b. if b then 0 else from_be_bytes w16 (0x88 ∷ 0xa4 ∷ rest)) long

no_tag : (rest : List ℕ) → untagged (0x88 ∷ 0xa4 ∷ rest) ≡ 0x88 ∷ 0xa4 ∷ rest
no_tag rest =
    ap (λ t. if (t == 0x8100) || (t == 0x88a8) then drop 4 (0x88 ∷ 0xa4 ∷ rest) else 0x88 ∷ 0xa4 ∷ rest)
    (type_is rest)

typed_is : (front rest : List ℕ) → length front ≡ 12
    → typed (front ++ (0x88 ∷ 0xa4 ∷ rest)) ≡ 0x88 ∷ 0xa4 ∷ rest
typed_is front rest long =
    let behind : drop 12 (front ++ (0x88 ∷ 0xa4 ∷ rest)) ≡ 0x88 ∷ 0xa4 ∷ rest =
    ap (λ n. drop n (front ++ (0x88 ∷ 0xa4 ∷ rest))) (sym long)
    ∙ drop-append_seam front (0x88 ∷ 0xa4 ∷ rest) in
    ap (λ xs. untagged (untagged xs)) behind ∙ ap untagged (no_tag rest) ∙ no_tag rest

found : (behind rest : List ℕ) → behind ≡ 0x88 ∷ 0xa4 ∷ rest
    → (if type_of behind == 0x88a4 then Some (cut (drop 2 behind)) else None) ≡ Some (cut rest)
found behind rest is =
    ap (λ xs. if type_of xs == 0x88a4 then Some (cut (drop 2 xs)) else None) is
    ∙ ap (λ t. if t == 0x88a4 then Some (cut (drop 2 (0x88 ∷ 0xa4 ∷ rest))) else None) (type_is rest)

-- ---- all of it

pub again : (source frame : List ℕ) → length source ≡ 6 → frame_end frame ≡ length frame
    → frame_in (packet_of source frame) ≡ Some frame
again source frame six is =
    let zeros = replicate (60 - length (header_of source ++ frame)) 0 in
    let front = broadcast ++ source in
    let long : length front ≡ 12 = length-append broadcast source ∙ ap (λ n. 6 + n) six in
    let regrouped : packet_of source frame ≡ front ++ (0x88 ∷ 0xa4 ∷ (frame ++ zeros)) =
    append_assoc (header_of source) frame zeros
    ∙ append_assoc front (0x88 ∷ 0xa4 ∷ []) (frame ++ zeros) in
    ap frame_in regrouped
    ∙ found (typed (front ++ (0x88 ∷ 0xa4 ∷ (frame ++ zeros)))) (frame ++ zeros)
    (typed_is front (frame ++ zeros) long)
    ∙ ap Some (cut_padding frame zeros is)
