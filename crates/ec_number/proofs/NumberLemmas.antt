-- A number put behind datagrams: where it stands, that it comes off, and that they bear it.
use Rattle.std.specs.Prelude.{◌≡◌, ◌<◌, ℕ, ◌+◌, ◌-◌, ◌^◌, Bool, false, List, [], ◌∷◌, length, take, Some, refl}
use Rattle.std.proofs.Common.{arith, ap, ◌∙◌}
use Rattle.std.proofs.Math.Seq.{get_or-append_seam, take-append_seam}
use Rattle.std.proofs.lemmas.List.{length-append, get_or_append_left}
use Rattle.std.proofs.lemmas.Nat.{from_le_bytes-to_le_bytes_8}
use Rattle.ec_wire.specs.Datagram.{DatagramRecord, nth, blank, datagram_length}
use Rattle.ec_number.specs.Number.{carrying, with_number, opened, last_of, carried_by, Bears}

-- ---- places

pub length-with_number : (b : Bool) (n : ℕ) (ds : List DatagramRecord)
    → length (with_number b n ds) ≡ length ds + 1
length-with_number b n ds = length-append ds (carrying b n ∷ [])

pub nth-front : (b : Bool) (n : ℕ) (ds : List DatagramRecord) (k : ℕ) → k < length ds
    → nth (with_number b n ds) k ≡ nth ds k
nth-front b n ds k inside = get_or_append_left ds (carrying b n ∷ []) blank k inside

pub nth-number : (b : Bool) (n : ℕ) (ds : List DatagramRecord) (k : ℕ) → k ≡ length ds
    → nth (with_number b n ds) k ≡ carrying b n
nth-number b n ds k is =
    ap (λ (i : ℕ). nth (with_number b n ds) i) is ∙ get_or-append_seam ds (carrying b n) [] blank

-- the last datagram has the number
pub last-with_number : (b : Bool) (n : ℕ) (ds : List DatagramRecord)
    → last_of (with_number b n ds) ≡ carrying b n
last-with_number b n ds =
    nth-number b n ds (length (with_number b n ds) - 1) (omega (arith, length-with_number b n ds))

-- ---- off again

-- a number is taken off with the last datagram
pub opened-with_number : (b : Bool) (n : ℕ) (ds : List DatagramRecord) → opened (with_number b n ds) ≡ ds
opened-with_number b n ds =
    let size : length (with_number b n ds) - 1 ≡ length ds = omega (arith, length-with_number b n ds) in
    ap (λ (k : ℕ). take k (with_number b n ds)) size ∙ take-append_seam ds (carrying b n ∷ [])

-- ---- borne

-- it carries the number that it was made with
carried-carrying : (b : Bool) (n : ℕ) → n < 2 ^ 64 → carried_by (carrying b n) ≡ Some n
unfolding carrying
carried-carrying b n small = ap Some (from_le_bytes-to_le_bytes_8 n small)

pub with_number-bears : (b : Bool) (n : ℕ) (ds : List DatagramRecord) → n < 2 ^ 64
    → Bears n (with_number b n ds)
with_number-bears b n ds small = ap carried_by (last-with_number b n ds) ∙ carried-carrying b n small

-- the datagram that carries a number takes twenty bytes
pub twenty : (n : ℕ) → datagram_length (carrying false n) ≡ 20
unfolding carrying
twenty n = refl
