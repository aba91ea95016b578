-- The spelling of a frame's value is its bytes on the wire (IEC 61158-4-12, the EtherCAT frame and
-- datagram structures): a header of two bytes with type 1 and the length of all datagrams, then the
-- datagrams end to end.
use Rattle.std.specs.Prelude.{◌≡◌, ℕ, ◌+◌, ◌*◌, ◌≤◌, Bool, true, false, not, List, [], ◌∷◌, ◌++◌, length}
use Rattle.std.specs.Prelude.{sum_by, All, if◌then◌else◌}
use Rattle.std.specs.Int.{w16, w32, to_le_bytes}
use Rattle.std.specs.List.{flat_map}
use Rattle.ec_wire.specs.Datagram.{DatagramRecord, code_of, datagram_length, Fits}
use Rattle.ec_wire.specs.declared.layout.TheConstants.{MAX_LENGTH}

-- a bit as a number
abbrev pub bit_of : Bool → ℕ
bit_of b = if b then 1 else 0

-- the field that has the data length in bits 0 to 10, the circulating bit 14 and the more bit 15
abbrev pub length_word : Bool → DatagramRecord → ℕ
length_word more r = length r.payload + 16384 * bit_of r.circulating + 32768 * bit_of more

-- a datagram's ten bytes before its data
abbrev pub head : Bool → DatagramRecord → List ℕ
head more r =
    code_of r.command ∷ r.index
    ∷ (to_le_bytes w32 r.address ++ to_le_bytes w16 (length_word more r) ++ to_le_bytes w16 r.irq)

-- a datagram's bytes; `more` says that another one follows
unfoldable pub datagram : Bool → DatagramRecord → List ℕ
datagram more r = head more r ++ r.payload ++ to_le_bytes w16 r.counter

-- datagrams that each say that more follow, end to end
abbrev pub front : List DatagramRecord → List ℕ
front rs = flat_map (datagram true) rs

-- whether a list has no element
abbrev pub is_nil : {A : Type 0} → List A → Bool
is_nil [] = true
is_nil (_ ∷ _) = false

-- the datagrams end to end, each but the last with its more bit
abbrev pub body : List DatagramRecord → List ℕ
body [] = []
body (r ∷ rs) = datagram (not (is_nil rs)) r ++ body rs

-- the length of all datagrams in bytes
abbrev pub body_length : List DatagramRecord → ℕ
body_length rs = sum_by datagram_length rs

-- the header: the length in bits 0 to 10, a reserved bit 0, and type 1 in bits 12 to 15
abbrev pub header : ℕ → List ℕ
header n = to_le_bytes w16 (n + 4096)

-- the bytes of a frame's value
unfoldable pub spelling : List DatagramRecord → List ℕ
spelling rs = header (body_length rs) ++ body rs

-- a frame's value: at least one datagram, each fits its fields, and all fit one Ethernet payload
pub record IsFrameValue (rs : List DatagramRecord) : Type 0 where
  pub some : is_nil rs ≡ false
  pub fits : All Fits rs
  pub room : body_length rs ≤ MAX_LENGTH
