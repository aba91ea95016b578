-- A read of registers by place or by station: what the controller that serves it gives.
use Rattle.std.proofs.Common.{◌≡◌, ◌⊎◌, ℕ, ◌+◌, ◌*◌, ◌<◌, Bool, true, false, cond, ◌&&◌, List, [], ◌∷◌}
use Rattle.std.proofs.Common.{length}
use Rattle.std.proofs.Common.{get_or, None, Some, refl, sym, ap, ◌∙◌, arith, inl, inr}
use Rattle.std.proofs.lemmas.Nat.Bits.{same_from_bits_below}
use Rattle.ec_regs.specs.Bits.{AreBytes, with_bits}
use Rattle.ec_regs.proofs.Laws.{AreBytes-with_bits, bit-with_bits_taken, bit_of_byte, with_bits_none}
use Rattle.ec_wire.specs.Command.{addressing, reads, writes}
use Rattle.ec_wire.specs.Datagram.{DatagramRecord, ado_of}
use Rattle.ec_wire.specs.declared.command.Command.{Command}
use Rattle.ec_wire.specs.declared.command.Command.TheVariants.{Aprd, Fprd}
use Rattle.ec_esc.specs.Pass.{Half, effect, is_addressed, pass, range_given, range_sources}
use Rattle.ec_esc.specs.Pass.{serves_range_read, serves_reading, serves_writing, where_served}
use Rattle.ec_esc.specs.State.{ControllerState}
use Rattle.ec_esc.proofs.Laws.{gain_served}
use Rattle.ecat_told.specs.Known.{is_logical}
use Rattle.ecat_told.proofs.ArrivalLemmas.{gain, passed_ado, passed_bytes, passed_command, passed_size}
use Rattle.ecat_told.proofs.LineLemmas.{came, gains}
use Rattle.ecat_told.proofs.PassLemmas.{HasMemory}

-- a command that reads of one slave
abbrev pub IsReading : Command → Type 0
IsReading x = (x ≡ Aprd) ⊎ (x ≡ Fprd)

-- a read of registers of one slave
pub record IsRead (d : DatagramRecord) (from n : ℕ) : Type 0 where
  pub reading : IsReading d.command
  pub bytes : AreBytes d.payload
  pub place : ado_of d.address ≡ from
  pub size : length d.payload ≡ n

reading_on : (x y : Command) → y ≡ x → IsReading x → IsReading y
reading_on x y same (inl is) = inl (same ∙ is)
reading_on x y same (inr is) = inr (same ∙ is)

-- it is one behind a controller
pub read_goes_on : (c : ControllerState) (d : DatagramRecord) (from n : ℕ) → IsRead d from n
    → IsRead (pass c d).datagram from n
read_goes_on c d from n is = record {
  reading = reading_on d.command _ (passed_command c d) is.reading;
  bytes = passed_bytes c d;
  place = passed_ado c d ∙ is.place;
  size = passed_size c d ∙ is.size;
}

-- it is physical, and does not write
pub read_physical : (x : Command) → IsReading x → is_logical x ≡ false
read_physical x (inl is) = ap is_logical is
read_physical x (inr is) = ap is_logical is

pub read_unwritten : (x : Command) → IsReading x → writes x ≡ false
read_unwritten x (inl is) = ap writes is
read_unwritten x (inr is) = ap writes is

-- is it served
pub gives : ControllerState → DatagramRecord → Bool
gives c d =
    is_addressed (addressing d.command) c d.address && serves_range_read c (ado_of d.address)
    (length d.payload)

abbrev pub one_if : Bool → ℕ
one_if b = cond b 1 0

-- nothing more
pub plus_none : (n : ℕ) → n + 0 ≡ n
plus_none n = omega arith

gain_of_reading : (x : Command) (c : ControllerState) (address n : ℕ) → IsReading x
    → one_if (reads x && serves_reading (addressing x) c address n)
    ≡ one_if (is_addressed (addressing x) c address && serves_range_read c (ado_of address) n)
gain_of_reading x c address n (inl is) =
    ap (λ (y : Command). one_if (reads y && serves_reading (addressing y) c address n)) is
    ∙ sym (ap (λ (y : Command). one_if (is_addressed (addressing y) c address
    && serves_range_read c (ado_of address) n)) is)
gain_of_reading x c address n (inr is) =
    ap (λ (y : Command). one_if (reads y && serves_reading (addressing y) c address n)) is
    ∙ sym (ap (λ (y : Command). one_if (is_addressed (addressing y) c address
    && serves_range_read c (ado_of address) n)) is)

-- it counts one where it is served
pub read_gain : (c : ControllerState) (d : DatagramRecord) → IsReading d.command
    → gain c d ≡ one_if (gives c d)
unfolding gain gives
read_gain c d reading =
    gain_served d.command c d.address (length d.payload)
    ∙ ap (λ w. one_if (reads d.command && serves_reading (addressing d.command) c d.address
    (length d.payload))
    + cond (w && serves_writing (addressing d.command) c d.address (length d.payload))
    (cond (reads d.command) 2 1) 0) (read_unwritten d.command reading)
    ∙ plus_none _
    ∙ gain_of_reading d.command c d.address (length d.payload) reading

half_is : (x : Command) (c : ControllerState) (address n : ℕ) → IsReading x
    → (effect x c address n).reading
    ≡ where_served (is_addressed (addressing x) c address && serves_range_read c (ado_of address) n)
    (range_given (range_sources (ado_of address)) c (ado_of address) n)
half_is x c address n (inl is) =
    ap (λ (y : Command). (effect y c address n).reading) is
    ∙ sym (ap (λ (y : Command). where_served (is_addressed (addressing y) c address
    && serves_range_read c (ado_of address) n)
    (range_given (range_sources (ado_of address)) c (ado_of address) n)) is)
half_is x c address n (inr is) =
    ap (λ (y : Command). (effect y c address n).reading) is
    ∙ sym (ap (λ (y : Command). where_served (is_addressed (addressing y) c address
    && serves_range_read c (ado_of address) n)
    (range_given (range_sources (ado_of address)) c (ado_of address) n)) is)

given : ControllerState → DatagramRecord → Bool → Half
given c d b =
    where_served b (range_given (range_sources (ado_of d.address)) c (ado_of d.address) (length d.payload))

read_payload : (c : ControllerState) (d : DatagramRecord) (b : Bool) → IsReading d.command → gives c d ≡ b
    → (pass c d).datagram.payload ≡ with_bits d.payload c.memory (given c d b).places
unfolding pass gives given
read_payload c d b reading is =
    ap (λ (h : Half). with_bits d.payload c.memory h.places)
    (half_is d.command c d.address (length d.payload) reading
    ∙ ap (λ t. where_served t
    (range_given (range_sources (ado_of d.address)) c (ado_of d.address) (length d.payload))) is)

-- each byte of the range
pub read_gives : (c : ControllerState) (d : DatagramRecord) (from n k : ℕ) → HasMemory c → IsRead d from n
    → gives c d ≡ true → k < n → get_or (pass c d).datagram.payload k 0 ≡ get_or c.memory (from + k) 0
unfolding given
read_gives c d from n k memory is served below =
    let places = range_sources (ado_of d.address) in
    let place : ado_of d.address ≡ from = is.place in
    let size : length d.payload ≡ n = is.size in
    ap (λ xs. get_or xs k 0) (read_payload c d true is.reading served)
    ∙ same_from_bits_below 8 (get_or (with_bits d.payload c.memory places) k 0) (get_or c.memory (from + k) 0)
    (AreBytes-with_bits d.payload c.memory places k) (memory.memory (from + k))
    (λ b small.
    let at : 8 * ado_of d.address + (8 * k + b) ≡ 8 * (from + k) + b = omega (arith, place) in
    sym (bit_of_byte (with_bits d.payload c.memory places) k b small)
    ∙ bit-with_bits_taken d.payload c.memory places (8 * k + b) (8 * (from + k) + b)
    (omega (arith, below, size, small)) (ap Some at)
    ∙ bit_of_byte c.memory (from + k) b small)

one_or_none : (b : Bool) → one_if b ≡ 0 → b ≡ false
one_or_none true is = absurd (omega (arith, is))
one_or_none false is = refl

pub one_or_more : (b : Bool) → one_if b ≡ 1 → b ≡ true
one_or_more true is = refl
one_or_more false is = absurd (omega (arith, is))

-- where it counts it is served
pub counted_gives : (c : ControllerState) (d : DatagramRecord) → IsReading d.command → gain c d ≡ 1
    → gives c d ≡ true
counted_gives c d reading counted = one_or_more (gives c d) (sym (read_gain c d reading) ∙ counted)

-- who does not count it leaves the data
pub unread : (c : ControllerState) (d : DatagramRecord) (from n : ℕ) → IsRead d from n → gain c d ≡ 0
    → (pass c d).datagram.payload ≡ d.payload
unfolding given
unread c d from n is none =
    read_payload c d false is.reading (one_or_none (gives c d) (sym (read_gain c d is.reading) ∙ none))
    ∙ with_bits_none d.payload c.memory (λ _. None) is.bytes (λ i inside. refl)

-- so do many
pub came_unread : (cs : List ControllerState) (d : DatagramRecord) (from n : ℕ) → IsRead d from n
    → gains cs d ≡ 0 → (came cs d).payload ≡ d.payload
unfolding came gains
came_unread [] d from n is none = refl
came_unread (c ∷ cs) d from n is none =
    came_unread cs (pass c d).datagram from n (read_goes_on c d from n is) (omega (arith, none))
    ∙ unread c d from n is (omega (arith, none))
