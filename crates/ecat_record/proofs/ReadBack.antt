-- A header and records that were written are a capture with these packets.
use Rattle.std.proofs.Common.{◌≡◌, ℕ, ◌+◌, ◌-◌, ◌*◌, ◌/◌, ◌%◌, ◌<◌, ◌≤◌, ◌^◌, List, [], ◌∷◌, length}
use Rattle.std.proofs.Common.{take, drop, min}
use Rattle.std.proofs.Common.{Option, Some, refl, arith, sym, ap, ◌∙◌, subst}
use Rattle.std.proofs.lemmas.List.{length-append, take_min}
use Rattle.byteorder.specs.Numbers.{little_number-reads_back}
use Rattle.ecat_capture.specs.Numbers.{word, half}
use Rattle.ecat_capture.specs.Pieces.{greatest_packet, kept_packet}
use Rattle.ecat_capture.specs.Times.{time_of}
use Rattle.ecat_capture.specs.declared.packet.Time.{Time}
use Rattle.ecat_capture.specs.Classic as classic
use Rattle.ecat_capture.specs.Classic.{IsHeader, IsRecord, header_fault}
use Rattle.ecat_capture.specs.Links.{link_of}
use Rattle.ecat_capture.specs.File.{Stored, stored, AreRecords, IsCapture}
use Rattle.ecat_capture.proofs.Laws.{records-none, records-more, capture-of_records}
use Rattle.ecat_capture.specs.declared.order.Order.TheVariants.{Little}
use Rattle.ecat_record.specs.Written as written
use Rattle.ecat_record.specs.Written.{header_of, head_of, record_of, records_of, capture_of, format_of}
use Rattle.ecat_record.specs.Written.{per_second}
use Rattle.ecat_record.specs.Written.{Copy, AllFit, told_time}
use Rattle.ecat_record.specs.declared.format.Unit.{Unit}
use Rattle.ecat_record.specs.declared.format.Unit.TheVariants.{Microseconds, Nanoseconds}

-- the header is one
header_is : (unit : Unit) → IsHeader (format_of unit) (header_of unit)
unfolding header_of classic.format_of header_fault half word link_of
header_is Microseconds = record {
  unlinked = format_of Microseconds;
  whole = refl;
  magic = refl;
  good = refl;
  format_is = refl;
}
header_is Nanoseconds = record {
  unlinked = format_of Nanoseconds;
  whole = refl;
  magic = refl;
  good = refl;
  format_is = refl;
}

-- a time is its seconds and what is behind them, and they have room
seconds_fit : (unit : Unit) (at : ℕ) → told_time unit at / per_second unit < 2 ^ 32
seconds_fit Microseconds at = omega arith
seconds_fit Nanoseconds at = omega arith

behind_fits : (unit : Unit) (ticks : ℕ) → ticks % per_second unit < 2 ^ 32
behind_fits Microseconds ticks = omega arith
behind_fits Nanoseconds ticks = omega arith

both : (unit : Unit) (ticks : ℕ) → ticks / per_second unit * per_second unit + ticks % per_second unit ≡ ticks
both Microseconds ticks = omega arith
both Nanoseconds ticks = omega arith

-- packets with the same fields
abbrev of : Option Time → ℕ → ℕ → List ℕ → Stored
of t c o b = record { time = t; captured = c; original = o; bytes = b }

same_stored : (t t' : Option Time) (c c' o o' : ℕ) (b b' : List ℕ) → t ≡ t' → c ≡ c' → o ≡ o' → b ≡ b'
    → of t c o b ≡ of t' c' o' b'
same_stored t t' c c' o o' b b' ts cs os bs = cc (ts, cs, os, bs)

-- the numbers in the head of a record
module _ (unit : Unit) (at : ℕ) (packet : List ℕ) (fits : length packet ≤ greatest_packet) where
  abbrev ticks : ℕ
  ticks = told_time unit at

  abbrev bytes : List ℕ
  bytes = record_of unit at packet

  seconds : word Little 0 bytes ≡ ticks / per_second unit
  unfolding head_of word
  seconds = little_number-reads_back 4 (ticks / per_second unit) (drop 4 bytes) (seconds_fit unit at)

  behind : word Little 4 bytes ≡ ticks % per_second unit
  unfolding head_of word
  behind = little_number-reads_back 4 (ticks % per_second unit) (drop 8 bytes) (behind_fits unit ticks)

  size : word Little 8 bytes ≡ length packet
  unfolding head_of word
  size = little_number-reads_back 4 (length packet) (drop 12 bytes) (omega (arith, fits))

  original : word Little 12 bytes ≡ length packet
  unfolding head_of word
  original = little_number-reads_back 4 (length packet) packet (omega (arith, fits))

  head_long : length (head_of unit ticks (length packet)) ≡ 16
  unfolding head_of
  head_long = refl

  long : length bytes ≡ 16 + length packet
  long =
      length-append (head_of unit ticks (length packet)) packet ∙ ap (λ n. n + length packet) head_long

  behind_head : drop 16 bytes ≡ packet
  unfolding head_of
  behind_head = refl

  record_is : IsRecord (format_of unit) bytes (classic.record_of (format_of unit) bytes)
  record_is = record {
    found_is = refl;
    whole = long ∙ ap (λ n. 16 + n) (sym size);
    fits = subst (λ n. n ≤ greatest_packet) (sym size) fits;
  }

  ticks_are : word Little 0 bytes * per_second unit + word Little 4 bytes ≡ ticks
  ticks_are =
      ap (λ n. n * per_second unit + word Little 4 bytes) seconds
      ∙ ap (λ n. ticks / per_second unit * per_second unit + n) behind ∙ both unit ticks

  given_bytes : (n : ℕ) → n ≡ length packet
      → take (16 + min n kept_packet - 16) (drop 16 bytes) ≡ take kept_packet packet
  given_bytes n is =
      let count : 16 + min n kept_packet - 16 ≡ min kept_packet (length packet) = omega arith in
      ap (λ k. take k (drop 16 bytes)) count ∙ ap (take (min kept_packet (length packet))) behind_head
      ∙ take_min kept_packet packet

  stored_is : stored (classic.record_of (format_of unit) bytes) bytes
      ≡ written.packet_of unit (record { ticks = at; packet = packet })
  unfolding classic.record_of
  stored_is =
      same_stored _ _ _ _ _ _ _ _ (ap (λ t. Some (time_of (per_second unit) t)) ticks_are) size original
      (given_bytes (word Little 8 bytes) size)

-- behind the header
records_hold : (unit : Unit) (copies : List Copy) → AllFit copies
    → AreRecords (format_of unit) (records_of unit copies) (written.packets_of unit copies)
records_hold unit [] fit = records-none (format_of unit)
records_hold unit (c ∷ cs) fit =
    subst (λ p. AreRecords (format_of unit) (records_of unit (c ∷ cs)) (p ∷ written.packets_of unit cs))
    (stored_is unit c.ticks c.packet fit.0)
    (records-more (format_of unit) (record_of unit c.ticks c.packet) (records_of unit cs)
    (written.packets_of unit cs) (record_is unit c.ticks c.packet fit.0) (records_hold unit cs fit.1))

pub captures : (unit : Unit) (copies : List Copy) → AllFit copies
    → IsCapture (capture_of unit copies) (written.packets_of unit copies)
captures unit copies fit =
    capture-of_records (format_of unit) (header_of unit) (records_of unit copies)
    (written.packets_of unit copies) (header_is unit) (records_hold unit copies fit)
