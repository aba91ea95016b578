-- Logical bits that are read from one slave and written to another, number by number.
use Rattle.std.proofs.Common.{◌≡◌, ℕ, ◌<◌, ◌≤◌, false, List, [], ◌∷◌, length, refl, arith}
use Rattle.std.proofs.lemmas.Bool.{both_ways}
use Rattle.ec_regs.specs.declared.registers.TheConstants.{FMMU_COUNT}
use Rattle.ec_regs.specs.Pairs.{reads}
use Rattle.ec_esc.specs.State.{ControllerState}
use Rattle.ec_check.specs.declared.fault.MapFault.{MapFault}
use Rattle.ec_check.specs.declared.fault.MapFault.TheVariants.{ReadAndWritten}
use Rattle.ec_check.specs.Order.{BeginsWith}
use Rattle.ec_check.specs.Line.{fmmu_of}
use Rattle.ec_check.specs.Rules.{IsReadAndWritten}
use Rattle.ec_check.specs.Fit.{Breaks, numbers, read_and_written_rule}
use Rattle.ec_check.specs.Search.{HasNone, IsFirstOf}
use Rattle.ec_check.proofs.SearchLemmas.{GoesOnBelow, IsFirstOf-itself, IsFirstOf-shorter}

-- the fault goes on with a slave
pub crossed_go_on : (line : List ControllerState) (bound : ℕ) → length line ≤ bound
    → GoesOnBelow (read_and_written_rule ∷ []) line bound
crossed_go_on line bound end (ReadAndWritten i k j m b) broken begins =
    (i, let there : i < length line = broken.read.there.slave_there in omega arith, (refl, (refl, tt)))
crossed_go_on line bound end fault broken begins = absurd (omega (arith, begins.0))

-- then with an FMMU
pub reader_go_on : (line : List ControllerState) (reader bound : ℕ) → FMMU_COUNT ≤ bound
    → GoesOnBelow (read_and_written_rule ∷ reader ∷ []) line bound
reader_go_on line reader bound end (ReadAndWritten i k j m b) broken begins =
    (k, let there : k < FMMU_COUNT = broken.read.there.number_there in omega arith, (refl, (begins.1.0, (refl, tt))))
reader_go_on line reader bound end fault broken begins = absurd (omega (arith, begins.0))

-- then with another slave
pub reader_fmmu_go_on : (line : List ControllerState) (reader reader_fmmu bound : ℕ) → length line ≤ bound
    → GoesOnBelow (read_and_written_rule ∷ reader ∷ reader_fmmu ∷ []) line bound
reader_fmmu_go_on line reader reader_fmmu bound end (ReadAndWritten i k j m b) broken begins = (
  j,
  let there : j < length line = broken.written.there.slave_there in omega arith,
  (refl, (begins.1.0, (begins.1.1.0, (refl, tt)))),
)
reader_fmmu_go_on line reader reader_fmmu bound end fault broken begins = absurd (omega (arith, begins.0))

-- and then with one of its FMMUs
pub writer_go_on : (line : List ControllerState) (reader reader_fmmu writer bound : ℕ) → FMMU_COUNT ≤ bound
    → GoesOnBelow (read_and_written_rule ∷ reader ∷ reader_fmmu ∷ writer ∷ []) line bound
writer_go_on line reader reader_fmmu writer bound end (ReadAndWritten i k j m b) broken begins = (
  m,
  let there : m < FMMU_COUNT = broken.written.there.number_there in omega arith,
  (refl, (begins.1.0, (begins.1.1.0, (begins.1.1.1.0, (refl, tt))))),
)
writer_go_on line reader reader_fmmu writer bound end fault broken begins = absurd (omega (arith, begins.0))

-- there is no fault of an FMMU that does not read
none_of_writer : (line : List ControllerState) (reader reader_fmmu : ℕ)
    → reads (fmmu_of line reader reader_fmmu) ≡ false
    → (fault : MapFault) → Breaks line fault
    → BeginsWith (read_and_written_rule ∷ reader ∷ reader_fmmu ∷ []) (numbers fault) → ⊥
none_of_writer line reader reader_fmmu not_read (ReadAndWritten i k j m b) broken begins =
    both_ways (reads (fmmu_of line i k)) (rw (begins.1.0, begins.1.1.0) at not_read) broken.read.for_reading
none_of_writer line reader reader_fmmu not_read fault broken begins = absurd (omega (arith, begins.0))

pub HasNone-not_reading : (line : List ControllerState) (reader reader_fmmu : ℕ)
    → reads (fmmu_of line reader reader_fmmu) ≡ false
    → HasNone (read_and_written_rule ∷ reader ∷ reader_fmmu ∷ []) line
HasNone-not_reading line reader reader_fmmu not_read =
    record { none = none_of_writer line reader reader_fmmu not_read }

-- nor one of a slave with itself
none_of_itself : (line : List ControllerState) (reader reader_fmmu writer : ℕ) → reader ≡ writer
    → (fault : MapFault) → Breaks line fault
    → BeginsWith (read_and_written_rule ∷ reader ∷ reader_fmmu ∷ writer ∷ []) (numbers fault) → ⊥
none_of_itself line reader reader_fmmu writer itself (ReadAndWritten i k j m b) broken begins =
    let same : reader ≡ i = begins.1.0 in
    let same_writer : writer ≡ j = begins.1.1.1.0 in
    broken.apart (omega arith)
none_of_itself line reader reader_fmmu writer itself fault broken begins = absurd (omega (arith, begins.0))

pub HasNone-itself : (line : List ControllerState) (reader reader_fmmu writer : ℕ) → reader ≡ writer
    → HasNone (read_and_written_rule ∷ reader ∷ reader_fmmu ∷ writer ∷ []) line
HasNone-itself line reader reader_fmmu writer itself =
    record { none = none_of_itself line reader reader_fmmu writer itself }

-- there is no fault of two FMMUs if there is no bit that one reads and the other writes
none_of_two : (line : List ControllerState) (reader reader_fmmu writer writer_fmmu : ℕ)
    → ((bit : ℕ) → ¬ IsReadAndWritten line reader reader_fmmu writer writer_fmmu bit)
    → (fault : MapFault) → Breaks line fault
    → BeginsWith (read_and_written_rule ∷ reader ∷ reader_fmmu ∷ writer ∷ writer_fmmu ∷ []) (numbers fault)
    → ⊥
none_of_two line reader reader_fmmu writer writer_fmmu none (ReadAndWritten i k j m b) broken begins =
    none b (rw (begins.1.0, begins.1.1.0, begins.1.1.1.0, begins.1.1.1.1.0) broken)
none_of_two line reader reader_fmmu writer writer_fmmu none fault broken begins =
    absurd (omega (arith, begins.0))

pub HasNone-crossed : (line : List ControllerState) (reader reader_fmmu writer writer_fmmu : ℕ)
    → ((bit : ℕ) → ¬ IsReadAndWritten line reader reader_fmmu writer writer_fmmu bit)
    → HasNone (read_and_written_rule ∷ reader ∷ reader_fmmu ∷ writer ∷ writer_fmmu ∷ []) line
HasNone-crossed line reader reader_fmmu writer writer_fmmu none =
    record { none = none_of_two line reader reader_fmmu writer writer_fmmu none }

-- nor of one bit if that is none of them
none_of_bit : (line : List ControllerState) (reader reader_fmmu writer writer_fmmu bit : ℕ)
    → ¬ IsReadAndWritten line reader reader_fmmu writer writer_fmmu bit
    → (fault : MapFault) → Breaks line fault
    → BeginsWith (read_and_written_rule ∷ reader ∷ reader_fmmu ∷ writer ∷ writer_fmmu ∷ bit ∷ [])
    (numbers fault)
    → ⊥
none_of_bit line reader reader_fmmu writer writer_fmmu bit none (ReadAndWritten i k j m b) broken begins =
    none (rw (begins.1.0, begins.1.1.0, begins.1.1.1.0, begins.1.1.1.1.0, begins.1.1.1.1.1.0) broken)
none_of_bit line reader reader_fmmu writer writer_fmmu bit none fault broken begins =
    absurd (omega (arith, begins.0))

-- the lowest bit that one reads and the other writes is that of the first fault of the two
pub IsFirstOf-crossed : (line : List ControllerState) (reader reader_fmmu writer writer_fmmu bit : ℕ)
    → IsReadAndWritten line reader reader_fmmu writer writer_fmmu bit
    → ((n : ℕ) → IsReadAndWritten line reader reader_fmmu writer writer_fmmu n → bit ≤ n)
    → IsFirstOf (read_and_written_rule ∷ reader ∷ reader_fmmu ∷ writer ∷ writer_fmmu ∷ []) line
    (ReadAndWritten reader reader_fmmu writer writer_fmmu bit)
IsFirstOf-crossed line reader reader_fmmu writer writer_fmmu bit broken lowest =
    let fault : MapFault = ReadAndWritten reader reader_fmmu writer writer_fmmu bit in
    IsFirstOf-shorter (read_and_written_rule ∷ reader ∷ reader_fmmu ∷ writer ∷ writer_fmmu ∷ []) line bit
    fault
    (λ n below. record {
      none = none_of_bit line reader reader_fmmu writer writer_fmmu n
          (λ crossed. let least : bit ≤ n = lowest n crossed in absurd (omega arith));
    })
    (IsFirstOf-itself line fault broken)
