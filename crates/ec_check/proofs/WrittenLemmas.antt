-- Physical bits that are written twice, number by number.
use Rattle.std.proofs.Common.{ℕ, ◌<◌, ◌≤◌, List, [], ◌∷◌, length, refl, arith}
use Rattle.ec_regs.specs.declared.registers.TheConstants.{FMMU_COUNT}
use Rattle.ec_esc.specs.State.{ControllerState}
use Rattle.ec_check.specs.declared.fault.MapFault.{MapFault}
use Rattle.ec_check.specs.declared.fault.MapFault.TheVariants.{TwiceWritten}
use Rattle.ec_check.specs.Order.{BeginsWith}
use Rattle.ec_check.specs.Rules.{IsTwiceWritten}
use Rattle.ec_check.specs.Fit.{Breaks, numbers, twice_written_rule}
use Rattle.ec_check.specs.Search.{HasNone, IsFirstOf}
use Rattle.ec_check.proofs.SearchLemmas.{GoesOnBelow, IsFirstOf-itself, IsFirstOf-shorter}

-- the fault goes on with a slave
pub written_go_on : (line : List ControllerState) (bound : ℕ) → length line ≤ bound
    → GoesOnBelow (twice_written_rule ∷ []) line bound
written_go_on line bound end (TwiceWritten i k m b) broken begins =
    (i, let there : i < length line = broken.first.there.slave_there in omega arith, (refl, (refl, tt)))
written_go_on line bound end fault broken begins = absurd (omega (arith, begins.0))

-- then with an FMMU
pub written_in_go_on : (line : List ControllerState) (slave bound : ℕ) → FMMU_COUNT ≤ bound
    → GoesOnBelow (twice_written_rule ∷ slave ∷ []) line bound
written_in_go_on line slave bound end (TwiceWritten i k m b) broken begins =
    (k, let there : k < FMMU_COUNT = broken.first.there.number_there in omega arith, (refl, (begins.1.0, (refl, tt))))
written_in_go_on line slave bound end fault broken begins = absurd (omega (arith, begins.0))

-- and then with another
pub written_again_go_on : (line : List ControllerState) (slave fmmu bound : ℕ) → FMMU_COUNT ≤ bound
    → GoesOnBelow (twice_written_rule ∷ slave ∷ fmmu ∷ []) line bound
written_again_go_on line slave fmmu bound end (TwiceWritten i k m b) broken begins = (
  m,
  let there : m < FMMU_COUNT = broken.second.there.number_there in omega arith,
  (refl, (begins.1.0, (begins.1.1.0, (refl, tt)))),
)
written_again_go_on line slave fmmu bound end fault broken begins = absurd (omega (arith, begins.0))

-- there is no fault of two FMMUs if they write no bit both
none_of_two : (line : List ControllerState) (slave fmmu later_fmmu : ℕ)
    → ((bit : ℕ) → ¬ IsTwiceWritten line slave fmmu later_fmmu bit)
    → (fault : MapFault) → Breaks line fault
    → BeginsWith (twice_written_rule ∷ slave ∷ fmmu ∷ later_fmmu ∷ []) (numbers fault) → ⊥
none_of_two line slave fmmu later_fmmu none (TwiceWritten i k m b) broken begins =
    none b (rw (begins.1.0, begins.1.1.0, begins.1.1.1.0) broken)
none_of_two line slave fmmu later_fmmu none fault broken begins = absurd (omega (arith, begins.0))

pub HasNone-written : (line : List ControllerState) (slave fmmu later_fmmu : ℕ)
    → ((bit : ℕ) → ¬ IsTwiceWritten line slave fmmu later_fmmu bit)
    → HasNone (twice_written_rule ∷ slave ∷ fmmu ∷ later_fmmu ∷ []) line
HasNone-written line slave fmmu later_fmmu none =
    record { none = none_of_two line slave fmmu later_fmmu none }

-- nor of one bit if they do not write that one both
none_of_bit : (line : List ControllerState) (slave fmmu later_fmmu bit : ℕ)
    → ¬ IsTwiceWritten line slave fmmu later_fmmu bit
    → (fault : MapFault) → Breaks line fault
    → BeginsWith (twice_written_rule ∷ slave ∷ fmmu ∷ later_fmmu ∷ bit ∷ []) (numbers fault) → ⊥
none_of_bit line slave fmmu later_fmmu bit none (TwiceWritten i k m b) broken begins =
    none (rw (begins.1.0, begins.1.1.0, begins.1.1.1.0, begins.1.1.1.1.0) broken)
none_of_bit line slave fmmu later_fmmu bit none fault broken begins = absurd (omega (arith, begins.0))

-- the lowest bit that both write is that of the first fault of the two
pub IsFirstOf-written : (line : List ControllerState) (slave fmmu later_fmmu bit : ℕ)
    → IsTwiceWritten line slave fmmu later_fmmu bit
    → ((n : ℕ) → IsTwiceWritten line slave fmmu later_fmmu n → bit ≤ n)
    → IsFirstOf (twice_written_rule ∷ slave ∷ fmmu ∷ later_fmmu ∷ []) line
    (TwiceWritten slave fmmu later_fmmu bit)
IsFirstOf-written line slave fmmu later_fmmu bit broken lowest =
    IsFirstOf-shorter (twice_written_rule ∷ slave ∷ fmmu ∷ later_fmmu ∷ []) line bit
    (TwiceWritten slave fmmu later_fmmu bit)
    (λ n below. record {
      none = none_of_bit line slave fmmu later_fmmu n
          (λ twice. let least : bit ≤ n = lowest n twice in absurd (omega arith));
    })
    (IsFirstOf-itself line (TwiceWritten slave fmmu later_fmmu bit) broken)
