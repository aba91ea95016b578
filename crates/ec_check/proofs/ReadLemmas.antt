-- Logical bits that are read twice, number by number.
use Rattle.std.proofs.Common.{◌≡◌, ⊎_elim, ℕ, ◌<◌, ◌≤◌, false, List, [], ◌∷◌, length, refl, arith}
use Rattle.std.proofs.lemmas.Bool.{both_ways}
use Rattle.ec_regs.specs.declared.registers.TheConstants.{FMMU_COUNT}
use Rattle.ec_regs.specs.Pairs.{reads}
use Rattle.ec_esc.specs.State.{ControllerState}
use Rattle.ec_check.specs.declared.fault.MapFault.{MapFault}
use Rattle.ec_check.specs.declared.fault.MapFault.TheVariants.{TwiceRead}
use Rattle.ec_check.specs.Order.{IsBefore, BeginsWith}
use Rattle.ec_check.specs.Line.{fmmu_of}
use Rattle.ec_check.specs.Rules.{IsTwiceRead}
use Rattle.ec_check.specs.Fit.{Breaks, numbers, twice_read_rule}
use Rattle.ec_check.specs.Search.{HasNone, IsFirstOf}
use Rattle.ec_check.proofs.SearchLemmas.{GoesOnBelow, IsFirstOf-itself, IsFirstOf-shorter}

-- the fault goes on with a slave
pub read_go_on : (line : List ControllerState) (bound : ℕ) → length line ≤ bound
    → GoesOnBelow (twice_read_rule ∷ []) line bound
read_go_on line bound end (TwiceRead i k j m b) broken begins =
    (i, let there : i < length line = broken.first.there.slave_there in omega arith, (refl, (refl, tt)))
read_go_on line bound end fault broken begins = absurd (omega (arith, begins.0))

-- then with an FMMU
pub read_by_go_on : (line : List ControllerState) (slave bound : ℕ) → FMMU_COUNT ≤ bound
    → GoesOnBelow (twice_read_rule ∷ slave ∷ []) line bound
read_by_go_on line slave bound end (TwiceRead i k j m b) broken begins =
    (k, let there : k < FMMU_COUNT = broken.first.there.number_there in omega arith, (refl, (begins.1.0, (refl, tt))))
read_by_go_on line slave bound end fault broken begins = absurd (omega (arith, begins.0))

-- then with another slave or the same
pub read_again_go_on : (line : List ControllerState) (slave fmmu bound : ℕ) → length line ≤ bound
    → GoesOnBelow (twice_read_rule ∷ slave ∷ fmmu ∷ []) line bound
read_again_go_on line slave fmmu bound end (TwiceRead i k j m b) broken begins = (
  j,
  let there : j < length line = broken.second.there.slave_there in omega arith,
  (refl, (begins.1.0, (begins.1.1.0, (refl, tt)))),
)
read_again_go_on line slave fmmu bound end fault broken begins = absurd (omega (arith, begins.0))

-- and then with one of its FMMUs
pub read_again_by_go_on : (line : List ControllerState) (slave fmmu later_slave bound : ℕ) → FMMU_COUNT ≤ bound
    → GoesOnBelow (twice_read_rule ∷ slave ∷ fmmu ∷ later_slave ∷ []) line bound
read_again_by_go_on line slave fmmu later_slave bound end (TwiceRead i k j m b) broken begins = (
  m,
  let there : m < FMMU_COUNT = broken.second.there.number_there in omega arith,
  (refl, (begins.1.0, (begins.1.1.0, (begins.1.1.1.0, (refl, tt))))),
)
read_again_by_go_on line slave fmmu later_slave bound end fault broken begins =
    absurd (omega (arith, begins.0))

-- there is no fault of an FMMU that does not read
none_of_writer : (line : List ControllerState) (slave fmmu : ℕ) → reads (fmmu_of line slave fmmu) ≡ false
    → (fault : MapFault) → Breaks line fault
    → BeginsWith (twice_read_rule ∷ slave ∷ fmmu ∷ []) (numbers fault) → ⊥
none_of_writer line slave fmmu not_read (TwiceRead i k j m b) broken begins =
    both_ways (reads (fmmu_of line i k)) (rw (begins.1.0, begins.1.1.0) at not_read) broken.first.for_reading
none_of_writer line slave fmmu not_read fault broken begins = absurd (omega (arith, begins.0))

pub HasNone-not_read : (line : List ControllerState) (slave fmmu : ℕ)
    → reads (fmmu_of line slave fmmu) ≡ false
    → HasNone (twice_read_rule ∷ slave ∷ fmmu ∷ []) line
HasNone-not_read line slave fmmu not_read = record { none = none_of_writer line slave fmmu not_read }

-- nor one that goes on with an earlier slave
none_of_earlier : (line : List ControllerState) (slave fmmu later_slave : ℕ) → later_slave < slave
    → (fault : MapFault) → Breaks line fault
    → BeginsWith (twice_read_rule ∷ slave ∷ fmmu ∷ later_slave ∷ []) (numbers fault) → ⊥
none_of_earlier line slave fmmu later_slave earlier (TwiceRead i k j m b) broken begins =
    let same : slave ≡ i = begins.1.0 in
    let same_later : later_slave ≡ j = begins.1.1.1.0 in
    ⊎_elim
    (λ (less : i < j). omega arith)
    (λ (rest : (i ≡ j) × IsBefore (k ∷ []) (m ∷ [])). let equal : i ≡ j = rest.0 in omega arith)
    broken.order
none_of_earlier line slave fmmu later_slave earlier fault broken begins = absurd (omega (arith, begins.0))

pub HasNone-earlier_slave : (line : List ControllerState) (slave fmmu later_slave : ℕ) → later_slave < slave
    → HasNone (twice_read_rule ∷ slave ∷ fmmu ∷ later_slave ∷ []) line
HasNone-earlier_slave line slave fmmu later_slave earlier =
    record { none = none_of_earlier line slave fmmu later_slave earlier }

-- there is no fault of two FMMUs if they read no bit both
none_of_two : (line : List ControllerState) (slave fmmu later_slave later_fmmu : ℕ)
    → ((bit : ℕ) → ¬ IsTwiceRead line slave fmmu later_slave later_fmmu bit)
    → (fault : MapFault) → Breaks line fault
    → BeginsWith (twice_read_rule ∷ slave ∷ fmmu ∷ later_slave ∷ later_fmmu ∷ []) (numbers fault) → ⊥
none_of_two line slave fmmu later_slave later_fmmu none (TwiceRead i k j m b) broken begins =
    none b (rw (begins.1.0, begins.1.1.0, begins.1.1.1.0, begins.1.1.1.1.0) broken)
none_of_two line slave fmmu later_slave later_fmmu none fault broken begins = absurd (omega (arith, begins.0))

pub HasNone-read : (line : List ControllerState) (slave fmmu later_slave later_fmmu : ℕ)
    → ((bit : ℕ) → ¬ IsTwiceRead line slave fmmu later_slave later_fmmu bit)
    → HasNone (twice_read_rule ∷ slave ∷ fmmu ∷ later_slave ∷ later_fmmu ∷ []) line
HasNone-read line slave fmmu later_slave later_fmmu none =
    record { none = none_of_two line slave fmmu later_slave later_fmmu none }

-- nor of one bit if they do not read that one both
none_of_bit : (line : List ControllerState) (slave fmmu later_slave later_fmmu bit : ℕ)
    → ¬ IsTwiceRead line slave fmmu later_slave later_fmmu bit
    → (fault : MapFault) → Breaks line fault
    → BeginsWith (twice_read_rule ∷ slave ∷ fmmu ∷ later_slave ∷ later_fmmu ∷ bit ∷ []) (numbers fault) → ⊥
none_of_bit line slave fmmu later_slave later_fmmu bit none (TwiceRead i k j m b) broken begins =
    none (rw (begins.1.0, begins.1.1.0, begins.1.1.1.0, begins.1.1.1.1.0, begins.1.1.1.1.1.0) broken)
none_of_bit line slave fmmu later_slave later_fmmu bit none fault broken begins =
    absurd (omega (arith, begins.0))

-- the lowest bit that both read is that of the first fault of the two
pub IsFirstOf-read : (line : List ControllerState) (slave fmmu later_slave later_fmmu bit : ℕ)
    → IsTwiceRead line slave fmmu later_slave later_fmmu bit
    → ((n : ℕ) → IsTwiceRead line slave fmmu later_slave later_fmmu n → bit ≤ n)
    → IsFirstOf (twice_read_rule ∷ slave ∷ fmmu ∷ later_slave ∷ later_fmmu ∷ []) line
    (TwiceRead slave fmmu later_slave later_fmmu bit)
IsFirstOf-read line slave fmmu later_slave later_fmmu bit broken lowest =
    let fault : MapFault = TwiceRead slave fmmu later_slave later_fmmu bit in
    IsFirstOf-shorter (twice_read_rule ∷ slave ∷ fmmu ∷ later_slave ∷ later_fmmu ∷ []) line bit fault
    (λ n below. record {
      none = none_of_bit line slave fmmu later_slave later_fmmu n
          (λ twice. let least : bit ≤ n = lowest n twice in absurd (omega arith));
    })
    (IsFirstOf-itself line fault broken)
