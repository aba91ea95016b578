-- All rules together.
use Rattle.std.proofs.Common.{◌≡◌, ℕ, ◌+◌, Result, Ok, Err, List, [], ◌∷◌, refl, below_more, arith}
use Rattle.std.specs.Result.{OnOk, IfErr}
use Rattle.ec_esc.specs.State.{ControllerState}
use Rattle.ec_check.specs.declared.fault.MapFault.{MapFault}
use Rattle.ec_check.specs.declared.fault.MapFault.TheVariants.{TwinStation, BadFmmu, AreasMeet, OutsideArea}
use Rattle.ec_check.specs.declared.fault.MapFault.TheVariants.{TwiceWritten, TwiceRead, ReadAndWritten}
use Rattle.ec_check.specs.Order.{BeginsWith}
use Rattle.ec_check.specs.Fit.{Breaks, numbers, IsFit, IsFirstFault}
use Rattle.ec_check.specs.Fit.{twin_station_rule, bad_fmmu_rule, areas_meet_rule, outside_area_rule}
use Rattle.ec_check.specs.Fit.{twice_written_rule, twice_read_rule, read_and_written_rule}
use Rattle.ec_check.specs.Search.{HasNone, HasNoneBelow, IsFirstOf, Answers}
use Rattle.ec_check.proofs.SearchLemmas.{GoesOnBelow, HasNone-all, IsFirstOf-shorter}

-- no rule comes before the first
none_of_zero : (line : List ControllerState) (fault : MapFault) → Breaks line fault
    → BeginsWith (0 ∷ []) (numbers fault) → ⊥
none_of_zero line (TwinStation i j) broken begins = absurd (omega (arith, begins.0))
none_of_zero line fault broken begins = absurd (omega (arith, begins.0))

pub no_rule_yet : (line : List ControllerState) → HasNoneBelow [] line twin_station_rule
no_rule_yet line n below = let zero : n ≡ 0 = omega arith in rw zero (record { none = none_of_zero line })

-- one rule more is kept
pub one_rule_more : (line : List ControllerState) (rule : ℕ) → HasNoneBelow [] line rule
    → HasNone (rule ∷ []) line
    → HasNoneBelow [] line (rule + 1)
one_rule_more line rule below here = below_more (λ n. HasNone (n ∷ []) line) rule below here

-- up to the last
rules_go_on : (line : List ControllerState) → GoesOnBelow [] line (read_and_written_rule + 1)
rules_go_on line (TwinStation i j) broken begins = (twin_station_rule, omega arith, (refl, tt))
rules_go_on line (BadFmmu i k) broken begins = (bad_fmmu_rule, omega arith, (refl, tt))
rules_go_on line (AreasMeet i k m a) broken begins = (areas_meet_rule, omega arith, (refl, tt))
rules_go_on line (OutsideArea i k a) broken begins = (outside_area_rule, omega arith, (refl, tt))
rules_go_on line (TwiceWritten i k m b) broken begins = (twice_written_rule, omega arith, (refl, tt))
rules_go_on line (TwiceRead i k j m b) broken begins = (twice_read_rule, omega arith, (refl, tt))
rules_go_on line (ReadAndWritten i k j m b) broken begins = (read_and_written_rule, omega arith, (refl, tt))

-- a line that keeps all rules is fit
pub IsFit-rules : (line : List ControllerState) → HasNoneBelow [] line (read_and_written_rule + 1)
    → IsFit line
IsFit-rules line below fault broken =
    (HasNone-all [] line (read_and_written_rule + 1) below (rules_go_on line)).none fault broken tt

-- the first fault of a rule is the first of all if the rules before it are kept
pub IsFirstFault-rule : (line : List ControllerState) (rule : ℕ) (fault : MapFault)
    → HasNoneBelow [] line rule
    → IsFirstOf (rule ∷ []) line fault → IsFirstFault line fault
IsFirstFault-rule line rule fault below found =
    let all : IsFirstOf [] line fault = IsFirstOf-shorter [] line rule fault below found in
    record { broken = all.broken; first = λ other broken before. all.first other broken tt before }

-- what the last rule answers is the answer for all
pub last_rule-accepted : {T : Type 0} (line : List ControllerState) (result : Result T MapFault)
    → HasNoneBelow [] line read_and_written_rule
    → Answers (read_and_written_rule ∷ []) line result → OnOk result (IsFit line)
last_rule-accepted line (Ok x) below answer =
    IsFit-rules line (one_rule_more line read_and_written_rule below answer)
last_rule-accepted line (Err fault) below answer = tt

pub last_rule-refused : {T : Type 0} (line : List ControllerState) (result : Result T MapFault)
    → HasNoneBelow [] line read_and_written_rule
    → Answers (read_and_written_rule ∷ []) line result → IfErr result (IsFirstFault line)
last_rule-refused line (Ok x) below answer = tt
last_rule-refused line (Err fault) below answer =
    IsFirstFault-rule line read_and_written_rule fault below answer
