-- Why a course has ended, where the pace has gone on and what cycles came to is told at last.
use Rattle.std.proofs.Common.{◌≡◌, ◌⊎◌, inl, inr, Option, Result, Err, IfOk, sym, subst}
use Rattle.ec_run.specs.Cycles.{End}
use Rattle.ec_run.specs.declared.cycles.Cycles.{Cycles}
use Rattle.ecat_master.specs.Over.{IsOver}
use Rattle.ecat_master.specs.declared.run.Plan.{Plan}
use Rattle.ecat_master.specs.declared.teller.Unwritten.{Unwritten}

-- what was made, or that something could not be written
abbrev pub MayBeUnwritten : Result (Option End) Unwritten → Result (Option End) Unwritten → Type 0
MayBeUnwritten made result = (result ≡ made) ⊎ ((why : Unwritten) × (result ≡ Err why))

paced : {T : Type 0} (over : T → Type 0) (plan : Plan) (pace later : T) (ran : Result (Option End) Unwritten)
    (cycles : Cycles) → (over pace → over later) → IsOver over plan pace ran cycles
    → IsOver over plan later ran cycles
paced over plan pace later ran cycles stays (IsOver.none_due none) = IsOver.none_due (stays none)
paced over plan pace later ran cycles stays (IsOver.most most) = IsOver.most most
paced over plan pace later ran cycles stays (IsOver.stopped end is stops not_well) =
    IsOver.stopped end is stops not_well
paced over plan pace later ran cycles stays (IsOver.unwritten why is) = IsOver.unwritten why is

pub over_closed : {T : Type 0} (over : T → Type 0) (plan : Plan) (pace later : T)
    (made result : Result (Option End) Unwritten) (cycles : Cycles) → (over pace → over later)
    → IsOver over plan pace made cycles → MayBeUnwritten made result → IsOver over plan later result cycles
over_closed over plan pace later made result cycles stays is (inl same) =
    subst (λ ran. IsOver over plan later ran cycles) (sym same) (paced over plan pace later made cycles stays is)
over_closed over plan pace later made result cycles stays is (inr unwritten) =
    IsOver.unwritten unwritten.0 unwritten.1

-- what is so where all was written is so of what is told at last
pub if_closed : (P : Option End → Type 0) (made result : Result (Option End) Unwritten) → IfOk made P
    → MayBeUnwritten made result → IfOk result P
if_closed P made result is (inl same) = subst (λ ran. IfOk ran P) (sym same) is
if_closed P made result is (inr unwritten) = subst (λ ran. IfOk ran P) (sym unwritten.1) tt
