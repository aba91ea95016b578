use Rattle.std.proofs.Common.{subst, arith, List, [], ◌∷◌, take}
use Rattle.std.specs.List.{AllByRecursion}
use Rattle.ec_regs.proofs.Laws.{each-append}
use Rattle.ec_check.specs.Line.{controllers_by}
use Rattle.ec_map.specs.Item.{ItemRecord}
use Rattle.ec_map.specs.Place.{IsPlaced}
use Rattle.ecat_text.proofs.RefusedLemmas.{take-one_more}
use Rattle.ecat_text.proofs.refusal.misplaced_in.Goals as goal

pub loop-k-preserved : goal.loop-k-preserved
loop-k-preserved g c =
    let P : ItemRecord → Type 0 = λ r. IsPlaced (controllers_by g.S.Mapped.controller c.args.line.now) r in
    let item : ItemRecord = c.index-items-k.result in
    subst (λ (rs : List ItemRecord). AllByRecursion P rs)
    (take-one_more c.loop-k.k c.args.items.now item (omega arith) c.index-items-k.is)
    (each-append P (take c.loop-k.k c.args.items.now) (item ∷ []) c.loop-k.invariant
    (c.in-Ok.ensures.accepted, tt))
