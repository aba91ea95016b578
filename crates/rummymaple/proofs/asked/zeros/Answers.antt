use Rattle.std.proofs.Common.{ℕ, take, ap, ◌∙◌, arith}
use Rattle.std.proofs.lemmas.List.{take-replicate}
use Rattle.std.proofs.lemmas.Result.{IfOk-weaker}
use Rattle.ec_map.specs.Item.{new_item}
use Rattle.rummymaple.proofs.asked.zeros.Goals as goal

pub returns-clause-item : goal.returns-clause-item
returns-clause-item c =
    IfOk-weaker c.new.result _ _
    (λ item is. is
    ∙ ap (new_item c.args.kind c.args.address)
    (ap (λ (n : ℕ). take n c.most_zeros-zeros.result) c.from-count.ensures
    ∙ ap (take c.args.count) c.most_zeros-zeros.ensures
    ∙ take-replicate {X = ℕ} c.args.count 1486 0 (omega arith)))
    c.new.ensures.item
