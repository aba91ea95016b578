use Rattle.std.proofs.Common.{◌≡◌, ◌∙◌, ℕ, Ok, ap, length, rules}
use Rattle.std.proofs.lemmas.List.{length-replicate}
use Rattle.ec_wire.specs.Frame.{records_at}
use Rattle.ec_wire.specs.Fault.{IsSpelt}
use Rattle.ec_wire.proofs.SpellingLemmas.{Keeps-seen}
use Rattle.ec_wire.proofs.ReadLemmas.{Keeps-outline, IsSpelt-outline}
use Rattle.ec_wire.proofs.LawLemmas.{one_value, only_fault, spelt_no_fault}
use Rattle.ec_wire.proofs.frame.FrameBuf.read.Goals as goal

-- the cells before they are written
zeros : (c : goal.After-put) → length c.new-cells.result.bytes ≡ 1500
zeros c = ap length c.new-cells.ensures ∙ length-replicate {A = ℕ} 1500 0

-- what is seen of the frame
spelt_new : (c : goal.After-put)
    → IsSpelt c.args.form c.args.bytes.now (records_at c.put.new.self.bytes c.outline.new.starts.items)
spelt_new c = IsSpelt-outline c.args.form c.args.bytes.now _ _ _ _ _ c.in_ok-size.ensures.found.1 (zeros c)
    c.put.ensures

pub returns-in_err-size-clause-only_found : goal.returns-in_err-size-clause-only_found
returns-in_err-size-clause-only_found c = λ rs spelt.
    absurd (spelt_no_fault c.args.form c.args.bytes.now rs _ spelt c.in_err-size.ensures.fault)

pub returns-in_err-size-clause-only_fault : goal.returns-in_err-size-clause-only_fault
returns-in_err-size-clause-only_fault c =
    only_fault c.args.form c.args.bytes.now _ c.from_residual.ensures.0 (search rules)

pub invariant_of-result : goal.invariant_of-result
invariant_of-result c =
    Keeps-seen _ _ _ _ (Keeps-outline c.args.form c.args.bytes.now _ _ _ _ _ c.in_ok-size.ensures.found.1
    (zeros c) c.put.ensures)

pub returns-clause-found : goal.returns-clause-found
returns-clause-found c = spelt_new c

pub returns-clause-only_found : goal.returns-clause-only_found
returns-clause-only_found c = λ rs spelt.
    ap Ok (one_value c.args.form c.args.bytes.now _ rs (spelt_new c) spelt)

pub returns-clause-only_fault : goal.returns-clause-only_fault
returns-clause-only_fault c = λ f first.
    absurd (spelt_no_fault c.args.form c.args.bytes.now _ f (spelt_new c) first)
