use Rattle.std.proofs.Common.{Err, ap, refl}
use Rattle.ec_wire.specs.Frame.{records_at}
use Rattle.ec_wire.specs.Fault.{IsSpelt}
use Rattle.ec_wire.proofs.SpellingLemmas.{Keeps-seen}
use Rattle.ec_wire.proofs.ReadLemmas.{Keeps-outline, IsSpelt-outline}
use Rattle.ec_wire.proofs.LawLemmas.{one_value, one_fault, spelt_no_fault}
use Rattle.ec_wire.proofs.frame.FrameBuf.refill.Goals as goal

-- what is seen of the frame that is found
spelt_new : (c : goal.After-self-1)
    → IsSpelt c.args.form c.args.bytes.now (records_at c.put.new.self.bytes c.outline.new.starts.items)
spelt_new c = IsSpelt-outline c.args.form c.args.bytes.now _ _ _ _ _ c.in-Ok.ensures.found.1
    c.self.invariant.cells_are c.put.ensures

pub invariant_of-self : goal.invariant_of-self
invariant_of-self c =
    Keeps-seen _ _ _ _ (Keeps-outline c.args.form c.args.bytes.now _ _ _ _ _ c.in-Ok.ensures.found.1
    c.self.invariant.cells_are c.put.ensures)

pub returns-in-Ok-clause-found : goal.returns-in-Ok-clause-found
returns-in-Ok-clause-found c = spelt_new c

pub returns-in-Ok-clause-only_found : goal.returns-in-Ok-clause-only_found
returns-in-Ok-clause-only_found c = λ rs spelt.
    (refl, one_value c.args.form c.args.bytes.now _ rs (spelt_new c) spelt)

pub returns-in-Ok-clause-only_fault : goal.returns-in-Ok-clause-only_fault
returns-in-Ok-clause-only_fault c = λ f first.
    absurd (spelt_no_fault c.args.form c.args.bytes.now _ f (spelt_new c) first)

pub returns-in-Err-clause-only_found : goal.returns-in-Err-clause-only_found
returns-in-Err-clause-only_found c = λ rs spelt.
    absurd (spelt_no_fault c.args.form c.args.bytes.now rs _ spelt c.in-Err.ensures.fault)

pub returns-in-Err-clause-only_fault : goal.returns-in-Err-clause-only_fault
returns-in-Err-clause-only_fault c = λ f first.
    ap Err (one_fault c.args.form c.args.bytes.now c.in-Err.fault f c.in-Err.ensures.fault first)
