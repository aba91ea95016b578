use Rattle.std.proofs.Common.{◌≡◌, ◌+◌, ◌*◌, ◌<◌, ◌||◌, ℕ, Bool, length, drop, refl, sym, ◌∙◌, ap, subst}
use Rattle.std.proofs.Common.{arith}
use Rattle.ec_regs.proofs.Laws.{AreBytes-with_bits}
use Rattle.std.proofs.Math.Bool.{or-false, or-true}
use Rattle.ec_areas.specs.Logical.{read_places, names}
use Rattle.ec_areas.proofs.LogicalLemmas.{read_map_more, read_map_done, names_more_fmmu, names_no_fmmu}
use Rattle.ec_areas.proofs.LogicalLemmas.{NamesPairs-read_map}
use Rattle.ec_areas.proofs.logical.read_mapped.Goals as goal
use Rattle.ec_areas.proofs.logical.read_mapped.Goals.{then-read_through, else-read_through}

pub loop-fmmu-init : goal.loop-fmmu-init
loop-fmmu-init c = record { bytes = λ k. omega (arith, c.type_inv.into k); bits = refl; served = refl }

pub loop-fmmu-preserved : goal.loop-fmmu-preserved
loop-fmmu-preserved c =
    let managers = c.args.managers.now in
    let fmmus = c.args.fmmus.now in
    let memory = c.args.memory.now in
    let from = 8 * c.args.address in
    let bits = 8 * length c.args.into.now in
    let k = c.loop-fmmu.fmmu-index in
    let inside : k < length fmmus = c.loop-fmmu-test.true in
    let same : 8 * length c.loop-fmmu.into ≡ bits = ap (λ n. 8 * n) c.loop-fmmu.auto.into in
    let here : Bool = c.read_through.result in
    let behind : Bool = names (read_places managers (drop (k + 1) fmmus) from) bits in
    let P : ℕ → Type 0 = λ n. names (read_places managers (drop k fmmus) from) n
    ≡ (here || names (read_places managers (drop (k + 1) fmmus) from) n) in
    let more : P bits =
    subst P same
    (names_more_fmmu managers fmmus k from (8 * length c.loop-fmmu.into) c.fmmu-item.result inside
    c.fmmu-item.is
    ∙ ap (λ b. b || names (read_places managers (drop (k + 1) fmmus) from) (8 * length c.loop-fmmu.into))
    (sym c.read_through.ensures.served))
    in record {
      bytes = λ j. rw c.read_through.ensures.bits (AreBytes-with_bits c.loop-fmmu.into memory _ j);
      bits = read_map_more managers fmmus k from c.fmmu-item.result c.loop-fmmu.into memory
          c.read_through.new.into inside c.fmmu-item.is c.read_through.ensures.bits
          ∙ c.loop-fmmu.invariant.bits;
      served = elim c.if-read_through.branch [
        | then-read_through w ↦
            ap (λ b. b || behind) w.served-is ∙ sym (or-true c.loop-fmmu.served)
            ∙ ap (λ b. c.loop-fmmu.served || b) (sym (more ∙ ap (λ b. b || behind) w.if-read_through.true))
            ∙ c.loop-fmmu.invariant.served
        | else-read_through w ↦
            ap (λ b. b || behind) w.served-is
            ∙ ap (λ b. c.loop-fmmu.served || b) (sym (more ∙ ap (λ b. b || behind) w.if-read_through.false))
            ∙ c.loop-fmmu.invariant.served
      ];
    }

pub returns-clause-bits : goal.returns-clause-bits
returns-clause-bits c =
    sym (read_map_done c.args.managers.now c.args.fmmus.now c.loop-fmmu.fmmu-index
    (8 * c.args.address) c.loop-fmmu.into c.args.memory.now
    c.loop-fmmu-test.false c.loop-fmmu.invariant.bytes)
    ∙ c.loop-fmmu.invariant.bits

pub returns-clause-served : goal.returns-clause-served
returns-clause-served c =
    sym (ap (λ b. c.loop-fmmu.served || b) (names_no_fmmu c.args.managers.now c.args.fmmus.now
    c.loop-fmmu.fmmu-index (8 * c.args.address) (8 * length c.args.into.now) c.loop-fmmu-test.false)
    ∙ or-false c.loop-fmmu.served)
    ∙ c.loop-fmmu.invariant.served

pub returns-clause-pair : goal.returns-clause-pair
returns-clause-pair c = NamesPairs-read_map c.args.managers.now c.args.fmmus.now
