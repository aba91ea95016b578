use Rattle.std.proofs.Common.{◌≡◌, ◌+◌, ◌*◌, ◌<◌, ◌||◌, Bool, length, drop, sym, ◌∙◌, ap}
use Rattle.ec_regs.proofs.Laws.{AreBytes-with_bits}
use Rattle.std.proofs.Math.Bool.{or-false, or-true}
use Rattle.ec_areas.specs.Logical.{target_places, names}
use Rattle.ec_areas.proofs.WriteLemmas.{write_map_more, write_map_done, names_more_target, names_no_target}
use Rattle.ec_areas.proofs.WriteLemmas.{NamesPairs-target_map, NamesPairs-write_map}
use Rattle.ec_areas.proofs.logical_write.write_mapped.Goals as goal
use Rattle.ec_areas.proofs.logical_write.write_mapped.Goals.{then-write_through, else-write_through}

pub loop-fmmu-preserved : goal.loop-fmmu-preserved
loop-fmmu-preserved c =
    let managers = c.args.managers.now in
    let fmmus = c.args.fmmus.now in
    let payload = c.args.payload.now in
    let from = 8 * c.args.address in
    let bits = 8 * length payload in
    let k = c.loop-fmmu.fmmu-index in
    let f = c.fmmu-item.result in
    let inside : k < length fmmus = c.loop-fmmu-test.true in
    let here : Bool = c.write_through.result in
    let behind : Bool = names (target_places managers (drop (k + 1) fmmus) from) bits in
    let more : names (target_places managers (drop k fmmus) from) bits ≡ (here || behind) =
    names_more_target managers fmmus k from bits f inside c.fmmu-item.is
    ∙ ap (λ b. b || behind) (sym c.write_through.ensures.served)
    in record {
      bytes = λ j. rw c.write_through.ensures.bits (AreBytes-with_bits c.loop-fmmu.memory payload _ j);
      bits =
          write_map_more managers fmmus k from bits f c.loop-fmmu.memory payload
          c.write_through.new.memory inside c.fmmu-item.is c.write_through.ensures.bits
          ∙ c.loop-fmmu.invariant.bits;
      served = elim c.if-write_through.branch [
        | then-write_through w ↦
            ap (λ b. b || behind) w.served-is ∙ sym (or-true c.loop-fmmu.served)
            ∙ ap (λ b. c.loop-fmmu.served || b) (sym (more ∙ ap (λ b. b || behind) w.if-write_through.true))
            ∙ c.loop-fmmu.invariant.served
        | else-write_through w ↦
            ap (λ b. b || behind) w.served-is
            ∙ ap (λ b. c.loop-fmmu.served || b) (sym (more ∙ ap (λ b. b || behind) w.if-write_through.false))
            ∙ c.loop-fmmu.invariant.served
      ];
    }

pub returns-clause-bits : goal.returns-clause-bits
returns-clause-bits c =
    sym (write_map_done c.args.managers.now c.args.fmmus.now c.loop-fmmu.fmmu-index (8 * c.args.address)
    (8 * length c.args.payload.now) c.loop-fmmu.memory c.args.payload.now
    c.loop-fmmu-test.false c.loop-fmmu.invariant.bytes)
    ∙ c.loop-fmmu.invariant.bits

pub returns-clause-served : goal.returns-clause-served
returns-clause-served c =
    sym (ap (λ b. c.loop-fmmu.served || b) (names_no_target c.args.managers.now c.args.fmmus.now
    c.loop-fmmu.fmmu-index (8 * c.args.address) (8 * length c.args.payload.now) c.loop-fmmu-test.false)
    ∙ or-false c.loop-fmmu.served)
    ∙ c.loop-fmmu.invariant.served

pub returns-clause-target : goal.returns-clause-target
returns-clause-target c = NamesPairs-target_map c.args.managers.now c.args.fmmus.now

pub returns-clause-source : goal.returns-clause-source
returns-clause-source c = NamesPairs-write_map c.args.managers.now c.args.fmmus.now (8 * c.args.address)
    (8 * length c.args.payload.now)
