use Rattle.std.proofs.Common.{◌≡◌, ◌+◌, ◌*◌, ◌/◌, true, false, length, sym, ◌∙◌, arith}
use Rattle.ec_areas.specs.Areas.{is_writable}
use Rattle.ec_areas.proofs.WriteLemmas.{is_writable-lt}
use Rattle.ec_areas.proofs.ReachLemmas.{AllPass-byte, write_no_part, write_part, leave_part, names_no_part}
use Rattle.ec_areas.proofs.ReachLemmas.{names_part, names_skipped}
use Rattle.ec_areas.proofs.logical_write.write_cut_run.Goals as goal
use Rattle.ec_areas.proofs.logical_write.write_cut_run.Goals.{then-is_writable, else-is_writable}

pub loop-done-init : goal.loop-done-init
loop-done-init c =
    let run = c.args.run in
    let test = is_writable c.args.managers.now in
    record {
      within = omega arith;
      bits = write_no_part test c.args.memory.now c.args.payload.now run.physical run.at c.requires.bytes;
      served = sym (names_no_part test run.at run.physical (8 * length c.args.payload.now));
    }

pub copy_bits-requires-clause-at_inside : goal.copy_bits-requires-clause-at_inside
copy_bits-requires-clause-at_inside c =
    let byte = (c.args.run.physical + c.loop-done.done) / 8 in
    let writable : is_writable c.args.managers.now byte ≡ true = sym c.is_writable.ensures
    ∙ c.if-is_writable.true in
    omega (arith, is_writable-lt c.args.managers.now byte writable)

pub loop-done-preserved : goal.loop-done-preserved
loop-done-preserved c =
    let run = c.args.run in
    let test = is_writable c.args.managers.now in
    let memory = c.args.memory.now in
    let payload = c.args.payload.now in
    let bits = 8 * length payload in
    let done = c.loop-done.done in
    let more = c.min-bits.result in
    elim c.if-is_writable.branch [
      | then-is_writable w ↦
          let pass = AllPass-byte test true (run.physical + done) more (omega arith)
          (sym c.is_writable.ensures ∙ w.if-is_writable.true) in
          record {
            within = omega arith;
            bits = w.memory-is ∙ write_part test memory payload c.loop-done.memory w.copy_bits.new.self
                run.physical run.at done more c.loop-done.invariant.bits pass w.copy_bits.ensures.value;
            served = w.served-is ∙ sym (names_part test run.at run.physical done more bits (omega arith)
                (omega (arith, c.requires.run.data_inside)) pass);
          }
      | else-is_writable w ↦
          let pass = AllPass-byte test false (run.physical + done) more (omega arith)
          (sym c.is_writable.ensures ∙ w.if-is_writable.false) in
          record {
            within = omega arith;
            bits = w.memory-is ∙ leave_part test memory payload c.loop-done.memory run.physical run.at
                done more c.loop-done.invariant.bits pass;
            served = w.served-is ∙ c.loop-done.invariant.served
                ∙ sym (names_skipped test run.at run.physical done more bits pass);
          }
    ]
