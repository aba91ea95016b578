use Rattle.std.proofs.Common.{◌≡◌, ◌+◌, ◌*◌, ◌/◌, true, false, length, sym, ◌∙◌, arith}
use Rattle.ec_areas.specs.Areas.{is_readable}
use Rattle.ec_areas.proofs.LogicalLemmas.{is_readable-lt}
use Rattle.ec_areas.proofs.ReachLemmas.{AllPass-byte, read_no_part, read_part, skip_part, names_no_part}
use Rattle.ec_areas.proofs.ReachLemmas.{names_part, names_skipped}
use Rattle.ec_areas.proofs.logical.read_cut_run.Goals as goal
use Rattle.ec_areas.proofs.logical.read_cut_run.Goals.{then-is_readable, else-is_readable}

pub loop-done-init : goal.loop-done-init
loop-done-init c =
    let run = c.args.run in
    let test = is_readable c.args.managers.now in
    record {
      within = omega arith;
      bits = read_no_part test c.args.into.now c.args.memory.now run.at run.physical (λ k. omega
          (arith, c.type_inv.into k));
      served = sym (names_no_part test run.at run.physical (8 * length c.args.into.now));
    }

pub copy_bits-requires-clause-source_inside : goal.copy_bits-requires-clause-source_inside
copy_bits-requires-clause-source_inside c =
    let byte = (c.args.run.physical + c.loop-done.done) / 8 in
    let readable : is_readable c.args.managers.now byte ≡ true = sym c.is_readable.ensures
    ∙ c.if-is_readable.true in
    omega (arith, is_readable-lt c.args.managers.now byte readable, c.requires.size)

pub loop-done-preserved : goal.loop-done-preserved
loop-done-preserved c =
    let run = c.args.run in
    let test = is_readable c.args.managers.now in
    let into = c.args.into.now in
    let memory = c.args.memory.now in
    let bits = 8 * length into in
    let done = c.loop-done.done in
    let more = c.min-bits.result in
    elim c.if-is_readable.branch [
      | then-is_readable w ↦
          let pass = AllPass-byte test true (run.physical + done) more (omega arith)
          (sym c.is_readable.ensures ∙ w.if-is_readable.true) in
          record {
            within = omega arith;
            bits = w.into-is ∙ read_part test into memory c.loop-done.into w.copy_bits.new.into run.at
                run.physical done more c.loop-done.invariant.bits pass w.copy_bits.ensures;
            served = w.served-is ∙ sym (names_part test run.at run.physical done more bits (omega arith)
                (omega (arith, c.requires.run.data_inside)) pass);
          }
      | else-is_readable w ↦
          let pass = AllPass-byte test false (run.physical + done) more (omega arith)
          (sym c.is_readable.ensures ∙ w.if-is_readable.false) in
          record {
            within = omega arith;
            bits = w.into-is ∙ skip_part test into memory c.loop-done.into run.at run.physical done more
                c.loop-done.invariant.bits pass;
            served = w.served-is ∙ c.loop-done.invariant.served
                ∙ sym (names_skipped test run.at run.physical done more bits pass);
          }
    ]
