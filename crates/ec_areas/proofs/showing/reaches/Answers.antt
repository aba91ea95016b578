use Rattle.std.proofs.Common.{◌+◌, ◌*◌, None, Some, sym, ◌∙◌}
use Rattle.ec_areas.specs.Met.{data_in}
use Rattle.ec_areas.specs.Showing.{written_number}
use Rattle.ec_areas.proofs.NamesLemmas.{names_same, names_nowhere}
use Rattle.ec_areas.proofs.ShowingLemmas.{written_number-run, written_number_not_for_writing}
use Rattle.ec_areas.proofs.showing.reaches.Goals as goal

pub returns-then-not-writes : goal.returns-then-not-writes
returns-then-not-writes c =
    let from = 8 * c.args.address in
    let bits = 8 * c.args.count in
    let f = c.args.fmmu.now in
    let byte = c.args.byte in
    sym (names_nowhere (λ b. written_number from bits f (8 * byte + b)) 8
    (λ b _. written_number_not_for_writing from bits f (8 * byte + b) (sym c.writes.ensures
    ∙ c.if-not-writes.true)))

pub returns-in-Some : goal.returns-in-Some
returns-in-Some c =
    let from = 8 * c.args.address in
    let bits = 8 * c.args.count in
    let f = c.args.fmmu.now in
    let byte = c.args.byte in
    c.has_bit_in.ensures
    ∙ names_same (λ b. data_in (Some c.in-Some.run') (8 * byte + b)) (λ b. written_number from bits f
    (8 * byte + b)) 8
    (λ b _. written_number-run (Some c.in-Some.run') from bits f (8 * byte + b) (sym c.writes.ensures
    ∙ c.if-not-writes.false) (c.in-Some.ensures.data (8 * byte + b)))

pub returns-in-None : goal.returns-in-None
returns-in-None c =
    let from = 8 * c.args.address in
    let bits = 8 * c.args.count in
    let f = c.args.fmmu.now in
    let byte = c.args.byte in
    sym (names_nowhere (λ b. written_number from bits f (8 * byte + b)) 8
    (λ b _. sym (written_number-run None from bits f (8 * byte + b) (sym c.writes.ensures
    ∙ c.if-not-writes.false) (c.in-None.ensures.data (8 * byte + b)))))
