use Rattle.std.proofs.Common.{◌++◌, ap, codes, drop, sym, ◌∙◌}
use Rattle.std.specs.Fmt.{decimal}
use Rattle.std.proofs.lemmas.List.{append_assoc}
use Rattle.ecat_list.specs.Cut.{number_words}
use Rattle.ecat_list.proofs.cut_packets.lead_number.Goals as goal

pub returns-clause-written : goal.returns-clause-written
unfolding number_words
returns-clause-written c =
    let number = decimal c.args.count in
    let row = c.args.row.now in
    c.lead_decimal.ensures.written ∙ ap (λ xs. number ++ xs) c.lead_bytes.ensures.written
    ∙ sym (append_assoc number (codes "; no counter behind that is known\n") (drop row.from row.bytes))
