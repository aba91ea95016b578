use Rattle.std.proofs.Common.{◌≡◌, ◌%◌, eqb, ap, ◌∙◌}
use Rattle.std.specs.Prelude.{bit_and}
use Rattle.std.specs.Option.{unwrap_or}
use Rattle.std.proofs.lemmas.Nat.{and_mask}
use Rattle.ec_regs.specs.Al.{state_of}
use Rattle.ec_regs.specs.declared.al.AlState.TheVariants.{Init}
use Rattle.ec_regs.proofs.RecordLemmas.{has_flag}
use Rattle.ec_regs.proofs.al.AlStatus.of_byte.Goals as goal

pub returns : goal.returns
returns c =
    let byte = c.args.byte in
    let state : c.unwrap_or.result ≡ unwrap_or (state_of (byte % 16)) Init =
    c.unwrap_or.ensures ∙ ap (λ o. unwrap_or o Init) (c.from_code.ensures ∙ ap state_of (and_mask byte 4)) in
    let error = c.contains.ensures tt ∙ ap (λ n. eqb (bit_and n 16) 16) (c.from_bits_retain.ensures tt)
    ∙ has_flag byte 4 in
    cc
