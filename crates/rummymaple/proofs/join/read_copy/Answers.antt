-- The sent frame stands for a copy that is lost.
use Rattle.std.proofs.Common.{rules, sym, ◌∙◌, length}
use Rattle.std.proofs.lemmas.Bool.{eqb-true}
use Rattle.std.proofs.lemmas.List.{nil_from_length}
use Rattle.rummymaple.proofs.join.read_copy.Goals as goal

pub returns-then-is_empty : goal.returns-then-is_empty
returns-then-is_empty c frame spelt = (
  nil_from_length c.args.packet.now
      (eqb-true (length c.args.packet.now) 0 (sym c.is_empty.ensures ∙ c.if-is_empty.true)),
  c.stand_in.ensures frame spelt,
)

pub returns-in-Err : goal.returns-in-Err
returns-in-Err c frame spelt = (search rules, search rules, c.stand_in-in-Err.ensures frame spelt)
