-- What both tell is what each tells besides what was known before: nothing.
use Rattle.std.proofs.Common.{ap, ◌∙◌}
use Rattle.ec_diag.specs.Join.{with_heard}
use Rattle.rummymaple.proofs.cable.known.Goals as goal

pub returns : goal.returns
returns c = record {
  value =
      c.and_heard.ensures.value
      ∙ ap (λ x. with_heard c.args.slaves x c.args.b) c.and_heard-by_a.ensures.value;
  exact = λ links.
      let by_a = c.and_heard-by_a.ensures.exact links in
      let by_b = c.and_heard.ensures.exact links in
      (λ can. by_b.0 (by_a.0 (tt, can.0), can.1), λ tells. ((by_a.1 (by_b.1 tells).0).1, (by_b.1 tells).1));
}
