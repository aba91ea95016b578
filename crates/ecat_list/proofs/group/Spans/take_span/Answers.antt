use Rattle.std.proofs.Common.{max, min, ap, sym, ◌∙◌}
use Rattle.ecat_frames.proofs.Laws.{count_more, greatest_push, least_push}
use Rattle.ecat_list.proofs.group.Spans.take_span.Goals as goal

pub returns : goal.returns
returns c = λ all h.
    let n = c.args.span in
    record {
      count = c.saturating_add-self.ensures ∙ count_more all n c.args.self.now.count h.count;
      least = c.min-self.ensures ∙ ap (λ m. min m n) h.least ∙ sym (least_push _ all n);
      greatest = c.max-self.ensures ∙ ap (λ m. max m n) h.greatest ∙ sym (greatest_push _ all n);
      histogram = c.take.ensures all h.histogram;
    }
