use Rattle.std.proofs.Common.{◌≡◌, ◌<◌, ◌+◌, ◌∙◌, ◌++◌, ◌∷◌, [], ℕ, List, ap, arith, get_or, length, length-append, sym, take}
use Rattle.std.proofs.lemmas.Option.{get_or_from_slice_get}
use Rattle.ec_map.specs.Item.{ItemRecord}
use Rattle.ec_master.specs.Work.{no_item}
use Rattle.ecat_control.specs.Changes.{outputs_in, outputs_of, span_of, spans_in}
use Rattle.ecat_control.specs.declared.held.Span.{Span}
use Rattle.ecat_control.proofs.ChangeLemmas.{outputs_more, spans_more}
use Rattle.ecat_control.proofs.held.Outputs.of.Goals as goal

pub loop-k-init : goal.loop-k-init
unfolding spans_in
loop-k-init c = record {
  spans = c.new-spans.ensures;
  bytes = c.new-bytes.ensures.items;
  count = ap (λ (xs : List Span). length xs) c.new-spans.ensures;
}

pub loop-k-preserved : goal.loop-k-preserved
loop-k-preserved c =
    let k : ℕ = c.loop-k.k in
    let work : List ItemRecord = c.args.work.now in
    let r : ItemRecord = c.item.result.now in
    let inside : k < length work = omega (arith, c.loop-k-test.true, c.min-k-end.ensures, c.len.ensures.count) in
    let here : get_or work k no_item ≡ r = get_or_from_slice_get work k _ no_item c.item.ensures in
    let put : c.put_item.new.spans.items ≡ c.loop-k.spans.items ++ span_of (length c.loop-k.bytes.items) r ∷ []
    = c.put_item.ensures.spans in
    record {
      spans = put
          ∙ ap (λ (xs : List Span). xs ++ span_of (length c.loop-k.bytes.items) r ∷ []) c.loop-k.invariant.spans
          ∙ ap (λ (bs : List ℕ). spans_in 0 (take k work) ++ span_of (length bs) r ∷ []) c.loop-k.invariant.bytes
          ∙ ap (λ (x : ItemRecord). spans_in 0 (take k work) ++ span_of (length (outputs_in (take k work))) x ∷ [])
          (sym here)
          ∙ sym (spans_more work k no_item inside);
      bytes = c.in_ok-put_item.ensures.bytes
          ∙ ap (λ (bs : List ℕ). bs ++ outputs_of r) c.loop-k.invariant.bytes
          ∙ ap (λ (x : ItemRecord). outputs_in (take k work) ++ outputs_of x) (sym here)
          ∙ sym (outputs_more work k no_item inside);
      count = ap (λ (xs : List Span). length xs) put
          ∙ length-append c.loop-k.spans.items (span_of (length c.loop-k.bytes.items) r ∷ [])
          ∙ ap (λ (n : ℕ). n + 1) c.loop-k.invariant.count;
    }
