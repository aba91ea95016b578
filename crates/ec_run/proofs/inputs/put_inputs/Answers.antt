use Rattle.std.proofs.Common.{◌≡◌, ◌<◌, ◌≤◌, ◌+◌, ◌∙◌, ◌++◌, ℕ, List, ap, sym, arith, get_or, length, refl, take}
use Rattle.std.proofs.lemmas.Option.{get_or_from_slice_get}
use Rattle.ec_map.specs.Item.{ItemRecord}
use Rattle.ec_master.specs.Work.{no_item}
use Rattle.ec_run.specs.Inputs.{given_by, inputs_of}
use Rattle.ec_run.proofs.InputsLemmas.{inputs_more}
use Rattle.ec_run.proofs.inputs.put_inputs.Goals as goal

pub loop-k-preserved : goal.loop-k-preserved
loop-k-preserved c =
    let k : ℕ = c.loop-k.k in
    let work : List ItemRecord = c.args.work.now in
    let r : ItemRecord = c.item.result.now in
    let inside : k < length work = omega (arith, c.loop-k-test.true, c.len.ensures.count) in
    let here : get_or work k no_item ≡ r = get_or_from_slice_get work k _ no_item c.item.ensures in
    record {
      so_far = c.put_input.ensures.value
          ∙ ap (λ (bytes : List ℕ). bytes ++ given_by r) c.loop-k.invariant.so_far
          ∙ ap (λ (x : ItemRecord). inputs_of (take k work) ++ given_by x) (sym here)
          ∙ sym (inputs_more work k no_item inside);
      size = omega (arith, c.loop-k.invariant.size, c.put_input.ensures.size);
    }
