use Rattle.std.proofs.Common.{◌≡◌, ◌≢◌, ◌∙◌, sym, ap, refl, ℕ, true, false, List, get_or, eqb, arith}
use Rattle.std.specs.Prelude.{not}
use Rattle.std.proofs.lemmas.Bool.Decides.{nat_tests}
use Rattle.ec_regs.specs.Pairs.{pair_count}
use Rattle.ec_regs.specs.declared.fmmu.Fmmu.{Fmmu}
use Rattle.ec_areas.specs.Extent.{count_to_last, maps_some}
use Rattle.ec_areas.proofs.ExtentLemmas.{counted, passed_over, all_counted}
use Rattle.ec_areas.proofs.extent.mapped_count.Goals as goal
use Rattle.ec_areas.proofs.extent.mapped_count.Goals.{then-mapped_bits-ne0, else-mapped_bits-ne0}

pub loop-k-init : goal.loop-k-init
unfolding count_to_last
loop-k-init c = refl

-- an FMMU maps some bit where it maps not 0
maps_some-ne0 : (f : Fmmu) → pair_count f ≢ 0 → maps_some f ≡ true
maps_some-ne0 f some = let no : eqb (pair_count f) 0 ≡ false = grind (arith, nat_tests) in ap not no

maps_some-0 : (f : Fmmu) → pair_count f ≡ 0 → maps_some f ≡ false
maps_some-0 f none = ap (λ (n : ℕ). not (eqb n 0)) none

pub loop-k-preserved : goal.loop-k-preserved
loop-k-preserved c =
    let fmmus : List Fmmu = c.args.fmmus.now in
    let k = c.loop-k.k in
    let f : Fmmu = c.index-fmmus-k.result in
    let here : f ≡ get_or fmmus k f = c.index-fmmus-k.is in
    elim c.if-mapped_bits-ne0.branch [
      | then-mapped_bits-ne0 w ↦
          let some : maps_some (get_or fmmus k f) ≡ true =
          ap maps_some (sym here)
          ∙ maps_some-ne0 f (λ none. w.if-mapped_bits-ne0.true (c.mapped_bits.ensures.value ∙ none)) in
          w.count-is ∙ sym (counted maps_some fmmus k f c.loop-k-test.true some)
      | else-mapped_bits-ne0 w ↦
          let none : maps_some (get_or fmmus k f) ≡ false =
          ap maps_some (sym here)
          ∙ maps_some-0 f (sym c.mapped_bits.ensures.value ∙ w.if-mapped_bits-ne0.false) in
          w.count-is ∙ c.loop-k.invariant ∙ sym (passed_over maps_some fmmus k f c.loop-k-test.true none)
    ]

pub returns : goal.returns
returns c =
    c.loop-k.invariant ∙ all_counted maps_some c.args.fmmus.now c.loop-k.k (omega (arith, c.loop-k-test.false))
