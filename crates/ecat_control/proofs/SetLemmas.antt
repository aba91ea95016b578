-- Changes of outputs, one after the other.
use Rattle.std.proofs.Common.{◌≡◌, ◌≤◌, ◌+◌, ◌∙◌, ◌∷◌, ◌++◌, ◌||◌, ℕ, Bool, true, false, List, [], Result, Ok, Err}
use Rattle.std.proofs.Common.{ap, arith, length-append, refl, subst, sym}
use Rattle.ecat_control.specs.Changes.{Made, changed, changed_by, go_on}
use Rattle.ecat_control.specs.Set.{AreSet, BecomeBy}
use Rattle.ecat_control.specs.declared.change.Place.{Place}
use Rattle.ecat_control.specs.declared.held.Outputs.{Outputs}
use Rattle.ecat_control.specs.declared.held.Span.{Span}
use Rattle.ecat_control.specs.declared.refusal.Fault.{Fault}

-- one change
pub set_once : (before later : Outputs) (bytes : List ℕ) (places : List Place)
    → changed before.spans.items bytes places before.bytes.items ≡ Ok later.bytes.items → AreSet 1 before later
unfolding changed_by
set_once before later bytes places done = record {
  changes = record { bytes = bytes; places = places } ∷ [];
  fewer = omega arith;
  made = ap (λ (r : Result (List ℕ) Fault). go_on (λ outputs. changed_by before.spans.items [] outputs) r) done;
}

-- some changes and then others
both : (spans : List Span) (first second : List Made) (outputs : List ℕ)
    → changed_by spans (first ++ second) outputs
    ≡ go_on (λ later. changed_by spans second later) (changed_by spans first outputs)
unfolding changed_by
both spans [] second outputs = refl
both spans (m ∷ rest) second outputs =
    go (λ later. both spans rest second later) (changed spans m.bytes m.places outputs)
  where
    go : ((later : List ℕ) → changed_by spans (rest ++ second) later
        ≡ go_on (λ last. changed_by spans second last) (changed_by spans rest later))
        → (r : Result (List ℕ) Fault) → go_on (λ later. changed_by spans (rest ++ second) later) r
        ≡ go_on (λ later. changed_by spans second later) (go_on (λ later. changed_by spans rest later) r)
    go each (Ok between) = each between
    go each (Err fault) = refl

-- more of them, behind some
set_more : (n m : ℕ) (before between later : Outputs) → between.spans ≡ before.spans
    → AreSet n before between → AreSet m between later → AreSet (n + m) before later
set_more n m before between later same one other = record {
  changes = one.changes ++ other.changes;
  fewer = omega (arith, length-append one.changes other.changes, one.fewer, other.fewer);
  made = both before.spans.items one.changes other.changes before.bytes.items
      ∙ ap (λ (r : Result (List ℕ) Fault). go_on (λ outputs. changed_by before.spans.items other.changes outputs) r)
      one.made
      ∙ subst (λ s. changed_by s.items other.changes between.bytes.items ≡ Ok later.bytes.items) same other.made;
}

-- fewer than so many
pub set_fewer : (n m : ℕ) (before later : Outputs) (are_others : Bool) → n ≤ m
    → BecomeBy n before are_others later → BecomeBy m before are_others later
set_fewer n m before later true within set = record {
  changes = set.changes;
  fewer = omega (arith, set.fewer, within);
  made = set.made;
}
set_fewer n m before later false within same = same

-- outputs that became others at one of two steps, or stay
pub become_more : (n : ℕ) (before between later : Outputs) (first second : Bool)
    → between.spans ≡ before.spans → BecomeBy n before first between → BecomeBy 1 between second later
    → BecomeBy (n + 1) before (first || second) later
become_more n before between later true true same one other = set_more n 1 before between later same one other
become_more n before between later true false same one other = record {
  changes = one.changes;
  fewer = omega (arith, one.fewer);
  made = one.made ∙ ap (λ (xs : List ℕ). Ok xs) (sym other);
}
become_more n before between later false true same one other = record {
  changes = other.changes;
  fewer = omega (arith, other.fewer);
  made = subst (λ (xs : List ℕ). changed_by before.spans.items other.changes xs ≡ Ok later.bytes.items) one
      (subst (λ s. changed_by s.items other.changes between.bytes.items ≡ Ok later.bytes.items) same other.made);
}
become_more n before between later false false same one other = other ∙ one
