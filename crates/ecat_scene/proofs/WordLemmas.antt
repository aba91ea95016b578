-- The words among the parts of a line, one part more at a time.
use Rattle.std.proofs.Common.{◌≡◌, ℕ, ◌++◌, Bool, true, false, not, cond, eqb, ltb, List, [], ◌∷◌, map}
use Rattle.std.proofs.Common.{filter}
use Rattle.std.proofs.Common.{length, sym, ap, ◌∙◌, arith}
use Rattle.std.proofs.lemmas.Bool.Decides.{nat_tests}
use Rattle.std.proofs.lemmas.List.{map-append, append-nil}
use Rattle.std.proofs.lemmas.List.Elements.{filter-append}
use Rattle.std.proofs.Common.{◌<◌, get_or, Option, None, Some}
use Rattle.std.proofs.lemmas.Iterator.Consumers.{YieldsList-end, YieldsList-turn}
use Rattle.std.proofs.lemmas.Iterator.Splits.{YieldsList-from_slice_split}
use Rattle.std.specs.Iterator.{Yields}
use Rattle.std.specs.Fn.{CalledAt}
use Rattle.std.specs.List.{slice_split}
use Rattle.std.specs.declared.slice.Split.{Split}
use Rattle.std.specs.Slice.Iter.{split_rest, split_done, split_callee, split_steps}
use denote.Param.Members.{Mut}
use denote.Ref.{Bor}
use Rattle.ecat_scene.specs.Text.{has_bytes, is_space}

some_or_none : (n : ℕ) → ltb 0 n ≡ not (eqb n 0)
some_or_none n = grind (arith, nat_tests)

module _ {A : Type 0} (v : A → List ℕ) (kept all : List A) (w : A)
    (h : map v kept ≡ filter has_bytes (map v all)) where
  parted : filter has_bytes (map v (all ++ w ∷ [])) ≡ map v kept ++ cond (has_bytes (v w)) (v w ∷ []) []
  parted =
      ap (filter has_bytes) (map-append v all (w ∷ []))
      ∙ filter-append has_bytes (map v all) (v w ∷ []) ∙ ap (λ r. r ++ cond (has_bytes (v w)) (v w ∷ []) []) (sym h)

  -- one that is no word
  pub one_left_out : eqb (length (v w)) 0 ≡ true → map v kept ≡ filter has_bytes (map v (all ++ w ∷ []))
  one_left_out empty =
      sym (parted ∙ ap (λ b. map v kept ++ cond b (v w ∷ []) []) (some_or_none (length (v w)) ∙ ap not empty)
      ∙ append-nil (map v kept))

  -- one word more
  pub one_more : eqb (length (v w)) 0 ≡ false
      → map v (kept ++ w ∷ []) ≡ filter has_bytes (map v (all ++ w ∷ []))
  one_more some =
      map-append v kept (w ∷ [])
      ∙ sym (parted ∙ ap (λ b. map v kept ++ cond b (v w ∷ []) []) (some_or_none (length (v w)) ∙ ap not some))

-- what a loop over the parts of a line was given, once there is no part more
pub all_parts : {F : Type 0} (s t : Split ℕ F) (g : Mut F (Bor ℕ × Unit {0}) Bool) (f : F) (line : List ℕ)
    (parts : List (Bor (List ℕ))) → Yields (split_steps g) s parts t
    → (r : Option (Bor (List ℕ))) (u : Split ℕ F) → r ≡ None → split_steps g t r u
    → split_rest s ≡ line → split_done s ≡ false → split_callee s ≡ f
    → ((x : ℕ) (b : Bool) (q : F) → CalledAt g f x b q → (q ≡ f) × (b ≡ is_space x))
    → map (λ part. part.now) parts ≡ slice_split is_space line
all_parts s t g f line parts yielded r u none ends rest more callee calls =
    (YieldsList-end (YieldsList-from_slice_split g is_space line rest more callee calls)
    parts t yielded r u none ends).0

-- in a loop over the parts of a text: which part this one is, and at the end that each was given
module _ {F : Type 0} (s t : Split ℕ F) (g : Mut F (Bor ℕ × Unit {0}) Bool) (f : F) (p : ℕ → Bool)
    (text : List ℕ) (rest : split_rest s ≡ text) (more : split_done s ≡ false) (callee : split_callee s ≡ f)
    (calls : (x : ℕ) (b : Bool) (q : F) → CalledAt g f x b q → (q ≡ f) × (b ≡ p x))
    (parts : List (Bor (List ℕ))) (yielded : Yields (split_steps g) s parts t)
    (r : Option (Bor (List ℕ))) (u : Split ℕ F) (step : split_steps g t r u) where
  pub part_at : (x : Bor (List ℕ)) → r ≡ Some x
      → (length parts < length (slice_split p text))
      × (x.now ≡ get_or (slice_split p text) (length parts) x.now)
  part_at x is =
      YieldsList-turn (YieldsList-from_slice_split g p text rest more callee calls)
      parts t yielded r u x is step

  pub no_part_left : r ≡ None → length parts ≡ length (slice_split p text)
  no_part_left is =
      (YieldsList-end (YieldsList-from_slice_split g p text rest more callee calls)
      parts t yielded r u is step).1
