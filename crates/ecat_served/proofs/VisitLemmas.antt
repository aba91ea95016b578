-- Visits of the slaves of a line from the lines that two copies met: the line before, as copy A met it, as
-- copy B did, and behind both.
use Rattle.std.specs.Prelude.{◌≡◌, ◌⊎◌, List, [], ◌∷◌, length}
use Rattle.std.proofs.Common.{arith, ap, inl, inr, refl}
use Rattle.ec_esc.specs.State.{ControllerState}
use Rattle.ec_line.specs.Moving.{Visit, AllMove, befores, when_a, when_b, laters}
use Rattle.ecat_served.specs.History.{AllHaveMoved}

pub visits : List ControllerState → List ControllerState → List ControllerState → List ControllerState
    → List Visit
visits (x ∷ xs) (y ∷ ys) (z ∷ zs) (u ∷ us) =
    record { before = x; at_a = y; at_b = z; later = u } ∷ visits xs ys zs us
visits _ _ _ _ = []

-- a line of which copy A left this one and copy B that one, in the order in which they went
pub record Between (line met_a left_a met_b left_b later : List ControllerState) : Type 0 where
  pub size_a : length left_a ≡ length met_a
  pub size_b : length left_b ≡ length met_b
  pub moved : (AllHaveMoved line met_a × AllHaveMoved left_a met_b × AllHaveMoved left_b later)
      ⊎ (AllHaveMoved line met_b × AllHaveMoved left_b met_a × AllHaveMoved left_a later)

-- visits that are of those lines
pub record AreVisits (vs : List Visit) (line met_a left_a met_b left_b later : List ControllerState)
    : Type 0 where
  pub before : befores vs ≡ line
  pub at_a : when_a vs ≡ met_a
  pub at_b : when_b vs ≡ met_b
  pub left : laters vs ≡ later
  pub moves : AllMove vs left_a left_b

first_a : (xs ys la zs lb us : List ControllerState) → length la ≡ length ys → length lb ≡ length zs
    → AllHaveMoved xs ys → AllHaveMoved la zs → AllHaveMoved lb us
    → AreVisits (visits xs ys zs us) xs ys la zs lb us
unfolding visits
first_a [] [] [] [] [] [] sa sb one two three =
    record { before = refl; at_a = refl; at_b = refl; left = refl; moves = tt }
first_a [] [] [] [] [] (u ∷ us) sa sb one two three = absurd three
first_a [] [] [] [] (l ∷ lb) us sa sb one two three = absurd (omega (arith, sb))
first_a [] [] [] (z ∷ zs) lb us sa sb one two three = absurd two
first_a [] [] (k ∷ la) zs lb us sa sb one two three = absurd (omega (arith, sa))
first_a [] (y ∷ ys) la zs lb us sa sb one two three = absurd one
first_a (x ∷ xs) [] la zs lb us sa sb one two three = absurd one
first_a (x ∷ xs) (y ∷ ys) [] zs lb us sa sb one two three = absurd (omega (arith, sa))
first_a (x ∷ xs) (y ∷ ys) (k ∷ la) [] lb us sa sb one two three = absurd two
first_a (x ∷ xs) (y ∷ ys) (k ∷ la) (z ∷ zs) [] us sa sb one two three = absurd (omega (arith, sb))
first_a (x ∷ xs) (y ∷ ys) (k ∷ la) (z ∷ zs) (l ∷ lb) [] sa sb one two three = absurd three
first_a (x ∷ xs) (y ∷ ys) (k ∷ la) (z ∷ zs) (l ∷ lb) (u ∷ us) sa sb one two three =
    let rest = first_a xs ys la zs lb us (omega (arith, sa)) (omega (arith, sb)) one.1 two.1 three.1 in
    record {
      before = ap (λ (c : List ControllerState). x ∷ c) rest.before;
      at_a = ap (λ (c : List ControllerState). y ∷ c) rest.at_a;
      at_b = ap (λ (c : List ControllerState). z ∷ c) rest.at_b;
      left = ap (λ (c : List ControllerState). u ∷ c) rest.left;
      moves = (inl (one.0, two.0, three.0), rest.moves);
    }

first_b : (xs ys la zs lb us : List ControllerState) → length la ≡ length ys → length lb ≡ length zs
    → AllHaveMoved xs zs → AllHaveMoved lb ys → AllHaveMoved la us
    → AreVisits (visits xs ys zs us) xs ys la zs lb us
unfolding visits
first_b [] [] [] [] [] [] sa sb one two three =
    record { before = refl; at_a = refl; at_b = refl; left = refl; moves = tt }
first_b [] [] [] [] [] (u ∷ us) sa sb one two three = absurd three
first_b [] [] [] [] (l ∷ lb) us sa sb one two three = absurd (omega (arith, sb))
first_b [] [] [] (z ∷ zs) lb us sa sb one two three = absurd one
first_b [] [] (k ∷ la) zs lb us sa sb one two three = absurd (omega (arith, sa))
first_b [] (y ∷ ys) la [] [] us sa sb one two three = absurd two
first_b [] (y ∷ ys) la [] (l ∷ lb) us sa sb one two three = absurd (omega (arith, sb))
first_b [] (y ∷ ys) la (z ∷ zs) lb us sa sb one two three = absurd one
first_b (x ∷ xs) ys la [] lb us sa sb one two three = absurd one
first_b (x ∷ xs) ys la (z ∷ zs) [] us sa sb one two three = absurd (omega (arith, sb))
first_b (x ∷ xs) [] la (z ∷ zs) (l ∷ lb) us sa sb one two three = absurd two
first_b (x ∷ xs) (y ∷ ys) [] (z ∷ zs) (l ∷ lb) us sa sb one two three = absurd (omega (arith, sa))
first_b (x ∷ xs) (y ∷ ys) (k ∷ la) (z ∷ zs) (l ∷ lb) [] sa sb one two three = absurd three
first_b (x ∷ xs) (y ∷ ys) (k ∷ la) (z ∷ zs) (l ∷ lb) (u ∷ us) sa sb one two three =
    let rest = first_b xs ys la zs lb us (omega (arith, sa)) (omega (arith, sb)) one.1 two.1 three.1 in
    record {
      before = ap (λ (c : List ControllerState). x ∷ c) rest.before;
      at_a = ap (λ (c : List ControllerState). y ∷ c) rest.at_a;
      at_b = ap (λ (c : List ControllerState). z ∷ c) rest.at_b;
      left = ap (λ (c : List ControllerState). u ∷ c) rest.left;
      moves = (inr (one.0, two.0, three.0), rest.moves);
    }

pub visits_are : (line met_a left_a met_b left_b later : List ControllerState)
    → Between line met_a left_a met_b left_b later
    → AreVisits (visits line met_a met_b later) line met_a left_a met_b left_b later
visits_are line met_a left_a met_b left_b later b =
    elim b.moved [
      | inl m ↦ first_a line met_a left_a met_b left_b later b.size_a b.size_b m.0 m.1 m.2
      | inr m ↦ first_b line met_a left_a met_b left_b later b.size_a b.size_b m.0 m.1 m.2
    ]
