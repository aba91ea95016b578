-- What the members of a set, in whatever order, make of the bits that were sent: each of them claims some
-- bits for values of its own, and all other bits are as sent.
use Rattle.std.specs.Prelude.{◌≡◌, ℕ, Option, None, Some, List}
use Rattle.std.specs.List.{AllByRecursion}

-- a bit has the value that is claimed for it, if one is
abbrev pub Meets : ℕ → Option ℕ → Type 0
Meets value None = Unit {0}
Meets value (Some claimed) = value ≡ claimed

-- the members answer the sent bits with these ones: every claim stands, and what nobody claims is as sent
pub record Answers {S : Type 0} (claim : S → ℕ → Option ℕ) (xs : List S) (sent got : ℕ → ℕ) : Type 0 where
  pub claimed : (i : ℕ) → AllByRecursion (λ x. Meets (got i) (claim x i)) xs
  pub rest : (i : ℕ) → AllByRecursion (λ x. claim x i ≡ None) xs → got i ≡ sent i

-- two members do not claim one bit for two values
abbrev pub Agree : {S : Type 0} → (S → ℕ → Option ℕ) → S → S → Type 0
Agree claim x y = (i v w : ℕ) → claim x i ≡ Some v → claim y i ≡ Some w → v ≡ w

-- each of some agrees with each of others
abbrev pub AllAgree : {S : Type 0} → (S → ℕ → Option ℕ) → List S → List S → Type 0
AllAgree claim xs ys = AllByRecursion (λ x. AllByRecursion (λ y. Agree claim x y) ys) xs
