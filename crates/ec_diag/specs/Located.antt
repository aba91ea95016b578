-- What several copies of frames tell of the links of a line of n slaves.
use Rattle.std.specs.Prelude.{ℕ, ◌+◌, ◌<◌, nat_lt, ◌==◌, if◌then◌else◌, Option, Some}
use Rattle.ec_ring.specs.Links.{AreUp, first_down, last_down}
use Rattle.ec_ring.specs.declared.links.Links.{Links}
use Rattle.ec_diag.specs.Told.{IsFirstDown, IsLastDown}
use Rattle.ec_diag.specs.declared.located.Located.{Located}
use Rattle.ec_diag.specs.declared.located.Located.TheVariants.{Unknown, Whole, One, Between, First, Last}
use Rattle.ec_diag.specs.declared.located.Located.TheVariants.{Changed}

-- the link is down, and all before it and behind it are up
pub record IsOne (links : Links) (n k : ℕ) : Type 0 where
  pub first : IsFirstDown links n k
  pub last : IsLastDown links n k

-- both links are down, all before the first and behind the second are up
pub record IsBetween (links : Links) (n p q : ℕ) : Type 0 where
  pub order : p < q
  pub first : IsFirstDown links n p
  pub last : IsLastDown links n q

-- what is known of the links
abbrev pub Tells : Located → Links → ℕ → Type 0
Tells Unknown links n = Unit {0}
Tells Whole links n = AreUp links 0 n
Tells (One k) links n = IsOne links n k
Tells (Between p q) links n = IsBetween links n p q
Tells (First k) links n = IsFirstDown links n k
Tells (Last k) links n = IsLastDown links n k
Tells Changed links n = ⊥

-- ---- as a table

-- the first link that is down is known: where it is the last of the line, no other is down
abbrev pub first_of : ℕ → ℕ → Located
first_of n k = if k == n then One k else First k

-- the last link that is down is known: where it is the first of the line, no other is down
abbrev pub last_of : ℕ → Located
last_of k = if k == 0 then One k else Last k

-- the first and the last link that is down are known
abbrev pub between : ℕ → ℕ → Located
between p q = if p == q then One p else (if nat_lt p q then Between p q else Changed)

-- what is known where all links are up besides
abbrev pub with_whole : Located → Located
with_whole Unknown = Whole
with_whole Whole = Whole
with_whole (One k) = Changed
with_whole (Between p q) = Changed
with_whole (First k) = Changed
with_whole (Last k) = Changed
with_whole Changed = Changed

-- what is known where the first link that is down is k besides
abbrev pub with_first : ℕ → ℕ → Located → Located
with_first n k Unknown = first_of n k
with_first n k Whole = Changed
with_first n k (One j) = if j == k then One j else Changed
with_first n k (Between p q) = if p == k then Between p q else Changed
with_first n k (First j) = if j == k then First j else Changed
with_first n k (Last q) = between k q
with_first n k Changed = Changed

-- what is known where the last link that is down is k besides
abbrev pub with_last : ℕ → Located → Located
with_last k Unknown = last_of k
with_last k Whole = Changed
with_last k (One j) = if j == k then One j else Changed
with_last k (Between p q) = if q == k then Between p q else Changed
with_last k (First p) = between p k
with_last k (Last j) = if j == k then Last j else Changed
with_last k Changed = Changed

-- ---- of both copies

-- what both copies tell where these are the first and the last link that is down: copy A does not start over
-- link 0, and copy B not over link n
abbrev pub seen_of : ℕ → Option ℕ → Option ℕ → Located
seen_of n (Some p) (Some q) =
    if p == 0 then (if q == n then Unknown else last_of q)
    else (if q == n then first_of n p else between p q)
seen_of n _ _ = Whole

-- what both copies of a frame tell that travelled under these links
abbrev pub seen : Links → ℕ → Located
seen links n = seen_of n (first_down links (n + 1)) (last_down links (n + 1))
