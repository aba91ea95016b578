-- What one copy tells of the links of a line of n slaves.
use Rattle.std.specs.Prelude.{◌≡◌, ℕ, ◌-◌, ◌≤◌, ◌<◌, nat_lt, ◌==◌, Bool, true, false, if◌then◌else◌}
use Rattle.ec_ring.specs.Links.{is_up, AreUp}
use Rattle.ec_ring.specs.declared.links.Links.{Links}
use Rattle.ec_ring.specs.declared.port.Port.{Port}
use Rattle.ec_ring.specs.declared.port.Port.TheVariants.{A, B}
use Rattle.ec_diag.specs.declared.heard.Heard.{Heard}
use Rattle.ec_diag.specs.declared.told.Told.{Told}
use Rattle.ec_diag.specs.declared.told.Told.TheVariants.{Whole, First, Last, Never}

-- the link is down, and all before it are up
pub record IsFirstDown (links : Links) (n k : ℕ) : Type 0 where
  pub inside : k ≤ n
  pub down : is_up links k ≡ false
  pub before : (j : ℕ) → j < k → is_up links j ≡ true

-- the link is down, and all behind it are up
pub record IsLastDown (links : Links) (n k : ℕ) : Type 0 where
  pub inside : k ≤ n
  pub down : is_up links k ≡ false
  pub behind : (j : ℕ) → k < j → j ≤ n → is_up links j ≡ true

-- what is known by what was told
abbrev pub Knows : Told → Links → ℕ → Type 0
Knows Whole links n = AreUp links 0 n
Knows (First k) links n = IsFirstDown links n k
Knows (Last k) links n = IsLastDown links n k
Knows Never links n = ⊥

-- ---- as a table

-- a copy that did not turn at a port 0 came back to port A from the first link that is down, or over the
-- whole line unprocessed
abbrev pub told_at_a : ℕ → ℕ → Told
told_at_a n count = if count == 0 then Whole else (if nat_lt n count then Never else First count)

-- a copy that turned came back to port B from behind the last link that is down
abbrev pub told_turned : ℕ → ℕ → Told
told_turned n count = if count == 0 then Never else (if nat_lt n count then Never else Last (n - count))

-- a copy at port B that did not turn passed the whole line
abbrev pub told_at_b : ℕ → ℕ → Told
told_at_b n count = if count == n then Whole else Never

abbrev pub told_by : Port → Bool → ℕ → ℕ → Told
told_by A false n count = told_at_a n count
told_by A true n count = Never
told_by B false n count = told_at_b n count
told_by B true n count = told_turned n count

-- what a copy tells that was heard so
abbrev pub told_of : ℕ → Heard → Told
told_of n h = told_by h.at h.turned n h.count
