-- Which slaves of a line of n no copy reaches, as far as is known.
use Rattle.std.specs.Prelude.{ℕ, ◌-◌, ◌<◌, ◌≤◌, nat_lt, if◌then◌else◌, ◌⊎◌, ◌↔◌}
use Rattle.ec_ring.specs.Reach.{ReachesA, ReachesB}
use Rattle.ec_ring.specs.declared.links.Links.{Links}
use Rattle.ec_diag.specs.declared.cut_off.CutOff.{CutOff}
use Rattle.ec_diag.specs.declared.cut_off.CutOff.TheVariants.{Nobody, Places, PerhapsFrom}
use Rattle.ec_diag.specs.declared.cut_off.CutOff.TheVariants.{PerhapsBelow, NotTold}
use Rattle.ec_diag.specs.declared.located.Located.{Located}
use Rattle.ec_diag.specs.declared.located.Located.TheVariants.{Unknown, Whole, One, Between, First, Last}
use Rattle.ec_diag.specs.declared.located.Located.TheVariants.{Changed}

-- a copy reaches the slave, or neither does
abbrev pub IsReached : Links → ℕ → ℕ → Type 0
IsReached links n x = ReachesA links x ⊎ ReachesB links n x

-- each slave is reached
abbrev pub AreReached : Links → ℕ → Type 0
AreReached links n = (x : ℕ) → x < n → IsReached links n x

-- those from one to another are not reached, all others are
abbrev pub AreBetween : ℕ → ℕ → Links → ℕ → Type 0
AreBetween first last links n =
    (x : ℕ) → x < n → (¬ IsReached links n x) ↔ ((first ≤ x) × (x ≤ last))

-- those before a place are reached, or those from it on
abbrev pub AreReachedBefore : ℕ → Links → ℕ → Type 0
AreReachedBefore k links n = (x : ℕ) → x < k → ReachesA links x

abbrev pub AreReachedFrom : ℕ → Links → ℕ → Type 0
AreReachedFrom k links n = (x : ℕ) → k ≤ x → x < n → ReachesB links n x

-- what is known of the slaves
abbrev pub Cuts : CutOff → Links → ℕ → Type 0
Cuts Nobody links n = AreReached links n
Cuts (Places first last) links n = AreBetween first last links n
Cuts (PerhapsFrom k) links n = AreReachedBefore k links n
Cuts (PerhapsBelow k) links n = AreReachedFrom k links n
Cuts NotTold links n = Unit {0}

-- what is known of them by what is known of the links
abbrev pub cut_off_of : Located → CutOff
cut_off_of Unknown = NotTold
cut_off_of Whole = Nobody
cut_off_of (One k) = Nobody
cut_off_of (Between p q) = if nat_lt p q then Places p (q - 1) else NotTold
cut_off_of (First k) = PerhapsFrom k
cut_off_of (Last k) = PerhapsBelow k
cut_off_of Changed = NotTold
