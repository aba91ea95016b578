-- What is told of what bad trips lack: all that fits, of each class, and whether more may be missing.
use Rattle.std.specs.Prelude.{◌≡◌, ◌⊎◌, ℕ, ◌+◌, ◌-◌, ◌<◌, ◌&&◌, ◌||◌, Bool, not, List, ◌++◌}
use Rattle.std.specs.List.{Contains, count_by, list_any}
use Rattle.std.specs.Io.Iter.{u64_saturate}
use Rattle.ecat_judge.specs.declared.share.Missing.{Missing}
use Rattle.ecat_judge.specs.declared.share.Missing.TheVariants.{Slaves, Inputs, Outputs, Two}
use Rattle.ecat_judge.specs.declared.evidence.Evidence.{Evidence}
use Rattle.ecat_judge.specs.declared.candidates.Candidates.{Candidates}
use Rattle.ecat_judge.specs.declared.answer.Answer.{Answer}
use Rattle.ecat_judge.specs.Evidence.{any_below, fits}

-- all that is told by name: each slave, the runs of neighbours, and the halves of each slave
abbrev pub named : Candidates → List Missing
named c = c.slaves.items ++ c.neighbours.items ++ c.halves.items

-- any of these fits
abbrev pub any_fits : Evidence → List Missing → Bool
any_fits e candidates = list_any (λ missing. fits missing e) candidates

-- anything fits that has a name
abbrev pub is_explained : Evidence → Candidates → Bool
is_explained e c =
    any_fits e c.slaves.items || any_fits e c.neighbours.items || any_fits e c.halves.items

-- one slave alone
abbrev pub one_slave : ℕ → Missing
one_slave slave = Slaves slave (u64_saturate (slave + 1))

-- the slave of which this is a half; what is no half is whole
abbrev pub whole_of : Missing → Missing
whole_of (Slaves from to) = Slaves from to
whole_of (Inputs slave) = one_slave slave
whole_of (Outputs slave) = one_slave slave
whole_of (Two one other) = Two one other

-- this is told: it fits, and it is no half of a slave that fits whole
abbrev pub is_told : Evidence → Missing → Bool
is_told e (Slaves from to) = fits (Slaves from to) e
is_told e (Inputs slave) = fits (Inputs slave) e && not (fits (one_slave slave) e)
is_told e (Outputs slave) = fits (Outputs slave) e && not (fits (one_slave slave) e)
is_told e (Two one other) = fits (Two one other) e

-- a slave below n fits together with this one
abbrev pub fits_with : Evidence → ℕ → Bool
fits_with e other = any_below (λ one. fits (Two one other) e) (other - 1)

-- two slaves of so many that are no neighbours fit
abbrev pub any_two_fit : Evidence → ℕ → Bool
any_two_fit e count = any_below (fits_with e) count

-- two slaves of so many that are no neighbours
pub record AreApart (count : ℕ) (missing : Missing) : Type 0 where
  pub one : ℕ
  pub other : ℕ
  pub apart : one + 1 < other
  pub inside : other < count
  pub are : missing ≡ Two one other

-- all that is tried of a line of so many slaves
abbrev pub IsTried : Candidates → ℕ → Missing → Type 0
IsTried c count missing = Contains (named c) missing ⊎ AreApart count missing

-- how much is told of each class, and whether two slaves that are no neighbours fit as well
pub record IsAnswer (e : Evidence) (c : Candidates) (count : ℕ) (a : Answer) : Type 0 where
  pub slaves : a.slaves ≡ count_by (is_told e) c.slaves.items
  pub neighbours : a.neighbours ≡ count_by (is_told e) c.neighbours.items
  pub halves : a.halves ≡ count_by (is_told e) c.halves.items
  pub more : a.more ≡ any_two_fit e count
