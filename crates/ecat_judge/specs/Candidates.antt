-- What is tried as missing of a line: each slave, the runs of neighbours, and the halves of each slave.
use Rattle.std.specs.Prelude.{◌≡◌, ℕ, zero, suc, ◌+◌, ◌&&◌, Bool, true, nat_lt, if◌then◌else◌}
use Rattle.std.specs.Prelude.{List, [], ◌∷◌, ◌++◌}
use Rattle.ecat_judge.specs.declared.share.Missing.{Missing}
use Rattle.ecat_judge.specs.declared.share.Missing.TheVariants.{Slaves, Inputs, Outputs}
use Rattle.ecat_judge.specs.declared.candidates.Candidates.{Candidates}

-- this, if it may be missing
abbrev pub one_if : Bool → Missing → List Missing
one_if may missing = if may then missing ∷ [] else []

-- each of the slaves below n alone
unfoldable pub each_slave : ℕ → List Missing
each_slave zero = []
each_slave (suc n) = each_slave n ++ one_if true (Slaves n (n + 1))

-- the inputs and the outputs alone of each
unfoldable pub each_half : ℕ → List Missing
each_half zero = []
each_half (suc n) = (each_half n ++ one_if true (Inputs n)) ++ one_if true (Outputs n)

-- the runs of two slaves and more from a place on, in front of the places below n, where any may be missing
unfoldable pub runs_from : Bool → ℕ → ℕ → List Missing
runs_from any from zero = []
runs_from any from (suc to) = runs_from any from to ++ one_if (any && nat_lt (from + 1) to) (Slaves from to)

-- the runs that begin below n, of a line of so many slaves: these, and those up to its end
unfoldable pub neighbours : Bool → ℕ → ℕ → List Missing
neighbours any count zero = []
neighbours any count (suc from) =
    (neighbours any count from ++ runs_from any from count)
    ++ one_if (nat_lt (from + 1) count) (Slaves from count)

-- all of it; of a master with two ports any run may be missing, else all slaves from one on
pub record AreCandidates (c : Candidates) (count : ℕ) (two : Bool) : Type 0 where
  pub slaves : c.slaves.items ≡ each_slave count
  pub neighbours : c.neighbours.items ≡ neighbours two count count
  pub halves : c.halves.items ≡ each_half count
