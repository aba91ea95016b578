-- What is counted adds up, as far as the numbers go.
use Rattle.std.proofs.Common.{◌≡◌, ⊎_elim, ℕ, ◌+◌, ◌<◌, ◌++◌, true, false, refl}
use Rattle.std.proofs.Common.{arith, get_or, set, nat_lt, List, [], ◌∷◌, length, Option, None, Some, position}
use Rattle.std.specs.List.{sum_by}
use Rattle.std.specs.Io.Iter.{u64_saturate}
use Rattle.std.proofs.lemmas.Bool.{cases_Bool}
use Rattle.std.proofs.lemmas.List.Quantifiers.{position-Some}
use Rattle.std.proofs.lemmas.List.Sums.{sum_by-append, sum_by-remove, sum_by-set}
use Rattle.ecat_replay.specs.declared.difference.Difference.{Difference}
use Rattle.ecat_replay.specs.declared.findings.Finding.{Finding}
use Rattle.ecat_replay.specs.declared.findings.TheConstants.{MOST_FINDINGS}
use Rattle.ecat_replay.specs.declared.part.Part.{Part}
use Rattle.ecat_replay.specs.Findings.{FindingsState, all_found, first_found, found, found_at, is_of, once_more}
use Rattle.ecat_replay.specs.Findings.{times_of}
use Rattle.ecat_replay.specs.Tallies.{more}

-- one more of a sum, and of one of its parts
pub more_right : (a b : ℕ) → u64_saturate (a + more b) ≡ more (u64_saturate (a + b))
more_right a b = grind arith

-- ---- findings

again-sum : (all : List Finding) (i rest : ℕ) (d : Finding) → i < length all
    → u64_saturate (sum_by times_of (set all i (once_more (get_or all i d))) + rest)
    ≡ more (u64_saturate (sum_by times_of all + rest))
again-sum all i rest d inside =
    let e = sum_by-set times_of all i (once_more (get_or all i d)) d inside in
    let part = sum_by-remove times_of all i d inside in
    grind (arith, e, part)

new-sum : (all : List Finding) (part : Part) (difference : Difference) (packet rest : ℕ)
    → u64_saturate (sum_by times_of (all ++ first_found part difference packet ∷ []) + rest)
    ≡ more (u64_saturate (sum_by times_of all + rest))
new-sum all part difference packet rest =
    let e = sum_by-append times_of all (first_found part difference packet ∷ []) in
    grind (arith, e)

found_at-sum : (part : Part) (difference : Difference) (packet : ℕ) (s : FindingsState) (at : Option ℕ)
    → position (is_of part difference.kind) s.all ≡ at
    → u64_saturate (all_found (found_at part difference packet s at)) ≡ more (u64_saturate (all_found s))
found_at-sum part difference packet s (Some i) found =
    let first = first_found part difference packet in
    again-sum s.all i s.more first (position-Some (is_of part difference.kind) s.all i first found).0
found_at-sum part difference packet s None found =
    ⊎_elim
    (λ (room : nat_lt (length s.all) MOST_FINDINGS ≡ true).
    rw room (new-sum s.all part difference packet s.more))
    (λ (full : nat_lt (length s.all) MOST_FINDINGS ≡ false).
    rw full (more_right (sum_by times_of s.all) s.more))
    (cases_Bool (nat_lt (length s.all) MOST_FINDINGS))

-- a difference more is one more of all
pub found-sum : (part : Part) (difference : Difference) (packet : ℕ) (s : FindingsState)
    → u64_saturate (all_found (found part difference packet s)) ≡ more (u64_saturate (all_found s))
unfolding found
found-sum part difference packet s =
    found_at-sum part difference packet s (position (is_of part difference.kind) s.all) refl
