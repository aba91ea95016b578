-- The differences that were found: each kind of them once, with the first one and how often there was one.
use Rattle.std.specs.Prelude.{ℕ, ◌==◌, ◌&&◌, Bool, false, true, nat_lt, if◌then◌else◌}
use Rattle.std.specs.Prelude.{Option, None, Some, List, [], ◌∷◌, ◌++◌, ◌+◌, length, position, sum_by}
use Rattle.std.specs.Prelude.{slice_index_or, slice_set}
use Rattle.ec_wire.specs.Datagram.{code_of}
use Rattle.ecat_replay.specs.declared.difference.Difference.{Difference}
use Rattle.ecat_replay.specs.declared.difference.Kind.{Kind}
use Rattle.ecat_replay.specs.declared.difference.Kind.TheVariants.{Unanswered, Counter, Passed, Data}
use Rattle.ecat_replay.specs.declared.findings.Finding.{Finding}
use Rattle.ecat_replay.specs.declared.findings.TheConstants.{MOST_FINDINGS}
use Rattle.ecat_replay.specs.declared.part.Part.{Part}
use Rattle.ecat_replay.specs.declared.part.Whom.{Whom}
use Rattle.ecat_replay.specs.declared.part.Whom.TheVariants.{All, Place, Station, Mapped}
use Rattle.ecat_replay.specs.Tallies.{more}

-- the kinds in the order in which they were found, and how many differences there were of further kinds
pub record FindingsState : Type 0 where
  pub all : List Finding
  pub more : ℕ

-- ---- kinds

-- are the same slaves asked
abbrev pub same_whom : Whom → Whom → Bool
same_whom All All = true
same_whom (Place i) (Place j) = i == j
same_whom (Station a) (Station b) = a == b
same_whom Mapped Mapped = true
same_whom _ _ = false

-- is it one part of the line
abbrev pub same_part : Part → Part → Bool
same_part a b =
    code_of a.command == code_of b.command && same_whom a.whom b.whom && a.address == b.address
    && a.count == b.count

-- is it one kind of difference: data are one kind, whichever byte differs
abbrev pub same_kind : Kind → Kind → Bool
same_kind Unanswered Unanswered = true
same_kind Counter Counter = true
same_kind Passed Passed = true
same_kind (Data i) (Data j) = true
same_kind _ _ = false

-- is a difference of this part in this kind one of those found
abbrev pub is_of : Part → Kind → Finding → Bool
is_of part kind finding = same_part finding.part part && same_kind finding.difference.kind kind

-- ---- what is found

-- nothing was found yet
abbrev pub none_found : FindingsState
none_found = record { all = []; more = 0 }

-- the first difference of a kind, in what was sent with this packet
abbrev pub first_found : Part → Difference → ℕ → Finding
first_found part difference packet =
    record { part = part; difference = difference; packet = packet; times = 1 }

-- one more of a kind
abbrev pub once_more : Finding → Finding
once_more finding = record finding { times = more finding.times }

-- the kind at this place was found again; where no kind is its own, it is a new one, or one of too many
abbrev pub found_at : Part → Difference → ℕ → FindingsState → Option ℕ → FindingsState
found_at part difference packet s (Some i) =
    record s {
      all = slice_set s.all i (once_more (slice_index_or s.all i (first_found part difference packet)));
    }
found_at part difference packet s None =
    if nat_lt (length s.all) MOST_FINDINGS
    then record s { all = s.all ++ first_found part difference packet ∷ [] }
    else record s { more = more s.more }

-- a difference was found in what was sent with this packet
unfoldable pub found : Part → Difference → ℕ → FindingsState → FindingsState
found part difference packet s =
    found_at part difference packet s (position (is_of part difference.kind) s.all)

-- how many differences were found: each kind as often as it was, and those of further kinds
abbrev pub times_of : Finding → ℕ
times_of finding = finding.times

abbrev pub all_found : FindingsState → ℕ
all_found s = sum_by times_of s.all + s.more
