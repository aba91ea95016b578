-- How the frames and datagrams of a capture were answered once more, each number up to 2^64 - 1.
use Rattle.std.specs.Prelude.{ℕ, ◌+◌, ◌==◌, ◌&&◌, Bool, false, true, nat_lt}
use Rattle.std.specs.Io.Iter.{u64_saturate}
use Rattle.ecat_replay.specs.declared.tally.Outcome.{Outcome}
use Rattle.ecat_replay.specs.declared.tally.Outcome.TheVariants.{Alike, OfClocks, Other}
use Rattle.ecat_replay.specs.declared.tally.Tally.{Tally}

-- one more
abbrev pub more : ℕ → ℕ
more n = u64_saturate (n + 1)

-- nothing was sent yet
abbrev pub nothing_sent : Tally
nothing_sent = record {
  frames = 0;
  answered = 0;
  lost = 0;
  late = 0;
  strays = 0;
  datagrams = 0;
  alike = 0;
  clocks = 0;
  other = 0;
}

-- one more datagram that was compared
abbrev pub counted : Outcome → Tally → Tally
counted Alike t = record t { datagrams = more t.datagrams; alike = more t.alike }
counted OfClocks t = record t { datagrams = more t.datagrams; clocks = more t.clocks }
counted Other t = record t { datagrams = more t.datagrams; other = more t.other }

-- one more frame that was sent, of which a copy came back in the capture, or none
abbrev pub counted_frame : Bool → Tally → Tally
counted_frame true t = record t { frames = more t.frames; answered = more t.answered }
counted_frame false t = record t { frames = more t.frames; lost = more t.lost }

-- one more frame that came back late, and one of nothing that was sent
abbrev pub counted_late : Tally → Tally
counted_late t = record t { late = more t.late }

abbrev pub counted_stray : Tally → Tally
counted_stray t = record t { strays = more t.strays }

-- some datagram was compared, and all that is no clock was alike
abbrev pub is_like : Tally → Bool
is_like t = nat_lt 0 t.datagrams && t.other == 0
