-- From FMMU to FMMU: what those before one read and write, its hulls, and that no bit is had twice where each
-- lies on one side.
use Rattle.std.proofs.Common.{◌≡◌, ◌⊎◌, inl, inr, ⊎_elim, ℕ, ◌+◌, ◌<◌, ◌≤◌, Bool, true, false, ◌||◌}
use Rattle.std.proofs.Common.{leb, List, [], ◌∷◌, length, refl, sym, ap, ◌∙◌, arith}
use Rattle.std.specs.Prelude.{min, max}
use Rattle.std.proofs.lemmas.Bool.{cases_lt}
use Rattle.ec_regs.specs.declared.registers.TheConstants.{FMMU_COUNT}
use Rattle.ec_regs.specs.declared.fmmu.Fmmu.{Fmmu}
use Rattle.ec_regs.specs.Pairs.{reads, writes}
use Rattle.ec_areas.specs.declared.hull.LogicalHull.{LogicalHull}
use Rattle.ec_esc.specs.State.{ControllerState}
use Rattle.ec_check.specs.declared.fault.MapFault.{MapFault}
use Rattle.ec_check.specs.declared.fault.MapFault.TheVariants.{TwiceRead, ReadAndWritten}
use Rattle.ec_check.specs.declared.hulls.Exchanged.{Exchanged}
use Rattle.ec_check.specs.Fit.{Breaks, numbers, read_and_written_rule, twice_read_rule}
use Rattle.ec_check.specs.Hulls.{AreOnOneSide, IsBitBefore, IsReadBefore, IsWrittenBefore, IsHullOf}
use Rattle.ec_check.specs.Hulls.{ReadsOnOneSide, EachReadsOnOneSide, ExchangesOnOneSide}
use Rattle.ec_check.specs.Hulls.{EachExchangesOnOneSide}
use Rattle.ec_check.specs.Hulls.{IsReadSoFar, AreHulls, IsExchangedSoFar}
use Rattle.ec_check.specs.Line.{fmmu_of, HasFmmu}
use Rattle.ec_check.specs.Order.{IsBefore, BeginsWith}
use Rattle.ec_check.specs.Rules.{MapsLogical, ReadsLogical, WritesLogical}
use Rattle.ec_check.specs.Search.{HasNone}
use Rattle.ec_check.proofs.HullLemmas.{IsHullOf-same, IsHullOf-both, AreOnOneSide-apart, not-AreOnOneSide}

-- ---- no bit is had twice

-- a bit is not on one side of itself
itself : (P Q : ℕ → Type 0) (b : ℕ) → AreOnOneSide P Q → P b → Q b → ⊥
itself P Q b aside p q =
    ⊎_elim
    (λ (below : (l m : ℕ) → P l → Q m → l < m). let less : b < b = below b b p q in absurd (omega arith))
    (λ (above : (l m : ℕ) → P l → Q m → m < l). let less : b < b = above b b p q in absurd (omega arith))
    aside

none_read : (line : List ControllerState) → EachReadsOnOneSide line
    → (fault : MapFault) → Breaks line fault → BeginsWith (twice_read_rule ∷ []) (numbers fault) → ⊥
none_read line aside (TwiceRead i k j m b) broken begins =
    itself (IsReadBefore line j m) (ReadsLogical line j m) b (aside.each j m)
    (record { slave_before = i; number_before = k; before = broken.order; has = broken.first })
    broken.second
none_read line aside fault broken begins = absurd (omega (arith, begins.0))

-- where each FMMU reads on one side no bit is read twice
pub HasNone-read_on_one_side : (line : List ControllerState) → EachReadsOnOneSide line
    → HasNone (twice_read_rule ∷ []) line
HasNone-read_on_one_side line aside = record { none = none_read line aside }

none_crossed : (line : List ControllerState) → EachExchangesOnOneSide line
    → (fault : MapFault) → Breaks line fault → BeginsWith (read_and_written_rule ∷ []) (numbers fault) → ⊥
none_crossed line aside (ReadAndWritten i k j m b) broken begins =
    ⊎_elim
    (λ (reader_first : i < j).
    itself (IsReadBefore line j 0) (WritesLogical line j m) b (aside.each j m).written
    (record { slave_before = i; number_before = k; before = inl reader_first; has = broken.read })
    broken.written)
    (λ (not_first : j ≤ i).
    ⊎_elim
    (λ (writer_first : j < i).
    itself (IsWrittenBefore line i 0) (ReadsLogical line i k) b (aside.each i k).read
    (record { slave_before = j; number_before = m; before = inl writer_first; has = broken.written })
    broken.read)
    (λ (not_later : i ≤ j). broken.apart (omega arith))
    (cases_lt j i))
    (cases_lt i j)
none_crossed line aside fault broken begins = absurd (omega (arith, begins.0))

-- where each exchanges on one side no bit is read from one slave and written to another
pub HasNone-exchanged_on_one_side : (line : List ControllerState) → EachExchangesOnOneSide line
    → HasNone (read_and_written_rule ∷ []) line
HasNone-exchanged_on_one_side line aside = record { none = none_crossed line aside }

-- ---- the hull of one FMMU of the line

-- the hull of what an FMMU maps where it reads is that of what it reads
pub IsHullOf-reads : (line : List ControllerState) (slave number : ℕ) (counts : Bool) (f : Fmmu)
    (h : LogicalHull)
    → HasFmmu line slave number → f ≡ fmmu_of line slave number → counts ≡ reads f
    → IsHullOf (λ l. (counts ≡ true) × MapsLogical f l) h
    → IsHullOf (ReadsLogical line slave number) h
IsHullOf-reads line slave number counts f h there is reading =
    IsHullOf-same (λ l. (counts ≡ true) × MapsLogical f l) (ReadsLogical line slave number) h
    (λ l mapped. record {
      there = there;
      for_reading = ap reads (sym is) ∙ sym reading ∙ mapped.0;
      maps = rw (sym is) mapped.1;
    })
    (λ l r. (reading ∙ ap reads is ∙ r.for_reading, rw is r.maps))

-- and where it writes of what it writes
pub IsHullOf-writes : (line : List ControllerState) (slave number : ℕ) (counts : Bool) (f : Fmmu)
    (h : LogicalHull)
    → HasFmmu line slave number → f ≡ fmmu_of line slave number → counts ≡ writes f
    → IsHullOf (λ l. (counts ≡ true) × MapsLogical f l) h
    → IsHullOf (WritesLogical line slave number) h
IsHullOf-writes line slave number counts f h there is writing =
    IsHullOf-same (λ l. (counts ≡ true) × MapsLogical f l) (WritesLogical line slave number) h
    (λ l mapped. record {
      there = there;
      for_writing = ap writes (sym is) ∙ sym writing ∙ mapped.0;
      maps = rw (sym is) mapped.1;
    })
    (λ l w. (writing ∙ ap writes is ∙ w.for_writing, rw is w.maps))

-- ---- from FMMU to FMMU

-- before the next FMMU of a slave is what is before this one, and this one
before_next : (a b s n : ℕ) → IsBefore (a ∷ b ∷ []) (s ∷ (n + 1) ∷ [])
    → IsBefore (a ∷ b ∷ []) (s ∷ n ∷ []) ⊎ ((a ≡ s) × (b ≡ n))
before_next a b s n (inl less) = inl (inl less)
before_next a b s n (inr (same, inl below)) =
    ⊎_elim
    (λ (less : b < n). inl (inr (same, inl less)))
    (λ (not_less : n ≤ b). inr (same, omega arith))
    (cases_lt b n)
before_next a b s n (inr (same, inr (_, none))) = absurd none

next_before : (a b s n : ℕ) → IsBefore (a ∷ b ∷ []) (s ∷ n ∷ []) → IsBefore (a ∷ b ∷ []) (s ∷ (n + 1) ∷ [])
next_before a b s n (inl less) = inl less
next_before a b s n (inr (same, inl below)) = inr (same, inl (omega arith))
next_before a b s n (inr (same, inr (_, none))) = absurd none

-- before the first one of the next slave is what is before the ninth of this one, which none has
before_slave : (a b s : ℕ) → b < FMMU_COUNT → IsBefore (a ∷ b ∷ []) ((s + 1) ∷ 0 ∷ [])
    → IsBefore (a ∷ b ∷ []) (s ∷ FMMU_COUNT ∷ [])
before_slave a b s there (inl less) =
    ⊎_elim
    (λ (earlier : a < s). inl earlier)
    (λ (not_earlier : s ≤ a). inr (omega arith, inl there))
    (cases_lt a s)
before_slave a b s there (inr (same, inl below)) = absurd (omega arith)
before_slave a b s there (inr (same, inr (_, none))) = absurd none

slave_before : (a b s : ℕ) → IsBefore (a ∷ b ∷ []) (s ∷ FMMU_COUNT ∷ [])
    → IsBefore (a ∷ b ∷ []) ((s + 1) ∷ 0 ∷ [])
slave_before a b s (inl less) = inl (omega arith)
slave_before a b s (inr (same, inl below)) = inl (omega arith)
slave_before a b s (inr (same, inr (_, none))) = absurd none

-- nothing is before the first one of all
none_before : (a b : ℕ) → IsBefore (a ∷ b ∷ []) (0 ∷ 0 ∷ []) → ⊥
none_before a b (inl less) = absurd (omega arith)
none_before a b (inr (same, inl below)) = absurd (omega arith)
none_before a b (inr (same, inr (_, none))) = none

-- ---- the hull of what FMMUs before one have

-- what has bits is an FMMU of a slave
abbrev HasByFmmus : (ℕ → ℕ → ℕ → Type 0) → Type 0
HasByFmmus Has = (s n l : ℕ) → Has s n l → n < FMMU_COUNT

hull_at_first : (Has : ℕ → ℕ → ℕ → Type 0) (h : LogicalHull) → IsHullOf (λ l. ⊥) h
    → IsHullOf (IsBitBefore Has 0 0) h
hull_at_first Has h =
    IsHullOf-same (λ l. ⊥) (IsBitBefore Has 0 0) h (λ l none. absurd none)
    (λ l had. none_before had.slave_before had.number_before had.before)

hull_at_next : (Has : ℕ → ℕ → ℕ → Type 0) (slave number : ℕ) (g h : LogicalHull)
    → IsHullOf (IsBitBefore Has slave number) g → IsHullOf (Has slave number) h
    → IsHullOf (IsBitBefore Has slave (number + 1))
    (record { first = min g.first h.first; end = max g.end h.end })
hull_at_next Has slave number g h before here =
    IsHullOf-same (λ l. IsBitBefore Has slave number l ⊎ Has slave number l)
    (IsBitBefore Has slave (number + 1)) _
    (λ l either.
    ⊎_elim
    (λ (had : IsBitBefore Has slave number l). record {
      slave_before = had.slave_before;
      number_before = had.number_before;
      before = next_before had.slave_before had.number_before slave number had.before;
      has = had.has;
    })
    (λ (has : Has slave number l). record {
      slave_before = slave;
      number_before = number;
      before = inr (refl, inl (omega arith));
      has = has;
    })
    either)
    (λ l had.
    ⊎_elim
    (λ (before : IsBefore (had.slave_before ∷ had.number_before ∷ []) (slave ∷ number ∷ [])).
    inl (record {
      slave_before = had.slave_before;
      number_before = had.number_before;
      before = before;
      has = had.has;
    }))
    (λ (same : (had.slave_before ≡ slave) × (had.number_before ≡ number)).
    inr (rw (same.0, same.1) at had.has))
    (before_next had.slave_before had.number_before slave number had.before))
    (IsHullOf-both (IsBitBefore Has slave number) (Has slave number) g h before here)

hull_at_slave : (Has : ℕ → ℕ → ℕ → Type 0) (slave : ℕ) (h : LogicalHull) → HasByFmmus Has
    → IsHullOf (IsBitBefore Has slave FMMU_COUNT) h → IsHullOf (IsBitBefore Has (slave + 1) 0) h
hull_at_slave Has slave h by_fmmus =
    IsHullOf-same (IsBitBefore Has slave FMMU_COUNT) (IsBitBefore Has (slave + 1) 0) h
    (λ l had. record {
      slave_before = had.slave_before;
      number_before = had.number_before;
      before = slave_before had.slave_before had.number_before slave had.before;
      has = had.has;
    })
    (λ l had. record {
      slave_before = had.slave_before;
      number_before = had.number_before;
      before =
          before_slave had.slave_before had.number_before slave
          (by_fmmus had.slave_before had.number_before l had.has) had.before;
      has = had.has;
    })

reads_by_fmmus : (line : List ControllerState) → HasByFmmus (ReadsLogical line)
reads_by_fmmus line s n l r = r.there.number_there

writes_by_fmmus : (line : List ControllerState) → HasByFmmus (WritesLogical line)
writes_by_fmmus line s n l w = w.there.number_there

-- ---- what holds of each FMMU before one

abbrev HoldsBefore : (ℕ → ℕ → Type 0) → ℕ → ℕ → Type 0
HoldsBefore E slave number = (s n : ℕ) → IsBefore (s ∷ n ∷ []) (slave ∷ number ∷ []) → E s n

each_at_next : (E : ℕ → ℕ → Type 0) (slave number : ℕ) → HoldsBefore E slave number → E slave number
    → HoldsBefore E slave (number + 1)
each_at_next E slave number each here s n before =
    ⊎_elim
    (λ (earlier : IsBefore (s ∷ n ∷ []) (slave ∷ number ∷ [])). each s n earlier)
    (λ (same : (s ≡ slave) × (n ≡ number)). rw (same.0, same.1) here)
    (before_next s n slave number before)

each_at_slave : (E : ℕ → ℕ → Type 0) (slave : ℕ) → HoldsBefore E slave FMMU_COUNT
    → ((s n : ℕ) → FMMU_COUNT ≤ n → E s n)
    → HoldsBefore E (slave + 1) 0
each_at_slave E slave each past s n before =
    ⊎_elim
    (λ (there : n < FMMU_COUNT). each s n (before_slave s n slave there before))
    (λ (none : FMMU_COUNT ≤ n). past s n none)
    (cases_lt n FMMU_COUNT)

each_at_end : (E : ℕ → ℕ → Type 0) (slaves : ℕ) → HoldsBefore E slaves 0 → ((s n : ℕ) → slaves ≤ s → E s n)
    → (s n : ℕ) → E s n
each_at_end E slaves each past s n =
    ⊎_elim (λ (there : s < slaves). each s n (inl there)) (λ (none : slaves ≤ s). past s n none)
    (cases_lt s slaves)

-- no bits lie on one side of all
one_side_of_none : (P Q : ℕ → Type 0) → ((l : ℕ) → Q l → ⊥) → AreOnOneSide P Q
one_side_of_none P Q none = inl (λ l m p q. absurd (none m q))

reads_past : (line : List ControllerState) (s n : ℕ) → (length line ≤ s) ⊎ (FMMU_COUNT ≤ n)
    → ReadsOnOneSide line s n
reads_past line s n past =
    one_side_of_none (IsReadBefore line s n) (ReadsLogical line s n)
    (λ l r.
    let slave_there : s < length line = r.there.slave_there in
    let number_there : n < FMMU_COUNT = r.there.number_there in
    ⊎_elim (λ (slave : length line ≤ s). absurd (omega arith))
    (λ (number : FMMU_COUNT ≤ n). absurd (omega arith))
    past)

exchanges_past : (line : List ControllerState) (s n : ℕ) → (length line ≤ s) ⊎ (FMMU_COUNT ≤ n)
    → ExchangesOnOneSide line s n
exchanges_past line s n past =
    let none : HasFmmu line s n → ⊥ =
    (λ there.
    let slave_there : s < length line = there.slave_there in
    let number_there : n < FMMU_COUNT = there.number_there in
    ⊎_elim (λ (slave : length line ≤ s). absurd (omega arith))
    (λ (number : FMMU_COUNT ≤ n). absurd (omega arith))
    past) in
    record {
      read = one_side_of_none (IsWrittenBefore line s 0) (ReadsLogical line s n) (λ l r. none r.there);
      written = one_side_of_none (IsReadBefore line s 0) (WritesLogical line s n) (λ l w. none w.there);
    }

-- ---- what is read so far

pub IsReadSoFar-first : (line : List ControllerState) (h : LogicalHull) → IsHullOf (λ l. ⊥) h
    → IsReadSoFar line 0 0 h
IsReadSoFar-first line h none = record {
  hull = hull_at_first (ReadsLogical line) h none;
  each = λ s n before. absurd (none_before s n before);
}

pub IsReadSoFar-next : (line : List ControllerState) (slave number : ℕ) (g h : LogicalHull)
    → IsReadSoFar line slave number g → IsHullOf (ReadsLogical line slave number) h
    → (leb g.end h.first || leb h.end g.first) ≡ true
    → IsReadSoFar line slave (number + 1) (record { first = min g.first h.first; end = max g.end h.end })
IsReadSoFar-next line slave number g h so_far here apart = record {
  hull = hull_at_next (ReadsLogical line) slave number g h so_far.hull here;
  each =
      each_at_next (ReadsOnOneSide line) slave number so_far.each
      (AreOnOneSide-apart (IsReadBefore line slave number) (ReadsLogical line slave number) g h so_far.hull
      here apart);
}

pub IsReadSoFar-slave : (line : List ControllerState) (slave : ℕ) (h : LogicalHull)
    → IsReadSoFar line slave FMMU_COUNT h → IsReadSoFar line (slave + 1) 0 h
IsReadSoFar-slave line slave h so_far = record {
  hull = hull_at_slave (ReadsLogical line) slave h (reads_by_fmmus line) so_far.hull;
  each =
      each_at_slave (ReadsOnOneSide line) slave so_far.each (λ s n none. reads_past line s n (inr none));
}

pub EachReadsOnOneSide-end : (line : List ControllerState) (h : LogicalHull)
    → IsReadSoFar line (length line) 0 h → EachReadsOnOneSide line
EachReadsOnOneSide-end line h so_far = record {
  each =
      each_at_end (ReadsOnOneSide line) (length line) so_far.each
      (λ s n none. reads_past line s n (inl none));
}

-- an FMMU that reads within what those before it read is not on one side
pub not-EachReadsOnOneSide : (line : List ControllerState) (slave number : ℕ) (g h : LogicalHull)
    → IsReadSoFar line slave number g → IsHullOf (ReadsLogical line slave number) h
    → (leb g.end h.first || leb h.end g.first) ≡ false
    → EachReadsOnOneSide line → ⊥
not-EachReadsOnOneSide line slave number g h so_far here meet each =
    not-AreOnOneSide (IsReadBefore line slave number) (ReadsLogical line slave number) g h so_far.hull here
    meet (each.each slave number)

-- ---- what is exchanged so far

pub IsExchangedSoFar-first : (line : List ControllerState) (h : Exchanged) → IsHullOf (λ l. ⊥) h.read
    → IsHullOf (λ l. ⊥) h.written → IsExchangedSoFar line 0 0 h
IsExchangedSoFar-first line h no_read no_written = record {
  are = record {
    read = hull_at_first (ReadsLogical line) h.read no_read;
    written = hull_at_first (WritesLogical line) h.written no_written;
  };
  each = λ s n before. absurd (none_before s n before);
}

-- the hulls with those of one FMMU more
abbrev pub with_both : Exchanged → LogicalHull → LogicalHull → Exchanged
with_both hulls read written = record {
  read = record { first = min hulls.read.first read.first; end = max hulls.read.end read.end };
  written = record { first = min hulls.written.first written.first; end = max hulls.written.end written.end };
}

pub IsExchangedSoFar-next : (line : List ControllerState) (slave number : ℕ) (earlier hulls : Exchanged)
    (read written : LogicalHull)
    → AreHulls line slave 0 earlier → IsExchangedSoFar line slave number hulls
    → IsHullOf (ReadsLogical line slave number) read → IsHullOf (WritesLogical line slave number) written
    → (leb earlier.written.end read.first || leb read.end earlier.written.first) ≡ true
    → (leb earlier.read.end written.first || leb written.end earlier.read.first) ≡ true
    → IsExchangedSoFar line slave (number + 1) (with_both hulls read written)
IsExchangedSoFar-next line slave number earlier hulls read written are so_far of_read of_written apart_read
    apart_written =
    record {
      are = record {
        read = hull_at_next (ReadsLogical line) slave number hulls.read read so_far.are.read of_read;
        written =
            hull_at_next (WritesLogical line) slave number hulls.written written so_far.are.written
            of_written;
      };
      each =
          each_at_next (ExchangesOnOneSide line) slave number so_far.each
          (record {
            read =
                AreOnOneSide-apart (IsWrittenBefore line slave 0) (ReadsLogical line slave number)
                earlier.written read are.written of_read apart_read;
            written =
                AreOnOneSide-apart (IsReadBefore line slave 0) (WritesLogical line slave number) earlier.read
                written are.read of_written apart_written;
          });
    }

pub IsExchangedSoFar-slave : (line : List ControllerState) (slave : ℕ) (h : Exchanged)
    → IsExchangedSoFar line slave FMMU_COUNT h → IsExchangedSoFar line (slave + 1) 0 h
IsExchangedSoFar-slave line slave h so_far = record {
  are = record {
    read = hull_at_slave (ReadsLogical line) slave h.read (reads_by_fmmus line) so_far.are.read;
    written = hull_at_slave (WritesLogical line) slave h.written (writes_by_fmmus line) so_far.are.written;
  };
  each =
      each_at_slave (ExchangesOnOneSide line) slave so_far.each
      (λ s n none. exchanges_past line s n (inr none));
}

pub EachExchangesOnOneSide-end : (line : List ControllerState) (h : Exchanged)
    → IsExchangedSoFar line (length line) 0 h → EachExchangesOnOneSide line
EachExchangesOnOneSide-end line h so_far = record {
  each =
      each_at_end (ExchangesOnOneSide line) (length line) so_far.each
      (λ s n none. exchanges_past line s n (inl none));
}

-- an FMMU that reads within what earlier slaves write does not exchange on one side
pub not-EachExchangesOnOneSide-read : (line : List ControllerState) (slave number : ℕ) (g h : LogicalHull)
    → IsHullOf (IsWrittenBefore line slave 0) g → IsHullOf (ReadsLogical line slave number) h
    → (leb g.end h.first || leb h.end g.first) ≡ false
    → EachExchangesOnOneSide line → ⊥
not-EachExchangesOnOneSide-read line slave number g h before here meet each =
    not-AreOnOneSide (IsWrittenBefore line slave 0) (ReadsLogical line slave number) g h before here meet
    (each.each slave number).read

-- and one that writes within what they read
pub not-EachExchangesOnOneSide-written : (line : List ControllerState) (slave number : ℕ) (g h : LogicalHull)
    → IsHullOf (IsReadBefore line slave 0) g → IsHullOf (WritesLogical line slave number) h
    → (leb g.end h.first || leb h.end g.first) ≡ false
    → EachExchangesOnOneSide line → ⊥
not-EachExchangesOnOneSide-written line slave number g h before here meet each =
    not-AreOnOneSide (IsReadBefore line slave 0) (WritesLogical line slave number) g h before here meet
    (each.each slave number).written
