-- With which addresses the packets of a capture come, with the mark and without (IEC 61158-4-12, frames over
-- Ethernet).
use Rattle.std.specs.Prelude.{◌≡◌, ℕ, ◌<◌, ◌==◌, ◌&&◌, ◌||◌, Bool, true, false, not, if◌then◌else◌, nat_le}
use Rattle.std.specs.Prelude.{List, length, count_by, All}
use Rattle.std.specs.List.{list_any}
use Rattle.ecat_trips.specs.declared.packet.Source.{Source}
use Rattle.ecat_trips.specs.declared.bases.Base.{Base}
use Rattle.ecat_trips.specs.declared.bases.TheConstants.{MAX_BASES}

-- a source has this base, with the mark or without
abbrev pub is_source : ℕ → Bool → Source → Bool
is_source base marked s = base == s.base && (if marked then s.marked else not s.marked)

-- does a base occur, with the mark or without
unfoldable pub occurs : ℕ → Bool → List Source → Bool
occurs base marked all = list_any (is_source base marked) all

-- is it the entry of a base
abbrev pub is_of : ℕ → Base → Bool
is_of base e = e.base == base

-- the entry with one source more, if it is of its base
abbrev pub noted : Source → Base → Base
noted s e =
    if e.base == s.base then record e { plain = e.plain || not s.marked; marked = e.marked || s.marked }
    else e

-- what is told of sources: of up to 64 bases, whether they occur without the mark and with it
pub record AreBasesOf (all : List Source) (bases : List Base) : Type 0 where
  pub plain : All (λ (e : Base). e.plain ≡ occurs e.base false all) bases
  pub marked : All (λ (e : Base). e.marked ≡ occurs e.base true all) bases
  pub each : length bases < MAX_BASES → (base : ℕ) (marked : Bool) → occurs base marked all ≡ true
      → list_any (is_of base) bases ≡ true

-- ---- what that tells

-- a base that occurs with the mark and without: its frames are sent without, and return with it
abbrev pub is_both : Base → Bool
is_both e = e.plain && e.marked

abbrev pub is_marking : ℕ → Base → Bool
is_marking base e = e.base == base && is_both e

-- one that occurs without the mark alone
abbrev pub is_plain : Base → Bool
is_plain e = e.plain && not e.marked

-- a master has two ports: two bases are marking, or one is and another occurs without the mark
abbrev pub two_ports : List Base → Bool
two_ports bases =
    nat_le 2 (count_by is_both bases) || (count_by is_both bases == 1 && list_any is_plain bases)
