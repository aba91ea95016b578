-- Most lines are mapped slave by slave in the order of their logical bits. There each FMMU lies on one side
-- of those before it, so that no two share a bit, and the hull of those before tells it in one pass.
use Rattle.std.specs.Prelude.{◌⊎◌, ◌^◌, ℕ, ◌<◌, ◌≤◌, List, [], ◌∷◌}
use Rattle.ec_areas.specs.declared.hull.LogicalHull.{LogicalHull}
use Rattle.ec_esc.specs.State.{ControllerState}
use Rattle.ec_check.specs.declared.hulls.Exchanged.{Exchanged}
use Rattle.ec_check.specs.Order.{IsBefore}
use Rattle.ec_check.specs.Rules.{ReadsLogical, WritesLogical}

-- ---- on one side

-- the bits of the one set lie all in front of those of the other, or all behind them
abbrev pub AreOnOneSide : (ℕ → Type 0) → (ℕ → Type 0) → Type 0
AreOnOneSide P Q = ((l m : ℕ) → P l → Q m → l < m) ⊎ ((l m : ℕ) → P l → Q m → m < l)

-- an FMMU before the one with this number of this slave has the bit, where `Has` says which bits each has
pub record IsBitBefore (Has : ℕ → ℕ → ℕ → Type 0) (slave number l : ℕ) : Type 0 where
  pub slave_before : ℕ
  pub number_before : ℕ
  pub before : IsBefore (slave_before ∷ number_before ∷ []) (slave ∷ number ∷ [])
  pub has : Has slave_before number_before l

-- the bit is read through one of those FMMUs, and written
abbrev pub IsReadBefore : List ControllerState → ℕ → ℕ → ℕ → Type 0
IsReadBefore line = IsBitBefore (ReadsLogical line)

abbrev pub IsWrittenBefore : List ControllerState → ℕ → ℕ → ℕ → Type 0
IsWrittenBefore line = IsBitBefore (WritesLogical line)

-- what this FMMU reads lies on one side of all that those before it read
abbrev pub ReadsOnOneSide : List ControllerState → ℕ → ℕ → Type 0
ReadsOnOneSide line slave number =
    AreOnOneSide (IsReadBefore line slave number) (ReadsLogical line slave number)

-- and so it is with each FMMU
pub record EachReadsOnOneSide (line : List ControllerState) : Type 0 where
  pub each : (slave number : ℕ) → ReadsOnOneSide line slave number

-- what this FMMU reads lies on one side of all that earlier slaves write, and what it writes on one side of
-- all that they read
pub record ExchangesOnOneSide (line : List ControllerState) (slave number : ℕ) : Type 0 where
  pub read : AreOnOneSide (IsWrittenBefore line slave 0) (ReadsLogical line slave number)
  pub written : AreOnOneSide (IsReadBefore line slave 0) (WritesLogical line slave number)

-- and so it is with each FMMU
pub record EachExchangesOnOneSide (line : List ControllerState) : Type 0 where
  pub each : (slave number : ℕ) → ExchangesOnOneSide line slave number

-- ---- hulls

-- the hull of a set goes from its lowest bit up to the one behind its highest; that of no bits, which ends
-- before it begins, is as narrow as 64 bits can say
pub record IsHullOf (P : ℕ → Type 0) (h : LogicalHull) : Type 0 where
  pub first : (l : ℕ) → P l → h.first ≤ l
  pub end : (l : ℕ) → P l → l < h.end
  pub lowest : (n : ℕ) → n < 2 ^ 64 → ((l : ℕ) → P l → n ≤ l) → n ≤ h.first
  pub highest : (n : ℕ) → ((l : ℕ) → P l → l < n) → h.end ≤ n
  pub bound : h.end < 2 ^ 64

-- this is the hull of what the FMMUs before this one read, and each of them reads on one side
pub record IsReadSoFar (line : List ControllerState) (slave number : ℕ) (read : LogicalHull) : Type 0 where
  pub hull : IsHullOf (IsReadBefore line slave number) read
  pub each : (s n : ℕ) → IsBefore (s ∷ n ∷ []) (slave ∷ number ∷ []) → ReadsOnOneSide line s n

-- these are the hulls of what the FMMUs before this one read, and of what they write
pub record AreHulls (line : List ControllerState) (slave number : ℕ) (hulls : Exchanged) : Type 0 where
  pub read : IsHullOf (IsReadBefore line slave number) hulls.read
  pub written : IsHullOf (IsWrittenBefore line slave number) hulls.written

-- and each of them reads and writes on one side of what slaves before its own exchange
pub record IsExchangedSoFar (line : List ControllerState) (slave number : ℕ) (hulls : Exchanged) : Type 0
  where
    pub are : AreHulls line slave number hulls
    pub each : (s n : ℕ) → IsBefore (s ∷ n ∷ []) (slave ∷ number ∷ []) → ExchangesOnOneSide line s n
