-- The applications of a line, in the order in which they act, how often they have acted, and the EEPROMs of
-- its slaves, in the order in which they answer.
use Rattle.std.specs.Prelude.{ℕ, ◌+◌, ◌%◌, ◌^◌, List, [], Option, None, Some}
use Rattle.ec_applications.specs.declared.application.Application.{Application}
use Rattle.ec_applications.specs.declared.eeproms.PlacedEeprom.{PlacedEeprom}

-- a list that may be missing is empty then
abbrev pub listed : {X : Type 0} → Option (List X) → List X
listed None = []
listed (Some all) = all

pub record ApplicationsState : Type 0 where
  pub all : List Application
  pub acted : ℕ
  pub eeproms : List PlacedEeprom

-- those that have acted once more; behind the greatest number of 64 bits comes 0
abbrev pub once_more : ApplicationsState → ApplicationsState
once_more s = record s { acted = (s.acted + 1) % 2 ^ 64 }
