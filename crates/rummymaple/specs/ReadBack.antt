-- Records that a master has read back from its slaves.
use Rattle.std.specs.Prelude.{◌≡◌, ⊤, List, [], ◌∷◌, take, drop}
use Rattle.ec_regs.specs.declared.registers.TheConstants.{STATION_ADDRESS, FMMU_BASE, SYNC_MANAGER_BASE}
use Rattle.ec_esc.specs.State.{ControllerState, IsController, word_at}
use Rattle.ec_check.specs.declared.records.Records.{Records}

-- they are the bytes of a controller's registers
pub record AreOf (r : Records) (c : ControllerState) : Type 0 where
  pub controller : IsController c
  pub station : r.station ≡ word_at c.memory STATION_ADDRESS
  pub fmmus : r.fmmus ≡ take 128 (drop FMMU_BASE c.memory)
  pub sync_managers : r.sync_managers ≡ take 64 (drop SYNC_MANAGER_BASE c.memory)

-- slave by slave those of a line
abbrev pub AreOfLine : List Records → List ControllerState → Type 0
AreOfLine [] [] = ⊤
AreOfLine (r ∷ rs) (c ∷ cs) = AreOf r c × AreOfLine rs cs
AreOfLine [] (c ∷ cs) = ⊥
AreOfLine (r ∷ rs) [] = ⊥
