-- What a good verdict says of a cycle on a line and items that the mapping checker accepts, whatever befell
-- its frames: the answers, the memories and the shown bytes are those of the cycle over slaves that are known
-- by their stations alone (IEC 61158-4-12, working counter).
use Rattle.std.specs.Prelude.{◌≡◌, ◌+◌, ◌<◌, ℕ, Some, List}
use Rattle.std.specs.List.{AllByRecursion}
use Rattle.ec_regs.specs.declared.registers.TheConstants.{PROCESS_MEMORY, PROCESS_MEMORY_SIZE}
use Rattle.ec_app.specs.State.{SlaveState}
use Rattle.ec_line.specs.Shown.{ShowsLast, NoAreaTwice}
use Rattle.ec_check.specs.Line.{controllers}
use Rattle.ec_map.specs.Covered.{IsCovered}
use Rattle.ec_map.specs.Item.{ItemRecord}
use Rattle.ec_map.specs.NotShown.{AreShown}
use Rattle.ec_master.specs.Certificate.{memory_at, shown_at}
use Rattle.ec_master.specs.Covered.{InputsStand, OutputsAreShown}
use Rattle.ec_master.specs.Cut.{frames_of}
use Rattle.ec_master.specs.Unordered.{by_station, slaves_after_all, AreAnswers}

-- the items as they are sent and as they are answered, and the slaves before and behind the cycle
pub record IsGoodCycle (items answers : List ItemRecord) (before behind : List SlaveState) : Type 0 where
  -- the answers are those of the cycle over the unordered slaves, and so is each memory
  pub image : AreAnswers (by_station before) items answers
  pub memories : (n : ℕ) → memory_at (by_station behind) n
      ≡ memory_at (slaves_after_all items (by_station before)) n
  -- so is each shown byte, where in each frame the last item that shows it anew is the last that writes it
  pub outputs : (n k : ℕ) (s : SlaveState) → k < PROCESS_MEMORY_SIZE → by_station before n ≡ Some s
      → AllByRecursion (ShowsLast s.controller (PROCESS_MEMORY + k)) (frames_of items)
      → shown_at (by_station behind) k n ≡ shown_at (slaves_after_all items (by_station before)) k n
  -- and where no two items of a frame write into one area of outputs
  pub outputs_alone : (n k : ℕ) (s : SlaveState) → k < PROCESS_MEMORY_SIZE → by_station before n ≡ Some s
      → AllByRecursion (NoAreaTwice s.controller) (frames_of items)
      → shown_at (by_station behind) k n ≡ shown_at (slaves_after_all items (by_station before)) k n
  -- the answers have each input that a slave maps and an item reads, as it was before the cycle
  pub inputs_stand : InputsStand before items answers
  -- each slave's application is shown, for each output that it maps, the bit that was sent last, where the
  -- items cover the line and none is an addressed write to the slave's station
  pub outputs_are_shown : IsCovered (controllers before) items → AreShown (controllers before) items
      → OutputsAreShown before items behind
