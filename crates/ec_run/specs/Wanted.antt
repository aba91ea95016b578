-- What a slave is to be told at start-up, read off one that stands as it is to be (IEC 61158-4-12, configured
-- station address, sync manager and FMMU entities).
use Rattle.std.specs.Prelude.{None, replicate}
use Rattle.ec_regs.specs.declared.registers.TheConstants.{STATION_ADDRESS}
use Rattle.ec_areas.specs.Records.{fmmus_of, sync_managers_of}
use Rattle.ec_esc.specs.State.{word_at}
use Rattle.ec_app.specs.State.{SlaveState}
use Rattle.ec_run.specs.declared.wanted.TheConstants.{MAX_STARTUP}
use Rattle.ec_run.specs.declared.wanted.Wanted.{Wanted}

-- its station address and the records that stand in its memory, and no startup object
abbrev pub wanted_by : SlaveState → Wanted
wanted_by s = record {
  station = word_at s.controller.memory STATION_ADDRESS;
  managers = sync_managers_of s.controller.memory;
  fmmus = fmmus_of s.controller.memory;
  startup = replicate MAX_STARTUP None;
}
