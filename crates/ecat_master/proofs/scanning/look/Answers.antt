use Rattle.std.proofs.Common.{◌*◌}
use Rattle.ec_regs.specs.declared.registers.TheConstants.{STATION_ADDRESS, AL_STATUS, FMMU_BASE, FMMU_COUNT}
use Rattle.ec_regs.specs.declared.registers.TheConstants.{SYNC_MANAGER_BASE, SYNC_MANAGER_COUNT}
use Rattle.ecat_master.specs.declared.scanning.TheConstants.{FMMU_BYTES, MANAGER_BYTES, STATUS_BYTES}
use Rattle.ecat_master.proofs.ScanLemmas.{run_read}
use Rattle.ecat_master.proofs.scanning.look.Goals as goal

pub returns : goal.returns
returns g c = record {
  addressed = c.read_at.new.ports;
  station = run_read g.P.Ports.trips c.args.ports.now c.read_at.new.ports c.args.way STATION_ADDRESS 2
      c.in_ok-station.station c.in_ok-station.ensures.read;
  told = c.read_at-2.new.ports;
  status = run_read g.P.Ports.trips c.read_at.new.ports c.read_at-2.new.ports c.args.way AL_STATUS
      STATUS_BYTES c.in_ok-status.status c.in_ok-status.ensures.read;
  managed = c.read_at-3.new.ports;
  managers = run_read g.P.Ports.trips c.read_at-2.new.ports c.read_at-3.new.ports c.args.way
      SYNC_MANAGER_BASE (MANAGER_BYTES * SYNC_MANAGER_COUNT) c.in_ok-managers.managers
      c.in_ok-managers.ensures.read;
  fmmus = run_read g.P.Ports.trips c.read_at-3.new.ports c.read_at-4.new.ports c.args.way FMMU_BASE
      (FMMU_BYTES * FMMU_COUNT) c.in_ok-fmmus.fmmus c.in_ok-fmmus.ensures.read;
}
