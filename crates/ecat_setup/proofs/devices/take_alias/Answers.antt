use Rattle.ecat_setup.specs.Devices.{with_alias_of}
use Rattle.ecat_setup.proofs.DeviceLemmas.{placed-at}
use Rattle.ecat_setup.proofs.devices.take_alias.Goals as goal

pub returns-then-one-slaves : goal.returns-then-one-slaves
returns-then-one-slaves c =
    placed-at (with_alias_of c.args.one.now.eeprom) c.args.slaves.now c.args.one.now.place
    c.index-slaves-one.result c.tell_alias.new.slave c.if-one-slaves.true
    c.tell_alias.ensures
