-- Why a command ends where its source could not be read to its end, or a cycle failed.
use Rattle.ec_master.specs.declared.cycle.CycleFault.{CycleFault}
use Rattle.ec_master.specs.declared.cycle.CycleFault.TheVariants.{Port as PortFailed}
use Rattle.ec_master.specs.declared.cycle.CycleFault.TheVariants.{Stranger as StrangeFrame}
use Rattle.ecat_setup.specs.declared.failure.LineFailure.{LineFailure}
use Rattle.ecat_setup.specs.declared.failure.LineFailure.TheVariants.{Read, NoMemory, Scene, Port, Stranger}
use Rattle.ecat_scene.specs.declared.fault.SceneFault.TheVariants.{TooLong as TextTooLong}
use Rattle.ecat_source.specs.declared.whole.ReadAllFault.{ReadAllFault}
use Rattle.ecat_source.specs.declared.whole.ReadAllFault.TheVariants.{TooLong, Read as ReadFailed}
use Rattle.ecat_source.specs.declared.whole.ReadAllFault.TheVariants.{NoMemory as NoMoreMemory}

-- a text that is too long is no scene; a read that failed and want of memory are told apart
abbrev pub unread : ReadAllFault → LineFailure
unread TooLong = Scene TextTooLong
unread ReadFailed = Read
unread NoMoreMemory = NoMemory

-- a port that failed and a frame that is none of those sent are told apart
abbrev pub failed_cycle : CycleFault → LineFailure
failed_cycle PortFailed = Port
failed_cycle StrangeFrame = Stranger
