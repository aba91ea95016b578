-- The exit status that a failure comes to: 2 for words that are no command line, 3 where the system, a port
-- or memory failed, and 1 for content that is refused, or 3 where the line that says so can't be written.
use Rattle.std.specs.Prelude.{◌≡◌, ◌⊎◌, ℕ}
use Rattle.ec_run.specs.declared.images.ImagesFault.{ImagesFault}
use Rattle.ec_run.specs.declared.images.ImagesFault.TheVariants.{NoMemory as NoMemoryForImages}
use Rattle.ec_services.specs.declared.fault.MasterFault.{MasterFault}
use Rattle.ec_services.specs.declared.fault.MasterFault.TheVariants.{Port as PortFailed}
use Rattle.ecat_acts.specs.declared.failure.Failure.{Failure}
use Rattle.ecat_acts.specs.declared.failure.Failure.TheVariants.{Asked, At, Capture, Descriptors, Forms}
use Rattle.ecat_acts.specs.declared.failure.Failure.TheVariants.{Images, IndexAlone, IoAlone, NeedsScene}
use Rattle.ecat_acts.specs.declared.failure.Failure.TheVariants.{Reach, Rest, RestRecovers, Stamps, State}
use Rattle.ecat_acts.specs.declared.failure.Failure.TheVariants.{JsonAlone, Task, TriesAlone, TwoForms}
use Rattle.ecat_acts.specs.declared.failure.Failure.TheVariants.{ControlOutputs, Door, Through, TwoOutputs}
use Rattle.ecat_acts.specs.declared.failure.Failure.TheVariants.{Progress}
use Rattle.ecat_acts.specs.declared.failure.Failure.TheVariants.{Line as OfLine}
use Rattle.ecat_setup.specs.declared.failure.LineFailure.{LineFailure}
use Rattle.ecat_setup.specs.declared.failure.LineFailure.TheVariants.{NoMemory, Output, Port, Read}
use Rattle.ecat_source.specs.declared.capture.PcapFault.{PcapFault}
use Rattle.ecat_source.specs.declared.capture.PcapFault.TheVariants.{NoMemory as NoMemoryForCapture}
use Rattle.ecat_source.specs.declared.capture.PcapFault.TheVariants.{Read as ReadFailed}
use Rattle.ecat_task.specs.declared.udp.TaskFault.{TaskFault}
use Rattle.ecat_task.specs.declared.udp.TaskFault.TheVariants.{Reachable}
use Rattle.ecat_text.specs.declared.status.TheConstants.{BAD_ARGUMENTS, FAILED, REFUSED}

-- content is refused, or the output fails
abbrev pub IsRefusal : ℕ → Type 0
IsRefusal status = (status ≡ REFUSED) ⊎ (status ≡ FAILED)

-- of a file of outputs, of a question, of a capture
abbrev pub IsImagesExit : ImagesFault → ℕ → Type 0
IsImagesExit NoMemoryForImages status = status ≡ FAILED
IsImagesExit _ status = IsRefusal status

abbrev pub IsAskedExit : MasterFault → ℕ → Type 0
IsAskedExit PortFailed status = status ≡ FAILED
IsAskedExit _ status = IsRefusal status

abbrev pub IsCaptureExit : PcapFault → ℕ → Type 0
IsCaptureExit ReadFailed status = status ≡ FAILED
IsCaptureExit NoMemoryForCapture status = status ≡ FAILED
IsCaptureExit _ status = IsRefusal status

-- of a command on the line of a scene; a scene that is refused may have wanted memory
abbrev pub IsLineExit : LineFailure → ℕ → Type 0
IsLineExit NoMemory status = status ≡ FAILED
IsLineExit Read status = status ≡ FAILED
IsLineExit Output status = status ≡ FAILED
IsLineExit Port status = status ≡ FAILED
IsLineExit _ status = IsRefusal status

-- of the socket of a master's program: where it may not lie is a matter of the words
abbrev pub IsTaskExit : TaskFault → ℕ → Type 0
IsTaskExit Reachable status = status ≡ BAD_ARGUMENTS
IsTaskExit _ status = status ≡ FAILED

abbrev pub IsExit : Failure → ℕ → Type 0
IsExit (OfLine failure) status = IsLineExit failure status
IsExit (Capture fault) status = IsCaptureExit fault status
IsExit (Images fault) status = IsImagesExit fault status
IsExit (Asked fault) status = IsAskedExit fault status
IsExit Reach status = status ≡ BAD_ARGUMENTS
IsExit At status = status ≡ BAD_ARGUMENTS
IsExit Forms status = status ≡ BAD_ARGUMENTS
IsExit NeedsScene status = status ≡ BAD_ARGUMENTS
IsExit IndexAlone status = status ≡ BAD_ARGUMENTS
IsExit TwoForms status = status ≡ BAD_ARGUMENTS
IsExit JsonAlone status = status ≡ BAD_ARGUMENTS
IsExit Descriptors status = status ≡ BAD_ARGUMENTS
IsExit State status = status ≡ BAD_ARGUMENTS
IsExit Rest status = status ≡ BAD_ARGUMENTS
IsExit RestRecovers status = status ≡ BAD_ARGUMENTS
IsExit TwoOutputs status = status ≡ BAD_ARGUMENTS
IsExit ControlOutputs status = status ≡ BAD_ARGUMENTS
IsExit IoAlone status = status ≡ BAD_ARGUMENTS
IsExit TriesAlone status = status ≡ BAD_ARGUMENTS
IsExit Stamps status = status ≡ BAD_ARGUMENTS
IsExit Progress status = status ≡ BAD_ARGUMENTS
IsExit Through status = status ≡ BAD_ARGUMENTS
IsExit Door status = status ≡ BAD_ARGUMENTS
IsExit (Task fault) status = IsTaskExit fault status
IsExit _ status = status ≡ FAILED
