-- Why a command ends where its sockets could not be opened or a scan ended, and its exit status where its
-- words are refused.
use Rattle.std.specs.Prelude.{ℕ}
use Rattle.ecat_args.specs.declared.args.ArgsFault.{ArgsFault}
use Rattle.ecat_args.specs.declared.args.ArgsFault.TheVariants.{Line, BadNumber, NoMemory as NoMemoryForWords}
use Rattle.ecat_acts.specs.declared.failure.Failure.{Failure}
use Rattle.ecat_acts.specs.declared.failure.Failure.TheVariants.{Asked, Bind, Clock, NoMemoryForSockets}
use Rattle.ecat_acts.specs.declared.failure.Failure.TheVariants.{Raw, Remote}
use Rattle.ecat_acts.specs.declared.failure.Failure.TheVariants.{Line as OfLine}
use Rattle.ecat_setup.specs.declared.failure.LineFailure.TheVariants.{Output as OutputFailed}
use Rattle.ecat_master.specs.declared.scanning.ScanEnd.{ScanEnd}
use Rattle.ecat_master.specs.declared.scanning.ScanEnd.TheVariants.{Ask, Output}
use Rattle.ecat_reach.specs.declared.ports.ReachFault.{ReachFault}
use Rattle.ecat_reach.specs.declared.ports.ReachFault.TheVariants.{Clock as NoClock, Raw as RawFaulty}
use Rattle.ecat_reach.specs.declared.ports.ReachFault.TheVariants.{Remote as RemoteFault}
use Rattle.ecat_serve.specs.declared.sockets.BindFault.{BindFault}
use Rattle.ecat_serve.specs.declared.sockets.BindFault.TheVariants.{NoSuchPort, NoSocket}
use Rattle.ecat_serve.specs.declared.sockets.BindFault.TheVariants.{NoMemory as NoMemoryToWait}

-- want of memory for sockets is told apart from all else that keeps them shut
abbrev pub unbound : BindFault → Failure
unbound NoSuchPort = Bind
unbound NoSocket = Bind
unbound NoMemoryToWait = NoMemoryForSockets

-- an output that failed is told apart from a question without an answer
abbrev pub unscanned : ScanEnd → Failure
unscanned Output = OfLine OutputFailed
unscanned (Ask fault) = Asked fault

-- why a line somewhere else cannot be spoken to
abbrev pub unreached : ReachFault → Failure
unreached (RemoteFault fault) = Remote fault
unreached (RawFaulty fault) = Raw fault
unreached NoClock = Clock

-- words that are no command are told apart from want of memory
abbrev pub refusal_status : ArgsFault → ℕ
refusal_status (Line error) = 2
refusal_status BadNumber = 2
refusal_status NoMemoryForWords = 3
