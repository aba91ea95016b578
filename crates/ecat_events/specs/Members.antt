-- What is told of a slave, of its sync managers and FMMUs, as members of objects of JSON.
use Rattle.std.specs.Prelude.{ℕ, List, codes, if◌then◌else◌}
use Rattle.ec_regs.specs.SyncMan.{is_mailbox, master_writes}
use Rattle.ec_regs.specs.Pairs.{reads, writes}
use Rattle.ec_regs.specs.declared.sync_man.SyncMan.{SyncMan}
use Rattle.ec_regs.specs.declared.fmmu.Fmmu.{Fmmu}
use Rattle.ec_regs.specs.declared.al.AlState.{AlState}
use Rattle.ec_regs.specs.declared.al.AlState.TheVariants.{Init, PreOp, SafeOp, Op}
use Rattle.ec_services.specs.declared.fault.MasterFault.{MasterFault}
use Rattle.ec_services.specs.declared.fault.MasterFault.TheVariants.{NoSlave, Refused, Abort, NoAnswer}
use Rattle.ec_services.specs.declared.fault.MasterFault.TheVariants.{BadAnswer, Broken, Port, Stranger}

-- a state by its name (IEC 61158-6-12, AL state machine)
abbrev pub state_words : AlState → List ℕ
state_words Init = codes "Init"
state_words PreOp = codes "Pre-Op"
state_words SafeOp = codes "Safe-Op"
state_words Op = codes "Op"

-- what a sync manager is for, in the words of a scene (IEC 61158-4-12, sync manager entity)
abbrev pub manager_use : SyncMan → List ℕ
manager_use s =
    if is_mailbox s then (if master_writes s then codes "mailbox-write" else codes "mailbox-read")
    else (if master_writes s then codes "write" else codes "read")

-- what an FMMU is for, in the words of a scene (IEC 61158-4-12, FMMU entity)
abbrev pub fmmu_use : Fmmu → List ℕ
fmmu_use f =
    if reads f then (if writes f then codes "both" else codes "read")
    else (if writes f then codes "write" else codes "nothing")

-- why something could not be read, by its name
abbrev pub fault_name : MasterFault → List ℕ
fault_name NoSlave = codes "NoSlave"
fault_name (Refused _) = codes "Refused"
fault_name (Abort _) = codes "Abort"
fault_name NoAnswer = codes "NoAnswer"
fault_name BadAnswer = codes "BadAnswer"
fault_name Broken = codes "Broken"
fault_name Port = codes "Port"
fault_name Stranger = codes "Stranger"
