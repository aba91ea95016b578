-- The AL status codes that tell why a slave refuses a state, or left one (IEC 61158-6-12, AL status codes).
use Rattle.std.specs.Prelude.{◌==◌, ℕ, if◌then◌else◌, Option, None, Some}
use Rattle.ec_regs.specs.declared.al_status_code.AlStatusCode.{AlStatusCode}
use Rattle.ec_regs.specs.declared.al_status_code.AlStatusCode.TheVariants.{UnspecifiedError}
use Rattle.ec_regs.specs.declared.al_status_code.AlStatusCode.TheVariants.{InvalidStateChange, UnknownState}
use Rattle.ec_regs.specs.declared.al_status_code.AlStatusCode.TheVariants.{BootstrapNotSupported}
use Rattle.ec_regs.specs.declared.al_status_code.AlStatusCode.TheVariants.{InvalidMailboxConfiguration}
use Rattle.ec_regs.specs.declared.al_status_code.AlStatusCode.TheVariants.{InvalidSyncManagerConfiguration}
use Rattle.ec_regs.specs.declared.al_status_code.AlStatusCode.TheVariants.{NoValidInputs, NoValidOutputs}
use Rattle.ec_regs.specs.declared.al_status_code.AlStatusCode.TheVariants.{SyncManagerWatchdog}
use Rattle.ec_regs.specs.declared.al_status_code.AlStatusCode.TheVariants.{InvalidOutputConfiguration}
use Rattle.ec_regs.specs.declared.al_status_code.AlStatusCode.TheVariants.{InvalidInputConfiguration}

-- the code of a reason
abbrev pub al_status_code : AlStatusCode → ℕ
al_status_code UnspecifiedError = 0x0001
al_status_code InvalidStateChange = 0x0011
al_status_code UnknownState = 0x0012
al_status_code BootstrapNotSupported = 0x0013
al_status_code InvalidMailboxConfiguration = 0x0016
al_status_code InvalidSyncManagerConfiguration = 0x0017
al_status_code NoValidInputs = 0x0018
al_status_code NoValidOutputs = 0x0019
al_status_code SyncManagerWatchdog = 0x001B
al_status_code InvalidOutputConfiguration = 0x001D
al_status_code InvalidInputConfiguration = 0x001E

-- the reason with a code, where there is one
abbrev pub al_status_code_of : ℕ → Option AlStatusCode
al_status_code_of code =
    if code == 0x0001 then Some UnspecifiedError else
    (if code == 0x0011 then Some InvalidStateChange else
    (if code == 0x0012 then Some UnknownState else
    (if code == 0x0013 then Some BootstrapNotSupported else
    (if code == 0x0016 then Some InvalidMailboxConfiguration else
    (if code == 0x0017 then Some InvalidSyncManagerConfiguration else
    (if code == 0x0018 then Some NoValidInputs else
    (if code == 0x0019 then Some NoValidOutputs else
    (if code == 0x001B then Some SyncManagerWatchdog else
    (if code == 0x001D then Some InvalidOutputConfiguration else
    (if code == 0x001E then Some InvalidInputConfiguration else None))))))))))
