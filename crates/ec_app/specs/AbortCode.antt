-- The abort codes that tell why an SDO transfer is ended (IEC 61158-6-12, SDO abort codes).
use Rattle.std.specs.Prelude.{◌==◌, ℕ, if◌then◌else◌, Option, None, Some}
use Rattle.ec_app.specs.declared.abort_code.AbortCode.{AbortCode}
use Rattle.ec_app.specs.declared.abort_code.AbortCode.TheVariants.{UnknownCommand, ReadOfWriteOnly}
use Rattle.ec_app.specs.declared.abort_code.AbortCode.TheVariants.{WriteOfReadOnly}
use Rattle.ec_app.specs.declared.abort_code.AbortCode.TheVariants.{NoObject, WrongLength, NoSubindex}
use Rattle.ec_app.specs.declared.abort_code.AbortCode.TheVariants.{OutOfRange, General, WrongState}

-- the code of a reason
abbrev pub abort_code : AbortCode → ℕ
abort_code UnknownCommand = 0x05040001
abort_code ReadOfWriteOnly = 0x06010001
abort_code WriteOfReadOnly = 0x06010002
abort_code NoObject = 0x06020000
abort_code WrongLength = 0x06070010
abort_code NoSubindex = 0x06090011
abort_code OutOfRange = 0x06090030
abort_code General = 0x08000000
abort_code WrongState = 0x08000022

-- the reason with a code, where there is one
abbrev pub abort_code_of : ℕ → Option AbortCode
abort_code_of code =
    if code == 0x05040001 then Some UnknownCommand else
    (if code == 0x06010001 then Some ReadOfWriteOnly else
    (if code == 0x06010002 then Some WriteOfReadOnly else
    (if code == 0x06020000 then Some NoObject else
    (if code == 0x06070010 then Some WrongLength else
    (if code == 0x06090011 then Some NoSubindex else
    (if code == 0x06090030 then Some OutOfRange else
    (if code == 0x08000000 then Some General else
    (if code == 0x08000022 then Some WrongState else None))))))))
