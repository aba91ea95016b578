-- What is left makes of the checksum now what all make of it at first.
use Rattle.std.proofs.Common.{◌≡◌, drop}
use Rattle.ec_sii.specs.Crc.{crc8, crc_from}
use Rattle.ec_sii.proofs.crc.crc8.Given as goal

abbrev pub invariant-loop-byte : goal.invariant-loop-byte
invariant-loop-byte l = crc_from l.crc (drop l.byte-index l.bytes) ≡ crc8 l.bytes
