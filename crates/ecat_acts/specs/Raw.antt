-- What is printed of packet sockets that are of no use.
use Rattle.std.specs.Prelude.{ℕ, ◌++◌, List, codes}
use Rattle.ecat_raw.specs.declared.sockets.RawFault.{RawFault}
use Rattle.ecat_raw.specs.declared.sockets.RawFault.TheVariants.{NotOpen, NoPacketSocket, NotBound, Twice}
use Rattle.ecat_raw.specs.declared.sockets.RawFault.TheVariants.{NotWatched, NoMemory}
use Rattle.ecat_text.specs.Cables.{port_words}

-- a fault, with the end that it is about
abbrev pub raw_fault_words : RawFault → List ℕ
raw_fault_words (NotOpen at) = codes "nothing is open for end " ++ port_words at
raw_fault_words (NoPacketSocket at) = codes "no packet socket for end " ++ port_words at
raw_fault_words (NotBound at) = codes "no packet socket of type 0x88A4 for end " ++ port_words at
raw_fault_words Twice = codes "both ends have one descriptor"
raw_fault_words NotWatched = codes "no wait for packets"
raw_fault_words NoMemory = codes "NoMemory"
