-- What bytes look like that are no frame in the UDP form.
use Rattle.std.specs.Prelude.{◌≡◌, ◌≤◌, ℕ, List, drop, length, slice_index}
use Rattle.ec_wire.specs.Datagram.{DatagramRecord}
use Rattle.ec_wire.specs.Fault.{IsSpelt}
use Rattle.ec_wire.specs.declared.fault.Form.TheVariants as form
use Rattle.ecat_log.specs.declared.hint.Hint.{Hint}
use Rattle.ecat_log.specs.declared.hint.Hint.TheVariants.{Padded, Ethernet, Neither}

-- a frame, and any bytes behind it
abbrev pub IsPadded : List ℕ → Type 0
IsPadded bytes = (frame : List DatagramRecord) × IsSpelt form.Ethernet bytes frame

-- two addresses and EtherCAT's ethertype (IEC 61158-4-12, the Ethernet frame)
pub record HasEtherType (bytes : List ℕ) : Type 0 where
  pub room : 14 ≤ length bytes
  pub high : slice_index bytes 12 ≡ 0x88
  pub low : slice_index bytes 13 ≡ 0xa4

-- which stand before a frame
abbrev pub IsEthernet : List ℕ → Type 0
IsEthernet bytes = HasEtherType bytes × IsPadded (drop 14 bytes)

-- the first of these that holds
abbrev pub Looks : Hint → List ℕ → Type 0
Looks Padded bytes = IsPadded bytes
Looks Ethernet bytes = (IsPadded bytes → ⊥) × IsEthernet bytes
Looks Neither bytes = (IsPadded bytes → ⊥) × (IsEthernet bytes → ⊥)
