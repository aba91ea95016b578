-- What an item of a cycle asks, whatever its data: its kind, its address and how many bytes it has; and what
-- stays of its datagram on the way (IEC 61158-4-12, the datagram structure).
use Rattle.std.specs.Prelude.{◌≡◌, ℕ, ◌<◌, length}
use Rattle.ec_wire.specs.Datagram.{DatagramRecord, ado_of}
use Rattle.ec_wire.specs.Kind.{command_of}
use Rattle.ec_wire.specs.declared.kind.Kind.{Kind}
use Rattle.ec_wire.specs.declared.kind.Kind.TheVariants.{Brd}

-- kind, address (logical, or ADP plus 65,536 times ADO), and number of data bytes
pub record Request : Type 0 where
  pub kind : Kind
  pub address : ℕ
  pub count : ℕ

-- the slaves leave the address as it is, but for the ADP of a broadcast read, which they count up
abbrev pub SameAddress : Kind → ℕ → ℕ → Type 0
SameAddress Brd a b = ado_of a ≡ ado_of b
SameAddress _ a b = a ≡ b

-- a datagram of the request, on its way
pub record OnWay (r : Request) (d : DatagramRecord) : Type 0 where
  pub command : d.command ≡ command_of r.kind
  pub size : length d.payload ≡ r.count
  pub address : SameAddress r.kind d.address r.address
  pub counter : d.counter < 65536
