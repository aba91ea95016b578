-- An item is what a master asks in each cycle, with the data and the counter of the last answer (IEC
-- 61158-4-12, logical, broadcast and station-addressed commands).
use Rattle.std.specs.Prelude.{◌≡◌, ◌==◌, ◌&&◌, ◌||◌, ℕ, ◌+◌, ◌-◌, ◌*◌, ◌^◌, ◌<◌, Bool, true, false, nat_le}
use Rattle.std.specs.Prelude.{nat_lt, if◌then◌else◌, Option, None, Some, List, length, map}
use Rattle.ec_regs.specs.Bits.{bit}
use Rattle.ec_regs.specs.declared.registers.TheConstants.{PROCESS_MEMORY, MEMORY_SIZE}
use Rattle.ec_wire.specs.Datagram.{DatagramRecord, ado_of}
use Rattle.ec_wire.specs.declared.datagram.TheConstants.{MAX_DATA}
use Rattle.ec_wire.specs.Kind.{command_of}
use Rattle.ec_wire.specs.declared.kind.Kind.{Kind}
use Rattle.ec_wire.specs.declared.kind.Kind.TheVariants.{Lrd, Lwr, Lrw, Brd, Fprd, Fpwr}
use Rattle.ec_map.specs.declared.kind.ItemFault.{ItemFault}
use Rattle.ec_map.specs.declared.kind.ItemFault.TheVariants.{BadLength, BadRange}

-- an item: its kind and address, its data, its working counter, and for a broadcast read its ADP
pub record ItemRecord : Type 0 where
  pub kind : Kind
  pub address : ℕ
  pub payload : List ℕ
  pub counter : ℕ
  pub adp : ℕ

-- ---- which items there are

-- is it a read, a write or an exchange of the logical image
abbrev pub is_logical : Kind → Bool
is_logical Lrd = true
is_logical Lwr = true
is_logical Lrw = true
is_logical Brd = false
is_logical Fprd = false
is_logical Fpwr = false

-- is it a broadcast read
abbrev pub is_broadcast : Kind → Bool
is_broadcast Lrd = false
is_broadcast Lwr = false
is_broadcast Lrw = false
is_broadcast Brd = true
is_broadcast Fprd = false
is_broadcast Fpwr = false

-- do the n bytes from an address on exist: logical bytes, registers by their ADO, or bytes of the memory by
-- the ADO that stands above a station address
abbrev pub is_in_range : Kind → ℕ → ℕ → Bool
is_in_range Lrd address n = nat_le (address + n) (2 ^ 32)
is_in_range Lwr address n = nat_le (address + n) (2 ^ 32)
is_in_range Lrw address n = nat_le (address + n) (2 ^ 32)
is_in_range Brd address n = nat_le (address + n) PROCESS_MEMORY
is_in_range Fprd address n = nat_le (ado_of address + n) MEMORY_SIZE
is_in_range Fpwr address n = nat_le (ado_of address + n) MEMORY_SIZE

-- why there is no item of this kind and address with n bytes
abbrev pub item_fault : Kind → ℕ → ℕ → Option ItemFault
item_fault kind address n =
    if (n == 0) || nat_lt MAX_DATA n then Some BadLength else
    (if is_in_range kind address n then None else Some BadRange)

-- what is known of each item
pub record IsItem (r : ItemRecord) : Type 0 where
  pub good : item_fault r.kind r.address (length r.payload) ≡ None
  pub address : r.address < 2 ^ 32
  pub counter : r.counter < 2 ^ 16
  pub adp : r.adp < 2 ^ 16

-- another item of this kind and address, and as many bytes, whatever they are and whatever was answered
pub record AsksTheSame (r other : ItemRecord) : Type 0 where
  pub kind : other.kind ≡ r.kind
  pub address : other.address ≡ r.address
  pub size : length other.payload ≡ length r.payload

-- the items of a list, where this says what each asks
abbrev pub items_by : {I : Type 0} → (I → ItemRecord) → List I → List ItemRecord
items_by item items = map item items

-- an item at first
abbrev pub new_item : Kind → ℕ → List ℕ → ItemRecord
new_item kind address payload =
    record { kind = kind; address = address; payload = payload; counter = 0; adp = 0 }

-- the item with this ADP, where it is a broadcast read
abbrev pub with_adp : ItemRecord → ℕ → ItemRecord
with_adp r adp = if is_broadcast r.kind then record r { adp = adp } else r

-- ---- its datagram

-- the address in the datagram: a broadcast read has its ADP below the ADO
abbrev pub wire_address : ItemRecord → ℕ
wire_address r = if is_broadcast r.kind then r.adp + 65536 * r.address else r.address

-- the datagram with an index
abbrev pub datagram_of : ItemRecord → ℕ → DatagramRecord
datagram_of r index = record {
  command = command_of r.kind;
  index = index;
  address = wire_address r;
  circulating = false;
  irq = 0;
  payload = r.payload;
  counter = r.counter;
}

-- ---- its bits

-- does a logical bit lie in the n bytes from a logical address on
abbrev pub is_bit_of : ℕ → ℕ → ℕ → Bool
is_bit_of address n l = nat_le (8 * address) l && nat_lt (l - 8 * address) (8 * n)

-- the data's bit of a logical bit, where the item is logical and the bit lies in it
abbrev pub item_bit : ItemRecord → ℕ → Option Bool
item_bit r l =
    if is_logical r.kind && is_bit_of r.address (length r.payload) l
    then Some (bit r.payload (l - 8 * r.address) == 1) else None
