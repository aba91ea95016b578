-- An order is what a program wants of the next cycle: a head of 16 bytes, and the outputs behind it.
use Rattle.std.specs.Prelude.{◌≡◌, ◌≤◌, ℕ, List, ◌++◌, length, drop, Option}
use Rattle.std.specs.Int.{w64, to_le_bytes, from_le_bytes}
use Rattle.ec_io.specs.Cycle.{cycle_number, cycle_of, IsSpellable, front}
use Rattle.ec_io.specs.Fault.{front_fault}
use Rattle.ec_io.specs.declared.fault.PacketFault.{PacketFault}
use Rattle.ec_io.specs.declared.order.Order.{Order}

-- the kind of an order
abbrev pub order_kind : ℕ
order_kind = 1

-- what an order says, without where its outputs lie
pub record OrderValue : Type 0 where
  pub seen : Option ℕ
  pub outputs : List ℕ

-- what an `Order` says
abbrev pub order_value : Order → OrderValue
order_value o = record { seen = o.seen; outputs = o.outputs.now }

-- the head of an order with n bytes of outputs
abbrev pub order_head : Option ℕ → ℕ → List ℕ
order_head seen n = front order_kind n ++ to_le_bytes w64 (cycle_number seen)

-- the bytes of an order
unfoldable pub order_bytes : OrderValue → List ℕ
order_bytes v = order_head v.seen (length v.outputs) ++ v.outputs

-- what an order can say
pub record IsOrderValue (v : OrderValue) : Type 0 where
  pub seen : IsSpellable v.seen
  pub outputs : length v.outputs ≤ 65535

-- The bytes are an order that says so.
pub record IsOrder (bytes : List ℕ) (v : OrderValue) : Type 0 where
  pub value : IsOrderValue v
  pub spelt : bytes ≡ order_bytes v

-- ---- the way back

-- what the bytes of an order say
abbrev pub order_at : List ℕ → OrderValue
order_at bytes = record { seen = cycle_of (from_le_bytes w64 (drop 8 bytes)); outputs = drop 16 bytes }

-- the first fault of bytes that are no order
abbrev pub order_fault : List ℕ → Option PacketFault
order_fault bytes = front_fault 16 order_kind bytes
