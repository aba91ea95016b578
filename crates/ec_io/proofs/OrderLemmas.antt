-- The bytes of an order give what it says, and bytes without a fault are those of what they say.
use Rattle.std.proofs.Common.{◌≡◌, ℕ, ◌≤◌, List, ◌++◌, length, drop, refl, sym, ap, ◌∙◌}
use Rattle.std.proofs.Common.{arith, subst, Option, None}
use Rattle.std.specs.Int.{w64, to_le_bytes, from_le_bytes}
use Rattle.std.proofs.lemmas.List.{length-drop}
use Rattle.std.proofs.lemmas.Nat.{from_le_bytes-to_le_bytes_2, from_le_bytes-to_le_bytes_8}
use Rattle.ec_io.specs.Cycle.{cycle_number, cycle_of, front}
use Rattle.ec_io.specs.Fault.{said_length}
use Rattle.ec_io.specs.Order.{order_kind, OrderValue, order_bytes, IsOrderValue, IsOrder}
use Rattle.ec_io.specs.Order.{order_at, order_fault}
use Rattle.ec_io.proofs.ByteLemmas.{AreBytes, AreBytes-drop, eight_at, eight-lt}
use Rattle.ec_io.proofs.FrontLemmas.{cycle_number-cycle_of, cycle_of-cycle_number, IsSpellable-cycle_of}
use Rattle.ec_io.proofs.FrontLemmas.{cycle_number-lt, HasFront, HasFront-none, front_fault-HasFront}
use Rattle.ec_io.proofs.FrontLemmas.{front-split, said_length-lt}

-- ---- bytes without a fault

-- the outputs are as many as the front says
outputs_said : (bytes : List ℕ) → HasFront 16 order_kind bytes → said_length bytes ≡ length (drop 16 bytes)
outputs_said bytes has = omega (arith, has.whole, length-drop 16 bytes)

-- bytes without a fault are those of what they say
order_bytes-order_at : (bytes : List ℕ) → AreBytes bytes → HasFront 16 order_kind bytes
    → bytes ≡ order_bytes (order_at bytes)
unfolding order_bytes
order_bytes-order_at bytes all has =
    let room = has.room in
    let number = from_le_bytes w64 (drop 8 bytes) in
    front-split 16 order_kind bytes (omega arith) all has
    ∙ ap (λ (n : ℕ). front order_kind n ++ drop 8 bytes) (outputs_said bytes has)
    ∙ ap (λ (xs : List ℕ). front order_kind (length (drop 16 bytes)) ++ xs)
    (eight_at 8 bytes all (omega arith)
    ∙ ap (λ (n : ℕ). to_le_bytes w64 n ++ drop 16 bytes) (sym (cycle_number-cycle_of number)))

-- so they are an order
pub IsOrder-order_at : (bytes : List ℕ) → AreBytes bytes → order_fault bytes ≡ None
    → IsOrder bytes (order_at bytes)
IsOrder-order_at bytes all none =
    let has = HasFront-none 16 order_kind bytes none in
    let number = from_le_bytes w64 (drop 8 bytes) in
    record {
      value = record {
        seen = IsSpellable-cycle_of number (eight-lt (drop 8 bytes) (AreBytes-drop 8 bytes all));
        outputs = omega (arith, outputs_said bytes has, said_length-lt bytes all);
      };
      spelt = order_bytes-order_at bytes all has;
    }

-- the same of what equals what they say
pub IsOrder-said : (bytes : List ℕ) (v : OrderValue) → AreBytes bytes → order_fault bytes ≡ None
    → v ≡ order_at bytes → IsOrder bytes v
IsOrder-said bytes v all none is =
    let P : OrderValue → Type 0 = IsOrder bytes in subst P (sym is) (IsOrder-order_at bytes all none)

-- an order has room for its head
pub order-room : (bytes : List ℕ) → order_fault bytes ≡ None → 16 ≤ length bytes
order-room bytes none = (HasFront-none 16 order_kind bytes none).room

-- ---- the bytes of an order

-- they say what the order says
order_at-order_bytes : (v : OrderValue) → IsOrderValue v → order_at (order_bytes v) ≡ v
unfolding order_bytes
order_at-order_bytes v value =
    let with_seen : Option ℕ → OrderValue = λ s. record { seen = s; outputs = v.outputs } in
    ap with_seen
    (ap cycle_of (from_le_bytes-to_le_bytes_8 (cycle_number v.seen) (cycle_number-lt v.seen value.seen))
    ∙ cycle_of-cycle_number v.seen value.seen)

-- they have the front of an order
HasFront-order_bytes : (v : OrderValue) → IsOrderValue v → HasFront 16 order_kind (order_bytes v)
unfolding order_bytes
HasFront-order_bytes v value =
    let few = value.outputs in
    let said : said_length (order_bytes v) ≡ length v.outputs =
    from_le_bytes-to_le_bytes_2 (length v.outputs) (omega arith) in
    record {
      room = omega arith;
      letters_are = refl;
      version_is = refl;
      kind_is = refl;
      whole = omega (arith, said);
    }

-- what is an order says one thing
pub order_at-IsOrder : (bytes : List ℕ) (v : OrderValue) → IsOrder bytes v → order_at bytes ≡ v
order_at-IsOrder bytes v is = ap (λ (xs : List ℕ). order_at xs) is.spelt ∙ order_at-order_bytes v is.value

-- and has no fault
pub order_fault-IsOrder : (bytes : List ℕ) (v : OrderValue) → IsOrder bytes v → order_fault bytes ≡ None
order_fault-IsOrder bytes v is =
    ap (λ (xs : List ℕ). order_fault xs) is.spelt
    ∙ front_fault-HasFront 16 order_kind (order_bytes v) (HasFront-order_bytes v is.value)

-- bytes are one order at most
pub one_order : (bytes : List ℕ) (v w : OrderValue) → IsOrder bytes v → IsOrder bytes w → v ≡ w
one_order bytes v w is_v is_w = sym (order_at-IsOrder bytes v is_v) ∙ order_at-IsOrder bytes w is_w
