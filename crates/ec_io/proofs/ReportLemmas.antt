-- The bytes of a report give what it says, and bytes without a fault are those of what they say.
use Rattle.std.proofs.Common.{◌≡◌, ℕ, zero, suc, ◌/◌, ◌%◌, ◌<◌, ◌≤◌, ◌==◌, nat_lt, Bool, true}
use Rattle.std.proofs.Common.{false, not, ◌&&◌, List, [], ◌∷◌, ◌++◌, length, drop, get_or, refl, sym, ap, ◌∙◌}
use Rattle.std.proofs.Common.{arith, subst, Option, Some, None}
use Rattle.std.specs.Prelude.{is_none, IfNone}
use Rattle.std.specs.Int.{w16, w32, w64, to_le_bytes, from_le_bytes}
use Rattle.std.proofs.lemmas.Bool.Decides.{nat_tests}
use Rattle.std.proofs.lemmas.List.{length-drop}
use Rattle.std.proofs.lemmas.Nat.{from_le_bytes-to_le_bytes_2, from_le_bytes-to_le_bytes_4}
use Rattle.std.proofs.lemmas.Nat.{from_le_bytes-to_le_bytes_8}
use Rattle.std.proofs.Math.Seq.{drop-cons}
use Rattle.std.proofs.Math.ListN.{drop_of_length-le}
use Rattle.ec_io.specs.declared.fault.PacketFault.{PacketFault}
use Rattle.ec_io.specs.declared.end.CycleEnded.{CycleEnded}
use Rattle.ec_io.specs.declared.end.CycleEnded.TheVariants.{Good, Short, Over, PortFailed, Stranger}
use Rattle.ec_io.specs.Cycle.{cycle_number, cycle_of, front}
use Rattle.ec_io.specs.Fault.{said_length, front_tests, front_fault}
use Rattle.ec_io.specs.Order.{OrderValue, order_bytes, IsOrder}
use Rattle.ec_io.specs.End.{end_code, end_item, end_of, has_item}
use Rattle.ec_io.specs.Flags.{bit_of, flags_byte, has_flag}
use Rattle.ec_io.specs.Report.{report_kind, ReportValue, report_bytes, IsReportValue, IsReport}
use Rattle.ec_io.specs.Report.{said_end, said_flags, said_item, said_inputs_of, report_at, field_tests}
use Rattle.ec_io.specs.Report.{fields_fault, report_fault}
use Rattle.ec_io.proofs.ByteLemmas.{AreBytes, AreBytes-drop, two_at, four_at, eight_at, two-lt, four-lt}
use Rattle.ec_io.proofs.ByteLemmas.{eight-lt, NoneHolds-first_of, first_of-NoneHolds, first_of-append_some}
use Rattle.ec_io.proofs.ByteLemmas.{first_of-append_none}
use Rattle.ec_io.proofs.FrontLemmas.{cycle_number-cycle_of, cycle_of-cycle_number, IsSpellable-cycle_of}
use Rattle.ec_io.proofs.FrontLemmas.{cycle_number-lt, HasFront, HasFront-none, front_fault-HasFront}
use Rattle.ec_io.proofs.FrontLemmas.{front-split, said_length-lt}

-- ---- the table of tests

-- a fault of the front is the report's
pub report_fault-front : (bytes : List ℕ) (f : PacketFault) → front_fault 40 report_kind bytes ≡ Some f
    → report_fault bytes ≡ Some f
unfolding front_fault report_fault
report_fault-front bytes f is =
    first_of-append_some (front_tests 40 report_kind bytes) (field_tests bytes) f is

-- behind a front without a fault, that of the fields is
pub report_fault-fields : (bytes : List ℕ) → front_fault 40 report_kind bytes ≡ None
    → report_fault bytes ≡ fields_fault bytes
unfolding front_fault fields_fault report_fault
report_fault-fields bytes none =
    first_of-append_none (front_tests 40 report_kind bytes) (field_tests bytes) none

-- bytes without a fault have a front without one
front-good : (bytes : List ℕ) → report_fault bytes ≡ None → front_fault 40 report_kind bytes ≡ None
front-good bytes none = by_fault (front_fault 40 report_kind bytes) refl
  where
    by_fault : (o : Option PacketFault) → front_fault 40 report_kind bytes ≡ o
        → front_fault 40 report_kind bytes ≡ None
    by_fault None is = is
    by_fault (Some f) is = absurd (let bad : None ≡ Some f = sym none ∙ report_fault-front bytes f is in cc)

-- ---- ends

-- an end by its number and its item
pub end_of-end : (end : CycleEnded) → end_of (end_code end) (end_item end) ≡ end
end_of-end Good = refl
end_of-end (Short item) = refl
end_of-end (Over item) = refl
end_of-end PortFailed = refl
end_of-end Stranger = refl

-- the number of the end of a number
end_code-end_of : (code item : ℕ) → code < 5 → end_code (end_of code item) ≡ code
end_code-end_of zero item small = refl
end_code-end_of (suc zero) item small = refl
end_code-end_of (suc (suc zero)) item small = refl
end_code-end_of (suc (suc (suc zero))) item small = refl
end_code-end_of (suc (suc (suc (suc zero)))) item small = refl
end_code-end_of (suc (suc (suc (suc (suc n))))) item small = absurd (omega arith)

-- its item, where it has one, or the item is 0
end_item-end_of : (code item : ℕ) → code < 5 → (has_item code ≡ false → item ≡ 0)
    → end_item (end_of code item) ≡ item
end_item-end_of zero item small none = sym (none refl)
end_item-end_of (suc zero) item small none = refl
end_item-end_of (suc (suc zero)) item small none = refl
end_item-end_of (suc (suc (suc zero))) item small none = sym (none refl)
end_item-end_of (suc (suc (suc (suc zero)))) item small none = sym (none refl)
end_item-end_of (suc (suc (suc (suc (suc n))))) item small none = absurd (omega arith)

-- a number of an end is one of five
end_code-lt : (end : CycleEnded) → end_code end < 5
end_code-lt Good = omega arith
end_code-lt (Short item) = omega arith
end_code-lt (Over item) = omega arith
end_code-lt PortFailed = omega arith
end_code-lt Stranger = omega arith

-- an end that has no item has the item 0
item_none : (end : CycleEnded) → has_item (end_code end) ≡ false → end_item end ≡ 0
item_none Good none = refl
item_none (Short item) none = cc
item_none (Over item) none = cc
item_none PortFailed none = refl
item_none Stranger none = refl

-- ---- flags

-- a flag as a number, and back
bit_of-le : (flag : Bool) → bit_of flag ≤ 1
bit_of-le true = omega arith
bit_of-le false = omega arith

bit_of-one : (flag : Bool) → (bit_of flag == 1) ≡ flag
bit_of-one true = refl
bit_of-one false = refl

twice : (flag : Bool) → not (not flag) ≡ flag
twice true = refl
twice false = refl

bit_of-odd : (n : ℕ) → bit_of (n % 2 == 1) ≡ n % 2
bit_of-odd n = grind (arith, nat_tests)

-- the byte of four flags has no other, and each of them
flags_byte-lt : (o a b s : Bool) → flags_byte o a b s < 16
flags_byte-lt o a b s = omega (arith, bit_of-le (not o), bit_of-le a, bit_of-le b, bit_of-le s)

in_op-flags_byte : (o a b s : Bool) → not (has_flag 1 (flags_byte o a b s)) ≡ o
in_op-flags_byte o a b s =
    let bit : flags_byte o a b s / 1 % 2 ≡ bit_of (not o) = omega (arith, bit_of-le (not o)) in
    ap (λ (n : ℕ). not (n == 1)) bit ∙ ap not (bit_of-one (not o)) ∙ twice o

missing_a-flags_byte : (o a b s : Bool) → has_flag 2 (flags_byte o a b s) ≡ a
missing_a-flags_byte o a b s =
    let bit : flags_byte o a b s / 2 % 2 ≡ bit_of a =
    omega (arith, bit_of-le (not o), bit_of-le a) in
    ap (λ (n : ℕ). n == 1) bit ∙ bit_of-one a

missing_b-flags_byte : (o a b s : Bool) → has_flag 4 (flags_byte o a b s) ≡ b
missing_b-flags_byte o a b s =
    let bit : flags_byte o a b s / 4 % 2 ≡ bit_of b =
    omega (arith, bit_of-le (not o), bit_of-le a, bit_of-le b) in
    ap (λ (n : ℕ). n == 1) bit ∙ bit_of-one b

stale-flags_byte : (o a b s : Bool) → has_flag 8 (flags_byte o a b s) ≡ s
stale-flags_byte o a b s =
    let bit : flags_byte o a b s / 8 % 2 ≡ bit_of s =
    omega (arith, bit_of-le (not o), bit_of-le a, bit_of-le b, bit_of-le s) in
    ap (λ (n : ℕ). n == 1) bit ∙ bit_of-one s

-- a byte with no other flag is that of the flags that it says
flags_byte-said : (byte : ℕ) → byte < 16
    → flags_byte (not (has_flag 1 byte)) (has_flag 2 byte) (has_flag 4 byte) (has_flag 8 byte) ≡ byte
flags_byte-said byte small =
    let b0 : bit_of (not (not (has_flag 1 byte))) ≡ byte / 1 % 2 =
    ap bit_of (twice (has_flag 1 byte)) ∙ bit_of-odd (byte / 1) in
    omega (arith, b0, bit_of-odd (byte / 2), bit_of-odd (byte / 4), bit_of-odd (byte / 8))

-- ---- reports by their fields

-- a report by its fields
abbrev pub report_with : ℕ → ℕ → CycleEnded → Bool → Bool → Bool → Bool → ℕ → Option ℕ → List ℕ → ReportValue
report_with c t e o a b s l n xs = record {
  cycle = c;
  at = t;
  end = e;
  in_op = o;
  missing_a = a;
  missing_b = b;
  stale = s;
  late = l;
  inputs_of = n;
  inputs = xs;
}

-- a report whose fields are those of another is that one
pub report_with-same : (c t : ℕ) (e : CycleEnded) (o a b s : Bool) (l : ℕ) (n : Option ℕ) (xs : List ℕ)
    (v : ReportValue) → c ≡ v.cycle → t ≡ v.at → e ≡ v.end → o ≡ v.in_op → a ≡ v.missing_a
    → b ≡ v.missing_b → s ≡ v.stale → l ≡ v.late → n ≡ v.inputs_of → xs ≡ v.inputs
    → report_with c t e o a b s l n xs ≡ v
report_with-same c t e o a b s l n xs v e0 e1 e2 e3 e4 e5 e6 e7 e8 e9 =
    rw (e0, e1, e2, e3, e4, e5, e6, e7, e8, e9) refl

-- ---- fields behind the front

-- The fields of a report behind its front have no fault.
record HasFields (bytes : List ℕ) : Type 0 where
  end_is : said_end bytes < 5
  flags_are : said_flags bytes < 16
  item_is : has_item (said_end bytes) ≡ false → said_item bytes ≡ 0
  inputs_are : is_none (said_inputs_of bytes) ≡ true → length bytes ≤ 40

HasFields-none : (bytes : List ℕ) → fields_fault bytes ≡ None → HasFields bytes
unfolding fields_fault
HasFields-none bytes none =
    let tests = NoneHolds-first_of (field_tests bytes) none in
    let t0 : nat_lt 4 (said_end bytes) ≡ false = tests.0 in
    let t1 : nat_lt 15 (said_flags bytes) ≡ false = tests.1.0 in
    record {
      end_is = grind (arith, nat_tests);
      flags_are = grind (arith, nat_tests);
      item_is = no_item (has_item (said_end bytes)) (said_item bytes) tests.1.1.0;
      inputs_are = no_inputs (is_none (said_inputs_of bytes)) (length bytes) tests.1.1.1.0;
    }
  where
    no_item : (has : Bool) (item : ℕ) → (not has && not (item == 0)) ≡ false → has ≡ false → item ≡ 0
    no_item has item test none = grind (arith, nat_tests)

    no_inputs : (none : Bool) (long : ℕ) → (none && nat_lt 40 long) ≡ false → none ≡ true → long ≤ 40
    no_inputs none long test is = grind (arith, nat_tests)

fields_fault-HasFields : (bytes : List ℕ) → HasFields bytes → fields_fault bytes ≡ None
unfolding fields_fault
fields_fault-HasFields bytes has =
    let t0 : nat_lt 4 (said_end bytes) ≡ false = grind (arith, nat_tests, has.end_is) in
    let t1 : nat_lt 15 (said_flags bytes) ≡ false = grind (arith, nat_tests, has.flags_are) in
    first_of-NoneHolds (field_tests bytes) (
      t0,
      (
        t1,
        (
          some_item (has_item (said_end bytes)) (said_item bytes) has.item_is,
          (some_inputs (is_none (said_inputs_of bytes)) (length bytes) has.inputs_are, tt),
        ),
      ),
    )
  where
    some_item : (has : Bool) (item : ℕ) → (has ≡ false → item ≡ 0)
        → (not has && not (item == 0)) ≡ false
    some_item true item none = refl
    some_item false item none = ap (λ (n : ℕ). not (n == 0)) (none refl)

    some_inputs : (none : Bool) (long : ℕ) → (none ≡ true → long ≤ 40) → (none && nat_lt 40 long) ≡ false
    some_inputs true long few = let room : long ≤ 40 = few refl in over long room
      where
        over : (long : ℕ) → long ≤ 40 → nat_lt 40 long ≡ false
        over long room = grind (arith, nat_tests)
    some_inputs false long few = refl

-- ---- bytes without a fault

-- the inputs are as many as the front says
inputs_said : (bytes : List ℕ) → HasFront 40 report_kind bytes → said_length bytes ≡ length (drop 40 bytes)
inputs_said bytes has = omega (arith, has.whole, length-drop 40 bytes)

-- the bytes from the end on are those of what they say
end-split : (bytes : List ℕ) → AreBytes bytes → 40 ≤ length bytes → HasFields bytes
    → let v = report_at bytes in
    drop 24 bytes ≡ end_code v.end ∷ flags_byte v.in_op v.missing_a v.missing_b v.stale
    ∷ to_le_bytes w16 (end_item v.end)
    ++ to_le_bytes w32 v.late ++ to_le_bytes w64 (cycle_number v.inputs_of) ++ v.inputs
end-split bytes all room has =
    let v = report_at bytes in
    let flags = flags_byte v.in_op v.missing_a v.missing_b v.stale in
    let at_24 : drop 24 bytes ≡ get_or bytes 24 0 ∷ drop 25 bytes = drop-cons bytes 24 0 (omega arith) in
    let at_25 : drop 25 bytes ≡ get_or bytes 25 0 ∷ drop 26 bytes = drop-cons bytes 25 0 (omega arith) in
    at_24
    ∙ ap (λ (n : ℕ). n ∷ drop 25 bytes) (sym (end_code-end_of (said_end bytes) (said_item bytes) has.end_is))
    ∙ ap (λ (xs : List ℕ). end_code v.end ∷ xs)
    (at_25 ∙ ap (λ (n : ℕ). n ∷ drop 26 bytes) (sym (flags_byte-said (said_flags bytes) has.flags_are))
    ∙ ap (λ (xs : List ℕ). flags ∷ xs)
    (two_at 26 bytes all (omega arith)
    ∙ ap (λ (n : ℕ). to_le_bytes w16 n ++ drop 28 bytes)
    (sym (end_item-end_of (said_end bytes) (said_item bytes) has.end_is has.item_is))
    ∙ ap (λ (xs : List ℕ). to_le_bytes w16 (end_item v.end) ++ xs)
    (four_at 28 bytes all (omega arith)
    ∙ ap (λ (xs : List ℕ). to_le_bytes w32 v.late ++ xs)
    (eight_at 32 bytes all room
    ∙ ap (λ (n : ℕ). to_le_bytes w64 n ++ drop 40 bytes)
    (sym (cycle_number-cycle_of (from_le_bytes w64 (drop 32 bytes))))))))

-- bytes without a fault are those of what they say
report_bytes-report_at : (bytes : List ℕ) → AreBytes bytes → HasFront 40 report_kind bytes → HasFields bytes
    → bytes ≡ report_bytes (report_at bytes)
unfolding report_bytes
report_bytes-report_at bytes all front_is has =
    let room = front_is.room in
    let v = report_at bytes in
    front-split 40 report_kind bytes (omega arith) all front_is
    ∙ ap (λ (n : ℕ). front report_kind n ++ drop 8 bytes) (inputs_said bytes front_is)
    ∙ ap (λ (xs : List ℕ). front report_kind (length v.inputs) ++ xs)
    (eight_at 8 bytes all (omega arith)
    ∙ ap (λ (xs : List ℕ). to_le_bytes w64 v.cycle ++ xs)
    (eight_at 16 bytes all (omega arith)
    ∙ ap (λ (xs : List ℕ). to_le_bytes w64 v.at ++ xs) (end-split bytes all room has)))

-- what they say can be said
IsReportValue-report_at : (bytes : List ℕ) → AreBytes bytes → HasFront 40 report_kind bytes
    → HasFields bytes → IsReportValue (report_at bytes)
IsReportValue-report_at bytes all front_is has =
    let number = from_le_bytes w64 (drop 32 bytes) in
    record {
      cycle = eight-lt (drop 8 bytes) (AreBytes-drop 8 bytes all);
      at = eight-lt (drop 16 bytes) (AreBytes-drop 16 bytes all);
      item = rw (end_item-end_of (said_end bytes) (said_item bytes) has.end_is has.item_is)
          (two-lt (drop 26 bytes) (AreBytes-drop 26 bytes all));
      late = four-lt (drop 28 bytes) (AreBytes-drop 28 bytes all);
      inputs_of = IsSpellable-cycle_of number (eight-lt (drop 32 bytes) (AreBytes-drop 32 bytes all));
      inputs = omega (arith, inputs_said bytes front_is, said_length-lt bytes all);
      none = by_cycle (said_inputs_of bytes) has.inputs_are;
    }
  where
    by_cycle : (o : Option ℕ) → (is_none o ≡ true → length bytes ≤ 40) → IfNone o (drop 40 bytes ≡ [])
    by_cycle None few = drop_of_length-le bytes (few refl)
    by_cycle (Some n) few = tt

-- so they are a report
pub IsReport-report_at : (bytes : List ℕ) → AreBytes bytes → report_fault bytes ≡ None
    → IsReport bytes (report_at bytes)
IsReport-report_at bytes all none =
    let good = front-good bytes none in
    let front_is = HasFront-none 40 report_kind bytes good in
    let has = HasFields-none bytes (sym (report_fault-fields bytes good) ∙ none) in
    record {
      value = IsReportValue-report_at bytes all front_is has;
      spelt = report_bytes-report_at bytes all front_is has;
    }

-- the same of what equals what they say
pub IsReport-said : (bytes : List ℕ) (v : ReportValue) → AreBytes bytes → report_fault bytes ≡ None
    → v ≡ report_at bytes → IsReport bytes v
IsReport-said bytes v all none is =
    let P : ReportValue → Type 0 = IsReport bytes in subst P (sym is) (IsReport-report_at bytes all none)

-- a report has room for its head
pub report-room : (bytes : List ℕ) → report_fault bytes ≡ None → 40 ≤ length bytes
report-room bytes none = (HasFront-none 40 report_kind bytes (front-good bytes none)).room

-- ---- the bytes of a report

-- the item and the cycle that they say
said_item-report_bytes : (v : ReportValue) → IsReportValue v
    → said_item (report_bytes v) ≡ end_item v.end
unfolding report_bytes
said_item-report_bytes v value = from_le_bytes-to_le_bytes_2 (end_item v.end) value.item

said_inputs_of-report_bytes : (v : ReportValue) → IsReportValue v
    → said_inputs_of (report_bytes v) ≡ v.inputs_of
unfolding report_bytes
said_inputs_of-report_bytes v value =
    ap cycle_of
    (from_le_bytes-to_le_bytes_8 (cycle_number v.inputs_of) (cycle_number-lt v.inputs_of value.inputs_of))
    ∙ cycle_of-cycle_number v.inputs_of value.inputs_of

-- they say what the report says
report_at-report_bytes : (v : ReportValue) → IsReportValue v → report_at (report_bytes v) ≡ v
unfolding report_bytes
report_at-report_bytes v value =
    report_with-same _ _ _ _ _ _ _ _ _ _ v
    (from_le_bytes-to_le_bytes_8 v.cycle value.cycle)
    (from_le_bytes-to_le_bytes_8 v.at value.at)
    (ap (λ (item : ℕ). end_of (end_code v.end) item) (said_item-report_bytes v value) ∙ end_of-end v.end)
    (in_op-flags_byte v.in_op v.missing_a v.missing_b v.stale)
    (missing_a-flags_byte v.in_op v.missing_a v.missing_b v.stale)
    (missing_b-flags_byte v.in_op v.missing_a v.missing_b v.stale)
    (stale-flags_byte v.in_op v.missing_a v.missing_b v.stale)
    (from_le_bytes-to_le_bytes_4 v.late value.late)
    (said_inputs_of-report_bytes v value)
    refl

-- they have the front of a report
HasFront-report_bytes : (v : ReportValue) → IsReportValue v → HasFront 40 report_kind (report_bytes v)
unfolding report_bytes
HasFront-report_bytes v value =
    let few = value.inputs in
    let said : said_length (report_bytes v) ≡ length v.inputs =
    from_le_bytes-to_le_bytes_2 (length v.inputs) (omega arith) in
    record {
      room = omega arith;
      letters_are = refl;
      version_is = refl;
      kind_is = refl;
      whole = omega (arith, said);
    }

-- and its fields
HasFields-report_bytes : (v : ReportValue) → IsReportValue v → HasFields (report_bytes v)
unfolding report_bytes
HasFields-report_bytes v value = record {
  end_is = end_code-lt v.end;
  flags_are = flags_byte-lt v.in_op v.missing_a v.missing_b v.stale;
  item_is = λ none. said_item-report_bytes v value ∙ item_none v.end none;
  inputs_are = λ none. let empty : length v.inputs ≡ 0 =
      by_cycle v.inputs_of v.inputs value.none (ap is_none (sym (said_inputs_of-report_bytes v value)) ∙ none)
      in omega arith;
}
  where
    by_cycle : (o : Option ℕ) (xs : List ℕ) → IfNone o (xs ≡ []) → is_none o ≡ true → length xs ≡ 0
    by_cycle None xs empty none = ap length empty
    by_cycle (Some n) xs empty none = cc

-- what is a report says one thing
pub report_at-IsReport : (bytes : List ℕ) (v : ReportValue) → IsReport bytes v → report_at bytes ≡ v
report_at-IsReport bytes v is =
    ap (λ (xs : List ℕ). report_at xs) is.spelt ∙ report_at-report_bytes v is.value

-- and has no fault
pub report_fault-IsReport : (bytes : List ℕ) (v : ReportValue) → IsReport bytes v → report_fault bytes ≡ None
report_fault-IsReport bytes v is =
    let good = front_fault-HasFront 40 report_kind (report_bytes v) (HasFront-report_bytes v is.value) in
    ap (λ (xs : List ℕ). report_fault xs) is.spelt ∙ report_fault-fields (report_bytes v) good
    ∙ fields_fault-HasFields (report_bytes v) (HasFields-report_bytes v is.value)

-- bytes are one report at most
pub one_report : (bytes : List ℕ) (v w : ReportValue) → IsReport bytes v → IsReport bytes w → v ≡ w
one_report bytes v w is_v is_w = sym (report_at-IsReport bytes v is_v) ∙ report_at-IsReport bytes w is_w

-- no order is a report
pub no_order : (bytes : List ℕ) (v : OrderValue) (w : ReportValue) → IsOrder bytes v → IsReport bytes w → ⊥
unfolding order_bytes report_bytes
no_order bytes v w is_v is_w =
    let same : order_bytes v ≡ report_bytes w = sym is_v.spelt ∙ is_w.spelt in
    let kind : get_or (order_bytes v) 5 0 ≡ get_or (report_bytes w) 5 0 =
    ap (λ (xs : List ℕ). get_or xs 5 0) same in
    omega (arith, kind)
