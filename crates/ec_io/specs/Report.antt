-- A report is what a master tells of a cycle: a head of 40 bytes, and the inputs behind it.
use Rattle.std.specs.Prelude.{◌≡◌, ◌≤◌, ◌<◌, ℕ, ◌^◌, ◌==◌, nat_lt, Bool, not, ◌&&◌}
use Rattle.std.specs.Prelude.{is_none, IfNone, List, [], ◌∷◌, ◌++◌, length, drop, slice_index, Option}
use Rattle.std.specs.Int.{w16, w32, w64, to_le_bytes, from_le_bytes}
use Rattle.ec_io.specs.Cycle.{cycle_number, cycle_of, IsSpellable, front}
use Rattle.ec_io.specs.Fault.{first_of, front_tests}
use Rattle.ec_io.specs.declared.fault.PacketFault.{PacketFault}
use Rattle.ec_io.specs.declared.fault.PacketFault.TheVariants.{BadEnd, BadFlags, BadItem, BadInputs}
use Rattle.ec_io.specs.End.{end_code, end_item, end_of, has_item}
use Rattle.ec_io.specs.Flags.{flags_byte, has_flag}
use Rattle.ec_io.specs.declared.end.CycleEnded.{CycleEnded}
use Rattle.ec_io.specs.declared.report.Report.{Report}

-- the kind of a report
abbrev pub report_kind : ℕ
report_kind = 2

-- what a report says, without where its inputs lie
pub record ReportValue : Type 0 where
  pub cycle : ℕ
  pub at : ℕ
  pub end : CycleEnded
  pub in_op : Bool
  pub missing_a : Bool
  pub missing_b : Bool
  pub stale : Bool
  pub late : ℕ
  pub inputs_of : Option ℕ
  pub inputs : List ℕ

-- what a `Report` says
abbrev pub report_value : Report → ReportValue
report_value r = record {
  cycle = r.cycle;
  at = r.at;
  end = r.end;
  in_op = r.in_op;
  missing_a = r.missing_a;
  missing_b = r.missing_b;
  stale = r.stale;
  late = r.late;
  inputs_of = r.inputs_of;
  inputs = r.inputs.now;
}

-- ---- the bytes

-- the head of a report
abbrev pub report_head : ReportValue → List ℕ
report_head v =
    front report_kind (length v.inputs) ++ to_le_bytes w64 v.cycle ++ to_le_bytes w64 v.at
    ++ end_code v.end ∷ flags_byte v.in_op v.missing_a v.missing_b v.stale
    ∷ to_le_bytes w16 (end_item v.end)
    ++ to_le_bytes w32 v.late ++ to_le_bytes w64 (cycle_number v.inputs_of)

-- the bytes of a report
unfoldable pub report_bytes : ReportValue → List ℕ
report_bytes v = report_head v ++ v.inputs

-- what a report can say: its numbers fit their fields, and there are inputs only of a cycle
pub record IsReportValue (v : ReportValue) : Type 0 where
  pub cycle : v.cycle < 2 ^ 64
  pub at : v.at < 2 ^ 64
  pub item : end_item v.end < 2 ^ 16
  pub late : v.late < 2 ^ 32
  pub inputs_of : IsSpellable v.inputs_of
  pub inputs : length v.inputs ≤ 65535
  pub none : IfNone v.inputs_of (v.inputs ≡ [])

-- The bytes are a report that says so.
pub record IsReport (bytes : List ℕ) (v : ReportValue) : Type 0 where
  pub value : IsReportValue v
  pub spelt : bytes ≡ report_bytes v

-- ---- the way back

-- the fields of a report's bytes
abbrev pub said_end : List ℕ → ℕ
said_end bytes = slice_index bytes 24

abbrev pub said_flags : List ℕ → ℕ
said_flags bytes = slice_index bytes 25

abbrev pub said_item : List ℕ → ℕ
said_item bytes = from_le_bytes w16 (drop 26 bytes)

abbrev pub said_inputs_of : List ℕ → Option ℕ
said_inputs_of bytes = cycle_of (from_le_bytes w64 (drop 32 bytes))

-- what the bytes of a report say
abbrev pub report_at : List ℕ → ReportValue
report_at bytes = record {
  cycle = from_le_bytes w64 (drop 8 bytes);
  at = from_le_bytes w64 (drop 16 bytes);
  end = end_of (said_end bytes) (said_item bytes);
  in_op = not (has_flag 1 (said_flags bytes));
  missing_a = has_flag 2 (said_flags bytes);
  missing_b = has_flag 4 (said_flags bytes);
  stale = has_flag 8 (said_flags bytes);
  late = from_le_bytes w32 (drop 28 bytes);
  inputs_of = said_inputs_of bytes;
  inputs = drop 40 bytes;
}

-- the tests that a report has to pass behind those of its front
abbrev pub field_tests : List ℕ → List (Bool × PacketFault)
field_tests bytes =
    (nat_lt 4 (said_end bytes), BadEnd (said_end bytes))
    ∷ (nat_lt 15 (said_flags bytes), BadFlags (said_flags bytes))
    ∷ (not (has_item (said_end bytes)) && not (said_item bytes == 0), BadItem (said_item bytes))
    ∷ (is_none (said_inputs_of bytes) && nat_lt 40 (length bytes), BadInputs)
    ∷ []

-- the fault that they find
unfoldable pub fields_fault : List ℕ → Option PacketFault
fields_fault bytes = first_of (field_tests bytes)

-- the first fault of bytes that are no report
unfoldable pub report_fault : List ℕ → Option PacketFault
report_fault bytes = first_of (front_tests 40 report_kind bytes ++ field_tests bytes)
