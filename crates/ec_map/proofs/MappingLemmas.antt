-- Where items may go hangs on the line's mapping and on what they ask, and so does what is expected of them.
use Rattle.std.proofs.Common.{◌≡◌, ℕ, ◌+◌, ◌%◌, ◌||◌, cond, leb, sym, ◌∙◌, ap, refl, arith}
use Rattle.std.proofs.Common.{List, [], ◌∷◌, length, get_or, drop}
use Rattle.std.specs.Prelude.{sum_by}
use Rattle.std.specs.List.{AllByRecursion, list_any}
use Rattle.std.proofs.lemmas.List.Sums.{sum_by-cons}
use Rattle.ec_regs.specs.SyncMan.{is_active}
use Rattle.ec_regs.specs.declared.registers.TheConstants.{PROCESS_MEMORY}
use Rattle.ec_wire.specs.Datagram.{adp_of, ado_of}
use Rattle.ec_wire.specs.declared.command.Addressing.TheVariants.{ConfiguredStation}
use Rattle.ec_wire.specs.declared.kind.Kind.{Kind}
use Rattle.ec_wire.specs.declared.kind.Kind.TheVariants.{Lrd, Lwr, Lrw, Brd, Fprd, Fpwr}
use Rattle.ec_areas.specs.Records.{sync_managers_of}
use Rattle.ec_esc.specs.Pass.{serves_reading, serves_writing}
use Rattle.ec_esc.specs.Pass.{serves_read as reads_bits, serves_write as writes_bits}
use Rattle.ec_esc.specs.State.{ControllerState}
use Rattle.ec_line.specs.Accepted.{Accepts}
use Rattle.ec_line.specs.Mapping.{Mapping, mapping_of, mapping}
use Rattle.ec_line.proofs.Laws.{gain_by_mapping}
use Rattle.ec_check.specs.Fit.{IsFit}
use Rattle.ec_check.specs.Line.{controller_of}
use Rattle.ec_check.proofs.Laws.{same_length, same_mapping, same_station}
use Rattle.ec_map.specs.Item.{ItemRecord, IsItem, AsksTheSame}
use Rattle.ec_map.specs.Place.{ado_named, is_input_run, is_output_run, may_read, may_write}
use Rattle.ec_map.specs.Place.{IsFirstOfStation, IsPlaceFault, IsPlaced}
use Rattle.ec_map.specs.Share.{share, request_of, expected_of}
use Rattle.ec_map.specs.declared.place.PlaceFault.{PlaceFault}
use Rattle.ec_map.specs.declared.place.PlaceFault.TheVariants.{OutsideRead, OutsideWrite}
use Rattle.ec_map.proofs.LawLemmas.{Accepts-IsPlaced, share_lrd, share_lwr, share_lrw, share_brd, share_fprd}
use Rattle.ec_map.proofs.LawLemmas.{share_fpwr}

-- ---- places

read_same : (c d : ControllerState) (from n : ℕ) → mapping_of d ≡ mapping_of c
    → may_read d from n ≡ may_read c from n
unfolding mapping_of sync_managers_of is_active
read_same c d from n same =
    ap (λ (m : Mapping). leb (from + n) PROCESS_MEMORY || list_any (is_input_run from n) m.sync_managers) same

write_same : (c d : ControllerState) (from n : ℕ) → mapping_of d ≡ mapping_of c
    → may_write d from n ≡ may_write c from n
unfolding mapping_of sync_managers_of is_active
write_same c d from n same = ap (λ (m : Mapping). list_any (is_output_run from n) m.sync_managers) same

first_same : (line later : List ControllerState) (a b slave : ℕ) → mapping later ≡ mapping line → b ≡ a
    → IsFirstOfStation later b slave → IsFirstOfStation line a slave
first_same line later a b slave alike same first = record {
  there = omega (arith, first.there, same_length line later alike);
  same = sym (same_station line later slave alike) ∙ first.same ∙ same;
  first = λ k below is. first.first k below (same_station line later k alike ∙ is ∙ sym same);
}

place_fault : (line later : List ControllerState) (r s : ItemRecord) (fault : PlaceFault)
    → mapping later ≡ mapping line → AsksTheSame r s → IsPlaceFault later s fault → IsPlaceFault line r fault
place_fault line later r s (OutsideRead slave address) alike asks is = record {
  kind = sym asks.kind ∙ is.kind;
  slave_named = first_same line later _ _ slave alike (ap adp_of asks.address) is.slave_named;
  outside =
      (λ i. may_read (controller_of line slave) (ado_of (sym asks.address i)) (sym asks.size i))
      ∙ sym (read_same (controller_of line slave) (controller_of later slave) (ado_named s)
      (length s.payload) (same_mapping line later slave alike))
      ∙ is.outside;
  address_named = is.address_named ∙ ap ado_of asks.address;
}
place_fault line later r s (OutsideWrite slave address) alike asks is = record {
  kind = sym asks.kind ∙ is.kind;
  slave_named = first_same line later _ _ slave alike (ap adp_of asks.address) is.slave_named;
  outside =
      (λ i. may_write (controller_of line slave) (ado_of (sym asks.address i)) (sym asks.size i))
      ∙ sym (write_same (controller_of line slave) (controller_of later slave) (ado_named s)
      (length s.payload) (same_mapping line later slave alike))
      ∙ is.outside;
  address_named = is.address_named ∙ ap ado_of asks.address;
}

pub placed_by_mapping : (line later : List ControllerState) (r s : ItemRecord)
    → mapping later ≡ mapping line → AsksTheSame r s → IsPlaced line r → IsPlaced later s
placed_by_mapping line later r s alike asks placed fault is =
    placed fault (place_fault line later r s fault alike asks is)

-- ---- shares

pub share_asked : (r s : ItemRecord) (c : ControllerState) → IsItem r → IsItem s → AsksTheSame r s
    → share s c ≡ share r c
share_asked r s c item_r item_s asks = by_kind r.kind refl
  where
    by_kind : (k : Kind) → r.kind ≡ k → share s c ≡ share r c
    by_kind Lrd is =
        share_lrd s c (asks.kind ∙ is) ∙ (λ i. cond (reads_bits c (asks.address i) (asks.size i)) 1 0)
        ∙ sym (share_lrd r c is)
    by_kind Lwr is =
        share_lwr s c (asks.kind ∙ is) ∙ (λ i. cond (writes_bits c (asks.address i) (asks.size i)) 1 0)
        ∙ sym (share_lwr r c is)
    by_kind Lrw is =
        share_lrw s c (asks.kind ∙ is)
        ∙ (λ i. cond (reads_bits c (asks.address i) (asks.size i)) 1 0
        + cond (writes_bits c (asks.address i) (asks.size i)) 2 0)
        ∙ sym (share_lrw r c is)
    by_kind Brd is = share_brd s c item_s (asks.kind ∙ is) ∙ sym (share_brd r c item_r is)
    by_kind Fprd is =
        share_fprd s c (asks.kind ∙ is)
        ∙ (λ i. cond (serves_reading ConfiguredStation c (asks.address i) (asks.size i)) 1 0)
        ∙ sym (share_fprd r c is)
    by_kind Fpwr is =
        share_fpwr s c (asks.kind ∙ is)
        ∙ (λ i. cond (serves_writing ConfiguredStation c (asks.address i) (asks.size i)) 1 0)
        ∙ sym (share_fpwr r c is)

-- ---- what is expected

shares_by_mapping : (r : ItemRecord) (line later : List ControllerState) → mapping later ≡ mapping line
    → AllByRecursion (Accepts (request_of r)) line → sum_by (share r) later ≡ sum_by (share r) line
shares_by_mapping r [] [] alike accepts = refl
shares_by_mapping r [] (d ∷ ds) alike accepts = absurd (omega (arith, same_length [] (d ∷ ds) alike))
shares_by_mapping r (c ∷ cs) [] alike accepts = absurd (omega (arith, same_length (c ∷ cs) [] alike))
shares_by_mapping r (c ∷ cs) (d ∷ ds) alike accepts =
    let first : mapping_of d ≡ mapping_of c =
    ap (λ (ms : List Mapping). get_or ms 0 (mapping_of c)) alike in
    let rest : mapping ds ≡ mapping cs = ap (λ (ms : List Mapping). drop 1 ms) alike in
    omega (
      arith,
      sum_by-cons (share r) d ds,
      sum_by-cons (share r) c cs,
      gain_by_mapping (request_of r) c d first accepts.0,
      shares_by_mapping r cs ds rest accepts.1,
    )

pub expected_by_mapping : (line later : List ControllerState) (r : ItemRecord) → mapping later ≡ mapping line
    → IsFit line → IsItem r → IsPlaced line r → expected_of later r ≡ expected_of line r
expected_by_mapping line later r alike fit item placed =
    ap (λ (n : ℕ). n % 65536) (shares_by_mapping r line later alike (Accepts-IsPlaced line r fit item placed))
