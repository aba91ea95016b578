-- What is found of a line by records that were read back of it is so of the line: where items may go, by how
-- much their counters move, and which bits they leave out.
use Rattle.std.proofs.Common.{◌≡◌, ◌↔◌, ℕ, zero, suc, ◌+◌, ◌%◌, ◌<◌, ◌∙◌, ◌||◌, ◌&&◌, arith, ap, sym, refl, leb}
use Rattle.std.proofs.Common.{None, List, [], ◌∷◌, length, map, sum_by, subst}
use Rattle.std.proofs.lemmas.List.{length-replicate}
use Rattle.std.proofs.lemmas.List.Sums.{sum_by-cons}
use Rattle.std.specs.List.{list_any}
use Rattle.ec_regs.specs.declared.fmmu.Fmmu.{Fmmu}
use Rattle.ec_regs.specs.declared.registers.TheConstants.{PROCESS_MEMORY}
use Rattle.ec_wire.specs.Datagram.{adp_of, ado_of}
use Rattle.ec_areas.specs.Records.{fmmu_at, sync_manager_at, sync_managers_of}
use Rattle.ec_esc.specs.State.{ControllerState}
use Rattle.ec_check.specs.Fit.{IsFit}
use Rattle.ec_check.specs.Line.{controller_of, station_of, fmmu_of, sync_manager_of}
use Rattle.ec_check.specs.Records.{controller_with}
use Rattle.ec_check.specs.Rules.{MapsLogical}
use Rattle.ec_check.specs.declared.records.Records.{Records}
use Rattle.ec_check.proofs.Laws.{same_length, same_station}
use Rattle.ec_map.specs.Covered.{IsGap, goes, asks_bit}
use Rattle.ec_map.specs.Covered.{asks as asks_way}
use Rattle.ec_map.specs.Item.{ItemRecord, IsItem, AsksTheSame, item_fault, is_bit_of}
use Rattle.ec_map.specs.Place.{IsPlaced, IsPlaceFault, IsFirstOfStation, is_input_run, is_output_run}
use Rattle.ec_map.specs.Share.{share, expected_of}
use Rattle.ec_map.specs.declared.covered.Gap.{Gap}
use Rattle.ec_map.specs.declared.covered.Way.{Way}
use Rattle.ec_map.specs.declared.place.PlaceFault.{PlaceFault}
use Rattle.ec_map.specs.declared.place.PlaceFault.TheVariants.{OutsideRead, OutsideWrite}
use Rattle.ec_map.proofs.Laws.{share_asked, expected_by_mapping}
use Rattle.rummymaple.specs.Asked.{request, requests}
use Rattle.rummymaple.specs.Items.{asked, refusal, AreTaken}
use Rattle.rummymaple.specs.Mapping.{line_of}
use Rattle.rummymaple.specs.ReadBack.{AreOf, AreOfLine}
use Rattle.rummymaple.specs.declared.item.Item.{Item}
use Rattle.rummymaple.proofs.ImageLemmas.{length-range}
use Rattle.rummymaple.proofs.ItemLemmas.{taken}
use Rattle.rummymaple.proofs.ReadBackLemmas.{fmmu_read, sync_manager_read, sync_managers_read, line_read}

-- ---- lines of which the checks find the same

pub record SameLine (x y : List ControllerState) : Type 0 where
  pub count : length x ≡ length y
  pub station : (k : ℕ) → station_of x k ≡ station_of y k
  pub managers : (k : ℕ) → k < length x
      → sync_managers_of (controller_of x k).memory ≡ sync_managers_of (controller_of y k).memory
  pub fmmu : (k n : ℕ) → k < length x → n < 8 → fmmu_of x k n ≡ fmmu_of y k n
  pub manager : (k n : ℕ) → k < length x → n < 8 → sync_manager_of x k n ≡ sync_manager_of y k n

pub same-back : (x y : List ControllerState) → SameLine x y → SameLine y x
same-back x y same = record {
  count = sym same.count;
  station = λ k. sym (same.station k);
  managers = λ k inside. sym (same.managers k (omega (arith, inside, same.count)));
  fmmu = λ k n inside there. sym (same.fmmu k n (omega (arith, inside, same.count)) there);
  manager = λ k n inside there. sym (same.manager k n (omega (arith, inside, same.count)) there);
}

-- a slave of the line, and its records
record SlaveRead (records : List Records) (line : List ControllerState) (k : ℕ) : Type 0 where
  own : Records
  of : AreOf own (controller_of line k)
  is : controller_of (line_of records) k ≡ controller_with own

slave-read : (rs : List Records) (line : List ControllerState) (k : ℕ) → AreOfLine rs line → k < length line
    → SlaveRead rs line k
slave-read [] [] k are inside = absurd (omega (arith, inside))
slave-read (r ∷ rs) (c ∷ cs) zero are inside = record { own = r; of = are.0; is = refl }
slave-read (r ∷ rs) (c ∷ cs) (suc k) are inside =
    let read : SlaveRead rs cs k = slave-read rs cs k are.1 (omega (arith, inside)) in
    record { own = read.own; of = read.of; is = read.is }
slave-read [] (c ∷ cs) k are inside = absurd are
slave-read (r ∷ rs) [] k are inside = absurd are

same-fmmu : (rs : List Records) (line : List ControllerState) (k n : ℕ) → AreOfLine rs line → k < length line
    → n < 8 → fmmu_of (line_of rs) k n ≡ fmmu_of line k n
unfolding fmmu_of
same-fmmu rs line k n are inside there =
    let read : SlaveRead rs line k = slave-read rs line k are inside in
    ap (λ (c : ControllerState). fmmu_at c.memory n) read.is
    ∙ fmmu_read read.own (controller_of line k) n read.of there

same-manager : (rs : List Records) (line : List ControllerState) (k n : ℕ) → AreOfLine rs line → k < length line
    → n < 8 → sync_manager_of (line_of rs) k n ≡ sync_manager_of line k n
unfolding sync_manager_of
same-manager rs line k n are inside there =
    let read : SlaveRead rs line k = slave-read rs line k are inside in
    ap (λ (c : ControllerState). sync_manager_at c.memory n) read.is
    ∙ sync_manager_read read.own (controller_of line k) n read.of there

pub same-line : (rs : List Records) (line : List ControllerState) → AreOfLine rs line → SameLine (line_of rs) line
same-line rs line are =
    let count : length (line_of rs) ≡ length line = same_length line (line_of rs) (line_read rs line are) in
    record {
      count = count;
      station = λ k. same_station line (line_of rs) k (line_read rs line are);
      managers = λ k inside.
          let read : SlaveRead rs line k = slave-read rs line k are (omega (arith, inside, count)) in
          ap (λ (c : ControllerState). sync_managers_of c.memory) read.is
          ∙ sync_managers_read read.own (controller_of line k) read.of;
      fmmu = λ k n inside there. same-fmmu rs line k n are (omega (arith, inside, count)) there;
      manager = λ k n inside there. same-manager rs line k n are (omega (arith, inside, count)) there;
    }

-- ---- where an item may go

first-same : (x y : List ControllerState) (a b slave : ℕ) → SameLine x y → b ≡ a → IsFirstOfStation x a slave
    → IsFirstOfStation y b slave
first-same x y a b slave same named first = record {
  there = omega (arith, first.there, same.count);
  same = sym (same.station slave) ∙ first.same ∙ sym named;
  first = λ k below is. first.first k below (same.station k ∙ is ∙ named);
}

pub place-same : (x y : List ControllerState) (r s : ItemRecord) (fault : PlaceFault) → SameLine x y
    → AsksTheSame r s → IsPlaceFault x r fault → IsPlaceFault y s fault
place-same x y r s (OutsideRead slave address) same asks is = record {
  kind = asks.kind ∙ is.kind;
  slave_named = first-same x y _ _ slave same (ap adp_of asks.address) is.slave_named;
  outside =
      (λ t. leb (ado_of (asks.address t) + asks.size t) PROCESS_MEMORY
      || list_any (is_input_run (ado_of (asks.address t)) (asks.size t))
      (sym (same.managers slave is.slave_named.there) t))
      ∙ is.outside;
  address_named = is.address_named ∙ sym (ap ado_of asks.address);
}
place-same x y r s (OutsideWrite slave address) same asks is = record {
  kind = asks.kind ∙ is.kind;
  slave_named = first-same x y _ _ slave same (ap adp_of asks.address) is.slave_named;
  outside =
      (λ t. list_any (is_output_run (ado_of (asks.address t)) (asks.size t))
      (sym (same.managers slave is.slave_named.there) t))
      ∙ is.outside;
  address_named = is.address_named ∙ sym (ap ado_of asks.address);
}

-- ---- an item as it goes out asks what it asks of any data

pub asks-same : (image : List ℕ) (i : Item) → refusal (length image) i ≡ None
    → AsksTheSame (request i) (asked image i)
asks-same image i is = record {
  kind = refl;
  address = refl;
  size = length-range i.offset i.length image (taken (length image) i is).place
      ∙ sym (length-replicate i.length 0);
}

pub asks-back : (r s : ItemRecord) → AsksTheSame r s → AsksTheSame s r
asks-back r s asks =
    record { kind = sym asks.kind; address = sym asks.address; size = sym asks.size }

pub outside-same : (rs : List Records) (line : List ControllerState) (image : List ℕ) (i : Item)
    (fault : PlaceFault) → AreOfLine rs line → refusal (length image) i ≡ None
    → IsPlaceFault (line_of rs) (request i) fault ↔ IsPlaceFault line (asked image i) fault
outside-same rs line image i fault are is =
    let same : SameLine (line_of rs) line = same-line rs line are in
    let asks : AsksTheSame (request i) (asked image i) = asks-same image i is in (
      place-same (line_of rs) line (request i) (asked image i) fault same asks,
      place-same line (line_of rs) (asked image i) (request i) fault (same-back (line_of rs) line same)
          (asks-back (request i) (asked image i) asks),
    )

-- ---- its counter

item-request : (image : List ℕ) (i : Item) → AsksTheSame (request i) (asked image i) → IsItem (asked image i)
    → IsItem (request i)
item-request image i asks item = record {
  good = subst (λ n. item_fault (request i).kind i.address n ≡ None) asks.size item.good;
  address = item.address;
  counter = omega arith;
  adp = omega arith;
}

sum-same : (r s : ItemRecord) (line : List ControllerState) → IsItem r → IsItem s → AsksTheSame r s
    → sum_by (share r) line ≡ sum_by (share s) line
sum-same r s [] item_r item_s asks = refl
sum-same r s (c ∷ cs) item_r item_s asks =
    omega (
      arith,
      sum_by-cons (share r) c cs,
      sum_by-cons (share s) c cs,
      share_asked r s c item_r item_s asks,
      sum-same r s cs item_r item_s asks,
    )

pub expected-same : (rs : List Records) (line : List ControllerState) (image : List ℕ) (i : Item)
    → AreOfLine rs line → refusal (length image) i ≡ None → IsItem (asked image i) → IsFit (line_of rs)
    → IsPlaced (line_of rs) (request i)
    → expected_of (line_of rs) (request i) ≡ expected_of line (asked image i)
expected-same rs line image i are is item fit placed =
    let asks : AsksTheSame (request i) (asked image i) = asks-same image i is in
    let own : IsItem (request i) = item-request image i asks item in
    sym
    (expected_by_mapping (line_of rs) line (request i) (sym (line_read rs line are)) fit own placed)
    ∙ ap (λ (n : ℕ). n % 65536) (sum-same (request i) (asked image i) line own item asks)

-- ---- bits that no item asks for

gap-same : (x y : List ControllerState) (rs ss : List ItemRecord) (gap : Gap) → SameLine x y
    → list_any (asks_bit gap.way gap.bit) ss ≡ list_any (asks_bit gap.way gap.bit) rs → IsGap x rs gap
    → IsGap y ss gap
gap-same x y rs ss gap same asks is =
    let fmmu : fmmu_of x gap.slave gap.fmmu ≡ fmmu_of y gap.slave gap.fmmu =
    same.fmmu gap.slave gap.fmmu is.there.slave_there is.there.number_there in
    record {
      there = record {
        slave_there = omega (arith, is.there.slave_there, same.count);
        number_there = is.there.number_there;
      };
      way = ap (goes gap.way) (sym fmmu) ∙ is.way;
      mapped = subst (λ (f : Fmmu). MapsLogical f gap.bit) fmmu is.mapped;
      unasked = asks ∙ is.unasked;
    }

any-asked : (image : List ℕ) (items : List Item) (way : Way) (bit : ℕ) → AreTaken (length image) items
    → list_any (asks_bit way bit) (map (asked image) items) ≡ list_any (asks_bit way bit) (requests items)
any-asked image [] way bit are = refl
any-asked image (i ∷ items) way bit are =
    let asks : AsksTheSame (request i) (asked image i) = asks-same image i (are zero i refl) in
    let rest = any-asked image items way bit (λ k j is. are (suc k) j is) in
    λ t. (asks_way way (request i).kind && is_bit_of i.address (asks.size t) bit) || rest t

pub gaps-same : (rs : List Records) (line : List ControllerState) (image : List ℕ) (items : List Item)
    (gap : Gap) → AreOfLine rs line → AreTaken (length image) items
    → IsGap (line_of rs) (requests items) gap ↔ IsGap line (map (asked image) items) gap
gaps-same rs line image items gap are taken =
    let same : SameLine (line_of rs) line = same-line rs line are in
    let asks = any-asked image items gap.way gap.bit taken in (
      gap-same (line_of rs) line (requests items) (map (asked image) items) gap same asks,
      gap-same line (line_of rs) (map (asked image) items) (requests items) gap
          (same-back (line_of rs) line same) (sym asks),
    )
