-- The areas of outputs that items do not show whole by records that were read back of a line are those of the
-- line.
use Rattle.std.proofs.Common.{◌≡◌, ◌↔◌, ⊎_elim, inl, inr, ℕ, zero, suc, ◌∙◌, ◌&&◌, arith, ap, sym, refl}
use Rattle.std.proofs.Common.{Some, List, [], ◌∷◌, length, map, subst}
use Rattle.std.specs.List.{slice_get}
use Rattle.std.proofs.lemmas.Option.{same_Some, slice_get_within}
use Rattle.ec_regs.specs.AddressRange.{within}
use Rattle.ec_regs.specs.Pairs.{writes, IsPair}
use Rattle.ec_regs.specs.SyncMan.{guards_outputs}
use Rattle.ec_regs.specs.declared.fmmu.Fmmu.{Fmmu}
use Rattle.ec_regs.specs.declared.sync_man.SyncMan.{SyncMan}
use Rattle.ec_wire.specs.Datagram.{adp_of, ado_of}
use Rattle.ec_areas.specs.Showing.{last_byte}
use Rattle.ec_esc.specs.State.{ControllerState}
use Rattle.ec_check.specs.Line.{fmmu_of, sync_manager_of, HasFmmu}
use Rattle.ec_check.specs.declared.records.Records.{Records}
use Rattle.ec_map.specs.Covered.{asks as asks_way}
use Rattle.ec_map.specs.Item.{ItemRecord, AsksTheSame, is_bit_of}
use Rattle.ec_map.specs.NotShown.{IsNotShown, IsMappedArea, IsLeftBy, IsNeverCompleted, IsWhy}
use Rattle.ec_map.specs.Written.{PairsByte, WritesByte, WritesMapped, WritesNamed, WritesSome}
use Rattle.ec_map.specs.declared.covered.Way.TheVariants.{Writes}
use Rattle.ec_map.specs.declared.not_shown.NotShown.{NotShown}
use Rattle.ec_map.specs.declared.not_shown.WhyNotShown.{WhyNotShown}
use Rattle.ec_map.specs.declared.not_shown.WhyNotShown.TheVariants.{LeftBy, NeverCompleted}
use Rattle.rummymaple.specs.Asked.{request, requests}
use Rattle.rummymaple.specs.Items.{asked, AreTaken}
use Rattle.rummymaple.specs.Mapping.{line_of}
use Rattle.rummymaple.specs.ReadBack.{AreOfLine}
use Rattle.rummymaple.specs.declared.item.Item.{Item}
use Rattle.rummymaple.proofs.SameLineLemmas.{SameLine, same-line, same-back, asks-same, asks-back}

-- ---- which bytes an item writes

has-fmmu-same : (x y : List ControllerState) (slave n : ℕ) → SameLine x y → HasFmmu x slave n → HasFmmu y slave n
has-fmmu-same x y slave n same there =
    record { slave_there = omega (arith, there.slave_there, same.count); number_there = there.number_there }

pairs-byte-same : (x y : List ControllerState) (slave l address : ℕ) → SameLine x y
    → PairsByte x slave l address → PairsByte y slave l address
pairs-byte-same x y slave l address same is =
    let e : fmmu_of x slave is.fmmu ≡ fmmu_of y slave is.fmmu =
    same.fmmu slave is.fmmu is.there.slave_there is.there.number_there in
    record {
      fmmu = is.fmmu;
      there = has-fmmu-same x y slave is.fmmu same is.there;
      for_writing = ap writes (sym e) ∙ is.for_writing;
      physical = is.physical;
      pair = subst (λ (f : Fmmu). IsPair f l is.physical) e is.pair;
      byte = is.byte;
    }

writes-byte-same : (x y : List ControllerState) (slave address : ℕ) (r s : ItemRecord) → SameLine x y
    → AsksTheSame r s → WritesByte x slave address r → WritesByte y slave address s
writes-byte-same x y slave address r s same asks is =
    ⊎_elim
    (λ (mapped : WritesMapped x slave address r). inl (record {
      bit = mapped.bit;
      asked = (λ t. asks_way Writes (asks.kind t) && is_bit_of (asks.address t) (asks.size t) mapped.bit)
          ∙ mapped.asked;
      paired = pairs-byte-same x y slave mapped.bit address same mapped.paired;
    }))
    (λ (named : WritesNamed x slave address r). inr (record {
      kind = asks.kind ∙ named.kind;
      station = sym (same.station slave) ∙ named.station ∙ sym (ap adp_of asks.address);
      range = (λ t. within (ado_of (asks.address t)) (asks.size t) address) ∙ named.range;
    }))
    is

writes-some-same : (x y : List ControllerState) (slave from n : ℕ) (r s : ItemRecord) → SameLine x y
    → AsksTheSame r s → WritesSome x slave from n r → WritesSome y slave from n s
writes-some-same x y slave from n r s same asks is = record {
  address = is.address;
  inside = is.inside;
  written = writes-byte-same x y slave is.address r s same asks is.written;
}

-- ---- the items, number by number

-- the item of this number asks what that of the other list asks
abbrev AsksAt : List ItemRecord → List ItemRecord → Type 0
AsksAt rs ss =
    (k : ℕ) (r : ItemRecord) → slice_get rs k ≡ Some r
    → (s : ItemRecord) × (slice_get ss k ≡ Some s) × AsksTheSame r s

asks-at : (f g : Item → ItemRecord) (items : List Item)
    → ((n : ℕ) (i : Item) → slice_get items n ≡ Some i → AsksTheSame (f i) (g i))
    → (k : ℕ) (r : ItemRecord) → slice_get (map f items) k ≡ Some r
    → (s : ItemRecord) × (slice_get (map g items) k ≡ Some s) × AsksTheSame r s
asks-at f g [] same k r is = absurd (omega (arith, slice_get_within [] k r is))
asks-at f g (i ∷ items) same zero r is =
    (g i, refl, subst (λ (x : ItemRecord). AsksTheSame x (g i)) (same_Some (f i) r is) (same zero i refl))
asks-at f g (i ∷ items) same (suc k) r is = asks-at f g items (λ n j at. same (suc n) j at) k r is

-- ---- areas

area-same : (x y : List ControllerState) (slave number : ℕ) → SameLine x y
    → sync_manager_of x slave number ≡ sync_manager_of y slave number → IsMappedArea x slave number
    → IsMappedArea y slave number
area-same x y slave number same e is = record {
  there = record {
    slave_there = omega (arith, is.there.slave_there, same.count);
    number_there = is.there.number_there;
  };
  outputs = ap guards_outputs (sym e) ∙ is.outputs;
  bit = is.bit;
  address = is.address;
  inside = ap (λ (m : SyncMan). within m.start m.length is.address) (sym e) ∙ is.inside;
  mapped = pairs-byte-same x y slave is.bit is.address same is.mapped;
}

left-same : (x y : List ControllerState) (rs ss : List ItemRecord) (slave number k : ℕ) → SameLine x y
    → sync_manager_of x slave number ≡ sync_manager_of y slave number → AsksAt rs ss
    → IsLeftBy x rs slave number k → IsLeftBy y ss slave number k
left-same x y rs ss slave number k same e asks is =
    let other = asks k is.item is.is in
    let manager : SyncMan = sync_manager_of x slave number in
    record {
      item = other.0;
      is = other.1;
      writes = subst (λ (m : SyncMan). WritesSome y slave m.start m.length other.0) e
          (writes-some-same x y slave manager.start manager.length is.item other.0 same other.2 is.writes);
      left = λ completes. is.left
          (writes-byte-same y x slave (last_byte manager) other.0 is.item (same-back x y same)
          (asks-back is.item other.0 other.2)
          (subst (λ (m : SyncMan). WritesByte y slave (last_byte m) other.0) (sym e) completes));
    }

never-same : (x y : List ControllerState) (rs ss : List ItemRecord) (slave number : ℕ) → SameLine x y
    → sync_manager_of x slave number ≡ sync_manager_of y slave number → AsksAt ss rs
    → IsNeverCompleted x rs slave number → IsNeverCompleted y ss slave number
never-same x y rs ss slave number same e asks never = λ k item is completes.
    let other = asks k item is in
    let manager : SyncMan = sync_manager_of x slave number in
    never k other.0 other.1
    (writes-byte-same y x slave (last_byte manager) item other.0 (same-back x y same) other.2
    (subst (λ (m : SyncMan). WritesByte y slave (last_byte m) item) (sym e) completes))

why-same : (x y : List ControllerState) (rs ss : List ItemRecord) (slave number : ℕ) (why : WhyNotShown)
    → SameLine x y → sync_manager_of x slave number ≡ sync_manager_of y slave number → AsksAt rs ss
    → AsksAt ss rs → IsWhy x rs slave number why → IsWhy y ss slave number why
why-same x y rs ss slave number (LeftBy item) same e there back is =
    left-same x y rs ss slave number item same e there is
why-same x y rs ss slave number NeverCompleted same e there back is =
    never-same x y rs ss slave number same e back is

not-shown-same : (x y : List ControllerState) (rs ss : List ItemRecord) (found : NotShown) → SameLine x y
    → AsksAt rs ss → AsksAt ss rs → IsNotShown x rs found → IsNotShown y ss found
not-shown-same x y rs ss found same there back is =
    let e : sync_manager_of x found.slave found.sync_manager ≡ sync_manager_of y found.slave found.sync_manager =
    same.manager found.slave found.sync_manager is.area.there.slave_there is.area.there.number_there in
    record {
      area = area-same x y found.slave found.sync_manager same e is.area;
      why = why-same x y rs ss found.slave found.sync_manager found.why same e there back is.why;
    }

pub areas-same : (rs : List Records) (line : List ControllerState) (image : List ℕ) (items : List Item)
    (found : NotShown) → AreOfLine rs line → AreTaken (length image) items
    → IsNotShown (line_of rs) (requests items) found ↔ IsNotShown line (map (asked image) items) found
areas-same rs line image items found are taken =
    let same : SameLine (line_of rs) line = same-line rs line are in
    let there : AsksAt (requests items) (map (asked image) items) =
    asks-at request (asked image) items (λ n i is. asks-same image i (taken n i is)) in
    let back : AsksAt (map (asked image) items) (requests items) =
    asks-at (asked image) request items
    (λ n i is. asks-back (request i) (asked image i) (asks-same image i (taken n i is))) in (
      not-shown-same (line_of rs) line (requests items) (map (asked image) items) found same there back,
      not-shown-same line (line_of rs) (map (asked image) items) (requests items) found
          (same-back (line_of rs) line same) back there,
    )
