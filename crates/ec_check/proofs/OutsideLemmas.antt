-- FMMUs outside of areas, number by number, and where an FMMU leaves its area.
use Rattle.std.proofs.Common.{◌≡◌, ◌⊎◌, ⊎_elim, inl, inr, ℕ, ◌+◌, ◌-◌, ◌/◌, ◌<◌, ◌≤◌, true, false, cond, ◌&&◌}
use Rattle.std.proofs.Common.{◌||◌, eqb, leb, ltb, List, [], ◌∷◌, length, refl, sym, ap, ◌∙◌, arith}
use Rattle.std.proofs.lemmas.Bool.{and_parts, and_from, leb-true, le-leb, ltb-true, lt-ltb, eqb-true, eq-eqb}
use Rattle.std.proofs.lemmas.Bool.{both_ways, cases_order}
use Rattle.ec_regs.specs.declared.registers.TheConstants.{FMMU_COUNT, SYNC_MANAGER_COUNT}
use Rattle.ec_regs.specs.Pairs.{is_switched_on}
use Rattle.ec_regs.specs.Pairs.{reads, first_physical, pair_count}
use Rattle.ec_regs.specs.declared.fmmu.Fmmu.{Fmmu}
use Rattle.ec_regs.specs.declared.fmmu.TheConstants.{LAST_BIT}
use Rattle.ec_regs.specs.declared.sync_man.SyncMan.{SyncMan}
use Rattle.ec_regs.specs.declared.registers.TheConstants.{PROCESS_MEMORY, MEMORY_SIZE}
use Rattle.ec_regs.specs.SyncMan.{is_active}
use Rattle.ec_regs.specs.SyncMan.{is_enabled, is_buffered, is_mailbox, master_reads, master_writes}
use Rattle.ec_regs.specs.SyncMan.{has_area_length, is_in_process_memory}
use Rattle.ec_esc.specs.State.{ControllerState}
use Rattle.ec_check.specs.declared.fault.MapFault.{MapFault}
use Rattle.ec_check.specs.declared.fault.MapFault.TheVariants.{AreasMeet, OutsideArea}
use Rattle.ec_regs.specs.declared.registers.TheConstants.{ANSWER_MAILBOX_STATUS}
use Rattle.ec_check.specs.Order.{BeginsWith}
use Rattle.ec_check.specs.Line.{fmmu_of, sync_manager_of, HasFmmu}
use Rattle.ec_check.specs.Rules.{Area, Holds, HoldsAllOf, suits, IsGuarded, IsMailStatus, IsAreaFor}
use Rattle.ec_check.specs.Rules.{IsAreaEnd, HasNoArea, first_byte, IsOutsideArea}
use Rattle.ec_check.specs.Runs.{holds_first_byte, begins_at_mail_status}
use Rattle.ec_check.specs.Fit.{Breaks, numbers, areas_meet_rule, outside_area_rule}
use Rattle.ec_check.specs.Search.{HasNone, IsFirstOf}
use Rattle.ec_check.proofs.RunLemmas.{IsInRun-MapsPhysical, MapsPhysical-IsInRun}
use Rattle.ec_check.proofs.FmmuLemmas.{can_map-some}
use Rattle.ec_check.proofs.SearchLemmas.{GoesOnBelow, IsFirstOf-itself, IsFirstOf-shorter}

-- the fault goes on with a slave
pub outside_go_on : (line : List ControllerState) (bound : ℕ) → length line ≤ bound
    → GoesOnBelow (outside_area_rule ∷ []) line bound
outside_go_on line bound end (OutsideArea i k a) broken begins =
    (i, let there : i < length line = broken.there.slave_there in omega arith, (refl, (refl, tt)))
outside_go_on line bound end fault broken begins = absurd (omega (arith, begins.0))

-- and then with an FMMU
pub outside_of_go_on : (line : List ControllerState) (slave bound : ℕ) → FMMU_COUNT ≤ bound
    → GoesOnBelow (outside_area_rule ∷ slave ∷ []) line bound
outside_of_go_on line slave bound end (OutsideArea i k a) broken begins =
    (k, let there : k < FMMU_COUNT = broken.there.number_there in omega arith, (refl, (begins.1.0, (refl, tt))))
outside_of_go_on line slave bound end fault broken begins = absurd (omega (arith, begins.0))

-- there is no fault of an FMMU that leaves its area nowhere
none_of_one : (line : List ControllerState) (slave fmmu : ℕ)
    → ((address : ℕ) → ¬ IsOutsideArea line slave fmmu address)
    → (fault : MapFault) → Breaks line fault
    → BeginsWith (outside_area_rule ∷ slave ∷ fmmu ∷ []) (numbers fault) → ⊥
none_of_one line slave fmmu none (OutsideArea i k a) broken begins =
    none a (rw (begins.1.0, begins.1.1.0) broken)
none_of_one line slave fmmu none fault broken begins = absurd (omega (arith, begins.0))

pub HasNone-outside : (line : List ControllerState) (slave fmmu : ℕ)
    → ((address : ℕ) → ¬ IsOutsideArea line slave fmmu address)
    → HasNone (outside_area_rule ∷ slave ∷ fmmu ∷ []) line
HasNone-outside line slave fmmu none = record { none = none_of_one line slave fmmu none }

-- nor one at an address if it does not leave it there
none_at : (line : List ControllerState) (slave fmmu address : ℕ) → ¬ IsOutsideArea line slave fmmu address
    → (fault : MapFault) → Breaks line fault
    → BeginsWith (outside_area_rule ∷ slave ∷ fmmu ∷ address ∷ []) (numbers fault)
    → ⊥
none_at line slave fmmu address none (OutsideArea i k a) broken begins =
    none (rw (begins.1.0, begins.1.1.0, begins.1.1.1.0) broken)
none_at line slave fmmu address none fault broken begins = absurd (omega (arith, begins.0))

-- the lowest address is that of the first fault of the FMMU
pub IsFirstOf-outside : (line : List ControllerState) (slave fmmu address : ℕ)
    → IsOutsideArea line slave fmmu address
    → ((n : ℕ) → IsOutsideArea line slave fmmu n → address ≤ n)
    → IsFirstOf (outside_area_rule ∷ slave ∷ fmmu ∷ []) line (OutsideArea slave fmmu address)
IsFirstOf-outside line slave fmmu address broken lowest =
    IsFirstOf-shorter (outside_area_rule ∷ slave ∷ fmmu ∷ []) line address (OutsideArea slave fmmu address)
    (λ n below. record {
      none = none_at line slave fmmu n
          (λ outside. let least : address ≤ n = lowest n outside in absurd (omega arith));
    })
    (IsFirstOf-itself line (OutsideArea slave fmmu address) broken)

-- ---- areas

-- an active area lies in process memory
pub is_active-from : (s : SyncMan) → is_active s ≡ true → PROCESS_MEMORY ≤ s.start
unfolding is_active
is_active-from s active =
    let place =
    and_parts
    (is_enabled s && (is_buffered s || is_mailbox s) &&
    (master_reads s || master_writes s) && has_area_length s)
    (is_in_process_memory s) active in
    leb-true PROCESS_MEMORY s.start
    (and_parts (leb PROCESS_MEMORY s.start) (leb (s.start + s.length) MEMORY_SIZE) place.1).0

-- a sync manager that suits an FMMU is active
pub suits-active : (s : SyncMan) (f : Fmmu) → suits s f ≡ true → is_active s ≡ true
suits-active s f suitable =
    let direction =
    and_parts (is_active s && is_buffered s) (cond (reads f) (master_reads s) (master_writes s)) suitable in
    (and_parts (is_active s) (is_buffered s) direction.0).0

-- two areas of sync managers that share a byte are of one sync manager
same_manager : (line : List ControllerState) (slave m n address : ℕ) (f : Fmmu)
    → HasNone (areas_meet_rule ∷ []) line
    → slave < length line
    → n < SYNC_MANAGER_COUNT → suits (sync_manager_of line slave m) f ≡ true → suits (sync_manager_of line slave n) f ≡ true
    → (sync_manager_of line slave m).start ≤ address
    → address < (sync_manager_of line slave m).start + (sync_manager_of line slave m).length
    → (sync_manager_of line slave n).start ≤ address
    → address < (sync_manager_of line slave n).start + (sync_manager_of line slave n).length
    → m < n → ⊥
same_manager line slave m n address f apart inside n8 suitable_m suitable_n from_m to_m from_n to_n order =
    apart.none (AreasMeet slave m n address)
    (record {
      slave_there = inside;
      order = order;
      number_there = n8;
      first = record { active = suits-active _ f suitable_m; from = from_m; to = to_m };
      second = record { active = suits-active _ f suitable_n; from = from_n; to = to_n };
    })
    (refl, tt)

-- two areas of an FMMU's kind that share a byte end at one address
guarded_ends : (line : List ControllerState) (slave address : ℕ) (f : Fmmu) (a b : Area)
    → HasNone (areas_meet_rule ∷ []) line → slave < length line
    → IsGuarded line slave f a → IsGuarded line slave f b → Holds a address → Holds b address → a.to ≡ b.to
guarded_ends line slave address f a b apart inside in_a in_b holds_a holds_b =
    let m : ℕ = in_a.number in
    let n : ℕ = in_b.number in
    let from_a : a.from ≤ address = holds_a.from in
    let to_a : address < a.to = holds_a.to in
    let from_b : b.from ≤ address = holds_b.from in
    let to_b : address < b.to = holds_b.to in
    let begin_a : a.from ≡ (sync_manager_of line slave m).start = in_a.from in
    let end_a : a.to ≡ (sync_manager_of line slave m).start + (sync_manager_of line slave m).length =
    in_a.to in
    let begin_b : b.from ≡ (sync_manager_of line slave n).start = in_b.from in
    let end_b : b.to ≡ (sync_manager_of line slave n).start + (sync_manager_of line slave n).length =
    in_b.to in
    ⊎_elim
    (λ (same : m ≡ n).
    end_a ∙ ap (λ k. (sync_manager_of line slave k).start + (sync_manager_of line slave k).length) same
    ∙ sym end_b)
    (λ (other : (m < n) ⊎ (n < m)).
    ⊎_elim
    (λ (before : m < n).
    absurd (same_manager line slave m n address f apart inside in_b.there in_a.suitable in_b.suitable
    (omega arith) (omega arith) (omega arith) (omega arith) before))
    (λ (behind : n < m).
    absurd (same_manager line slave n m address f apart inside in_a.there in_b.suitable in_a.suitable
    (omega arith) (omega arith) (omega arith) (omega arith) behind))
    other)
    (cases_order m n)

-- an area of a sync manager does not hold the byte that tells of waiting mail
guarded_past_mail : (line : List ControllerState) (slave address : ℕ) (f : Fmmu) (a b : Area)
    → IsGuarded line slave f a → IsMailStatus f b → Holds a address → Holds b address → ⊥
guarded_past_mail line slave address f a b in_a in_b holds_a holds_b =
    let from_a : a.from ≤ address = holds_a.from in
    let to_b : address < b.to = holds_b.to in
    let begin_a : a.from ≡ (sync_manager_of line slave in_a.number).start = in_a.from in
    let end_b : b.to ≡ ANSWER_MAILBOX_STATUS + 1 = in_b.to in
    let process : PROCESS_MEMORY ≤ (sync_manager_of line slave in_a.number).start =
    is_active-from _ (suits-active _ f in_a.suitable) in
    omega arith

pub same_end : (line : List ControllerState) (slave address : ℕ) (f : Fmmu) (a b : Area)
    → HasNone (areas_meet_rule ∷ []) line → slave < length line
    → IsAreaFor line slave f a → IsAreaFor line slave f b → Holds a address → Holds b address → a.to ≡ b.to
same_end line slave address f a b apart inside (inl in_a) (inl in_b) holds_a holds_b =
    guarded_ends line slave address f a b apart inside in_a in_b holds_a holds_b
same_end line slave address f a b apart inside (inl in_a) (inr in_b) holds_a holds_b =
    absurd (guarded_past_mail line slave address f a b in_a in_b holds_a holds_b)
same_end line slave address f a b apart inside (inr in_a) (inl in_b) holds_a holds_b =
    absurd (guarded_past_mail line slave address f b a in_b in_a holds_b holds_a)
same_end line slave address f a b apart inside (inr in_a) (inr in_b) holds_a holds_b = in_a.to ∙ sym in_b.to

-- ---- one FMMU

-- its first byte is the one that its record names
pub first_byte-some : (f : Fmmu) → 1 ≤ pair_count f → first_byte f ≡ f.physical
first_byte-some f some =
    let can = can_map-some f some in
    let bit =
    and_parts (is_switched_on f && leb 1 f.length && leb f.start LAST_BIT && leb f.stop LAST_BIT)
    (leb f.bit LAST_BIT) can in
    let small : f.bit ≤ LAST_BIT = leb-true f.bit LAST_BIT bit.1 in
    omega arith

-- an area that holds its first byte and its last one holds them all
pub HoldsAllOf-ends : (area : Area) (f : Fmmu) → Holds area (first_byte f)
    → (first_physical f + pair_count f - 1) / 8 < area.to
    → HoldsAllOf area f
HoldsAllOf-ends area f first last p maps =
    let inside = IsInRun-MapsPhysical f p maps in
    let from : first_physical f ≤ p = inside.from in
    let to : p < first_physical f + pair_count f = inside.to in
    let first_from : area.from ≤ first_physical f / 8 = first.from in
    record { from = omega arith; to = omega arith }

-- and one that holds them all holds both
pub HoldsAllOf-first : (area : Area) (f : Fmmu) → 1 ≤ pair_count f → HoldsAllOf area f
    → Holds area (first_byte f)
HoldsAllOf-first area f some all =
    all (first_physical f)
    (MapsPhysical-IsInRun f (first_physical f) (record { from = omega arith; to = omega arith }))

pub HoldsAllOf-last : (area : Area) (f : Fmmu) → 1 ≤ pair_count f → HoldsAllOf area f
    → Holds area ((first_physical f + pair_count f - 1) / 8)
HoldsAllOf-last area f some all =
    all (first_physical f + pair_count f - 1)
    (MapsPhysical-IsInRun f _ (record { from = omega arith; to = omega arith }))

-- a sync manager whose area of its kind holds its first byte
pub IsAreaEnd-holds : (line : List ControllerState) (slave number : ℕ) (f : Fmmu) → 1 ≤ pair_count f
    → number < SYNC_MANAGER_COUNT
    → holds_first_byte (sync_manager_of line slave number) f ≡ true
    → IsAreaEnd line slave f
    ((sync_manager_of line slave number).start + (sync_manager_of line slave number).length)
IsAreaEnd-holds line slave number f some there holds =
    let s : SyncMan = sync_manager_of line slave number in
    let to = and_parts (suits s f && leb s.start f.physical) (ltb f.physical (s.start + s.length)) holds in
    let from = and_parts (suits s f) (leb s.start f.physical) to.0 in
    let first : first_physical f / 8 ≡ f.physical = first_byte-some f some in
    let begin : s.start ≤ f.physical = leb-true s.start f.physical from.1 in
    let end : f.physical < s.start + s.length = ltb-true f.physical (s.start + s.length) to.1 in
    record {
      area = record { from = s.start; to = s.start + s.length };
      suitable = inl (record { number = number; there = there; suitable = from.0; from = refl; to = refl });
      holds = record { from = omega arith; to = omega arith };
      behind = refl;
    }

-- the byte that tells of waiting mail
pub IsAreaEnd-mail : (line : List ControllerState) (slave : ℕ) (f : Fmmu) → 1 ≤ pair_count f
    → begins_at_mail_status f ≡ true
    → IsAreaEnd line slave f (ANSWER_MAILBOX_STATUS + 1)
IsAreaEnd-mail line slave f some begins =
    let parts = and_parts (reads f) (eqb f.physical ANSWER_MAILBOX_STATUS) begins in
    let first : first_physical f / 8 ≡ f.physical = first_byte-some f some in
    let at : f.physical ≡ ANSWER_MAILBOX_STATUS = eqb-true f.physical ANSWER_MAILBOX_STATUS parts.1 in
    record {
      area = record { from = ANSWER_MAILBOX_STATUS; to = ANSWER_MAILBOX_STATUS + 1 };
      suitable = inr (record { for_reading = parts.0; from = refl; to = refl });
      holds = record { from = omega arith; to = omega arith };
      behind = refl;
    }

-- none of them
pub HasNoArea-none : (line : List ControllerState) (slave : ℕ) (f : Fmmu) → 1 ≤ pair_count f
    → ((n : ℕ) → n < SYNC_MANAGER_COUNT → holds_first_byte (sync_manager_of line slave n) f ≡ false)
    → begins_at_mail_status f ≡ false
    → HasNoArea line slave f
HasNoArea-none line slave f some none no_mail area (inl guarded) holds =
    let s : SyncMan = sync_manager_of line slave guarded.number in
    let first : first_physical f / 8 ≡ f.physical = first_byte-some f some in
    let from : area.from ≤ first_physical f / 8 = holds.from in
    let to : first_physical f / 8 < area.to = holds.to in
    let begin : area.from ≡ s.start = guarded.from in
    let end : area.to ≡ s.start + s.length = guarded.to in
    both_ways (holds_first_byte s f) (none guarded.number guarded.there)
    (and_from (suits s f && leb s.start f.physical) (ltb f.physical (s.start + s.length))
    (and_from (suits s f) (leb s.start f.physical) guarded.suitable (le-leb s.start f.physical (omega arith)))
    (lt-ltb f.physical (s.start + s.length) (omega arith)))
HasNoArea-none line slave f some none no_mail area (inr mail) holds =
    let first : first_physical f / 8 ≡ f.physical = first_byte-some f some in
    let from : area.from ≤ first_physical f / 8 = holds.from in
    let to : first_physical f / 8 < area.to = holds.to in
    let begin : area.from ≡ ANSWER_MAILBOX_STATUS = mail.from in
    let end : area.to ≡ ANSWER_MAILBOX_STATUS + 1 = mail.to in
    both_ways (begins_at_mail_status f) no_mail
    (and_from (reads f) (eqb f.physical ANSWER_MAILBOX_STATUS) mail.for_reading
    (eq-eqb f.physical ANSWER_MAILBOX_STATUS (omega arith)))

-- ---- what is answered for it

-- an FMMU whose first byte no area holds
pub IsFirstOf-no_area : (line : List ControllerState) (slave fmmu : ℕ) → HasFmmu line slave fmmu
    → 1 ≤ pair_count (fmmu_of line slave fmmu)
    → HasNoArea line slave (fmmu_of line slave fmmu)
    → IsFirstOf (outside_area_rule ∷ slave ∷ fmmu ∷ []) line
    (OutsideArea slave fmmu (fmmu_of line slave fmmu).physical)
IsFirstOf-no_area line slave fmmu there some none =
    let f : Fmmu = fmmu_of line slave fmmu in
    let first : first_byte f ≡ f.physical = first_byte-some f some in
    IsFirstOf-outside line slave fmmu f.physical
    (record {
      there = there;
      some_bit = (
        first_physical f,
        MapsPhysical-IsInRun f (first_physical f)
            (record { from = omega arith; to = omega arith }),
      );
      outside = λ area suitable all. none area suitable (HoldsAllOf-first area f some all);
      place = inl (none, sym first);
    })
    (λ n outside.
    ⊎_elim
    (λ (bare : HasNoArea line slave f × (n ≡ first_byte f)). let at : n
    ≡ first_byte f = bare.1 in omega arith)
    (λ (end : IsAreaEnd line slave f n). absurd (none end.area end.suitable end.holds))
    outside.place)

-- an FMMU that goes on behind the area that holds its first byte
pub IsFirstOf-behind : (line : List ControllerState) (slave fmmu end : ℕ)
    → HasNone (areas_meet_rule ∷ []) line
    → HasFmmu line slave fmmu
    → 1 ≤ pair_count (fmmu_of line slave fmmu) → IsAreaEnd line slave (fmmu_of line slave fmmu) end
    → end ≤ (first_physical (fmmu_of line slave fmmu) + pair_count (fmmu_of line slave fmmu) - 1) / 8
    → IsFirstOf (outside_area_rule ∷ slave ∷ fmmu ∷ []) line (OutsideArea slave fmmu end)
IsFirstOf-behind line slave fmmu end apart there some found past =
    let f : Fmmu = fmmu_of line slave fmmu in
    let behind : end ≡ found.area.to = found.behind in
    IsFirstOf-outside line slave fmmu end
    (record {
      there = there;
      some_bit = (
        first_physical f,
        MapsPhysical-IsInRun f (first_physical f)
            (record { from = omega arith; to = omega arith }),
      );
      outside = λ area suitable all.
          let same : area.to ≡ found.area.to =
          same_end line slave (first_byte f) f area found.area apart there.slave_there suitable found.suitable
          (HoldsAllOf-first area f some all) found.holds in
          let last : (first_physical f + pair_count f - 1) / 8 < area.to =
          (HoldsAllOf-last area f some all).to in
          omega arith;
      place = inr found;
    })
    (λ n outside.
    ⊎_elim
    (λ (bare : HasNoArea line slave f × (n ≡ first_byte f)). absurd
    (bare.0 found.area found.suitable found.holds))
    (λ (other : IsAreaEnd line slave f n).
    let same : other.area.to ≡ found.area.to =
    same_end line slave
    (first_byte f) f other.area found.area apart there.slave_there other.suitable found.suitable other.holds
    found.holds in
    let at : n ≡ other.area.to = other.behind in
    omega arith)
    outside.place)

-- an FMMU that ends in the area that holds its first byte
pub HasNone-inside : (line : List ControllerState) (slave fmmu end : ℕ)
    → IsAreaEnd line slave (fmmu_of line slave fmmu) end
    → (first_physical (fmmu_of line slave fmmu) + pair_count (fmmu_of line slave fmmu) - 1) / 8 < end
    → HasNone (outside_area_rule ∷ slave ∷ fmmu ∷ []) line
HasNone-inside line slave fmmu end found last =
    let f : Fmmu = fmmu_of line slave fmmu in
    let behind : end ≡ found.area.to = found.behind in
    HasNone-outside line slave fmmu
    (λ n outside. outside.outside found.area found.suitable
    (HoldsAllOf-ends found.area f found.holds (omega arith)))

-- an FMMU that maps nothing
pub HasNone-unmapped : (line : List ControllerState) (slave fmmu : ℕ)
    → pair_count (fmmu_of line slave fmmu) ≡ 0
    → HasNone (outside_area_rule ∷ slave ∷ fmmu ∷ []) line
HasNone-unmapped line slave fmmu none =
    HasNone-outside line slave fmmu
    (λ n outside.
    let inside = IsInRun-MapsPhysical (fmmu_of line slave fmmu) outside.some_bit.0 outside.some_bit.1 in
    let p : ℕ = outside.some_bit.0 in
    let from : first_physical (fmmu_of line slave fmmu) ≤ p = inside.from in
    let to : p < first_physical (fmmu_of line slave fmmu) + pair_count (fmmu_of line slave fmmu) =
    inside.to in
    omega arith)
