-- The record of a sync manager or of an FMMU is set over a ring: it is taken, and read back as it was sent.
use Rattle.std.proofs.Common.{◌≡◌, ℕ, ◌+◌, ◌*◌, ◌<◌, Bool, true, false, eqb, ltb}
use Rattle.std.proofs.Common.{leb, ◌&&◌, ◌||◌, List, [], ◌∷◌, length, take, get_or, Option, None, Some}
use Rattle.std.proofs.Common.{Result}
use Rattle.std.proofs.Common.{Ok, sym, ap, ◌∙◌, arith, subst, not}
use Rattle.std.specs.Prelude.{◌≢◌}
use Rattle.std.specs.List.{list_any, range_with_len}
use Rattle.std.proofs.Math.Bool.{or-true}
use Rattle.std.proofs.lemmas.Bool.{and_from}
use Rattle.std.proofs.lemmas.Bool.Decides.{nat_tests}
use Rattle.std.proofs.lemmas.List.{get_or-take}
use Rattle.std.proofs.lemmas.List.Folds.{list_any_at}
use Rattle.std.proofs.lemmas.List.FromFn.{get_or-range_with_len, length-range_with_len}
use Rattle.ec_regs.specs.AddressRange.{within}
use Rattle.ec_regs.specs.Bits.{AreBytes}
use Rattle.ec_regs.specs.Fmmu.{fmmu_bytes}
use Rattle.ec_regs.specs.SyncMan.{is_active, status_address, sync_man_bytes}
use Rattle.ec_regs.specs.declared.address_range.AddressRange.{AddressRange}
use Rattle.ec_regs.specs.declared.fmmu.Fmmu.{Fmmu}
use Rattle.ec_regs.specs.declared.sync_man.SyncMan.{SyncMan}
use Rattle.ec_areas.specs.Ranges.{has_sii, is_of_device}
use Rattle.ec_areas.specs.Ranges.{is_in_sync_manager, is_writable_field, some_address, sync_manager_number}
use Rattle.ec_areas.specs.Ranges.{sync_manager_offset, takes_writes, writable_ranges}
use Rattle.ec_areas.specs.Records.{sync_manager_at}
use Rattle.ec_wire.specs.Datagram.{address_of}
use Rattle.ec_app.specs.State.{SlaveState}
use Rattle.ec_ring.specs.Ring.{RingState, stepped}
use Rattle.ec_master.specs.RingTrips.{RingTrips}
use Rattle.ec_services.specs.Ask.{Question, Talks, write}
use Rattle.ec_services.specs.declared.fault.MasterFault.{MasterFault}
use Rattle.ec_run.specs.Step.{SetsFmmu, SetsManager, holds, register_write}
use Rattle.ec_over_ring.specs.Brought.{ReachesAll}
use Rattle.ec_over_ring.specs.Fit.{FitsRegisters}
use Rattle.ec_over_ring.specs.Question.{after_question}
use Rattle.ec_over_ring.specs.Started.{Holds, HoldsFmmu, HoldsManager}
use Rattle.ec_over_ring.proofs.BytesLemmas.{small_bytes}
use Rattle.ec_over_ring.proofs.ManagerLemmas.{manager_is}
use Rattle.ec_over_ring.proofs.PutLemmas.{IsPut, IsReadBack, Makes, put_over, read_over}
use Rattle.ec_over_ring.proofs.RecordsLemmas.{held_step}
use Rattle.ec_over_ring.proofs.SettingLemmas.{area_registers, fmmu_registers, switch_registers}
use Rattle.ec_over_ring.proofs.SparedLemmas.{HasSuch, such_as, such_stepped}
use Rattle.ec_over_ring.proofs.StationLemmas.{ado_is}
use Rattle.ec_over_ring.proofs.TalkLemmas.{IsBegun, begun, goes_on}
use Rattle.ec_over_ring.proofs.TripKeepsLemmas.{trip_keeps}
use Rattle.ec_over_ring.proofs.WrittenLemmas.{CanWrite, range_put}

-- ---- which registers take writes

-- one that is in a range is enough
one_address : (test : ℕ → Bool) (from n k : ℕ) → k < n → test (from + k) ≡ true
    → some_address test from n ≡ true
unfolding some_address
one_address test from n k below is =
    let size : length (range_with_len from n) ≡ n = length-range_with_len from n in
    list_any_at test (range_with_len from n) k 0 (omega (arith, size, below))
    (ap test (get_or-range_with_len from n k 0 below) ∙ is)

field_takes : (m : List ℕ) (a : ℕ) → is_in_sync_manager a ≡ true → is_writable_field m a ≡ true
    → takes_writes m a ≡ true
unfolding takes_writes
field_takes m a inside field =
    let always : Bool =
    list_any (λ (r : AddressRange). within r.first r.count a) writable_ranges || (is_of_device a && has_sii m) in
    ap (λ (b : Bool). always || (b && is_writable_field m a)) inside
    ∙ ap (λ (b : Bool). always || b) field
    ∙ or-true always

in_manager : (n k : ℕ) → n < 8 → k < 8 → is_in_sync_manager (2048 + 8 * n + k) ≡ true
in_manager n k few below =
    let first : leb 2048 (2048 + 8 * n + k) ≡ true = grind (arith, nat_tests) in
    let last : ltb (2048 + 8 * n + k) 2112 ≡ true = grind (arith, nat_tests) in
    and_from _ _ first last

-- its switch does at all times
switch_takes : (m : List ℕ) (n : ℕ) → n < 8 → takes_writes m (2048 + 8 * n + 6) ≡ true
switch_takes m n few =
    let a : ℕ = 2048 + 8 * n + 6 in
    let offset : sync_manager_offset a ≡ 6 = omega arith in
    field_takes m a (in_manager n 6 few (omega arith))
    (ap (λ (k : ℕ). eqb k 6 || (ltb k 5 && not (is_active (sync_manager_at m (sync_manager_number a)))))
    offset)

-- and its area while it is switched off
area_takes : (m : List ℕ) (n k : ℕ) → n < 8 → k < 5 → is_active (sync_manager_at m n) ≡ false
    → takes_writes m (2048 + 8 * n + k) ≡ true
area_takes m n k few below off =
    let a : ℕ = 2048 + 8 * n + k in
    let offset : sync_manager_offset a ≡ k = omega (arith, below) in
    let number : sync_manager_number a ≡ n = omega (arith, below) in
    let low : ltb k 5 ≡ true = grind (arith, nat_tests) in
    field_takes m a (in_manager n k few (omega (arith, below)))
    (ap (λ (j : ℕ). eqb j 6 || (ltb j 5 && not (is_active (sync_manager_at m (sync_manager_number a)))))
    offset
    ∙ ap (λ (b : Bool). eqb k 6 || (b && not (is_active (sync_manager_at m (sync_manager_number a))))) low
    ∙ ap (λ (i : ℕ). eqb k 6 || not (is_active (sync_manager_at m i))) number
    ∙ ap (λ (b : Bool). eqb k 6 || not b) off
    ∙ or-true (eqb k 6))

fmmu_takes : (m : List ℕ) (n k : ℕ) → n < 8 → k < 16 → takes_writes m (1536 + 16 * n + k) ≡ true
unfolding takes_writes
fmmu_takes m n k few below =
    let a : ℕ = 1536 + 16 * n + k in
    let first : leb 1536 a ≡ true = grind (arith, nat_tests) in
    let last : ltb a 1664 ≡ true = grind (arith, nat_tests) in
    let inside : within 1536 128 a ≡ true = and_from _ _ first last in
    let one : list_any (λ (r : AddressRange). within r.first r.count a) writable_ranges ≡ true =
    list_any_at (λ (r : AddressRange). within r.first r.count a) writable_ranges 2
    (record { first = 0; count = 0 }) (omega arith) inside in
    ap (λ (b : Bool). b || (is_of_device a && has_sii m) || (is_in_sync_manager a && is_writable_field m a)) one

-- ---- a sync manager

-- one slave alone has a station, whatever else it is
abbrev pub IsAny : SlaveState → Type 0
IsAny s = Unit {0}

-- it is switched off
abbrev IsOff : ℕ → SlaveState → Type 0
IsOff n s = Holds s.controller.memory (2048 + 8 * n + 6) (0 ∷ [])

off_inactive : (m : List ℕ) (n : ℕ) → get_or m (2048 + 8 * n + 6) 0 ≡ 0
    → is_active (sync_manager_at m n) ≡ false
unfolding is_active
off_inactive m n off =
    ap (λ (x : SyncMan). is_active x) (manager_is m n)
    ∙ ap (λ (g : ℕ). is_active (record {
      start = get_or m (2048 + 8 * n + 0) 0 + 256 * get_or m (2048 + 8 * n + 1) 0;
      length = get_or m (2048 + 8 * n + 2) 0 + 256 * get_or m (2048 + 8 * n + 3) 0;
      control = get_or m (2048 + 8 * n + 4) 0;
      status = get_or m (2048 + 8 * n + 5) 0;
      activate = g;
      pdi = get_or m (2048 + 8 * n + 7) 0;
    })) off

-- its record stands
abbrev IsSet : ℕ → SyncMan → SlaveState → Type 0
IsSet n m s = HoldsManager s.controller.memory n (Some m)

manager_bytes : (m : SyncMan) → FitsRegisters m → AreBytes (sync_man_bytes m)
manager_bytes m fits =
    small_bytes (sync_man_bytes m) (
      omega arith,
      (
        omega arith,
        (
          omega arith,
          (omega arith, (fits.control, (fits.status, (fits.activate, (fits.pdi, tt))))),
        ),
      ),
    )

no_status : (n k i : ℕ) → k < 8 → k ≢ 5 → 2048 + 8 * n + k ≢ status_address i
no_status n k i below other is = other (omega (arith, is, below))

can_switch : (m : List ℕ) (n : ℕ) → n < 8 → CanWrite m (2048 + 8 * n + 6) 1
can_switch m n few = record {
  some = omega arith;
  inside = omega (arith, few);
  takes = one_address (takes_writes m) (2048 + 8 * n + 6) 1 0 (omega arith)
      (let same : 2048 + 8 * n + 6 + 0 ≡ 2048 + 8 * n + 6 = omega arith in
      ap (λ (a : ℕ). takes_writes m a) same ∙ switch_takes m n few);
}

switches_off : (station n : ℕ) → station < 65536 → n < 8
    → Makes IsAny (IsOff n) station (2048 + 8 * n + 6) (0 ∷ [])
switches_off station n address few s own such meant taken =
    let at : ℕ = 2048 + 8 * n + 6 in
    let m : List ℕ = s.controller.memory in
    let zero : AreBytes (0 ∷ []) = small_bytes (0 ∷ []) (omega arith, tt) in
    held_step at (0 ∷ []) (after_question (register_write station at (0 ∷ [])) s) (switch_registers n few)
    taken
    (λ k below.
    let none : k ≡ 0 = omega (arith, below) in
    let same : at + k ≡ at = omega (arith, none) in
    range_put s.controller (address_of station at) at k (0 ∷ []) own.controller meant
    (ado_is station at address) (can_switch m n few) zero below
    (subst (λ (a : ℕ). takes_writes m a ≡ true) (sym same) (switch_takes m n few))
    (λ i is. no_status n 6 i (omega arith) (λ five. absurd (omega (arith, five))) (sym same ∙ is)))

can_set : (s : SlaveState) (n : ℕ) → n < 8 → IsOff n s → CanWrite s.controller.memory (2048 + 8 * n) 8
can_set s n few off = record {
  some = omega arith;
  inside = omega (arith, few);
  takes = one_address (takes_writes s.controller.memory) (2048 + 8 * n) 8 6 (omega arith)
      (switch_takes s.controller.memory n few);
}

sets_record : (station n : ℕ) (m : SyncMan) → station < 65536 → n < 8 → FitsRegisters m
    → Makes (IsOff n) (IsSet n m) station (2048 + 8 * n) (sync_man_bytes m)
sets_record station n m address few fits s own off meant taken =
    let at : ℕ = 2048 + 8 * n in
    let bytes : List ℕ = sync_man_bytes m in
    let t : SlaveState = after_question (register_write station at bytes) s in
    let inactive : is_active (sync_manager_at s.controller.memory n) ≡ false =
    off_inactive s.controller.memory n (off_byte off) in (
      held_step at (take 5 bytes) t (area_registers n few) taken (λ k below.
          range_put s.controller (address_of station at) at k bytes own.controller meant
          (ado_is station at address) (can_set s n few off) (manager_bytes m fits) (omega (arith, below))
          (area_takes s.controller.memory n k few below inactive)
          (λ i is. no_status n k i (omega (arith, below)) (λ five. absurd (omega (arith, five, below))) is)
          ∙ sym (get_or-take 5 bytes k 0 below)),
      held_step (at + 6) (get_or bytes 6 0 ∷ []) t (switch_registers n few) taken (λ k below.
          let none : k ≡ 0 = omega (arith, below) in
          let same : at + 6 + k ≡ at + 6 = omega (arith, none) in
          ap (λ (a : ℕ). get_or t.controller.memory a 0) same
          ∙ range_put s.controller (address_of station at) at 6 bytes own.controller meant
          (ado_is station at address) (can_set s n few off) (manager_bytes m fits) (omega arith)
          (switch_takes s.controller.memory n few)
          (λ i is. no_status n 6 i (omega arith) (λ five. absurd (omega (arith, five))) is)
          ∙ ap (λ (j : ℕ). get_or (get_or bytes 6 0 ∷ []) j 0) (sym none)),
    )
  where
    off_byte : IsOff n s → get_or s.controller.memory (2048 + 8 * n + 6) 0 ≡ 0
    off_byte off =
        let same : 2048 + 8 * n + 6 + 0 ≡ 2048 + 8 * n + 6 = omega arith in
        sym (ap (λ (a : ℕ). get_or s.controller.memory a 0) same) ∙ off 0 (omega arith)

-- it stands once each slave took its step
set_stepped : (station n : ℕ) (m : SyncMan) (r later : RingState) → ReachesAll r → n < 8
    → later ≡ stepped r → HasSuch (IsSet n m) station r.slaves → HasSuch (IsSet n m) station later.slaves
set_stepped station n m r later ring few same has =
    subst (λ (x : RingState). HasSuch (IsSet n m) station x.slaves) (sym same)
    (such_stepped (IsSet n m) station r.slaves
    (λ s is set. (
      held_step (2048 + 8 * n) (take 5 (sync_man_bytes m)) s (area_registers n few) is set.0,
      held_step (2048 + 8 * n + 6) (get_or (sync_man_bytes m) 6 0 ∷ []) s (switch_registers n few) is set.1,
    ))
    ring.slaves.each has)

-- a talk of which no question is left comes to its result
talk_ended : (undecided result : Result (Unit {0}) MasterFault) (r later : RingState)
    → Talks RingTrips r [] undecided result later → result ≡ undecided
unfolding Talks
talk_ended undecided result r later talk = talk.0

-- numbers of a wanted record fit its registers
abbrev pub Fits : Option SyncMan → Type 0
Fits None = Unit {0}
Fits (Some m) = FitsRegisters m

pub manager_accepted : (station n : ℕ) (o : Option SyncMan) (result : Result (Unit {0}) MasterFault)
    (r later : RingState) → ReachesAll r → station < 65536 → n < 8 → Fits o
    → HasSuch IsAny station r.slaves → SetsManager RingTrips r station n o result later
    → result ≡ Ok tt
manager_accepted station n None result r later ring address few fits has sets = absurd sets
manager_accepted station n (Some m) result r later ring address few fits has sets =
    let at : ℕ = 2048 + 8 * n in
    let bytes : List ℕ = sync_man_bytes m in
    let area : List ℕ = take 5 bytes in
    let switch : List ℕ = get_or bytes 6 0 ∷ [] in
    let off_write : Question (Unit {0}) = write (register_write station (at + 6) (0 ∷ [])) in
    let set_write : Question (Unit {0}) = write (register_write station at bytes) in
    let read_area : Question (Unit {0}) = holds station at area in
    let read_switch : Question (Unit {0}) = holds station (at + 6) switch in
    let none : Result (Unit {0}) MasterFault = Ok tt in
    let a : IsBegun RingTrips r off_write (set_write ∷ read_area ∷ read_switch ∷ []) none result later =
    begun RingTrips r off_write (set_write ∷ read_area ∷ read_switch ∷ []) none result later sets in
    let off : IsPut (IsOff n) station a.answer a.between =
    put_over station (at + 6) (0 ∷ []) IsAny (IsOff n) r a.between a.answer ring address
    (small_bytes (0 ∷ []) (omega arith, tt)) (omega arith) (λ s any. can_switch s.controller.memory n few)
    (switches_off station n address few) has a.asks in
    let ring_a : ReachesAll a.between =
    trip_keeps r a.between (off_write.sent ∷ []) a.asks.came ring a.asks.made in
    let b : IsBegun RingTrips a.between set_write (read_area ∷ read_switch ∷ []) none result later =
    begun RingTrips a.between set_write (read_area ∷ read_switch ∷ []) none result later
    (goes_on RingTrips r off_write (set_write ∷ read_area ∷ read_switch ∷ []) none result later a
    off.undecided) in
    let set : IsPut (IsSet n m) station b.answer b.between =
    put_over station at bytes (IsOff n) (IsSet n m) a.between b.between b.answer ring_a address
    (manager_bytes m fits) (omega arith) (λ s is. can_set s n few is)
    (sets_record station n m address few fits) off.such b.asks in
    let ring_b : ReachesAll b.between =
    trip_keeps a.between b.between (set_write.sent ∷ []) b.asks.came ring_a b.asks.made in
    let c : IsBegun RingTrips b.between read_area (read_switch ∷ []) none result later =
    begun RingTrips b.between read_area (read_switch ∷ []) none result later
    (goes_on RingTrips a.between set_write (read_area ∷ read_switch ∷ []) none result later b
    set.undecided) in
    let first : IsReadBack area b.between c.answer c.between =
    read_over station at area b.between c.between c.answer ring_b address (omega arith)
    (omega (arith, few))
    (such_as (IsSet n m) (λ (s : SlaveState). Holds s.controller.memory at area) station b.between.slaves
    (λ s is. is.0) set.such) c.asks in
    let ring_c : ReachesAll c.between =
    trip_keeps b.between c.between (read_area.sent ∷ []) c.asks.came ring_b c.asks.made in
    let still : HasSuch (IsSet n m) station c.between.slaves =
    set_stepped station n m b.between c.between ring_b few first.ring set.such in
    let d : IsBegun RingTrips c.between read_switch [] none result later =
    begun RingTrips c.between read_switch [] none result later
    (goes_on RingTrips b.between read_area (read_switch ∷ []) none result later c first.undecided) in
    let last : IsReadBack switch c.between d.answer d.between =
    read_over station (at + 6) switch c.between d.between d.answer ring_c address (omega arith)
    (omega (arith, few))
    (such_as (IsSet n m) (λ (s : SlaveState). Holds s.controller.memory (at + 6) switch) station
    c.between.slaves (λ s is. is.1) still) d.asks in
    talk_ended none result d.between later
    (goes_on RingTrips c.between read_switch [] none result later d last.undecided)

-- ---- an FMMU

can_map : (m : List ℕ) (n size : ℕ) → n < 8 → size ≡ 16 → CanWrite m (1536 + 16 * n) size
can_map m n size few is = record {
  some = omega (arith, is);
  inside = omega (arith, few, is);
  takes = one_address (takes_writes m) (1536 + 16 * n) size 0 (omega (arith, is))
      (fmmu_takes m n 0 few (omega arith));
}

maps : (station n : ℕ) (f : Fmmu) → station < 65536 → n < 8 → length (fmmu_bytes f) ≡ 16
    → AreBytes (fmmu_bytes f)
    → Makes IsAny (λ s. HoldsFmmu s.controller.memory n (Some f)) station (1536 + 16 * n) (fmmu_bytes f)
maps station n f address few size are s own any meant taken =
    let at : ℕ = 1536 + 16 * n in
    let bytes : List ℕ = fmmu_bytes f in
    held_step at bytes (after_question (register_write station at bytes) s)
    (fmmu_registers n (length bytes) few size) taken
    (λ k below.
    let low : k < 16 = omega (arith, below, size) in
    range_put s.controller (address_of station at) at k bytes own.controller meant
    (ado_is station at address) (can_map s.controller.memory n (length bytes) few size) are below
    (fmmu_takes s.controller.memory n k few low) (λ i is. absurd (omega (arith, is, low, few))))

-- a wanted FMMU has sixteen bytes
abbrev pub Spells : Option Fmmu → Type 0
Spells None = Unit {0}
Spells (Some f) = (length (fmmu_bytes f) ≡ 16) × AreBytes (fmmu_bytes f)

pub fmmu_accepted : (station n : ℕ) (o : Option Fmmu) (result : Result (Unit {0}) MasterFault)
    (r later : RingState) → ReachesAll r → station < 65536 → n < 8 → Spells o
    → HasSuch IsAny station r.slaves → SetsFmmu RingTrips r station n o result later
    → result ≡ Ok tt
fmmu_accepted station n None result r later ring address few fits has sets = absurd sets
fmmu_accepted station n (Some f) result r later ring address few (size, are) has sets =
    let at : ℕ = 1536 + 16 * n in
    let bytes : List ℕ = fmmu_bytes f in
    let set_write : Question (Unit {0}) = write (register_write station at bytes) in
    let read : Question (Unit {0}) = holds station at bytes in
    let none : Result (Unit {0}) MasterFault = Ok tt in
    let P : SlaveState → Type 0 = λ (s : SlaveState). HoldsFmmu s.controller.memory n (Some f) in
    let a : IsBegun RingTrips r set_write (read ∷ []) none result later =
    begun RingTrips r set_write (read ∷ []) none result later sets in
    let set : IsPut P station a.answer a.between =
    put_over station at bytes IsAny P r a.between a.answer ring address are (omega arith)
    (λ s any. can_map s.controller.memory n (length bytes) few size) (maps station n f address few size are)
    has a.asks in
    let ring_a : ReachesAll a.between =
    trip_keeps r a.between (set_write.sent ∷ []) a.asks.came ring a.asks.made in
    let b : IsBegun RingTrips a.between read [] none result later =
    begun RingTrips a.between read [] none result later
    (goes_on RingTrips r set_write (read ∷ []) none result later a set.undecided) in
    let last : IsReadBack bytes a.between b.answer b.between =
    read_over station at bytes a.between b.between b.answer ring_a address (omega (arith, size))
    (omega (arith, few, size)) set.such b.asks in
    talk_ended none result b.between later
    (goes_on RingTrips a.between read [] none result later b last.undecided)
