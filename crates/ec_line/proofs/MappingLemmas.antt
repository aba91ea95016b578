-- What hangs on a controller's mapping alone: what it reads and writes, accepts, counts, takes and shows, and
-- whether it is fit. So a controller has moved where its mapping is as it was, and each byte that a write may
-- reach.
use Rattle.std.proofs.Common.{◌≡◌, ◌⊎◌, ⊎_elim, inl, inr, ℕ, ◌+◌, ◌-◌, ◌*◌, ◌/◌, ◌%◌, ◌<◌, ◌≤◌, Bool, true}
use Rattle.std.proofs.Common.{false, cond, ◌&&◌, ◌||◌, eqb, leb, ltb, List, get_or}
use Rattle.std.proofs.Common.{Option, None, Some, sym, subst, ◌∙◌, ap, refl, arith}
use Rattle.std.specs.Prelude.{not, slice_index}
use Rattle.std.specs.Int.{bit_at}
use Rattle.std.specs.Option.{is_some}
use Rattle.std.proofs.Math.ListN.{get_or-map}
use Rattle.std.proofs.lemmas.Bool.{and_parts, cases_Bool, eqb-true}
use Rattle.std.proofs.lemmas.Bool.Decides.{nat_tests}
use Rattle.ec_regs.specs.AddressRange.{within}
use Rattle.ec_regs.specs.SyncMan.{is_active, is_buffered, master_reads, master_writes}
use Rattle.ec_regs.specs.declared.fmmu.Fmmu.{Fmmu}
use Rattle.ec_regs.specs.declared.registers.TheConstants.{PROCESS_MEMORY, MEMORY_SIZE}
use Rattle.ec_regs.specs.declared.registers.TheConstants.{STATION_ADDRESS}
use Rattle.ec_regs.specs.declared.sync_man.SyncMan.{SyncMan}
use Rattle.ec_wire.specs.Command.{addressing, reads as gives, writes as takes_data}
use Rattle.ec_wire.specs.Datagram.{adp_of, ado_of}
use Rattle.ec_wire.specs.Kind.{command_of}
use Rattle.ec_wire.specs.declared.kind.Kind.{Kind}
use Rattle.ec_wire.specs.declared.kind.Kind.TheVariants.{Lrd, Lwr, Lrw, Brd, Fprd, Fpwr}
use Rattle.ec_areas.specs.Areas.{guards, hides, locks, is_locked, is_readable, is_writable}
use Rattle.ec_areas.specs.Logical.{read_place, read_map, write_target}
use Rattle.ec_areas.specs.Logical.{target_map, write_place, write_map, reads_some, writes_some}
use Rattle.ec_areas.specs.Logical.{IsReadable, IsReadablePair, IsWritable, IsWritablePair}
use Rattle.ec_areas.specs.Ranges.{is_range, meets, meets_hidden, meets_locked, emptied_by, filled_by}
use Rattle.ec_areas.specs.Ranges.{takes_writes, some_address}
use Rattle.ec_areas.specs.Records.{fmmus_of, sync_manager_at, sync_managers_of}
use Rattle.ec_areas.proofs.Laws.{get_or-sync_managers_of, length-sync_managers_of, reads_registers}
use Rattle.ec_areas.proofs.Laws.{emptied_buffered, filled_buffered, buffered_place, takes_process}
use Rattle.ec_areas.proofs.Laws.{some_process}
use Rattle.ec_esc.specs.Pass.{Half, where_served, serves_reading, serves_writing}
use Rattle.ec_esc.specs.Pass.{serves_read, serves_write, write_sources, serves_range_read, serves_range_write}
use Rattle.ec_esc.specs.Pass.{range_targets, written_mailbox}
use Rattle.ec_esc.specs.State.{ControllerState, IsController, word_at}
use Rattle.ec_esc.specs.Writing.{is_shown_anew}
use Rattle.ec_esc.proofs.Laws.{gain_served}
use Rattle.ec_line.specs.Accepted.{Accepts, AcceptsPlace, IsWithinArea, LiesInArea, LiesInRegisters}
use Rattle.ec_line.specs.Claims.{gain, taken}
use Rattle.ec_line.specs.Fit.{Reads, Writes, IsFitAlone}
use Rattle.ec_line.specs.Mapping.{without_status, Mapping, mapping_of}
use Rattle.ec_line.specs.Moving.{IsAlike, HasMoved}
use Rattle.ec_line.specs.Request.{Request}
use Rattle.ec_line.specs.Steady.{is_steady}
use Rattle.ec_line.proofs.AcceptedLemmas.{lies_buffered}
use Rattle.ec_line.proofs.SteadyLemmas.{written_free}

-- ---- what a mapping tells

station_by_mapping : (c d : ControllerState) → mapping_of d ≡ mapping_of c
    → word_at d.memory STATION_ADDRESS ≡ word_at c.memory STATION_ADDRESS
unfolding mapping_of
station_by_mapping c d same = ap (λ (m : Mapping). m.station) same

fmmus_by_mapping : (c d : ControllerState) → mapping_of d ≡ mapping_of c
    → fmmus_of d.memory ≡ fmmus_of c.memory
unfolding mapping_of
fmmus_by_mapping c d same = ap (λ (m : Mapping). m.fmmus) same

pub manager_by_mapping : (c d : ControllerState) (number : ℕ) → mapping_of d ≡ mapping_of c → number < 8
    → without_status (sync_manager_at d.memory number) ≡ without_status (sync_manager_at c.memory number)
unfolding mapping_of
manager_by_mapping c d number same below =
    let e : SyncMan = sync_manager_at c.memory number in
    ap without_status (sym (get_or-sync_managers_of d.memory e number below))
    ∙ sym (get_or-map without_status (sync_managers_of d.memory) number e)
    ∙ ap (λ (m : Mapping). get_or m.sync_managers number (without_status e)) same
    ∙ get_or-map without_status (sync_managers_of c.memory) number e
    ∙ ap without_status (get_or-sync_managers_of c.memory e number below)

active_same : (c d : ControllerState) (number : ℕ) → mapping_of d ≡ mapping_of c → number < 8
    → is_active (sync_manager_at d.memory number) ≡ is_active (sync_manager_at c.memory number)
unfolding is_active
active_same c d number same below = ap is_active (manager_by_mapping c d number same below)

-- ---- of bytes: no status byte plays a part

readable_same : (c d : ControllerState) (a : ℕ) → mapping_of d ≡ mapping_of c
    → is_readable (sync_managers_of d.memory) a ≡ is_readable (sync_managers_of c.memory) a
unfolding mapping_of sync_managers_of is_readable hides guards is_active
readable_same c d a same = ap (λ (m : Mapping). is_readable m.sync_managers a) same

writable_same : (c d : ControllerState) (a : ℕ) → mapping_of d ≡ mapping_of c
    → is_writable (sync_managers_of d.memory) a ≡ is_writable (sync_managers_of c.memory) a
unfolding mapping_of sync_managers_of is_writable locks guards is_active
writable_same c d a same = ap (λ (m : Mapping). is_writable m.sync_managers a) same

pub locked_by_mapping : (c d : ControllerState) (a : ℕ) → mapping_of d ≡ mapping_of c
    → is_locked (sync_managers_of d.memory) a ≡ is_locked (sync_managers_of c.memory) a
unfolding mapping_of sync_managers_of locks guards is_active
locked_by_mapping c d a same = ap (λ (m : Mapping). is_locked m.sync_managers a) same

steady_same : (c d : ControllerState) (a : ℕ) → mapping_of d ≡ mapping_of c
    → is_steady (sync_managers_of d.memory) a ≡ is_steady (sync_managers_of c.memory) a
unfolding mapping_of sync_managers_of is_steady guards is_active
steady_same c d a same = ap (λ (m : Mapping). is_steady m.sync_managers a) same

shows_same : (is_written : ℕ → Bool) (address : ℕ) (c d : ControllerState) → mapping_of d ≡ mapping_of c
    → is_shown_anew is_written (sync_managers_of d.memory) (sync_managers_of d.memory) address
    ≡ is_shown_anew is_written (sync_managers_of c.memory) (sync_managers_of c.memory) address
unfolding mapping_of sync_managers_of is_shown_anew guards is_active
shows_same is_written address c d same =
    ap (λ (m : Mapping). is_shown_anew is_written m.sync_managers m.sync_managers address) same

-- ---- logical reads and writes

reads_same : (c d : ControllerState) (address n : ℕ) → mapping_of d ≡ mapping_of c
    → serves_read d address n ≡ serves_read c address n
unfolding mapping_of fmmus_of sync_managers_of read_map read_place is_readable hides guards is_active
reads_same c d address n same =
    ap (λ (m : Mapping). reads_some m.sync_managers m.fmmus (8 * address) (8 * n)) same

writes_same : (c d : ControllerState) (address n : ℕ) → mapping_of d ≡ mapping_of c
    → serves_write d address n ≡ serves_write c address n
unfolding mapping_of fmmus_of sync_managers_of target_map write_target is_writable locks guards is_active
writes_same c d address n same =
    ap (λ (m : Mapping). writes_some m.sync_managers m.fmmus (8 * address) (8 * n)) same

written_same : (c d : ControllerState) (address n : ℕ) → mapping_of d ≡ mapping_of c
    → write_sources d address n ≡ write_sources c address n
unfolding mapping_of fmmus_of sync_managers_of write_map write_place is_writable locks guards is_active
written_same c d address n same =
    ap (λ (m : Mapping). write_map m.sync_managers m.fmmus (8 * address) (8 * n)) same

-- ---- pairs

reads_back : (c d : ControllerState) (l p : ℕ) → mapping_of d ≡ mapping_of c → Reads d l p → Reads c l p
reads_back c d l p same pair =
    let ns : List SyncMan = sync_managers_of d.memory in
    let is = subst (λ (fs : List Fmmu). IsReadable ns fs l p) (fmmus_by_mapping c d same) pair in
    let here : IsReadablePair ns is.1 l p = is.4 in (
      is.0,
      is.1,
      is.2,
      is.3,
      record {
        mapped = here.mapped;
        for_reading = here.for_reading;
        exists = here.exists;
        allowed = sym (readable_same c d (p / 8) same) ∙ here.allowed;
      },
    )

writes_back : (c d : ControllerState) (l p : ℕ) → mapping_of d ≡ mapping_of c → Writes d l p → Writes c l p
writes_back c d l p same pair =
    let ns : List SyncMan = sync_managers_of d.memory in
    let is = subst (λ (fs : List Fmmu). IsWritable ns fs l p) (fmmus_by_mapping c d same) pair in
    let here : IsWritablePair ns is.1 l p = is.4 in (
      is.0,
      is.1,
      is.2,
      is.3,
      record {
        mapped = here.mapped;
        for_writing = here.for_writing;
        exists = here.exists;
        allowed = sym (writable_same c d (p / 8) same) ∙ here.allowed;
      },
    )

fit_by_mapping : (c d : ControllerState) → mapping_of d ≡ mapping_of c → IsController d → IsFitAlone c
    → IsFitAlone d
fit_by_mapping c d same controller fit = record {
  controller = controller;
  steady = λ l p pair. steady_same c d (p / 8) same ∙ fit.steady l p (reads_back c d l p same pair);
  read_once = λ l p q one two.
      fit.read_once l p q (reads_back c d l p same one) (reads_back c d l q same two);
  written_once = λ l m p one two.
      fit.written_once l m p (writes_back c d l p same one) (writes_back c d m p same two);
}

-- ---- what is accepted

within_same : (direction : SyncMan → Bool) (s t : SyncMan) (from n : ℕ)
    → ((u : SyncMan) → direction (without_status u) ≡ direction u) → without_status t ≡ without_status s
    → IsWithinArea direction s from n → IsWithinArea direction t from n
unfolding is_active
within_same direction s t from n without same area =
    let start : t.start ≡ s.start = ap (λ (u : SyncMan). u.start) same in
    let size : t.length ≡ s.length = ap (λ (u : SyncMan). u.length) same in
    record {
      active = ap is_active same ∙ area.active;
      buffered = ap is_buffered same ∙ area.buffered;
      direction_is = sym (without t) ∙ ap direction same ∙ without s ∙ area.direction_is;
      starts = omega (arith, area.starts, start);
      ends = omega (arith, area.ends, start, size);
    }

area_same : (direction : SyncMan → Bool) (c d : ControllerState) (from n : ℕ)
    → ((u : SyncMan) → direction (without_status u) ≡ direction u) → mapping_of d ≡ mapping_of c
    → LiesInArea direction c from n → LiesInArea direction d from n
area_same direction c d from n without same lies =
    let number : ℕ = lies.0 in
    let s : SyncMan = lies.1 in
    let t : SyncMan = sync_manager_at d.memory number in
    let below : number < 8 = omega (arith, lies.2, length-sync_managers_of c.memory) in
    let it : sync_manager_at c.memory number ≡ s =
    sym (get_or-sync_managers_of c.memory s number below) ∙ lies.3 in
    let alike : without_status t ≡ without_status s =
    manager_by_mapping c d number same below ∙ ap without_status it in (
      number,
      t,
      omega (arith, below, length-sync_managers_of d.memory),
      get_or-sync_managers_of d.memory t number below,
      within_same direction s t from n without alike lies.4,
    )

accepts_place : (k : Kind) (a n : ℕ) (c d : ControllerState) → mapping_of d ≡ mapping_of c
    → AcceptsPlace k (record { kind = k; address = a; count = n }) c
    → AcceptsPlace k (record { kind = k; address = a; count = n }) d
accepts_place Lrd a n c d same place = tt
accepts_place Lwr a n c d same place = tt
accepts_place Lrw a n c d same place = tt
accepts_place Brd a n c d same place = place
accepts_place Fprd a n c d same place = λ station.
    ⊎_elim
    (λ (registers : LiesInRegisters (ado_of a) n). inl registers)
    (λ (area : LiesInArea master_reads c (ado_of a) n).
    inr (area_same master_reads c d (ado_of a) n (λ u. refl) same area))
    (place (station ∙ station_by_mapping c d same))
accepts_place Fpwr a n c d same place = λ station.
    area_same master_writes c d (ado_of a) n (λ u. refl) same (place (station ∙ station_by_mapping c d same))

accepts_by_mapping : (r : Request) (c d : ControllerState) → mapping_of d ≡ mapping_of c → Accepts r c
    → Accepts r d
accepts_by_mapping r c d same accepts = record {
  some = accepts.some;
  place = accepts_place r.kind r.address r.count c d same accepts.place;
}

-- ---- addressed reads and writes

hidden_same : (c d : ControllerState) (from n : ℕ) → mapping_of d ≡ mapping_of c
    → meets_hidden (sync_managers_of d.memory) from n ≡ meets_hidden (sync_managers_of c.memory) from n
unfolding mapping_of sync_managers_of meets is_active
hidden_same c d from n same = ap (λ (m : Mapping). meets_hidden m.sync_managers from n) same

locked_same : (c d : ControllerState) (from n : ℕ) → mapping_of d ≡ mapping_of c
    → meets_locked (sync_managers_of d.memory) from n ≡ meets_locked (sync_managers_of c.memory) from n
unfolding mapping_of sync_managers_of meets is_active
locked_same c d from n same = ap (λ (m : Mapping). meets_locked m.sync_managers from n) same

-- a read of registers is served, and one of inputs empties no mailbox
range_read_same : (c d : ControllerState) (from n : ℕ) → 1 ≤ n → mapping_of d ≡ mapping_of c
    → LiesInRegisters from n ⊎ LiesInArea master_reads c from n
    → serves_range_read d from n ≡ serves_range_read c from n
range_read_same c d from n some same place =
    let ms : List SyncMan = sync_managers_of c.memory in
    let ns : List SyncMan = sync_managers_of d.memory in
    ⊎_elim
    (λ (registers : LiesInRegisters from n).
    reads_registers ns from n some registers ∙ sym (reads_registers ms from n some registers))
    (λ (area : LiesInArea master_reads c from n).
    let later = area_same master_reads c d from n (λ u. refl) same area in
    let emptied : emptied_by ns from n ≡ emptied_by ms from n =
    emptied_buffered ns from n (lies_buffered master_reads d from n some later)
    ∙ sym (emptied_buffered ms from n (lies_buffered master_reads c from n some area)) in
    let hidden : meets_hidden ns from n ≡ meets_hidden ms from n = hidden_same c d from n same in
    (λ i. is_range from n && (not (hidden i) || is_some (emptied i))))
    place

-- in process memory the same bytes take writes
taken_within : (m k : List ℕ) (from n a : ℕ) → PROCESS_MEMORY ≤ from → from + n ≤ MEMORY_SIZE
    → (within from n a && takes_writes k a) ≡ (within from n a && takes_writes m a)
taken_within m k from n a low high =
    ⊎_elim
    (λ (inside : within from n a ≡ true).
    let ends = and_parts (leb from a) (ltb a (from + n)) inside in
    let first : leb from a ≡ true = ends.0 in
    let last : ltb a (from + n) ≡ true = ends.1 in
    let starts : from ≤ a = grind (arith, nat_tests) in
    let stops : a < from + n = grind (arith, nat_tests) in
    let reaches : PROCESS_MEMORY ≤ a = omega arith in
    let room : a < MEMORY_SIZE = omega arith in
    ap (λ (b : Bool). within from n a && b)
    (takes_process k a reaches room ∙ sym (takes_process m a reaches room)))
    (λ (outside : within from n a ≡ false). rw outside refl)
    (cases_Bool (within from n a))

-- a write of outputs fills no mailbox
range_write_same : (c d : ControllerState) (from n : ℕ) → 1 ≤ n → mapping_of d ≡ mapping_of c
    → LiesInArea master_writes c from n → serves_range_write d from n ≡ serves_range_write c from n
range_write_same c d from n some same area =
    let ms : List SyncMan = sync_managers_of c.memory in
    let ns : List SyncMan = sync_managers_of d.memory in
    let later = area_same master_writes c d from n (λ u. refl) same area in
    let filled : filled_by ns from n ≡ filled_by ms from n =
    filled_buffered ns from n (lies_buffered master_writes d from n some later)
    ∙ sym (filled_buffered ms from n (lies_buffered master_writes c from n some area)) in
    let locked : meets_locked ns from n ≡ meets_locked ms from n = locked_same c d from n same in
    let lies = lies_buffered master_writes c from n some area in
    let place = buffered_place lies.1 from n lies.4 in
    let takes : some_address (takes_writes d.memory) from n ≡ some_address (takes_writes c.memory) from n =
    some_process d.memory from n some place.0 place.1
    ∙ sym (some_process c.memory from n some place.0 place.1) in
    (λ i. is_range from n && ((not (locked i) && takes i) || is_some (filled i)))

-- at the station that is named a test is what it is there, and elsewhere nothing is served
at_station : (a b : ℕ) (p q : Bool) (station : ℕ) → b ≡ a → (station ≡ a → q ≡ p)
    → (eqb station b && q) ≡ (eqb station a && p)
at_station a b p q station same served =
    ⊎_elim
    (λ (here : eqb station a ≡ true).
    let equal : q ≡ p = served (eqb-true station a here) in
    (λ i. eqb station (same i) && equal i))
    (λ (elsewhere : eqb station a ≡ false).
    (λ i. eqb station (same i) && q) ∙ ap (λ (t : Bool). t && q) elsewhere
    ∙ sym (ap (λ (t : Bool). t && p) elsewhere))
    (cases_Bool (eqb station a))

-- ---- what an accepted request gives, takes and counts

-- is what its data take served
gives_same : (k : Kind) (a n : ℕ) (c d : ControllerState) → mapping_of d ≡ mapping_of c
    → Accepts (record { kind = k; address = a; count = n }) c
    → (gives (command_of k) && serves_reading (addressing (command_of k)) d a n)
    ≡ (gives (command_of k) && serves_reading (addressing (command_of k)) c a n)
gives_same Lrd a n c d same accepts = reads_same c d a n same
gives_same Lwr a n c d same accepts = refl
gives_same Lrw a n c d same accepts = reads_same c d a n same
gives_same Brd a n c d same accepts =
    range_read_same c d (ado_of a) n accepts.some same (inl accepts.place)
gives_same Fprd a n c d same accepts =
    at_station _ _ _ _ (adp_of a) (station_by_mapping c d same)
    (λ here. range_read_same c d (ado_of a) n accepts.some same (accepts.place here))
gives_same Fpwr a n c d same accepts = refl

-- is what the memory takes
fills_same : (k : Kind) (a n : ℕ) (c d : ControllerState) → mapping_of d ≡ mapping_of c
    → Accepts (record { kind = k; address = a; count = n }) c
    → (takes_data (command_of k) && serves_writing (addressing (command_of k)) d a n)
    ≡ (takes_data (command_of k) && serves_writing (addressing (command_of k)) c a n)
fills_same Lrd a n c d same accepts = refl
fills_same Lwr a n c d same accepts = writes_same c d a n same
fills_same Lrw a n c d same accepts = writes_same c d a n same
fills_same Brd a n c d same accepts = refl
fills_same Fprd a n c d same accepts = refl
fills_same Fpwr a n c d same accepts =
    at_station _ _ _ _ (adp_of a) (station_by_mapping c d same)
    (λ here. range_write_same c d (ado_of a) n accepts.some same (accepts.place here))

pub gain_by_mapping : (r : Request) (c d : ControllerState) → mapping_of d ≡ mapping_of c → Accepts r c
    → gain r d ≡ gain r c
unfolding gain
gain_by_mapping r c d same accepts =
    let x = command_of r.kind in
    let given = gives_same r.kind r.address r.count c d same accepts in
    let filled = fills_same r.kind r.address r.count c d same accepts in
    gain_served x d r.address r.count
    ∙ (λ i. cond (given i) 1 0 + cond (filled i) (cond (gives x) 2 1) 0)
    ∙ sym (gain_served x c r.address r.count)

where_placed : (b : Bool) (h : Half) → (where_served b h).places ≡ (λ p. cond b (h.places p) None)
where_placed true h = refl
where_placed false h = refl

taken_kind : (k : Kind) (a n : ℕ) (c d : ControllerState) → mapping_of d ≡ mapping_of c
    → Accepts (record { kind = k; address = a; count = n }) c
    → taken (record { kind = k; address = a; count = n }) d
    ≡ taken (record { kind = k; address = a; count = n }) c
unfolding taken
taken_kind Lrd a n c d same accepts = refl
taken_kind Lwr a n c d same accepts =
    (λ i. (where_served (writes_same c d a n same i)
    (record { places = written_same c d a n same i; gain = 1; mail = None })).places)
taken_kind Lrw a n c d same accepts =
    (λ i. (where_served (writes_same c d a n same i)
    (record { places = written_same c d a n same i; gain = 2; mail = None })).places)
taken_kind Brd a n c d same accepts = refl
taken_kind Fprd a n c d same accepts = refl
taken_kind Fpwr a n c d same accepts =
    let from = ado_of a in
    let half : ControllerState → Half = λ x. record {
      places = range_targets x from n;
      gain = 1;
      mail = written_mailbox x from n;
    } in
    let served = fills_same Fpwr a n c d same accepts in
    let serves : ControllerState → Bool = λ x. serves_writing (addressing (command_of Fpwr)) x a n in
    let place : Bool → ControllerState → ℕ → Option ℕ = λ b x p.
    cond b (cond (within from n (p / 8) && takes_writes x.memory (p / 8)) (Some (p - 8 * from)) None) None in
    where_placed (serves d) (half d)
    ∙ (λ i p. place (served i) d p)
    ∙ ⊎_elim
    (λ (named : eqb (adp_of a) (word_at c.memory STATION_ADDRESS) ≡ true).
    let lies = lies_buffered master_writes c from n accepts.some
    (accepts.place (eqb-true (adp_of a) (word_at c.memory STATION_ADDRESS) named)) in
    let within_process = buffered_place lies.1 from n lies.4 in
    (λ i p. cond (serves c) (cond
    (taken_within c.memory d.memory from n (p / 8) within_process.0 within_process.1 i)
    (Some (p - 8 * from)) None) None))
    (λ (other : eqb (adp_of a) (word_at c.memory STATION_ADDRESS) ≡ false).
    let none : serves c ≡ false = ap (λ (b : Bool). b && serves_range_write c from n) other in
    (λ i p. place (none i) d p) ∙ sym (λ i p. place (none i) c p))
    (cases_Bool (eqb (adp_of a) (word_at c.memory STATION_ADDRESS)))
    ∙ sym (where_placed (serves c) (half c))

taken_by_mapping : (r : Request) (c d : ControllerState) → mapping_of d ≡ mapping_of c → Accepts r c
    → taken r d ≡ taken r c
taken_by_mapping r c d same accepts = taken_kind r.kind r.address r.count c d same accepts

-- ---- a controller that moved

pub alike_by_mapping : (c d : ControllerState) → mapping_of d ≡ mapping_of c → IsController d → IsAlike c d
alike_by_mapping c d same controller = record {
  mapping = same;
  fit = fit_by_mapping c d same controller;
  station = station_by_mapping c d same;
  reads = λ l p. reads_back c d l p same;
  writes = λ l p. writes_back c d l p same;
  accepts = λ r. accepts_by_mapping r c d same;
  gains = λ r. gain_by_mapping r c d same;
  takes = λ r. taken_by_mapping r c d same;
  shows = λ is_written address. shows_same is_written address c d same;
}

pub moved_by_mapping : (c d : ControllerState) → mapping_of d ≡ mapping_of c → IsController d
    → d.shown ≡ c.shown
    → ((a : ℕ) → PROCESS_MEMORY ≤ a → is_locked (sync_managers_of c.memory) a ≡ false
    → slice_index d.memory a ≡ slice_index c.memory a)
    → HasMoved c d
unfolding taken
moved_by_mapping c d same after shown kept = record {
  alike = alike_by_mapping c d same after;
  shown = shown;
  kept = λ r p i accepts e.
      let free = written_free r.kind r.address r.count c p i accepts e in
      ap (λ b. bit_at b (p % 8)) (kept (p / 8) free.0 free.1);
}
