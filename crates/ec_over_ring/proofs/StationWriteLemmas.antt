-- A station address is written by place: the slave that finds 0 in the ADP takes it and keeps all else, the
-- others keep all, and each adds 1 to the ADP.
use Rattle.std.proofs.Common.{◌≡◌, ℕ, zero, suc, ◌+◌, ◌*◌, ◌/◌, ◌-◌, ◌%◌, ◌<◌, ◌≤◌, Bool, true, false, cond}
use Rattle.std.proofs.Common.{eqb, ltb, leb, ◌&&◌, ◌||◌, List, [], ◌∷◌, length, get_or, Option, None, Some}
use Rattle.std.proofs.Common.{refl, sym, ap, ◌∙◌, arith, subst, ⊎_elim, inl, inr}
use Rattle.std.specs.Prelude.{not, ◌≢◌, ◌⊎◌}
use Rattle.std.specs.Int.{bit_at, w16, to_le_bytes}
use Rattle.std.specs.Option.{is_some}
use Rattle.std.proofs.Math.Bool.{and-false, or-false}
use Rattle.std.proofs.lemmas.Bool.{cases_Bool, cases_lt, ne_eqb}
use Rattle.std.proofs.lemmas.Bool.Decides.{nat_tests}
use Rattle.std.proofs.lemmas.List.{ext_get_or}
use Rattle.std.proofs.lemmas.List.FromFn.{length-map-range_with_len, get_or-map-range_with_len}
use Rattle.ec_regs.specs.Bits.{AreBytes, placed_bit, with_bits}
use Rattle.ec_regs.specs.SyncMan.{is_active, is_buffered, master_writes}
use Rattle.ec_regs.specs.declared.registers.TheConstants.{AL_CONTROL, MEMORY_SIZE, STATION_ADDRESS}
use Rattle.ec_regs.specs.declared.sync_man.SyncMan.{SyncMan}
use Rattle.ec_regs.proofs.Laws.{get_or-run, kept_byte, taken_byte, with_bits_by_bytes}
use Rattle.ec_regs.proofs.Laws.{with_bits_none}
use Rattle.ec_areas.proofs.Laws.{active_place, filled_registers, locked_registers, names_nowhere}
use Rattle.ec_areas.specs.Ranges.{filled_by, is_in_sync_manager, serves_physical_write, some_address}
use Rattle.ec_areas.specs.Ranges.{sync_manager_number, sync_manager_offset, takes_writes}
use Rattle.ec_areas.specs.Records.{sync_manager_at, sync_managers_of}
use Rattle.ec_wire.specs.Datagram.{DatagramRecord, ado_of, adp_of, address_of}
use Rattle.ec_wire.specs.declared.command.Command.TheVariants.{Apwr}
use Rattle.ec_esc.specs.State.{ControllerState, IsController, with_run}
use Rattle.ec_esc.specs.Writing.{hands_over, is_shown_anew, is_switched, settled, settled_byte, shown_after}
use Rattle.ec_esc.specs.Writing.{shown_byte}
use Rattle.ec_esc.specs.Pass.{Effect, Half, address_after, applied, datagram_after, effect, is_written}
use Rattle.ec_esc.specs.Pass.{nothing, pass, range_taken, range_targets, serves_range_write, state_after}
use Rattle.ec_esc.specs.Pass.{touches, where_served, written_places}
use Rattle.ec_esc.proofs.Laws.{get_or-with_run_beside, length-with_run, written_nothing}
use Rattle.ec_services.specs.Ask.{request}
use Rattle.ec_over_ring.specs.Stations.{restationed}
use Rattle.ec_over_ring.proofs.ManagerLemmas.{manager_is}
use Rattle.ec_over_ring.proofs.SlaveLemmas.{run_bytes, word_bytes}
use Rattle.ec_over_ring.proofs.StepLemmas.{run_put}

-- ---- what the write does

-- both bytes of the station address take writes
station_taken : (m : List ℕ) → some_address (takes_writes m) 16 2 ≡ true
unfolding some_address takes_writes
station_taken m = refl

-- so it is served
station_served : (m : List ℕ) → serves_physical_write m (sync_managers_of m) 16 2 ≡ true
station_served m =
    let rest : Bool = is_some (filled_by (sync_managers_of m) 16 2) in
    ap (λ (b : Bool). (not b && some_address (takes_writes m) 16 2) || rest)
    (locked_registers (sync_managers_of m) 16 2 (omega arith))
    ∙ ap (λ (b : Bool). b || rest) (station_taken m)

write_effect : ControllerState → Effect
write_effect c = record {
  reading = nothing;
  writing = record { places = range_targets c 16 2; gain = 1; mail = None };
}

-- where it is meant
meant_effect : (c : ControllerState) (address : ℕ) → eqb (adp_of address) 0 ≡ true
    → ado_of address ≡ STATION_ADDRESS
    → effect Apwr c address 2 ≡ write_effect c
unfolding write_effect
meant_effect c address meant place =
    ap (λ (b : Bool). record {
      reading = nothing;
      writing = where_served (b && serves_range_write c (ado_of address) 2) (range_taken 1 c
          (ado_of address) 2);
    }) meant
    ∙ ap (λ (a : ℕ). record {
      reading = nothing;
      writing = where_served (serves_range_write c a 2) (range_taken 1 c a 2);
    }) place
    ∙ ap (λ (b : Bool). record {
      reading = nothing;
      writing = where_served b (range_taken 1 c 16 2);
    }) (station_served c.memory)
    ∙ ap (λ (o : Option ℕ). record {
      reading = nothing;
      writing = record { places = range_targets c 16 2; gain = 1; mail = o };
    }) (filled_registers (sync_managers_of c.memory) 16 2 (omega arith))

abbrev silent : Effect
silent = record { reading = nothing; writing = nothing }

-- and where another is
other_effect : (c : ControllerState) (address n : ℕ) → eqb (adp_of address) 0 ≡ false
    → effect Apwr c address n ≡ silent
other_effect c address n other =
    ap (λ (b : Bool). record {
      reading = nothing;
      writing = where_served (b && serves_range_write c (ado_of address) n) (range_taken 1 c
          (ado_of address) n);
    }) other

-- ---- the memory

-- a byte of a run that was put
pub run_inside : (m ys : List ℕ) (at k : ℕ) → at ≤ length m → k < length ys
    → get_or (with_run m at ys) (at + k) 0 ≡ get_or ys k 0
run_inside m ys at k inside below =
    sym (get_or-run (with_run m at ys) at (length ys) k below)
    ∙ ap (λ (xs : List ℕ). get_or xs k 0) (run_put m ys at (length ys) inside refl)

-- the data bit that a bit of a byte takes
target_at : (m : List ℕ) (a k b : ℕ) → is_written m 16 2 a ≡ true → a ≡ 16 + k → b < 8
    → written_places m 16 2 (8 * a + b) ≡ Some (8 * k + b)
target_at m a k b taken is below =
    let byte : (8 * a + b) / 8 ≡ a = omega (arith, below) in
    let place : 8 * a + b - 8 * 16 ≡ 8 * k + b = omega (arith, is) in
    ap (λ (x : ℕ). cond (is_written m 16 2 x) (Some (8 * a + b - 8 * 16)) None) byte
    ∙ ap (λ (t : Bool). cond t (Some (8 * a + b - 8 * 16)) None) taken
    ∙ ap (λ (x : ℕ). Some x) place

no_target : (m : List ℕ) (a b : ℕ) → is_written m 16 2 a ≡ false → b < 8
    → written_places m 16 2 (8 * a + b) ≡ None
no_target m a b elsewhere below =
    let byte : (8 * a + b) / 8 ≡ a = omega (arith, below) in
    ap (λ (x : ℕ). cond (is_written m 16 2 x) (Some (8 * a + b - 8 * 16)) None) byte
    ∙ ap (λ (t : Bool). cond t (Some (8 * a + b - 8 * 16)) None) elsewhere

first_written : (m : List ℕ) → is_written m 16 2 16 ≡ true
unfolding takes_writes
first_written m = refl

second_written : (m : List ℕ) → is_written m 16 2 17 ≡ true
unfolding takes_writes
second_written m = refl

low_unwritten : (m : List ℕ) (a : ℕ) → a < 16 → is_written m 16 2 a ≡ false
low_unwritten m a low =
    let outside : leb 16 a ≡ false = grind (arith, nat_tests) in
    rw outside refl

high_unwritten : (m : List ℕ) (a : ℕ) → 18 ≤ a → is_written m 16 2 a ≡ false
high_unwritten m a high =
    let inside : leb 16 a ≡ true = grind (arith, nat_tests) in
    let outside : ltb a 18 ≡ false = grind (arith, nat_tests) in
    rw (inside, outside) refl

-- a byte of the run is that of the data
taken_bit : (m payload : List ℕ) (j b : ℕ) → length m ≡ MEMORY_SIZE → length payload ≡ 2 → j < 2 → b < 8
    → bit_at (get_or (with_run m 16 payload) (16 + j) 0) b
    ≡ placed_bit m payload (written_places m 16 2) (8 * (16 + j) + b)
taken_bit m payload j b size two below bit =
    ap (λ (x : ℕ). bit_at x b) (run_inside m payload 16 j (omega (arith, size)) (omega (arith, two, below)))
    ∙ taken_byte m payload (written_places m 16 2) (8 * (16 + j) + b) (8 * j + b) j b
    (target_at m (16 + j) j b (one_written j below) refl bit) refl bit
  where
    one_written : (i : ℕ) → i < 2 → is_written m 16 2 (16 + i) ≡ true
    one_written zero low = first_written m
    one_written (suc zero) low = second_written m
    one_written (suc (suc i)) low = absurd (omega (arith, low))

kept_bit : (m payload : List ℕ) (k b : ℕ) → length m ≡ MEMORY_SIZE → length payload ≡ 2
    → get_or (with_run m 16 payload) k 0 ≡ get_or m k 0 → is_written m 16 2 k ≡ false → b < 8
    → bit_at (get_or (with_run m 16 payload) k 0) b
    ≡ placed_bit m payload (written_places m 16 2) (8 * k + b)
kept_bit m payload k b size two same elsewhere bit =
    ap (λ (x : ℕ). bit_at x b) same
    ∙ kept_byte m payload (written_places m 16 2) k b (no_target m k b elsewhere bit) bit

-- the memory in which the data are written is that with the run
run_written : (m payload : List ℕ) → length m ≡ MEMORY_SIZE → length payload ≡ 2 → AreBytes m
    → AreBytes payload
    → with_bits m payload (written_places m 16 2) ≡ with_run m 16 payload
run_written m payload size two memory bytes =
    let beside : (k : ℕ) → (k < 16) ⊎ (16 + length payload ≤ k)
    → get_or (with_run m 16 payload) k 0 ≡ get_or m k 0 =
    λ k outside. get_or-with_run_beside m payload 16 k (omega (arith, size, two)) outside in
    sym (with_bits_by_bytes (with_run m 16 payload) m payload (written_places m 16 2)
    (length-with_run m payload 16 (omega (arith, size, two)))
    (run_bytes m 16 payload memory bytes)
    (λ k b inside bit.
    ⊎_elim
    (λ (low : k < 16).
    kept_bit m payload k b size two (beside k (inl low)) (low_unwritten m k low) bit)
    (λ (from : 16 ≤ k).
    ⊎_elim
    (λ (to : k < 18).
    let is : 16 + (k - 16) ≡ k = omega (arith, from) in
    subst (λ (x : ℕ). bit_at (get_or (with_run m 16 payload) x 0) b
    ≡ placed_bit m payload (written_places m 16 2) (8 * x + b)) is
    (taken_bit m payload (k - 16) b size two (omega (arith, from, to)) bit))
    (λ (high : 18 ≤ k).
    kept_bit m payload k b size two (beside k (inr (omega (arith, two, high)))) (high_unwritten m k high) bit)
    (cases_lt k 18))
    (cases_lt k 16)))

-- ---- the sync managers

-- they stand elsewhere
manager_kept : (m payload : List ℕ) (i : ℕ) → length m ≡ MEMORY_SIZE → length payload ≡ 2
    → sync_manager_at (with_run m 16 payload) i ≡ sync_manager_at m i
manager_kept m payload i size two =
    let byte : (k : ℕ) → get_or (with_run m 16 payload) (2048 + 8 * i + k) 0
    ≡ get_or m (2048 + 8 * i + k) 0 =
    λ k. get_or-with_run_beside m payload 16 (2048 + 8 * i + k) (omega (arith, size, two))
    (inr (omega (arith, two))) in
    rw (
      manager_is (with_run m 16 payload) i,
      manager_is m i,
      byte 0,
      byte 1,
      byte 2,
      byte 3,
      byte 4,
      byte 5,
      byte 6,
      byte 7,
    ) refl

managers_kept : (m payload : List ℕ) → length m ≡ MEMORY_SIZE → length payload ≡ 2
    → sync_managers_of (with_run m 16 payload) ≡ sync_managers_of m
unfolding sync_managers_of
managers_kept m payload size two =
    let same : (i : ℕ) → sync_manager_at (with_run m 16 payload) i ≡ sync_manager_at m i =
    λ i. manager_kept m payload i size two in
    rw (same 0, same 1, same 2, same 3, same 4, same 5, same 6, same 7) refl

-- none is switched
switched_self : (b : Bool) → cond b (not b) b ≡ false
switched_self true = refl
switched_self false = refl

unswitched : (m payload : List ℕ) (i : ℕ) → length m ≡ MEMORY_SIZE → length payload ≡ 2
    → is_switched m (with_run m 16 payload) i ≡ false
unswitched m payload i size two =
    let s : SyncMan = sync_manager_at m i in
    ap (λ (t : SyncMan). cond (is_active s) (not (is_active t)) (is_active t))
    (manager_kept m payload i size two)
    ∙ switched_self (is_active s)

-- so no status is cleared
run_settled : (m payload : List ℕ) → length m ≡ MEMORY_SIZE → length payload ≡ 2
    → settled m (with_run m 16 payload) ≡ with_run m 16 payload
unfolding settled
run_settled m payload size two =
    let after : List ℕ = with_run m 16 payload in
    let steady : (a : ℕ) → settled_byte m after a ≡ get_or after a 0 =
    λ a. rw (
      unswitched m payload (sync_manager_number a) size two,
      and-false (is_in_sync_manager a && eqb (sync_manager_offset a) 5),
    ) refl in
    let same : length (settled m after) ≡ length after =
    length-map-range_with_len (settled_byte m after) 0 (length after) in
    ext_get_or 0 (settled m after) after same
    (λ a inside.
    get_or-map-range_with_len (settled_byte m after) 0 (length after) a a 0 (omega arith)
    (omega (arith, same, inside)) ∙ steady a)

-- ---- shown bytes

-- an area that stays is not handed over where its last byte is not written
hands_over_none : (test : ℕ → Bool) (s : SyncMan) → ((a : ℕ) → 18 ≤ a → test a ≡ false)
    → hands_over test s s ≡ false
hands_over_none test s none =
    ⊎_elim
    (λ (active : is_active s ≡ true).
    let place = (active_place s active).0 in
    rw (
      active,
      none (s.start + s.length - 1) (omega (arith, place)),
      and-false (is_buffered s && master_writes s),
    ) refl)
    (λ (inactive : is_active s ≡ false). rw inactive refl)
    (cases_Bool (is_active s))

-- so no byte is shown anew
shown_anew_none : (test : ℕ → Bool) (managers : List SyncMan) (a : ℕ)
    → ((x : ℕ) → 18 ≤ x → test x ≡ false)
    → is_shown_anew test managers managers a ≡ false
unfolding is_shown_anew
shown_anew_none test [] a none = refl
shown_anew_none test (s ∷ ss) a none = rw (hands_over_none test s none, shown_anew_none test ss a none) refl

-- and all shown bytes stay
shown_kept : (test : ℕ → Bool) (managers : List SyncMan) (memory shown : List ℕ)
    → ((a : ℕ) → 18 ≤ a → test a ≡ false)
    → shown_after test managers managers memory shown ≡ shown
unfolding shown_after
shown_kept test managers memory shown none =
    let byte = shown_byte test managers managers memory shown in
    let same : length (shown_after test managers managers memory shown) ≡ length shown =
    length-map-range_with_len byte 0 (length shown) in
    ext_get_or 0 (shown_after test managers managers memory shown) shown same
    (λ k inside.
    get_or-map-range_with_len byte 0 (length shown) k k 0 (omega arith) (omega (arith, same, inside))
    ∙ rw (shown_anew_none test managers (4096 + k) none) refl)

-- bits behind the station address are not written
untouched : (m : List ℕ) (a : ℕ) → 18 ≤ a → touches (written_places m 16 2) a ≡ false
untouched m a high =
    names_nowhere (λ b. written_places m 16 2 (8 * a + b)) 8
    (λ b below. no_target m a b (high_unwritten m a high) below)

-- ---- the controller that is meant

written_state : (c : ControllerState) (payload : List ℕ) → IsController c → length payload ≡ 2
    → AreBytes payload
    → state_after (write_effect c) c payload ≡ record c { memory = with_run c.memory 16 payload }
unfolding write_effect
written_state c payload controller two bytes =
    let m : List ℕ = c.memory in
    let after : List ℕ = with_run m 16 payload in
    let places : ℕ → Option ℕ = written_places m 16 2 in
    let F : List ℕ → List SyncMan → Bool → ControllerState = λ x ms w. record {
      memory = x;
      shown = shown_after (touches places) (sync_managers_of m) ms x c.shown;
      written = w;
    } in
    let touched : Bool = c.written || touches places AL_CONTROL in
    let memory_is : settled m (with_bits m payload places) ≡ after =
    ap (settled m) (run_written m payload controller.memory_size two controller.memory bytes)
    ∙ run_settled m payload controller.memory_size two in
    ap (λ (x : List ℕ). F x (sync_managers_of x) touched) memory_is
    ∙ ap (λ (ms : List SyncMan). F after ms touched) (managers_kept m payload controller.memory_size two)
    ∙ ap (F after (sync_managers_of m))
    (ap (λ b. c.written || b) (untouched m 288 (omega arith)) ∙ or-false c.written)
    ∙ ap (λ (xs : List ℕ). record { memory = after; shown = xs; written = c.written })
    (shown_kept (touches places) (sync_managers_of m) after c.shown (untouched m))

-- ---- the datagram on its way

-- a station write that has this ADP and was counted so often
abbrev pub write_at : ℕ → ℕ → ℕ → DatagramRecord
write_at adp station counter =
    record (request Apwr (address_of adp STATION_ADDRESS) (to_le_bytes w16 station)) { counter = counter }

-- the address behind a slave
counted_address : (adp : ℕ) → adp < 65536
    → (adp_of (address_of adp 16) + 1) % 65536 + 65536 * ado_of (address_of adp 16)
    ≡ address_of ((adp + 1) % 65536) 16
counted_address adp small = omega (arith, small)

-- what a write without a reading leaves of it
datagram_left : (e : Effect) (c : ControllerState) (adp station counter gain : ℕ) → adp < 65536
    → e.reading ≡ nothing → e.writing.gain ≡ gain
    → datagram_after e c (write_at adp station counter)
    ≡ write_at ((adp + 1) % 65536) station ((counter + gain) % 65536)
datagram_left e c adp station counter gain small silent_read counts =
    let d : DatagramRecord = write_at adp station counter in
    ap (λ (h : Half). record d {
      payload = with_bits d.payload c.memory h.places;
      counter = (counter + (h.gain + e.writing.gain)) % 65536;
      address = address_after d;
    }) silent_read
    ∙ ap (λ (n : ℕ). record d {
      payload = with_bits d.payload c.memory (λ _. None);
      counter = (counter + (0 + n)) % 65536;
      address = address_after d;
    }) counts
    ∙ ap (λ (bytes : List ℕ). record d {
      payload = bytes;
      counter = (counter + (0 + gain)) % 65536;
      address = address_after d;
    }) (with_bits_none d.payload c.memory (λ _. None) (word_bytes station) (λ i inside. refl))
    ∙ ap (λ (n : ℕ). record d { counter = n; address = address_after d })
    (let none : (counter + (0 + gain)) % 65536 ≡ (counter + gain) % 65536 = omega arith in none)
    ∙ ap (λ (n : ℕ). record d { counter = (counter + gain) % 65536; address = n }) (counted_address adp small)

-- ---- the pass

-- the slave that finds 0 takes the station address
pub meant_pass : (c : ControllerState) (station counter : ℕ) → IsController c
    → pass c (write_at 0 station counter)
    ≡ record { datagram = write_at 1 station ((counter + 1) % 65536); state = restationed c station }
unfolding pass write_effect
meant_pass c station counter controller =
    let d : DatagramRecord = write_at 0 station counter in
    ap (λ (e : Effect). applied e c d) (meant_effect c d.address refl refl)
    ∙ ap (λ (x : DatagramRecord). record { datagram = x; state = state_after (write_effect c) c d.payload })
    (datagram_left (write_effect c) c 0 station counter 1 (omega arith) refl refl)
    ∙ ap (λ (x : ControllerState). record {
      datagram = write_at 1 station ((counter + 1) % 65536);
      state = x;
    }) (written_state c d.payload controller refl (word_bytes station))

-- another lets it pass
pub passed_by : (c : ControllerState) (adp station counter : ℕ) → IsController c → 1 ≤ adp → adp < 65536
    → counter < 65536
    → pass c (write_at adp station counter)
    ≡ record { datagram = write_at ((adp + 1) % 65536) station counter; state = c }
unfolding pass
passed_by c adp station counter controller some small counts =
    let d : DatagramRecord = write_at adp station counter in
    let named : adp_of d.address ≢ 0 = λ is. absurd (omega (arith, some, small, is)) in
    ap (λ (e : Effect). applied e c d) (other_effect c d.address 2 (ne_eqb _ _ named))
    ∙ ap (λ (x : DatagramRecord). record { datagram = x; state = state_after silent c d.payload })
    (datagram_left silent c adp station counter 0 small refl refl)
    ∙ ap (λ (n : ℕ). record {
      datagram = write_at ((adp + 1) % 65536) station n;
      state = state_after silent c d.payload;
    })
    (let same : (counter + 0) % 65536 ≡ counter = omega (arith, counts) in same)
    ∙ ap (λ (x : ControllerState). record {
      datagram = write_at ((adp + 1) % 65536) station counter;
      state = x;
    }) (written_nothing c d.payload controller)
