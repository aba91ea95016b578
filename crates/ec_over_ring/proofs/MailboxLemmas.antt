-- A mailbox is written and read by station: what the slave that is meant counts and tells, and what it is
-- left as.
use Rattle.std.proofs.Common.{◌≡◌, ℕ, ◌+◌, ◌*◌, ◌/◌, ◌-◌, ◌<◌, ◌≤◌, Bool, true, false, cond, eqb}
use Rattle.std.proofs.Common.{ltb, leb, ◌&&◌, ◌||◌, List, length, take, drop, get_or, set, Option}
use Rattle.std.proofs.Common.{None, Some, refl, sym, ap, ◌∙◌, arith, subst, ⊎_elim, replicate}
use Rattle.std.proofs.Common.{get_or-set_other, get_or-set_same}
use Rattle.std.specs.Prelude.{not, bit_and, bit_or, ◌≢◌}
use Rattle.std.specs.Int.{w8, bit_at}
use Rattle.std.specs.List.{position}
use Rattle.std.specs.Option.{is_some}
use Rattle.std.proofs.Math.Bool.{or-true}
use Rattle.std.proofs.lemmas.Bool.{and_parts, and_from, eq-eqb, cases_lt, cases_eq}
use Rattle.std.proofs.lemmas.Bool.Decides.{nat_tests}
use Rattle.std.proofs.lemmas.List.{ext_get_or, length-take-le, length-drop, length-set, length-replicate}
use Rattle.std.proofs.lemmas.List.{get_or_past, drop-set-lt}
use Rattle.std.proofs.lemmas.Nat.{and_le_l, or_lt}
use Rattle.std.proofs.lemmas.Nat.Bits.{same_from_bits_below, bit_at_set_same, bit_at_clear_same}
use Rattle.ec_regs.specs.Bits.{AreBytes, with_bits}
use Rattle.ec_regs.specs.SyncMan.{is_active, is_mailbox, is_full, master_reads, master_writes}
use Rattle.ec_regs.specs.declared.registers.TheConstants.{STATION_ADDRESS, MEMORY_SIZE, PROCESS_MEMORY}
use Rattle.ec_regs.specs.declared.sync_man.SyncMan.{SyncMan}
use Rattle.ec_regs.proofs.Laws.{AreBytes-with_bits, length-with_bits, bit_of_byte, bit-with_bits_taken}
use Rattle.ec_regs.proofs.Laws.{get_or-with_bits_kept, get_or-run, copied_run, AreBytes-run}
use Rattle.ec_areas.proofs.Laws.{takes_process}
use Rattle.ec_areas.specs.Ranges.{is_range, is_area, takes_mail, gives_mail, filled_by, emptied_by, meets_one}
use Rattle.ec_areas.specs.Ranges.{takes_writes, serves_physical_read, serves_physical_write, meets_locked}
use Rattle.ec_areas.specs.Ranges.{meets_hidden, some_address}
use Rattle.ec_areas.specs.Records.{sync_manager_at, sync_managers_of}
use Rattle.ec_wire.specs.Datagram.{DatagramRecord, adp_of, ado_of}
use Rattle.ec_wire.specs.declared.command.Command.TheVariants.{Fprd, Fpwr}
use Rattle.ec_esc.specs.State.{ControllerState, IsController, word_at}
use Rattle.ec_esc.specs.Writing.{is_shown_anew, shown_after}
use Rattle.ec_esc.specs.Pass.{Effect, Half, nothing, where_served, effect, applied, range_taken}
use Rattle.ec_esc.specs.Pass.{range_given, range_sources, range_targets, is_written, written_places, touches}
use Rattle.ec_esc.specs.Pass.{written_by, pass}
use Rattle.ec_esc.specs.Pass.{serves_range_read, serves_range_write}
use Rattle.ec_esc.proofs.Laws.{get_or-shown_after, length-shown_after, written_nothing, written_plain}
use Rattle.ec_app.specs.Roles.{is_answer_mailbox, is_request_mailbox}
use Rattle.ec_services.specs.Ask.{request}
use Rattle.ec_over_ring.proofs.ManagerLemmas.{SameBut}

-- ---- which mailbox a range is

-- an active area of that start and length
whole : (s : SyncMan) (from n : ℕ) → is_active s ≡ true → s.start ≡ from → s.length ≡ n
    → is_area s from n ≡ true
whole s from n active start size =
    and_from _ _ (and_from _ _ active (eq-eqb s.start from start)) (eq-eqb s.length n size)

-- the mailbox of requests takes a mail where it is empty
takes : (s : SyncMan) (from n : ℕ) → is_request_mailbox s ≡ true → s.start ≡ from → s.length ≡ n
    → is_full s ≡ false → takes_mail from n s ≡ true
unfolding takes_mail
takes s from n requests start size empty =
    let kind = and_parts (is_active s && is_mailbox s) (master_writes s) requests in
    let active = and_parts (is_active s) (is_mailbox s) kind.0 in
    and_from _ _ (and_from _ _ (and_from _ _ (whole s from n active.0 start size) active.1) kind.1)
    (ap (λ (b : Bool). not b) empty)

-- the mailbox of answers gives one where it is full
gives : (s : SyncMan) (from n : ℕ) → is_answer_mailbox s ≡ true → s.start ≡ from → s.length ≡ n
    → is_full s ≡ true → gives_mail from n s ≡ true
unfolding gives_mail
gives s from n answers start size full =
    let kind = and_parts (is_active s && is_mailbox s) (master_reads s) answers in
    let active = and_parts (is_active s) (is_mailbox s) kind.0 in
    and_from _ _ (and_from _ _ (and_from _ _ (whole s from n active.0 start size) active.1) kind.1) full

-- the mailbox of requests gives none
other_way : (s : SyncMan) → master_writes s ≡ true → master_reads s ≡ false
other_way s writes = grind (arith, nat_tests)

third_fails : (a b c d : Bool) → c ≡ false → (a && b && c && d) ≡ false
third_fails true true c d fails = ap (λ (x : Bool). x && d) fails
third_fails true false c d fails = refl
third_fails false b c d fails = refl

gives_none : (s : SyncMan) (from n : ℕ) → is_request_mailbox s ≡ true → gives_mail from n s ≡ false
unfolding gives_mail
gives_none s from n requests =
    let kind = and_parts (is_active s && is_mailbox s) (master_writes s) requests in
    third_fails (is_area s from n) (is_mailbox s) (master_reads s) (is_full s) (other_way s kind.1)

-- the first sync manager is found first, and the second where the first is not meant
first_found : (test : SyncMan → Bool) (m : List ℕ) → test (sync_manager_at m 0) ≡ true
    → position test (sync_managers_of m) ≡ Some 0
unfolding sync_managers_of
first_found test m holds = rw holds refl

second_found : (test : SyncMan → Bool) (m : List ℕ) → test (sync_manager_at m 0) ≡ false
    → test (sync_manager_at m 1) ≡ true → position test (sync_managers_of m) ≡ Some 1
unfolding sync_managers_of
second_found test m fails holds = rw (fails, holds) refl

-- so a write of the whole mailbox of requests fills it, and a read of that of answers empties it
pub fills : (m : List ℕ) (from n : ℕ) → is_request_mailbox (sync_manager_at m 0) ≡ true
    → (sync_manager_at m 0).start ≡ from → (sync_manager_at m 0).length ≡ n
    → meets_one (sync_managers_of m) from n ≡ true → is_full (sync_manager_at m 0) ≡ false
    → filled_by (sync_managers_of m) from n ≡ Some 0
unfolding filled_by
fills m from n requests start size alone empty =
    ap (λ (b : Bool). cond b (position (takes_mail from n) (sync_managers_of m)) None) alone
    ∙ first_found (takes_mail from n) m (takes (sync_manager_at m 0) from n requests start size empty)

pub empties : (m : List ℕ) (from n : ℕ) → is_request_mailbox (sync_manager_at m 0) ≡ true
    → is_answer_mailbox (sync_manager_at m 1) ≡ true
    → (sync_manager_at m 1).start ≡ from → (sync_manager_at m 1).length ≡ n
    → meets_one (sync_managers_of m) from n ≡ true → is_full (sync_manager_at m 1) ≡ true
    → emptied_by (sync_managers_of m) from n ≡ Some 1
unfolding emptied_by
empties m from n requests answers start size alone full =
    ap (λ (b : Bool). cond b (position (gives_mail from n) (sync_managers_of m)) None) alone
    ∙ second_found (gives_mail from n) m (gives_none (sync_manager_at m 0) from n requests)
    (gives (sync_manager_at m 1) from n answers start size full)

-- ---- the write

in_memory : (from n : ℕ) → 1 ≤ n → from + n ≤ MEMORY_SIZE → is_range from n ≡ true
in_memory from n some inside =
    let first : leb 1 n ≡ true = grind (arith, nat_tests) in
    let last : leb (from + n) 12288 ≡ true = grind (arith, nat_tests) in
    and_from _ _ first last

write_served : (m : List ℕ) (from n : ℕ) → 1 ≤ n → from + n ≤ MEMORY_SIZE
    → filled_by (sync_managers_of m) from n ≡ Some 0
    → serves_physical_write m (sync_managers_of m) from n ≡ true
write_served m from n some inside filled =
    let plain : Bool = not (meets_locked (sync_managers_of m) from n)
    && some_address (takes_writes m) from n in
    and_from _ _ (in_memory from n some inside)
    (ap (λ (o : Option ℕ). plain || is_some o) filled ∙ or-true plain)

fill_effect : ControllerState → ℕ → ℕ → Effect
fill_effect c from n = record {
  reading = nothing;
  writing = record { places = range_targets c from n; gain = 1; mail = Some 0 };
}

write_effect : (c : ControllerState) (address from n : ℕ)
    → eqb (adp_of address) (word_at c.memory STATION_ADDRESS) ≡ true → ado_of address ≡ from
    → serves_physical_write c.memory (sync_managers_of c.memory) from n ≡ true
    → filled_by (sync_managers_of c.memory) from n ≡ Some 0
    → effect Fpwr c address n ≡ fill_effect c from n
unfolding fill_effect
write_effect c address from n meant place served filled =
    ap (λ (b : Bool). record {
      reading = nothing;
      writing = where_served (b && serves_range_write c (ado_of address) n) (range_taken 1 c
          (ado_of address) n);
    }) meant
    ∙ ap (λ (a : ℕ). record {
      reading = nothing;
      writing = where_served (serves_range_write c a n) (range_taken 1 c a n);
    }) place
    ∙ ap (λ (b : Bool). record {
      reading = nothing;
      writing = where_served b (range_taken 1 c from n);
    }) served
    ∙ ap (λ (o : Option ℕ). record {
      reading = nothing;
      writing = record { places = range_targets c from n; gain = 1; mail = o };
    }) filled

-- ---- the bytes that it writes

byte_written : (m : List ℕ) (from n k : ℕ) → 4096 ≤ from → from + n ≤ 12288 → k < n
    → is_written m from n (from + k) ≡ true
byte_written m from n k low high below =
    let first : leb from (from + k) ≡ true = grind (arith, nat_tests) in
    let last : ltb (from + k) (from + n) ≡ true = grind (arith, nat_tests) in
    and_from _ _ (and_from _ _ first last)
    (takes_process m (from + k) (omega (arith, low)) (omega (arith, high, below)))

-- the data bit that a bit of a byte takes
target_of : (m : List ℕ) (from n k b : ℕ) → is_written m from n (from + k) ≡ true → b < 8
    → written_places m from n (8 * (from + k) + b) ≡ Some (8 * k + b)
target_of m from n k b taken below =
    let byte : (8 * (from + k) + b) / 8 ≡ from + k = omega (arith, below) in
    let place : 8 * (from + k) + b - 8 * from ≡ 8 * k + b = omega arith in
    ap (λ (x : ℕ). cond (is_written m from n x) (Some (8 * (from + k) + b - 8 * from)) None) byte
    ∙ ap (λ (t : Bool). cond t (Some (8 * (from + k) + b - 8 * from)) None) taken
    ∙ ap (λ (x : ℕ). Some x) place

-- each is that of the data
new_byte : (m payload : List ℕ) (from n k : ℕ) → length m ≡ 12288 → AreBytes payload → 4096 ≤ from
    → from + n ≤ 12288 → k < n
    → get_or (with_bits m payload (written_places m from n)) (from + k) 0 ≡ get_or payload k 0
new_byte m payload from n k size bytes low high below =
    let places : ℕ → Option ℕ = written_places m from n in
    let taken : is_written m from n (from + k) ≡ true = byte_written m from n k low high below in
    same_from_bits_below 8 (get_or (with_bits m payload places) (from + k) 0) (get_or payload k 0)
    (AreBytes-with_bits m payload places (from + k)) (bytes k)
    (λ b small.
    sym (bit_of_byte (with_bits m payload places) (from + k) b small)
    ∙ bit-with_bits_taken m payload places (8 * (from + k) + b) (8 * k + b)
    (omega (arith, size, high, below, small))
    (target_of m from n k b taken small)
    ∙ bit_of_byte payload k b small)

-- so the range holds the data
run_written : (m payload : List ℕ) (from : ℕ) → length m ≡ 12288 → AreBytes payload → 4096 ≤ from
    → from + length payload ≤ 12288
    → take (length payload) (drop from (with_bits m payload (written_places m from (length payload))))
    ≡ payload
run_written m payload from size bytes low high =
    let n : ℕ = length payload in
    let new : List ℕ = with_bits m payload (written_places m from n) in
    let new_size : length new ≡ length m = length-with_bits m payload (written_places m from n) in
    let run_size : length (take n (drop from new)) ≡ n =
    length-take-le n (drop from new)
    (let d = length-drop from new in omega (arith, d, new_size, size, high)) in
    ext_get_or 0 (take n (drop from new)) payload run_size
    (λ k inside.
    let below : k < n = omega (arith, inside, run_size) in
    get_or-run new from n k below ∙ new_byte m payload from n k size bytes low high below)

-- no register is written
register_none : (m : List ℕ) (from n p : ℕ) → 4096 ≤ from → p / 8 < PROCESS_MEMORY
    → written_places m from n p ≡ None
register_none m from n p low register =
    let first : leb from (p / 8) ≡ false = grind (arith, nat_tests) in
    ap (λ (b : Bool). cond (b && ltb (p / 8) (from + n) && takes_writes m (p / 8)) (Some (p - 8 * from)) None)
    first

-- ---- the controller that was written to

-- its memory, before the mailbox is marked
abbrev new_memory : ControllerState → ℕ → List ℕ → List ℕ
new_memory c from payload = with_bits c.memory payload (written_places c.memory from (length payload))

abbrev pub filled_controller : ControllerState → ℕ → List ℕ → ControllerState
filled_controller c from payload =
    let new : List ℕ = new_memory c from payload in
    record c {
      memory = set new 2053 (bit_or (get_or new 2053 0) 8);
      shown = shown_after (touches (written_places c.memory from (length payload)))
          (sync_managers_of c.memory) (sync_managers_of c.memory) new c.shown;
    }

pub mail_written : (c : ControllerState) (address from : ℕ) (payload : List ℕ) → IsController c
    → eqb (adp_of address) (word_at c.memory STATION_ADDRESS) ≡ true → ado_of address ≡ from
    → 1 ≤ length payload → 4096 ≤ from → from + length payload ≤ MEMORY_SIZE
    → filled_by (sync_managers_of c.memory) from (length payload) ≡ Some 0
    → ((pass c (request Fpwr address payload)).datagram.counter ≡ 1)
    × ((pass c (request Fpwr address payload)).state ≡ filled_controller c from payload)
unfolding pass fill_effect
mail_written c address from payload controller meant place some low high filled =
    let d : DatagramRecord = request Fpwr address payload in
    let n : ℕ = length payload in
    let half : Half = record { places = range_targets c from n; gain = 1; mail = None } in
    let does : effect Fpwr c address n ≡ fill_effect c from n =
    write_effect c address from n meant place (write_served c.memory from n some high filled) filled in
    let plain = written_plain c half payload controller refl
    (λ p register. register_none c.memory from n p low register) in (
      ap (λ (e : Effect). (applied e c d).datagram.counter) does,
      ap (λ (e : Effect). (applied e c d).state) does
          ∙ ap (λ (x : ControllerState).
          record x { memory = set x.memory 2053 (bit_or (get_or x.memory 2053 0) 8) }) plain,
    )

-- ---- what it is left as

-- bit 3 of a status that is set, and of one that is cleared
pub set_bit : (x : ℕ) → bit_at (bit_or x 8) 3 ≡ 1
set_bit x = bit_at_set_same w8 x 3 (omega arith)

pub clear_bit : (x : ℕ) → bit_at (bit_and x 247) 3 ≡ 0
clear_bit x = bit_at_clear_same w8 x 3 (omega arith)

pub set_small : (x : ℕ) → x < 256 → bit_or x 8 < 256
set_small x small = or_lt 8 x 8 small (omega arith)

pub clear_small : (x : ℕ) → x < 256 → bit_and x 247 < 256
clear_small x small = let less : bit_and x 247 ≤ x = and_le_l x 247 in omega (arith, less, small)

-- a byte of a list that is set to a byte
pub bytes_set : (m : List ℕ) (a v : ℕ) → AreBytes m → v < 256 → AreBytes (set m a v)
bytes_set m a v bytes small k =
    ⊎_elim
    (λ (here : k ≡ a).
    ⊎_elim
    (λ (inside : a < length m).
    subst (λ (x : ℕ). x < 256)
    (sym (ap (λ (j : ℕ). get_or (set m a v) j 0) here ∙ get_or-set_same m a v 0 inside))
    small)
    (λ (past : length m ≤ a).
    let size : length (set m a v) ≡ length m = length-set m a v in
    let none : get_or (set m a v) k 0 ≡ 0 = get_or_past (set m a v) k 0 (omega (arith, size, here, past)) in
    omega (arith, none))
    (cases_lt a (length m)))
    (λ (other : k ≢ a). subst (λ (x : ℕ). x < 256) (sym (get_or-set_other m a k v 0 other)) (bytes k))
    (cases_eq k a)

-- shown bytes are bytes behind a write
pub either_small : (b : Bool) (x y : ℕ) → x < 256 → y < 256 → cond b x y < 256
either_small true x y first second = first
either_small false x y first second = second

pub bytes_shown : (test : ℕ → Bool) (before after : List SyncMan) (m shown : List ℕ) → AreBytes m
    → AreBytes shown → AreBytes (shown_after test before after m shown)
bytes_shown test before after m shown bytes are k =
    ⊎_elim
    (λ (inside : k < length shown).
    subst (λ (x : ℕ). x < 256) (sym (get_or-shown_after test before after m shown k inside))
    (either_small (is_shown_anew test before after (4096 + k)) (get_or m (4096 + k) 0) (get_or shown k 0)
    (bytes (4096 + k)) (are k)))
    (λ (past : length shown ≤ k).
    let size = length-shown_after test before after m shown in
    let none : get_or (shown_after test before after m shown) k 0 ≡ 0 =
    get_or_past (shown_after test before after m shown) k 0 (omega (arith, size, past)) in
    omega (arith, none))
    (cases_lt k (length shown))

-- the mailbox of requests is full of the data, and else no register has changed
pub record IsFilled (c : ControllerState) (from : ℕ) (payload : List ℕ) (after : ControllerState)
    : Type 0 where
  pub same : SameBut c.memory after.memory
  pub controller : IsController after
  pub unasked : after.written ≡ c.written
  pub mail : take (length payload) (drop from after.memory) ≡ payload
  pub full : bit_at (get_or after.memory 2053 0) 3 ≡ 1
  pub other : get_or after.memory 2061 0 ≡ get_or c.memory 2061 0

-- a byte behind a place that is set is not reached by a run behind it
pub run_set : (m : List ℕ) (a v from n : ℕ) → a < from → take n (drop from (set m a v)) ≡ take n (drop from m)
run_set m a v from n before = ap (λ (xs : List ℕ). take n xs) (drop-set-lt from m a v before)

pub is_filled : (c : ControllerState) (from : ℕ) (payload : List ℕ) → IsController c → AreBytes payload
    → 4096 ≤ from → from + length payload ≤ MEMORY_SIZE
    → IsFilled c from payload (filled_controller c from payload)
is_filled c from payload controller bytes low high =
    let n : ℕ = length payload in
    let places : ℕ → Option ℕ = written_places c.memory from n in
    let new : List ℕ = with_bits c.memory payload places in
    let v : ℕ = bit_or (get_or new 2053 0) 8 in
    let size : length new ≡ length c.memory = length-with_bits c.memory payload places in
    let memory : length c.memory ≡ MEMORY_SIZE = controller.memory_size in
    let kept : (a : ℕ) → a < 4096 → get_or new a 0 ≡ get_or c.memory a 0 =
    λ a register. get_or-with_bits_kept c.memory payload places a controller.memory
    (λ b below. register_none c.memory from n (8 * a + b) low (omega (arith, register, below))) in
    let new_bytes : AreBytes new = AreBytes-with_bits c.memory payload places in
    record {
      same = record {
        size = length-set new 2053 v ∙ size;
        bytes = λ a register requests answers.
            get_or-set_other new 2053 a v 0 requests ∙ kept a register;
      };
      controller = record {
        memory_size = length-set new 2053 v ∙ size ∙ memory;
        memory = bytes_set new 2053 v new_bytes (set_small (get_or new 2053 0) (new_bytes 2053));
        shown_size = length-shown_after _ _ _ new c.shown ∙ controller.shown_size;
        shown = bytes_shown _ _ _ new c.shown new_bytes controller.shown;
      };
      unasked = refl;
      mail = run_set new 2053 v from n (omega (arith, low))
          ∙ run_written c.memory payload from memory bytes low high;
      full = ap (λ (x : ℕ). bit_at x 3) (get_or-set_same new 2053 v 0 (omega (arith, size, memory)))
          ∙ set_bit (get_or new 2053 0);
      other = get_or-set_other new 2053 2061 v 0 (omega arith) ∙ kept 2061 (omega arith);
    }

-- ---- the read

-- a mail that is read comes whole, and its mailbox is marked empty
abbrev pub emptied_controller : ControllerState → ControllerState
emptied_controller c = record c { memory = set c.memory 2061 (bit_and (get_or c.memory 2061 0) 247) }

read_served : (managers : List SyncMan) (from n : ℕ) → 1 ≤ n → from + n ≤ MEMORY_SIZE
    → emptied_by managers from n ≡ Some 1 → serves_physical_read managers from n ≡ true
read_served managers from n some inside emptied =
    let plain : Bool = not (meets_hidden managers from n) in
    and_from _ _ (in_memory from n some inside)
    (ap (λ (o : Option ℕ). plain || is_some o) emptied ∙ or-true plain)

empty_effect : ℕ → Effect
empty_effect from = record {
  reading = record { places = range_sources from; gain = 1; mail = Some 1 };
  writing = nothing;
}

read_effect : (c : ControllerState) (address from n : ℕ)
    → eqb (adp_of address) (word_at c.memory STATION_ADDRESS) ≡ true → ado_of address ≡ from
    → serves_physical_read (sync_managers_of c.memory) from n ≡ true
    → emptied_by (sync_managers_of c.memory) from n ≡ Some 1
    → effect Fprd c address n ≡ empty_effect from
unfolding empty_effect
read_effect c address from n meant place served emptied =
    ap (λ (b : Bool). record {
      reading = where_served (b && serves_range_read c (ado_of address) n)
          (range_given (range_sources (ado_of address)) c (ado_of address) n);
      writing = nothing;
    }) meant
    ∙ ap (λ (a : ℕ). record {
      reading = where_served (serves_range_read c a n) (range_given (range_sources a) c a n);
      writing = nothing;
    }) place
    ∙ ap (λ (b : Bool). record {
      reading = where_served b (range_given (range_sources from) c from n);
      writing = nothing;
    }) served
    ∙ ap (λ (o : Option ℕ). record {
      reading = record { places = range_sources from; gain = 1; mail = o };
      writing = nothing;
    }) emptied

run_read : (c : ControllerState) (from n : ℕ) → IsController c → from + n ≤ MEMORY_SIZE
    → with_bits (replicate n 0) c.memory (range_sources from) ≡ take n (drop from c.memory)
run_read c from n controller inside =
    let zs : List ℕ = take n (drop from c.memory) in
    let memory : length c.memory ≡ MEMORY_SIZE = controller.memory_size in
    let size : length zs ≡ n =
    length-take-le n (drop from c.memory)
    (let d = length-drop from c.memory in omega (arith, d, memory, inside)) in
    let zeros : length (replicate n 0) ≡ n = length-replicate {A = ℕ} n 0 in
    sym (copied_run zs (replicate n 0) c.memory from (size ∙ sym zeros)
    (AreBytes-run zs c.memory from n (omega (arith, size)) controller.memory
    (λ k below. get_or-run c.memory from n k below))
    (λ k below. get_or-run c.memory from n k (omega (arith, below, zeros))))

pub mail_taken : (c : ControllerState) (address from n : ℕ) → IsController c
    → eqb (adp_of address) (word_at c.memory STATION_ADDRESS) ≡ true → ado_of address ≡ from
    → 1 ≤ n → from + n ≤ MEMORY_SIZE → emptied_by (sync_managers_of c.memory) from n ≡ Some 1
    → pass c (request Fprd address (replicate n 0))
    ≡ record {
      datagram = record (request Fprd address (take n (drop from c.memory))) { counter = 1 };
      state = emptied_controller c;
    }
unfolding pass empty_effect
mail_taken c address from n controller meant place some inside emptied =
    let d : DatagramRecord = request Fprd address (replicate n 0) in
    let size : length (replicate n 0) ≡ n = length-replicate {A = ℕ} n 0 in
    let none : ControllerState = written_by nothing (replicate n 0) c in
    ap (λ (m : ℕ). applied (effect Fprd c address m) c d) size
    ∙ ap (λ (e : Effect). applied e c d)
    (read_effect c address from n meant place
    (read_served (sync_managers_of c.memory) from n some inside emptied) emptied)
    ∙ ap (λ (bytes : List ℕ). record {
      datagram = record (request Fprd address bytes) { counter = 1 };
      state = emptied_controller none;
    }) (run_read c from n controller inside)
    ∙ ap (λ (x : ControllerState). record {
      datagram = record (request Fprd address (take n (drop from c.memory))) { counter = 1 };
      state = emptied_controller x;
    }) (written_nothing c (replicate n 0) controller)

-- the mailbox of answers is empty then, and else no register has changed
pub record IsEmptied (c after : ControllerState) : Type 0 where
  pub same : SameBut c.memory after.memory
  pub controller : IsController after
  pub unasked : after.written ≡ c.written
  pub empty : bit_at (get_or after.memory 2061 0) 3 ≡ 0
  pub other : get_or after.memory 2053 0 ≡ get_or c.memory 2053 0

pub is_emptied : (c : ControllerState) → IsController c → IsEmptied c (emptied_controller c)
is_emptied c controller =
    let v : ℕ = bit_and (get_or c.memory 2061 0) 247 in
    let memory : length c.memory ≡ MEMORY_SIZE = controller.memory_size in
    record {
      same = record {
        size = length-set c.memory 2061 v;
        bytes = λ a register requests answers. get_or-set_other c.memory 2061 a v 0 answers;
      };
      controller = record {
        memory_size = length-set c.memory 2061 v ∙ memory;
        memory = bytes_set c.memory 2061 v controller.memory
            (clear_small (get_or c.memory 2061 0) (controller.memory 2061));
        shown_size = controller.shown_size;
        shown = controller.shown;
      };
      unasked = refl;
      empty = ap (λ (x : ℕ). bit_at x 3) (get_or-set_same c.memory 2061 v 0 (omega (arith, memory)))
          ∙ clear_bit (get_or c.memory 2061 0);
      other = get_or-set_other c.memory 2061 2053 v 0 (omega arith);
    }
