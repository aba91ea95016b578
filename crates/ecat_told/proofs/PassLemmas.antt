-- What the pass of one datagram leaves of a controller's registers.
use Rattle.std.proofs.Common.{◌≡◌, ◌⊎◌, ℕ, ◌+◌, ◌-◌, ◌*◌, ◌/◌, ◌%◌, ◌<◌, ◌≤◌, Bool, true, false, cond, leb}
use Rattle.std.proofs.Common.{ltb, eqb}
use Rattle.std.proofs.Common.{◌&&◌, List, length, get_or, Option, None, Some, refl, sym, ap, ◌∙◌, arith}
use Rattle.std.proofs.Common.{⊎_elim, inl, inr}
use Rattle.std.proofs.Common.{get_or-set_other}
use Rattle.std.specs.Prelude.{bit_and, bit_or}
use Rattle.std.proofs.lemmas.Bool.{and_parts, cases_Bool, cases_lt, eqb-true}
use Rattle.std.proofs.lemmas.Bool.Decides.{nat_tests}
use Rattle.std.proofs.lemmas.List.FromFn.{get_or-map-range_with_len}
use Rattle.std.proofs.lemmas.Nat.Bits.{same_from_bits_below}
use Rattle.std.proofs.Math.Bool.{and-false}
use Rattle.ec_regs.specs.AddressRange.{within}
use Rattle.ec_regs.specs.Bits.{AreBytes, with_bits}
use Rattle.ec_regs.specs.declared.registers.TheConstants.{MEMORY_SIZE}
use Rattle.ec_regs.proofs.Laws.{AreBytes-with_bits, bit-with_bits_taken, bit_of_byte, get_or-with_bits_kept}
use Rattle.ec_regs.proofs.Laws.{length-with_bits}
use Rattle.ec_areas.proofs.Laws.{write_map_register}
use Rattle.ec_areas.specs.Ranges.{is_in_sync_manager, sync_manager_offset, takes_writes}
use Rattle.ec_areas.specs.Records.{fmmus_of, sync_managers_of}
use Rattle.ec_wire.specs.Command.{addressing, reads, writes}
use Rattle.ec_wire.specs.Datagram.{DatagramRecord, ado_of}
use Rattle.ec_wire.specs.declared.command.Command.{Command}
use Rattle.ec_wire.specs.declared.command.Command.TheVariants.{Nop, Aprd, Apwr, Aprw, Fprd, Fpwr, Fprw, Brd}
use Rattle.ec_wire.specs.declared.command.Command.TheVariants.{Bwr, Brw, Lrd, Lwr, Lrw, Armw, Frmw}
use Rattle.ec_esc.specs.Pass.{Effect, Half, effect, is_addressed, is_written, mapped_write, pass}
use Rattle.ec_esc.specs.Pass.{range_taken, serves_range_write, serves_write, where_served, write_sources}
use Rattle.ec_esc.specs.Pass.{written_places}
use Rattle.ec_esc.specs.State.{ControllerState, IsController}
use Rattle.ec_esc.specs.Writing.{settled, settled_byte, with_emptied, with_filled}
use Rattle.ecat_told.specs.Known.{is_logical}
use Rattle.ecat_told.specs.So.{IsNoStatus}
use Rattle.ecat_told.proofs.Reached.{IsReached, IsWrittenRun, SameRegisters}

-- the memory of a controller: of its size, and of bytes
pub record HasMemory (c : ControllerState) : Type 0 where
  pub memory_size : length c.memory ≡ MEMORY_SIZE
  pub memory : AreBytes c.memory

-- every controller has one
pub controller_memory : (c : ControllerState) → IsController c → HasMemory c
controller_memory c is = record { memory_size = is.memory_size; memory = is.memory }

-- ---- what is no status is as the data left it

filled_byte : (mail : Option ℕ) (m : List ℕ) (a : ℕ) → IsNoStatus a
    → get_or (with_filled mail m) a 0 ≡ get_or m a 0
filled_byte None m a plain = refl
filled_byte (Some i) m a plain =
    get_or-set_other m (2048 + 8 * i + 5) a (bit_or (get_or m (2048 + 8 * i + 5) 0) 8) 0 (plain i)

emptied_byte : (mail : Option ℕ) (m : List ℕ) (a : ℕ) → IsNoStatus a
    → get_or (with_emptied mail m) a 0 ≡ get_or m a 0
emptied_byte None m a plain = refl
emptied_byte (Some i) m a plain =
    get_or-set_other m (2048 + 8 * i + 5) a (bit_and (get_or m (2048 + 8 * i + 5) 0) 247) 0 (plain i)

settled_is : (before after : List ℕ) (a : ℕ) → IsNoStatus a → settled_byte before after a ≡ get_or after a 0
settled_is before after a plain =
    ⊎_elim
    (λ (inside : is_in_sync_manager a ≡ true).
    ⊎_elim
    (λ (status : eqb (sync_manager_offset a) 5 ≡ true).
    let low : leb 2048 a ≡ true = (and_parts (leb 2048 a) (ltb a 2112) inside).0 in
    let from : 2048 ≤ a = grind (arith, nat_tests) in
    let offset : (a - 2048) % 8 ≡ 5 = eqb-true (sync_manager_offset a) 5 status in
    let is : a ≡ 2048 + 8 * ((a - 2048) / 8) + 5 = omega (arith, from, offset) in
    absurd (plain ((a - 2048) / 8) is))
    (λ (other : eqb (sync_manager_offset a) 5 ≡ false). rw (inside, other) refl)
    (cases_Bool (eqb (sync_manager_offset a) 5)))
    (λ (out : is_in_sync_manager a ≡ false). rw out refl)
    (cases_Bool (is_in_sync_manager a))

settled_kept : (before after : List ℕ) (a : ℕ) → a < length after → IsNoStatus a
    → get_or (settled before after) a 0 ≡ get_or after a 0
unfolding settled
settled_kept before after a inside plain =
    get_or-map-range_with_len (settled_byte before after) 0 (length after) a a 0 (omega arith) (omega arith)
    ∙ settled_is before after a plain

-- the half of a pass that writes
pub writing : ControllerState → DatagramRecord → Half
writing c d = (effect d.command c d.address (length d.payload)).writing

-- a register that is no status is what the data left there
byte_left : (c : ControllerState) (d : DatagramRecord) (a : ℕ) → HasMemory c → a < 4096 → IsNoStatus a
    → get_or (pass c d).state.memory a 0 ≡ get_or (with_bits c.memory d.payload (writing c d).places) a 0
unfolding pass writing
byte_left c d a controller low plain =
    let e : Effect = effect d.command c d.address (length d.payload) in
    let new : List ℕ = with_bits c.memory d.payload e.writing.places in
    let size : length new ≡ MEMORY_SIZE =
    length-with_bits c.memory d.payload e.writing.places ∙ controller.memory_size in
    emptied_byte e.reading.mail (with_filled e.writing.mail (settled c.memory new)) a plain
    ∙ filled_byte e.writing.mail (settled c.memory new) a plain
    ∙ settled_kept c.memory new a (omega (arith, size, low)) plain

-- where no bit of it takes one of the data it is as it was
untouched : (c : ControllerState) (d : DatagramRecord) (a : ℕ) → HasMemory c → a < 4096 → IsNoStatus a
    → ((b : ℕ) → b < 8 → (writing c d).places (8 * a + b) ≡ None)
    → get_or (pass c d).state.memory a 0 ≡ get_or c.memory a 0
untouched c d a controller low plain untaken =
    byte_left c d a controller low plain
    ∙ get_or-with_bits_kept c.memory d.payload (writing c d).places a controller.memory untaken

-- ---- physical commands

-- is a write of a controller's range served that a command makes
unfoldable pub serves_command : Command → ControllerState → ℕ → ℕ → Bool
serves_command x c address n =
    writes x && (is_addressed (addressing x) c address && serves_range_write c (ado_of address) n)

-- it takes then what a range does
taken_half : Command → ControllerState → ℕ → ℕ → Half
taken_half x c address n =
    where_served (serves_command x c address n) (range_taken (cond (reads x) 2 1) c (ado_of address) n)

physical_half : (x : Command) (c : ControllerState) (address n : ℕ) → is_logical x ≡ false
    → (effect x c address n).writing ≡ taken_half x c address n
unfolding serves_command taken_half
physical_half Nop c address n physical = refl
physical_half Aprd c address n physical = refl
physical_half Apwr c address n physical = refl
physical_half Aprw c address n physical = refl
physical_half Fprd c address n physical = refl
physical_half Fpwr c address n physical = refl
physical_half Fprw c address n physical = refl
physical_half Brd c address n physical = refl
physical_half Bwr c address n physical = refl
physical_half Brw c address n physical = refl
physical_half Lrd c address n physical = absurd (cc)
physical_half Lwr c address n physical = absurd (cc)
physical_half Lrw c address n physical = absurd (cc)
physical_half Armw c address n physical = refl
physical_half Frmw c address n physical = refl

unfoldable pub serves_datagram : ControllerState → DatagramRecord → Bool
serves_datagram c d = serves_command d.command c d.address (length d.payload)

-- a command that does not write is not served a write
pub unwritten : (c : ControllerState) (d : DatagramRecord) → writes d.command ≡ false
    → serves_datagram c d ≡ false
unfolding serves_datagram serves_command
unwritten c d reading =
    ap (λ b. b && (is_addressed (addressing d.command) c d.address
    && serves_range_write c (ado_of d.address) (length d.payload))) reading

-- a datagram of which nothing is written leaves the registers
pub unserved_stays : (c : ControllerState) (d : DatagramRecord) → HasMemory c → is_logical d.command ≡ false
    → serves_datagram c d ≡ false → SameRegisters c (pass c d).state
unfolding serves_datagram taken_half writing
unserved_stays c d controller physical unserved = record {
  bytes = λ a low plain. untouched c d a controller low plain (λ b below.
      ap (λ (h : Half). h.places (8 * a + b))
      (physical_half d.command c d.address (length d.payload) physical
      ∙ ap (λ t. where_served t
      (range_taken (cond (reads d.command) 2 1) c (ado_of d.address) (length d.payload))) unserved));
}

-- the places of a write that is served
served_places : (c : ControllerState) (d : DatagramRecord) → is_logical d.command ≡ false
    → serves_datagram c d ≡ true
    → (writing c d).places ≡ written_places c.memory (ado_of d.address) (length d.payload)
unfolding serves_datagram taken_half writing
served_places c d physical served =
    ap (λ (h : Half). h.places)
    (physical_half d.command c d.address (length d.payload) physical
    ∙ ap (λ t. where_served t
    (range_taken (cond (reads d.command) 2 1) c (ado_of d.address) (length d.payload))) served)

-- a bit of a byte that is not written takes none
target_none : (m : List ℕ) (from n a b : ℕ) → is_written m from n a ≡ false → b < 8
    → written_places m from n (8 * a + b) ≡ None
target_none m from n a b untaken below =
    let byte : (8 * a + b) / 8 ≡ a = omega (arith, below) in
    ap (λ (x : ℕ). cond (is_written m from n x) (Some (8 * a + b - 8 * from)) None) byte
    ∙ ap (λ (t : Bool). cond t (Some (8 * a + b - 8 * from)) None) untaken

-- the data bit that a bit of a byte takes
target_at : (m : List ℕ) (from n k b : ℕ) → is_written m from n (from + k) ≡ true → b < 8
    → written_places m from n (8 * (from + k) + b) ≡ Some (8 * k + b)
target_at m from n k b taken below =
    let byte : (8 * (from + k) + b) / 8 ≡ from + k = omega (arith, below) in
    let place : 8 * (from + k) + b - 8 * from ≡ 8 * k + b = omega arith in
    ap (λ (x : ℕ). cond (is_written m from n x) (Some (8 * (from + k) + b - 8 * from)) None) byte
    ∙ ap (λ (t : Bool). cond t (Some (8 * (from + k) + b - 8 * from)) None) taken
    ∙ ap (λ (x : ℕ). Some x) place

-- a byte that is written is that of the data
byte_written : (m bytes : List ℕ) (from n k : ℕ) → length m ≡ MEMORY_SIZE → from + k < MEMORY_SIZE
    → AreBytes bytes → is_written m from n (from + k) ≡ true
    → get_or (with_bits m bytes (written_places m from n)) (from + k) 0 ≡ get_or bytes k 0
byte_written m bytes from n k size inside are taken =
    let places : ℕ → Option ℕ = written_places m from n in
    same_from_bits_below 8 (get_or (with_bits m bytes places) (from + k) 0) (get_or bytes k 0)
    (AreBytes-with_bits m bytes places (from + k)) (are k)
    (λ b below.
    sym (bit_of_byte (with_bits m bytes places) (from + k) b below)
    ∙ bit-with_bits_taken m bytes places (8 * (from + k) + b) (8 * k + b)
    (omega (arith, size, inside, below)) (target_at m from n k b taken below)
    ∙ bit_of_byte bytes k b below)

out_of : (from n a : ℕ) → (a < from) ⊎ (from + n ≤ a) → within from n a ≡ false
out_of from n a (inl before) =
    let less : leb from a ≡ false = grind (arith, nat_tests) in
    ap (λ (b : Bool). b && ltb a (from + n)) less
out_of from n a (inr behind) =
    let past : ltb a (from + n) ≡ false = grind (arith, nat_tests) in
    ap (λ (b : Bool). leb from a && b) past ∙ and-false (leb from a)

-- a datagram of which a write is served writes its run
pub served_writes : (c : ControllerState) (d : DatagramRecord) → HasMemory c → AreBytes d.payload
    → is_logical d.command ≡ false → serves_datagram c d ≡ true
    → IsWrittenRun (ado_of d.address) d.payload c (pass c d).state
served_writes c d controller are physical served =
    let from : ℕ = ado_of d.address in
    let n : ℕ = length d.payload in
    let memory : length c.memory ≡ MEMORY_SIZE = controller.memory_size in
    let places = served_places c d physical served in
    record {
      written = λ k below low plain takes.
          let first : leb from (from + k) ≡ true = grind (arith, nat_tests) in
          let last : ltb (from + k) (from + n) ≡ true = grind (arith, nat_tests) in
          let taken : is_written c.memory from n (from + k) ≡ true = rw (first, last, takes) refl in
          byte_left c d (from + k) controller low plain
          ∙ ap (λ f. get_or (with_bits c.memory d.payload f) (from + k) 0) places
          ∙ byte_written c.memory d.payload from n k memory (omega (arith, low)) are taken;
      untaken = λ a low plain takes.
          let out : is_written c.memory from n a ≡ false = rw takes (and-false (within from n a)) in
          untouched c d a controller low plain
          (λ b below. ap (λ f. f (8 * a + b)) places ∙ target_none c.memory from n a b out below);
      beside = λ a low plain beside.
          let out : is_written c.memory from n a ≡ false =
          ap (λ (b : Bool). b && takes_writes c.memory a) (out_of from n a beside) in
          untouched c d a controller low plain
          (λ b below. ap (λ f. f (8 * a + b)) places ∙ target_none c.memory from n a b out below);
    }

-- ---- what may have happened

same_reaches : (from n : ℕ) (c e : ControllerState) → SameRegisters c e → IsReached from n c e
same_reaches from n c e same = record { bytes = λ a low plain. inl (same.bytes a low plain) }

run_reaches : (from : ℕ) (values : List ℕ) (c e : ControllerState) → IsWrittenRun from values c e
    → IsReached from (length values) c e
run_reaches from values c e run = record {
  bytes = λ a low plain.
      ⊎_elim
      (λ (takes : takes_writes c.memory a ≡ true).
      ⊎_elim (λ (before : a < from). inl (run.beside a low plain (inl before)))
      (λ (from_it : from ≤ a).
      ⊎_elim (λ (below : a < from + length values). inr (from_it, below, takes))
      (λ (behind : from + length values ≤ a). inl (run.beside a low plain (inr behind)))
      (cases_lt a (from + length values)))
      (cases_lt a from))
      (λ (untaken : takes_writes c.memory a ≡ false). inl (run.untaken a low plain untaken))
      (cases_Bool (takes_writes c.memory a));
}

-- whether it is served or not, a physical datagram reaches no more than its run
pub pass_reaches : (c : ControllerState) (d : DatagramRecord) → HasMemory c → AreBytes d.payload
    → is_logical d.command ≡ false → IsReached (ado_of d.address) (length d.payload) c (pass c d).state
pass_reaches c d controller are physical =
    ⊎_elim
    (λ (served : serves_datagram c d ≡ true).
    run_reaches (ado_of d.address) d.payload c (pass c d).state
    (served_writes c d controller are physical served))
    (λ (unserved : serves_datagram c d ≡ false).
    same_reaches (ado_of d.address) (length d.payload) c (pass c d).state
    (unserved_stays c d controller physical unserved))
    (cases_Bool (serves_datagram c d))

-- ---- logical commands

either : (b : Bool) (h : Half) (p : ℕ) → h.places p ≡ None → (where_served b h).places p ≡ None
either true h p is = is
either false h p is = refl

mapped : (g : ℕ) (c : ControllerState) (address n p : ℕ) → p / 8 < 4096
    → (mapped_write g c address n).places p ≡ None
mapped g c address n p low =
    either (serves_write c address n)
    (record { places = write_sources c address n; gain = g; mail = None }) p
    (write_map_register (sync_managers_of c.memory) (fmmus_of c.memory) (8 * address) (8 * n) p low)

logical_places : (x : Command) (c : ControllerState) (address n p : ℕ) → is_logical x ≡ true → p / 8 < 4096
    → (effect x c address n).writing.places p ≡ None
logical_places Nop c address n p logical low = refl
logical_places Aprd c address n p logical low = refl
logical_places Apwr c address n p logical low = absurd (cc)
logical_places Aprw c address n p logical low = absurd (cc)
logical_places Fprd c address n p logical low = refl
logical_places Fpwr c address n p logical low = absurd (cc)
logical_places Fprw c address n p logical low = absurd (cc)
logical_places Brd c address n p logical low = refl
logical_places Bwr c address n p logical low = absurd (cc)
logical_places Brw c address n p logical low = refl
logical_places Lrd c address n p logical low = refl
logical_places Lwr c address n p logical low = mapped 1 c address n p low
logical_places Lrw c address n p logical low = mapped 2 c address n p low
logical_places Armw c address n p logical low = refl
logical_places Frmw c address n p logical low = refl

-- a logical datagram leaves the registers
pub logical_stays : (c : ControllerState) (d : DatagramRecord) → HasMemory c → is_logical d.command ≡ true
    → SameRegisters c (pass c d).state
unfolding writing
logical_stays c d controller logical = record {
  bytes = λ a low plain. untouched c d a controller low plain (λ b below.
      logical_places d.command c d.address (length d.payload) (8 * a + b) logical (omega
      (arith, low, below)));
}
