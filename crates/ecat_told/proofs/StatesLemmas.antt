-- A broadcast read of AL status that each controller counted: if one state alone was or-ed each is in it.
use Rattle.std.proofs.Common.{◌≡◌, ◌≢◌, ℕ, ◌+◌, ◌*◌, ◌%◌, ◌<◌, ◌≤◌, Bool, true, false, cond, eqb}
use Rattle.std.proofs.Common.{◌&&◌, ◌||◌, List, [], ◌∷◌, length, map, get_or, None, Some, refl, sym, ap, ◌∙◌}
use Rattle.std.proofs.Common.{arith, ⊎_elim, subst}
use Rattle.std.specs.Int.{bit_at}
use Rattle.std.specs.List.{AllByRecursion}
use Rattle.std.specs.Option.{is_some}
use Rattle.std.proofs.lemmas.Bool.{cases_Bool, eq-eqb, eqb-true}
use Rattle.std.proofs.lemmas.Bool.{or_cases}
use Rattle.ec_regs.specs.Al.{state_of}
use Rattle.ec_regs.specs.Bits.{bit, with_bits}
use Rattle.ec_regs.proofs.Laws.{bit-lt, bit-with_bits_kept, bit-with_bits_taken, bit_of_byte}
use Rattle.ec_wire.specs.Command.{addressing, reads, writes}
use Rattle.ec_wire.specs.Datagram.{DatagramRecord, ado_of}
use Rattle.ec_wire.specs.declared.command.Command.{Command}
use Rattle.ec_wire.specs.declared.command.Command.TheVariants.{Brd}
use Rattle.ec_esc.specs.Pass.{broadcast_sources, effect, pass, range_given, serves_range_read, serves_reading}
use Rattle.ec_esc.specs.Pass.{serves_writing, where_served}
use Rattle.ec_esc.specs.State.{ControllerState, NamesState}
use Rattle.ec_esc.proofs.Laws.{gain_served}
use Rattle.ecat_told.specs.declared.byte.How.TheVariants.{Read}
use Rattle.ecat_told.specs.declared.slave.Slave.{Slave}
use Rattle.ecat_told.specs.Known.{first_of, is_logical, is_one_state}
use Rattle.ecat_told.specs.Slave.{told_run}
use Rattle.ecat_told.specs.So.{AreSo}
use Rattle.ecat_told.proofs.ArrivalLemmas.{gain, passed_ado, passed_command, passed_size}
use Rattle.ecat_told.proofs.LineLemmas.{HaveMemory, reading, came, gains, left, still_one}
use Rattle.ecat_told.proofs.PassLemmas.{HasMemory}
use Rattle.ecat_told.proofs.ReadLemmas.{one_if, one_or_more, plus_none}
use Rattle.ecat_told.proofs.ToldLemmas.{so_read}

-- a broadcast read from a register on, of some bytes
pub record IsBroadcast (d : DatagramRecord) (from : ℕ) : Type 0 where
  pub command : d.command ≡ Brd
  pub place : ado_of d.address ≡ from
  pub some : 1 ≤ length d.payload

broadcast_on : (c : ControllerState) (d : DatagramRecord) (from : ℕ) → IsBroadcast d from
    → IsBroadcast (pass c d).datagram from
broadcast_on c d from is =
    let size = passed_size c d in
    let some : 1 ≤ length d.payload = is.some in
    record {
      command = passed_command c d ∙ is.command;
      place = passed_ado c d ∙ is.place;
      some = omega (arith, size, some);
    }

broadcast_gain : (c : ControllerState) (d : DatagramRecord) → d.command ≡ Brd
    → gain c d ≡ one_if (serves_range_read c (ado_of d.address) (length d.payload))
unfolding gain
broadcast_gain c d is =
    let n : ℕ = length d.payload in
    gain_served d.command c d.address n
    ∙ ap (λ (x : Command). cond (reads x && serves_reading (addressing x) c d.address n) 1 0
    + cond (writes x && serves_writing (addressing x) c d.address n) (cond (reads x) 2 1) 0) is
    ∙ plus_none (one_if (serves_range_read c (ado_of d.address) n))

broadcast_gain-le : (c : ControllerState) (d : DatagramRecord) → d.command ≡ Brd → gain c d ≤ 1
broadcast_gain-le c d is =
    let most = one (serves_range_read c (ado_of d.address) (length d.payload)) in
    let counts = broadcast_gain c d is in
    omega (arith, counts, most)
  where
    one : (b : Bool) → one_if b ≤ 1
    one true = omega arith
    one false = omega arith

broadcast_gains-le : (cs : List ControllerState) (d : DatagramRecord) → d.command ≡ Brd
    → gains cs d ≤ length cs
unfolding gains
broadcast_gains-le [] d is = omega arith
broadcast_gains-le (c ∷ cs) d is =
    let first = broadcast_gain-le c d is in
    let rest = broadcast_gains-le cs (pass c d).datagram (passed_command c d ∙ is) in
    omega (arith, first, rest)

broadcast_payload : (c : ControllerState) (d : DatagramRecord) → d.command ≡ Brd → gain c d ≡ 1
    → (pass c d).datagram.payload ≡ with_bits d.payload c.memory (broadcast_sources c (ado_of d.address))
unfolding pass
broadcast_payload c d is counted =
    let from : ℕ = ado_of d.address in
    let n : ℕ = length d.payload in
    ap (λ (x : Command). with_bits d.payload c.memory (effect x c d.address n).reading.places) is
    ∙ ap (λ b. with_bits d.payload c.memory (where_served b (range_given
    (broadcast_sources c from) c from n)).places)
    (one_or_more (serves_range_read c from n) (sym (broadcast_gain c d is) ∙ counted))

-- a bit that is 0 behind a controller was 0, and is 0 in its memory
zero_back : (c : ControllerState) (d : DatagramRecord) (from i : ℕ) → IsBroadcast d from → gain c d ≡ 1
    → i < 8 → bit (pass c d).datagram.payload i ≡ 0
    → (bit d.payload i ≡ 0) × (bit c.memory (8 * from + i) ≡ 0)
zero_back c d from i is counted low none =
    let at : ℕ = ado_of d.address in
    let place : at ≡ from = is.place in
    let some : 1 ≤ length d.payload = is.some in
    let places = broadcast_sources c at in
    let after : bit (with_bits d.payload c.memory places) i ≡ 0 =
    sym (ap (λ xs. bit xs i) (broadcast_payload c d is.command counted)) ∙ none in
    ⊎_elim
    (λ (on : eqb (bit c.memory (8 * at + i)) 1 ≡ true).
    let taken : bit (with_bits d.payload c.memory places) i ≡ bit c.memory (8 * at + i) =
    bit-with_bits_taken d.payload c.memory places i (8 * at + i) (omega (arith, some, low))
    (ap (λ b. cond b (Some (8 * at + i)) None) on) in
    let one : bit c.memory (8 * at + i) ≡ 1 = eqb-true (bit c.memory (8 * at + i)) 1 on in
    absurd (omega (arith, after, taken, one)))
    (λ (off : eqb (bit c.memory (8 * at + i)) 1 ≡ false).
    let kept : bit (with_bits d.payload c.memory places) i ≡ bit d.payload i =
    bit-with_bits_kept d.payload c.memory places i (ap (λ b. cond b (Some (8 * at + i)) None) off) in
    let small = bit-lt c.memory (8 * at + i) in
    let no_one : bit c.memory (8 * at + i) ≢ 1 =
    λ one. (let both : true ≡ false = sym (eq-eqb (bit c.memory (8 * at + i)) 1 one) ∙ off in cc) in
    let zero_there : bit c.memory (8 * at + i) ≡ 0 = omega (arith, small, no_one) in
    (sym kept ∙ after, ap (λ a. bit c.memory (8 * a + i)) (sym place) ∙ zero_there))
    (cases_Bool (eqb (bit c.memory (8 * at + i)) 1))

-- ---- the line

-- each bit that is 0 in these data is 0 in the memory
pub LeavesZero : ℕ → List ℕ → ControllerState → Type 0
LeavesZero from w c = (i : ℕ) → i < 8 → bit w i ≡ 0 → bit c.memory (8 * from + i) ≡ 0

came_back : (cs : List ControllerState) (d : DatagramRecord) (from i : ℕ) → IsBroadcast d from
    → gains cs d ≡ length cs → i < 8 → bit (came cs d).payload i ≡ 0 → bit d.payload i ≡ 0
unfolding came gains
came_back [] d from i is counted low none = none
came_back (c ∷ cs) d from i is counted low none =
    let on = broadcast_on c d from is in
    let first = broadcast_gain-le c d is.command in
    let rest = broadcast_gains-le cs (pass c d).datagram on.command in
    (zero_back c d from i is (omega (arith, counted, first, rest)) low
    (came_back cs (pass c d).datagram from i on (omega (arith, counted, first, rest)) low none)).0

pub all_zero : (cs : List ControllerState) (d : DatagramRecord) (from : ℕ) → IsBroadcast d from
    → gains cs d ≡ length cs → AllByRecursion (LeavesZero from (came cs d).payload) cs
unfolding came gains LeavesZero
all_zero [] _ _ _ _ = tt
all_zero (c ∷ cs) d from is counted =
    let on = broadcast_on c d from is in
    let first = broadcast_gain-le c d is.command in
    let rest = broadcast_gains-le cs (pass c d).datagram on.command in
    let more : gains cs (pass c d).datagram ≡ length cs = omega (arith, counted, first, rest) in (
      (λ i low none. (zero_back c d from i is (omega (arith, counted, first, rest)) low
          (came_back cs (pass c d).datagram from i on more low none)).1),
      all_zero cs (pass c d).datagram from on more,
    )

-- ---- one state

-- a byte with one bit alone
one_1 : (v : ℕ) → v < 256 → v ≢ 0 → ((i : ℕ) → i < 8 → bit_at 1 i ≡ 0 → bit_at v i ≡ 0) → v ≡ 1
one_1 v small some none =
    let b1 = none 1 (omega arith) refl in
    let b2 = none 2 (omega arith) refl in
    let b3 = none 3 (omega arith) refl in
    let b4 = none 4 (omega arith) refl in
    let b5 = none 5 (omega arith) refl in
    let b6 = none 6 (omega arith) refl in
    let b7 = none 7 (omega arith) refl in
    omega (arith, small, some, b1, b2, b3, b4, b5, b6, b7)

one_2 : (v : ℕ) → v < 256 → v ≢ 0 → ((i : ℕ) → i < 8 → bit_at 2 i ≡ 0 → bit_at v i ≡ 0) → v ≡ 2
one_2 v small some none =
    let b0 = none 0 (omega arith) refl in
    let b2 = none 2 (omega arith) refl in
    let b3 = none 3 (omega arith) refl in
    let b4 = none 4 (omega arith) refl in
    let b5 = none 5 (omega arith) refl in
    let b6 = none 6 (omega arith) refl in
    let b7 = none 7 (omega arith) refl in
    omega (arith, small, some, b0, b2, b3, b4, b5, b6, b7)

one_4 : (v : ℕ) → v < 256 → v ≢ 0 → ((i : ℕ) → i < 8 → bit_at 4 i ≡ 0 → bit_at v i ≡ 0) → v ≡ 4
one_4 v small some none =
    let b0 = none 0 (omega arith) refl in
    let b1 = none 1 (omega arith) refl in
    let b3 = none 3 (omega arith) refl in
    let b4 = none 4 (omega arith) refl in
    let b5 = none 5 (omega arith) refl in
    let b6 = none 6 (omega arith) refl in
    let b7 = none 7 (omega arith) refl in
    omega (arith, small, some, b0, b1, b3, b4, b5, b6, b7)

one_8 : (v : ℕ) → v < 256 → v ≢ 0 → ((i : ℕ) → i < 8 → bit_at 8 i ≡ 0 → bit_at v i ≡ 0) → v ≡ 8
one_8 v small some none =
    let b0 = none 0 (omega arith) refl in
    let b1 = none 1 (omega arith) refl in
    let b2 = none 2 (omega arith) refl in
    let b4 = none 4 (omega arith) refl in
    let b5 = none 5 (omega arith) refl in
    let b6 = none 6 (omega arith) refl in
    let b7 = none 7 (omega arith) refl in
    omega (arith, small, some, b0, b1, b2, b4, b5, b6, b7)

one_bit : (b v : ℕ) → is_one_state b ≡ true → v < 256 → v ≢ 0
    → ((i : ℕ) → i < 8 → bit_at b i ≡ 0 → bit_at v i ≡ 0) → v ≡ b
one_bit b v one small some none =
    ⊎_elim
    (λ (is : eqb b 1 ≡ true).
    let at : b ≡ 1 = eqb-true b 1 is in one_1 v small some (λ i low z. none i low (ap
    (λ x. bit_at x i) at ∙ z)) ∙ sym at)
    (λ (rest : (eqb b 2 || (eqb b 4 || eqb b 8)) ≡ true).
    ⊎_elim
    (λ (is : eqb b 2 ≡ true).
    let at : b ≡ 2 = eqb-true b 2 is in one_2 v small some (λ i low z. none i low (ap
    (λ x. bit_at x i) at ∙ z)) ∙ sym at)
    (λ (more : (eqb b 4 || eqb b 8) ≡ true).
    ⊎_elim
    (λ (is : eqb b 4 ≡ true).
    let at : b ≡ 4 = eqb-true b 4 is in one_4 v small some (λ i low z. none i low (ap
    (λ x. bit_at x i) at ∙ z)) ∙ sym at)
    (λ (is : eqb b 8 ≡ true).
    let at : b ≡ 8 = eqb-true b 8 is in one_8 v small some (λ i low z. none i low (ap
    (λ x. bit_at x i) at ∙ z)) ∙ sym at)
    (or_cases _ _ more))
    (or_cases _ _ rest))
    (or_cases _ _ one)

-- a controller that names a state and has no other bits is in it
state_is : (c : ControllerState) (b : ℕ) (w : List ℕ) → HasMemory c → NamesState c.memory
    → is_one_state b ≡ true → b ≡ get_or w 0 0 → LeavesZero 304 w c → get_or c.memory 304 0 ≡ b
unfolding LeavesZero
state_is c b w memory names one first zeros =
    one_bit b (get_or c.memory 304 0) one (memory.memory 304)
    (λ none. (let both : true ≡ false = sym names ∙ ap (λ x. is_some (state_of (x % 16))) none in cc))
    (λ i low none.
    sym (bit_of_byte c.memory 304 i low)
    ∙ zeros i low (front i ∙ bit_of_byte w 0 i low ∙ ap (λ x. bit_at x i) (sym first) ∙ none))
  where
    front : (i : ℕ) → bit w i ≡ bit w (8 * 0 + i)
    front i = let at : i ≡ 8 * 0 + i = omega arith in ap (bit w) at

-- every one then
unfoldable pub AreIn : ℕ → List ControllerState → Type 0
AreIn b cs = AllByRecursion (λ (c : ControllerState). get_or c.memory 304 0 ≡ b) cs

pub all_in : (b : ℕ) (w : List ℕ) (cs : List ControllerState) → HaveMemory cs
    → AllByRecursion (λ (c : ControllerState). NamesState c.memory) cs → is_one_state b ≡ true
    → b ≡ get_or w 0 0 → AllByRecursion (LeavesZero 304 w) cs → AreIn b cs
unfolding AreIn
all_in _ _ [] _ _ _ _ _ = tt
all_in b w (c ∷ cs) have names one first zeros =
    (state_is c b w have.0 names.0 one first zeros.0, all_in b w cs have.1 names.1 one first zeros.1)

pub first_is : (w : List ℕ) → first_of w ≡ get_or w 0 0
first_is [] = refl
first_is (b ∷ bs) = refl

in_so : (states : Bool) (b : ℕ) (ss : List Slave) (cs : List ControllerState) (d : DatagramRecord)
    → d.command ≡ Brd → HaveMemory cs → AreIn b cs → AreSo states ss cs
    → AreSo states (map (told_run Read 304 (b ∷ [])) ss) (left cs d)
unfolding AreIn left
in_so _ _ [] [] _ _ _ _ _ = tt
in_so _ _ [] (_ ∷ _) _ _ _ _ so = absurd so
in_so _ _ (_ ∷ _) [] _ _ _ _ so = absurd so
in_so states b (s ∷ ss) (c ∷ cs) d is have each so = (
  so_read states s c (pass c d).state 304 (b ∷ []) so.0
      (still_one c d have.0 (reading (ap is_logical is) (ap writes is))) (brought each.0),
  in_so states b ss cs (pass c d).datagram (passed_command c d ∙ is) have.1 each.1 so.1,
)
  where
    none : (k : ℕ) → k < 1 → 0 ≡ k
    none k low = omega (arith, low)

    brought : get_or c.memory 304 0 ≡ b → (k : ℕ) → k < 1 → get_or (b ∷ []) k 0 ≡ get_or c.memory (304 + k) 0
    brought status k low = subst (λ j. get_or (b ∷ []) j 0 ≡ get_or c.memory (304 + j) 0) (none k low)
        (sym status)

-- what is told of all by such a read is so
pub states_so : (states : Bool) (ss : List Slave) (cs : List ControllerState) (d : DatagramRecord)
    → IsBroadcast d 304 → gains cs d ≡ length cs → is_one_state (first_of (came cs d).payload) ≡ true
    → HaveMemory cs → AllByRecursion (λ (c : ControllerState). NamesState c.memory) cs → AreSo states ss cs
    → AreSo states (map (told_run Read 304 (first_of (came cs d).payload ∷ [])) ss) (left cs d)
states_so states ss cs d is counted one have names so =
    in_so states (first_of (came cs d).payload) ss cs d is.command have
    (all_in (first_of (came cs d).payload) (came cs d).payload cs have names one
    (first_is (came cs d).payload) (all_zero cs d 304 is counted)) so
