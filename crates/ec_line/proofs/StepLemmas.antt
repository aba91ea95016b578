-- A pass, of any data that arrive, is the controller's answer.
use Rattle.std.proofs.Common.{◌≡◌, ℕ, ◌+◌, ◌*◌, ◌%◌, ◌<◌, ◌≤◌, true, false, cond}
use Rattle.std.proofs.Common.{ltb, List, [], ◌∷◌, length, Option, None, Some}
use Rattle.std.proofs.Common.{sym, subst, ◌∙◌, ap, refl, arith, ⊎_elim}
use Rattle.std.specs.List.{sum_by}
use Rattle.std.specs.Option.{option_map, unwrap_or}
use Rattle.std.proofs.lemmas.Bool.{cases_lt}
use Rattle.std.proofs.lemmas.List.Sums.{sum_by-cons}
use Rattle.std.proofs.lemmas.Bool.Decides.{nat_tests}
use Rattle.ec_regs.specs.Bits.{bit, placed_bit, with_bits}
use Rattle.ec_regs.proofs.Laws.{length-with_bits, bit-with_bits, bit_past, placed_bit_taken}
use Rattle.ec_regs.proofs.Laws.{placed_bit_kept}
use Rattle.ec_wire.specs.Datagram.{DatagramRecord}
use Rattle.ec_wire.specs.declared.command.Command as commands
use Rattle.ec_wire.specs.declared.command.Command.{Command}
use Rattle.ec_esc.specs.State.{ControllerState}
use Rattle.ec_esc.specs.Pass.{Effect, nothing, where_served, effect, serves_range_read}
use Rattle.ec_esc.specs.Pass.{broadcast_sources, read_mailbox, datagram_after, pass}
use Rattle.ec_line.specs.Answers.{Meets, Answers}
use Rattle.ec_line.specs.Answered.{moved_address, Answered}
use Rattle.ec_line.specs.Claims.{effect_of, claim, gain}
use Rattle.ec_line.specs.Request.{Request, SameAddress, OnWay}
use Rattle.ec_wire.specs.Kind.{command_of}
use Rattle.ec_wire.specs.declared.kind.Kind.{Kind}
use Rattle.ec_wire.specs.declared.kind.Kind.TheVariants.{Lrd, Lwr, Lrw, Brd, Fprd, Fpwr}

-- ---- what a request's datagram does on the way

-- the same command, address and count do the same
effect_by : (c : ControllerState) (x y : Command) (b a m n : ℕ) → x ≡ y → b ≡ a → m ≡ n
    → effect x c b m ≡ effect y c a n
effect_by c x y b a m n xs bs ms =
    ap (λ (z : Command). effect z c b m) xs ∙ ap (λ (z : ℕ). effect y c z m) bs
    ∙ ap (λ (z : ℕ). effect y c a z) ms

-- a broadcast read, by its ADO
broadcast_effect : ControllerState → ℕ → ℕ → Effect
broadcast_effect c from count = record {
  reading = where_served (serves_range_read c from count)
      (record { places = broadcast_sources c from; gain = 1; mail = read_mailbox c from count });
  writing = nothing;
}

effect_on_way_kind : (k : Kind) (a n : ℕ) (c : ControllerState) (d : DatagramRecord)
    → OnWay (record { kind = k; address = a; count = n }) d
    → effect d.command c d.address (length d.payload) ≡ effect (command_of k) c a n
unfolding broadcast_effect
effect_on_way_kind Lrd a n c d way = effect_by c _ _ _ _ _ _ way.command way.address way.size
effect_on_way_kind Lwr a n c d way = effect_by c _ _ _ _ _ _ way.command way.address way.size
effect_on_way_kind Lrw a n c d way = effect_by c _ _ _ _ _ _ way.command way.address way.size
effect_on_way_kind Brd a n c d way =
    let x : Command = commands.TheVariants.Brd in
    ap (λ (z : Command). effect z c d.address (length d.payload)) way.command
    ∙ ap (λ (z : ℕ). broadcast_effect c z (length d.payload)) way.address
    ∙ ap (λ (z : ℕ). effect x c a z) way.size
effect_on_way_kind Fprd a n c d way = effect_by c _ _ _ _ _ _ way.command way.address way.size
effect_on_way_kind Fpwr a n c d way = effect_by c _ _ _ _ _ _ way.command way.address way.size

pub effect_on_way : (r : Request) (c : ControllerState) (d : DatagramRecord) → OnWay r d
    → effect d.command c d.address (length d.payload) ≡ effect_of r c
effect_on_way r c d way = effect_on_way_kind r.kind r.address r.count c d way

-- ---- the address

-- it moves by one slave
pub moved_one_kind : (k : Kind) (a n : ℕ) (c : ControllerState) (e : Effect) (d : DatagramRecord)
    → OnWay (record { kind = k; address = a; count = n }) d
    → (datagram_after e c d).address ≡ moved_address k 1 d.address
moved_one_kind Lrd a n c e d way =
    ap (λ (x : Command). (datagram_after e c (record d { command = x })).address) way.command
moved_one_kind Lwr a n c e d way =
    ap (λ (x : Command). (datagram_after e c (record d { command = x })).address) way.command
moved_one_kind Lrw a n c e d way =
    ap (λ (x : Command). (datagram_after e c (record d { command = x })).address) way.command
moved_one_kind Brd a n c e d way =
    ap (λ (x : Command). (datagram_after e c (record d { command = x })).address) way.command
moved_one_kind Fprd a n c e d way =
    ap (λ (x : Command). (datagram_after e c (record d { command = x })).address) way.command
moved_one_kind Fpwr a n c e d way =
    ap (λ (x : Command). (datagram_after e c (record d { command = x })).address) way.command

-- and stays the same part of the request's
pub moved_same : (k : Kind) (n address wanted : ℕ) → SameAddress k address wanted
    → SameAddress k (moved_address k n address) wanted
moved_same Lrd n address wanted same = same
moved_same Lwr n address wanted same = same
moved_same Lrw n address wanted same = same
moved_same Brd n address wanted same = omega arith
moved_same Fprd n address wanted same = same
moved_same Fpwr n address wanted same = same

-- it moves by as many slaves as pass
pub moved_moved : (k : Kind) (m n address : ℕ) → moved_address k n (moved_address k m address)
    ≡ moved_address k (m + n) address
moved_moved Lrd m n address = refl
moved_moved Lwr m n address = refl
moved_moved Lrw m n address = refl
moved_moved Brd m n address = omega arith
moved_moved Fprd m n address = refl
moved_moved Fpwr m n address = refl

pub moved_none : (k : Kind) (address : ℕ) → moved_address k 0 address ≡ address
moved_none Lrd address = refl
moved_none Lwr address = refl
moved_none Lrw address = refl
moved_none Brd address = omega arith
moved_none Fprd address = refl
moved_none Fpwr address = refl

-- ---- the data

-- a data bit after the pass: the memory's where the data take one, else as it came
abbrev pub claimed_or : Option ℕ → ℕ → ℕ
claimed_or claimed arrived = unwrap_or claimed arrived

pub passed_bit : (r : Request) (c : ControllerState) (d : DatagramRecord) (i : ℕ) → length d.payload ≡ r.count
    → bit (with_bits d.payload c.memory (effect_of r c).reading.places) i
    ≡ claimed_or (claim r c i) (bit d.payload i)
unfolding claim
passed_bit r c d i size =
    let places : ℕ → Option ℕ = (effect_of r c).reading.places in
    ⊎_elim
    (λ (inside : i < 8 * r.count).
    let in_data : i < 8 * length d.payload = omega arith in
    let test : ltb i (8 * r.count) ≡ true = grind (arith, nat_tests) in
    let P : Option ℕ → Type 0 = λ o. places i ≡ o
    → placed_bit d.payload c.memory places i ≡ claimed_or (option_map (bit c.memory) o) (bit d.payload i) in
    let here : placed_bit d.payload c.memory places i
    ≡ claimed_or (option_map (bit c.memory) (places i)) (bit d.payload i) =
    elim (places i) as P [
      | None ↦ λ none. placed_bit_kept d.payload c.memory places i none
      | Some p ↦ λ some. placed_bit_taken d.payload c.memory places i p some
    ] refl in
    bit-with_bits d.payload c.memory places i in_data
    ∙ here
    ∙ sym (ap (λ b. claimed_or (cond b (option_map (bit c.memory) (places i)) None) (bit d.payload i)) test))
    (λ (past : 8 * r.count ≤ i).
    let test : ltb i (8 * r.count) ≡ false = grind (arith, nat_tests) in
    let full : List ℕ = with_bits d.payload c.memory places in
    let full_size : length full ≡ length d.payload = length-with_bits d.payload c.memory places in
    bit_past full i (omega arith)
    ∙ sym (bit_past d.payload i (omega arith))
    ∙ sym (ap (λ b. claimed_or (cond b (option_map (bit c.memory) (places i)) None) (bit d.payload i)) test))
    (cases_lt i (8 * r.count))

-- so one controller answers
pub one_answers : (r : Request) (c : ControllerState) (sent got : ℕ → ℕ)
    → ((i : ℕ) → got i ≡ claimed_or (claim r c i) (sent i))
    → Answers (claim r) (c ∷ []) sent got
one_answers r c sent got is =
    let P : ℕ → Option ℕ → Type 0 = λ i o. got i ≡ claimed_or o (sent i) → Meets (got i) o in
    let Q : ℕ → Option ℕ → Type 0 = λ i o. got i ≡ claimed_or o (sent i) → o ≡ None → got i ≡ sent i in
    record {
      claimed = λ i. (elim (claim r c i) as (P i) [ None ↦ λ _. tt | Some v ↦ λ e. e ] (is i), tt);
      rest = λ i none. elim (claim r c i) as (Q i) [ None ↦ λ e _. e | Some v ↦ λ _ no. absurd (cc) ] (is i)
          none.0;
    }

-- ---- the step

-- the pass of a datagram on its way, of any data, is the controller's answer
pub step : (r : Request) (c : ControllerState) (d : DatagramRecord) → OnWay r d
    → Answered r (c ∷ []) d (pass c d).datagram
unfolding pass gain
step r c d way =
    let e = effect d.command c d.address (length d.payload) in
    let effect_is : e ≡ effect_of r c = effect_on_way r c d way in
    let sum : sum_by (gain r) (c ∷ []) ≡ gain r c = sum_by-cons (gain r) c [] ∙ omega arith in
    let size : length (with_bits d.payload c.memory e.reading.places) ≡ length d.payload =
    length-with_bits d.payload c.memory e.reading.places in
    let moved = moved_one_kind r.kind r.address r.count c e d way in
    record {
      way = record {
        command = way.command;
        size = size ∙ way.size;
        address = let P : ℕ → Type 0 = λ a. SameAddress r.kind a r.address in
            subst P (sym moved) (moved_same r.kind 1 d.address r.address way.address);
        counter = omega arith;
      };
      index = refl;
      irq = refl;
      bits = one_answers r c (bit d.payload) (bit (with_bits d.payload c.memory e.reading.places))
          (λ i. ap (λ (f : Effect). bit (with_bits d.payload c.memory f.reading.places) i) effect_is
          ∙ passed_bit r c d i way.size);
      counter = ap (λ (f : Effect). (d.counter + (f.reading.gain + f.writing.gain)) % 65536) effect_is
          ∙ ap (λ n. (d.counter + n) % 65536) (sym sum);
      address = moved;
    }
