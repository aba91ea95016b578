-- What arrives of a frame came of it: each of its datagrams may have come of the sent one, and no counter has
-- moved by more than three for each controller.
use Rattle.std.specs.Prelude.{◌≡◌, ℕ, zero, suc, ◌+◌, ◌*◌, ◌/◌, ◌%◌, ◌<◌, ◌≤◌, Bool, true, false}
use Rattle.std.specs.Prelude.{◌&&◌, if◌then◌else◌, refl, List, [], ◌∷◌, length}
use Rattle.std.proofs.Common.{arith, ap, sym, ◌∙◌, subst, cond}
use Rattle.std.proofs.lemmas.Bool.Decides.{nat_tests}
use Rattle.ec_regs.proofs.Laws.{length-with_bits}
use Rattle.ec_wire.specs.Command.{addressing, reads, writes, counts_adp}
use Rattle.ec_wire.specs.Datagram.{DatagramRecord, nth, code_of}
use Rattle.ec_wire.specs.declared.command.Command.{Command}
use Rattle.ec_merge.specs.Frames.{belongs, fixed_address, IsOwn}
use Rattle.ec_esc.specs.Pass.{Effect, pass, frame_pass, effect, gain_of, address_after}
use Rattle.ec_esc.specs.Pass.{serves_reading, serves_writing}
use Rattle.ec_esc.specs.State.{ControllerState}
use Rattle.ec_esc.proofs.Laws.{gain_served}
use Rattle.ec_line.specs.Moved.{IsMoved}
use Rattle.ec_line.specs.Trip.{line_pass, circulated}
use Rattle.ec_seal.specs.Trips.{CountersFit}

-- ---- one datagram

-- a datagram on its way, whose counter has moved by at most n
pub record Comes (n : ℕ) (s d : DatagramRecord) : Type 0 where
  pub command : d.command ≡ s.command
  pub index : d.index ≡ s.index
  pub size : length d.payload ≡ length s.payload
  pub address : fixed_address s.command d.address ≡ fixed_address s.command s.address
  pub moved : IsMoved n s d

-- a controller gains at most three
three : (a b c : Bool) → cond a 1 0 + cond b (cond c 2 1) 0 ≤ 3
three true true true = omega arith
three true true false = omega arith
three true false c = omega arith
three false true true = omega arith
three false true false = omega arith
three false false c = omega arith

gain-le : (x : Command) (c : ControllerState) (address n : ℕ) → gain_of (effect x c address n) ≤ 3
gain-le x c address n =
    subst (λ (m : ℕ). m ≤ 3) (sym (gain_served x c address n))
    (three (reads x && serves_reading (addressing x) c address n)
    (writes x && serves_writing (addressing x) c address n) (reads x))

-- the part of an address that slaves leave
fixed_after : (counts : Bool) (address : ℕ)
    → (if counts
    then (if counts then (address % 65536 + 1) % 65536 + 65536 * (address / 65536) else address) / 65536
    else (if counts then (address % 65536 + 1) % 65536 + 65536 * (address / 65536) else address))
    ≡ (if counts then address / 65536 else address)
fixed_after true address = omega arith
fixed_after false address = refl

pass_comes : (n : ℕ) (c : ControllerState) (s d : DatagramRecord) → Comes n s d
    → Comes (n + 3) s (pass c d).datagram
unfolding pass
pass_comes n c s d comes =
    let e : Effect = effect d.command c d.address (length d.payload) in
    let few : gain_of e ≤ 3 = gain-le d.command c d.address (length d.payload) in
    record {
      command = comes.command;
      index = comes.index;
      size = length-with_bits d.payload c.memory e.reading.places ∙ comes.size;
      address =
          sym (ap (λ (x : Command). fixed_address x (address_after d)) comes.command)
          ∙ fixed_after (counts_adp d.command) d.address
          ∙ ap (λ (x : Command). fixed_address x d.address) comes.command
          ∙ comes.address;
      moved = record {
        gain = comes.moved.gain + gain_of e;
        few = omega (arith, comes.moved.few, few);
        counter = omega (arith, comes.moved.counter);
      };
    }

-- ---- a frame

-- each datagram of a frame is on its way
unfoldable pub FrameComes : ℕ → List DatagramRecord → List DatagramRecord → Type 0
FrameComes n [] [] = Unit {0}
FrameComes n (s ∷ ss) (d ∷ ds) = Comes n s d × FrameComes n ss ds
FrameComes n _ _ = ⊥

-- a frame that is sent
pub sent_comes : (ds : List DatagramRecord) → CountersFit ds → FrameComes 0 ds ds
unfolding FrameComes
sent_comes [] fit = tt
sent_comes (d ∷ ds) fit = (
  record {
    command = refl;
    index = refl;
    size = refl;
    address = refl;
    moved = record { gain = 0; few = omega arith; counter = omega (arith, fit.0) };
  },
  sent_comes ds fit.1,
)

-- one that turned round
circulated_comes : (n : ℕ) (ss ds : List DatagramRecord) → FrameComes n ss ds
    → FrameComes n ss (circulated ds)
unfolding FrameComes
circulated_comes n [] [] comes = tt
circulated_comes n [] (d ∷ ds) comes = absurd comes
circulated_comes n (s ∷ ss) [] comes = absurd comes
circulated_comes n (s ∷ ss) (d ∷ ds) comes = (
  record {
    command = comes.0.command;
    index = comes.0.index;
    size = comes.0.size;
    address = comes.0.address;
    moved = record {
      gain = comes.0.moved.gain;
      few = comes.0.moved.few;
      counter = comes.0.moved.counter;
    };
  },
  circulated_comes n ss ds comes.1,
)

pub start_comes : (turned : Bool) (ss ds : List DatagramRecord) → FrameComes 0 ss ds
    → FrameComes 0 ss (if turned then circulated ds else ds)
start_comes true ss ds comes = circulated_comes 0 ss ds comes
start_comes false ss ds comes = comes

-- one that passed a controller
frame_comes : (n : ℕ) (c : ControllerState) (ss ds : List DatagramRecord) → FrameComes n ss ds
    → FrameComes (n + 3) ss (frame_pass c ds).frame
unfolding FrameComes frame_pass
frame_comes n c [] [] comes = tt
frame_comes n c [] (d ∷ ds) comes = absurd comes
frame_comes n c (s ∷ ss) [] comes = absurd comes
frame_comes n c (s ∷ ss) (d ∷ ds) comes =
    (pass_comes n c s d comes.0, frame_comes n (pass c d).state ss ds comes.1)

-- and one that passed some
pub line_comes : (n : ℕ) (line : List ControllerState) (ss ds : List DatagramRecord) → FrameComes n ss ds
    → FrameComes (n + 3 * length line) ss (line_pass line ds).frame
unfolding line_pass
line_comes n [] ss ds comes = subst (λ (m : ℕ). FrameComes m ss ds) (omega arith) comes
line_comes n (x ∷ xs) ss ds comes =
    subst (λ (m : ℕ). FrameComes m ss (line_pass xs (frame_pass x ds).frame).frame) (omega arith)
    (line_comes (n + 3) xs ss (frame_pass x ds).frame (frame_comes n x ss ds comes))

-- more may be gained
pub weaker : (n m : ℕ) (ss ds : List DatagramRecord) → n ≤ m → FrameComes n ss ds → FrameComes m ss ds
unfolding FrameComes
weaker n m [] [] room comes = tt
weaker n m [] (d ∷ ds) room comes = absurd comes
weaker n m (s ∷ ss) [] room comes = absurd comes
weaker n m (s ∷ ss) (d ∷ ds) room comes = (
  record {
    command = comes.0.command;
    index = comes.0.index;
    size = comes.0.size;
    address = comes.0.address;
    moved = record {
      gain = comes.0.moved.gain;
      few = omega (arith, comes.0.moved.few, room);
      counter = comes.0.moved.counter;
    };
  },
  weaker n m ss ds room comes.1,
)

-- ---- it came of the sent frame

comes_belongs : (n : ℕ) (s d : DatagramRecord) → Comes n s d → belongs s d ≡ true
comes_belongs n s d comes =
    let code : code_of d.command ≡ code_of s.command = ap code_of comes.command in
    let index : d.index ≡ s.index = comes.index in
    let size : length d.payload ≡ length s.payload = comes.size in
    let address : fixed_address s.command d.address ≡ fixed_address s.command s.address = comes.address in
    grind (arith, nat_tests)

-- a frame on its way is no stranger
pub comes_own : (n : ℕ) (ss ds : List DatagramRecord) → FrameComes n ss ds → IsOwn ss ds
unfolding FrameComes
comes_own n [] [] comes = record { count = refl; each = λ k inside. absurd (omega (arith, inside)) }
comes_own n [] (d ∷ ds) comes = absurd comes
comes_own n (s ∷ ss) [] comes = absurd comes
comes_own n (s ∷ ss) (d ∷ ds) comes =
    let rest : IsOwn ss ds = comes_own n ss ds comes.1 in
    let P : ℕ → Type 0 = λ k. k < length (s ∷ ss) → belongs (nth (s ∷ ss) k) (nth (d ∷ ds) k) ≡ true in
    record {
      count = ap suc rest.count;
      each = λ k. elim k as P [
        | zero ↦ λ inside. comes_belongs n s d comes.0
        | suc j ↦ λ inside. rest.each j (omega arith)
      ];
    }
