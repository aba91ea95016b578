-- A broadcast read of registers that passes controllers, whatever they are: each counts it up by one, and
-- nothing else changes by which it is known.
use Rattle.std.proofs.Common.{◌≡◌, ℕ, suc, ◌+◌, ◌%◌, ◌<◌, ◌≤◌, List, [], ◌∷◌, length}
use Rattle.std.proofs.Common.{arith, refl, ap, ◌∙◌}
use Rattle.std.specs.List.{sum_by}
use Rattle.std.proofs.lemmas.List.Sums.{sum_by-cons}
use Rattle.ec_regs.specs.declared.registers.TheConstants.{PROCESS_MEMORY}
use Rattle.ec_wire.specs.Datagram.{DatagramRecord, ado}
use Rattle.ec_wire.specs.declared.command.Command.TheVariants.{Brd}
use Rattle.ec_wire.specs.declared.kind.Kind as kinds
use Rattle.ec_esc.specs.State.{ControllerState}
use Rattle.ec_esc.specs.Pass.{pass, frame_pass}
use Rattle.ec_line.specs.Answered.{Answered}
use Rattle.ec_line.specs.Claims.{gain}
use Rattle.ec_line.specs.Request.{Request, OnWay}
use Rattle.ec_line.specs.Trip.{line_pass}
use Rattle.ec_line.proofs.Laws.{step, broadcast_gain}

-- a broadcast read on its way, circulating or not
pub record IsRead (d : DatagramRecord) : Type 0 where
  pub command : d.command ≡ Brd
  pub some : 1 ≤ length d.payload
  pub registers : ado d + length d.payload ≤ PROCESS_MEMORY
  pub counter : d.counter < 65536

-- a datagram e that came of d, counted up by n
pub record IsCounted (d e : DatagramRecord) (n : ℕ) : Type 0 where
  pub command : e.command ≡ Brd
  pub index : e.index ≡ d.index
  pub ado_is : ado e ≡ ado d
  pub size : length e.payload ≡ length d.payload
  pub circulating : e.circulating ≡ d.circulating
  pub counter : e.counter ≡ (d.counter + n) % 65536

-- a frame of one such datagram
pub record IsCountedFrame (d : DatagramRecord) (f : List DatagramRecord) (n : ℕ) : Type 0 where
  pub came : DatagramRecord
  pub frame : f ≡ came ∷ []
  pub counted : IsCounted d came n

-- ---- one controller

abbrev pub request : DatagramRecord → Request
request d = record { kind = kinds.TheVariants.Brd; address = d.address; count = length d.payload }

way : (d : DatagramRecord) → IsRead d → OnWay (request d) d
way d read = record { command = read.command; size = refl; address = refl; counter = read.counter }

circulating-pass : (c : ControllerState) (d : DatagramRecord)
    → (pass c d).datagram.circulating ≡ d.circulating
unfolding pass
circulating-pass c d = refl

pub pass_counts : (c : ControllerState) (d : DatagramRecord) → IsRead d → IsCounted d (pass c d).datagram 1
pass_counts c d read =
    let r : Request = request d in
    let made : Answered r (c ∷ []) d (pass c d).datagram = step r c d (way d read) in
    let gained : gain r c ≡ 1 =
    broadcast_gain d.address (length d.payload) c (record { some = read.some; place = read.registers }) in
    let sum : sum_by (gain r) (c ∷ []) ≡ 1 = sum_by-cons (gain r) c [] ∙ ap (λ (k : ℕ). k + 0) gained in
    record {
      command = made.way.command;
      index = made.index;
      ado_is = made.way.address;
      size = made.way.size;
      circulating = circulating-pass c d;
      counter = made.counter ∙ ap (λ (k : ℕ). (d.counter + k) % 65536) sum;
    }

-- ---- some

read_on : (d e : DatagramRecord) (n : ℕ) → IsRead d → IsCounted d e n → IsRead e
read_on d e n read counted =
    let size = counted.size in
    let place : ado e ≡ ado d = counted.ado_is in
    let counter = counted.counter in
    record {
      command = counted.command;
      some = omega (arith, read.some);
      registers = omega (arith, read.registers);
      counter = omega arith;
    }

counted_none : (d : DatagramRecord) → IsRead d → IsCounted d d 0
counted_none d read = record {
  command = read.command;
  index = refl;
  ado_is = refl;
  size = refl;
  circulating = refl;
  counter = omega (arith, read.counter);
}

counted_then : (d e f : DatagramRecord) (n : ℕ) → IsCounted d e 1 → IsCounted e f n → IsCounted d f (suc n)
counted_then d e f n one more =
    let first = one.counter in
    let second = more.counter in
    record {
      command = more.command;
      index = more.index ∙ one.index;
      ado_is = more.ado_is ∙ one.ado_is;
      size = more.size ∙ one.size;
      circulating = more.circulating ∙ one.circulating;
      counter = omega arith;
    }

pub line_counts : (line : List ControllerState) (d : DatagramRecord) → IsRead d
    → IsCountedFrame d (line_pass line (d ∷ [])).frame (length line)
unfolding line_pass frame_pass
line_counts [] d read = record { came = d; frame = refl; counted = counted_none d read }
line_counts (x ∷ xs) d read =
    let e : DatagramRecord = (pass x d).datagram in
    let one : IsCounted d e 1 = pass_counts x d read in
    let rest : IsCountedFrame e (line_pass xs (e ∷ [])).frame (length xs) =
    line_counts xs e (read_on d e 1 read one) in
    record {
      came = rest.came;
      frame = rest.frame;
      counted = counted_then d e rest.came (length xs) one rest.counted;
    }
