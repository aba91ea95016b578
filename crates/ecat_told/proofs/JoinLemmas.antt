-- Two copies that are joined of which no slave processed one: they are the other.
use Rattle.std.proofs.Common.{◌≡◌, ℕ, zero, suc, ◌+◌, ◌*◌, ◌/◌, ◌%◌, ◌<◌, true, false, List, [], ◌∷◌}
use Rattle.std.proofs.Common.{length, refl, sym, ap, ◌∙◌, arith, ⊎_elim}
use Rattle.std.specs.List.{AllByRecursion}
use Rattle.std.proofs.lemmas.Bool.{cases_Bool, eq-eqb}
use Rattle.ec_wire.specs.Command.{counts_adp}
use Rattle.ec_wire.specs.Datagram.{DatagramRecord, ado_of}
use Rattle.ec_wire.specs.declared.command.Command.{Command}
use Rattle.ec_wire.specs.declared.command.Command.TheVariants.{Nop, Aprd, Apwr, Aprw, Fprd, Fpwr, Fprw, Brd}
use Rattle.ec_wire.specs.declared.command.Command.TheVariants.{Bwr, Brw, Lrd, Lwr, Lrw, Armw, Frmw}
use Rattle.ec_merge.specs.Bytes.{joined_bytes}
use Rattle.ec_merge.specs.Laws.{joined_bits_symmetric, joined_bits_unit, joined_count_symmetric}
use Rattle.ec_merge.specs.Laws.{joined_count_unit, joined_flag_symmetric, joined_flag_unit}
use Rattle.ec_esc.specs.Pass.{pass}
use Rattle.ec_esc.specs.State.{ControllerState}
use Rattle.ec_line.specs.Trip.{front_pass}
use Rattle.ecat_trips.specs.Alike.{moves_adp}
use Rattle.ecat_trips.specs.Copies.{joined, joined_address, joined_at, joined_or, same_size_at}
use Rattle.ecat_told.specs.Journeys.{IsSent}
use Rattle.ecat_told.proofs.ArrivalLemmas.{passed_ado, passed_address, passed_command, passed_counter}
use Rattle.ecat_told.proofs.ArrivalLemmas.{passed_size}
use Rattle.ecat_told.proofs.JourneyLemmas.{came_by, none_came, rest_frame}
use Rattle.ecat_told.proofs.LineLemmas.{left_by}

-- a datagram as a slave may leave it
record IsCopy (d a : DatagramRecord) : Type 0 where
  pub command : a.command ≡ d.command
  pub index : a.index ≡ d.index
  pub circulating : a.circulating ≡ d.circulating
  pub irq : a.irq ≡ d.irq
  pub size : length a.payload ≡ length d.payload
  pub register : ado_of a.address ≡ ado_of d.address
  pub address : counts_adp d.command ≡ false → a.address ≡ d.address
  pub counter : a.counter < 65536

own_copy : (d : DatagramRecord) → d.counter < 65536 → IsCopy d d
own_copy d small = record {
  command = refl;
  index = refl;
  circulating = refl;
  irq = refl;
  size = refl;
  register = refl;
  address = λ still. refl;
  counter = small;
}

next_copy : (c : ControllerState) (d : DatagramRecord) → IsCopy d (pass c d).datagram
unfolding pass
next_copy c d = record {
  command = passed_command c d;
  index = refl;
  circulating = refl;
  irq = refl;
  size = passed_size c d;
  register = passed_ado c d;
  address = passed_address c d;
  counter = (let is = passed_counter c d in omega (arith, is));
}

copy_then : (d x a : DatagramRecord) → IsCopy d x → IsCopy x a → IsCopy d a
copy_then d x a first second = record {
  command = second.command ∙ first.command;
  index = second.index ∙ first.index;
  circulating = second.circulating ∙ first.circulating;
  irq = second.irq ∙ first.irq;
  size = second.size ∙ first.size;
  register = second.register ∙ first.register;
  address = λ still. second.address (ap counts_adp first.command ∙ still) ∙ first.address still;
  counter = second.counter;
}

-- a copy that came
came_copy : (n : ℕ) (cs : List ControllerState) (d : DatagramRecord) → d.counter < 65536
    → IsCopy d (came_by n cs d)
unfolding came_by
came_copy zero cs d small = own_copy d small
came_copy (suc n) [] d small = own_copy d small
came_copy (suc n) (c ∷ cs) d small =
    copy_then d (pass c d).datagram (came_by n cs (pass c d).datagram) (next_copy c d)
    (came_copy n cs (pass c d).datagram (next_copy c d).counter)

-- ---- one datagram

bytes_unit : (ss xs : List ℕ) → length xs ≡ length ss → joined_bytes ss xs ss ≡ xs
bytes_unit [] [] same = refl
bytes_unit [] (x ∷ xs) same = absurd (cc)
bytes_unit (s ∷ ss) [] same = refl
bytes_unit (s ∷ ss) (x ∷ xs) same =
    ap (λ y. y ∷ joined_bytes ss xs ss) (joined_bits_unit s x)
    ∙ ap (λ ys. x ∷ ys) (bytes_unit ss xs (omega (arith, same)))

-- what does not count up as real slaves do does not here
still_here : (x : Command) → moves_adp x ≡ false → counts_adp x ≡ false
still_here Nop is = refl
still_here Aprd is = absurd (cc)
still_here Apwr is = absurd (cc)
still_here Aprw is = absurd (cc)
still_here Fprd is = refl
still_here Fpwr is = refl
still_here Fprw is = refl
still_here Brd is = absurd (cc)
still_here Bwr is = absurd (cc)
still_here Brw is = absurd (cc)
still_here Lrd is = refl
still_here Lwr is = refl
still_here Lrw is = refl
still_here Armw is = absurd (cc)
still_here Frmw is = refl

parts : (a : ℕ) → a % 65536 + 65536 * (a / 65536) ≡ a
parts a = omega arith

low : (a : ℕ) → a % 65536 < 65536
low a = omega arith

address_unit : (x : Command) (s a : ℕ) → joined_address x s a s ≡ a
address_unit x s a =
    ⊎_elim
    (λ (moves : moves_adp x ≡ true).
    rw moves
    (ap (λ n. n + 65536 * (a / 65536)) (joined_count_unit (s % 65536) (a % 65536) (low s) (low a)) ∙ parts a))
    (λ (still : moves_adp x ≡ false). rw still refl)
    (cases_Bool (moves_adp x))

both_sizes : (d a : DatagramRecord) → IsCopy d a → joined_or d a d ≡ joined_at d a d
both_sizes d a copy =
    let first : same_size_at d a ≡ true = eq-eqb (length a.payload) (length d.payload) copy.size in
    let second : same_size_at d d ≡ true = eq-eqb (length d.payload) (length d.payload) refl in
    rw (first, second) refl

-- with the sent one it is that copy
joined_unit : (d a : DatagramRecord) → d.counter < 65536 → IsCopy d a → joined_or d a d ≡ a
joined_unit d a small copy =
    both_sizes d a copy
    ∙ ap (λ n. record (joined_at d a d) { address = n }) (address_unit d.command d.address a.address)
    ∙ ap (λ b. record (joined_at d a d) { address = a.address; circulating = b })
    (joined_flag_unit d.circulating a.circulating)
    ∙ ap (λ n. record (joined_at d a d) { address = a.address; circulating = a.circulating; irq = n })
    (joined_bits_unit d.irq a.irq)
    ∙ ap (λ bytes. record a { payload = bytes; counter = (joined_at d a d).counter })
    (bytes_unit d.payload a.payload copy.size)
    ∙ ap (λ n. record a { counter = n }) (joined_count_unit d.counter a.counter small copy.counter)

-- whichever came first

bytes_unit_first : (ss xs : List ℕ) → length xs ≡ length ss → joined_bytes ss ss xs ≡ xs
bytes_unit_first [] [] same = refl
bytes_unit_first [] (x ∷ xs) same = absurd (cc)
bytes_unit_first (s ∷ ss) [] same = absurd (cc)
bytes_unit_first (s ∷ ss) (x ∷ xs) same =
    ap (λ y. y ∷ joined_bytes ss ss xs) (joined_bits_symmetric s s x ∙ joined_bits_unit s x)
    ∙ ap (λ ys. x ∷ ys) (bytes_unit_first ss xs (omega (arith, same)))

address_unit_first : (d a : DatagramRecord) → IsCopy d a
    → joined_address d.command d.address d.address a.address ≡ a.address
address_unit_first d a copy =
    ⊎_elim
    (λ (moves : moves_adp d.command ≡ true).
    rw moves
    (ap (λ n. n + 65536 * (d.address / 65536))
    (joined_count_symmetric (d.address % 65536) (d.address % 65536) (a.address % 65536)
    ∙ joined_count_unit (d.address % 65536) (a.address % 65536) (low d.address) (low a.address))
    ∙ ap (λ n. a.address % 65536 + 65536 * n) (sym copy.register) ∙ parts a.address))
    (λ (still : moves_adp d.command ≡ false).
    rw still (sym (copy.address (still_here d.command still))))
    (cases_Bool (moves_adp d.command))

both_sizes_first : (d a : DatagramRecord) → IsCopy d a → joined_or d d a ≡ joined_at d d a
both_sizes_first d a copy =
    let first : same_size_at d a ≡ true = eq-eqb (length a.payload) (length d.payload) copy.size in
    let second : same_size_at d d ≡ true = eq-eqb (length d.payload) (length d.payload) refl in
    rw (second, first) refl

joined_unit_first : (d a : DatagramRecord) → d.counter < 65536 → IsCopy d a → joined_or d d a ≡ a
joined_unit_first d a small copy =
    both_sizes_first d a copy
    ∙ ap (λ n. record (joined_at d d a) { address = n }) (address_unit_first d a copy)
    ∙ ap (λ b. record (joined_at d d a) { address = a.address; circulating = b })
    (joined_flag_symmetric d.circulating d.circulating a.circulating
    ∙ joined_flag_unit d.circulating a.circulating)
    ∙ ap (λ n. record (joined_at d d a) { address = a.address; circulating = a.circulating; irq = n })
    (joined_bits_symmetric d.irq d.irq a.irq ∙ joined_bits_unit d.irq a.irq)
    ∙ ap (λ bytes. record a {
      command = d.command;
      index = d.index;
      payload = bytes;
      counter = (joined_at d d a).counter;
    }) (bytes_unit_first d.payload a.payload copy.size)
    ∙ ap (λ n. record a { command = d.command; index = d.index; counter = n })
    (joined_count_symmetric d.counter d.counter a.counter
    ∙ joined_count_unit d.counter a.counter small copy.counter)
    ∙ ap (λ x. record a { command = x; index = d.index }) (sym copy.command)
    ∙ ap (λ i. record a { index = i }) (sym copy.index)

-- ---- a frame

-- a frame that is joined with the sent one is that frame
pub joined_sent : (n : ℕ) (frame : List DatagramRecord) (cs : List ControllerState)
    → AllByRecursion IsSent frame
    → joined frame (front_pass n cs frame).frame frame ≡ (front_pass n cs frame).frame
unfolding joined
joined_sent n [] cs sent = refl
joined_sent n (d ∷ ds) cs sent =
    let later : List DatagramRecord = (front_pass n (left_by n cs d) ds).frame in
    ap (λ f. joined (d ∷ ds) f (d ∷ ds)) (rest_frame n cs d ds)
    ∙ ap (λ x. x ∷ joined ds later ds)
    (joined_unit d (came_by n cs d) sent.0.counter (came_copy n cs d sent.0.counter))
    ∙ ap (λ xs. came_by n cs d ∷ xs) (joined_sent n ds (left_by n cs d) sent.1)
    ∙ sym (rest_frame n cs d ds)

-- and the sent one with it
pub sent_joined : (n : ℕ) (frame : List DatagramRecord) (cs : List ControllerState)
    → AllByRecursion IsSent frame
    → joined frame frame (front_pass n cs frame).frame ≡ (front_pass n cs frame).frame
unfolding joined
sent_joined n [] cs sent = sym (none_came n cs)
sent_joined n (d ∷ ds) cs sent =
    let later : List DatagramRecord = (front_pass n (left_by n cs d) ds).frame in
    ap (λ f. joined (d ∷ ds) (d ∷ ds) f) (rest_frame n cs d ds)
    ∙ ap (λ x. x ∷ joined ds ds later)
    (joined_unit_first d (came_by n cs d) sent.0.counter (came_copy n cs d sent.0.counter))
    ∙ ap (λ xs. came_by n cs d ∷ xs) (sent_joined n ds (left_by n cs d) sent.1)
    ∙ sym (rest_frame n cs d ds)
