-- A datagram behind a controller: what stays of it, and what its working counter gained.
use Rattle.std.proofs.Common.{◌≡◌, ℕ, ◌+◌, ◌*◌, ◌/◌, ◌%◌, ◌≤◌, Bool, true, false, cond, ◌&&◌, length}
use Rattle.std.proofs.Common.{None, refl, sym, ap, ◌∙◌, arith, ⊎_elim}
use Rattle.std.proofs.lemmas.Bool.{cases_Bool}
use Rattle.ec_regs.specs.Bits.{AreBytes, with_bits}
use Rattle.ec_regs.proofs.Laws.{AreBytes-with_bits, length-with_bits, with_bits_none}
use Rattle.ec_wire.specs.Command.{addressing, counts_adp, reads, writes}
use Rattle.ec_wire.specs.Datagram.{DatagramRecord, adp, ado, adp_of, ado_of}
use Rattle.ec_wire.specs.declared.command.Command.{Command}
use Rattle.ec_wire.specs.declared.command.Command.TheVariants.{Nop, Aprd, Apwr, Aprw, Fprd, Fpwr, Fprw, Brd}
use Rattle.ec_wire.specs.declared.command.Command.TheVariants.{Bwr, Brw, Lrd, Lwr, Lrw, Armw, Frmw}
use Rattle.ec_esc.specs.Pass.{effect, gain_of, pass, read_half}
use Rattle.ec_esc.specs.Pass.{serves_reading, serves_writing, where_served}
use Rattle.ec_esc.specs.State.{ControllerState}
use Rattle.ec_esc.proofs.Laws.{gain_served}
use Rattle.ecat_told.specs.Known.{is_logical}
use Rattle.ecat_told.proofs.PassLemmas.{serves_command, serves_datagram}

-- ---- what stays

-- the command
pub passed_command : (c : ControllerState) (d : DatagramRecord) → (pass c d).datagram.command ≡ d.command
unfolding pass
passed_command c d = refl

-- the number of data bytes
pub passed_size : (c : ControllerState) (d : DatagramRecord)
    → length (pass c d).datagram.payload ≡ length d.payload
unfolding pass
passed_size c d =
    length-with_bits d.payload c.memory (effect d.command c d.address (length d.payload)).reading.places

-- that they are bytes
pub passed_bytes : (c : ControllerState) (d : DatagramRecord) → AreBytes (pass c d).datagram.payload
unfolding pass
passed_bytes c d =
    AreBytes-with_bits d.payload c.memory (effect d.command c d.address (length d.payload)).reading.places

-- the register
pub passed_ado : (c : ControllerState) (d : DatagramRecord)
    → ado_of (pass c d).datagram.address ≡ ado_of d.address
unfolding pass
passed_ado c d = either (counts_adp d.command)
  where
    either : (b : Bool) → cond b ((adp d + 1) % 65536 + 65536 * ado d) d.address / 65536 ≡ d.address / 65536
    either true = omega arith
    either false = refl

-- the ADP where it is not counted up
pub passed_address : (c : ControllerState) (d : DatagramRecord) → counts_adp d.command ≡ false
    → (pass c d).datagram.address ≡ d.address
unfolding pass
passed_address c d still =
    ap (λ b. cond b ((adp d + 1) % 65536 + 65536 * ado d) d.address) still

-- and where it is
pub passed_adp : (c : ControllerState) (d : DatagramRecord) → counts_adp d.command ≡ true
    → adp_of (pass c d).datagram.address ≡ (adp_of d.address + 1) % 65536
unfolding pass
passed_adp c d counts =
    ap (λ b. cond b ((adp d + 1) % 65536 + 65536 * ado d) d.address % 65536) counts
    ∙ low (adp d) (ado d)
  where
    low : (n m : ℕ) → ((n + 1) % 65536 + 65536 * m) % 65536 ≡ (n + 1) % 65536
    low n m = omega arith

-- ---- the working counter

-- what it gains
unfoldable pub gain : ControllerState → DatagramRecord → ℕ
gain c d = gain_of (effect d.command c d.address (length d.payload))

pub passed_counter : (c : ControllerState) (d : DatagramRecord)
    → (pass c d).datagram.counter ≡ (d.counter + gain c d) % 65536
unfolding pass gain
passed_counter c d = refl

few : (a b r : Bool) → cond a 1 0 + cond b (cond r 2 1) 0 ≤ 3
few true true true = omega arith
few true true false = omega arith
few true false r = omega arith
few false true true = omega arith
few false true false = omega arith
few false false r = omega arith

-- at most three
pub gain-le : (c : ControllerState) (d : DatagramRecord) → gain c d ≤ 3
unfolding gain
gain-le c d =
    let n : ℕ = length d.payload in
    let is = gain_served d.command c d.address n in
    let most = few (reads d.command && serves_reading (addressing d.command) c d.address n)
    (writes d.command && serves_writing (addressing d.command) c d.address n) (reads d.command) in
    omega (arith, is, most)

-- who is not addressed adds nothing
pub nothing_gained : (r w : Bool) (g : ℕ) → cond (r && false) 1 0 + cond (w && false) g 0 ≡ 0
nothing_gained true true g = omega arith
nothing_gained true false g = omega arith
nothing_gained false true g = omega arith
nothing_gained false false g = omega arith

serves_same : (x : Command) (c : ControllerState) (address n : ℕ) → is_logical x ≡ false
    → (writes x && serves_writing (addressing x) c address n) ≡ serves_command x c address n
unfolding serves_command
serves_same Nop c address n physical = refl
serves_same Aprd c address n physical = refl
serves_same Apwr c address n physical = refl
serves_same Aprw c address n physical = refl
serves_same Fprd c address n physical = refl
serves_same Fpwr c address n physical = refl
serves_same Fprw c address n physical = refl
serves_same Brd c address n physical = refl
serves_same Bwr c address n physical = refl
serves_same Brw c address n physical = refl
serves_same Lrd c address n physical = absurd (cc)
serves_same Lwr c address n physical = absurd (cc)
serves_same Lrw c address n physical = absurd (cc)
serves_same Armw c address n physical = refl
serves_same Frmw c address n physical = refl

some : (a r : Bool) → cond a 1 0 + cond true (cond r 2 1) 0 ≡ 0 → ⊥
some true true is = omega (arith, is)
some true false is = omega (arith, is)
some false true is = omega (arith, is)
some false false is = omega (arith, is)

-- what is not counted is not written
pub uncounted : (c : ControllerState) (d : DatagramRecord) → is_logical d.command ≡ false → gain c d ≡ 0
    → serves_datagram c d ≡ false
unfolding gain serves_datagram
uncounted c d physical none =
    let n : ℕ = length d.payload in
    ⊎_elim
    (λ (served : serves_command d.command c d.address n ≡ true).
    let b = serves_same d.command c d.address n physical ∙ served in
    absurd (some (reads d.command && serves_reading (addressing d.command) c d.address n) (reads d.command)
    (ap (λ t. cond (reads d.command && serves_reading (addressing d.command) c d.address n) 1 0
    + cond t (cond (reads d.command) 2 1) 0) (sym b)
    ∙ sym (gain_served d.command c d.address n) ∙ none)))
    (λ (unserved : serves_command d.command c d.address n ≡ false). unserved)
    (cases_Bool (serves_command d.command c d.address n))

-- a write alone counts once where it is served
pub write_gain : (c : ControllerState) (d : DatagramRecord) → is_logical d.command ≡ false
    → reads d.command ≡ false → gain c d ≡ cond (serves_datagram c d) 1 0
unfolding gain serves_datagram
write_gain c d physical alone =
    let n : ℕ = length d.payload in
    gain_served d.command c d.address n
    ∙ ap (λ r. cond (r && serves_reading (addressing d.command) c d.address n) 1 0
    + cond (writes d.command && serves_writing (addressing d.command) c d.address n) (cond r 2 1) 0) alone
    ∙ ap (λ t. 0 + cond t 1 0) (serves_same d.command c d.address n physical)
    ∙ zero_more (cond (serves_command d.command c d.address n) 1 0)
  where
    zero_more : (n : ℕ) → 0 + n ≡ n
    zero_more n = omega arith

-- ---- the data

-- a write leaves them
pub write_leaves : (c : ControllerState) (d : DatagramRecord) → AreBytes d.payload → reads d.command ≡ false
    → (pass c d).datagram.payload ≡ d.payload
unfolding pass
write_leaves c d are alone =
    let n : ℕ = length d.payload in
    ap (λ (r : Bool). with_bits d.payload c.memory
    (where_served r (read_half (addressing d.command) c d.address n)).places) alone
    ∙ with_bits_none d.payload c.memory (λ _. None) are (λ i inside. refl)
