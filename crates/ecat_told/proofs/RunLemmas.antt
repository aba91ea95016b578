-- One datagram that passes one controller: what is told of it stays so.
use Rattle.std.proofs.Common.{ap, ⊎_elim, inl, inr, ◌&&◌}
use Rattle.std.specs.Prelude.{not}
use Rattle.std.proofs.lemmas.Bool.{cases_Bool}
use Rattle.std.proofs.Common.{◌≡◌, ◌⊎◌, ◌<◌, Bool, true, false, length, refl, sym, ◌∙◌, arith}
use Rattle.std.proofs.Math.Bool.{and-false}
use Rattle.ec_wire.specs.Command.{reads, writes}
use Rattle.ec_wire.specs.Datagram.{DatagramRecord, ado}
use Rattle.ec_wire.specs.declared.command.Command.{Command}
use Rattle.ec_wire.specs.declared.command.Command.TheVariants.{Nop, Aprd, Apwr, Aprw, Fprd, Fpwr, Fprw, Brd}
use Rattle.ec_wire.specs.declared.command.Command.TheVariants.{Bwr, Brw, Lrd, Lwr, Lrw, Armw, Frmw}
use Rattle.ec_esc.specs.Pass.{pass}
use Rattle.ec_esc.specs.State.{ControllerState, IsController}
use Rattle.ecat_trips.specs.Copies.{moved}
use Rattle.ecat_told.specs.declared.byte.How.TheVariants.{Lost, Read, Written}
use Rattle.ecat_told.specs.declared.slave.Slave.{Slave}
use Rattle.ecat_told.specs.Known.{is_logical, is_write}
use Rattle.ecat_told.specs.Slave.{told_run}
use Rattle.ecat_told.specs.So.{IsSlaveSo}
use Rattle.ecat_told.specs.Journeys.{IsGuarding, writes_registers}
use Rattle.ecat_told.specs.Journeys.{IsSent}
use Rattle.ecat_told.proofs.ArrivalLemmas.{gain, gain-le, passed_counter, passed_size, uncounted}
use Rattle.ecat_told.proofs.EverybodyLemmas.{counted_served, write_served}
use Rattle.ecat_told.proofs.LineLemmas.{IsStill, reached_from, still_one}
use Rattle.ecat_told.proofs.DatagramLemmas.{still_or}
use Rattle.ecat_told.proofs.PassLemmas.{controller_memory, logical_stays, unserved_stays, unwritten}
use Rattle.ecat_told.proofs.ReadLemmas.{counted_gives, read_gives, read_physical, read_unwritten}
use Rattle.ecat_told.proofs.ToldLemmas.{so_forgotten, so_lost, so_read, so_stays, so_written}

-- so far its counter has moved
one_moved : (c : ControllerState) (d : DatagramRecord) → d.counter < 65536
    → moved d (pass c d).datagram ≡ gain c d
one_moved c d small =
    let is = passed_counter c d in
    let most = gain-le c d in
    omega (arith, is, most, small)

-- a read tells what it brings
pub run_read : (states : Bool) (s : Slave) (c : ControllerState) (d : DatagramRecord) → IsController c
    → IsSent d → (d.command ≡ Aprd) ⊎ (d.command ≡ Fprd) → moved d (pass c d).datagram ≡ 1
    → IsSlaveSo states s c
    → IsSlaveSo states (told_run Read (ado d) (pass c d).datagram.payload s) (pass c d).state
run_read states s c d is sent reading moves so =
    let memory = controller_memory c is in
    let counted : gain c d ≡ 1 = sym (one_moved c d sent.counter) ∙ moves in
    let size = passed_size c d in
    so_read states s c (pass c d).state (ado d) (pass c d).datagram.payload so
    (unserved_stays c d memory (read_physical d.command reading)
    (unwritten c d (read_unwritten d.command reading)))
    (λ k below. read_gives c d (ado d) (length d.payload) k memory
    (record { reading = reading; bytes = sent.bytes; place = refl; size = refl })
    (counted_gives c d reading counted) (omega (arith, below, size)))

write_alone : (x : Command) → is_write x ≡ true → (is_logical x ≡ false) × (reads x ≡ false)
write_alone Nop is = absurd (cc)
write_alone Aprd is = absurd (cc)
write_alone Apwr is = (refl, refl)
write_alone Aprw is = absurd (cc)
write_alone Fprd is = absurd (cc)
write_alone Fpwr is = (refl, refl)
write_alone Fprw is = absurd (cc)
write_alone Brd is = absurd (cc)
write_alone Bwr is = (refl, refl)
write_alone Brw is = absurd (cc)
write_alone Lrd is = absurd (cc)
write_alone Lwr is = absurd (cc)
write_alone Lrw is = absurd (cc)
write_alone Armw is = absurd (cc)
write_alone Frmw is = absurd (cc)

-- a write that was counted what it carries
pub run_written : (states : Bool) (s : Slave) (c : ControllerState) (d : DatagramRecord) → IsController c
    → IsSent d → is_write d.command ≡ true → moved d (pass c d).datagram ≡ 1 → IsGuarding c
    → IsSlaveSo states s c → IsSlaveSo states (told_run Written (ado d) d.payload s) (pass c d).state
run_written states s c d is sent write moves guarding so =
    let alone = write_alone d.command write in
    let counted : gain c d ≡ 1 = sym (one_moved c d sent.counter) ∙ moves in
    so_written states s c (pass c d).state (ado d) d.payload so guarding
    (write_served c d (ado d) d.payload (controller_memory c is)
    (record { physical = alone.0; alone = alone.1; bytes = sent.bytes; place = refl; values_are = refl })
    (counted_served c d (ado d) d.payload
    (record { physical = alone.0; alone = alone.1; bytes = sent.bytes; place = refl; values_are = refl })
    counted))

-- who writes registers is not logical
physical : (x : Command) → writes_registers x ≡ true → is_logical x ≡ false
physical x writing =
    ⊎_elim
    (λ (is : is_logical x ≡ true).
    let none : (writes x && not (is_logical x)) ≡ false =
    ap (λ b. writes x && not b) is ∙ and-false (writes x) in
    let both : true ≡ false = sym writing ∙ none in absurd (cc))
    (λ (is : is_logical x ≡ false). is)
    (cases_Bool (is_logical x))

-- of what may have been written nothing is told but what can't be
pub run_lost : (states : Bool) (s : Slave) (c : ControllerState) (d : DatagramRecord) → IsController c
    → IsSent d → (writes_registers d.command ≡ true → IsGuarding c) → IsSlaveSo states s c
    → IsSlaveSo states (told_run Lost (ado d) d.payload s) (pass c d).state
run_lost states s c d is sent guarding so = either (still_or d.command)
  where
    either : IsStill d.command ⊎ (writes_registers d.command ≡ true)
        → IsSlaveSo states (told_run Lost (ado d) d.payload s) (pass c d).state
    either (inl still) =
        so_stays states (told_run Lost (ado d) d.payload s) c (pass c d).state
        (so_forgotten states s c (ado d) d.payload so) (still_one c d (controller_memory c is) still)
    either (inr writing) =
        so_lost states s c (pass c d).state (ado d) d.payload so (guarding writing)
        (reached_from c d (ado d) d.payload (controller_memory c is) sent.bytes (physical d.command writing)
        refl refl)

-- whether the datagram came there or not
pub run_lost_before : (states : Bool) (s : Slave) (c : ControllerState) (d : DatagramRecord)
    → IsSlaveSo states s c → IsSlaveSo states (told_run Lost (ado d) d.payload s) c
run_lost_before states s c d so = so_forgotten states s c (ado d) d.payload so

-- what is not counted changes nothing
pub run_uncounted : (states : Bool) (s : Slave) (c : ControllerState) (d : DatagramRecord) → IsController c
    → IsSent d → is_logical d.command ≡ false → moved d (pass c d).datagram ≡ 0 → IsSlaveSo states s c
    → IsSlaveSo states s (pass c d).state
run_uncounted states s c d is sent physical moves so =
    let none : gain c d ≡ 0 = sym (one_moved c d sent.counter) ∙ moves in
    so_stays states s c (pass c d).state so
    (unserved_stays c d (controller_memory c is) physical (uncounted c d physical none))

-- nor does a logical datagram
pub run_logical : (states : Bool) (s : Slave) (c : ControllerState) (d : DatagramRecord) → IsController c
    → is_logical d.command ≡ true → IsSlaveSo states s c → IsSlaveSo states s (pass c d).state
run_logical states s c d is logical so =
    so_stays states s c (pass c d).state so (logical_stays c d (controller_memory c is) logical)
