-- A datagram that names its slave by station passes all others unchanged.
use Rattle.std.proofs.Common.{◌≡◌, ℕ, ◌+◌, ◌*◌, ◌%◌, ◌<◌, Bool, true, false, cond, eqb, ◌&&◌, List}
use Rattle.std.proofs.Common.{length, None, refl, ap, ◌∙◌, arith}
use Rattle.std.proofs.lemmas.Bool.{ne_eqb}
use Rattle.ec_regs.specs.Bits.{AreBytes}
use Rattle.ec_regs.specs.declared.registers.TheConstants.{STATION_ADDRESS}
use Rattle.ec_regs.proofs.Laws.{with_bits_none}
use Rattle.ec_wire.specs.Command.{addressing, reads, writes, is_counted}
use Rattle.ec_wire.specs.Datagram.{DatagramRecord, adp, ado, adp_of, ado_of}
use Rattle.ec_wire.specs.declared.command.Addressing.{Addressing}
use Rattle.ec_wire.specs.declared.command.Addressing.TheVariants.{ConfiguredStation}
use Rattle.ec_wire.specs.declared.command.Command.{Command}
use Rattle.ec_esc.specs.State.{ControllerState, word_at}
use Rattle.ec_esc.specs.Pass.{Half, Effect, nothing, where_served, effect, read_half, write_half, applied}
use Rattle.ec_esc.specs.Pass.{serves_range_read, serves_range_write, range_given, range_taken, range_sources}
use Rattle.ec_esc.specs.Pass.{pass, datagram_after, state_after, address_after}
use Rattle.ec_esc.proofs.Laws.{written_nothing}
use Rattle.ec_over_ring.specs.Question.{IsOther}

-- ---- nothing is done

abbrev pub silent : Effect
silent = record { reading = nothing; writing = nothing }

served_nothing : (b : Bool) → where_served b nothing ≡ nothing
served_nothing true = refl
served_nothing false = refl

-- both ways of a command that addresses so, and reads and writes or not
halves : ControllerState → ℕ → ℕ → Addressing → Bool → Bool → Effect
halves c address n a r w = record {
  reading = where_served r (read_half a c address n);
  writing = where_served w (write_half a (cond r 2 1) c address n);
}

effect_halves : (c : ControllerState) (x : Command) (address n : ℕ)
    → effect x c address n ≡ halves c address n (addressing x) (reads x) (writes x)
unfolding halves
effect_halves c x address n = refl

-- whoever is not addressed
halves_other : (c : ControllerState) (address n : ℕ) (r w : Bool)
    → eqb (adp_of address) (word_at c.memory STATION_ADDRESS) ≡ false
    → halves c address n ConfiguredStation r w ≡ silent
unfolding halves
halves_other c address n r w other =
    let from : ℕ = ado_of address in
    ap (λ (b : Bool). record {
      reading = where_served r
          (where_served (b && serves_range_read c from n) (range_given (range_sources from) c from n));
      writing = where_served w
          (where_served (b && serves_range_write c from n) (range_taken (cond r 2 1) c from n));
    }) other
    ∙ ap (λ (h : Half). record { reading = h; writing = where_served w nothing }) (served_nothing r)
    ∙ ap (λ (h : Half). record { reading = nothing; writing = h }) (served_nothing w)

-- does nothing
pub unaddressed : (c : ControllerState) (x : Command) (address n : ℕ) → addressing x ≡ ConfiguredStation
    → eqb (adp_of address) (word_at c.memory STATION_ADDRESS) ≡ false
    → effect x c address n ≡ silent
unaddressed c x address n station other =
    effect_halves c x address n
    ∙ ap (λ (a : Addressing). halves c address n a (reads x) (writes x)) station
    ∙ halves_other c address n (reads x) (writes x) other

-- an address that no slave counts up stays
pub address_stays : (d : DatagramRecord) → addressing d.command ≡ ConfiguredStation
    → address_after d ≡ d.address
address_stays d station =
    ap (λ (a : Addressing). cond (is_counted a) ((adp d + 1) % 65536 + 65536 * ado d) d.address) station

-- a datagram to which nothing is done stays
pub silent_datagram : (c : ControllerState) (d : DatagramRecord) → addressing d.command ≡ ConfiguredStation
    → AreBytes d.payload → d.counter < 65536
    → datagram_after silent c d ≡ d
silent_datagram c d station bytes small =
    let counter : (d.counter + (0 + 0)) % 65536 ≡ d.counter = omega (arith, small) in
    ap (λ (bytes : List ℕ). record d {
      payload = bytes;
      counter = (d.counter + (0 + 0)) % 65536;
      address = address_after d;
    }) (with_bits_none d.payload c.memory (λ _. None) bytes (λ i inside. refl))
    ∙ ap (λ (n : ℕ). record d { counter = n; address = address_after d }) counter
    ∙ ap (λ (n : ℕ). record d { address = n }) (address_stays d station)

-- a pass that changes nothing
pub other_pass : (c : ControllerState) (d : DatagramRecord) → addressing d.command ≡ ConfiguredStation
    → AreBytes d.payload → d.counter < 65536 → IsOther d c
    → pass c d ≡ record { datagram = d; state = c }
unfolding pass
other_pass c d station bytes small other =
    ap (λ (e : Effect). applied e c d)
    (unaddressed c d.command d.address (length d.payload) station
    (ne_eqb _ _ other.station))
    ∙ ap (λ (x : DatagramRecord). record { datagram = x; state = state_after silent c d.payload })
    (silent_datagram c d station bytes small)
    ∙ ap (λ (x : ControllerState). record { datagram = d; state = x })
    (written_nothing c d.payload other.controller)
