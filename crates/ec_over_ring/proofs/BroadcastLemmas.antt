-- The broadcast read that counts slaves: each slave that it passes counts 1, and stays as it was.
use Rattle.std.proofs.Common.{◌≡◌, ℕ, ◌+◌, ◌*◌, ◌/◌, ◌%◌, ◌<◌, Bool, cond, List, [], ◌∷◌, length}
use Rattle.std.proofs.Common.{Option, None, refl, sym, ap, ◌∙◌, arith, subst}
use Rattle.std.specs.List.{AllByRecursion}
use Rattle.ec_regs.specs.declared.registers.TheConstants.{AL_STATUS}
use Rattle.ec_regs.proofs.Laws.{length-with_bits}
use Rattle.ec_areas.proofs.Laws.{emptied_registers, reads_registers}
use Rattle.ec_areas.specs.Records.{sync_managers_of}
use Rattle.ec_wire.specs.Command.{counts_adp}
use Rattle.ec_wire.specs.Datagram.{DatagramRecord, ado, ado_of, adp}
use Rattle.ec_wire.specs.declared.command.Command.{Command}
use Rattle.ec_wire.specs.declared.command.Command.TheVariants.{Brd}
use Rattle.ec_esc.specs.State.{ControllerState, IsController}
use Rattle.ec_esc.specs.Pass.{Effect, address_after, applied, broadcast_sources, effect, nothing, pass}
use Rattle.ec_esc.specs.Pass.{range_given, serves_range_read, where_served}
use Rattle.ec_line.specs.Trip.{PassedLine, line_pass}
use Rattle.ec_esc.specs.Pass.{frame_pass}
use Rattle.ec_esc.proofs.Laws.{written_nothing}

-- ---- one slave

-- the broadcast read on its way, counted so often
pub record IsBroadcast (count : ℕ) (d : DatagramRecord) : Type 0 where
  pub command : d.command ≡ Brd
  pub index : d.index ≡ 0
  pub place : ado d ≡ AL_STATUS
  pub size : length d.payload ≡ 2
  pub counter : d.counter ≡ count

read_effect : ControllerState → Effect
read_effect c = record {
  reading = record { places = broadcast_sources c 304; gain = 1; mail = None };
  writing = nothing;
}

broadcast_effect : (c : ControllerState) (address : ℕ) → ado_of address ≡ AL_STATUS
    → effect Brd c address 2 ≡ read_effect c
unfolding read_effect
broadcast_effect c address place =
    ap (λ (a : ℕ). record {
      reading = where_served (serves_range_read c a 2) (range_given (broadcast_sources c a) c a 2);
      writing = nothing;
    }) place
    ∙ ap (λ (b : Bool). record {
      reading = where_served b (range_given (broadcast_sources c 304) c 304 2);
      writing = nothing;
    }) (reads_registers (sync_managers_of c.memory) 304 2 (omega arith) (omega arith))
    ∙ ap (λ (o : Option ℕ). record {
      reading = record { places = broadcast_sources c 304; gain = 1; mail = o };
      writing = nothing;
    }) (emptied_registers (sync_managers_of c.memory) 304 2 (omega arith) (omega arith))

effect_of : (count : ℕ) (c : ControllerState) (d : DatagramRecord) → IsBroadcast count d
    → effect d.command c d.address (length d.payload) ≡ read_effect c
effect_of count c d is =
    ap (λ (x : Command). effect x c d.address (length d.payload)) is.command
    ∙ ap (λ (n : ℕ). effect Brd c d.address n) is.size
    ∙ broadcast_effect c d.address is.place

-- the ADO stays
ado_stays : (d : DatagramRecord) → d.command ≡ Brd → ado_of (address_after d) ≡ ado d
ado_stays d command =
    ap (λ (x : Command). ado_of (cond (counts_adp x) ((adp d + 1) % 65536 + 65536 * ado d) d.address)) command
    ∙ (let same : ((adp d + 1) % 65536 + 65536 * ado d) / 65536 ≡ ado d = omega arith in same)

-- a slave counts
pub broadcast_counted : (count : ℕ) (c : ControllerState) (d : DatagramRecord) → IsBroadcast count d
    → count + 1 < 65536 → IsBroadcast (count + 1) (pass c d).datagram
unfolding pass read_effect
broadcast_counted count c d is small =
    subst (λ (e : Effect). IsBroadcast (count + 1) (applied e c d).datagram) (sym (effect_of count c d is))
    (record {
      command = is.command;
      index = is.index;
      place = ado_stays d is.command ∙ is.place;
      size = length-with_bits d.payload c.memory (broadcast_sources c 304) ∙ is.size;
      counter = let counter : d.counter ≡ count = is.counter in
          let more : (d.counter + (1 + 0)) % 65536 ≡ count + 1 = omega (arith, small, counter) in more;
    })

-- and stays
pub broadcast_left : (count : ℕ) (c : ControllerState) (d : DatagramRecord) → IsController c
    → IsBroadcast count d → (pass c d).state ≡ c
unfolding pass read_effect
broadcast_left count c d controller is =
    ap (λ (e : Effect). (applied e c d).state) (effect_of count c d is)
    ∙ written_nothing c d.payload controller

-- ---- the slaves of a line

-- the broadcast read behind a line, which stays
pub record IsCountedLine (count : ℕ) (line : List ControllerState) (d : DatagramRecord) : Type 0 where
  pub told : DatagramRecord
  pub is : IsBroadcast (count + length line) told
  pub passes : line_pass line (d ∷ []) ≡ record { frame = told ∷ []; line = line }

pub counted_line : (count : ℕ) (line : List ControllerState) (d : DatagramRecord)
    → AllByRecursion IsController line
    → IsBroadcast count d → count + length line < 65536
    → IsCountedLine count line d
unfolding line_pass frame_pass
counted_line count [] d controllers is small =
    let same : count ≡ count + 0 = omega arith in
    record { told = d; is = subst (λ (n : ℕ). IsBroadcast n d) same is; passes = refl }
counted_line count (x ∷ xs) d controllers is small =
    let e : DatagramRecord = (pass x d).datagram in
    let rest : IsCountedLine (count + 1) xs e =
    counted_line (count + 1) xs e controllers.1 (broadcast_counted count x d is (omega (arith, small)))
    (omega (arith, small)) in
    let same : count + 1 + length xs ≡ count + length (x ∷ xs) = omega arith in
    record {
      told = rest.told;
      is = subst (λ (n : ℕ). IsBroadcast n rest.told) same rest.is;
      passes = ap (λ (p : PassedLine). record { frame = p.frame; line = (pass x d).state ∷ p.line })
          rest.passes
          ∙ ap (λ (c : ControllerState). record { frame = rest.told ∷ []; line = c ∷ xs })
          (broadcast_left count x d controllers.0 is);
    }
