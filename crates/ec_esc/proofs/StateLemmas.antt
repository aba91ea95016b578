-- A controller that was just made.
use Rattle.std.proofs.Common.{◌≡◌, ◌≢◌, ℕ, ◌+◌, ◌/◌, ◌%◌, ◌<◌, List, length, get_or, set, eqb, true, false}
use Rattle.std.proofs.Common.{cond, ◌∙◌, ap, refl, arith, ⊎_elim}
use Rattle.std.proofs.lemmas.Bool.{cases_eq}
use Rattle.std.proofs.lemmas.Bool.Decides.{nat_tests}
use Rattle.std.proofs.lemmas.List.{length-set, get_or-set_same, get_or-set_other}
use Rattle.ec_regs.specs.declared.registers.TheConstants.{STATION_ADDRESS, AL_STATUS, MEMORY_SIZE}
use Rattle.ec_esc.specs.State.{fresh_byte}

-- an element of a list with one written
get_or-set : (xs : List ℕ) (i v k : ℕ) → i < length xs → get_or (set xs i v) k 0
    ≡ cond (eqb k i) v (get_or xs k 0)
get_or-set xs i v k inside =
    ⊎_elim
    (λ (here : k ≡ i). let same : eqb k i ≡ true =
    grind (arith, nat_tests) in rw (same, here, get_or-set_same xs i v 0 inside) refl)
    (λ (elsewhere : k ≢ i). let other : eqb k i
    ≡ false = grind (arith, nat_tests) in rw (other, get_or-set_other xs i k v 0 elsewhere) refl)
    (cases_eq k i)

-- a memory of zeros but for AL status, in which the station address was written
pub fresh_memory : (m : List ℕ) (station : ℕ) → length m ≡ MEMORY_SIZE → ((address : ℕ)
    → get_or m address 0 ≡ cond (eqb address AL_STATUS) 1 0)
    → (address : ℕ) → get_or (set (set m (STATION_ADDRESS + 1) (station / 256)) STATION_ADDRESS
    (station % 256)) address 0 ≡ fresh_byte station address
unfolding fresh_byte
fresh_memory m station size bytes address =
    let first : List ℕ = set m (STATION_ADDRESS + 1) (station / 256) in
    let first_size : length first ≡ length m = length-set m (STATION_ADDRESS + 1) (station / 256) in
    get_or-set first STATION_ADDRESS (station % 256) address (omega arith)
    ∙ ap (cond (eqb address STATION_ADDRESS) (station % 256))
    (get_or-set m (STATION_ADDRESS + 1) (station / 256) address (omega arith)
    ∙ ap (cond (eqb address (STATION_ADDRESS + 1)) (station / 256)) (bytes address))
