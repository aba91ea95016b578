-- One slave of which a datagram tells a run of bytes, and the controller behind it: what is told stays so.
use Rattle.std.proofs.Common.{◌≡◌, ◌⊎◌, ◌≢◌, ℕ, ◌+◌, ◌-◌, ◌<◌, ◌≤◌, Bool, true, false, List, length, get_or}
use Rattle.std.proofs.Common.{Some, refl, sym, ap, ◌∙◌, arith, ⊎_elim, inl, inr}
use Rattle.std.proofs.lemmas.Bool.{cases_lt}
use Rattle.std.proofs.lemmas.List.{get_or_past}
use Rattle.ec_areas.specs.Ranges.{takes_writes}
use Rattle.ec_esc.specs.State.{ControllerState}
use Rattle.ecat_told.specs.declared.byte.Byte.{Byte}
use Rattle.ecat_told.specs.declared.byte.Byte.TheVariants.{Untold, Guessed, Told, Lost as LostByte}
use Rattle.ecat_told.specs.declared.byte.Gate.{Gate}
use Rattle.ecat_told.specs.declared.byte.Gate.TheVariants.{Open, Perhaps, Shut}
use Rattle.ecat_told.specs.declared.byte.How.{How}
use Rattle.ecat_told.specs.declared.byte.How.TheVariants.{Read, Written, MayBeWritten, Lost}
use Rattle.ecat_told.specs.declared.slave.Slave.{Slave}
use Rattle.ecat_told.specs.Registers.{place_of, gate_at, byte_after}
use Rattle.ecat_told.specs.Slave.{told_run}
use Rattle.ecat_told.specs.So.{IsClaimed, IsSlaveSo, is_free}
use Rattle.ecat_told.specs.Journeys.{IsGuarding}
use Rattle.ecat_told.proofs.Reached.{IsReached, IsWrittenRun, SameRegisters}
use Rattle.ecat_told.proofs.BytesLemmas.{beside_run, in_run, size_bytes}
use Rattle.ecat_told.proofs.GateLemmas.{free_open, open_takes, shut_takes}
use Rattle.ecat_told.proofs.PlaceLemmas.{kept, kept_register}

-- what a run makes of the byte at an address: there is none; the run does not meet it; or it does
pub data IsRunAt (how : How) (s : Slave) (from : ℕ) (values : List ℕ) (a : ℕ) : Byte → Byte → Type 0 where
  nowhere : {old new : Byte} → new ≡ Untold → IsRunAt how s from values a old new
  beside : {old new : Byte} → (a < from) ⊎ (from + length values ≤ a) → new ≡ old
      → IsRunAt how s from values a old new
  met : {old new : Byte} → (k : ℕ) → a ≡ from + k → k < length values
      → new ≡ byte_after how (gate_at s.bytes a) (get_or values k 0) old
      → IsRunAt how s from values a old new

run_at : (how : How) (s : Slave) (from : ℕ) (values : List ℕ) (a p : ℕ) → place_of a ≡ Some p
    → IsRunAt how s from values a (get_or s.bytes p Untold) (get_or
    (told_run how from values s).bytes p Untold)
unfolding told_run
run_at how s from values a p place =
    let size = size_bytes how s.bytes from values s.bytes in
    ⊎_elim
    (λ (inside : p < length s.bytes).
    ⊎_elim
    (λ (before : a < from). beside (inl before) (beside_run how s.bytes a from p values s.bytes place
    (inl before)))
    (λ (from_it : from ≤ a).
    ⊎_elim
    (λ (below : a - from < length values).
    let is : a ≡ from + (a - from) = omega (arith, from_it) in
    met (a - from) is below (in_run how s.bytes a (a - from) from p values s.bytes is place below inside))
    (λ (behind : length values ≤ a - from).
    let past : from + length values ≤ a = omega (arith, behind, from_it) in
    beside (inr past) (beside_run how s.bytes a from p values s.bytes place (inr past)))
    (cases_lt (a - from) (length values)))
    (cases_lt a from))
    (λ (past : length s.bytes ≤ p). nowhere (get_or_past _ p Untold (omega (arith, size, past))))
    (cases_lt p (length s.bytes))

register : (a p : ℕ) → place_of a ≡ Some p → a < 4096
register a p place = kept_register (kept a p place)

-- ---- nothing was done

-- where no register changed all stays so
pub so_stays : (states : Bool) (s : Slave) (c e : ControllerState) → IsSlaveSo states s c
    → SameRegisters c e → IsSlaveSo states s e
so_stays states s c e so same = record {
  told = λ a p b place plain is. same.bytes a (register a p place) plain.0 ∙ so.told a p b place plain is;
  sure = so.sure;
}

-- ---- a read

-- a byte that was read is that of the controller
pub so_read : (states : Bool) (s : Slave) (c e : ControllerState) (from : ℕ) (values : List ℕ)
    → IsSlaveSo states s c → SameRegisters c e
    → ((k : ℕ) → k < length values → get_or values k 0 ≡ get_or c.memory (from + k) 0)
    → IsSlaveSo states (told_run Read from values s) e
so_read states s c e from values so same brought = record {
  told = λ a p b place plain is. told a p b place plain (run_at Read s from values a p place) refl is;
  sure = λ a p b place free is. sure a p b place free (run_at Read s from values a p place) refl is;
}
  where
    told : (a p b : ℕ) → {old new : Byte} → place_of a ≡ Some p → IsClaimed states a
        → IsRunAt Read s from values a old new → old ≡ get_or s.bytes p Untold
        → new ≡ Told b → get_or e.memory a 0 ≡ b
    told a p b place plain (nowhere untold) was is = absurd (cc)
    told a p b place plain (beside out kept_it) was is =
        same.bytes a (register a p place) plain.0 ∙ so.told a p b place plain (cc)
    told a p b place plain (met k at below becomes) was is =
        let value : get_or values k 0 ≡ b = cc in
        same.bytes a (register a p place) plain.0
        ∙ ap (λ x. get_or c.memory x 0) at ∙ sym (brought k below) ∙ value

    sure : (a p b : ℕ) → {old new : Byte} → place_of a ≡ Some p → is_free a ≡ true
        → IsRunAt Read s from values a old new → old ≡ get_or s.bytes p Untold → new ≢ Guessed b
    sure a p b place free (nowhere untold) was is = cc
    sure a p b place free (beside out kept_it) was is = so.sure a p b place free (cc)
    sure a p b place free (met k at below becomes) was is = cc

-- ---- a write

-- a byte that was written is that of the datagram
pub so_written : (states : Bool) (s : Slave) (c e : ControllerState) (from : ℕ) (values : List ℕ)
    → IsSlaveSo states s c → IsGuarding c → IsWrittenRun from values c e
    → IsSlaveSo states (told_run Written from values s) e
so_written states s c e from values so guarding run = record {
  told = λ a p b place plain is. told a p b place plain (run_at Written s from values a p place) refl is;
  sure = λ a p b place free is. sure a p b place free (run_at Written s from values a p place) refl is;
}
  where
    by_gate : (g : Gate) (a p b k : ℕ) (old : Byte) → place_of a ≡ Some p → IsClaimed states a
        → a ≡ from + k → k < length values → old ≡ get_or s.bytes p Untold → gate_at s.bytes a ≡ g
        → byte_after Written g (get_or values k 0) old ≡ Told b → get_or e.memory a 0 ≡ b
    by_gate Open a p b k old place plain at below was gate is =
        let value : get_or values k 0 ≡ b = cc in
        let takes : takes_writes c.memory a ≡ true = open_takes states s c a p so place gate in
        let low : a < 4096 = register a p place in
        ap (λ x. get_or e.memory x 0) at
        ∙ run.written k below (omega (arith, low, at)) (λ i same. plain.0 i (at ∙ same))
        (ap (takes_writes c.memory) (sym at) ∙ takes)
        ∙ value
    by_gate Perhaps a p b k old place plain at below was gate is = absurd (cc)
    by_gate Shut a p b k old place plain at below was gate is =
        run.untaken a (register a p place) plain.0 (shut_takes states s c a p so guarding place gate)
        ∙ so.told a p b place plain (sym was ∙ is)

    told : (a p b : ℕ) → {old new : Byte} → place_of a ≡ Some p → IsClaimed states a
        → IsRunAt Written s from values a old new → old ≡ get_or s.bytes p Untold
        → new ≡ Told b → get_or e.memory a 0 ≡ b
    told a p b place plain (nowhere untold) was is = absurd (cc)
    told a p b place plain (beside out kept_it) was is =
        run.beside a (register a p place) plain.0 out ∙ so.told a p b place plain (cc)
    told a p b place plain (met k at below becomes) was is =
        by_gate (gate_at s.bytes a) a p b k _ place plain at below was refl (sym becomes ∙ is)

    sure : (a p b : ℕ) → {old new : Byte} → place_of a ≡ Some p → is_free a ≡ true
        → IsRunAt Written s from values a old new → old ≡ get_or s.bytes p Untold → new ≢ Guessed b
    sure a p b place free (nowhere untold) was is = cc
    sure a p b place free (beside out kept_it) was is = so.sure a p b place free (cc)
    sure a p b {old} place free (met k at below becomes) was is =
        let opened : byte_after Written (gate_at s.bytes a) (get_or values k 0) old
        ≡ Told (get_or values k 0) =
        ap (λ g. byte_after Written g (get_or values k 0) old) (free_open s.bytes a p place free) in
        cc

-- what was not written is as it was where it is shut
reached_shut : (states : Bool) (s : Slave) (c e : ControllerState) (from n a p b : ℕ) → IsSlaveSo states s c
    → IsGuarding c → IsReached from n c e → place_of a ≡ Some p → IsClaimed states a
    → gate_at s.bytes a ≡ Shut → get_or s.bytes p Untold ≡ Told b → get_or e.memory a 0 ≡ b
reached_shut states s c e from n a p b so guarding reached place plain gate is =
    ⊎_elim
    (λ (same : get_or e.memory a 0 ≡ get_or c.memory a 0). same ∙ so.told a p b place plain is)
    (λ (in_it : (from ≤ a) × (a < from + n) × (takes_writes c.memory a ≡ true)).
    let closed : takes_writes c.memory a ≡ false = shut_takes states s c a p so guarding place gate in
    let both : true ≡ false = sym in_it.2 ∙ closed in
    absurd (cc))
    (reached.bytes a (register a p place) plain.0)

-- and beside the run
reached_beside : (states : Bool) (s : Slave) (c e : ControllerState) (from n a p b : ℕ) → IsSlaveSo states s c
    → IsReached from n c e → place_of a ≡ Some p → IsClaimed states a → (a < from) ⊎ (from + n ≤ a)
    → get_or s.bytes p Untold ≡ Told b → get_or e.memory a 0 ≡ b
reached_beside states s c e from n a p b so reached place plain out is =
    ⊎_elim
    (λ (same : get_or e.memory a 0 ≡ get_or c.memory a 0). same ∙ so.told a p b place plain is)
    (λ (in_it : (from ≤ a) × (a < from + n) × (takes_writes c.memory a ≡ true)).
    ⊎_elim (λ (before : a < from). absurd (omega (arith, in_it.0, before)))
    (λ (behind : from + n ≤ a). absurd (omega (arith, in_it.1, behind))) out)
    (reached.bytes a (register a p place) plain.0)

-- of what was not written less may be told
pub so_forgotten : (states : Bool) (s : Slave) (c : ControllerState) (from : ℕ) (values : List ℕ)
    → IsSlaveSo states s c → IsSlaveSo states (told_run Lost from values s) c
so_forgotten states s c from values so = record {
  told = λ a p b place plain is. told a p b place plain (run_at Lost s from values a p place) refl is;
  sure = λ a p b place free is. sure a p b place free (run_at Lost s from values a p place) refl is;
}
  where
    by_gate : (g : Gate) (b v : ℕ) (old : Byte) → byte_after Lost g v old ≡ Told b → old ≡ Told b
    by_gate Open b v old is = absurd (cc)
    by_gate Perhaps b v old is = absurd (cc)
    by_gate Shut b v old is = is

    told : (a p b : ℕ) → {old new : Byte} → place_of a ≡ Some p → IsClaimed states a
        → IsRunAt Lost s from values a old new → old ≡ get_or s.bytes p Untold
        → new ≡ Told b → get_or c.memory a 0 ≡ b
    told a p b place plain (nowhere untold) was is = absurd (cc)
    told a p b place plain (beside out kept_it) was is = so.told a p b place plain (cc)
    told a p b {old} place plain (met k at below becomes) was is =
        so.told a p b place plain
        (sym was ∙ by_gate (gate_at s.bytes a) b (get_or values k 0) old (sym becomes ∙ is))

    sure : (a p b : ℕ) → {old new : Byte} → place_of a ≡ Some p → is_free a ≡ true
        → IsRunAt Lost s from values a old new → old ≡ get_or s.bytes p Untold → new ≢ Guessed b
    sure a p b place free (nowhere untold) was is = cc
    sure a p b place free (beside out kept_it) was is = so.sure a p b place free (cc)
    sure a p b {old} place free (met k at below becomes) was is =
        let opened : byte_after Lost (gate_at s.bytes a) (get_or values k 0) old ≡ LostByte =
        ap (λ g. byte_after Lost g (get_or values k 0) old) (free_open s.bytes a p place free) in
        cc

-- of what may have been written nothing is told but what can't be
pub so_lost : (states : Bool) (s : Slave) (c e : ControllerState) (from : ℕ) (values : List ℕ)
    → IsSlaveSo states s c → IsGuarding c → IsReached from (length values) c e
    → IsSlaveSo states (told_run Lost from values s) e
so_lost states s c e from values so guarding reached = record {
  told = λ a p b place plain is. told a p b place plain (run_at Lost s from values a p place) refl is;
  sure = λ a p b place free is. sure a p b place free (run_at Lost s from values a p place) refl is;
}
  where
    by_gate : (g : Gate) (a p b v : ℕ) (old : Byte) → place_of a ≡ Some p → IsClaimed states a
        → old ≡ get_or s.bytes p Untold → gate_at s.bytes a ≡ g
        → byte_after Lost g v old ≡ Told b → get_or e.memory a 0 ≡ b
    by_gate Open a p b v old place plain was gate is = absurd (cc)
    by_gate Perhaps a p b v old place plain was gate is = absurd (cc)
    by_gate Shut a p b v old place plain was gate is =
        reached_shut states s c e from (length values) a p b so guarding reached place plain gate
        (sym was ∙ is)

    told : (a p b : ℕ) → {old new : Byte} → place_of a ≡ Some p → IsClaimed states a
        → IsRunAt Lost s from values a old new → old ≡ get_or s.bytes p Untold
        → new ≡ Told b → get_or e.memory a 0 ≡ b
    told a p b place plain (nowhere untold) was is = absurd (cc)
    told a p b place plain (beside out kept_it) was is =
        reached_beside states s c e from (length values) a p b so reached place plain out (cc)
    told a p b place plain (met k at below becomes) was is =
        by_gate (gate_at s.bytes a) a p b (get_or values k 0) _ place plain was refl (sym becomes ∙ is)

    sure : (a p b : ℕ) → {old new : Byte} → place_of a ≡ Some p → is_free a ≡ true
        → IsRunAt Lost s from values a old new → old ≡ get_or s.bytes p Untold → new ≢ Guessed b
    sure a p b place free (nowhere untold) was is = cc
    sure a p b place free (beside out kept_it) was is = so.sure a p b place free (cc)
    sure a p b {old} place free (met k at below becomes) was is =
        let opened : byte_after Lost (gate_at s.bytes a) (get_or values k 0) old ≡ LostByte =
        ap (λ g. byte_after Lost g (get_or values k 0) old) (free_open s.bytes a p place free) in
        cc

-- of what should have been written too, where no byte is among it that is always written
pub so_perhaps : (states : Bool) (s : Slave) (c e : ControllerState) (from : ℕ) (values : List ℕ)
    → IsSlaveSo states s c → IsGuarding c → IsReached from (length values) c e
    → ((a p : ℕ) → place_of a ≡ Some p → is_free a ≡ true → from ≤ a → a < from + length values → ⊥)
    → IsSlaveSo states (told_run MayBeWritten from values s) e
so_perhaps states s c e from values so guarding reached none_free = record {
  told = λ a p b place plain is. told a p b place plain (run_at MayBeWritten s from values a p place) refl is;
  sure = λ a p b place free is. sure a p b place free (run_at MayBeWritten s from values a p place) refl is;
}
  where
    by_gate : (g : Gate) (a p b v : ℕ) (old : Byte) → place_of a ≡ Some p → IsClaimed states a
        → old ≡ get_or s.bytes p Untold → gate_at s.bytes a ≡ g
        → byte_after MayBeWritten g v old ≡ Told b → get_or e.memory a 0 ≡ b
    by_gate Open a p b v old place plain was gate is = absurd (cc)
    by_gate Perhaps a p b v old place plain was gate is = absurd (cc)
    by_gate Shut a p b v old place plain was gate is =
        reached_shut states s c e from (length values) a p b so guarding reached place plain gate
        (sym was ∙ is)

    told : (a p b : ℕ) → {old new : Byte} → place_of a ≡ Some p → IsClaimed states a
        → IsRunAt MayBeWritten s from values a old new → old ≡ get_or s.bytes p Untold
        → new ≡ Told b → get_or e.memory a 0 ≡ b
    told a p b place plain (nowhere untold) was is = absurd (cc)
    told a p b place plain (beside out kept_it) was is =
        reached_beside states s c e from (length values) a p b so reached place plain out (cc)
    told a p b place plain (met k at below becomes) was is =
        by_gate (gate_at s.bytes a) a p b (get_or values k 0) _ place plain was refl (sym becomes ∙ is)

    sure : (a p b : ℕ) → {old new : Byte} → place_of a ≡ Some p → is_free a ≡ true
        → IsRunAt MayBeWritten s from values a old new → old ≡ get_or s.bytes p Untold → new ≢ Guessed b
    sure a p b place free (nowhere untold) was is = cc
    sure a p b place free (beside out kept_it) was is = so.sure a p b place free (cc)
    sure a p b place free (met k at below becomes) was is =
        none_free a p place free (omega (arith, at)) (omega (arith, at, below))
