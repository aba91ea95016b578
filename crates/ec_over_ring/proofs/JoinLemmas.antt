-- Of two copies one brings a pass, and the other the datagram as it was sent: joined they carry the pass.
use Rattle.std.proofs.Common.{◌≡◌, ℕ, zero, suc, ◌<◌, Bool, true, [], ◌∷◌, length, refl, ap, ◌∙◌}
use Rattle.std.proofs.Common.{arith, eqb, ◌&&◌}
use Rattle.std.proofs.lemmas.Bool.{eq-eqb}
use Rattle.ec_wire.specs.Datagram.{DatagramRecord, nth, code_of}
use Rattle.ec_wire.specs.declared.command.Command.{Command}
use Rattle.ec_merge.specs.Frames.{belongs, fixed_address, IsOwn, joined_frame}
use Rattle.ec_merge.specs.Laws.{joined_count_unit, joined_count_symmetric}
use Rattle.ec_merge.proofs.Laws.{joined_unit, joined_unit_first}
use Rattle.ec_over_ring.specs.Question.{Carries}
use Rattle.ec_over_ring.proofs.LineLemmas.{IsPassed, turned}

-- ---- a frame of one datagram

-- copy A brings the pass
pub first_carries : (d e : DatagramRecord) (b : Bool) → IsPassed d e → d.counter < 65536
    → Carries e (joined_frame (d ∷ []) (e ∷ []) (turned b d ∷ []))
first_carries d e b passed small = record {
  one = refl;
  payload = joined_unit d.payload e.payload passed.size;
  counter = joined_count_unit d.counter e.counter small passed.underway.counter;
}

-- copy B brings it
pub second_carries : (d e : DatagramRecord) (b : Bool) → IsPassed d e → d.counter < 65536
    → Carries e (joined_frame (d ∷ []) (d ∷ []) (turned b e ∷ []))
second_carries d e b passed small = record {
  one = refl;
  payload = joined_unit_first d.payload e.payload passed.size;
  counter = joined_count_symmetric d.counter d.counter e.counter
      ∙ joined_count_unit d.counter e.counter small passed.underway.counter;
}

-- ---- no stranger

same_datagram : (d e : DatagramRecord) → e.command ≡ d.command → e.index ≡ d.index
    → length e.payload ≡ length d.payload → e.address ≡ d.address → belongs d e ≡ true
same_datagram d e command index size address =
    let fixed : ℕ → ℕ = λ n. fixed_address d.command n in
    let commands : eqb (code_of e.command) (code_of d.command) ≡ true =
    eq-eqb _ _ (ap (λ (x : Command). code_of x) command) in
    let indices : eqb e.index d.index ≡ true = eq-eqb _ _ index in
    let sizes : eqb (length e.payload) (length d.payload) ≡ true = eq-eqb _ _ size in
    let addresses : eqb (fixed e.address) (fixed d.address) ≡ true = eq-eqb _ _ (ap fixed address) in
    ap (λ (b : Bool). b && eqb e.index d.index && eqb (length e.payload) (length d.payload)
    && eqb (fixed e.address) (fixed d.address)) commands
    ∙ ap (λ (b : Bool). b && eqb (length e.payload) (length d.payload)
    && eqb (fixed e.address) (fixed d.address)) indices
    ∙ ap (λ (b : Bool). b && eqb (fixed e.address) (fixed d.address)) sizes
    ∙ addresses

each_own : (d e : DatagramRecord) → belongs d e ≡ true → (k : ℕ) → k < 1
    → belongs (nth (d ∷ []) k) (nth (e ∷ []) k) ≡ true
each_own d e own zero inside = own
each_own d e own (suc k) inside = absurd (omega (arith, inside))

-- what a pass leaves, in a frame alone, is no stranger, whether it circulates or not
pub own_passed : (d e : DatagramRecord) (b : Bool) → IsPassed d e → IsOwn (d ∷ []) (turned b e ∷ [])
own_passed d e b passed = record {
  count = refl;
  each = each_own d (turned b e)
      (same_datagram d (turned b e) passed.command passed.index passed.size passed.address);
}

pub own_sent : (d : DatagramRecord) (b : Bool) → IsOwn (d ∷ []) (turned b d ∷ [])
own_sent d b = record {
  count = refl;
  each = each_own d (turned b d) (same_datagram d (turned b d) refl refl refl refl);
}
