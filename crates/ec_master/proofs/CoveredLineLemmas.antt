-- What a covered line gives each pair of a slave: an item asks for it.
use Rattle.std.proofs.Common.{◌≡◌, ◌⊎◌, ⊎_elim, inl, inr, ℕ, suc, ◌-◌, ◌*◌, ◌<◌, true, false, eqb}
use Rattle.std.proofs.Common.{Option, None, Some, List, [], ◌∷◌, length, refl, sym, ap, ◌∙◌, arith}
use Rattle.std.proofs.lemmas.Bool.{cases_Bool}
use Rattle.ec_regs.specs.Bits.{bit, later}
use Rattle.ec_regs.specs.Pairs.{reads, writes, IsPair}
use Rattle.ec_regs.specs.declared.fmmu.Fmmu.{Fmmu}
use Rattle.ec_regs.specs.declared.registers.TheConstants.{FMMU_COUNT}
use Rattle.ec_areas.specs.Records.{fmmu_at}
use Rattle.ec_areas.proofs.Laws.{get_or-fmmus_of, length-fmmus_of}
use Rattle.ec_esc.specs.State.{ControllerState}
use Rattle.ec_app.specs.State.{SlaveState}
use Rattle.ec_line.specs.Fit.{Reads as ReadsPair, Writes as WritesPair}
use Rattle.ec_check.specs.Line.{controllers, controller_of, fmmu_of, HasFmmu}
use Rattle.ec_map.specs.Item.{ItemRecord}
use Rattle.ec_map.specs.Covered.{asks_bit, is_asked, goes, IsCovered}
use Rattle.ec_map.specs.declared.covered.Way.{Way}
use Rattle.ec_map.specs.declared.covered.Way.TheVariants.{Reads, Writes}
use Rattle.ec_master.specs.Covered.{sent_bit, last_sent}
use Rattle.ec_master.specs.Unordered.{station, by_station}

-- ---- the place of a slave

-- the slave of a station stands on the line
pub record IsPlaceOf (slaves : List SlaveState) (s : SlaveState) : Type 0 where
  pub place : ℕ
  pub there : place < length (controllers slaves)
  pub is : controller_of (controllers slaves) place ≡ s.controller

pub place_of : (slaves : List SlaveState) (n : ℕ) (s : SlaveState) → by_station slaves n ≡ Some s
    → IsPlaceOf slaves s
unfolding by_station
place_of [] n s found = absurd (cc)
place_of (t ∷ ts) n s found =
    ⊎_elim
    (λ (here : eqb (station t) n ≡ true).
    let is : Some t ≡ Some s = rw here at found in
    let same : t ≡ s = cc in
    record { place = 0; there = omega arith; is = ap (λ (u : SlaveState). u.controller) same })
    (λ (other : eqb (station t) n ≡ false).
    let later_found : by_station ts n ≡ Some s = rw other at found in
    let rest = place_of ts n s later_found in
    let below : rest.place < length (controllers ts) = rest.there in
    record { place = suc rest.place; there = omega arith; is = rest.is })
    (cases_Bool (eqb (station t) n))

-- ---- the FMMU of a pair

-- an FMMU of the slave pairs the bits on one way
pub record IsPairOf (line : List ControllerState) (place : ℕ) (way : Way) (l p : ℕ) : Type 0 where
  pub fmmu : ℕ
  pub there : HasFmmu line place fmmu
  pub way_is : goes way (fmmu_of line place fmmu) ≡ true
  pub pair : IsPair (fmmu_of line place fmmu) l p

pub read_pair : (slaves : List SlaveState) (s : SlaveState) (l p : ℕ) (at : IsPlaceOf slaves s)
    → ReadsPair s.controller l p → IsPairOf (controllers slaves) at.place Reads l p
unfolding fmmu_of
read_pair slaves s l p at readable =
    let memory : List ℕ = s.controller.memory in
    let k : ℕ = readable.0 in
    let f : Fmmu = readable.1 in
    let below : k < FMMU_COUNT = omega (arith, readable.2, length-fmmus_of memory) in
    let is : f ≡ fmmu_at (controller_of (controllers slaves) at.place).memory k =
    sym readable.3 ∙ get_or-fmmus_of memory f k below
    ∙ ap (λ (c : ControllerState). fmmu_at c.memory k) (sym at.is) in
    record {
      fmmu = k;
      there = record { slave_there = at.there; number_there = below };
      way_is = ap reads (sym is) ∙ readable.4.for_reading;
      pair = rw is at readable.4.mapped;
    }

pub written_pair : (slaves : List SlaveState) (s : SlaveState) (l p : ℕ) (at : IsPlaceOf slaves s)
    → WritesPair s.controller l p → IsPairOf (controllers slaves) at.place Writes l p
unfolding fmmu_of
written_pair slaves s l p at writable =
    let memory : List ℕ = s.controller.memory in
    let k : ℕ = writable.0 in
    let f : Fmmu = writable.1 in
    let below : k < FMMU_COUNT = omega (arith, writable.2, length-fmmus_of memory) in
    let is : f ≡ fmmu_at (controller_of (controllers slaves) at.place).memory k =
    sym writable.3 ∙ get_or-fmmus_of memory f k below
    ∙ ap (λ (c : ControllerState). fmmu_at c.memory k) (sym at.is) in
    record {
      fmmu = k;
      there = record { slave_there = at.there; number_there = below };
      way_is = ap writes (sym is) ∙ writable.4.for_writing;
      pair = rw is at writable.4.mapped;
    }

-- ---- what is asked

-- a pair of a covered line is asked for
asked_of : (line : List ControllerState) (items : List ItemRecord) (place l p : ℕ) (way : Way)
    → IsCovered line items → IsPairOf line place way l p → is_asked way l items ≡ true
asked_of line items place l p way covered of_pair =
    ⊎_elim
    (λ (yes : is_asked way l items ≡ true). yes)
    (λ (no : is_asked way l items ≡ false).
    absurd (covered (record { slave = place; fmmu = of_pair.fmmu; way = way; bit = l })
    (record { there = of_pair.there; way = of_pair.way_is; mapped = (p, of_pair.pair); unasked = no })))
    (cases_Bool (is_asked way l items))

pub covered_reads : (slaves : List SlaveState) (items : List ItemRecord) (n l p : ℕ) (s : SlaveState)
    → IsCovered (controllers slaves) items → by_station slaves n ≡ Some s → ReadsPair s.controller l p
    → is_asked Reads l items ≡ true
covered_reads slaves items n l p s covered found pair =
    let at = place_of slaves n s found in
    asked_of (controllers slaves) items at.place l p Reads covered (read_pair slaves s l p at pair)

-- the later one of two is there where one of them is
later_there : (first second : Option ℕ) → ((v : ℕ) × (first ≡ Some v)) ⊎ ((v : ℕ) × (second ≡ Some v))
    → (v : ℕ) × (later first second ≡ Some v)
later_there first None one =
    ⊎_elim (λ (is : (v : ℕ) × (first ≡ Some v)). is)
    (λ (is : (v : ℕ) × (◌≡◌ {A = Option ℕ} None (Some v))). absurd (let no = is.1 in cc)) one
later_there first (Some w) one = (w, refl)

-- what is asked for writing has been sent
asked_sent : (items : List ItemRecord) (l : ℕ) → is_asked Writes l items ≡ true
    → (v : ℕ) × (last_sent items l ≡ Some v)
unfolding sent_bit
asked_sent [] l asked = absurd (cc)
asked_sent (r ∷ rs) l asked =
    ⊎_elim
    (λ (here : asks_bit Writes l r ≡ true).
    later_there (sent_bit l r) (last_sent rs l) (inl (bit r.payload (l - 8 * r.address), rw here refl)))
    (λ (other : asks_bit Writes l r ≡ false).
    let rest : is_asked Writes l rs ≡ true = rw other at asked in
    later_there (sent_bit l r) (last_sent rs l) (inr (asked_sent rs l rest)))
    (cases_Bool (asks_bit Writes l r))

pub covered_writes : (slaves : List SlaveState) (items : List ItemRecord) (n l p : ℕ) (s : SlaveState)
    → IsCovered (controllers slaves) items → by_station slaves n ≡ Some s → WritesPair s.controller l p
    → (v : ℕ) × (last_sent items l ≡ Some v)
covered_writes slaves items n l p s covered found pair =
    let at = place_of slaves n s found in
    asked_sent items l
    (asked_of (controllers slaves) items at.place l p Writes covered (written_pair slaves s l p at pair))
