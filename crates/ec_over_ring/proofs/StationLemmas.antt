-- A station that one slave of a ring has: whom a datagram reaches that names it, and that it is so once each
-- slave took its step.
use Rattle.std.proofs.Common.{◌≡◌, ℕ, suc, ◌<◌, true, eqb, List, [], ◌∷◌, ◌++◌, map}
use Rattle.std.proofs.Common.{length, get_or, refl, sym, ap, ◌∙◌, arith, subst, inl}
use Rattle.std.specs.Prelude.{◌≢◌}
use Rattle.std.specs.List.{AllByRecursion}
use Rattle.std.proofs.lemmas.Bool.{eq-eqb}
use Rattle.std.proofs.lemmas.List.{length-map}
use Rattle.ec_regs.specs.Bits.{AreBytes}
use Rattle.ec_regs.specs.declared.registers.TheConstants.{STATION_ADDRESS, MEMORY_SIZE}
use Rattle.ec_wire.specs.Command.{addressing}
use Rattle.ec_wire.specs.Datagram.{DatagramRecord, adp, adp_of, ado_of, address_of}
use Rattle.ec_wire.specs.declared.command.Addressing.TheVariants.{ConfiguredStation}
use Rattle.ec_wire.specs.declared.command.Command.{Command}
use Rattle.ec_esc.specs.State.{IsController, word_at}
use Rattle.ec_app.specs.Left.{IsLeft, SameLeft}
use Rattle.ec_app.specs.Slave.{step}
use Rattle.ec_app.specs.State.{SlaveState}
use Rattle.ec_app.proofs.Laws.{step_leaves}
use Rattle.ec_ring.specs.Links.{IsOnlyDown}
use Rattle.ec_ring.specs.Ring.{RingState, controllers, line_of, stepped}
use Rattle.ec_services.specs.Ask.{request}
use Rattle.ec_over_ring.specs.Question.{IsOther, ReachesOne}
use Rattle.ec_over_ring.specs.States.{HasStation}

-- ---- each of a line

-- the station of a slave
abbrev pub station_of : SlaveState → ℕ
station_of x = word_at x.controller.memory STATION_ADDRESS

abbrev AreControllers : List SlaveState → Type 0
AreControllers ss = AllByRecursion IsController (controllers ss)

front_controllers : (before behind : List SlaveState) → AreControllers (before ++ behind)
    → AreControllers before
front_controllers [] behind all = tt
front_controllers (x ∷ before) behind all = (all.0, front_controllers before behind all.1)

back_controllers : (before behind : List SlaveState) → AreControllers (before ++ behind)
    → AreControllers behind
back_controllers [] behind all = all
back_controllers (x ∷ before) behind all = back_controllers before behind all.1

-- the controllers of the slaves before one, its own, and those of the slaves behind it
pub record AreParts (before : List SlaveState) (s : SlaveState) (behind : List SlaveState) : Type 0 where
  pub first : AreControllers before
  pub own : IsController s.controller
  pub last : AreControllers behind

pub parts_of : (station : ℕ) (r : RingState) (before : List SlaveState) (s : SlaveState)
    (behind : List SlaveState)
    → HasStation station r before s behind → AreParts before s behind
parts_of station r before s behind has =
    let all : AreControllers (before ++ s ∷ behind) =
    subst (λ (ss : List SlaveState). AreControllers ss) has.slaves has.controllers in
    let rest : AreControllers (s ∷ behind) = back_controllers before (s ∷ behind) all in
    record { first = front_controllers before (s ∷ behind) all; own = rest.0; last = rest.1 }

-- ---- a datagram that names the station

pub adp_is : (station register : ℕ) → station < 65536 → adp_of (address_of station register) ≡ station
adp_is station register small = omega (arith, small)

pub ado_is : (station register : ℕ) → station < 65536 → ado_of (address_of station register) ≡ register
ado_is station register small = omega (arith, small)

pub others_for : (d : DatagramRecord) (station : ℕ) (ss : List SlaveState) → adp d ≡ station
    → AllByRecursion (λ (x : SlaveState). station_of x ≢ station) ss → AreControllers ss
    → AllByRecursion (λ (x : SlaveState). IsOther d x.controller) ss
others_for d station [] named others are = tt
others_for d station (x ∷ ss) named others are = (
  record { controller = are.0; station = λ is. others.0 (sym is ∙ named) },
  others_for d station ss named others.1 are.1,
)

-- it reaches the one
pub reaches : (station register : ℕ) (command : Command) (payload : List ℕ) (r : RingState)
    (before : List SlaveState) (s : SlaveState) (behind : List SlaveState)
    → HasStation station r before s behind → addressing command ≡ ConfiguredStation → AreBytes payload
    → ReachesOne (request command (address_of station register) payload) r before s behind
reaches station register command payload r before s behind has by_station bytes =
    let d : DatagramRecord = request command (address_of station register) payload in
    let parts : AreParts before s behind = parts_of station r before s behind has in
    let named : adp d ≡ station = adp_is station register has.address in
    record {
      down = has.down;
      asked = record { station = by_station; circulating = refl; payload = bytes; counter = omega arith };
      alone = record {
        slaves = has.slaves;
        others_before = others_for d station before named has.others_before parts.first;
        others_behind = others_for d station behind named has.others_behind parts.last;
      };
    }

-- the one is meant
pub meant : (station register : ℕ) (r : RingState) (before : List SlaveState) (s : SlaveState)
    (behind : List SlaveState) → HasStation station r before s behind
    → eqb (adp_of (address_of station register)) (word_at s.controller.memory STATION_ADDRESS) ≡ true
meant station register r before s behind has =
    eq-eqb _ _ (adp_is station register has.address ∙ sym has.station_is)

-- ---- a step

station_left : (a : ℕ) → a < 304 → IsLeft a
station_left a low = record {
  al_status = inl low;
  al_status_code = inl (omega (arith, low));
  requests = λ is. absurd (omega (arith, low, is));
  answers = λ is. absurd (omega (arith, low, is));
  register = omega (arith, low);
}

-- it leaves the station
pub station_stays : (s : SlaveState) → length s.controller.memory ≡ MEMORY_SIZE
    → station_of (step s) ≡ station_of s
station_stays s size =
    let same : SameLeft s.controller.memory (step s).controller.memory = step_leaves s size in
    let low : get_or (step s).controller.memory 16 0 ≡ get_or s.controller.memory 16 0 =
    same.bytes 16 (station_left 16 (omega arith)) in
    let high : get_or (step s).controller.memory 17 0 ≡ get_or s.controller.memory 17 0 =
    same.bytes 17 (station_left 17 (omega arith)) in
    omega (arith, low, high)

pub others_step : (station : ℕ) (ss : List SlaveState)
    → AllByRecursion (λ (x : SlaveState). station_of x ≢ station) ss → AreControllers ss
    → AllByRecursion (λ (x : SlaveState). station_of x ≢ station) (map step ss)
others_step station [] others are = tt
others_step station (x ∷ ss) others are = (
  λ is. others.0 (sym (station_stays x are.0.memory_size) ∙ is),
  others_step station ss others.1 are.1,
)

pub map_parts : (before : List SlaveState) (s : SlaveState) (behind : List SlaveState)
    → map step (before ++ s ∷ behind) ≡ map step before ++ step s ∷ map step behind
map_parts [] s behind = refl
map_parts (x ∷ before) s behind = ap (λ (ss : List SlaveState). step x ∷ ss) (map_parts before s behind)

pub size_parts : (before : List SlaveState) (s t : SlaveState) (behind : List SlaveState)
    → length (before ++ s ∷ behind) ≡ length (map step (before ++ t ∷ behind))
size_parts [] s t behind = ap (λ (n : ℕ). suc n) (sym (length-map behind step))
size_parts (x ∷ before) s t behind = ap (λ (n : ℕ). suc n) (size_parts before s t behind)

-- and so the ring has it once the one became another of that station, and each took its step
pub has_later : (station : ℕ) (r : RingState) (before : List SlaveState) (s t : SlaveState)
    (behind : List SlaveState) → HasStation station r before s behind
    → length t.controller.memory ≡ MEMORY_SIZE → station_of t ≡ station
    → AllByRecursion IsController (line_of (stepped (record r { slaves = before ++ t ∷ behind })))
    → HasStation station (stepped (record r { slaves = before ++ t ∷ behind })) (map step before) (step t)
    (map step behind)
has_later station r before s t behind has size station_is later =
    let parts : AreParts before s behind = parts_of station r before s behind has in
    let sizes : length r.slaves ≡ length (map step (before ++ t ∷ behind)) =
    ap (λ (ss : List SlaveState). length ss) has.slaves ∙ size_parts before s t behind in
    record {
      down = (has.down.0, subst (λ (n : ℕ). IsOnlyDown r.links n has.down.0) sizes has.down.1);
      slaves = map_parts before t behind;
      address = has.address;
      station_is = station_stays t size ∙ station_is;
      others_before = others_step station before has.others_before parts.first;
      others_behind = others_step station behind has.others_behind parts.last;
      controllers = later;
    }
