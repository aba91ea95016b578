-- Slaves by their stations: where stations differ each slave is the one of its station, and what slaves come
-- to by their stations is what they come to one by one.
use Rattle.std.proofs.Common.{◌≡◌, ◌≢◌, ℕ, zero, suc, ◌+◌, ◌<◌, ◌≤◌, true, false, eqb, Option, None, Some}
use Rattle.std.proofs.Common.{List, [], ◌∷◌, length, map, get_or}
use Rattle.std.proofs.Common.{sym, subst, ◌∙◌, ap, refl, arith, ⊎_elim}
use Rattle.std.specs.List.{AllByRecursion, sum_by}
use Rattle.std.proofs.Math.Path.{fun_ext}
use Rattle.std.proofs.lemmas.Bool.{cases_Bool, eqb-true, eqb-false, eq-eqb, ne_eqb}
use Rattle.std.proofs.lemmas.List.Sums.{sum_by-cons}
use Rattle.ec_regs.specs.declared.registers.TheConstants.{STATION_ADDRESS}
use Rattle.ec_regs.proofs.Laws.{each-both}
use Rattle.ec_esc.specs.State.{ControllerState, IsController, word_at}
use Rattle.ec_app.specs.State.{SlaveState}
use Rattle.ec_line.specs.Accepted.{Accepts}
use Rattle.ec_line.specs.Steady.{SameSteady, IsLater}
use Rattle.ec_line.specs.Fit.{IsFitAlone, AreApart, AllApart}
use Rattle.ec_line.proofs.Laws.{after_steady, station_lasts}
use Rattle.ec_check.specs.Line.{controllers}
use Rattle.ec_map.specs.Item.{ItemRecord}
use Rattle.ec_map.specs.Share.{request_of}
use Rattle.ec_master.specs.Unordered.{ByStation, station, by_station, sum_of_stations, part_of_station}
use Rattle.ec_master.specs.Unordered.{slave_after, slaves_after}

-- ---- stations that differ

-- each slave's station differs from each later one's
abbrev pub StationsApart : List SlaveState → Type 0
StationsApart [] = Unit {0}
StationsApart (s ∷ ss) = AllByRecursion (λ t. station s ≢ station t) ss × StationsApart ss

-- what holds of each controller of slaves holds of each slave's
pub each-controller : (P : ControllerState → Type 0) (ss : List SlaveState)
    → AllByRecursion P (controllers ss)
    → AllByRecursion (λ s. P s.controller) ss
each-controller P [] all = tt
each-controller P (s ∷ ss) all = (all.0, each-controller P ss all.1)

-- and the other way round
pub each-slave : (P : ControllerState → Type 0) (ss : List SlaveState)
    → AllByRecursion (λ s. P s.controller) ss
    → AllByRecursion P (controllers ss)
each-slave P [] all = tt
each-slave P (s ∷ ss) all = (all.0, each-slave P ss all.1)

-- a station is a word
pub station_below : (s : SlaveState) → IsController s.controller → station s < 65536
unfolding station
station_below s is =
    let low : get_or s.controller.memory 16 0 < 256 = is.memory 16 in
    let high : get_or s.controller.memory 17 0 < 256 = is.memory 17 in
    omega arith

-- ---- a slave by its station

-- what holds of each slave holds of the one of a station, whose station it is
pub by_station_each : (P : SlaveState → Type 0) (ss : List SlaveState) (n : ℕ) (s : SlaveState)
    → by_station ss n ≡ Some s
    → AllByRecursion P ss → P s × (station s ≡ n)
unfolding by_station
by_station_each P [] n s found all = absurd (cc)
by_station_each P (t ∷ ts) n s found all =
    ⊎_elim
    (λ (here : eqb (station t) n ≡ true).
    let is : Some t ≡ Some s = rw here at found in
    let same : t ≡ s = cc in
    (subst P same all.0, ap station (sym same) ∙ eqb-true (station t) n here))
    (λ (other : eqb (station t) n ≡ false).
    let later : by_station ts n ≡ Some s = rw other at found in
    by_station_each P ts n s later all.1)
    (cases_Bool (eqb (station t) n))

-- a station that each slave's differs from has no slave
pub by_station_none : (ss : List SlaveState) (n : ℕ) → AllByRecursion (λ t. n ≢ station t) ss
    → by_station ss n ≡ None
unfolding by_station
by_station_none [] n all = refl
by_station_none (t ∷ ts) n all =
    let other : eqb (station t) n ≡ false = ne_eqb (station t) n (λ same. all.0 (sym same)) in
    rw other (by_station_none ts n all.1)

-- where stations differ each slave is the one of its station
pub each_by_station : (ss : List SlaveState) → StationsApart ss
    → AllByRecursion (λ s. by_station ss (station s) ≡ Some s) ss
unfolding by_station
each_by_station [] apart = tt
each_by_station (s ∷ ss) apart =
    let own : eqb (station s) (station s) ≡ true = eq-eqb (station s) (station s) refl in (
      rw own refl,
      each-both (λ t. station s ≢ station t) (λ t. by_station ss (station t) ≡ Some t)
          (λ t. by_station (s ∷ ss) (station t) ≡ Some t) ss
          (λ t differs found. let other : eqb (station s) (station t)
          ≡ false = ne_eqb (station s) (station t) differs in rw other found)
          apart.0 (each_by_station ss apart.1),
    )

-- ---- sums

-- slaves by stations that differ at one station alone, where some have a slave and the others none
pub record IsOneMore (some others : ByStation) (n : ℕ) (s : SlaveState) : Type 0 where
  pub here : some n ≡ Some s
  pub nobody : others n ≡ None
  pub same : (m : ℕ) → m ≢ n → some m ≡ others m

-- below that station they come to the same
sum_before : (f : SlaveState → ℕ) (some others : ByStation) (n : ℕ) (s : SlaveState) (limit : ℕ)
    → IsOneMore some others n s
    → limit ≤ n → sum_of_stations f some limit ≡ sum_of_stations f others limit
unfolding sum_of_stations
sum_before f some others n s zero more below = refl
sum_before f some others n s (suc limit) more below =
    let one : some limit ≡ others limit = more.same limit (λ e. absurd (omega (arith, e))) in
    let rest : sum_of_stations f some limit ≡ sum_of_stations f others limit =
    sum_before f some others n s limit more (omega arith) in
    ap (λ (o : Option SlaveState). part_of_station f o + sum_of_stations f some limit) one
    ∙ ap (λ m. part_of_station f (others limit) + m) rest

-- above it to what the slave comes to more
sum_with : (f : SlaveState → ℕ) (some others : ByStation) (n : ℕ) (s : SlaveState) (limit : ℕ)
    → IsOneMore some others n s
    → n < limit → sum_of_stations f some limit ≡ f s + sum_of_stations f others limit
unfolding sum_of_stations part_of_station
sum_with f some others n s zero more above = absurd (omega arith)
sum_with f some others n s (suc limit) more above =
    ⊎_elim
    (λ (here : eqb limit n ≡ true).
    let is : limit ≡ n = eqb-true limit n here in
    let one : some limit ≡ Some s = ap some is ∙ more.here in
    let none : others limit ≡ None = ap others is ∙ more.nobody in
    let mine : part_of_station f (some limit) ≡ f s =
    ap (λ (o : Option SlaveState). part_of_station f o) one in
    let nothing : part_of_station f (others limit) ≡ 0 =
    ap (λ (o : Option SlaveState). part_of_station f o) none in
    let rest : sum_of_stations f some limit ≡ sum_of_stations f others limit =
    sum_before f some others n s limit more (omega arith) in
    omega arith)
    (λ (other : eqb limit n ≡ false).
    let differs : limit ≢ n = eqb-false limit n other in
    let one : part_of_station f (some limit) ≡ part_of_station f (others limit) =
    ap (λ (o : Option SlaveState). part_of_station f o) (more.same limit differs) in
    let rest : sum_of_stations f some limit ≡ f s + sum_of_stations f others limit =
    sum_with f some others n s limit more (omega arith) in
    omega arith)
    (cases_Bool (eqb limit n))

-- nobody comes to nothing
sum_of_nobody : (f : SlaveState → ℕ) (limit : ℕ) → sum_of_stations f (by_station []) limit ≡ 0
unfolding sum_of_stations part_of_station by_station
sum_of_nobody f zero = refl
sum_of_nobody f (suc limit) = omega (arith, sum_of_nobody f limit)

-- a first slave of a station of its own is one more
one_more : (s : SlaveState) (ss : List SlaveState) → AllByRecursion (λ t. station s ≢ station t) ss
    → IsOneMore (by_station (s ∷ ss)) (by_station ss) (station s) s
unfolding by_station
one_more s ss apart = record {
  here = let own : eqb (station s) (station s) ≡ true = eq-eqb (station s) (station s) refl in rw own refl;
  nobody = by_station_none ss (station s) apart;
  same = λ m differs.
      let other : eqb (station s) m ≡ false = ne_eqb (station s) m (λ e. differs (sym e)) in rw other refl;
}

-- what slaves come to by stations below a limit is what they come to one by one
pub sum_of_stations-sum_by : (f : SlaveState → ℕ) (ss : List SlaveState) (limit : ℕ) → StationsApart ss
    → AllByRecursion (λ s. station s < limit) ss → sum_of_stations f (by_station ss) limit ≡ sum_by f ss
sum_of_stations-sum_by f [] limit apart below = sum_of_nobody f limit
sum_of_stations-sum_by f (s ∷ ss) limit apart below =
    sum_with f (by_station (s ∷ ss)) (by_station ss) (station s) s limit (one_more s ss apart.0) below.0
    ∙ ap (λ n. f s + n) (sum_of_stations-sum_by f ss limit apart.1 below.1)
    ∙ sym (sum_by-cons f s ss)

-- ones come to the number
pub sum_of_ones : (ss : List SlaveState) → sum_by (λ (s : SlaveState). 1) ss ≡ length ss
sum_of_ones [] = refl
sum_of_ones (s ∷ ss) =
    let first : sum_by (λ (s : SlaveState). 1) (s ∷ ss) ≡ 1 + sum_by (λ (s : SlaveState). 1) ss =
    sum_by-cons (λ (s : SlaveState). 1) s ss in
    let rest : sum_by (λ (s : SlaveState). 1) ss ≡ length ss = sum_of_ones ss in
    omega arith

-- ---- slaves after an item

-- a slave's station is a register, which an item that it accepts leaves
pub station_after : (r : ItemRecord) (s : SlaveState) → IsController s.controller
    → Accepts (request_of r) s.controller
    → station (slave_after r s) ≡ station s
unfolding station
station_after r s is accepts =
    station_lasts s.controller _ is (after_steady (request_of r) r.payload s.controller is accepts)

-- the slaves after an item, by their stations
by_station_after : (r : ItemRecord) (ss : List SlaveState) (n : ℕ)
    → AllByRecursion (λ s. IsController s.controller) ss
    → AllByRecursion (λ s. Accepts (request_of r) s.controller) ss
    → slaves_after r (by_station ss) n ≡ by_station (map (slave_after r) ss) n
unfolding by_station
by_station_after r [] n are accept = refl
by_station_after r (s ∷ ss) n are accept =
    ⊎_elim
    (λ (here : eqb (station s) n ≡ true).
    let still : eqb (station (slave_after r s)) n ≡ true =
    ap (λ m. eqb m n) (station_after r s are.0 accept.0) ∙ here in
    rw (here, still) refl)
    (λ (other : eqb (station s) n ≡ false).
    let still : eqb (station (slave_after r s)) n ≡ false =
    ap (λ m. eqb m n) (station_after r s are.0 accept.0) ∙ other in
    rw (other, still) (by_station_after r ss n are.1 accept.1))
    (cases_Bool (eqb (station s) n))

pub slaves_after-map : (r : ItemRecord) (ss : List SlaveState)
    → AllByRecursion (λ s. IsController s.controller) ss
    → AllByRecursion (λ s. Accepts (request_of r) s.controller) ss
    → slaves_after r (by_station ss) ≡ by_station (map (slave_after r) ss)
slaves_after-map r ss are accept = fun_ext (λ n. by_station_after r ss n are accept)

-- ---- a line as it is now

-- the station of a slave whose controller is a later one
station_of_later : (y : ControllerState) (t : SlaveState) → IsController y → SameSteady y t.controller
    → station t ≡ word_at y.memory STATION_ADDRESS
unfolding station
station_of_later y t is same = station_lasts y t.controller is same

-- the stations of slaves whose line is a later one of a line that is apart
stations_from : (x : ControllerState) (s : SlaveState) (xs : List ControllerState) (ss : List SlaveState)
    → station s ≡ word_at x.memory STATION_ADDRESS
    → AllByRecursion IsFitAlone xs → AllByRecursion (λ y. AreApart x y) xs → IsLater xs (controllers ss)
    → AllByRecursion (λ t. station s ≢ station t) ss
stations_from x s [] [] is fit apart later = tt
stations_from x s [] (t ∷ ts) is fit apart later = absurd later
stations_from x s (y ∷ ys) [] is fit apart later = absurd later
stations_from x s (y ∷ ys) (t ∷ ts) is fit apart later = (
  λ same. apart.0.stations (sym is ∙ same ∙ station_of_later y t fit.0.controller later.0.0),
  stations_from x s ys ts is fit.1 apart.1 later.1,
)

pub stations_apart : (xs : List ControllerState) (ss : List SlaveState) → AllByRecursion IsFitAlone xs
    → AllApart xs → IsLater xs (controllers ss)
    → StationsApart ss
stations_apart [] [] fit apart later = tt
stations_apart [] (s ∷ ss) fit apart later = absurd later
stations_apart (x ∷ xs) [] fit apart later = absurd later
stations_apart (x ∷ xs) (s ∷ ss) fit apart later = (
  stations_from x s xs ss (station_of_later x s fit.0.controller later.0.0) fit.1 apart.0 later.1,
  stations_apart xs ss fit.1 apart.1 later.1,
)

-- and they are controllers
pub later_controllers : (xs : List ControllerState) (ss : List SlaveState) → IsLater xs (controllers ss)
    → AllByRecursion (λ s. IsController s.controller) ss
later_controllers [] [] later = tt
later_controllers [] (s ∷ ss) later = absurd later
later_controllers (x ∷ xs) [] later = absurd later
later_controllers (x ∷ xs) (s ∷ ss) later = (later.0.1, later_controllers xs ss later.1)
