-- A scan: counts one after the other, and slaves one after the other.
use Rattle.std.proofs.Common.{◌≡◌, ℕ, zero, suc, ◌+◌, Bool, true, false, List, [], ◌∷◌, ◌++◌, refl, sym, ap}
use Rattle.std.proofs.Common.{subst, arith, Option, None, Some, Result, Ok, Err}
use Rattle.std.proofs.Common.{◌==◌, ◌<◌, ◌∙◌, nat_lt, length}
use Rattle.std.proofs.lemmas.Bool.Decides.{nat_tests}
use Rattle.std.proofs.lemmas.List.{length-append}
use Rattle.ec_app.specs.Table.{first_fitting}
use Rattle.ec_diag.specs.declared.located.Located.{Located}
use Rattle.ec_master.specs.Ports.{Trips}
use Rattle.ec_run.specs.Ask.{IsPut, one_counted}
use Rattle.ec_run.specs.Watched.{WatchedState}
use Rattle.ec_services.specs.declared.fault.MasterFault.{MasterFault}
use Rattle.ec_services.specs.declared.fault.MasterFault.TheVariants.{NoSlave, BadAnswer}
use Rattle.ec_wire.specs.Datagram.{DatagramRecord, nth}
use Rattle.ecat_master.specs.Course.{HeardTrips}
use Rattle.ecat_master.specs.Scan.{AreAsked, ArePlacesRead, IsAsk, IsPlaceRead, IsReadAt, IsRunRead}
use Rattle.ecat_master.specs.Scan.{is_enough, register_read, unless_failed, with_count}
use Rattle.ecat_master.specs.declared.scanning.TheConstants.{COUNTS}
use Rattle.ecat_master.specs.declared.scanning.Way.{Way}

-- ---- counts

-- what the asks that are left come to, behind the counts so far, is what all come to
abbrev pub AsksOn : {P : Type 0} → HeardTrips P → WatchedState P → WatchedState P → ℕ → ℕ → List ℕ → Type 0
AsksOn {P} heard start now all left counts =
    (result : Result (List ℕ) MasterFault) (later : WatchedState P)
    → AreAsked heard now left counts result later → AreAsked heard start all [] result later

-- what follows counts behind which the ports are between, if they are enough and if they are not
abbrev Behind : {P : Type 0} → HeardTrips P → WatchedState P → ℕ → List ℕ → Result (List ℕ) MasterFault
    → WatchedState P → Bool → Type 0
Behind heard between less counts result later true = (result ≡ Ok counts) × (later ≡ between)
Behind heard between less counts result later false = AreAsked heard between less counts result later

ask_more : {P : Type 0} (heard : HeardTrips P) (now between later : WatchedState P) (less : ℕ)
    (counts : List ℕ) (count : Option ℕ) (result : Result (List ℕ) MasterFault)
    → IsAsk heard now (Ok count) between → is_enough (with_count counts count) ≡ false
    → AreAsked heard between less (with_count counts count) result later
    → AreAsked heard now (suc less) counts result later
unfolding AreAsked
ask_more {P} heard now between later less counts count result ask is more = (
  Ok count,
  between,
  ask,
  subst (Behind heard between less (with_count counts count) result later) (sym is) more,
)

ask_last : {P : Type 0} (heard : HeardTrips P) (now later : WatchedState P) (less : ℕ)
    (counts : List ℕ) (count : Option ℕ)
    → IsAsk heard now (Ok count) later → is_enough (with_count counts count) ≡ true
    → AreAsked heard now (suc less) counts (Ok (with_count counts count)) later
unfolding AreAsked
ask_last {P} heard now later less counts count ask is =
    let all : List ℕ = with_count counts count in
    let told : Result (List ℕ) MasterFault = Ok all in
    let both : (told ≡ told) × (later ≡ later) = (refl, refl) in
    (Ok count, later, ask, subst (Behind heard later less all told later) (sym is) both)

ask_fails : {P : Type 0} (heard : HeardTrips P) (now later : WatchedState P) (less : ℕ)
    (counts : List ℕ) (fault : MasterFault) → IsAsk heard now (Err fault) later
    → AreAsked heard now (suc less) counts (Err fault) later
unfolding AreAsked
ask_fails heard now later less counts fault ask = (Err fault, later, ask, (refl, refl))

ask_none : {P : Type 0} (heard : HeardTrips P) (now : WatchedState P) (counts : List ℕ)
    → AreAsked heard now 0 counts (Ok counts) now
unfolding AreAsked
ask_none heard now counts = (refl, refl)

pub asks_on : {P : Type 0} (heard : HeardTrips P) (start now between : WatchedState P) (all left less : ℕ)
    (counts : List ℕ) (count : Option ℕ) → AsksOn heard start now all left counts → left ≡ suc less
    → IsAsk heard now (Ok count) between → is_enough (with_count counts count) ≡ false
    → AsksOn heard start between all less (with_count counts count)
asks_on heard start now between all left less counts count so_far is ask few result later more =
    so_far result later
    (subst (λ (n : ℕ). AreAsked heard now n counts result later) (sym is)
    (ask_more heard now between later less counts count result ask few more))

pub asks_enough : {P : Type 0} (heard : HeardTrips P) (start now later : WatchedState P) (all left less : ℕ)
    (counts : List ℕ) (count : Option ℕ) → AsksOn heard start now all left counts → left ≡ suc less
    → IsAsk heard now (Ok count) later → is_enough (with_count counts count) ≡ true
    → AreAsked heard start all [] (Ok (with_count counts count)) later
asks_enough heard start now later all left less counts count so_far is ask enough =
    so_far (Ok (with_count counts count)) later
    (subst (λ (n : ℕ). AreAsked heard now n counts (Ok (with_count counts count)) later) (sym is)
    (ask_last heard now later less counts count ask enough))

pub asks_fail : {P : Type 0} (heard : HeardTrips P) (start now later : WatchedState P) (all left less : ℕ)
    (counts : List ℕ) (fault : MasterFault) → AsksOn heard start now all left counts → left ≡ suc less
    → IsAsk heard now (Err fault) later → AreAsked heard start all [] (Err fault) later
asks_fail heard start now later all left less counts fault so_far is ask =
    so_far (Err fault) later
    (subst (λ (n : ℕ). AreAsked heard now n counts (Err fault) later) (sym is)
    (ask_fails heard now later less counts fault ask))

pub asks_end : {P : Type 0} (heard : HeardTrips P) (start now : WatchedState P) (all left : ℕ)
    (counts : List ℕ) → AsksOn heard start now all left counts → left ≡ 0
    → AreAsked heard start all [] (Ok counts) now
asks_end heard start now all left counts so_far is =
    so_far (Ok counts) now
    (subst (λ (n : ℕ). AreAsked heard now n counts (Ok counts) now) (sym is) (ask_none heard now counts))

-- counts that are not enough are fewer, if those before were
pub few_behind : (counts : List ℕ) (told : Option ℕ) → length counts < COUNTS
    → is_enough (with_count counts told) ≡ false → length (with_count counts told) < COUNTS
few_behind counts None before few = before
few_behind counts (Some count) before few =
    let size : length (counts ++ count ∷ []) ≡ length counts + 1 = length-append counts (count ∷ []) in
    grind (arith, nat_tests, before, few, size)

-- ---- reads

-- what is told of an answer by how many slaves counted on it
abbrev rows : ℕ → Result (Unit {0}) MasterFault
rows n = first_fitting ((n == 0, Err NoSlave) ∷ (nat_lt 1 n, Err BadAnswer) ∷ []) (Ok tt)

one_of_rows : (n : ℕ) → rows n ≡ Ok tt → n ≡ 1
one_of_rows zero good = absurd (cc (good))
one_of_rows (suc zero) good = refl
one_of_rows (suc (suc n)) good = absurd (grind (arith, nat_tests, good))

-- a good answer is one on which exactly one slave counted
counted_one : (joined : Result (List DatagramRecord) MasterFault) (frame : List DatagramRecord)
    → Ok frame ≡ unless_failed (one_counted joined) joined → one_counted joined ≡ Ok tt
    → (joined ≡ Ok frame) × ((nth frame 0).counter ≡ 1)
counted_one (Err fault) frame tells good =
    let failed : Ok frame ≡ Err fault = tells in absurd (cc (failed))
counted_one (Ok frames) frame tells good =
    let same : Ok frame ≡ Ok frames =
    tells ∙ ap (λ (t : Result (Unit {0}) MasterFault). unless_failed t (Ok frames)) good in
    let is : frames ≡ frame = cc (same) in (
      ap Ok is,
      ap (λ (f : List DatagramRecord). (nth f 0).counter) (sym is)
          ∙ one_of_rows (nth frames 0).counter good,
    )

run_by : {P : Type 0} (trips : Trips P) (before later : P) (way : Way) (ado size : ℕ)
    (frame : List DatagramRecord) (joined : Result (List DatagramRecord) MasterFault)
    (test : Result (Unit {0}) MasterFault) → one_counted joined ≡ test
    → IsPut trips before (register_read way ado size) joined later
    → Ok frame ≡ unless_failed (one_counted joined) joined → IsRunRead trips before way ado size later
run_by trips before later way ado size frame joined (Err fault) is puts tells =
    let failed : Ok frame ≡ Err fault =
    tells ∙ ap (λ (t : Result (Unit {0}) MasterFault). unless_failed t joined) is in
    absurd (cc (failed))
run_by trips before later way ado size frame joined (Ok did) is puts tells =
    let both = counted_one joined frame tells is in
    record {
      joined = frame;
      puts = subst (λ (j : Result (List DatagramRecord) MasterFault).
          IsPut trips before (register_read way ado size) j later) both.0 puts;
      one = both.1;
    }

-- registers whose answer is good were read of exactly one slave
pub run_read : {P : Type 0} (trips : Trips P) (before later : P) (way : Way) (ado size : ℕ)
    (frame : List DatagramRecord) → IsReadAt trips before way ado size (Ok frame) later
    → IsRunRead trips before way ado size later
run_read trips before later way ado size frame read =
    run_by trips before later way ado size frame read.joined (one_counted read.joined) refl read.puts
    read.tells

-- ---- slaves

pub no_place : {P : Type 0} (heard : HeardTrips P) (before : WatchedState P) (cable : Located)
    → ArePlacesRead heard before cable 0 before
unfolding ArePlacesRead
no_place heard before cable = refl

one_place : {P : Type 0} (heard : HeardTrips P) (before now later : WatchedState P) (cable : Located)
    (place : ℕ) → ArePlacesRead heard before cable place now → IsPlaceRead heard now cable place later
    → ArePlacesRead heard before cable (suc place) later
unfolding ArePlacesRead
one_place heard before now later cable place reads read = (now, reads, read)

pub next_place : {P : Type 0} (heard : HeardTrips P) (before now later : WatchedState P) (cable : Located)
    (place next : ℕ) → ArePlacesRead heard before cable place now → IsPlaceRead heard now cable place later
    → next ≡ suc place → ArePlacesRead heard before cable next later
next_place heard before now later cable place next reads read is =
    subst (λ (n : ℕ). ArePlacesRead heard before cable n later) (sym is)
    (one_place heard before now later cable place reads read)
