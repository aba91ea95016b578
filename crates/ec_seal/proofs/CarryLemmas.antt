-- The datagram that bears a number goes through a controller, and leaves it; a line of controllers stays one.
use Rattle.std.specs.Prelude.{◌≡◌, ◌<◌, ℕ, zero, suc, ◌/◌, ◌%◌, Bool}
use Rattle.std.specs.Prelude.{List, [], ◌∷◌, take, drop, None, refl}
use Rattle.std.specs.List.{AllByRecursion}
use Rattle.std.specs.Int.{w64, to_le_bytes}
use Rattle.std.proofs.Common.{arith, ap, ◌∙◌, get_or}
use Rattle.ec_regs.specs.Bits.{AreBytes, with_bits}
use Rattle.ec_regs.proofs.Laws.{with_bits_none, each-take, each-drop}
use Rattle.ec_regs.proofs.Laws.{each-append}
use Rattle.ec_wire.specs.Datagram.{DatagramRecord, Fits}
use Rattle.ec_seal.specs.Trips.{CountersFit}
use Rattle.std.specs.Prelude.{All}
use Rattle.std.proofs.lemmas.List.Elements.{All-head, All-tail}
use Rattle.ec_esc.specs.Pass.{Passed, pass, frame_pass}
use Rattle.ec_esc.specs.Pass.{nothing, written_by, read_by}
use Rattle.ec_esc.specs.State.{ControllerState, IsController}
use Rattle.ec_esc.proofs.Laws.{written_nothing, frame_is}
use Rattle.ec_line.specs.Trip.{line_pass, front_pass, back_pass}
use Rattle.ec_number.specs.Number.{carrying}

-- ---- bytes

bytes_more : (x : ℕ) (xs : List ℕ) → x < 256 → AreBytes xs → AreBytes (x ∷ xs)
bytes_more x xs small all k =
    let P : ℕ → Type 0 = λ j. get_or (x ∷ xs) j 0 < 256 in
    elim k as P [ zero ↦ small | suc j ↦ all j ]

-- the eight bytes of a number
number_bytes : (n : ℕ) → AreBytes (to_le_bytes w64 n)
number_bytes n =
    let b8 : AreBytes [] = λ k. omega arith in
    let l7 : List ℕ = n / 72057594037927936 % 256 ∷ [] in
    let b7 : AreBytes l7 = bytes_more (n / 72057594037927936 % 256) [] (omega arith) b8 in
    let l6 : List ℕ = n / 281474976710656 % 256 ∷ l7 in
    let b6 : AreBytes l6 = bytes_more (n / 281474976710656 % 256) l7 (omega arith) b7 in
    let l5 : List ℕ = n / 1099511627776 % 256 ∷ l6 in
    let b5 : AreBytes l5 = bytes_more (n / 1099511627776 % 256) l6 (omega arith) b6 in
    let l4 : List ℕ = n / 4294967296 % 256 ∷ l5 in
    let b4 : AreBytes l4 = bytes_more (n / 4294967296 % 256) l5 (omega arith) b5 in
    let l3 : List ℕ = n / 16777216 % 256 ∷ l4 in
    let b3 : AreBytes l3 = bytes_more (n / 16777216 % 256) l4 (omega arith) b4 in
    let l2 : List ℕ = n / 65536 % 256 ∷ l3 in
    let b2 : AreBytes l2 = bytes_more (n / 65536 % 256) l3 (omega arith) b3 in
    let l1 : List ℕ = n / 256 % 256 ∷ l2 in
    let b1 : AreBytes l1 = bytes_more (n / 256 % 256) l2 (omega arith) b2 in
    bytes_more (n % 256) l1 (omega arith) b1

-- ---- lines of controllers

abbrev pub AreControllers : List ControllerState → Type 0
AreControllers line = AllByRecursion IsController line

pub line_is : (line : List ControllerState) (ds : List DatagramRecord) → AreControllers line
    → AreControllers (line_pass line ds).line
unfolding line_pass
line_is [] ds all = tt
line_is (x ∷ xs) ds all = (frame_is x ds all.0, line_is xs (frame_pass x ds).frame all.1)

pub front_is : (n : ℕ) (line : List ControllerState) (ds : List DatagramRecord) → AreControllers line
    → AreControllers (front_pass n line ds).line
front_is n line ds all =
    each-append IsController (line_pass (take n line) ds).line (drop n line)
    (line_is (take n line) ds (each-take IsController n line all)) (each-drop IsController n line all)

pub back_is : (n : ℕ) (line : List ControllerState) (ds : List DatagramRecord) → AreControllers line
    → AreControllers (back_pass n line ds).line
back_is n line ds all =
    each-append IsController (take n line) (line_pass (drop n line) ds).line (each-take IsController n line all)
    (line_is (drop n line) ds (each-drop IsController n line all))

-- ---- the datagram that carries a number

-- it goes through a controller, and leaves it
pub pass_carrying : (c : ControllerState) (circulating : Bool) (n : ℕ) → IsController c
    → pass c (carrying circulating n) ≡ record { datagram = carrying circulating n; state = c }
unfolding pass carrying
pass_carrying c circulating n is =
    let payload : List ℕ = to_le_bytes w64 n in
    let kept : with_bits payload c.memory (λ _. None) ≡ payload =
    with_bits_none payload c.memory (λ _. None) (number_bytes n) (λ i inside. refl) in
    let behind : List ℕ → ControllerState → Passed = λ bytes s. record {
      datagram = record (carrying circulating n) { payload = bytes };
      state = s;
    } in
    ap (λ (bytes : List ℕ). behind bytes (read_by nothing (written_by nothing payload c))) kept
    ∙ ap (λ (s : ControllerState). behind payload (read_by nothing s)) (written_nothing c payload is)

-- ---- counters

-- those of every frame have 16 bits
pub fit_counters : (ds : List DatagramRecord) → All Fits ds → CountersFit ds
fit_counters [] fit = tt
fit_counters (d ∷ ds) fit =
    let first : Fits d = All-head Fits d ds fit in
    (first.counter, fit_counters ds (All-tail Fits d ds fit))
