-- A datagram that names its slave by station passes a line of which one slave alone may have it: the pass of
-- the line is that of the one.
use Rattle.std.proofs.Common.{◌≡◌, ℕ, zero, suc, ◌<◌, ◌≤◌, Bool, List, [], ◌∷◌, ◌++◌}
use Rattle.std.proofs.Common.{length, take, drop, refl, sym, ap, ◌∙◌, arith, inl, inr, ◌%◌, ◌+◌}
use Rattle.std.specs.Prelude.{◌⊎◌}
use Rattle.std.specs.List.{AllByRecursion}
use Rattle.ec_regs.specs.Bits.{AreBytes}
use Rattle.ec_regs.proofs.Laws.{AreBytes-with_bits, length-with_bits}
use Rattle.ec_wire.specs.Command.{addressing}
use Rattle.ec_wire.specs.Datagram.{DatagramRecord, adp_of}
use Rattle.ec_esc.specs.State.{ControllerState}
use Rattle.ec_wire.specs.declared.command.Addressing.TheVariants.{ConfiguredStation}
use Rattle.ec_esc.specs.Pass.{Passed, pass, effect, gain_of, frame_pass}
use Rattle.ec_line.specs.Trip.{line_pass, PassedLine}
use Rattle.ec_over_ring.specs.Question.{IsOther}
use Rattle.ec_over_ring.proofs.PassLemmas.{other_pass, address_stays}

-- ---- a datagram on its way

-- it may have the circulating bit or not
pub record IsUnderway (d : DatagramRecord) : Type 0 where
  pub station : addressing d.command ≡ ConfiguredStation
  pub payload : AreBytes d.payload
  pub counter : d.counter < 65536

abbrev pub turned : Bool → DatagramRecord → DatagramRecord
turned b d = record d { circulating = b }

-- what a pass leaves of a datagram
pub record IsPassed (d e : DatagramRecord) : Type 0 where
  pub command : e.command ≡ d.command
  pub index : e.index ≡ d.index
  pub address : e.address ≡ d.address
  pub size : length e.payload ≡ length d.payload
  pub underway : IsUnderway e

pub passed_datagram : (c : ControllerState) (d : DatagramRecord) → IsUnderway d
    → IsPassed d (pass c d).datagram
unfolding pass
passed_datagram c d asked =
    let e = effect d.command c d.address (length d.payload) in
    record {
      command = refl;
      index = refl;
      address = address_stays d asked.station;
      size = length-with_bits d.payload c.memory e.reading.places;
      underway = record {
        station = asked.station;
        payload = AreBytes-with_bits d.payload c.memory e.reading.places;
        counter = let n : ℕ = d.counter + gain_of e in let inside : n % 65536 < 65536 = omega arith in inside;
      };
    }

-- a pass is the same whether the datagram circulates or not
pub turned_pass : (b : Bool) (c : ControllerState) (d : DatagramRecord)
    → pass c (turned b d) ≡ record { datagram = turned b (pass c d).datagram; state = (pass c d).state }
unfolding pass
turned_pass b c d = refl

-- ---- a line of others

-- others pass the datagram and stay
pub others_pass : (d : DatagramRecord) (xs : List ControllerState) → IsUnderway d
    → AllByRecursion (IsOther d) xs
    → line_pass xs (d ∷ []) ≡ record { frame = d ∷ []; line = xs }
unfolding line_pass frame_pass
others_pass d [] asked others = refl
others_pass d (x ∷ xs) asked others =
    ap (λ (p : Passed). record {
      frame = (line_pass xs (p.datagram ∷ [])).frame;
      line = p.state ∷ (line_pass xs (p.datagram ∷ [])).line;
    }) (other_pass x d asked.station asked.payload asked.counter others.0)
    ∙ ap (λ (p : PassedLine). record { frame = p.frame; line = x ∷ p.line }) (others_pass d xs asked others.1)

-- who is another for a datagram is another for what a pass leaves of it
pub others_last : (d e : DatagramRecord) (xs : List ControllerState) → e.address ≡ d.address
    → AllByRecursion (IsOther d) xs → AllByRecursion (IsOther e) xs
others_last d e [] same others = tt
others_last d e (x ∷ xs) same others = (
  record { controller = others.0.controller; station = λ is. others.0.station (sym (ap adp_of same) ∙ is) },
  others_last d e xs same others.1,
)

-- ---- a line of which one is asked

-- the pass of the line is that of the one who is asked
pub one_pass : (d : DatagramRecord) (before : List ControllerState) (c : ControllerState)
    (behind : List ControllerState)
    → IsUnderway d → AllByRecursion (IsOther d) before → AllByRecursion (IsOther d) behind
    → line_pass (before ++ c ∷ behind) (d ∷ [])
    ≡ record { frame = (pass c d).datagram ∷ []; line = before ++ (pass c d).state ∷ behind }
unfolding line_pass frame_pass
one_pass d [] c behind asked first last =
    let e = (pass c d).datagram in
    let passed : IsPassed d e = passed_datagram c d asked in
    ap (λ (p : PassedLine). record { frame = p.frame; line = (pass c d).state ∷ p.line })
    (others_pass e behind passed.underway (others_last d e behind passed.address last))
one_pass d (x ∷ before) c behind asked first last =
    ap (λ (p : Passed). record {
      frame = (line_pass (before ++ c ∷ behind) (p.datagram ∷ [])).frame;
      line = p.state ∷ (line_pass (before ++ c ∷ behind) (p.datagram ∷ [])).line;
    }) (other_pass x d asked.station asked.payload asked.counter first.0)
    ∙ ap (λ (p : PassedLine). record { frame = p.frame; line = x ∷ p.line })
    (one_pass d before c behind asked first.1 last)

-- ---- the place of the break

-- the one stands in the first m of a line
pub record IsInFront (m : ℕ) (before : List ControllerState) (c : ControllerState)
    (behind : List ControllerState) : Type 0 where
  pub count : ℕ
  pub inside : length before < m
  pub front : take m (before ++ c ∷ behind) ≡ before ++ c ∷ take count behind
  pub back : drop m (before ++ c ∷ behind) ≡ drop count behind

-- or behind them
pub record IsBehind (m : ℕ) (before : List ControllerState) (c : ControllerState)
    (behind : List ControllerState) : Type 0 where
  pub inside : m ≤ length before
  pub front : take m (before ++ c ∷ behind) ≡ take m before
  pub back : drop m (before ++ c ∷ behind) ≡ drop m before ++ c ∷ behind

pub placed : (m : ℕ) (before : List ControllerState) (c : ControllerState) (behind : List ControllerState)
    → IsInFront m before c behind ⊎ IsBehind m before c behind
placed zero before c behind =
    inr (record { inside = omega arith; front = refl; back = refl })
placed (suc m) [] c behind =
    inl (record { count = m; inside = omega arith; front = refl; back = refl })
placed (suc m) (x ∷ before) c behind = elim (placed m before c behind) [
  | inl p ↦ inl (record {
    count = p.count;
    inside = let i : length before < m = p.inside in omega (arith, i);
    front = ap (λ (xs : List ControllerState). x ∷ xs) p.front;
    back = p.back;
  })
  | inr p ↦ inr (record {
    inside = let i : m ≤ length before = p.inside in omega (arith, i);
    front = ap (λ (xs : List ControllerState). x ∷ xs) p.front;
    back = p.back;
  })
]
