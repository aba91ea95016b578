-- A station address is written to the slave at a place of a line: those before it count the ADP up to 0, it
-- takes the address, and those behind it find more than 0.
use Rattle.std.proofs.Common.{◌≡◌, ℕ, suc, ◌+◌, ◌%◌, ◌<◌, ◌≤◌, List, [], ◌∷◌, ◌++◌, length}
use Rattle.std.proofs.Common.{ap, ◌∙◌, arith}
use Rattle.std.specs.List.{AllByRecursion}
use Rattle.ec_esc.specs.State.{ControllerState, IsController}
use Rattle.ec_esc.specs.Pass.{Passed, frame_pass}
use Rattle.ec_line.specs.Trip.{PassedLine, line_pass}
use Rattle.ec_services.specs.Stations.{adp_of_place}
use Rattle.ec_over_ring.specs.Stations.{restationed}
use Rattle.ec_over_ring.proofs.StationWriteLemmas.{meant_pass, passed_by, write_at}

-- a line behind one pass
abbrev pub behind_pass : List ControllerState → Passed → PassedLine
behind_pass xs p = record {
  frame = (line_pass xs (p.datagram ∷ [])).frame;
  line = p.state ∷ (line_pass xs (p.datagram ∷ [])).line;
}

-- slaves behind the one that was meant let the write pass
pub passed_line : (xs : List ControllerState) (adp station : ℕ) → AllByRecursion IsController xs
    → 1 ≤ adp → adp + length xs < 65536
    → line_pass xs (write_at adp station 1 ∷ [])
    ≡ record { frame = write_at (adp + length xs) station 1 ∷ []; line = xs }
unfolding line_pass frame_pass
passed_line [] adp station controllers some small =
    let same : adp ≡ adp + 0 = omega arith in
    ap (λ (a : ℕ). record { frame = write_at a station 1 ∷ []; line = [] }) same
passed_line (x ∷ xs) adp station controllers some small =
    let next : (adp + 1) % 65536 ≡ adp + 1 = omega (arith, small) in
    let same : adp + 1 + length xs ≡ adp + length (x ∷ xs) = omega arith in
    ap (behind_pass xs)
    (passed_by x adp station 1 controllers.0 some (omega (arith, small)) (omega arith))
    ∙ ap (λ (a : ℕ). behind_pass xs (record { datagram = write_at a station 1; state = x })) next
    ∙ ap (λ (p : PassedLine). record { frame = p.frame; line = x ∷ p.line })
    (passed_line xs (adp + 1) station controllers.1 (omega arith) (omega (arith, small)))
    ∙ ap (λ (a : ℕ). record { frame = write_at a station 1 ∷ []; line = x ∷ xs }) same

-- the slave at its place takes it
pub placed_line : (before : List ControllerState) (c : ControllerState) (behind : List ControllerState)
    (station : ℕ) → AllByRecursion IsController (before ++ c ∷ behind)
    → length before + length behind < 65535
    → line_pass (before ++ c ∷ behind) (write_at (adp_of_place (length before)) station 0 ∷ [])
    ≡ record {
      frame = write_at (1 + length behind) station 1 ∷ [];
      line = before ++ restationed c station ∷ behind;
    }
unfolding line_pass frame_pass
placed_line [] c behind station controllers small =
    ap (behind_pass behind) (meant_pass c station 0 controllers.0)
    ∙ ap (λ (p : PassedLine). record { frame = p.frame; line = restationed c station ∷ p.line })
    (passed_line behind 1 station controllers.1 (omega arith) (omega (arith, small)))
placed_line (x ∷ before) c behind station controllers small =
    let n : ℕ = length before in
    let adp : ℕ = adp_of_place (suc n) in
    let some : 1 ≤ adp = omega (arith, small) in
    let low : adp < 65536 = omega arith in
    let next : (adp + 1) % 65536 ≡ adp_of_place n = omega (arith, small) in
    ap (behind_pass (before ++ c ∷ behind)) (passed_by x adp station 0 controllers.0 some low (omega arith))
    ∙ ap (λ (a : ℕ). behind_pass (before ++ c ∷ behind)
    (record { datagram = write_at a station 0; state = x })) next
    ∙ ap (λ (p : PassedLine). record { frame = p.frame; line = x ∷ p.line })
    (placed_line before c behind station controllers.1 (omega (arith, small)))
