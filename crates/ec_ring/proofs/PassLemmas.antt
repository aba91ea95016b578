-- A frame that passes slaves one after the other passes a piece of their controllers' line.
use Rattle.std.specs.Prelude.{◌≡◌, ℕ, zero, suc, ◌+◌, ◌<◌, List, [], ◌∷◌, ◌++◌}
use Rattle.std.specs.Prelude.{length, take, drop, true, refl}
use Rattle.std.proofs.Common.{arith, ap, sym, get_or, set, add-one}
use Rattle.std.proofs.lemmas.List.{take_rest, append-nil}
use Rattle.std.proofs.Math.Seq.{drop-length}
use native.Mathlib.Nat.{add-suc, suc-add, sub-zero}
use Rattle.ec_app.specs.Lending.{with_controller}
use Rattle.ec_app.specs.State.{SlaveState}
use Rattle.ec_esc.specs.Pass.{frame_pass}
use Rattle.ec_esc.specs.State.{ControllerState}
use Rattle.ec_line.specs.Trip.{line_pass, front_pass, back_pass}
use Rattle.ec_ring.proofs.MapLemmas.{map_from}
use Rattle.ec_ring.specs.Ring.{controllers, with_controllers}
use Rattle.ec_ring.specs.Walk.{piece_pass}
use Rattle.ec_wire.specs.Datagram.{DatagramRecord}

-- slaves that a frame has passed, and the frame
pub record PassedSlaves : Type 0 where
  pub slaves : List SlaveState
  pub frame : List DatagramRecord

-- behind one more slave, which they do not reach
abbrev beside : SlaveState → PassedSlaves → PassedSlaves
beside s p = record { slaves = s ∷ p.slaves; frame = p.frame }

-- some slaves from a place on are passed
pub places_pass : ℕ → ℕ → List SlaveState → List DatagramRecord → PassedSlaves
places_pass from m [] f = record { slaves = []; frame = f }
places_pass zero zero (s ∷ ss) f = record { slaves = s ∷ ss; frame = f }
places_pass zero (suc m) (s ∷ ss) f =
    let p = frame_pass s.controller f in
    let rest = places_pass zero m ss p.frame in
    record { slaves = with_controller s p.state ∷ rest.slaves; frame = rest.frame }
places_pass (suc from) m (s ∷ ss) f =
    let rest = places_pass from m ss f in
    record { slaves = s ∷ rest.slaves; frame = rest.frame }

-- the first of them is passed
abbrev pub passed_at : ℕ → List SlaveState → List DatagramRecord → SlaveState → List SlaveState
passed_at k ss f d =
    let s = get_or ss k d in set ss k (with_controller s (frame_pass s.controller f).state)

pub places_pass-suc : (k m : ℕ) (ss : List SlaveState) (f : List DatagramRecord) (d : SlaveState)
    → k < length ss
    → places_pass (suc k) m (passed_at k ss f d) (frame_pass (get_or ss k d).controller f).frame
    ≡ places_pass k (suc m) ss f
unfolding places_pass
places_pass-suc k m [] f d h = absurd (omega (arith, h))
places_pass-suc zero m (s ∷ ss) f d h = refl
places_pass-suc (suc k) m (s ∷ ss) f d h =
    ap (beside s) (places_pass-suc k m ss f d (omega (arith, h)))

pub places_pass-next : (k m : ℕ) (ss : List SlaveState) (f : List DatagramRecord) (d : SlaveState)
    → k < length ss
    → places_pass (k + 1) m (passed_at k ss f d) (frame_pass (get_or ss k d).controller f).frame
    ≡ places_pass k (suc m) ss f
places_pass-next k m ss f d h = rw add-one (places_pass-suc k m ss f d h)

-- none are left to pass
pub places_pass-none : (k : ℕ) (ss : List SlaveState) (f : List DatagramRecord)
    → places_pass k zero ss f ≡ record { slaves = ss; frame = f }
unfolding places_pass
places_pass-none k [] f = refl
places_pass-none zero (s ∷ ss) f = refl
places_pass-none (suc k) (s ∷ ss) f = ap (beside s) (places_pass-none k ss f)

-- slaves with their own controllers
pub with_controllers-controllers : (ss : List SlaveState) → with_controllers ss (controllers ss) ≡ ss
with_controllers-controllers [] = refl
with_controllers-controllers (s ∷ ss) =
    ap (λ (xs : List SlaveState). s ∷ xs) (with_controllers-controllers ss)

-- no line
abbrev nobody : List ControllerState
nobody = []

take-drop-nil : (from m : ℕ) → take m (drop from nobody) ≡ []
take-drop-nil zero zero = refl
take-drop-nil zero (suc m) = refl
take-drop-nil (suc from) zero = refl
take-drop-nil (suc from) (suc m) = refl

-- the places as a piece of the line
pub record IsPiece (from m : ℕ) (ss : List SlaveState) (f : List DatagramRecord) : Type 0 where
  pub slaves : (places_pass from m ss f).slaves ≡ with_controllers ss
      (take from (controllers ss) ++ (line_pass (take m (drop from (controllers ss))) f).line
      ++ drop (from + m) (controllers ss))
  pub frame : (places_pass from m ss f).frame ≡ (line_pass (take m (drop from (controllers ss))) f).frame

pub places_piece : (from m : ℕ) (ss : List SlaveState) (f : List DatagramRecord) → IsPiece from m ss f
unfolding places_pass line_pass
places_piece from m [] f = record { slaves = refl; frame = rw (take-drop-nil from m) refl }
places_piece zero zero (s ∷ ss) f =
    record { slaves = sym (with_controllers-controllers (s ∷ ss)); frame = refl }
places_piece zero (suc m) (s ∷ ss) f =
    let p = frame_pass s.controller f in
    let rest = places_piece zero m ss p.frame in
    record {
      slaves =
          rw (add-suc zero m) (ap (λ (xs : List SlaveState). with_controller s p.state ∷ xs) rest.slaves);
      frame = rest.frame;
    }
places_piece (suc from) m (s ∷ ss) f =
    let rest = places_piece from m ss f in
    record {
      slaves = rw (suc-add from m) (ap (λ (xs : List SlaveState). s ∷ xs) rest.slaves);
      frame = rest.frame;
    }

-- ---- circulating bits

-- from a place on each datagram circulates
abbrev pub circulating_from : ℕ → List DatagramRecord → List DatagramRecord
circulating_from k ds = map_from (λ (d : DatagramRecord). record d { circulating = true }) k ds

-- ---- pieces that are whole

pub piece_pass-front : (n : ℕ) (line : List ControllerState) (f : List DatagramRecord)
    → piece_pass 0 n line f ≡ front_pass n line f
piece_pass-front n line f = rw (sub-zero n) refl

pub piece_pass-back : (n : ℕ) (line : List ControllerState) (f : List DatagramRecord)
    → piece_pass n (length line) line f ≡ back_pass n line f
piece_pass-back n line f =
    rw (take_rest line n, drop-length line, append-nil (take n line ++ (line_pass (drop n line) f).line)) refl
