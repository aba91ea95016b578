-- The test for too much text behind a head.
use Rattle.std.proofs.Common.{◌≡◌, ℕ, ◌+◌, ◌≤◌, nat_lt, Bool, false, List, ◌++◌, length, refl, sym, ◌∙◌, arith}
use Rattle.std.proofs.Common.{Option, Some, None}
use Rattle.std.proofs.lemmas.Bool.Decides.{nat_tests}
use Rattle.ec_io.specs.declared.fault.PacketFault.{PacketFault}
use Rattle.ec_io.specs.Fault.{first_of, front_tests, front_fault}
use Rattle.ec_io.specs.Text.{most_text}
use Rattle.ec_io.proofs.ByteLemmas.{first_of-append_some}

-- bytes that pass have no more text than there may be
pub text_test-false : (size : ℕ) (bytes : List ℕ) → nat_lt (size + most_text) (length bytes) ≡ false
    → length bytes ≤ size + most_text
text_test-false size bytes e = grind (arith, nat_tests)

-- and the other way round
pub false-text_test : (size : ℕ) (bytes : List ℕ) → length bytes ≤ size + most_text
    → nat_lt (size + most_text) (length bytes) ≡ false
false-text_test size bytes few = grind (arith, nat_tests)

-- bytes that pass all tests pass those of their front
pub front-good : (size kind : ℕ) (bytes : List ℕ) (us : List (Bool × PacketFault))
    → first_of (front_tests size kind bytes ++ us) ≡ None → front_fault size kind bytes ≡ None
unfolding front_fault
front-good size kind bytes us none = by_fault (first_of (front_tests size kind bytes)) refl
  where
    by_fault : (o : Option PacketFault) → first_of (front_tests size kind bytes) ≡ o
        → first_of (front_tests size kind bytes) ≡ None
    by_fault None is = is
    by_fault (Some f) is = absurd (let bad : None ≡ Some f =
        sym none ∙ first_of-append_some (front_tests size kind bytes) us f is in cc)
