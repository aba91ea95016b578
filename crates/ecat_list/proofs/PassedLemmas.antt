-- What is counted of a frame, one datagram after the other.
use Rattle.std.proofs.Common.{◌≡◌, ℕ, ◌+◌, Bool, List, [], ◌∷◌, ◌++◌, ap, sym, ◌∙◌, add-one}
use Rattle.std.proofs.lemmas.List.{append-nil, append_assoc}
use Rattle.ec_wire.specs.Datagram.{DatagramRecord, nth}
use Rattle.ecat_list.specs.Passed.{firsts_of, passed_of}
use Rattle.ecat_list.specs.declared.passed.Passed.{Passed}
use Rattle.ecat_list.specs.declared.passed.Seen.{Seen}

module _ (by_index : Bool) (seen : Seen) (sent came : List DatagramRecord) where
  -- no datagram
  pub firsts_none : (all : List Passed) → all ≡ all ++ firsts_of by_index seen sent came 0
  unfolding firsts_of
  firsts_none all = sym (append-nil all)

  -- one datagram more
  pub firsts_more : (all : List Passed) (k : ℕ) (p : Passed)
      → p ≡ passed_of by_index seen (nth sent k) (nth came k)
      → (all ++ firsts_of by_index seen sent came k) ++ p ∷ []
      ≡ all ++ firsts_of by_index seen sent came (k + 1)
  unfolding firsts_of
  firsts_more all k p is =
      append_assoc all (firsts_of by_index seen sent came k) (p ∷ [])
      ∙ ap (λ xs. all ++ xs) (ap (λ q. firsts_of by_index seen sent came k ++ q ∷ []) is
      ∙ sym (ap (firsts_of by_index seen sent came) (add-one k)))
