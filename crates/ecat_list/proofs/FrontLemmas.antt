-- Texts that are the beginning of others.
use Rattle.std.proofs.Common.{◌≡◌, ℕ, sym, ap, ◌∙◌, List, ◌++◌, take, drop, cond, is_ok}
use Rattle.std.proofs.Common.{Result, Ok, Err, OnErr}
use Rattle.std.proofs.lemmas.List.{append_assoc, take-append-drop}
use Rattle.ecat_list.specs.Front.{IsFront}

-- of what a text is the front, of that it is the front with more behind it
pub front_of_more : (xs text more : List ℕ) → IsFront xs text → IsFront xs (text ++ more)
front_of_more xs text more front = record {
  missing = front.missing ++ more;
  is = sym (append_assoc xs front.missing more) ∙ ap (λ t. t ++ more) front.is;
}

-- at an error, where what holds then holds anyway
pub on_err : {T E P : Type 0} (r : Result T E) → P → OnErr r P
on_err (Ok value) given = tt
on_err (Err error) given = given

-- what is put at the end of a text at once is there, or nothing of it is
pub front_unless : {T E : Type 0} (r : Result T E) (now old more : List ℕ)
    → now ≡ cond (is_ok r) (old ++ more) old → OnErr r (IsFront now (old ++ more))
front_unless (Ok value) now old more is = tt
front_unless (Err error) now old more is = record { missing = more; is = ap (λ t. t ++ more) is }

-- the first bytes behind a text
pub front_of_bytes : (now old bs : List ℕ) (k : ℕ) → now ≡ old ++ take k bs → IsFront now (old ++ bs)
front_of_bytes now old bs k is = record {
  missing = drop k bs;
  is = ap (λ t. t ++ drop k bs) is ∙ append_assoc old (take k bs) (drop k bs)
      ∙ ap (λ t. old ++ t) (take-append-drop k bs);
}
