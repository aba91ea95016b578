-- Two answers differ in none of the three things exactly where they are alike.
use Rattle.std.proofs.Common.{◌≡◌, ◌∙◌, ⊎_elim, ℕ, ◌+◌, Bool, true, false, cond, not, refl, sym, ap}
use Rattle.std.proofs.Common.{arith, eqb, nat_lt, List, [], ◌∷◌, length, Option, None, Some}
use Rattle.std.specs.Prelude.{zip}
use Rattle.std.specs.List.{position_or_len}
use Rattle.std.specs.Option.{option_map}
use Rattle.std.proofs.lemmas.Bool.{cases_Bool}
use Rattle.std.proofs.lemmas.Bool.Decides.{nat_tests}
use Rattle.ec_wire.specs.Command.{counts_adp}
use Rattle.ec_wire.specs.Datagram.{DatagramRecord}
use Rattle.ecat_replay.specs.declared.difference.Difference.{Difference}
use Rattle.ecat_replay.specs.declared.difference.Kind.{Kind}
use Rattle.ecat_replay.specs.declared.difference.Kind.TheVariants.{Counter, Passed}
use Rattle.ecat_replay.specs.declared.part.Part.{Part}
use Rattle.ecat_replay.specs.Differences.{AreAlike, by_counter, by_data, by_passed, bytes_at, difference_of}
use Rattle.ecat_trips.specs.Copies.{grown, moved}
use Rattle.ecat_replay.specs.Differences.{differing, first_of, has_data, other_byte}

-- the place of the first pair whose values differ, or their number
abbrev place : List ℕ → List ℕ → ℕ
place xs ys = position_or_len (λ (pair : ℕ × ℕ). not (eqb pair.0 pair.1)) (zip xs ys)

place-same : (xs : List ℕ) → place xs xs ≡ length (zip xs xs)
place-same [] = refl
place-same (x ∷ xs) =
    let e : eqb x x ≡ true = grind (arith, nat_tests) in
    let here : place (x ∷ xs) (x ∷ xs) ≡ 1 + place xs xs =
    ap (λ (b : Bool). cond (not (not b)) (1 + place xs xs) 0) e in
    omega (arith, here, place-same xs)

place-end : (xs ys : List ℕ) → length xs ≡ length ys → nat_lt (place xs ys) (length (zip xs ys)) ≡ false
    → xs ≡ ys
place-end [] [] same none = refl
place-end [] (y ∷ ys) same none = absurd (omega (arith, same))
place-end (x ∷ xs) [] same none = absurd (omega (arith, same))
place-end (x ∷ xs) (y ∷ ys) same none =
    ⊎_elim
    (λ (equal : eqb x y ≡ true).
    let here : place (x ∷ xs) (y ∷ ys) ≡ 1 + place xs ys =
    ap (λ (b : Bool). cond (not (not b)) (1 + place xs ys) 0) equal in
    let rest : nat_lt (place xs ys) (length (zip xs ys)) ≡ false = grind (arith, nat_tests, here, none) in
    let head : x ≡ y = grind (arith, nat_tests, equal) in
    ap (λ (n : ℕ). n ∷ xs) head ∙ ap (λ (ns : List ℕ). y ∷ ns) (place-end xs ys (omega (arith, same)) rest))
    (λ (other : eqb x y ≡ false).
    let here : place (x ∷ xs) (y ∷ ys) ≡ 0 =
    ap (λ (b : Bool). cond (not (not b)) (1 + place xs ys) 0) other in
    absurd (grind (arith, nat_tests, here, none)))
    (cases_Bool (eqb x y))

-- the same data have no byte that differs
pub other_byte-same : (xs : List ℕ) → other_byte xs xs ≡ None
unfolding other_byte
other_byte-same xs =
    let test : nat_lt (place xs xs) (length (zip xs xs)) ≡ false =
    grind (arith, nat_tests, place-same xs) in
    ap (λ (b : Bool). option_map (bytes_at xs xs) (cond b (Some (place xs xs)) None)) test

-- data of one length in which none differs are the same
pub other_byte-none : (xs ys : List ℕ) → length xs ≡ length ys → other_byte xs ys ≡ None → xs ≡ ys
unfolding other_byte
other_byte-none xs ys same none =
    ⊎_elim
    (λ (inside : nat_lt (place xs ys) (length (zip xs ys)) ≡ true).
    let found : Some (bytes_at xs ys (place xs ys)) ≡ None =
    sym (ap (λ (b : Bool). option_map (bytes_at xs ys) (cond b (Some (place xs ys)) None)) inside) ∙ none in
    absurd (cc))
    (λ (outside : nat_lt (place xs ys) (length (zip xs ys)) ≡ false). place-end xs ys same outside)
    (cases_Bool (nat_lt (place xs ys) (length (zip xs ys))))

-- values of which no difference is told are the same
differing-none : (kind : Kind) (a b : ℕ) → differing kind a b ≡ None → a ≡ b
differing-none kind a b none =
    ⊎_elim
    (λ (equal : eqb a b ≡ true). grind (arith, nat_tests, equal))
    (λ (other : eqb a b ≡ false).
    let found : Some (record { kind = kind; there = a; here = b }) ≡ None =
    sym (ap (λ (t : Bool). cond t None (Some (told kind a b))) other) ∙ none in
    absurd (cc))
    (cases_Bool (eqb a b))
  where
    told : Kind → ℕ → ℕ → Difference
    told kind a b = record { kind = kind; there = a; here = b }

differing-same : (kind : Kind) (a b : ℕ) → a ≡ b → differing kind a b ≡ None
differing-same kind a b same =
    let e : eqb a b ≡ true = grind (arith, nat_tests, same) in
    ap (λ (t : Bool). cond t None (Some (told kind a b))) e
  where
    told : Kind → ℕ → ℕ → Difference
    told kind a b = record { kind = kind; there = a; here = b }

-- there is no first one where there is none
first-none : (a b c : Option Difference) → first_of (a ∷ b ∷ c ∷ []) ≡ None
    → (a ≡ None) × (b ≡ None) × (c ≡ None)
first-none None None None none = (refl, refl, refl)
first-none None None (Some d) none = absurd (cc)
first-none None (Some d) c none = absurd (cc)
first-none (Some d) b c none = absurd (cc)

first-of_none : (a b c : Option Difference) → a ≡ None → b ≡ None → c ≡ None
    → first_of (a ∷ b ∷ c ∷ []) ≡ None
first-of_none a b c x y z = rw x (rw y (rw z refl))

where_asked : (b : Bool) (o : Option Difference) → cond b o None ≡ None → b ≡ true → o ≡ None
where_asked b o none asked = sym (ap (λ (t : Bool). cond t o None) asked) ∙ none

unless_asked : (b : Bool) (o : Option Difference) → (b ≡ true → o ≡ None) → cond b o None ≡ None
unless_asked true o none = none refl
unless_asked false o none = refl

pub alike-none : (sent there here : DatagramRecord) (part : Part) (mailbox : Option ℕ)
    → length there.payload ≡ length here.payload
    → difference_of sent there here part mailbox ≡ None → AreAlike sent there here part mailbox
unfolding difference_of
alike-none sent there here part mailbox same none =
    let each = first-none (by_counter sent there here) (by_passed sent there here part)
    (by_data there here part mailbox) none in
    record {
      counters = differing-none Counter (moved sent there) (moved sent here) each.0;
      passed = λ counts. differing-none Passed (grown sent there) (grown sent here)
          (where_asked (counts_adp part.command) _ each.1 counts);
      data_bytes = λ compared. other_byte-none there.payload here.payload same
          (where_asked (has_data part mailbox) _ each.2 compared);
    }

pub none-alike : (sent there here : DatagramRecord) (part : Part) (mailbox : Option ℕ)
    → AreAlike sent there here part mailbox → difference_of sent there here part mailbox ≡ None
unfolding difference_of
none-alike sent there here part mailbox alike =
    first-of_none (by_counter sent there here) (by_passed sent there here part)
    (by_data there here part mailbox)
    (differing-same Counter (moved sent there) (moved sent here) alike.counters)
    (unless_asked (counts_adp part.command) _
    (λ counts. differing-same Passed (grown sent there) (grown sent here) (alike.passed counts)))
    (unless_asked (has_data part mailbox) _
    (λ compared. ap (λ (bytes : List ℕ). other_byte there.payload bytes) (sym (alike.data_bytes compared))
    ∙ other_byte-same there.payload))
