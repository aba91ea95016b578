-- The numbers of trips, which stand beside them, and their marks.
use Rattle.std.proofs.Common.{◌≡◌, ℕ, suc, ◌+◌, ◌-◌, ◌<◌, ◌++◌, Bool, true, false, eqb, nat_lt, cond}
use Rattle.std.proofs.Common.{List, []}
use Rattle.std.proofs.Common.{◌∷◌, length, get_or, set, take, drop, remove, position, Option, None, Some, All}
use Rattle.std.proofs.Common.{map, refl, sym, ap, ◌∙◌, arith}
use Rattle.std.specs.List.{position_or_len, refill}
use Rattle.std.proofs.lemmas.Bool.{eqb-false, eqb-true, true≢false}
use Rattle.std.proofs.lemmas.Bool.Decides.{nat_tests}
use Rattle.std.proofs.lemmas.List.{drop_at, get_or-map, get_or-set_other, get_or-set_same, length-map}
use Rattle.std.proofs.lemmas.List.{length-take-le}
use Rattle.std.proofs.lemmas.List.{take_at, take_more}
use Rattle.std.proofs.lemmas.List.Edits.{length-remove}
use Rattle.std.proofs.lemmas.List.Elements.{All-append, All-cons, All-drop, All-take}
use Rattle.std.proofs.lemmas.List.Sums.{position_or_len_is}
use Rattle.ec_wire.specs.Datagram.{DatagramRecord}
use Rattle.ecat_trips.specs.declared.packet.Outline.{Outline}
use Rattle.ecat_trips.specs.declared.trip.Trip.{Trip}
use Rattle.ecat_trips.specs.Alike.{told_fast}
use Rattle.ecat_trips.specs.Queue.{number_of_trip}
use Rattle.ecat_trips.specs.Seen.{is_seen, slot}
use Rattle.ecat_trips.specs.Steps.{bears_trip}
use Rattle.ecat_trips.specs.Trip.{with_return, with_return_by}
use Rattle.ecat_trips.proofs.FastLemmas.{other_fast}

-- ---- what stands at a place goes to the front

plus_one : (i : ℕ) → i + 1 ≡ suc i
plus_one i = omega arith

-- after `xs[..i + 1].rotate_right(1)`
pub turned : {X : Type 0} (xs : List X) (i : ℕ) (d : X) (part ys : List X) → i < length xs
    → part ≡ take (i + 1) xs → ys ≡ drop (length part - 1) part ++ take (length part - 1) part
    → ys ++ drop (i + 1) xs ≡ get_or xs i d ∷ remove xs i
turned xs i d part ys inside cut turn =
    let x = get_or xs i d in
    let size : length part ≡ i + 1 = ap length cut ∙ length-take-le (i + 1) xs (omega arith) in
    let less : length part - 1 ≡ i = omega (arith, size) in
    let split : part ≡ take i xs ++ x ∷ [] = cut ∙ take_more xs i d inside in
    let front : length (take i xs) ≡ i = length-take-le i xs (omega arith) in
    let last : drop i part ≡ x ∷ [] = ap (drop i) split ∙ drop_at (take i xs) (x ∷ []) i front in
    let rest : take i part ≡ take i xs = ap (take i) split ∙ take_at (take i xs) (x ∷ []) i front in
    let new : ys ≡ x ∷ take i xs =
    turn ∙ ap (λ k. drop k part ++ take k part) less ∙ (λ t. last t ++ rest t) in
    ap (λ zs. zs ++ drop (i + 1) xs) new ∙ ap (λ k. x ∷ take i xs ++ drop k xs) (plus_one i)

-- what is handed back whole, with one thing in the place of another, takes the place of all
pub refilled : {X : Type 0} (n i : ℕ) (x : X) (xs ys : List X) → n ≡ length xs → i < length xs
    → ys ≡ x ∷ remove xs i → refill n xs ys ≡ x ∷ remove xs i
refilled n i x xs ys whole inside e =
    let less = length-remove xs i inside in
    let more : length ys ≡ suc (length (remove xs i)) = ap length e in
    take_at ys (drop (length ys) xs) n (omega (arith, whole, less, more)) ∙ e

-- ---- marks

-- a mark that is made stays
pub marked : (marks : List Bool) (n m : ℕ) → slot n < length marks → is_seen marks m ≡ true
    → is_seen (set marks (slot n) true) m ≡ true
marked marks n m within e = by (eqb (slot m) (slot n)) refl
  where
    by : (b : Bool) → eqb (slot m) (slot n) ≡ b → is_seen (set marks (slot n) true) m ≡ true
    by true h =
        ap (λ k. get_or (set marks (slot n) true) k false) (eqb-true (slot m) (slot n) h)
        ∙ get_or-set_same marks (slot n) true false within
    by false h = get_or-set_other marks (slot n) (slot m) true false (eqb-false (slot m) (slot n) h) ∙ e

-- with the mark of one number more all of them have theirs
pub all_marked : (old new : List Bool) (n : ℕ) (ns : List ℕ) → is_seen new n ≡ true
    → ((m : ℕ) → is_seen old m ≡ true → is_seen new m ≡ true) → All (λ m. is_seen old m ≡ true) ns
    → All (λ m. is_seen new m ≡ true) (n ∷ ns)
all_marked old new n ns own others h =
    All-cons (λ m. is_seen new m ≡ true) n ns own (λ k d inside. others (get_or ns k d) (h k d inside))

pub All-remove : {X : Type 0} (P : X → Type 0) (xs : List X) (i : ℕ) → All P xs → All P (remove xs i)
All-remove P xs i h = All-append P _ _ (All-take P i xs h) (All-drop P (suc i) xs h)

-- ---- the first that passes

below : (i n : ℕ) → i < n → nat_lt i n ≡ true
below i n less = grind (arith, nat_tests)

not_below : (n : ℕ) → nat_lt n n ≡ false
not_below n = grind (arith, nat_tests)

pub found_at : {X : Type 0} (p : X → Bool) (xs : List X) (i : ℕ) → i < length xs
    → ((k : ℕ) (d : X) → k < i → p (get_or xs k d) ≡ false) → ((d : X) → p (get_or xs i d) ≡ true)
    → position p xs ≡ Some i
found_at p [] i inside before here = absurd (omega arith)
found_at p (x ∷ xs) i inside before here =
    let at : position_or_len p (x ∷ xs) ≡ i =
    position_or_len_is p (x ∷ xs) i x (omega arith) (λ k less. before k x less) (λ _. here x) in
    ap (λ n. cond (nat_lt n (length (x ∷ xs))) (Some n) None) at
    ∙ ap (λ b. cond b (Some i) None) (below i (length (x ∷ xs)) inside)

pub found_none : {X : Type 0} (p : X → Bool) (xs : List X)
    → ((k : ℕ) (d : X) → k < length xs → p (get_or xs k d) ≡ false) → position p xs ≡ None
found_none p [] all = refl
found_none p (x ∷ xs) all =
    let n = length (x ∷ xs) in
    let at : position_or_len p (x ∷ xs) ≡ n =
    position_or_len_is p (x ∷ xs) n x (omega arith) (λ k less. all k x less) (λ less. absurd (omega arith)) in
    ap (λ k. cond (nat_lt k n) (Some k) None) at ∙ ap (λ b. cond b (Some n) None) (not_below n)

-- ---- numbers

-- a frame whose number is not that of a trip does not bear its key
pub other_number : (f : List DatagramRecord) (t : Trip) → (number_of_trip t ≡ told_fast f → ⊥)
    → bears_trip f t ≡ false
other_number f t other = other_fast f t.sent other

-- a frame whose number has no mark is none of those that have the numbers
pub unseen : {X : Type 0} (p : X → Bool) (number : X → ℕ) (marks : List Bool) (n : ℕ) (xs : List X)
    → ((x : X) → (number x ≡ n → ⊥) → p x ≡ false) → All (λ m. is_seen marks m ≡ true) (map number xs)
    → is_seen marks n ≡ false → position p xs ≡ None
unseen {X} p number marks n xs other all none =
    found_none p xs (λ k d inside. other (get_or xs k d) (λ e. differs k d inside e))
  where
    differs : (k : ℕ) (d : X) → k < length xs → number (get_or xs k d) ≡ n → ⊥
    differs k d inside e =
        let mark : is_seen marks (get_or (map number xs) k 0) ≡ true =
        all k 0 (omega (arith, length-map xs number)) in
        true≢false (sym mark ∙ ap (is_seen marks) (get_or-map number xs k d 0 inside ∙ e) ∙ none)

-- a trip keeps its number
pub return_number : (p : Outline) (f : List DatagramRecord) (t : Trip)
    → number_of_trip (with_return p f t) ≡ number_of_trip t
return_number p f t = by t.back
  where
    by : (b : Option Outline) → number_of_trip (with_return_by b p f t) ≡ number_of_trip t
    by None = refl
    by (Some q) = refl
