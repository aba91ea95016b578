-- The items of a work: those that its array holds, those that have taken answers, and those that begin a
-- round.
use Rattle.std.proofs.Common.{◌≡◌, ℕ, zero, suc, ◌+◌, ◌<◌, ◌≤◌, ◌∙◌, arith, ap, sym, refl, suc-add, zero-add}
use Rattle.std.proofs.Common.{List, [], ◌∷◌, ◌++◌, length, map, take, drop, get_or, set, Some}
use Rattle.std.proofs.lemmas.List.{get_or-take, length-take-le}
use Rattle.std.proofs.lemmas.Option.{slice_get-get_or}
use Rattle.std.specs.List.{slice_get}
use Rattle.ec_wire.specs.Datagram.{DatagramRecord, nth}
use Rattle.ec_map.specs.Item.{ItemRecord}
use Rattle.ec_master.specs.Work.{with_answer, with_answers, with_answers_at}

-- ---- the front of the array

-- the element at a place of the front is that of the whole
pub front-get : {X : Type 0} (n : ℕ) (xs : List X) (k : ℕ) (d : X) → n ≤ length xs → k < n
    → slice_get (take n xs) k ≡ Some (get_or xs k d)
front-get n xs k d h below =
    slice_get-get_or (take n xs) k d (omega (arith, below, length-take-le n xs h))
    ∙ ap Some (get_or-take n xs k d below)

-- ---- answers

pub with_answers-none : (rs : List ItemRecord) → with_answers rs [] ≡ rs
with_answers-none [] = refl
with_answers-none (r ∷ rs) = refl

pub length-with_answers : (rs : List ItemRecord) (ds : List DatagramRecord)
    → length (with_answers rs ds) ≡ length rs
length-with_answers [] ds = refl
length-with_answers (r ∷ rs) [] = refl
length-with_answers (r ∷ rs) (d ∷ ds) = ap suc (length-with_answers rs ds)

pub length-with_answers_at : (k : ℕ) (rs : List ItemRecord) (ds : List DatagramRecord)
    → length (with_answers_at k rs ds) ≡ length rs
length-with_answers_at zero rs ds = length-with_answers rs ds
length-with_answers_at (suc k) [] ds = refl
length-with_answers_at (suc k) (r ∷ rs) ds = ap suc (length-with_answers_at k rs ds)

pub with_answers_at-none : (k : ℕ) (rs : List ItemRecord) → with_answers_at k rs [] ≡ rs
with_answers_at-none zero rs = with_answers-none rs
with_answers_at-none (suc k) [] = refl
with_answers_at-none (suc k) (r ∷ rs) = ap (λ (xs : List ItemRecord). r ∷ xs) (with_answers_at-none k rs)

-- an item that has no answer yet is as it was
pub get-with_answers : (j : ℕ) (rs : List ItemRecord) (ds : List DatagramRecord) (e : ItemRecord)
    → get_or (with_answers rs (take j ds)) j e ≡ get_or rs j e
get-with_answers j [] ds e = refl
get-with_answers zero (r ∷ rs) ds e = refl
get-with_answers (suc j) (r ∷ rs) [] e = refl
get-with_answers (suc j) (r ∷ rs) (d ∷ ds) e = get-with_answers j rs ds e

pub get-with_answers_at : (k j : ℕ) (rs : List ItemRecord) (ds : List DatagramRecord) (e : ItemRecord)
    → get_or (with_answers_at k rs (take j ds)) (k + j) e ≡ get_or rs (k + j) e
get-with_answers_at zero j rs ds e = rw (zero-add j) (get-with_answers j rs ds e)
get-with_answers_at (suc k) j [] ds e = refl
get-with_answers_at (suc k) j (r ∷ rs) ds e = rw (suc-add k j) (get-with_answers_at k j rs ds e)

-- it takes its answer
pub set-with_answers : (j : ℕ) (rs : List ItemRecord) (ds : List DatagramRecord) (e : ItemRecord)
    → j < length rs → j < length ds
    → set (with_answers rs (take j ds)) j (with_answer (get_or rs j e) (nth ds j))
    ≡ with_answers rs (take (suc j) ds)
set-with_answers j [] ds e h i = absurd (omega (arith, h))
set-with_answers j (r ∷ rs) [] e h i = absurd (omega (arith, i))
set-with_answers zero (r ∷ rs) (d ∷ ds) e h i =
    ap (λ (xs : List ItemRecord). with_answer r d ∷ xs) (sym (with_answers-none rs))
set-with_answers (suc j) (r ∷ rs) (d ∷ ds) e h i =
    ap (λ (xs : List ItemRecord). with_answer r d ∷ xs)
    (set-with_answers j rs ds e (omega (arith, h)) (omega (arith, i)))

pub set-with_answers_at : (k j : ℕ) (rs : List ItemRecord) (ds : List DatagramRecord) (e : ItemRecord)
    → k + j < length rs
    → j < length ds
    → set (with_answers_at k rs (take j ds)) (k + j) (with_answer (get_or rs (k + j) e) (nth ds j))
    ≡ with_answers_at k rs (take (suc j) ds)
set-with_answers_at zero j rs ds e h i = rw (zero-add j) (set-with_answers j rs ds e (omega (arith, h)) i)
set-with_answers_at (suc k) j [] ds e h i = absurd (omega (arith, h))
set-with_answers_at (suc k) j (r ∷ rs) ds e h i =
    rw (suc-add k j)
    (ap (λ (xs : List ItemRecord). r ∷ xs) (set-with_answers_at k j rs ds e (omega (arith, h)) i))

-- ---- items that are changed one after the other

pub set-changed : (f : ItemRecord → ItemRecord) (k : ℕ) (rs : List ItemRecord) (e : ItemRecord) → k < length rs
    → set (map f (take k rs) ++ drop k rs) k (f (get_or rs k e)) ≡ map f (take (suc k) rs) ++ drop (suc k) rs
set-changed f k [] e h = absurd (omega (arith, h))
set-changed f zero (r ∷ rs) e h = refl
set-changed f (suc k) (r ∷ rs) e h =
    ap (λ (xs : List ItemRecord). f r ∷ xs) (set-changed f k rs e (omega (arith, h)))

pub get-changed : (f : ItemRecord → ItemRecord) (k : ℕ) (rs : List ItemRecord) (e : ItemRecord)
    → get_or (map f (take k rs) ++ drop k rs) k e ≡ get_or rs k e
get-changed f zero [] e = refl
get-changed f (suc k) [] e = refl
get-changed f zero (r ∷ rs) e = refl
get-changed f (suc k) (r ∷ rs) e = get-changed f k rs e

pub length-changed : (f : ItemRecord → ItemRecord) (k : ℕ) (rs : List ItemRecord)
    → length (map f (take k rs) ++ drop k rs) ≡ length rs
length-changed f zero [] = refl
length-changed f (suc k) [] = refl
length-changed f zero (r ∷ rs) = refl
length-changed f (suc k) (r ∷ rs) = ap suc (length-changed f k rs)

-- ---- filling with the items of another work

pub set-taken : (k : ℕ) (rs os : List ItemRecord) (e : ItemRecord) → k < length os → length rs ≡ length os
    → set (take k os ++ drop k rs) k (get_or os k e) ≡ take (suc k) os ++ drop (suc k) rs
set-taken k rs [] e h same = absurd (omega (arith, h))
set-taken k [] (o ∷ os) e h same = absurd (omega (arith, same))
set-taken zero (r ∷ rs) (o ∷ os) e h same = refl
set-taken (suc k) (r ∷ rs) (o ∷ os) e h same =
    ap (λ (xs : List ItemRecord). o ∷ xs) (set-taken k rs os e (omega (arith, h)) (omega (arith, same)))

pub length-taken : (k : ℕ) (rs os : List ItemRecord) → length rs ≡ length os
    → length (take k os ++ drop k rs) ≡ length os
length-taken zero rs os same = same
length-taken (suc k) [] [] same = refl
length-taken (suc k) [] (o ∷ os) same = absurd (omega (arith, same))
length-taken (suc k) (r ∷ rs) [] same = absurd (omega (arith, same))
length-taken (suc k) (r ∷ rs) (o ∷ os) same = ap suc (length-taken k rs os (omega (arith, same)))

pub taken-all : (k : ℕ) (rs os : List ItemRecord) → length rs ≡ length os → length os ≤ k
    → take k os ++ drop k rs ≡ os
taken-all zero [] [] same h = refl
taken-all zero rs (o ∷ os) same h = absurd (omega (arith, h))
taken-all zero (r ∷ rs) [] same h = absurd (omega (arith, same))
taken-all (suc k) [] [] same h = refl
taken-all (suc k) [] (o ∷ os) same h = absurd (omega (arith, same))
taken-all (suc k) (r ∷ rs) [] same h = absurd (omega (arith, same))
taken-all (suc k) (r ∷ rs) (o ∷ os) same h =
    ap (λ (xs : List ItemRecord). o ∷ xs) (taken-all k rs os (omega (arith, same)) (omega (arith, h)))

-- ---- one item more

pub take-one_more : (k : ℕ) (rs : List ItemRecord) (e : ItemRecord) → k < length rs
    → take k rs ++ get_or rs k e ∷ [] ≡ take (k + 1) rs
take-one_more k [] e inside = absurd (omega (arith, inside))
take-one_more zero (r ∷ rs) e inside = refl
take-one_more (suc k) (r ∷ rs) e inside =
    rw (suc-add k 1) (ap (λ (xs : List ItemRecord). r ∷ xs) (take-one_more k rs e (omega (arith, inside))))
