-- Categories that were put are read as they were, and an image as all of them.
use Rattle.std.proofs.Common.{◌≡◌, ℕ, ◌+◌, ◌*◌, ◌/◌, ◌%◌, ◌<◌, ◌≤◌, ◌^◌, Bool, true, false, not}
use Rattle.std.proofs.Common.{cond, ⊎_elim, eqb, leb, List, [], ◌∷◌, ◌++◌, length, take, drop, replicate}
use Rattle.std.proofs.Common.{refl, sym, ◌∙◌, ap, subst, arith, append_assoc, length-append}
use Rattle.std.specs.Prelude.{⊤, Option, Some, None, Result, Ok, Err}
use Rattle.std.specs.Int.{w16, to_le_bytes}
use Rattle.std.specs.List.{flat_map}
use Rattle.std.proofs.lemmas.Bool.{cases_Bool, eq-eqb, le-leb, lt-leb, ne_eqb}
use Rattle.std.proofs.lemmas.Bool.Decides.{nat_tests}
use Rattle.std.proofs.lemmas.List.{append-nil, length-replicate, take_at}
use Rattle.std.proofs.Math.Seq.{drop-append-add}
use Rattle.ec_sii.specs.Image.{category, head_bytes, image_bytes}
use Rattle.ec_sii.specs.Made.{PartsFit, made_categories, made_category, parts_of}
use Rattle.ec_sii.specs.Reading.{AreCategories, category_at, has, word_at}
use Rattle.ec_sii.specs.declared.image.SiiContents.{SiiContents}
use Rattle.ec_sii.specs.declared.reading.Category.{Category}
use Rattle.ec_sii.specs.declared.reading.SiiFault.{SiiFault}
use Rattle.ec_sii.specs.declared.reading.SiiFault.TheVariants.{CutCategory}
use Rattle.ec_sii.proofs.PlaceLemmas.{word_behind, word_made}

-- ---- one of them

-- the rows by their tests
abbrev category_rows : Bool → Bool → Bool → Bool → Bool → Category → Result (Option Category) SiiFault
category_rows past kind end size words c =
    cond past (Ok None) (cond (not kind) (Err CutCategory) (cond end (Ok None)
    (cond (not size) (Err CutCategory) (cond (not words) (Err CutCategory) (Ok (Some c))))))

category_there : (past kind end size words : Bool) (c : Category) → past ≡ false → kind ≡ true → end ≡ false
    → size ≡ true → words ≡ true → category_rows past kind end size words c ≡ Ok (Some c)
category_there past kind end size words c p k e s w = rw (p, k, e, s, w) refl

category_ends : (past kind end size words : Bool) (c : Category) → past ≡ false → kind ≡ true → end ≡ true
    → category_rows past kind end size words c ≡ Ok None
category_ends past kind end size words c p k e = rw (p, k, e) refl

-- a category whose words are all there
category_found : (bytes : List ℕ) (at : ℕ) → word_at bytes at < 0xFFFF
    → at + 4 + 2 * word_at bytes (at + 2) ≤ length bytes
    → category_at bytes at ≡ Ok (Some (record {
      kind = word_at bytes at;
      from = at + 4;
      length = 2 * word_at bytes (at + 2);
    }))
unfolding category_at
category_found bytes at kind there =
    category_there (leb (length bytes) at) (has bytes at 2) (eqb (word_at bytes at) 0xFFFF) (has bytes at 4)
    (has bytes (at + 4) (2 * word_at bytes (at + 2))) _
    (lt-leb (length bytes) at (omega arith))
    (le-leb (at + 2) (length bytes) (omega arith))
    (ne_eqb (word_at bytes at) 0xFFFF (λ is. omega arith))
    (le-leb (at + 4) (length bytes) (omega arith))
    (le-leb (at + 4 + 2 * word_at bytes (at + 2)) (length bytes) there)

-- where they end
pub end_read : (front rest : List ℕ) → category_at (front ++ 255 ∷ 255 ∷ rest) (length front) ≡ Ok None
unfolding category_at
end_read front rest =
    let at : ℕ = length front in
    let all : List ℕ = front ++ 255 ∷ 255 ∷ rest in
    let last : word_at all at ≡ 0xFFFF = word_behind front (255 ∷ 255 ∷ rest) at 0 (omega arith) in
    let whole : length all ≡ at + (2 + length rest) = omega (arith, length-append front (255 ∷ 255 ∷ rest)) in
    let past : leb (length all) at ≡ false = lt-leb (length all) at (omega (arith, whole)) in
    let kind : has all at 2 ≡ true = le-leb (at + 2) (length all) (omega (arith, whole)) in
    let end : eqb (word_at all at) 0xFFFF ≡ true = eq-eqb (word_at all at) 0xFFFF last in
    category_ends (leb (length all) at) (has all at 2) (eqb (word_at all at) 0xFFFF) (has all at 4)
    (has all (at + 4) (2 * word_at all (at + 2))) _ past kind end

-- the bytes of one that has a byte
category_shape : (kind : ℕ) (bytes : List ℕ) → 0 < length bytes
    → category kind bytes ≡ to_le_bytes w16 kind ++ (to_le_bytes w16 (length bytes / 2 + length bytes % 2)
    ++ (bytes ++ replicate (length bytes % 2) 0))
category_shape kind bytes some =
    let there : eqb (length bytes) 0 ≡ false = ne_eqb (length bytes) 0 (λ is. omega arith) in rw there refl

-- and with what stands around it
category_around : (front bytes rest : List ℕ) (kind : ℕ) → 0 < length bytes
    → front ++ category kind bytes ++ rest ≡ front ++ (to_le_bytes w16 kind
    ++ (to_le_bytes w16 (length bytes / 2 + length bytes % 2) ++ (bytes
    ++ (replicate (length bytes % 2) 0 ++ rest))))
category_around front bytes rest kind some =
    rw (category_shape kind bytes some) (simp append_assoc)

pub category_read : (front bytes rest : List ℕ) (kind : ℕ) → kind < 0xFFFF → 0 < length bytes
    → length bytes / 2 + length bytes % 2 < 2 ^ 16
    → category_at (front ++ category kind bytes ++ rest) (length front)
    ≡ Ok (Some (made_category kind bytes (length front)))
category_read front bytes rest kind small some fits =
    let odd : ℕ = length bytes % 2 in
    let size : ℕ = length bytes / 2 + odd in
    let body : List ℕ = bytes ++ (replicate odd 0 ++ rest) in
    let xs : List ℕ = to_le_bytes w16 kind ++ (to_le_bytes w16 size ++ body) in
    let all : List ℕ = front ++ xs in
    let first : word_at all (length front) ≡ kind =
    word_behind front xs (length front) 0 (omega arith)
    ∙ word_made kind (to_le_bytes w16 size ++ body) (omega arith) in
    let second : word_at all (length front + 2) ≡ size =
    word_behind front xs (length front + 2) 2 refl ∙ word_made size body fits in
    let words : 2 * word_at all (length front + 2) ≡ length bytes + odd = omega (arith, second) in
    let filled : length body ≡ length bytes + (odd + length rest) =
    length-append bytes (replicate odd 0 ++ rest)
    ∙ ap (λ (n : ℕ). length bytes + n) (length-append (replicate odd 0) rest
    ∙ ap (λ (n : ℕ). n + length rest) (length-replicate odd 0)) in
    let whole : length all ≡ length front + (4 + length body) = omega (arith, length-append front xs) in
    ap (λ (ys : List ℕ). category_at ys (length front)) (category_around front bytes rest kind some)
    ∙ category_found all (length front) (omega (arith, first, small))
    (omega (arith, words, whole, filled))
    ∙ (λ i. Ok (Some (record { kind = first i; from = length front + 4; length = words i })))

pub category_words : (front bytes rest : List ℕ) (kind : ℕ) → 0 < length bytes
    → take (length bytes) (drop (length front + 4) (front ++ category kind bytes ++ rest)) ≡ bytes
category_words front bytes rest kind some =
    let odd : ℕ = length bytes % 2 in
    let body : List ℕ = bytes ++ (replicate odd 0 ++ rest) in
    let xs : List ℕ = to_le_bytes w16 kind ++ (to_le_bytes w16 (length bytes / 2 + odd) ++ body) in
    ap (λ (ys : List ℕ). take (length bytes) (drop (length front + 4) ys))
    (category_around front bytes rest kind some)
    ∙ ap (take (length bytes)) (drop-append-add front xs 4)
    ∙ take_at bytes (replicate odd 0 ++ rest) (length bytes) refl

-- ---- all of them

-- what a part is put as
abbrev put : ℕ × List ℕ → List ℕ
put part = category part.0 part.1

-- no part is of the kind that ends them
abbrev KindsFit : List (ℕ × List ℕ) → Type 0
KindsFit [] = ⊤
KindsFit (part ∷ more) = (part.0 < 0xFFFF) × KindsFit more

category_size : (kind : ℕ) (bytes : List ℕ) → 0 < length bytes
    → length (category kind bytes) ≡ 4 + (length bytes + length bytes % 2)
category_size kind bytes some =
    let odd : ℕ = length bytes % 2 in
    let filling : length (replicate odd 0) ≡ odd = length-replicate {A = ℕ} odd 0 in
    ap length (category_shape kind bytes some)
    ∙ omega (arith, length-append bytes (replicate odd 0), filling)

-- parts that were put are read one by one, and then they end
parts_read : (front : List ℕ) (parts : List (ℕ × List ℕ)) → KindsFit parts → PartsFit parts
    → AreCategories (front ++ (flat_map put parts ++ 255 ∷ 255 ∷ [])) (length front)
    (made_categories (length front) parts)
parts_read front [] kinds fit = end_read front []
parts_read front (part ∷ more) kinds fit =
    let bytes : List ℕ = part.1 in
    let at : ℕ = length front in
    let end : List ℕ = 255 ∷ 255 ∷ [] in
    let left : List ℕ = flat_map put more ++ end in
    let past : List ℕ = front ++ put part in
    let c : Category = made_category part.0 bytes at in
    let around : front ++ ((put part ++ flat_map put more) ++ end) ≡ past ++ left =
    ap (λ (ys : List ℕ). front ++ ys) (append_assoc (put part) (flat_map put more) end)
    ∙ sym (append_assoc front (put part) left) in
    ⊎_elim
    (λ (none : eqb (length bytes) 0 ≡ true). rw none (parts_read front more kinds.1 fit.1))
    (λ (some : eqb (length bytes) 0 ≡ false).
    let has_some : 0 < length bytes = grind (arith, nat_tests) in
    let place : length past ≡ at + 4 + (length bytes + length bytes % 2) =
    omega (arith, length-append front (put part), category_size part.0 bytes has_some) in
    let first : category_at (past ++ left) at ≡ Ok (Some c) =
    category_read front bytes left part.0 kinds.0 has_some fit.0 in
    let rest : AreCategories (past ++ left) (c.from + c.length) (made_categories (c.from + c.length) more) =
    subst (λ (n : ℕ). AreCategories (past ++ left) n (made_categories n more)) place
    (parts_read past more kinds.1 fit.1) in
    let choice : Bool → List Category =
    λ b. cond b (made_categories at more) (c ∷ made_categories (c.from + c.length) more) in
    let both : AreCategories (past ++ left) at (choice false) = (first, rest) in
    let chosen : AreCategories (past ++ left) at (choice (eqb (length bytes) 0)) =
    subst (λ (b : Bool). AreCategories (past ++ left) at (choice b)) (sym some) both in
    subst (λ (ys : List ℕ). AreCategories ys at (choice (eqb (length bytes) 0))) (sym around) chosen)
    (cases_Bool (eqb (length bytes) 0))

pub image_read : (c : SiiContents) → PartsFit (parts_of c)
    → AreCategories (image_bytes c) 128 (made_categories 128 (parts_of c))
image_read c fit =
    let around : image_bytes c ≡ head_bytes c ++ (flat_map put (parts_of c) ++ 255 ∷ 255 ∷ []) =
    simp (append_assoc, append-nil) in
    subst (λ (ys : List ℕ). AreCategories ys 128 (made_categories 128 (parts_of c))) (sym around)
    (parts_read (head_bytes c) (parts_of c)
    (omega arith, (omega arith, (omega arith, (omega arith, (omega arith, (omega arith, tt)))))) fit)
