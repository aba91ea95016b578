-- The lines of a text, as they are cut off its front, and their images, one more at a time.
use Rattle.std.proofs.Common.{◌≡◌, ◌+◌, ◌<◌, ℕ, suc, Bool, true, false, List, [], ◌∷◌, length, take, drop}
use Rattle.std.proofs.Common.{not, ap, sym, ◌∙◌, refl, arith, subst, ⊎_elim, cond}
use Rattle.std.specs.Prelude.{◌≤◌, IfSome, nat_lt}
use Rattle.std.proofs.Common.{Option, None, Some, ◌-◌, ◌++◌, Result, Ok, Err}
use Rattle.std.specs.Borrow.{Bor}
use Rattle.std.specs.Option.{option_map}
use Rattle.std.specs.List.{onto_first, position, position_or_len}
use Rattle.std.proofs.lemmas.List.{append_assoc, append-nil, length-drop, take_all}
use Rattle.std.proofs.lemmas.Bool.{cases_Bool}
use Rattle.std.proofs.lemmas.Bool.Decides.{nat_tests}
use Rattle.ec_run.specs.Images.{image_in, images_in, is_line_feed, lines_in, lines_of, put_first}
use Rattle.ec_run.specs.declared.images.ImagesFault.{ImagesFault}

-- the place of the first LF, or the length
abbrev pub end_of : List ℕ → ℕ
end_of text = position_or_len is_line_feed text

-- the first line of a text that begins with this byte, and those behind it
abbrev Begins : ℕ → List ℕ → Bool → Type 0
Begins byte rest feeds =
    cond feeds ([] ∷ lines_of rest) (onto_first byte (lines_of rest))
    ≡ take (cond (not feeds) (1 + end_of rest) 0) (byte ∷ rest)
    ∷ lines_of (drop (cond (not feeds) (1 + end_of rest) 0 + 1) (byte ∷ rest))

one_more : (byte n : ℕ) (rest : List ℕ)
    → ((byte ∷ take n rest) ∷ lines_of (drop (n + 1) rest))
    ≡ take (1 + n) (byte ∷ rest) ∷ lines_of (drop (1 + n + 1) (byte ∷ rest))
one_more byte n rest =
    let first : suc n ≡ 1 + n = omega arith in
    let second : suc (n + 1) ≡ 1 + n + 1 = omega arith in
    ap (λ (k : ℕ). take k (byte ∷ rest) ∷ lines_of (drop (suc (n + 1)) (byte ∷ rest))) first
    ∙ ap (λ (k : ℕ). take (1 + n) (byte ∷ rest) ∷ lines_of (drop k (byte ∷ rest))) second

-- where LF stands in it
pub lines_at : (text : List ℕ) → end_of text < length text
    → lines_of text ≡ take (end_of text) text ∷ lines_of (drop (end_of text + 1) text)
lines_at [] inside = absurd (omega (arith, inside))
lines_at (byte ∷ rest) inside =
    ⊎_elim
    (λ (feeds : is_line_feed byte ≡ true). subst (Begins byte rest) (sym feeds) refl)
    (λ (other : is_line_feed byte ≡ false).
    let longer : end_of (byte ∷ rest) ≡ 1 + end_of rest =
    ap (λ (b : Bool). cond (not b) (1 + end_of rest) 0) other in
    let still : end_of rest < length rest = omega (arith, inside, longer) in
    subst (Begins byte rest) (sym other)
    (ap (onto_first byte) (lines_at rest still) ∙ one_more byte (end_of rest) rest))
    (cases_Bool (is_line_feed byte))

-- and where it does not
pub line_alone : (text : List ℕ) → nat_lt (end_of text) (length text) ≡ false
    → lines_of text ≡ text ∷ []
line_alone [] outside = refl
line_alone (byte ∷ rest) outside =
    ⊎_elim
    (λ (feeds : is_line_feed byte ≡ true).
    let first : end_of (byte ∷ rest) ≡ 0 =
    ap (λ (b : Bool). cond (not b) (1 + end_of rest) 0) feeds in
    let one : 0 < length (byte ∷ rest) = omega arith in
    absurd (grind (arith, nat_tests, first, one, outside)))
    (λ (other : is_line_feed byte ≡ false).
    let longer : end_of (byte ∷ rest) ≡ 1 + end_of rest =
    ap (λ (b : Bool). cond (not b) (1 + end_of rest) 0) other in
    let still : nat_lt (end_of rest) (length rest) ≡ false = grind (arith, nat_tests, longer, outside) in
    ap (λ (b : Bool). cond b ([] ∷ lines_of rest) (onto_first byte (lines_of rest))) other
    ∙ ap (onto_first byte) (line_alone rest still))
    (cases_Bool (is_line_feed byte))

-- what the place of the first LF tells
pub found_at : (text : List ℕ) (at : ℕ) → position is_line_feed text ≡ Some at
    → (end_of text < length text) × (end_of text ≡ at)
found_at text at found =
    ⊎_elim
    (λ (inside : nat_lt (end_of text) (length text) ≡ true).
    let same : Some (end_of text) ≡ Some at =
    sym (ap (λ (b : Bool). cond b (Some (end_of text)) None) inside) ∙ found in
    (grind (arith, nat_tests, inside), cc))
    (λ (outside : nat_lt (end_of text) (length text) ≡ false).
    let nothing : None ≡ Some at =
    sym (ap (λ (b : Bool). cond b (Some (end_of text)) None) outside) ∙ found in
    absurd (cc))
    (cases_Bool (nat_lt (end_of text) (length text)))

pub not_found : (text : List ℕ) → position is_line_feed text ≡ None
    → nat_lt (end_of text) (length text) ≡ false
not_found text none =
    ⊎_elim
    (λ (inside : nat_lt (end_of text) (length text) ≡ true).
    let same : Some (end_of text) ≡ None =
    sym (ap (λ (b : Bool). cond b (Some (end_of text)) None) inside) ∙ none in
    absurd (cc))
    (λ (outside : nat_lt (end_of text) (length text) ≡ false). outside)
    (cases_Bool (nat_lt (end_of text) (length text)))

-- the first line and the others, where LF stands at this place
pub cut_at : (text : List ℕ) (at : ℕ) → position is_line_feed text ≡ Some at
    → lines_of text
    ≡ take at text ∷ lines_of (take (length text - (at + 1)) (drop (at + 1) text))
cut_at text at found =
    let it = found_at text at found in
    let whole : take (length text - (at + 1)) (drop (at + 1) text) ≡ drop (at + 1) text =
    take_all (length text - (at + 1)) (drop (at + 1) text)
    (omega (arith, length-drop (at + 1) text)) in
    lines_at text it.0
    ∙ ap (λ (k : ℕ). take k text ∷ lines_of (drop (k + 1) text)) it.1
    ∙ ap (λ (rest : List ℕ). take at text ∷ lines_of rest) (sym whole)

-- ---- images

-- some images stand before others, unless one of those is at fault
abbrev pub put_behind : List (List ℕ) → Result (List (List ℕ)) ImagesFault
    → Result (List (List ℕ)) ImagesFault
put_behind kept (Err fault) = Err fault
put_behind kept (Ok images) = Ok (kept ++ images)

-- what stands of a text, if it stands
abbrev pub texts_in : Option (Bor (List ℕ)) → List (List ℕ)
texts_in rest = lines_in (option_map (λ (text : Bor (List ℕ)). text.now) rest)

-- the most lines of it
abbrev pub most_in : Option (Bor (List ℕ)) → ℕ
most_in None = 0
most_in (Some text) = length text.now + 1

one_kept : (kept : List (List ℕ)) (image : List ℕ) (others : Result (List (List ℕ)) ImagesFault)
    → put_behind kept (put_first (Ok image) others) ≡ put_behind (kept ++ image ∷ []) others
one_kept kept image (Err fault) = refl
one_kept kept image (Ok images) = ap Ok (sym (append_assoc kept (image ∷ []) images))

-- one image more
pub one_read : (size number : ℕ) (kept : List (List ℕ)) (image line : List ℕ) (rest : List (List ℕ))
    → image_in size number line ≡ Ok image
    → put_behind kept (images_in size number (line ∷ rest))
    ≡ put_behind (kept ++ image ∷ []) (images_in size (number + 1) rest)
unfolding images_in
one_read size number kept image line rest is =
    ap (λ (r : Result (List ℕ) ImagesFault).
    put_behind kept (put_first r (images_in size (number + 1) rest)))
    is
    ∙ one_kept kept image (images_in size (number + 1) rest)

-- a line at fault
pub one_fails : (size number : ℕ) (kept : List (List ℕ)) (line : List ℕ) (rest : List (List ℕ))
    (fault : ImagesFault) → image_in size number line ≡ Err fault
    → put_behind kept (images_in size number (line ∷ rest)) ≡ Err fault
unfolding images_in
one_fails size number kept line rest fault is =
    ap (λ (r : Result (List ℕ) ImagesFault).
    put_behind kept (put_first r (images_in size (number + 1) rest)))
    is

-- no line more
pub all_read : (size number : ℕ) (kept : List (List ℕ))
    → put_behind kept (images_in size number []) ≡ Ok kept
unfolding images_in
all_read size number kept = ap Ok (append-nil kept)

-- what stands behind a line has fewer bytes than the text
pub fewer : (rest : Option (Bor (List ℕ))) (most : ℕ)
    → IfSome rest (λ (text : Bor (List ℕ)). length text.now < most) → most_in rest ≤ most
fewer None most is = omega arith
fewer (Some text) most is = omega (arith, is)

-- where nothing stands there is no line
pub no_more : (rest : Option (Bor (List ℕ))) → ((text : Bor (List ℕ)) → rest ≡ Some text → ⊥)
    → texts_in rest ≡ []
no_more None none = refl
no_more (Some text) none = absurd (none text refl)
