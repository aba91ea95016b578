-- Items that are made one after the other, and what an image leaves.
use Rattle.std.proofs.Common.{◌≡◌, ◌<◌, ◌≤◌, ◌+◌, ℕ, List, [], ◌∷◌, ◌++◌, length, refl, arith}
use Rattle.std.proofs.Common.{zero, suc, suc-add, ap, sym, ◌∙◌, take, drop, get_or, set}
use Rattle.std.proofs.lemmas.List.{append_assoc, append-nil, length-map}
use Rattle.ec_map.specs.Item.{ItemRecord}
use Rattle.ec_run.specs.Outputs.{filled, filled_item, image_of, left_by, numbered, outputs_at}
use Rattle.ec_run.specs.declared.outputs.Outputs.{Outputs}
use Rattle.ec_run.specs.declared.outputs.Outputs.TheVariants.{Kept, Count, Images}
use Rattle.ec_run.proofs.StepLemmas.{left_is, left_none}

-- ---- items that are made one after the other

pub get-others : (k : ℕ) (xs ys : List ItemRecord) (d : ItemRecord) → k < length xs → k < length ys
    → drop k xs ≡ drop k ys → get_or xs k d ≡ get_or ys k d
get-others k [] ys d h i same = absurd (omega (arith, h))
get-others k (x ∷ xs) [] d h i same = absurd (omega (arith, i))
get-others zero (x ∷ xs) (y ∷ ys) d h i same = ap (λ (zs : List ItemRecord). get_or zs 0 d) same
get-others (suc k) (x ∷ xs) (y ∷ ys) d h i same =
    get-others k xs ys d (omega (arith, h)) (omega (arith, i)) same

pub take-made : (k : ℕ) (xs : List ItemRecord) (x : ItemRecord) → k < length xs
    → take (k + 1) (set xs k x) ≡ take k xs ++ x ∷ []
take-made k [] x h = absurd (omega (arith, h))
take-made zero (y ∷ ys) x h = refl
take-made (suc k) (y ∷ ys) x h =
    rw (suc-add k 1) (ap (λ (zs : List ItemRecord). y ∷ zs) (take-made k ys x (omega (arith, h))))

pub drop-made : (k : ℕ) (xs ys : List ItemRecord) (x : ItemRecord) → k < length xs → k < length ys
    → drop k xs ≡ drop k ys → drop (k + 1) (set xs k x) ≡ drop (k + 1) ys
drop-made k [] ys x h i same = absurd (omega (arith, h))
drop-made k (z ∷ xs) [] x h i same = absurd (omega (arith, i))
drop-made zero (z ∷ xs) (y ∷ ys) x h i same = ap (λ (zs : List ItemRecord). drop 1 zs) same
drop-made (suc k) (z ∷ xs) (y ∷ ys) x h i same =
    rw (suc-add k 1) (drop-made k xs ys x (omega (arith, h)) (omega (arith, i)) same)

pub take-past : (k : ℕ) (xs : List ItemRecord) → length xs ≤ k → take k xs ≡ xs
take-past zero [] h = refl
take-past zero (x ∷ xs) h = absurd (omega (arith, h))
take-past (suc k) [] h = refl
take-past (suc k) (x ∷ xs) h = ap (λ (zs : List ItemRecord). x ∷ zs) (take-past k xs (omega (arith, h)))

-- ---- images

filled-next : (image : List ℕ) (r : ItemRecord) (rest : List ItemRecord)
    → filled image (r ∷ rest) ≡ filled_item image r ∷ filled (left_by image r) rest
unfolding filled
filled-next image r rest = refl

filled-none : (image : List ℕ) → filled image [] ≡ []
unfolding filled
filled-none image = refl

-- what was made so far, and what the rest of the image makes of the items that are left, is what all of it
-- makes of all
pub fills_on : (image rest : List ℕ) (items work later : List ItemRecord) (k : ℕ) (d : ItemRecord)
    → k < length items → work ++ filled rest (drop k items) ≡ filled image items
    → later ≡ work ++ filled_item rest (get_or items k d) ∷ []
    → later ++ filled (left_by rest (get_or items k d)) (drop (k + 1) items) ≡ filled image items
fills_on image rest items work later k d inside so_far is =
    let r : ItemRecord = get_or items k d in
    let tail : List ItemRecord = filled (left_by rest r) (drop (k + 1) items) in
    ap (λ (ws : List ItemRecord). ws ++ tail) is
    ∙ append_assoc work (filled_item rest r ∷ []) tail
    ∙ ap (λ (ws : List ItemRecord). work ++ ws)
    (sym (ap (λ (rs : List ItemRecord). filled rest rs) (left_is items k d inside)
    ∙ filled-next rest r (drop (k + 1) items)))
    ∙ so_far

pub fills_all : (image rest : List ℕ) (items work : List ItemRecord) (k : ℕ) → length items ≤ k
    → work ++ filled rest (drop k items) ≡ filled image items → work ≡ filled image items
fills_all image rest items work k past so_far =
    sym (append-nil work)
    ∙ ap (λ (ws : List ItemRecord). work ++ ws)
    (sym (ap (λ (rs : List ItemRecord). filled rest rs) (left_none items k past) ∙ filled-none rest))
    ∙ so_far

-- ---- how many items there are

pub filled_length : (image : List ℕ) (items : List ItemRecord) → length (filled image items) ≡ length items
unfolding filled
filled_length image [] = refl
filled_length image (r ∷ rest) = ap suc (filled_length (left_by image r) rest)

pub length_of_outputs : (outputs : Outputs) (cycle : ℕ) (items : List ItemRecord)
    → length (outputs_at outputs cycle items) ≡ length items
length_of_outputs Kept cycle items = refl
length_of_outputs Count cycle items = length-map items (numbered cycle)
length_of_outputs (Images images) cycle items = filled_length (image_of images.now cycle) items
