-- SDOs and their bytes: what is read is written back, and what is written is read back.
use Rattle.std.proofs.Common.{◌≡◌, ℕ, zero, suc, ◌<◌, ◌^◌, Bool, true, false, eqb, ◌&&◌, cond, List, [], ◌∷◌}
use Rattle.std.proofs.Common.{◌++◌, length, get_or, drop, map, sym, ◌∙◌, ap, subst, refl, arith}
use Rattle.std.specs.Prelude.{replicate}
use Rattle.std.specs.Int.{w16, w32, to_le_bytes, from_le_bytes}
use Rattle.std.specs.List.{range_with_len}
use Rattle.std.proofs.lemmas.Bool.{and_parts}
use Rattle.std.proofs.lemmas.Bool.Decides.{nat_tests}
use Rattle.std.proofs.lemmas.List.FromFn.{fill_by_all}
use Rattle.std.proofs.lemmas.Nat.{le_bytes_2, le_bytes_4, from_le_bytes-to_le_bytes_2}
use Rattle.std.proofs.lemmas.Nat.{from_le_bytes-to_le_bytes_4}
use Rattle.ec_app.specs.Sdo.{spelt, no_data, value_bytes, index_of, one_of, two_of, are_zero, has_command}
use Rattle.ec_app.specs.Sdo.{sdo_of, sdo_bytes, IsProper, FitsSdo, FitsNumbers}
use Rattle.ec_app.specs.declared.value.Value.TheVariants.{One, Two, Four}
use Rattle.ec_app.specs.declared.sdo.Sdo.{Sdo}
use Rattle.ec_app.specs.declared.sdo.Sdo.TheVariants.{Upload, UploadAnswer, Download, DownloadAnswer, Abort}
use Rattle.ec_app.specs.declared.sdo.Sdo.TheVariants.{Other}
use Rattle.ec_app.specs.declared.sdo.TheConstants.{UPLOAD, UPLOADED_FOUR, UPLOADED_TWO, UPLOADED_ONE}
use Rattle.ec_app.specs.declared.sdo.TheConstants.{DOWNLOAD_FOUR, DOWNLOAD_TWO, DOWNLOAD_ONE, DOWNLOADED}
use Rattle.ec_app.specs.declared.sdo.TheConstants.{ABORT}

-- ---- from bytes to the SDO and back

-- what holds of a row's SDO where its test holds, and of the rows after it, holds of the table
row : (P : Sdo → Type 0) (test : Bool) (here after : Sdo) → (test ≡ true → P here) → P after
    → P (cond test here after)
row P true here after at_here at_after = at_here refl
row P false here after at_here at_after = at_after

-- a number that equals another by test is it
eqb_is : (x y : ℕ) → eqb x y ≡ true → y ≡ x
eqb_is x y h = grind (arith, nat_tests)

-- bytes that are 0 by test are zeros
are_zero_zeros : (bs : List ℕ) → are_zero bs ≡ true → replicate (length bs) 0 ≡ bs
are_zero_zeros [] h = refl
are_zero_zeros (x ∷ xs) h =
    let parts : (eqb x 0 ≡ true) × (are_zero xs ≡ true) = and_parts (eqb x 0) (are_zero xs) h in
    let first : 0 ≡ x = eqb_is x 0 parts.0 in
    let others : replicate (length xs) 0 ≡ xs = are_zero_zeros xs parts.1 in
    cc

-- two bytes are bytes
pub two_bytes : (a b : ℕ) → a < 256 → b < 256 → (i : ℕ) → get_or (a ∷ b ∷ []) i 0 < 256
two_bytes a b a_fits b_fits zero = a_fits
two_bytes a b a_fits b_fits (suc zero) = b_fits
two_bytes a b a_fits b_fits (suc (suc i)) = omega arith

-- and so are four
four_bytes : (a b c d : ℕ) → a < 256 → b < 256 → c < 256 → d < 256 → (i : ℕ)
    → get_or (a ∷ b ∷ c ∷ d ∷ []) i 0 < 256
four_bytes a b c d a_fits b_fits c_fits d_fits zero = a_fits
four_bytes a b c d a_fits b_fits c_fits d_fits (suc zero) = b_fits
four_bytes a b c d a_fits b_fits c_fits d_fits (suc (suc zero)) = c_fits
four_bytes a b c d a_fits b_fits c_fits d_fits (suc (suc (suc zero))) = d_fits
four_bytes a b c d a_fits b_fits c_fits d_fits (suc (suc (suc (suc i)))) = omega arith

-- fields that equal the bytes are spelt as they are
spelt_is : (command index sub a b c : ℕ) (payload rest : List ℕ) → command ≡ a
    → to_le_bytes w16 index ≡ b ∷ c ∷ []
    → payload ≡ rest → spelt command index sub payload ≡ a ∷ b ∷ c ∷ sub ∷ rest
spelt_is command index sub a b c payload rest command_is index_is payload_is = cc

-- eight bytes are the bytes of the SDO that they spell
sdo_bytes-sdo_of_eight : (a b c d e f g h : ℕ) → a < 256 → b < 256 → c < 256 → d < 256 → e < 256 → f < 256
    → g < 256 → h < 256
    → sdo_bytes (sdo_of (a ∷ b ∷ c ∷ d ∷ e ∷ f ∷ g ∷ h ∷ [])) ≡ a ∷ b ∷ c ∷ d ∷ e ∷ f ∷ g ∷ h ∷ []
unfolding sdo_of
sdo_bytes-sdo_of_eight a b c d e f g h a_fits b_fits c_fits d_fits e_fits f_fits g_fits h_fits =
    let bs : List ℕ = a ∷ b ∷ c ∷ d ∷ e ∷ f ∷ g ∷ h ∷ [] in
    let IsSpelt : Sdo → Type 0 = λ sdo. sdo_bytes sdo ≡ bs in
    let index : to_le_bytes w16 (index_of bs) ≡ b ∷ c ∷ [] =
    le_bytes_2 (b ∷ c ∷ []) (index_of bs) refl (two_bytes b c b_fits c_fits) refl in
    let two : to_le_bytes w16 (from_le_bytes w16 (drop 4 bs)) ≡ e ∷ f ∷ [] =
    le_bytes_2 (e ∷ f ∷ []) (from_le_bytes w16 (drop 4 bs)) refl (two_bytes e f e_fits f_fits) refl in
    let four : to_le_bytes w32 (from_le_bytes w32 (drop 4 bs)) ≡ e ∷ f ∷ g ∷ h ∷ [] =
    le_bytes_4 (e ∷ f ∷ g ∷ h ∷ []) (from_le_bytes w32 (drop 4 bs)) refl
    (four_bytes e f g h e_fits f_fits g_fits h_fits) refl in
    let without : (command : ℕ) → (has_command command bs && are_zero (drop 4 bs)) ≡ true
    → spelt command (index_of bs) d no_data ≡ bs =
    λ command test.
    let parts = and_parts (has_command command bs) (are_zero (drop 4 bs)) test in
    spelt_is command (index_of bs) d a b c no_data (drop 4 bs) (eqb_is a command parts.0) index
    (are_zero_zeros (drop 4 bs) parts.1) in
    let with_one : (command : ℕ) → (has_command command bs && are_zero (drop 5 bs)) ≡ true
    → spelt command (index_of bs) d (value_bytes (one_of bs)) ≡ bs =
    λ command test.
    let parts = and_parts (has_command command bs) (are_zero (drop 5 bs)) test in
    spelt_is command (index_of bs) d a b c (value_bytes (one_of bs)) (drop 4 bs) (eqb_is a command parts.0)
    index
    (ap (λ xs. e ∷ xs) (are_zero_zeros (drop 5 bs) parts.1)) in
    let with_two : (command : ℕ) → (has_command command bs && are_zero (drop 6 bs)) ≡ true
    → spelt command (index_of bs) d (value_bytes (two_of bs)) ≡ bs =
    λ command test.
    let parts = and_parts (has_command command bs) (are_zero (drop 6 bs)) test in
    spelt_is command (index_of bs) d a b c (value_bytes (two_of bs)) (drop 4 bs) (eqb_is a command parts.0)
    index
    (ap (λ xs. xs ++ 0 ∷ 0 ∷ []) two ∙ ap (λ xs. e ∷ f ∷ xs) (are_zero_zeros (drop 6 bs) parts.1)) in
    let with_four : (command : ℕ) → has_command command bs ≡ true
    → spelt command (index_of bs) d (to_le_bytes w32 (from_le_bytes w32 (drop 4 bs))) ≡ bs =
    λ command test.
    spelt_is command (index_of bs) d a b c (to_le_bytes w32 (from_le_bytes w32 (drop 4 bs))) (drop 4 bs)
    (eqb_is a command test) index four in
    row IsSpelt (has_command UPLOAD bs && are_zero (drop 4 bs)) _ _ (without UPLOAD)
    (row IsSpelt (has_command UPLOADED_FOUR bs) _ _ (with_four UPLOADED_FOUR)
    (row IsSpelt (has_command UPLOADED_TWO bs && are_zero (drop 6 bs)) _ _ (with_two UPLOADED_TWO)
    (row IsSpelt (has_command UPLOADED_ONE bs && are_zero (drop 5 bs)) _ _ (with_one UPLOADED_ONE)
    (row IsSpelt (has_command DOWNLOAD_FOUR bs) _ _ (with_four DOWNLOAD_FOUR)
    (row IsSpelt (has_command DOWNLOAD_TWO bs && are_zero (drop 6 bs)) _ _ (with_two DOWNLOAD_TWO)
    (row IsSpelt (has_command DOWNLOAD_ONE bs && are_zero (drop 5 bs)) _ _ (with_one DOWNLOAD_ONE)
    (row IsSpelt (has_command DOWNLOADED bs && are_zero (drop 4 bs)) _ _ (without DOWNLOADED)
    (row IsSpelt (has_command ABORT bs) _ _ (with_four ABORT) refl))))))))

-- the same of any list of eight bytes
pub sdo_bytes-sdo_of : (bs : List ℕ) → length bs ≡ 8 → ((i : ℕ) → get_or bs i 0 < 256)
    → sdo_bytes (sdo_of bs) ≡ bs
sdo_bytes-sdo_of bs len fits =
    let elements : bs ≡ map (λ k. get_or bs k 0) (range_with_len 0 8) =
    fill_by_all (λ k. get_or bs k 0) bs 8 0 len (λ k _. refl) in
    let P : List ℕ → Type 0 = λ xs. sdo_bytes (sdo_of xs) ≡ xs in
    subst P (sym elements)
    (sdo_bytes-sdo_of_eight (get_or bs 0 0) (get_or bs 1 0) (get_or bs 2 0) (get_or bs 3 0) (get_or bs 4 0)
    (get_or bs 5 0) (get_or bs 6 0) (get_or bs 7 0)
    (fits 0) (fits 1) (fits 2) (fits 3) (fits 4) (fits 5) (fits 6) (fits 7))

-- the SDO that bytes spell is proper: an `Other` is what they spell
pub IsProper-sdo_of : (bs : List ℕ) → IsProper (sdo_of bs)
unfolding sdo_of
IsProper-sdo_of bs =
    let IsProperHere : Sdo → Type 0 = λ sdo. sdo_of bs ≡ sdo → IsProper sdo in
    let proper : IsProperHere (sdo_of bs) =
    row IsProperHere (has_command UPLOAD bs && are_zero (drop 4 bs)) _ _ (λ _ _. tt)
    (row IsProperHere (has_command UPLOADED_FOUR bs) _ _ (λ _ _. tt)
    (row IsProperHere (has_command UPLOADED_TWO bs && are_zero (drop 6 bs)) _ _ (λ _ _. tt)
    (row IsProperHere (has_command UPLOADED_ONE bs && are_zero (drop 5 bs)) _ _ (λ _ _. tt)
    (row IsProperHere (has_command DOWNLOAD_FOUR bs) _ _ (λ _ _. tt)
    (row IsProperHere (has_command DOWNLOAD_TWO bs && are_zero (drop 6 bs)) _ _ (λ _ _. tt)
    (row IsProperHere (has_command DOWNLOAD_ONE bs && are_zero (drop 5 bs)) _ _ (λ _ _. tt)
    (row IsProperHere (has_command DOWNLOADED bs && are_zero (drop 4 bs)) _ _ (λ _ _. tt)
    (row IsProperHere (has_command ABORT bs) _ _ (λ _ _. tt) (λ spells_other. spells_other))))))))) in
    proper refl

-- the numbers of the SDO that eight bytes spell fit their fields
FitsSdo-sdo_of_eight : (a b c d e f g h : ℕ) → a < 256 → b < 256 → c < 256 → d < 256 → e < 256 → f < 256
    → g < 256 → h < 256
    → FitsSdo (sdo_of (a ∷ b ∷ c ∷ d ∷ e ∷ f ∷ g ∷ h ∷ []))
unfolding sdo_of
FitsSdo-sdo_of_eight a b c d e f g h a_fits b_fits c_fits d_fits e_fits f_fits g_fits h_fits =
    let bs : List ℕ = a ∷ b ∷ c ∷ d ∷ e ∷ f ∷ g ∷ h ∷ [] in
    let index : index_of bs < 2 ^ 16 = omega arith in
    let two : from_le_bytes w16 (drop 4 bs) < 2 ^ 16 = omega arith in
    let four : from_le_bytes w32 (drop 4 bs) < 2 ^ 32 = omega arith in
    row FitsSdo (has_command UPLOAD bs && are_zero (drop 4 bs)) _ _ (λ _. (index, d_fits))
    (row FitsSdo (has_command UPLOADED_FOUR bs) _ _ (λ _. (index, d_fits, four))
    (row FitsSdo (has_command UPLOADED_TWO bs && are_zero (drop 6 bs)) _ _ (λ _. (index, d_fits, two))
    (row FitsSdo (has_command UPLOADED_ONE bs && are_zero (drop 5 bs)) _ _ (λ _. (index, d_fits, e_fits))
    (row FitsSdo (has_command DOWNLOAD_FOUR bs) _ _ (λ _. (index, d_fits, four))
    (row FitsSdo (has_command DOWNLOAD_TWO bs && are_zero (drop 6 bs)) _ _ (λ _. (index, d_fits, two))
    (row FitsSdo (has_command DOWNLOAD_ONE bs && are_zero (drop 5 bs)) _ _ (λ _. (index, d_fits, e_fits))
    (row FitsSdo (has_command DOWNLOADED bs && are_zero (drop 4 bs)) _ _ (λ _. (index, d_fits))
    (row FitsSdo (has_command ABORT bs) _ _ (λ _. (index, d_fits, four)) refl))))))))

-- the same of any list of eight bytes
pub FitsSdo-sdo_of : (bs : List ℕ) → length bs ≡ 8 → ((i : ℕ) → get_or bs i 0 < 256) → FitsSdo (sdo_of bs)
FitsSdo-sdo_of bs len fits =
    let elements : bs ≡ map (λ k. get_or bs k 0) (range_with_len 0 8) =
    fill_by_all (λ k. get_or bs k 0) bs 8 0 len (λ k _. refl) in
    let P : List ℕ → Type 0 = λ xs. FitsSdo (sdo_of xs) in
    subst P (sym elements)
    (FitsSdo-sdo_of_eight (get_or bs 0 0) (get_or bs 1 0) (get_or bs 2 0) (get_or bs 3 0) (get_or bs 4 0)
    (get_or bs 5 0) (get_or bs 6 0) (get_or bs 7 0)
    (fits 0) (fits 1) (fits 2) (fits 3) (fits 4) (fits 5) (fits 6) (fits 7))

-- ---- and from the SDO to bytes and back

-- the SDO that an SDO's bytes spell is that SDO
pub sdo_of-sdo_bytes : (sdo : Sdo) → FitsSdo sdo → IsProper sdo → sdo_of (sdo_bytes sdo) ≡ sdo
unfolding sdo_of
sdo_of-sdo_bytes (Upload index sub) fits proper = rw (from_le_bytes-to_le_bytes_2 index fits.0) refl
sdo_of-sdo_bytes (UploadAnswer index sub (One x)) fits proper =
    rw (from_le_bytes-to_le_bytes_2 index fits.0) refl
sdo_of-sdo_bytes (UploadAnswer index sub (Two x)) fits proper =
    rw (from_le_bytes-to_le_bytes_2 index fits.0, from_le_bytes-to_le_bytes_2 x fits.2) refl
sdo_of-sdo_bytes (UploadAnswer index sub (Four x)) fits proper =
    rw (from_le_bytes-to_le_bytes_2 index fits.0, from_le_bytes-to_le_bytes_4 x fits.2) refl
sdo_of-sdo_bytes (Download index sub (One x)) fits proper = rw (from_le_bytes-to_le_bytes_2 index fits.0) refl
sdo_of-sdo_bytes (Download index sub (Two x)) fits proper =
    rw (from_le_bytes-to_le_bytes_2 index fits.0, from_le_bytes-to_le_bytes_2 x fits.2) refl
sdo_of-sdo_bytes (Download index sub (Four x)) fits proper =
    rw (from_le_bytes-to_le_bytes_2 index fits.0, from_le_bytes-to_le_bytes_4 x fits.2) refl
sdo_of-sdo_bytes (DownloadAnswer index sub) fits proper = rw (from_le_bytes-to_le_bytes_2 index fits.0) refl
sdo_of-sdo_bytes (Abort index sub code) fits proper =
    rw (from_le_bytes-to_le_bytes_2 index fits.0, from_le_bytes-to_le_bytes_4 code fits.2) refl
sdo_of-sdo_bytes (Other bytes) fits proper = proper

-- an SDO is spelt in eight bytes
pub length-sdo_bytes : (sdo : Sdo) → FitsSdo sdo → length (sdo_bytes sdo) ≡ 8
length-sdo_bytes (Upload index sub) fits = refl
length-sdo_bytes (UploadAnswer index sub (One x)) fits = refl
length-sdo_bytes (UploadAnswer index sub (Two x)) fits = refl
length-sdo_bytes (UploadAnswer index sub (Four x)) fits = refl
length-sdo_bytes (Download index sub (One x)) fits = refl
length-sdo_bytes (Download index sub (Two x)) fits = refl
length-sdo_bytes (Download index sub (Four x)) fits = refl
length-sdo_bytes (DownloadAnswer index sub) fits = refl
length-sdo_bytes (Abort index sub code) fits = refl
length-sdo_bytes (Other bytes) fits = fits

-- numbers that fit, and as many bytes as an SDO has
pub FitsSdo-FitsNumbers : (sdo : Sdo) → FitsNumbers sdo → length (sdo_bytes sdo) ≡ 8 → FitsSdo sdo
FitsSdo-FitsNumbers (Upload i j) fits size = fits
FitsSdo-FitsNumbers (UploadAnswer i j v) fits size = fits
FitsSdo-FitsNumbers (Download i j v) fits size = fits
FitsSdo-FitsNumbers (DownloadAnswer i j) fits size = fits
FitsSdo-FitsNumbers (Abort i j code) fits size = fits
FitsSdo-FitsNumbers (Other bytes) fits size = size
