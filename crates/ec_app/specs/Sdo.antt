-- An SDO is eight bytes: a command, the object's index with its low byte first, its subindex, and four bytes
-- of data; data bytes that a command does not use are 0 (IEC 61158-6-12, SDO services, expedited).
use Rattle.std.specs.Prelude.{◌≡◌, ℕ, ◌+◌, ◌<◌, ◌^◌, Bool, ◌==◌, ◌&&◌, List, [], ◌∷◌, ◌++◌, drop, slice_index}
use Rattle.std.specs.Prelude.{length}
use Rattle.std.specs.List.{list_all}
use Rattle.std.specs.Int.{w16, w32, to_le_bytes, from_le_bytes}
use Rattle.ec_app.specs.Table.{first_fitting}
use Rattle.ec_app.specs.Value.{FitsValue}
use Rattle.ec_app.specs.declared.value.Value.{Value}
use Rattle.ec_app.specs.declared.value.Value.TheVariants.{One, Two, Four}
use Rattle.ec_app.specs.declared.sdo.Sdo.{Sdo}
use Rattle.ec_app.specs.declared.sdo.Sdo.TheVariants.{Upload, UploadAnswer, Download, DownloadAnswer, Abort}
use Rattle.ec_app.specs.declared.sdo.Sdo.TheVariants.{Other}
use Rattle.ec_app.specs.declared.sdo.TheConstants.{INDEX_AT, SUB_AT, DATA_AT, UPLOAD, UPLOADED_FOUR}
use Rattle.ec_app.specs.declared.sdo.TheConstants.{UPLOADED_TWO, UPLOADED_ONE, DOWNLOAD_FOUR, DOWNLOAD_TWO}
use Rattle.ec_app.specs.declared.sdo.TheConstants.{DOWNLOAD_ONE, DOWNLOADED, ABORT}

-- ---- from the SDO to its bytes

-- a value, and zeros up to four bytes
abbrev pub value_bytes : Value → List ℕ
value_bytes (One x) = x ∷ 0 ∷ 0 ∷ 0 ∷ []
value_bytes (Two x) = to_le_bytes w16 x ++ 0 ∷ 0 ∷ []
value_bytes (Four x) = to_le_bytes w32 x

-- the command of an upload's answer, and of a download, with a value of this length
abbrev pub uploaded : Value → ℕ
uploaded (One _) = UPLOADED_ONE
uploaded (Two _) = UPLOADED_TWO
uploaded (Four _) = UPLOADED_FOUR

abbrev pub download : Value → ℕ
download (One _) = DOWNLOAD_ONE
download (Two _) = DOWNLOAD_TWO
download (Four _) = DOWNLOAD_FOUR

-- no data
abbrev pub no_data : List ℕ
no_data = 0 ∷ 0 ∷ 0 ∷ 0 ∷ []

-- command, index, subindex and data
abbrev pub spelt : ℕ → ℕ → ℕ → List ℕ → List ℕ
spelt command index sub payload = command ∷ (to_le_bytes w16 index ++ sub ∷ payload)

-- the bytes that spell an SDO
abbrev pub sdo_bytes : Sdo → List ℕ
sdo_bytes (Upload index sub) = spelt UPLOAD index sub no_data
sdo_bytes (UploadAnswer index sub value) = spelt (uploaded value) index sub (value_bytes value)
sdo_bytes (Download index sub value) = spelt (download value) index sub (value_bytes value)
sdo_bytes (DownloadAnswer index sub) = spelt DOWNLOADED index sub no_data
sdo_bytes (Abort index sub code) = spelt ABORT index sub (to_le_bytes w32 code)
sdo_bytes (Other bytes) = bytes

-- ---- and back

-- the fields of eight bytes
abbrev pub index_of : List ℕ → ℕ
index_of bs = from_le_bytes w16 (drop INDEX_AT bs)

abbrev pub sub_of : List ℕ → ℕ
sub_of bs = slice_index bs SUB_AT

-- the value of the data by its length
abbrev pub one_of : List ℕ → Value
one_of bs = One (slice_index bs DATA_AT)

abbrev pub two_of : List ℕ → Value
two_of bs = Two (from_le_bytes w16 (drop DATA_AT bs))

abbrev pub four_of : List ℕ → Value
four_of bs = Four (from_le_bytes w32 (drop DATA_AT bs))

-- are these bytes 0
abbrev pub are_zero : List ℕ → Bool
are_zero bs = list_all (λ b. b == 0) bs

-- is the command this one
abbrev pub has_command : ℕ → List ℕ → Bool
has_command command bs = slice_index bs 0 == command

-- the rows of commands, each with the SDO that it spells
abbrev pub sdo_rows : List ℕ → List (Bool × Sdo)
sdo_rows bs =
    let i = index_of bs in
    let j = sub_of bs in
    (has_command UPLOAD bs && are_zero (drop DATA_AT bs), Upload i j)
    ∷ (has_command UPLOADED_FOUR bs, UploadAnswer i j (four_of bs))
    ∷ (has_command UPLOADED_TWO bs && are_zero (drop (DATA_AT + 2) bs), UploadAnswer i j (two_of bs))
    ∷ (has_command UPLOADED_ONE bs && are_zero (drop (DATA_AT + 1) bs), UploadAnswer i j (one_of bs))
    ∷ (has_command DOWNLOAD_FOUR bs, Download i j (four_of bs))
    ∷ (has_command DOWNLOAD_TWO bs && are_zero (drop (DATA_AT + 2) bs), Download i j (two_of bs))
    ∷ (has_command DOWNLOAD_ONE bs && are_zero (drop (DATA_AT + 1) bs), Download i j (one_of bs))
    ∷ (has_command DOWNLOADED bs && are_zero (drop DATA_AT bs), DownloadAnswer i j)
    ∷ (has_command ABORT bs, Abort i j (from_le_bytes w32 (drop DATA_AT bs)))
    ∷ []

-- the SDO that eight bytes spell
unfoldable pub sdo_of : List ℕ → Sdo
sdo_of bs = first_fitting (sdo_rows bs) (Other bs)

-- ---- which SDOs are spelt

-- the bytes of an `Other` fit no other row of the table
abbrev pub IsProper : Sdo → Type 0
IsProper (Other bytes) = sdo_of bytes ≡ Other bytes
IsProper _ = Unit {0}

-- the SDO's numbers fit their fields, and an `Other` is eight bytes
abbrev pub FitsSdo : Sdo → Type 0
FitsSdo (Upload index sub) = (index < 2 ^ 16) × (sub < 2 ^ 8)
FitsSdo (UploadAnswer index sub value) = (index < 2 ^ 16) × (sub < 2 ^ 8) × FitsValue value
FitsSdo (Download index sub value) = (index < 2 ^ 16) × (sub < 2 ^ 8) × FitsValue value
FitsSdo (DownloadAnswer index sub) = (index < 2 ^ 16) × (sub < 2 ^ 8)
FitsSdo (Abort index sub code) = (index < 2 ^ 16) × (sub < 2 ^ 8) × (code < 2 ^ 32)
FitsSdo (Other bytes) = length bytes ≡ 8

-- the SDO's numbers fit their fields; an `Other` has none
abbrev pub FitsNumbers : Sdo → Type 0
FitsNumbers (Other _) = Unit {0}
FitsNumbers sdo = FitsSdo sdo

-- ---- what an SDO names

-- the index and the subindex, also of an `Other`, whose bytes have them at their places
abbrev pub index : Sdo → ℕ
index (Upload i _) = i
index (UploadAnswer i _ _) = i
index (Download i _ _) = i
index (DownloadAnswer i _) = i
index (Abort i _ _) = i
index (Other bytes) = index_of bytes

abbrev pub sub : Sdo → ℕ
sub (Upload _ j) = j
sub (UploadAnswer _ j _) = j
sub (Download _ j _) = j
sub (DownloadAnswer _ j) = j
sub (Abort _ j _) = j
sub (Other bytes) = sub_of bytes
