-- What the bytes of an EEPROM tell, whoever wrote them and wherever they end: a head of 64 words, and behind
-- it categories, each with its kind, how many words it has and these words; a number has its lowest byte
-- first (ETG.1000.6, slave information interface; ETG.2010).
use Rattle.std.specs.Prelude.{◌≡◌, ℕ, zero, suc, ◌+◌, ◌-◌, ◌*◌, Bool, ◌==◌, ◌||◌, not, nat_le, nat_lt}
use Rattle.std.specs.Prelude.{if◌then◌else◌, Option, None, Some, Result, Ok, Err, List, [], ◌∷◌, length}
use Rattle.std.specs.Prelude.{slice_index, take}
use Rattle.ec_sii.specs.Crc.{crc8}
use Rattle.ec_sii.specs.declared.categories.General.{General}
use Rattle.ec_sii.specs.declared.categories.NamedEntry.{NamedEntry}
use Rattle.ec_sii.specs.declared.categories.PdoHead.{PdoHead}
use Rattle.ec_sii.specs.declared.categories.Text.{Text}
use Rattle.ec_sii.specs.declared.categories.TheConstants.{GENERAL_READ, RECORD}
use Rattle.ec_sii.specs.declared.image.Identity.{Identity}
use Rattle.ec_sii.specs.declared.image.Mailboxes.{Mailboxes}
use Rattle.ec_sii.specs.declared.image.SiiSyncManager.{SiiSyncManager}
use Rattle.ec_sii.specs.declared.reading.Category.{Category}
use Rattle.ec_sii.specs.declared.reading.SiiFault.{SiiFault}
use Rattle.ec_sii.specs.declared.reading.SiiFault.TheVariants.{Short, CutCategory, CutPdo}
use Rattle.ec_sii.specs.declared.reading.SiiHead.{SiiHead}
use Rattle.ec_sii.specs.declared.reading.TheConstants.{CHECKED, END_KIND, HEAD}

-- ---- places

-- so many bytes from a place on are there
abbrev pub has : List ℕ → ℕ → ℕ → Bool
has bytes at count = nat_le (at + count) (length bytes)

-- the numbers of two and of four bytes from a place on
abbrev pub word_at : List ℕ → ℕ → ℕ
word_at bytes at = slice_index bytes at + 256 * slice_index bytes (at + 1)

abbrev pub double_at : List ℕ → ℕ → ℕ
double_at bytes at =
    slice_index bytes at + 256 * slice_index bytes (at + 1) + 65536 * slice_index bytes (at + 2)
    + 16777216 * slice_index bytes (at + 3)

-- ---- the head

abbrev pub identity_in : List ℕ → Identity
identity_in bytes = record {
  vendor = double_at bytes 16;
  product = double_at bytes 20;
  revision = double_at bytes 24;
  serial = double_at bytes 28;
}

abbrev pub mailboxes_in : List ℕ → Mailboxes
mailboxes_in bytes = record {
  out_start = word_at bytes 48;
  out_length = word_at bytes 50;
  in_start = word_at bytes 52;
  in_length = word_at bytes 54;
  protocols = word_at bytes 56;
}

-- what stands in 64 words
abbrev pub head_of : List ℕ → SiiHead
head_of bytes = record {
  alias = word_at bytes 8;
  checksum = slice_index bytes CHECKED;
  computed = crc8 (take CHECKED bytes);
  identity = identity_in bytes;
  mailboxes = mailboxes_in bytes;
  size = word_at bytes 124;
  version = word_at bytes 126;
}

abbrev pub head_in : List ℕ → Result SiiHead SiiFault
head_in bytes = if nat_lt (length bytes) HEAD then Err Short else Ok (head_of bytes)

-- ---- categories

-- the category at a place: the rows in their order; its size is counted in words
unfoldable pub category_at : List ℕ → ℕ → Result (Option Category) SiiFault
category_at bytes at =
    let size = 2 * word_at bytes (at + 2) in
    if nat_le (length bytes) at then Ok None else
    (if not (has bytes at 2) then Err CutCategory else
    (if word_at bytes at == END_KIND then Ok None else
    (if not (has bytes at 4) then Err CutCategory else
    (if not (has bytes (at + 4) size) then Err CutCategory else
    Ok (Some (record { kind = word_at bytes at; from = at + 4; length = size }))))))

-- these are the categories from a place on, one behind the other, and then they end
abbrev pub AreCategories : List ℕ → ℕ → List Category → Type 0
AreCategories bytes at [] = category_at bytes at ≡ Ok None
AreCategories bytes at (c ∷ more) =
    (category_at bytes at ≡ Ok (Some c)) × AreCategories bytes (c.from + c.length) more

-- ---- what categories tell

-- the place behind so many texts from a place on, each with its length before its letters
abbrev pub text_place : List ℕ → ℕ → ℕ → ℕ
text_place bytes at zero = at
text_place bytes at (suc passed) = text_place bytes (at + 1 + slice_index bytes at) passed

-- the text with a number; the first byte tells how many there are
unfoldable pub text_at : List ℕ → ℕ → Option Text
text_at bytes number =
    let place = text_place bytes 1 (number - 1) in
    if number == 0 || nat_lt (slice_index bytes 0) number then None else
    (if not (has bytes place (1 + slice_index bytes place)) then None else
    Some (record { from = place + 1; length = slice_index bytes place }))

abbrev pub general_of : List ℕ → General
general_of bytes = record {
  group = slice_index bytes 0;
  image = slice_index bytes 1;
  order = slice_index bytes 2;
  name = slice_index bytes 3;
  coe_details = slice_index bytes 5;
  foe_details = slice_index bytes 6;
  eoe_details = slice_index bytes 7;
  flags = slice_index bytes 11;
  current = word_at bytes 12;
  ports = word_at bytes 16;
}

abbrev pub general_in : List ℕ → Option General
general_in bytes = if nat_lt (length bytes) GENERAL_READ then None else Some (general_of bytes)

-- the sync manager in the eight bytes from a place on
abbrev pub manager_of : List ℕ → ℕ → SiiSyncManager
manager_of bytes at = record {
  start = word_at bytes at;
  length = word_at bytes (at + 2);
  control = slice_index bytes (at + 4);
  enable = slice_index bytes (at + 6);
  kind = slice_index bytes (at + 7);
}

abbrev pub sync_manager_at : List ℕ → ℕ → Option SiiSyncManager
sync_manager_at bytes at = if has bytes at RECORD then Some (manager_of bytes at) else None

-- the PDO whose head is the eight bytes from a place on, and whose entries, eight bytes each, follow
abbrev pub pdo_of : List ℕ → ℕ → PdoHead
pdo_of bytes at = record {
  index = word_at bytes at;
  count = slice_index bytes (at + 2);
  sync_manager = slice_index bytes (at + 3);
  sync = slice_index bytes (at + 4);
  name = slice_index bytes (at + 5);
  flags = word_at bytes (at + 6);
  from = at + RECORD;
  next = at + RECORD + RECORD * slice_index bytes (at + 2);
}

unfoldable pub pdo_at : List ℕ → ℕ → Result (Option PdoHead) SiiFault
pdo_at bytes at =
    if nat_le (length bytes) at then Ok None else
    (if not (has bytes at RECORD) then Err CutPdo else
    (if not (has bytes (at + RECORD) (RECORD * slice_index bytes (at + 2))) then Err CutPdo else
    Ok (Some (pdo_of bytes at))))

-- the entry in the eight bytes from a place on
abbrev pub entry_of : List ℕ → ℕ → NamedEntry
entry_of bytes at = record {
  entry = record {
    index = word_at bytes at;
    subindex = slice_index bytes (at + 2);
    kind = slice_index bytes (at + 4);
    bits = slice_index bytes (at + 5);
  };
  name = slice_index bytes (at + 3);
}

abbrev pub entry_at : List ℕ → ℕ → Option NamedEntry
entry_at bytes at = if has bytes at RECORD then Some (entry_of bytes at) else None
