-- What was made of facts, as it is to be read: the head and each part of the categories
-- (ETG.1000.6, slave information interface; ETG.2010).
use Rattle.std.specs.Prelude.{ℕ, ◌+◌, ◌/◌, ◌%◌, ◌^◌, ◌<◌, ◌==◌, if◌then◌else◌, ⊤, List, [], ◌∷◌, length}
use Rattle.std.specs.List.{flat_map}
use Rattle.ec_sii.specs.Crc.{crc8}
use Rattle.ec_sii.specs.Image.{first_words, general_bytes, pdo_bytes, strings_bytes, sync_manager_bytes}
use Rattle.ec_sii.specs.Image.{text}
use Rattle.ec_sii.specs.declared.categories.General.{General}
use Rattle.ec_sii.specs.declared.categories.NamedEntry.{NamedEntry}
use Rattle.ec_sii.specs.declared.categories.PdoHead.{PdoHead}
use Rattle.ec_sii.specs.declared.categories.Text.{Text}
use Rattle.ec_sii.specs.declared.image.Pdo.{Pdo}
use Rattle.ec_sii.specs.declared.image.PdoEntry.{PdoEntry}
use Rattle.ec_sii.specs.declared.image.SiiContents.{SiiContents}
use Rattle.ec_sii.specs.declared.image.TheConstants.{STRINGS, GENERAL, FMMUS, SYNC_MANAGERS, INPUTS, OUTPUTS}
use Rattle.ec_sii.specs.declared.reading.Category.{Category}
use Rattle.ec_sii.specs.declared.reading.SiiHead.{SiiHead}

-- each number of the head fits what it stands in
abbrev pub HeadFits : SiiContents → Type 0
HeadFits c =
    (c.alias < 2 ^ 16) × (c.identity.vendor < 2 ^ 32) × (c.identity.product < 2 ^ 32)
    × (c.identity.revision < 2 ^ 32) × (c.identity.serial < 2 ^ 32) × (c.mailboxes.out_start < 2 ^ 16)
    × (c.mailboxes.out_length < 2 ^ 16) × (c.mailboxes.in_start < 2 ^ 16)
    × (c.mailboxes.in_length < 2 ^ 16) × (c.mailboxes.protocols < 2 ^ 16)

-- the head, with a checksum that fits, 16 Kbit and version 1
abbrev pub made_head : SiiContents → SiiHead
made_head c = record {
  alias = c.alias;
  checksum = crc8 (first_words c.alias);
  computed = crc8 (first_words c.alias);
  identity = c.identity;
  mailboxes = c.mailboxes;
  size = 15;
  version = 1;
}

-- a category of some bytes that was put at a place: it has whole words
abbrev pub made_category : ℕ → List ℕ → ℕ → Category
made_category kind bytes at = record {
  kind = kind;
  from = at + 4;
  length = length bytes + length bytes % 2;
}

-- what is put behind the head: kinds and bytes, in their order
abbrev pub parts_of : SiiContents → List (ℕ × List ℕ)
parts_of c =
    (STRINGS, strings_bytes c.name.items) ∷ (GENERAL, general_bytes c.coe_details) ∷ (FMMUS, c.fmmus.items)
    ∷ (SYNC_MANAGERS, flat_map sync_manager_bytes c.sync_managers.items)
    ∷ (INPUTS, flat_map (pdo_bytes 3) c.inputs.items) ∷ (OUTPUTS, flat_map (pdo_bytes 2) c.outputs.items) ∷ []

-- each of them has at most 65,535 words
abbrev pub PartsFit : List (ℕ × List ℕ) → Type 0
PartsFit [] = ⊤
PartsFit (part ∷ more) = (length part.1 / 2 + length part.1 % 2 < 2 ^ 16) × PartsFit more

-- the categories that they are from a place on, without those that have no byte
abbrev pub made_categories : ℕ → List (ℕ × List ℕ) → List Category
made_categories at [] = []
made_categories at (part ∷ more) =
    let c = made_category part.0 part.1 at in
    if length part.1 == 0 then made_categories at more else c ∷ made_categories (c.from + c.length) more

-- a text behind others in the category STRINGS
abbrev pub made_text : List (List ℕ) → List ℕ → Text
made_text before letters = record {
  from = 2 + length (flat_map text before);
  length = length letters;
}

-- the category General
abbrev pub made_general : ℕ → General
made_general details = record {
  group = 0;
  image = 0;
  order = 1;
  name = 1;
  coe_details = details;
  foe_details = 0;
  eoe_details = 0;
  flags = 0;
  current = 0;
  ports = 0x11;
}

-- a PDO that was put at a place, and called by the text with a number
abbrev pub made_pdo : ℕ → Pdo → ℕ → PdoHead
made_pdo name p at = record {
  index = p.index;
  count = length p.entries.items;
  sync_manager = p.sync_manager;
  sync = 0;
  name = name;
  flags = 0;
  from = at + 8;
  next = at + length (pdo_bytes name p);
}

abbrev pub made_entry : PdoEntry → NamedEntry
made_entry e = record { entry = e; name = 0 }
