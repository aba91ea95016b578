-- The contents of an EEPROM: a head of 64 words, then categories, each with its kind, how many words it has
-- and these words, and at last the kind 0xFFFF; a number has its lowest byte first (ETG.1000.6, slave
-- information interface; ETG.2010).
use Rattle.std.specs.Prelude.{ℕ, ◌+◌, ◌/◌, ◌%◌, ◌==◌, if◌then◌else◌, List, [], ◌∷◌, ◌++◌, length, replicate}
use Rattle.std.specs.Prelude.{codes}
use Rattle.std.specs.List.{flat_map}
use Rattle.std.specs.Int.{w16, w32, to_le_bytes}
use Rattle.ec_sii.specs.Crc.{crc8}
use Rattle.ec_sii.specs.declared.image.Identity.{Identity}
use Rattle.ec_sii.specs.declared.image.Mailboxes.{Mailboxes}
use Rattle.ec_sii.specs.declared.image.SiiContents.{SiiContents}
use Rattle.ec_sii.specs.declared.image.SiiSyncManager.{SiiSyncManager}
use Rattle.ec_sii.specs.declared.image.Pdo.{Pdo}
use Rattle.ec_sii.specs.declared.image.PdoEntry.{PdoEntry}
use Rattle.ec_sii.specs.declared.image.TheConstants.{STRINGS, GENERAL, FMMUS, SYNC_MANAGERS, INPUTS, OUTPUTS}

-- ---- the head

-- words 0 to 6: how the application is connected, all 0 here, the alias, and two reserved words
abbrev pub first_words : ℕ → List ℕ
first_words alias = replicate 8 0 ++ to_le_bytes w16 alias ++ replicate 4 0

-- and word 7 with their checksum
abbrev pub checked_words : ℕ → List ℕ
checked_words alias = first_words alias ++ crc8 (first_words alias) ∷ 0 ∷ []

-- words 8 to 15
abbrev pub identity_bytes : Identity → List ℕ
identity_bytes i =
    to_le_bytes w32 i.vendor ++ to_le_bytes w32 i.product
    ++ to_le_bytes w32 i.revision ++ to_le_bytes w32 i.serial

-- words 24 to 28
abbrev pub mailbox_bytes : Mailboxes → List ℕ
mailbox_bytes m =
    to_le_bytes w16 m.out_start ++ to_le_bytes w16 m.out_length
    ++ to_le_bytes w16 m.in_start ++ to_le_bytes w16 m.in_length ++ to_le_bytes w16 m.protocols

-- words 29 to 63: reserved ones, the size in Kbit less 1, and the version
abbrev pub size_bytes : List ℕ
size_bytes = replicate 66 0 ++ 15 ∷ 0 ∷ 1 ∷ 0 ∷ []

-- all of them; words 16 to 23, of Bootstrap, are 0
abbrev pub head_bytes : SiiContents → List ℕ
head_bytes c =
    checked_words c.alias ++ identity_bytes c.identity ++ replicate 16 0 ++ mailbox_bytes c.mailboxes
    ++ size_bytes

-- ---- categories

-- one that has no byte is left out, and a byte of 0 makes words of bytes that are odd in number
abbrev pub category : ℕ → List ℕ → List ℕ
category kind bytes =
    if length bytes == 0 then [] else to_le_bytes w16 kind
    ++ to_le_bytes w16 (length bytes / 2 + length bytes % 2) ++ bytes ++ replicate (length bytes % 2) 0

-- three texts: the name, and what PDOs are called; a text is told by its number, the name's being 1
abbrev pub text : List ℕ → List ℕ
text letters = length letters ∷ letters

abbrev pub strings_bytes : List ℕ → List ℕ
strings_bytes name = 3 ∷ text name ++ text (codes "Outputs") ++ text (codes "Inputs")

-- 32 bytes: order and name are text 1, the details of CoE, and MII at ports 0 and 1
abbrev pub general_bytes : ℕ → List ℕ
general_bytes details = 0 ∷ 0 ∷ 1 ∷ 1 ∷ 0 ∷ details ∷ replicate 10 0 ++ 0x11 ∷ replicate 15 0

abbrev pub sync_manager_bytes : SiiSyncManager → List ℕ
sync_manager_bytes m =
    to_le_bytes w16 m.start ++ to_le_bytes w16 m.length ++ m.control ∷ 0 ∷ m.enable ∷ m.kind ∷ []

abbrev pub entry_bytes : PdoEntry → List ℕ
entry_bytes e = to_le_bytes w16 e.index ++ e.subindex ∷ 0 ∷ e.kind ∷ e.bits ∷ 0 ∷ 0 ∷ []

-- a PDO, which is called by the text with a number
abbrev pub pdo_bytes : ℕ → Pdo → List ℕ
pdo_bytes name p =
    to_le_bytes w16 p.index ++ length p.entries.items ∷ p.sync_manager ∷ 0 ∷ name ∷ 0 ∷ 0
    ∷ flat_map entry_bytes p.entries.items

-- ---- all of it

abbrev pub device_bytes : SiiContents → List ℕ
device_bytes c =
    category STRINGS (strings_bytes c.name.items) ++ category GENERAL (general_bytes c.coe_details)
    ++ category FMMUS c.fmmus.items
    ++ category SYNC_MANAGERS (flat_map sync_manager_bytes c.sync_managers.items)

abbrev pub process_bytes : SiiContents → List ℕ
process_bytes c =
    category INPUTS (flat_map (pdo_bytes 3) c.inputs.items)
    ++ category OUTPUTS (flat_map (pdo_bytes 2) c.outputs.items)

abbrev pub image_bytes : SiiContents → List ℕ
image_bytes c = head_bytes c ++ device_bytes c ++ process_bytes c ++ 255 ∷ 255 ∷ []
