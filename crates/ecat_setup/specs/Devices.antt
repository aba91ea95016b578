-- What a device tells of itself, made of what a scene says of it: its EEPROM and its alias (ETG.1000.6 and
-- ETG.2010, slave information interface).
use Rattle.std.specs.Prelude.{◌≡◌, ℕ, ◌+◌, ◌*◌, ◌-◌, ◌^◌, ◌%◌, Bool, true, false, not, ◌==◌, ◌&&◌}
use Rattle.std.specs.Prelude.{nat_lt, nat_le, if◌then◌else◌, List, [], ◌∷◌, ◌++◌, length, filter, map}
use Rattle.std.specs.Prelude.{Option, None, Some, slice_get, slice_set, slice_index, replicate, take, drop}
use Rattle.std.specs.Prelude.{codes, min, max, unwrap_or}
use Rattle.std.specs.Fmt.{decimal}
use Rattle.std.specs.Int.{w16, from_le_bytes}
use Rattle.ec_app.specs.Objects.{has_index}
use Rattle.ec_app.specs.declared.objects.Entry.{Entry}
use Rattle.ec_applications.specs.declared.eeproms.PlacedEeprom.{PlacedEeprom}
use Rattle.ec_regs.specs.declared.al.AlState.TheVariants.{Init}
use Rattle.ec_regs.specs.declared.sync_man.SyncMan.{SyncMan}
use Rattle.ec_sii.specs.Eeprom.{byte_at}
use Rattle.ec_sii.specs.declared.image.Identity.{Identity}
use Rattle.ec_sii.specs.declared.image.Mailboxes.{Mailboxes}
use Rattle.ec_sii.specs.Image.{image_bytes}
use Rattle.ec_sii.specs.declared.image.SiiContents.{SiiContents}
use Rattle.ec_sii.specs.declared.image.SiiSyncManager.{SiiSyncManager}
use Rattle.ecat_scene.specs.Scene.{SettingRecord, SlaveRecord}
use Rattle.ecat_scene.specs.Scene.SettingRecord.{SyncManAt, FmmuAt, LoadAt}
use Rattle.ecat_scene.specs.declared.scene.SlaveKind.{SlaveKind}
use Rattle.ecat_scene.specs.declared.scene.SlaveKind.TheVariants.{Unsaid, Plain, Device}
use Rattle.ecat_setup.specs.ProcessData.{MappedPdo, inputs, mapped_pdo, number_at, objects_for, outputs}
use Rattle.ecat_setup.specs.ProcessData.{pdos_of}

-- ---- which slaves are devices, and how they begin

abbrev pub is_unsaid : SlaveKind → Bool
is_unsaid Unsaid = true
is_unsaid Plain = false
is_unsaid Device = false

abbrev pub is_device : SlaveKind → Bool
is_device Unsaid = false
is_device Plain = false
is_device Device = true

-- one of which no line says what it tells becomes a device
abbrev pub as_device : SlaveRecord → SlaveRecord
as_device s = if is_unsaid s.kind then record s { kind = Device } else s

-- bytes of process memory
abbrev pub is_load : SettingRecord → Bool
is_load (SyncManAt _ _) = false
is_load (FmmuAt _ _) = false
is_load (LoadAt _ _) = true

-- a device that was just switched on: in Init, without a station address, sync managers and FMMUs; process
-- memory has what lines put there
abbrev pub switched_on : SlaveRecord → SlaveRecord
switched_on s =
    if is_device s.kind
    then record s { station = 0; state = Init; settings = filter is_load s.settings }
    else s

-- the alias that contents tell: word 4
abbrev pub alias_of : List ℕ → ℕ
alias_of contents = from_le_bytes w16 (byte_at contents 8 ∷ byte_at contents 9 ∷ [])

-- a slave with the alias of these contents, if they reach as far
abbrev pub with_alias_of : List ℕ → SlaveRecord → SlaveRecord
with_alias_of contents s = if nat_le 10 (length contents) then record s { alias = alias_of contents } else s

-- the slaves, where the one at a place, if there is one, is changed
abbrev pub placed : (SlaveRecord → SlaveRecord) → List SlaveRecord → ℕ → Option SlaveRecord → List SlaveRecord
placed change all place None = all
placed change all place (Some s) = slice_set all place (change s)

abbrev pub alias_taken : PlacedEeprom → List SlaveRecord → List SlaveRecord
alias_taken one all = placed (with_alias_of one.eeprom) all one.place (slice_get all one.place)

-- one EEPROM after the other
abbrev pub aliases_taken : List PlacedEeprom → List SlaveRecord → List SlaveRecord
aliases_taken [] all = all
aliases_taken (one ∷ more) all = aliases_taken more (alias_taken one all)

-- ---- who it is

-- who made the device at a place and what it is, as its objects say, or else made up
abbrev pub made_identity : ℕ → SlaveRecord → Identity
made_identity place s = record {
  vendor = unwrap_or (number_at s.objects 0x1018 1) 0xECA7;
  product = unwrap_or (number_at s.objects 0x1018 2) (if s.simple then 1 else 2);
  revision = unwrap_or (number_at s.objects 0x1018 3) 1;
  serial = unwrap_or (number_at s.objects 0x1018 4) (place % 2 ^ 16 + 1);
}

-- a line says it before
abbrev pub identity_of : ℕ → SlaveRecord → Identity
identity_of place s = unwrap_or s.identity (made_identity place s)

-- its name, by its place where no line says one
abbrev pub name_of : ℕ → SlaveRecord → List ℕ
name_of place s = if length s.name == 0 then codes "Slave " ++ decimal place else s.name

-- ---- what it has

-- the last setting of the sync manager with a number
abbrev pub found_by : ℕ → Option SyncMan → SettingRecord → Option SyncMan
found_by number found (SyncManAt index record') = if index == number then Some record' else found
found_by number found (FmmuAt _ _) = found
found_by number found (LoadAt _ _) = found

abbrev pub last_found : ℕ → Option SyncMan → List SettingRecord → Option SyncMan
last_found number found [] = found
last_found number found (setting ∷ more) = last_found number (found_by number found setting) more

abbrev pub manager_of : SlaveRecord → ℕ → Option SyncMan
manager_of s number = last_found number None s.settings

-- first byte and length of a mailbox: 128 bytes where no line sets it
abbrev pub area_of : ℕ → Option SyncMan → ℕ × ℕ
area_of start None = (start, 128)
area_of start (Some manager) = (manager.start, manager.length)

abbrev pub mailbox_of : SlaveRecord → ℕ → ℕ → ℕ × ℕ
mailbox_of s number start = area_of start (manager_of s number)

-- one that carries CoE
abbrev pub coe_mailboxes : ℕ × ℕ → ℕ × ℕ → Mailboxes
coe_mailboxes out in' = record {
  out_start = out.0;
  out_length = out.1;
  in_start = in'.0;
  in_length = in'.1;
  protocols = 4;
}

abbrev pub no_mailboxes : Mailboxes
no_mailboxes = record { out_start = 0; out_length = 0; in_start = 0; in_length = 0; protocols = 0 }

abbrev pub mailboxes_of : SlaveRecord → Mailboxes
mailboxes_of s =
    if s.simple then no_mailboxes
    else coe_mailboxes (mailbox_of s 0 0x1800) (mailbox_of s 1 0x1C00)

-- outputs at 0x1000, and inputs at 0x1100 or behind longer outputs
abbrev pub start_unset : ℕ → ℕ → ℕ
start_unset outputs number = if number == 2 then 0x1000 else min (0x1000 + max outputs 0x100) (2 ^ 16 - 1)

-- unless a line sets the sync manager
abbrev pub start_by : ℕ → Option SyncMan → ℕ
start_by start None = start
start_by start (Some manager) = manager.start

abbrev pub start_of : SlaveRecord → ℕ → ℕ
start_of s number = start_by (start_unset s.output_length number) (manager_of s number)

-- what each FMMU is for: 1 outputs, 2 inputs, 3 the state of a mailbox
abbrev pub fmmus_of : SlaveRecord → List ℕ
fmmus_of s =
    (if nat_lt 0 s.output_length then 1 ∷ [] else [])
    ++ (if nat_lt 0 s.input_length then 2 ∷ [] else [])
    ++ (if s.simple then [] else 3 ∷ [])

-- a sync manager that is used, or not
abbrev pub if_used : Bool → ℕ → ℕ
if_used is_used n = if is_used then n else 0

-- one of process data, which is enabled where there is some
abbrev pub buffered : ℕ → ℕ → ℕ → ℕ → SiiSyncManager
buffered start length' control kind = record {
  start = start;
  length = length';
  control = control;
  enable = if_used (nat_lt 0 length') 1;
  kind = kind;
}

-- mailbox that the master writes, mailbox that it reads, outputs and inputs
abbrev pub sync_managers_of : SlaveRecord → List SiiSyncManager
sync_managers_of s =
    record {
      start = (mailboxes_of s).out_start;
      length = (mailboxes_of s).out_length;
      control = if_used (not s.simple) 0x26;
      enable = if_used (not s.simple) 1;
      kind = if_used (not s.simple) 1;
    }
    ∷ record {
      start = (mailboxes_of s).in_start;
      length = (mailboxes_of s).in_length;
      control = if_used (not s.simple) 0x22;
      enable = if_used (not s.simple) 1;
      kind = if_used (not s.simple) 2;
    }
    ∷ buffered (start_of s 2) s.output_length 0x64 3
    ∷ buffered (start_of s 3) s.input_length 0x20 4
    ∷ []

-- ---- its objects

-- how many objects an index has that the device gets, where its scene lists none there
abbrev pub wanted_at : List Entry → ℕ → ℕ → ℕ
wanted_at objects index count = if has_index index objects then 0 else count

-- how many the device gets
abbrev pub objects_wanted : List Entry → List MappedPdo → List MappedPdo → ℕ
objects_wanted objects outs ins =
    wanted_at objects 0x1000 1 + wanted_at objects 0x1018 5 + wanted_at objects 0x1C00 5
    + objects_for objects outputs outs + objects_for objects inputs ins

-- is there room for them beside those that its scene lists
abbrev pub lists_fit : List Entry → List MappedPdo → List MappedPdo → Bool
lists_fit objects outs ins = nat_le (objects_wanted objects outs ins + length objects) 32

-- the details of CoE: 1 SDOs, and 4 lists of PDOs that can be written, added; none without mailboxes
abbrev pub details_of : SlaveRecord → List MappedPdo → List MappedPdo → ℕ
details_of s outs ins = if s.simple then 0 else (if lists_fit s.objects outs ins then 5 else 1)

-- ---- its EEPROM

-- contents that tell the device at a place
pub record Tells (place : ℕ) (s : SlaveRecord) (c : SiiContents) : Type 0 where
  pub alias : c.alias ≡ s.alias
  pub identity : c.identity ≡ identity_of place s
  pub mailboxes : c.mailboxes ≡ mailboxes_of s
  pub name : c.name.items ≡ name_of place s
  pub coe_details : c.coe_details ≡ details_of s (pdos_of outputs s) (pdos_of inputs s)
  pub fmmus : c.fmmus.items ≡ fmmus_of s
  pub sync_managers : c.sync_managers.items ≡ sync_managers_of s
  pub inputs : map mapped_pdo c.inputs.items ≡ pdos_of inputs s
  pub outputs : map mapped_pdo c.outputs.items ≡ pdos_of outputs s

-- contents that reach up to an end at the least: 0xFF behind theirs, as in an EEPROM that is empty there
abbrev pub reaching : ℕ → List ℕ → List ℕ
reaching end contents = contents ++ replicate (end - length contents) 0xFF

-- bytes from a place on
abbrev pub over : ℕ → List ℕ → List ℕ → List ℕ
over at bytes contents = take at contents ++ bytes ++ drop (at + length bytes) contents

-- the bytes of a line over contents: they begin at a word
abbrev pub line_put : ℕ × List ℕ → List ℕ → List ℕ
line_put line contents =
    over (2 * line.0) line.1 (reaching (2 * line.0 + length line.1) contents)

-- one line after the other
abbrev pub lines_put : List (ℕ × List ℕ) → List ℕ → List ℕ
lines_put [] contents = contents
lines_put (line ∷ more) contents = lines_put more (line_put line contents)

-- the EEPROM of the device at a place: what tells it, and the bytes of its lines over that
abbrev pub IsEepromOf : ℕ → SlaveRecord → List ℕ → Type 0
IsEepromOf place s eeprom =
    (c : SiiContents) × Tells place s c × (eeprom ≡ lines_put s.sii (image_bytes c))

-- ---- its alias

-- do the bytes of a line cover word 4
abbrev pub tells_alias : ℕ × List ℕ → Bool
tells_alias line = nat_le (2 * line.0) 8 && nat_le 10 (2 * line.0 + length line.1)

-- the alias that they tell then
abbrev pub alias_by : ℕ → ℕ × List ℕ → ℕ
alias_by said line =
    if tells_alias line
    then from_le_bytes w16
    (slice_index line.1 (8 - 2 * line.0) ∷ slice_index line.1 (9 - 2 * line.0) ∷ [])
    else said

-- the last line that tells one
abbrev pub alias_in : ℕ → List (ℕ × List ℕ) → ℕ
alias_in said [] = said
alias_in said (line ∷ more) = alias_in (alias_by said line) more
