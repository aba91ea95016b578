-- What the words of a line say: each kind, direction, right, state, value and row of bytes is read as one
-- thing, or at fault. The tests of one line run in the order of its words, those of the ranges behind them.
use Rattle.std.specs.Prelude.{ℕ, ◌+◌, ◌*◌, ◌^◌, ◌≡◌, ◌==◌, ◌||◌, Bool, nat_lt, if◌then◌else◌}
use Rattle.std.specs.Prelude.{List, [], ◌∷◌, ◌++◌, Option, None, Some, is_some, Result, Ok, Err, codes}
use Rattle.std.specs.Prelude.{length, take, drop, position}
use Rattle.std.specs.List.{flat_map}
use Rattle.std.specs.Str.{bytes_eq, is_utf8}
use Rattle.hex.specs.Hex.{decode_of}
use Rattle.hex.specs.declared.error.FromHexError.{FromHexError}
use Rattle.ec_app.specs.declared.value.Rights.{Rights}
use Rattle.ec_app.specs.declared.value.Rights.TheVariants.{ReadOnly, WriteOnly, Both}
use Rattle.ec_app.specs.declared.value.Value.{Value}
use Rattle.ec_app.specs.declared.value.Value.TheVariants.{One, Two, Four}
use Rattle.ec_map.specs.Item.{item_fault, ItemRecord, new_item}
use Rattle.ec_map.specs.declared.kind.ItemFault.{ItemFault}
use Rattle.ec_regs.specs.Al.{state_of as state_of_code}
use Rattle.ec_regs.specs.declared.registers.TheConstants.{FMMU_COUNT, MEMORY_SIZE, PROCESS_MEMORY}
use Rattle.ec_regs.specs.declared.registers.TheConstants.{SYNC_MANAGER_COUNT}
use Rattle.ec_regs.specs.declared.fmmu.Fmmu.{Fmmu}
use Rattle.ec_regs.specs.declared.sync_man.SyncMan.{SyncMan}
use Rattle.ec_regs.specs.declared.al.AlState.{AlState}
use Rattle.ec_sii.specs.declared.image.Identity.{Identity}
use Rattle.ec_wire.specs.Datagram.{address_of}
use Rattle.ec_wire.specs.declared.kind.Kind.{Kind}
use Rattle.ecat_scene.specs.declared.fault.LineFault.{LineFault}
use Rattle.ecat_scene.specs.declared.fault.LineFault.TheVariants.{BadNumber, OutOfRange, TooMany}
use Rattle.ecat_scene.specs.declared.fault.Stop.{Stop}
use Rattle.ecat_scene.specs.declared.fault.Stop.TheVariants.{Fault, NoMemory}
use Rattle.ecat_scene.specs.declared.scene.ScenePdoEntry.{ScenePdoEntry}
use Rattle.ecat_scene.specs.declared.scene.StartupObject.{StartupObject}
use Rattle.ecat_scene.specs.declared.scene.TheConstants.{MAX_EEPROM, MAX_NAME, MAX_PDO_ENTRIES}
use Rattle.ecat_scene.specs.declared.written.AreaKind.{AreaKind}
use Rattle.ecat_scene.specs.declared.written.AreaKind.TheVariants.{MailboxWrite, MailboxRead, Write, Read}
use Rattle.ecat_scene.specs.declared.written.Through.{Through}
use Rattle.ecat_scene.specs.declared.written.Through.TheVariants.{Reads, Writes, ReadsAndWrites}
use Rattle.ecat_scene.specs.Fields.{active_fmmu, enabled_sync_man, fitting, wire_value}
use Rattle.ecat_scene.specs.Numbers.{digit_of, number_of}
use Rattle.ecat_scene.specs.Scene.{PdoRecord}

-- ---- steps that may be at fault

infixl 10 ◌>>=◌
abbrev pub ◌>>=◌ : {A B : Type 0} → Result A LineFault → (A → Result B LineFault) → Result B LineFault
(Ok x) >>= f = f x
(Err fault) >>= f = Err fault

-- what was read, seen by view
abbrev pub seen : {A B : Type 0} → (A → B) → Result A LineFault → Result B LineFault
seen view (Ok x) = Ok (view x)
seen view (Err fault) = Err fault

-- what a function answered, seen by view, is what reading gives, unless memory ran out
abbrev pub Stops : {Y : Type 0} → Stop → Result Y LineFault → Type 0
Stops (Fault fault) read = read ≡ Err fault
Stops NoMemory read = Unit {0}

abbrev pub Gives : {X Y : Type 0} → (X → Y) → Result X Stop → Result Y LineFault → Type 0
Gives view (Ok x) read = read ≡ Ok (view x)
Gives view (Err stop) read = Stops stop read

-- ---- words

-- a word as text, an empty one where it is no UTF-8
abbrev pub text_in : List ℕ → List ℕ
text_in word = if is_utf8 word then word else []

-- the kind of a sync manager's area
abbrev pub area_of : List ℕ → Result AreaKind LineFault
area_of word =
    if bytes_eq word (codes "mailbox-write") then Ok MailboxWrite
    else if bytes_eq word (codes "mailbox-read") then Ok MailboxRead
    else if bytes_eq word (codes "write") then Ok Write
    else if bytes_eq word (codes "read") then Ok Read
    else Err BadNumber

-- the control byte of an area of this kind: bit 1 for a mailbox, bit 2 where the master writes (IEC
-- 61158-4-12, sync manager entity)
abbrev pub control_bits : AreaKind → ℕ
control_bits MailboxWrite = 6
control_bits MailboxRead = 2
control_bits Write = 4
control_bits Read = 0

-- what the master does through an FMMU
abbrev pub through_of : List ℕ → Result Through LineFault
through_of word =
    if bytes_eq word (codes "read") then Ok Reads
    else if bytes_eq word (codes "write") then Ok Writes
    else if bytes_eq word (codes "both") then Ok ReadsAndWrites
    else Err BadNumber

-- the type byte of such an FMMU: bit 0 where the master reads, bit 1 where it writes (IEC 61158-4-12, FMMU
-- entity)
abbrev pub type_bits : Through → ℕ
type_bits Reads = 1
type_bits Writes = 2
type_bits ReadsAndWrites = 3

-- what the master may do with an object
abbrev pub rights_of : List ℕ → Result Rights LineFault
rights_of word =
    if bytes_eq word (codes "ro") then Ok ReadOnly
    else if bytes_eq word (codes "wo") then Ok WriteOnly
    else if bytes_eq word (codes "rw") then Ok Both
    else Err BadNumber

-- a state by its code
abbrev pub or_out_of_range : {A : Type 0} → Option A → Result A LineFault
or_out_of_range None = Err OutOfRange
or_out_of_range (Some x) = Ok x

unfoldable pub state_of : List ℕ → Result AlState LineFault
state_of word = do
  number ← number_of word
  code ← fitting (2 ^ 8) number
  or_out_of_range (state_of_code code)

-- ---- what a slave tells of itself

-- four numbers of 32 bits
unfoldable pub identity_of : (vendor product revision serial : List ℕ) → Result Identity LineFault
identity_of vendor product revision serial = do
  v ← number_of vendor
  p ← number_of product
  r ← number_of revision
  s ← number_of serial
  v ← fitting (2 ^ 32) v
  p ← fitting (2 ^ 32) p
  r ← fitting (2 ^ 32) r
  s ← fitting (2 ^ 32) s
  Ok (record { vendor = v; product = p; revision = r; serial = s })

unfoldable pub alias_of : List ℕ → Result ℕ LineFault
alias_of word = number_of word >>= λ n. fitting (2 ^ 16) n

-- words with a space between any two of them
abbrev pub spaced : List ℕ → List (List ℕ) → List ℕ
spaced first more = first ++ flat_map (λ (word : List ℕ). 32 ∷ word) more

-- a name, which is not too long
unfoldable pub name_of : List ℕ → List (List ℕ) → Result (List ℕ) LineFault
name_of first more =
    if nat_lt MAX_NAME (length (spaced first more)) then Err OutOfRange else Ok (spaced first more)

-- ---- sync managers and FMMUs

-- the record of an enabled sync manager
unfoldable pub sync_man_of : ℕ → ℕ → ℕ → Result SyncMan LineFault
sync_man_of start length control = do
  s ← fitting (2 ^ 16) start
  l ← fitting (2 ^ 16) length
  Ok (enabled_sync_man s l control)

-- its number, 0 to 7, and its record
unfoldable pub sync_man_setting : List ℕ → List ℕ → List ℕ → List ℕ → Result (ℕ × SyncMan) LineFault
sync_man_setting index start length kind = do
  n ← number_of index
  s ← number_of start
  l ← number_of length
  control ← seen control_bits (area_of kind)
  n ← fitting SYNC_MANAGER_COUNT n
  made ← sync_man_of s l control
  Ok (n, made)

-- the record of an active FMMU
unfoldable pub fmmu_of : ℕ → ℕ → ℕ → ℕ → ℕ → ℕ → ℕ → Result Fmmu LineFault
fmmu_of logical length start stop physical bit kind = do
  g ← fitting (2 ^ 32) logical
  l ← fitting (2 ^ 16) length
  a ← fitting (2 ^ 8) start
  z ← fitting (2 ^ 8) stop
  p ← fitting (2 ^ 16) physical
  b ← fitting (2 ^ 8) bit
  Ok (active_fmmu g l a z p b kind)

-- its number, 0 to 7, and its record
unfoldable pub fmmu_setting : List ℕ → List ℕ → List ℕ → List ℕ → List ℕ → List ℕ → List ℕ → List ℕ
    → Result (ℕ × Fmmu) LineFault
fmmu_setting index logical length start stop physical bit kind = do
  n ← number_of index
  g ← number_of logical
  l ← number_of length
  a ← number_of start
  z ← number_of stop
  p ← number_of physical
  b ← number_of bit
  k ← seen type_bits (through_of kind)
  n ← fitting FMMU_COUNT n
  made ← fmmu_of g l a z p b k
  Ok (n, made)

-- ---- rows of bytes

-- bytes, two hexadecimal digits each, of either case
abbrev pub decoded : Result (List ℕ) FromHexError → Result (List ℕ) LineFault
decoded (Ok bytes) = Ok bytes
decoded (Err fault) = Err BadNumber

abbrev pub bytes_of : List ℕ → Result (List ℕ) LineFault
bytes_of word = decoded (decode_of word)

-- a row of them: one byte at least
abbrev pub row_of : List ℕ → Result (List ℕ) LineFault
row_of word = if length word == 0 then Err BadNumber else bytes_of word

-- is it the digit of a byte
abbrev pub is_digit : ℕ → Bool
is_digit c = is_some (digit_of c)

-- bytes for process memory from an address on, inside it
abbrev pub loaded : ℕ → List ℕ → Result (ℕ × List ℕ) LineFault
loaded address bytes =
    if nat_lt address PROCESS_MEMORY || nat_lt MEMORY_SIZE (address + length bytes) then Err OutOfRange
    else Ok (address, bytes)

unfoldable pub load_of : List ℕ → List ℕ → Result (ℕ × List ℕ) LineFault
load_of address row = do
  a ← number_of address
  bytes ← row_of row
  a ← fitting (2 ^ 16) a
  loaded a bytes

-- ---- PDOs

-- where the first colon of a word stands
abbrev pub colon_in : List ℕ → Option ℕ
colon_in word = position (λ byte. byte == 58) word

-- what stands before it, and behind it
abbrev pub halves_at : List ℕ → Option ℕ → Result (List ℕ × List ℕ) LineFault
halves_at word None = Err BadNumber
halves_at word (Some at) = Ok (take at word, drop (at + 1) word)

abbrev pub halves : List ℕ → Result (List ℕ × List ℕ) LineFault
halves word = halves_at word (colon_in word)

-- the numbers of an object that a PDO maps: index, subindex and bits, with colons between them
unfoldable pub mapped : List ℕ → Result (ℕ × ℕ × ℕ) LineFault
mapped word = do
  first ← halves word
  second ← halves first.1
  i ← number_of first.0
  s ← number_of second.0
  b ← number_of second.1
  Ok (i, s, b)

abbrev pub all_mapped : List (List ℕ) → Result (Unit {0}) LineFault
all_mapped [] = Ok tt
all_mapped (word ∷ more) = mapped word >>= λ _. all_mapped more

-- the object of these numbers
unfoldable pub entry_in : ℕ × ℕ × ℕ → Result ScenePdoEntry LineFault
entry_in numbers = do
  i ← fitting (2 ^ 16) numbers.0
  s ← fitting (2 ^ 8) numbers.1
  b ← fitting (2 ^ 8) numbers.2
  Ok (record { index = i; sub = s; bits = b })

-- the objects that words name, behind those that are there
abbrev pub entries_from : List ScenePdoEntry → List (List ℕ) → Result (List ScenePdoEntry) LineFault
entries_from done [] = Ok done
entries_from done (word ∷ more) =
    mapped word >>= λ numbers. entry_in numbers >>= λ entry. entries_from (done ++ entry ∷ []) more

-- as many as a byte counts
abbrev pub where_countable : List (List ℕ) → Result (Unit {0}) LineFault
where_countable words = if nat_lt MAX_PDO_ENTRIES (length words) then Err TooMany else Ok tt

-- a PDO: its object, its sync manager, and the words of what it maps
unfoldable pub pdo_of : List ℕ → List ℕ → List (List ℕ) → Result PdoRecord LineFault
pdo_of index manager words = do
  i ← number_of index
  m ← number_of manager
  forms ← all_mapped words
  i ← fitting (2 ^ 16) i
  m ← fitting SYNC_MANAGER_COUNT m
  countable ← where_countable words
  entries ← entries_from [] words
  Ok (record { index = i; manager = m; entries = entries })

-- ---- EEPROMs

-- the address of a word, and bytes as they are, which lie in an EEPROM whole
abbrev pub burnt : ℕ → List ℕ → Result (ℕ × List ℕ) LineFault
burnt word bytes = if nat_lt MAX_EEPROM (2 * word + length bytes) then Err OutOfRange else Ok (word, bytes)

unfoldable pub sii_of : List ℕ → List ℕ → Result (ℕ × List ℕ) LineFault
sii_of address row = do
  a ← number_of address
  bytes ← row_of row
  a ← fitting (2 ^ 16) a
  burnt a bytes

-- ---- objects

-- a value of a size in bytes
abbrev pub sized : (ℕ → Value) → ℕ → ℕ → Result Value LineFault
sized value bound n = if nat_lt n bound then Ok (value n) else Err OutOfRange

abbrev pub value_of : ℕ → ℕ → Result Value LineFault
value_of size n =
    if size == 1 then sized One (2 ^ 8) n
    else if size == 2 then sized Two (2 ^ 16) n
    else if size == 4 then sized Four (2 ^ 32) n
    else Err OutOfRange

-- an object's index, its subindex, what the master may do with it, and its value
unfoldable pub object_of : List ℕ → List ℕ → List ℕ → List ℕ → List ℕ
    → Result (ℕ × ℕ × Rights × Value) LineFault
object_of index sub size rights value = do
  i ← number_of index
  s ← number_of sub
  z ← number_of size
  r ← rights_of rights
  n ← number_of value
  i ← fitting (2 ^ 16) i
  s ← fitting (2 ^ 8) s
  v ← value_of z n
  Ok (i, s, r, v)

-- what a master writes when it starts a slave
unfoldable pub startup_of : List ℕ → List ℕ → List ℕ → Result StartupObject LineFault
startup_of index sub row = do
  i ← number_of index
  s ← number_of sub
  bytes ← row_of row
  i ← fitting (2 ^ 16) i
  s ← fitting (2 ^ 8) s
  v ← wire_value bytes
  Ok (record { index = i; sub = s; value = v })

-- ---- items

-- the item of a kind, an address and these data, where there is one
abbrev pub where_good : Option ItemFault → ItemRecord → Result ItemRecord LineFault
where_good None item = Ok item
where_good (Some fault) item = Err OutOfRange

abbrev pub item_in : Kind → ℕ → List ℕ → Result ItemRecord LineFault
item_in kind address bytes = where_good (item_fault kind address (length bytes)) (new_item kind address bytes)

-- by its logical address, or by its register for a broadcast read
unfoldable pub item_of : Kind → List ℕ → List ℕ → Result ItemRecord LineFault
item_of kind address row = do
  a ← number_of address
  bytes ← row_of row
  a ← fitting (2 ^ 32) a
  item_in kind a bytes

-- by a station and a register
unfoldable pub addressed_item_of : Kind → List ℕ → List ℕ → List ℕ → Result ItemRecord LineFault
addressed_item_of kind station address row = do
  s ← number_of station
  a ← number_of address
  bytes ← row_of row
  s ← fitting (2 ^ 16) s
  a ← fitting (2 ^ 16) a
  item_in kind (address_of s a) bytes
