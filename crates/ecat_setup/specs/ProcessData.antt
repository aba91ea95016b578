-- Which PDOs map the process data of a device: those that its objects list, or else its lines, or else such
-- as are made up for as many bytes as it has (ETG.1000.6, PDO mapping).
use Rattle.std.specs.Prelude.{ℕ, ◌+◌, ◌*◌, ◌-◌, ◌/◌, ◌%◌, ◌^◌, Bool, not, ◌==◌, nat_lt, nat_le, if◌then◌else◌}
use Rattle.std.specs.Prelude.{Option, List, length, map, filter, min, unwrap_or, sum_by}
use Rattle.std.specs.Int.{div_ceil}
use Rattle.std.specs.List.{range_with_len}
use Rattle.std.specs.Option.{option_map}
use Rattle.ec_app.specs.Objects.{has_index, object_at}
use Rattle.ec_app.specs.declared.objects.Entry.{Entry}
use Rattle.ec_app.specs.declared.value.Value.{Value}
use Rattle.ec_app.specs.declared.value.Value.TheVariants.{One, Two, Four}
use Rattle.ec_sii.specs.declared.image.Pdo.{Pdo}
use Rattle.ec_sii.specs.declared.image.PdoEntry.{PdoEntry}
use Rattle.ecat_scene.specs.Scene.{PdoRecord, SlaveRecord}
use Rattle.ecat_scene.specs.declared.scene.ScenePdoEntry.{ScenePdoEntry}
use Rattle.ecat_setup.specs.declared.process_data.Direction.{Direction}

-- ---- what objects say

-- the number that an object holds
abbrev pub number_of : Value → ℕ
number_of (One number) = number
number_of (Two number) = number
number_of (Four number) = number

-- at an index and a subindex, if an object stands there
abbrev pub number_at : List Entry → ℕ → ℕ → Option ℕ
number_at objects index sub = option_map (λ o. number_of o.1) (object_at index sub objects)

-- how many subindexes an object says that it has; only one byte says it
abbrev pub byte_of : Value → ℕ
byte_of (One number) = number
byte_of (Two _) = 0
byte_of (Four _) = 0

abbrev pub count_at : List Entry → ℕ → ℕ
count_at objects index = unwrap_or (option_map (λ o. byte_of o.1) (object_at index 0 objects)) 0

-- the number at each of them, 0 where no object stands there
abbrev pub listed_at : List Entry → ℕ → ℕ → ℕ
listed_at objects index k = unwrap_or (number_at objects index (k + 1)) 0

-- ---- PDOs and what they map

-- the type of a value of so many bits, 0 where none is sure (ETG.1000.6, data types)
abbrev pub kind_of : ℕ → ℕ
kind_of bits =
    if bits == 1 then 1 else
    (if bits == 8 then 5 else
    (if bits == 16 then 6 else
    (if bits == 32 then 7 else 0)))

-- the number that means an entry in a PDO's object: index, subindex and bits, from the highest byte on
abbrev pub mapped_by : PdoEntry → ℕ
mapped_by e = e.index * 2 ^ 16 + e.subindex * 2 ^ 8 + e.bits

abbrev pub entry_of : ℕ → PdoEntry
entry_of mapped = record {
  index = mapped / 2 ^ 16;
  subindex = mapped / 2 ^ 8 % 2 ^ 8;
  kind = kind_of (mapped % 2 ^ 8);
  bits = mapped % 2 ^ 8;
}

-- a PDO as it stands in an EEPROM
pub record MappedPdo : Type 0 where
  pub index : ℕ
  pub sync_manager : ℕ
  pub entries : List PdoEntry

abbrev pub mapped_pdo : Pdo → MappedPdo
mapped_pdo p = record { index = p.index; sync_manager = p.sync_manager; entries = p.entries.items }

-- ---- the two directions

-- what the master writes, and what it reads
abbrev pub outputs : Direction
outputs = record { assigned = 0x1C12; first_pdo = 0x1600; first_values = 0x7000; sync_manager = 2 }

abbrev pub inputs : Direction
inputs = record { assigned = 0x1C13; first_pdo = 0x1A00; first_values = 0x6000; sync_manager = 3 }

abbrev pub is_input : ℕ → Bool
is_input index = nat_le 0x1A00 index

-- is the object of a PDO with this index one of the direction
abbrev pub has_pdo : Direction → ℕ → Bool
has_pdo d index = if is_input d.first_pdo then is_input index else not (is_input index)

-- how many bytes of process data of the direction a slave has
abbrev pub length_of : Direction → SlaveRecord → ℕ
length_of d s = if is_input d.first_pdo then s.input_length else s.output_length

-- ---- those that lines say

abbrev pub said_entry : ScenePdoEntry → PdoEntry
said_entry e = record { index = e.index; subindex = e.sub; kind = kind_of e.bits; bits = e.bits }

abbrev pub said_pdo : PdoRecord → MappedPdo
said_pdo p = record { index = p.index; sync_manager = p.manager; entries = map said_entry p.entries }

abbrev pub said : Direction → List PdoRecord → List MappedPdo
said d pdos = map said_pdo (filter (λ p. has_pdo d p.index) pdos)

-- ---- those that objects list

abbrev pub listed_entries : List Entry → ℕ → List PdoEntry
listed_entries objects index =
    map (λ k. entry_of (listed_at objects index k)) (range_with_len 0 (count_at objects index))

abbrev pub listed_pdo : Direction → List Entry → ℕ → MappedPdo
listed_pdo d objects index = record {
  index = index;
  sync_manager = d.sync_manager;
  entries = listed_entries objects index;
}

abbrev pub listed : Direction → List Entry → List MappedPdo
listed d objects =
    map (λ k. listed_pdo d objects (listed_at objects d.assigned k % 2 ^ 16))
    (range_with_len 0 (count_at objects d.assigned))

-- ---- those that are made up

-- four bytes each, and one each behind them
abbrev pub made_bits : ℕ → ℕ → ℕ
made_bits wide k = if nat_lt k wide then 32 else 8

abbrev pub made_entry : ℕ → ℕ → ℕ → PdoEntry
made_entry index wide k = record {
  index = index;
  subindex = (k + 1) % 2 ^ 8;
  kind = kind_of (made_bits wide k);
  bits = made_bits wide k;
}

-- entries that map so many bytes
abbrev pub made_entries : ℕ → ℕ → List PdoEntry
made_entries index bytes = map (made_entry index (bytes / 4)) (range_with_len 0 (bytes / 4 + bytes % 4))

-- the PDO with a number, of those that map so many bytes: 256 each at most
abbrev pub made_pdo : Direction → ℕ → ℕ → MappedPdo
made_pdo d bytes k = record {
  index = (d.first_pdo + k) % 2 ^ 16;
  sync_manager = d.sync_manager;
  entries = made_entries ((d.first_values + k * 16) % 2 ^ 16) (min (bytes - k * 256) 256);
}

abbrev pub made_up : Direction → ℕ → List MappedPdo
made_up d bytes = map (made_pdo d bytes) (range_with_len 0 (div_ceil bytes 256))

-- ---- which of them a device has

abbrev pub pdos_of : Direction → SlaveRecord → List MappedPdo
pdos_of d s =
    if has_index d.assigned s.objects then listed d s.objects else
    (if length s.pdos == 0 then made_up d (length_of d s) else said d s.pdos)

-- ---- the objects of PDOs

-- how many objects more say which PDOs one direction has, where none does yet
abbrev pub objects_for : List Entry → Direction → List MappedPdo → ℕ
objects_for objects d pdos =
    if has_index d.assigned objects then 0 else 1 + sum_by (λ p. length p.entries + 2) pdos
