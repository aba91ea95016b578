-- What is printed of a refused line and of a refused item: the rule, the parties and the place.
use Rattle.std.specs.Prelude.{ℕ, ◌++◌, List, codes}
use Rattle.std.specs.Fmt.{decimal}
use Rattle.ec_check.specs.declared.fault.MapFault.{MapFault}
use Rattle.ec_check.specs.declared.fault.MapFault.TheVariants.{TwinStation, BadFmmu, AreasMeet, OutsideArea}
use Rattle.ec_check.specs.declared.fault.MapFault.TheVariants.{TwiceWritten, TwiceRead, ReadAndWritten}
use Rattle.ec_map.specs.declared.place.PlaceFault.{PlaceFault}
use Rattle.ec_map.specs.declared.place.PlaceFault.TheVariants.{OutsideRead, OutsideWrite}
use Rattle.ecat_text.specs.Words.{hexadecimal}
use Rattle.ecat_text.specs.declared.refusal.ItemRefusal.{ItemRefusal}

-- a slave by its number on the line
abbrev pub slave_words : ℕ → List ℕ
slave_words slave = codes " slave " ++ decimal slave

-- an FMMU of a slave (IEC 61158-4-12) by its number
abbrev pub fmmu_words : ℕ → List ℕ
fmmu_words fmmu = codes " fmmu " ++ decimal fmmu

-- a sync manager of a slave (IEC 61158-4-12) by its number
abbrev pub manager_words : ℕ → List ℕ
manager_words manager = codes " sm " ++ decimal manager

-- an address of a slave's memory, four digits
unfoldable pub address_words : ℕ → List ℕ
address_words address = codes " address 0x" ++ hexadecimal 4 address

-- a bit, 8 * byte address + bit
abbrev pub bit_words : ℕ → List ℕ
bit_words bit = codes " bit " ++ decimal bit

-- a refused line: the rule by its name, then the slaves and what of them breaks it, in the order of the line
-- but for the reader of a bit, who comes before its writer
abbrev pub line_refusal_words : MapFault → List ℕ
line_refusal_words (TwinStation slave later) =
    codes "refused: TwinStation" ++ slave_words slave ++ slave_words later
line_refusal_words (BadFmmu slave fmmu) = codes "refused: BadFmmu" ++ slave_words slave ++ fmmu_words fmmu
line_refusal_words (AreasMeet slave manager later address) =
    codes "refused: AreasMeet" ++ slave_words slave ++ manager_words manager ++ manager_words later
    ++ address_words address
line_refusal_words (OutsideArea slave fmmu address) =
    codes "refused: OutsideArea" ++ slave_words slave ++ fmmu_words fmmu ++ address_words address
line_refusal_words (TwiceWritten slave fmmu later bit) =
    codes "refused: TwiceWritten" ++ slave_words slave ++ fmmu_words fmmu ++ fmmu_words later ++ bit_words bit
line_refusal_words (TwiceRead slave fmmu later_slave later bit) =
    codes "refused: TwiceRead" ++ slave_words slave ++ fmmu_words fmmu ++ slave_words later_slave
    ++ fmmu_words later ++ bit_words bit
line_refusal_words (ReadAndWritten reader reads writer writes bit) =
    codes "refused: ReadAndWritten" ++ slave_words reader ++ fmmu_words reads ++ slave_words writer
    ++ fmmu_words writes ++ bit_words bit

-- where an item goes that is refused
abbrev pub place_words : ℕ → ℕ → ℕ → List ℕ
place_words number slave address =
    codes " item " ++ decimal number ++ slave_words slave ++ address_words address

-- a refused item, by its number
abbrev pub placed_words : PlaceFault → ℕ → List ℕ
placed_words (OutsideRead slave address) number =
    codes "refused: OutsideRead" ++ place_words number slave address
placed_words (OutsideWrite slave address) number =
    codes "refused: OutsideWrite" ++ place_words number slave address

abbrev pub item_refusal_words : ItemRefusal → List ℕ
item_refusal_words refusal = placed_words refusal.fault refusal.number
