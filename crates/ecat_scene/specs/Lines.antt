-- A line of a scene as it is written: its words, and its numbers by their digits. Where a row of bytes ends a
-- line, these are the words in front of it.
use Rattle.std.specs.Prelude.{ℕ, ◌-◌, ◌^◌, ◌++◌, List, [], false, codes}
use Rattle.std.specs.Fmt.{decimal, digits, format_spec, padded_integral}
use Rattle.ec_regs.specs.Al.{code_of}
use Rattle.ec_app.specs.declared.value.Rights.{Rights}
use Rattle.ec_app.specs.declared.value.Rights.TheVariants.{ReadOnly, WriteOnly, Both}
use Rattle.ec_app.specs.declared.value.Value.{Value}
use Rattle.ec_app.specs.declared.value.Value.TheVariants.{One, Two, Four}
use Rattle.ec_wire.specs.Datagram.{ado_of, adp_of}
use Rattle.ec_wire.specs.declared.kind.Kind.{Kind}
use Rattle.ec_wire.specs.declared.kind.Kind.TheVariants.{Lrd, Lwr, Lrw, Brd, Fprd, Fpwr}
use Rattle.ecat_scene.specs.declared.written.AreaKind.{AreaKind}
use Rattle.ecat_scene.specs.declared.written.AreaKind.TheVariants.{MailboxWrite, MailboxRead, Write, Read}
use Rattle.ecat_scene.specs.declared.written.Through.{Through}
use Rattle.ecat_scene.specs.declared.written.Through.TheVariants.{Reads, Writes, ReadsAndWrites}
use Rattle.ecat_scene.specs.declared.written.SceneLine.{SceneLine}
use Rattle.ecat_scene.specs.declared.written.SceneLine.TheVariants.{Slave, State, Simple, Areas, SyncMan}
use Rattle.ecat_scene.specs.declared.written.SceneLine.TheVariants.{Fmmu as FmmuLine, Load, Object, Startup}
use Rattle.ecat_scene.specs.declared.written.SceneLine.TheVariants.{Item}

-- the hexadecimal digits of n, lower case, with zeros before them where they are fewer than `width`
abbrev pub hexadecimal : ℕ → ℕ → List ℕ
hexadecimal width n = padded_integral (format_spec 32 0 4 width (2 ^ 64 - 1)) false [] (digits 16 false n)

abbrev pub area_word : AreaKind → List ℕ
area_word MailboxWrite = codes "mailbox-write"
area_word MailboxRead = codes "mailbox-read"
area_word Write = codes "write"
area_word Read = codes "read"

abbrev pub through_word : Through → List ℕ
through_word Reads = codes "read"
through_word Writes = codes "write"
through_word ReadsAndWrites = codes "both"

-- an FMMU's first logical byte, its length, and its first and its last bit
abbrev pub logical_words : ℕ → ℕ → ℕ → ℕ → List ℕ
logical_words logical length first last =
    hexadecimal 8 logical ++ codes " " ++ decimal length ++ codes " " ++ decimal first ++ codes " "
    ++ decimal last

-- its first physical byte, the first bit in it, and what the master does through it
abbrev pub physical_words : ℕ → ℕ → Through → List ℕ
physical_words physical bit through =
    hexadecimal 4 physical ++ codes " " ++ decimal bit ++ codes " " ++ through_word through

abbrev pub rights_word : Rights → List ℕ
rights_word ReadOnly = codes "ro"
rights_word WriteOnly = codes "wo"
rights_word Both = codes "rw"

-- an object's size in bytes, what the master may do with it, and its value with two digits for each byte
abbrev pub object_words : Rights → Value → List ℕ
object_words r (One n) = codes "1 " ++ rights_word r ++ codes " 0x" ++ hexadecimal 2 n
object_words r (Two n) = codes "2 " ++ rights_word r ++ codes " 0x" ++ hexadecimal 4 n
object_words r (Four n) = codes "4 " ++ rights_word r ++ codes " 0x" ++ hexadecimal 8 n

-- an item by its logical address, its register, or its station and register
abbrev pub item_words : Kind → ℕ → List ℕ
item_words Lrd a = codes "lrd 0x" ++ hexadecimal 8 a ++ codes " "
item_words Lwr a = codes "lwr 0x" ++ hexadecimal 8 a ++ codes " "
item_words Lrw a = codes "lrw 0x" ++ hexadecimal 8 a ++ codes " "
item_words Brd a = codes "brd 0x" ++ hexadecimal 4 a ++ codes " "
item_words Fprd a =
    codes "fprd 0x" ++ hexadecimal 4 (adp_of a) ++ codes " 0x" ++ hexadecimal 4 (ado_of a) ++ codes " "
item_words Fpwr a =
    codes "fpwr 0x" ++ hexadecimal 4 (adp_of a) ++ codes " 0x" ++ hexadecimal 4 (ado_of a) ++ codes " "

abbrev pub line_words : SceneLine → List ℕ
line_words (Slave station) = codes "slave 0x" ++ hexadecimal 4 station
line_words (State state) = codes "state " ++ decimal (code_of state)
line_words Simple = codes "simple"
line_words (Areas outputs inputs) = codes "areas " ++ decimal outputs ++ codes " " ++ decimal inputs
line_words (SyncMan n start length kind) =
    codes "sm " ++ decimal n ++ codes " 0x" ++ hexadecimal 4 start ++ codes " " ++ decimal length
    ++ codes " " ++ area_word kind
line_words (FmmuLine n logical length first last physical bit through) =
    codes "fmmu " ++ decimal n ++ codes " 0x" ++ logical_words logical length first last ++ codes " 0x"
    ++ physical_words physical bit through
line_words (Load address) = codes "mem 0x" ++ hexadecimal 4 address ++ codes " "
line_words (Object index sub rights value) =
    codes "object 0x" ++ hexadecimal 4 index ++ codes " " ++ decimal sub ++ codes " "
    ++ object_words rights value
line_words (Startup index sub) =
    codes "startup 0x" ++ hexadecimal 4 index ++ codes " " ++ decimal sub ++ codes " "
line_words (Item kind address) = item_words kind address
