-- The words of a line that is written: its first word, and its numbers and words in their order. Where a row
-- of bytes ends the line, these are the words in front of it.
use Rattle.std.specs.Prelude.{ℕ, ◌++◌, ◌<◌, ◌^◌, Bool, true, false, List, [], ◌∷◌, codes}
use Rattle.std.specs.Fmt.{decimal}
use Rattle.ec_regs.specs.Al.{code_of}
use Rattle.ec_app.specs.Value.{FitsValue}
use Rattle.ec_app.specs.declared.value.Rights.{Rights}
use Rattle.ec_app.specs.declared.value.Value.{Value}
use Rattle.ec_app.specs.declared.value.Value.TheVariants.{One, Two, Four}
use Rattle.ec_wire.specs.Datagram.{ado_of, adp_of}
use Rattle.ec_wire.specs.declared.kind.Kind.{Kind}
use Rattle.ec_wire.specs.declared.kind.Kind.TheVariants.{Lrd, Lwr, Lrw, Brd, Fprd, Fpwr}
use Rattle.ecat_scene.specs.declared.written.SceneLine.{SceneLine}
use Rattle.ecat_scene.specs.declared.written.SceneLine.TheVariants.{Slave, State, Simple, Areas, SyncMan}
use Rattle.ecat_scene.specs.declared.written.SceneLine.TheVariants.{Fmmu as FmmuLine, Load, Object, Startup}
use Rattle.ecat_scene.specs.declared.written.SceneLine.TheVariants.{Item}
use Rattle.ecat_scene.specs.Lines.{area_word, hexadecimal, rights_word, through_word}

-- a number as it is written with `0x` in front
abbrev pub hex_word : ℕ → ℕ → List ℕ
hex_word width n = codes "0x" ++ hexadecimal width n

-- an object's size in bytes, what the master may do with it, and its value
abbrev pub object_spelt : Rights → Value → List (List ℕ)
object_spelt r (One n) = codes "1" ∷ rights_word r ∷ hex_word 2 n ∷ []
object_spelt r (Two n) = codes "2" ∷ rights_word r ∷ hex_word 4 n ∷ []
object_spelt r (Four n) = codes "4" ∷ rights_word r ∷ hex_word 8 n ∷ []

-- an item's kind, and its logical address, its register, or its station and register
abbrev pub item_spelt : Kind → ℕ → List (List ℕ)
item_spelt Lrd a = codes "lrd" ∷ hex_word 8 a ∷ []
item_spelt Lwr a = codes "lwr" ∷ hex_word 8 a ∷ []
item_spelt Lrw a = codes "lrw" ∷ hex_word 8 a ∷ []
item_spelt Brd a = codes "brd" ∷ hex_word 4 a ∷ []
item_spelt Fprd a = codes "fprd" ∷ hex_word 4 (adp_of a) ∷ hex_word 4 (ado_of a) ∷ []
item_spelt Fpwr a = codes "fpwr" ∷ hex_word 4 (adp_of a) ∷ hex_word 4 (ado_of a) ∷ []

-- the words of a line, in front of the row of bytes that may end it
abbrev pub spelt : SceneLine → List (List ℕ)
spelt (Slave station) = codes "slave" ∷ hex_word 4 station ∷ []
spelt (State state) = codes "state" ∷ decimal (code_of state) ∷ []
spelt Simple = codes "simple" ∷ []
spelt (Areas outputs inputs) = codes "areas" ∷ decimal outputs ∷ decimal inputs ∷ []
spelt (SyncMan n start length kind) =
    codes "sm" ∷ decimal n ∷ hex_word 4 start ∷ decimal length ∷ area_word kind ∷ []
spelt (FmmuLine n logical length first last physical bit through) =
    codes "fmmu" ∷ decimal n ∷ hex_word 8 logical ∷ decimal length ∷ decimal first ∷ decimal last
    ∷ hex_word 4 physical ∷ decimal bit ∷ through_word through ∷ []
spelt (Load address) = codes "mem" ∷ hex_word 4 address ∷ []
spelt (Object index sub rights value) =
    codes "object" ∷ hex_word 4 index ∷ decimal sub ∷ object_spelt rights value
spelt (Startup index sub) = codes "startup" ∷ hex_word 4 index ∷ decimal sub ∷ []
spelt (Item kind address) = item_spelt kind address

-- does a row of bytes end the line
abbrev pub ends_with_row : SceneLine → Bool
ends_with_row (Slave station) = false
ends_with_row (State state) = false
ends_with_row Simple = false
ends_with_row (Areas outputs inputs) = false
ends_with_row (SyncMan n start length kind) = false
ends_with_row (FmmuLine n logical length first last physical bit through) = false
ends_with_row (Load address) = true
ends_with_row (Object index sub rights value) = false
ends_with_row (Startup index sub) = true
ends_with_row (Item kind address) = true

-- a line whose numbers have 64 bits at most, and whose value fits its size
abbrev pub IsSpelt : SceneLine → Type 0
IsSpelt (Slave station) = station < 2 ^ 64
IsSpelt (State state) = Unit {0}
IsSpelt Simple = Unit {0}
IsSpelt (Areas outputs inputs) = (outputs < 2 ^ 64) × (inputs < 2 ^ 64)
IsSpelt (SyncMan n start length kind) = (n < 2 ^ 64) × (start < 2 ^ 64) × (length < 2 ^ 64)
IsSpelt (FmmuLine n logical length first last physical bit through) =
    (n < 2 ^ 64) × (logical < 2 ^ 64) × (length < 2 ^ 64) × (first < 2 ^ 64) × (last < 2 ^ 64)
    × (physical < 2 ^ 64) × (bit < 2 ^ 64)
IsSpelt (Load address) = address < 2 ^ 64
IsSpelt (Object index sub rights value) = (index < 2 ^ 64) × (sub < 2 ^ 64) × FitsValue value
IsSpelt (Startup index sub) = (index < 2 ^ 64) × (sub < 2 ^ 64)
IsSpelt (Item kind address) = address < 2 ^ 64
