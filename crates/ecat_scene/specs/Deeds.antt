-- What the lines of a scene do to it: those that describe a slave, and the items of its cycle.
use Rattle.std.specs.Prelude.{ℕ, ◌++◌, ◌^◌, Bool, true, nat_lt, if◌then◌else◌, Option, None, Some, Result}
use Rattle.std.specs.Prelude.{Ok, Err}
use Rattle.std.specs.Prelude.{List, [], ◌∷◌, ◌≡◌, ◌==◌, codes, length, not, slice_index}
use Rattle.std.specs.List.{list_all, slice_split}
use Rattle.std.specs.Str.{bytes_eq}
use Rattle.ec_app.specs.Objects.{add_fault}
use Rattle.ec_app.specs.declared.objects.ObjectFault.{ObjectFault}
use Rattle.ec_app.specs.declared.objects.ObjectFault.TheVariants.{Full, Twin as ObjectTwin}
use Rattle.ec_app.specs.declared.value.Rights.{Rights}
use Rattle.ec_app.specs.declared.value.Value.{Value}
use Rattle.ec_map.specs.Item.{ItemRecord}
use Rattle.ec_regs.specs.declared.al.AlState.{AlState}
use Rattle.ec_regs.specs.declared.fmmu.Fmmu.{Fmmu}
use Rattle.ec_regs.specs.declared.sync_man.SyncMan.{SyncMan}
use Rattle.ec_sii.specs.declared.image.Identity.{Identity}
use Rattle.ec_wire.specs.declared.kind.Kind.{Kind}
use Rattle.ec_wire.specs.declared.kind.Kind.TheVariants.{Lrd, Lwr, Lrw, Brd, Fprd, Fpwr}
use Rattle.ecat_scene.specs.declared.fault.LineFault.{LineFault}
use Rattle.ecat_scene.specs.declared.fault.LineFault.TheVariants.{NoSlave, NotText, TooMany, Twin}
use Rattle.ecat_scene.specs.declared.fault.LineFault.TheVariants.{UnknownWord, WrongCount}
use Rattle.ecat_scene.specs.declared.fault.Stop.{Stop}
use Rattle.ecat_scene.specs.declared.scene.SlaveKind.{SlaveKind}
use Rattle.ecat_scene.specs.declared.scene.SlaveKind.TheVariants.{Plain, Device}
use Rattle.ecat_scene.specs.declared.scene.StartupObject.{StartupObject}
use Rattle.ecat_scene.specs.declared.scene.TheConstants.{MAX_ITEMS, MAX_SLAVES, MAX_STARTUP}
use Rattle.ecat_scene.specs.Fields.{fitting}
use Rattle.ecat_scene.specs.Numbers.{number_of}
use Rattle.ecat_scene.specs.Scene.{PdoRecord, SceneRecord, SettingRecord, SyncManAt, FmmuAt, LoadAt}
use Rattle.ecat_scene.specs.Scene.{SlaveRecord}
use Rattle.ecat_scene.specs.Scene.{new_slave}
use Rattle.ecat_scene.specs.Signals.{signal_line}
use Rattle.ecat_scene.specs.Text.{is_text, words_in}
use Rattle.ecat_scene.specs.Words.{addressed_item_of, alias_of, fmmu_setting, identity_of, item_of, load_of}
use Rattle.ecat_scene.specs.Words.{name_of, object_of, pdo_of, sii_of, startup_of, state_of, Stops}
use Rattle.ecat_scene.specs.Words.{sync_man_setting, ◌>>=◌}

-- what is read of a line makes this of a scene, or of its slaves, unless memory ran out
abbrev pub Does : {A : Type 0} → Result (Unit {0}) Stop → A → Result A LineFault → Type 0
Does (Ok _) after line = line ≡ Ok after
Does (Err stop) after line = Stops stop line

-- one more, where there is room for it
abbrev pub with_room : {A : Type 0} → ℕ → List A → A → Result (List A) LineFault
with_room most xs x = if nat_lt (length xs) most then Ok (xs ++ x ∷ []) else Err TooMany

-- ---- the last slave

-- whether there is one
abbrev pub where_begun : List SlaveRecord → Result (Unit {0}) LineFault
where_begun slaves = if length slaves == 0 then Err NoSlave else Ok tt

-- the slaves with the last one changed
abbrev pub with_last : (SlaveRecord → Result SlaveRecord LineFault) → List SlaveRecord
    → Result (List SlaveRecord) LineFault
with_last change [] = Err NoSlave
with_last change (s ∷ []) = change s >>= λ t. Ok (t ∷ [])
with_last change (s ∷ t ∷ ss) = with_last change (t ∷ ss) >>= λ us. Ok (s ∷ us)

-- where there is one, it changes by what was read
abbrev pub then_last : {A : Type 0} → Result A LineFault → (A → SlaveRecord → Result SlaveRecord LineFault)
    → List SlaveRecord → Result (List SlaveRecord) LineFault
then_last read change slaves = do
  begun ← where_begun slaves
  found ← read
  with_last (change found) slaves

-- ---- what each line makes of it

abbrev pub to_state : AlState → SlaveRecord → Result SlaveRecord LineFault
to_state state slave = Ok (record slave { state = state })

abbrev pub to_simple : Unit {0} → SlaveRecord → Result SlaveRecord LineFault
to_simple _ slave = Ok (record slave { simple = true })

abbrev pub to_areas : ℕ × ℕ → SlaveRecord → Result SlaveRecord LineFault
to_areas lengths slave = Ok (record slave { output_length = lengths.0; input_length = lengths.1 })

-- one setting more
abbrev pub set_up : SettingRecord → SlaveRecord → Result SlaveRecord LineFault
set_up setting slave = Ok (record slave { settings = slave.settings ++ setting ∷ [] })

abbrev pub with_sync_man : ℕ × SyncMan → SlaveRecord → Result SlaveRecord LineFault
with_sync_man found slave = set_up (SyncManAt found.0 found.1) slave

abbrev pub with_fmmu : ℕ × Fmmu → SlaveRecord → Result SlaveRecord LineFault
with_fmmu found slave = set_up (FmmuAt found.0 found.1) slave

abbrev pub with_load : ℕ × List ℕ → SlaveRecord → Result SlaveRecord LineFault
with_load found slave = set_up (LoadAt found.0 found.1) slave

-- one object more, if it can be added
abbrev pub where_added : Option ObjectFault → SlaveRecord → Result SlaveRecord LineFault
where_added None slave = Ok slave
where_added (Some Full) slave = Err TooMany
where_added (Some ObjectTwin) slave = Err Twin

abbrev pub with_object : ℕ × ℕ × Rights × Value → SlaveRecord → Result SlaveRecord LineFault
with_object o slave =
    where_added (add_fault o.0 o.1 slave.objects) (record slave {
      objects = slave.objects ++ record { index = o.0; sub = o.1; rights = o.2; value = o.3 } ∷ [];
    })

-- one startup object more, where there is room for it
abbrev pub with_startup : StartupObject → SlaveRecord → Result SlaveRecord LineFault
with_startup o slave =
    with_room MAX_STARTUP slave.startup o >>= λ startup. Ok (record slave { startup = startup })

-- what it tells of itself
abbrev pub to_kind : SlaveKind → Unit {0} → SlaveRecord → Result SlaveRecord LineFault
to_kind kind _ slave = Ok (record slave { kind = kind })

abbrev pub to_identity : Identity → SlaveRecord → Result SlaveRecord LineFault
to_identity identity slave = Ok (record slave { identity = Some identity })

abbrev pub to_alias : ℕ → SlaveRecord → Result SlaveRecord LineFault
to_alias alias slave = Ok (record slave { alias = alias })

abbrev pub to_name : List ℕ → SlaveRecord → Result SlaveRecord LineFault
to_name name slave = Ok (record slave { name = name })

-- a PDO more
abbrev pub with_pdo : PdoRecord → SlaveRecord → Result SlaveRecord LineFault
with_pdo pdo slave = Ok (record slave { pdos = slave.pdos ++ pdo ∷ [] })

-- bytes of its EEPROM more
abbrev pub with_sii : ℕ × List ℕ → SlaveRecord → Result SlaveRecord LineFault
with_sii piece slave = Ok (record slave { sii = slave.sii ++ piece ∷ [] })

-- the lengths of the areas that a slave's application takes and gives
unfoldable pub areas_of : List ℕ → List ℕ → Result (ℕ × ℕ) LineFault
areas_of outputs inputs = do
  o ← number_of outputs
  i ← number_of inputs
  o ← fitting (2 ^ 16) o
  i ← fitting (2 ^ 16) i
  Ok (o, i)

-- ---- lines, by their words behind the first one

unfoldable pub slave_line : List (List ℕ) → SceneRecord → Result SceneRecord LineFault
slave_line (station ∷ []) scene = do
  n ← number_of station
  n ← fitting (2 ^ 16) n
  slaves ← with_room MAX_SLAVES scene.slaves (new_slave n)
  Ok (record scene { slaves = slaves })
slave_line words scene = Err WrongCount

-- the scene with these slaves
abbrev pub in_scene : SceneRecord → Result (List SlaveRecord) LineFault → Result SceneRecord LineFault
in_scene scene slaves = slaves >>= λ ss. Ok (record scene { slaves = ss })

unfoldable pub state_line : List (List ℕ) → SceneRecord → Result SceneRecord LineFault
state_line (code ∷ []) scene = in_scene scene (then_last (state_of code) to_state scene.slaves)
state_line words scene = Err WrongCount

unfoldable pub simple_line : List (List ℕ) → SceneRecord → Result SceneRecord LineFault
simple_line [] scene = in_scene scene (then_last (Ok tt) to_simple scene.slaves)
simple_line words scene = Err WrongCount

unfoldable pub areas_line : List (List ℕ) → SceneRecord → Result SceneRecord LineFault
areas_line (outputs ∷ inputs ∷ []) scene =
    in_scene scene (then_last (areas_of outputs inputs) to_areas scene.slaves)
areas_line words scene = Err WrongCount

unfoldable pub sync_man_line : List (List ℕ) → SceneRecord → Result SceneRecord LineFault
sync_man_line (index ∷ start ∷ length ∷ kind ∷ []) scene =
    in_scene scene (then_last (sync_man_setting index start length kind) with_sync_man scene.slaves)
sync_man_line words scene = Err WrongCount

unfoldable pub fmmu_line : List (List ℕ) → SceneRecord → Result SceneRecord LineFault
fmmu_line (index ∷ logical ∷ length ∷ start ∷ stop ∷ physical ∷ bit ∷ kind ∷ []) scene =
    in_scene scene (then_last (fmmu_setting index logical length start stop physical bit kind) with_fmmu
    scene.slaves)
fmmu_line words scene = Err WrongCount

unfoldable pub load_line : List (List ℕ) → SceneRecord → Result SceneRecord LineFault
load_line (address ∷ row ∷ []) scene = in_scene scene (then_last (load_of address row) with_load scene.slaves)
load_line words scene = Err WrongCount

unfoldable pub object_line : List (List ℕ) → SceneRecord → Result SceneRecord LineFault
object_line (index ∷ sub ∷ size ∷ rights ∷ value ∷ []) scene =
    in_scene scene (then_last (object_of index sub size rights value) with_object scene.slaves)
object_line words scene = Err WrongCount

unfoldable pub startup_line : List (List ℕ) → SceneRecord → Result SceneRecord LineFault
startup_line (index ∷ sub ∷ row ∷ []) scene =
    in_scene scene (then_last (startup_of index sub row) with_startup scene.slaves)
startup_line words scene = Err WrongCount

unfoldable pub kind_line : SlaveKind → List (List ℕ) → SceneRecord → Result SceneRecord LineFault
kind_line kind [] scene = in_scene scene (then_last (Ok tt) (to_kind kind) scene.slaves)
kind_line kind words scene = Err WrongCount

unfoldable pub identity_line : List (List ℕ) → SceneRecord → Result SceneRecord LineFault
identity_line (vendor ∷ product ∷ revision ∷ serial ∷ []) scene =
    in_scene scene (then_last (identity_of vendor product revision serial) to_identity scene.slaves)
identity_line words scene = Err WrongCount

unfoldable pub alias_line : List (List ℕ) → SceneRecord → Result SceneRecord LineFault
alias_line (alias ∷ []) scene = in_scene scene (then_last (alias_of alias) to_alias scene.slaves)
alias_line words scene = Err WrongCount

unfoldable pub name_line : List (List ℕ) → SceneRecord → Result SceneRecord LineFault
name_line (first ∷ more) scene = in_scene scene (then_last (name_of first more) to_name scene.slaves)
name_line words scene = Err WrongCount

unfoldable pub pdo_line : List (List ℕ) → SceneRecord → Result SceneRecord LineFault
pdo_line (index ∷ manager ∷ entries) scene =
    in_scene scene (then_last (pdo_of index manager entries) with_pdo scene.slaves)
pdo_line words scene = Err WrongCount

unfoldable pub sii_line : List (List ℕ) → SceneRecord → Result SceneRecord LineFault
sii_line (address ∷ row ∷ []) scene = in_scene scene (then_last (sii_of address row) with_sii scene.slaves)
sii_line words scene = Err WrongCount

abbrev pub with_item : ItemRecord → SceneRecord → Result SceneRecord LineFault
with_item item scene = with_room MAX_ITEMS scene.items item >>= λ items. Ok (record scene { items = items })

unfoldable pub item_line : Kind → List (List ℕ) → SceneRecord → Result SceneRecord LineFault
item_line kind (address ∷ row ∷ []) scene = item_of kind address row >>= λ item. with_item item scene
item_line kind words scene = Err WrongCount

unfoldable pub addressed_item_line : Kind → List (List ℕ) → SceneRecord → Result SceneRecord LineFault
addressed_item_line kind (station ∷ address ∷ row ∷ []) scene =
    addressed_item_of kind station address row >>= λ item. with_item item scene
addressed_item_line kind words scene = Err WrongCount

-- ---- whole lines

-- the words that say more, of which nothing is said here, and those that are none of a scene
abbrev pub other_does : List ℕ → Option (Result SceneRecord LineFault)
other_does first =
    if bytes_eq first (codes "mirror") then None
    else if bytes_eq first (codes "count") then None
    else if bytes_eq first (codes "link") then None
    else if bytes_eq first (codes "frame") then None
    else if bytes_eq first (codes "step") then None
    else if bytes_eq first (codes "weather") then None
    else Some (Err UnknownWord)

-- the words that say what a slave tells of itself, and that of a signal
abbrev pub told_does : List ℕ → List (List ℕ) → SceneRecord → Option (Result SceneRecord LineFault)
told_does first rest scene =
    if bytes_eq first (codes "plain") then Some (kind_line Plain rest scene)
    else if bytes_eq first (codes "device") then Some (kind_line Device rest scene)
    else if bytes_eq first (codes "identity") then Some (identity_line rest scene)
    else if bytes_eq first (codes "alias") then Some (alias_line rest scene)
    else if bytes_eq first (codes "name") then Some (name_line rest scene)
    else if bytes_eq first (codes "pdo") then Some (pdo_line rest scene)
    else if bytes_eq first (codes "sii") then Some (sii_line rest scene)
    else if bytes_eq first (codes "signal") then Some (signal_line rest scene)
    else other_does first

-- what a line of these words does to a scene, where it describes a slave or an item
abbrev pub word_does : List ℕ → List (List ℕ) → SceneRecord → Option (Result SceneRecord LineFault)
word_does first rest scene =
    if bytes_eq first (codes "slave") then Some (slave_line rest scene)
    else if bytes_eq first (codes "state") then Some (state_line rest scene)
    else if bytes_eq first (codes "areas") then Some (areas_line rest scene)
    else if bytes_eq first (codes "simple") then Some (simple_line rest scene)
    else if bytes_eq first (codes "sm") then Some (sync_man_line rest scene)
    else if bytes_eq first (codes "fmmu") then Some (fmmu_line rest scene)
    else if bytes_eq first (codes "mem") then Some (load_line rest scene)
    else if bytes_eq first (codes "object") then Some (object_line rest scene)
    else if bytes_eq first (codes "startup") then Some (startup_line rest scene)
    else if bytes_eq first (codes "lrd") then Some (item_line Lrd rest scene)
    else if bytes_eq first (codes "lwr") then Some (item_line Lwr rest scene)
    else if bytes_eq first (codes "lrw") then Some (item_line Lrw rest scene)
    else if bytes_eq first (codes "brd") then Some (item_line Brd rest scene)
    else if bytes_eq first (codes "fprd") then Some (addressed_item_line Fprd rest scene)
    else if bytes_eq first (codes "fpwr") then Some (addressed_item_line Fpwr rest scene)
    else told_does first rest scene

-- a line with no words does nothing
abbrev pub words_do : List (List ℕ) → SceneRecord → Option (Result SceneRecord LineFault)
words_do [] scene = Some (Ok scene)
words_do (first ∷ rest) scene = word_does first rest scene

-- a line that is no text is at fault, and one that begins with `#` does nothing
abbrev pub is_comment : List ℕ → Bool
is_comment line = slice_index line 0 == 35

abbrev pub line_does : List ℕ → SceneRecord → Option (Result SceneRecord LineFault)
line_does line scene =
    if not (list_all is_text line) then Some (Err NotText)
    else if is_comment line then Some (Ok scene)
    else words_do (words_in line) scene

-- lines one after the other, up to the first that is at fault
abbrev pub then_does : (SceneRecord → Option (Result SceneRecord LineFault))
    → Option (Result SceneRecord LineFault) → Option (Result SceneRecord LineFault)
then_does rest None = None
then_does rest (Some (Ok scene)) = rest scene
then_does rest (Some (Err fault)) = Some (Err fault)

abbrev pub lines_do : List (List ℕ) → SceneRecord → Option (Result SceneRecord LineFault)
lines_do [] scene = Some (Ok scene)
lines_do (line ∷ lines) scene = then_does (lines_do lines) (line_does line scene)

-- a text, of which LF parts the lines
abbrev pub is_line_end : ℕ → Bool
is_line_end byte = byte == 10

abbrev pub text_does : List ℕ → SceneRecord → Option (Result SceneRecord LineFault)
text_does text scene = lines_do (slice_split is_line_end text) scene
