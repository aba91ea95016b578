-- A scene as what its lines say, whatever memory it lies in.
use Rattle.std.specs.Prelude.{ℕ, Bool, false, List, [], map, Option, None}
use Rattle.ec_app.specs.declared.objects.Entry.{Entry}
use Rattle.ec_map.specs.Item.{ItemRecord}
use Rattle.ec_applications.specs.declared.application.Behaviour.{Behaviour}
use Rattle.ec_regs.specs.declared.al.AlState.{AlState}
use Rattle.ec_regs.specs.declared.al.AlState.TheVariants.{Init}
use Rattle.ec_regs.specs.declared.fmmu.Fmmu.{Fmmu}
use Rattle.ec_regs.specs.declared.sync_man.SyncMan.{SyncMan}
use Rattle.ec_sii.specs.declared.image.Identity.{Identity}
use Rattle.ecat_signals.specs.declared.field.Field.{Field}
use Rattle.ecat_signals.specs.declared.field.Signal.{Signal}
use Rattle.ecat_scene.specs.declared.scene.Action.{Action}
use Rattle.ecat_scene.specs.declared.scene.Scene.{Scene}
use Rattle.ecat_scene.specs.declared.scene.SceneSlave.{SceneSlave}
use Rattle.ecat_scene.specs.declared.scene.SceneWeather.{SceneWeather}
use Rattle.ecat_scene.specs.declared.scene.ScenePdo.{ScenePdo}
use Rattle.ecat_scene.specs.declared.scene.ScenePdoEntry.{ScenePdoEntry}
use Rattle.ecat_scene.specs.declared.scene.SiiBytes.{SiiBytes}
use Rattle.ecat_scene.specs.declared.scene.SlaveKind.{SlaveKind}
use Rattle.ecat_scene.specs.declared.scene.SlaveKind.TheVariants.{Unsaid}
use Rattle.ecat_scene.specs.declared.scene.Setting.{Setting}
use Rattle.ecat_scene.specs.declared.scene.Setting.TheVariants.{SyncMan as OfSyncMan, Fmmu as OfFmmu}
use Rattle.ecat_scene.specs.declared.scene.Setting.TheVariants.{Load as OfLoad}
use Rattle.ecat_scene.specs.declared.scene.StartupObject.{StartupObject}

-- what is set up in a slave's controller: a record by its number, or bytes from an address on
pub data SettingRecord : Type 0 where
  SyncManAt : ℕ → SyncMan → SettingRecord
  FmmuAt : ℕ → Fmmu → SettingRecord
  LoadAt : ℕ → List ℕ → SettingRecord

abbrev pub setting_record : Setting → SettingRecord
setting_record (OfSyncMan s) = SyncManAt s.index s.record
setting_record (OfFmmu s) = FmmuAt s.index s.record
setting_record (OfLoad l) = LoadAt l.address l.bytes.items

-- a PDO: its object, its sync manager, and what it maps
pub record PdoRecord : Type 0 where
  pub index : ℕ
  pub manager : ℕ
  pub entries : List ScenePdoEntry

abbrev pub pdo_record : ScenePdo → PdoRecord
pdo_record p = record { index = p.index; manager = p.manager; entries = p.entries.items }

-- bytes of its EEPROM: the address of their first word, and them
abbrev pub sii_record : SiiBytes → ℕ × List ℕ
sii_record s = (s.word, s.bytes.items)

-- one slave
pub record SlaveRecord : Type 0 where
  pub station : ℕ
  pub state : AlState
  pub simple : Bool
  pub output_length : ℕ
  pub input_length : ℕ
  pub settings : List SettingRecord
  pub objects : List Entry
  pub behaviours : List Behaviour
  pub startup : List StartupObject
  pub kind : SlaveKind
  pub identity : Option Identity
  pub alias : ℕ
  pub name : List ℕ
  pub pdos : List PdoRecord
  pub sii : List (ℕ × List ℕ)

abbrev pub slave_record : SceneSlave → SlaveRecord
slave_record s = record {
  station = s.station;
  state = s.state;
  simple = s.simple;
  output_length = s.output_length;
  input_length = s.input_length;
  settings = map setting_record s.settings.items;
  objects = s.objects;
  behaviours = s.behaviours.items;
  startup = s.startup.items;
  kind = s.kind;
  identity = s.identity;
  alias = s.alias;
  name = s.name.items;
  pdos = map pdo_record s.pdos.items;
  sii = map sii_record s.sii.items;
}

-- one that was only begun
abbrev pub new_slave : ℕ → SlaveRecord
new_slave station = record {
  station = station;
  state = Init;
  simple = false;
  output_length = 0;
  input_length = 0;
  settings = [];
  objects = [];
  behaviours = [];
  startup = [];
  kind = Unsaid;
  identity = None;
  alias = 0;
  name = [];
  pdos = [];
  sii = [];
}

-- bits of an item, by their name
pub record SignalRecord : Type 0 where
  pub name : List ℕ
  pub field : Field

abbrev pub signal_record : Signal → SignalRecord
signal_record s = record { name = s.name.items; field = s.field }

-- a line of slaves and what is done with it
pub record SceneRecord : Type 0 where
  pub slaves : List SlaveRecord
  pub links_down : List ℕ
  pub actions : List Action
  pub items : List ItemRecord
  pub weathers : List SceneWeather
  pub signals : List SignalRecord

abbrev pub scene_record : Scene → SceneRecord
scene_record s = record {
  slaves = map slave_record s.slaves.items;
  links_down = s.links_down.items;
  actions = s.actions.items;
  items = s.items.items;
  weathers = s.weathers.items;
  signals = map signal_record s.signals.items;
}

-- one of which no line was read
abbrev pub empty_scene : SceneRecord
empty_scene = record {
  slaves = [];
  links_down = [];
  actions = [];
  items = [];
  weathers = [];
  signals = [];
}
