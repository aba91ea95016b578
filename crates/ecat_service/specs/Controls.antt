-- What `line` prints of each slave of a line that is served: its place and station, its AL status (IEC
-- 61158-6-12, AL status), the links beside it, and how many of its records are active.
use Rattle.std.specs.Prelude.{ℕ, Bool, true, false, ◌++◌, List, codes, if◌then◌else◌}
use Rattle.std.specs.Fmt.{decimal}
use Rattle.ec_esc.specs.Application.{al_status, al_status_code}
use Rattle.ec_esc.specs.State.{ControllerState}
use Rattle.ecat_text.specs.Words.{hexadecimal}
use Rattle.ecat_service.specs.declared.slave_lines.SlaveText.{SlaveText}

-- a link
abbrev pub link_words : Bool → List ℕ
link_words true = codes "up"
link_words false = codes "down"

-- a number of 16 bits
unfoldable pub four_digits : ℕ → List ℕ
four_digits number = codes "0x" ++ hexadecimal 4 number

-- the links before and behind a slave
unfoldable pub beside_words : Bool → Bool → List ℕ
beside_words before behind = codes "links " ++ link_words before ++ codes " " ++ link_words behind

-- how many FMMUs and sync managers are active
unfoldable pub active_words : ℕ → ℕ → List ℕ
active_words fmmus managers = codes "fmmus " ++ decimal fmmus ++ codes " sms " ++ decimal managers

-- a slave's place and station
unfoldable pub name_words : ℕ → ℕ → List ℕ
name_words place station = codes "slave " ++ decimal place ++ codes " station " ++ four_digits station

-- the code of its state, and of its error
unfoldable pub status_words : ℕ → ℕ → List ℕ
status_words state error = codes "state " ++ decimal state ++ codes " error " ++ four_digits error

-- a slave
abbrev pub slave_words : SlaveText → List ℕ
slave_words slave =
    name_words slave.place slave.station ++ codes " " ++ status_words slave.state slave.error
    ++ codes " " ++ beside_words slave.before slave.behind
    ++ codes " " ++ active_words slave.fmmus slave.managers

-- the AL status code where the error bit stands, and else 0
abbrev pub error_of : ControllerState → ℕ
error_of c = if (al_status c).error then al_status_code c else 0
