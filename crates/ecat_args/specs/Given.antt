-- A command that clap gives: its name, and the words that were given for it, each under the name
-- that it has in the definition of the line.
use Rattle.std.specs.Prelude.{◌≡◌, ◌∷◌, ℕ, Bool, List, [], Option, Some, None, true, false, codes, is_some}
use Rattle.std.specs.Prelude.{if◌then◌else◌, option_and_then, option_map}
use Rattle.std.specs.List.{list_all, list_any}
use Rattle.std.specs.Str.{bytes_eq}
use Rattle.std.specs.Net.Addr.{ipv4_octets}
use Rattle.std.specs.Net.Grammar.{IsIpv4Text}
use Rattle.std.specs.declared.net.ipv4_addr.Ipv4Addr.{Ipv4Addr}
use Rattle.clap.specs.Words.{Row, Text, first_of}
use Rattle.ecat_args.specs.Number.{number_within, value_of}
use Rattle.ecat_args.specs.declared.number.Value.{Value}

abbrev pub Given : Type 0
Given = Text × List Row

-- the word that was given under this name
abbrev pub word_in : Given → Text → Option Text
word_in given name = first_of name given.1

-- the number that this word writes, where it is from `least` to `most`
abbrev pub number_in : Given → Text → ℕ → ℕ → Option ℕ
number_in given name least most = option_and_then (number_within least most) (word_in given name)

-- the station address, the index and the subindex of `sdo`
abbrev pub station_in : Given → Option ℕ
station_in given = number_in given (codes "STATION") 0 65535

abbrev pub index_in : Given → Option ℕ
index_in given = number_in given (codes "INDEX") 0 65535

abbrev pub sub_in : Given → Option ℕ
sub_in given = number_in given (codes "SUB") 0 255

-- the value of `sdo`: where no word was given there is none, and `None` says that the word is no
-- value
abbrev pub value_by : Option Text → Option (Option Value)
value_by None = Some None
value_by (Some word) = option_map (λ value. Some value) (value_of word)

abbrev pub value_in : Given → Option (Option Value)
value_in given = value_by (word_in given (codes "VALUE"))

-- the port of `udp` and of `serve`: where no word was given it is EtherCAT's own, 0x88a4, and
-- `None` says that the word is no port
abbrev pub port_by : Option Text → Option ℕ
port_by None = Some 0x88a4
port_by (Some word) = number_within 1024 65534 word

abbrev pub port_in : Given → Option ℕ
port_in given = port_by (word_in given (codes "P"))

-- a count that may be left out: where no word was given there is none, and `None` says that the word is
-- none
abbrev pub count_by : Option Text → Option (Option ℕ)
count_by None = Some None
count_by (Some word) = option_map (λ n. Some n) (number_within 1 4294967295 word)

-- the packet in front of which `learn` tells the line
abbrev pub packet_in : Given → Option (Option ℕ)
packet_in given = count_by (word_in given (codes "PACKET"))

-- how many lines of runs `judge` prints
abbrev pub lines_in : Given → Option (Option ℕ)
lines_in given = count_by (word_in given (codes "LINES"))

-- a place that may be left out, 0 for the first one: where no word was given there is none, and `None` says
-- that the word is none
abbrev pub place_by : Option Text → Option (Option ℕ)
place_by None = Some None
place_by (Some word) = option_map (λ n. Some n) (number_within 0 4294967295 word)

-- the place of the slave in its scene whose EEPROM `sii` prints
abbrev pub place_in : Given → Option (Option ℕ)
place_in given = place_by (word_in given (codes "PLACE"))

-- how many packets `serve` takes, and how many cycles `master` makes
abbrev pub many_in : Given → Option (Option ℕ)
many_in given = count_by (word_in given (codes "N"))

-- how many microseconds lie between the cycles of `master`
abbrev pub every_in : Given → Option (Option ℕ)
every_in given = count_by (word_in given (codes "MICROSECONDS"))

-- how many microseconds a copy is waited for
abbrev pub limit_in : Given → Option (Option ℕ)
limit_in given = count_by (word_in given (codes "LIMIT"))

-- for how many milliseconds a missing copy may still come
abbrev pub late_in : Given → Option (Option ℕ)
late_in given = count_by (word_in given (codes "LATE"))

-- after how many cycles without a packet outputs are stale
abbrev pub io_stale_in : Given → Option (Option ℕ)
io_stale_in given = count_by (word_in given (codes "CYCLES"))

-- how often a state is read at the most that a slave is asked for
abbrev pub tries_in : Given → Option (Option ℕ)
tries_in given = count_by (word_in given (codes "TRIES"))

-- whether a flag was given: clap writes down `true` for it, and `false` where it was not
abbrev pub flag_by : Option Text → Bool
flag_by None = false
flag_by (Some word) = bytes_eq word (codes "true")

abbrev pub judge_in : Given → Bool
judge_in given = flag_by (word_in given (codes "judge"))

abbrev pub surely_in : Given → Bool
surely_in given = flag_by (word_in given (codes "surely"))

abbrev pub once_in : Given → Bool
once_in given = flag_by (word_in given (codes "once"))

abbrev pub control_in : Given → Bool
control_in given = flag_by (word_in given (codes "control"))

abbrev pub forever_in : Given → Bool
forever_in given = flag_by (word_in given (codes "forever"))

abbrev pub force_in : Given → Bool
force_in given = flag_by (word_in given (codes "force"))

abbrev pub plain_in : Given → Bool
plain_in given = flag_by (word_in given (codes "plain"))

abbrev pub set_up_in : Given → Bool
set_up_in given = flag_by (word_in given (codes "set-up"))

abbrev pub log_in : Given → Bool
log_in given = flag_by (word_in given (codes "log"))

abbrev pub images_in : Given → Bool
images_in given = flag_by (word_in given (codes "log-images"))

abbrev pub or_stop_in : Given → Bool
or_stop_in given = flag_by (word_in given (codes "log-or-stop"))

abbrev pub io_open_in : Given → Bool
io_open_in given = flag_by (word_in given (codes "io-open"))

abbrev pub until_end_in : Given → Bool
until_end_in given = flag_by (word_in given (codes "until-end"))

abbrev pub busy_in : Given → Bool
busy_in given = flag_by (word_in given (codes "busy"))

abbrev pub asked_in : Given → Bool
asked_in given = flag_by (word_in given (codes "asked"))

abbrev pub data_in : Given → Bool
data_in given = flag_by (word_in given (codes "data"))

abbrev pub csv_in : Given → Bool
csv_in given = flag_by (word_in given (codes "csv"))

abbrev pub json_in : Given → Bool
json_in given = flag_by (word_in given (codes "json"))

abbrev pub faults_in : Given → Bool
faults_in given = flag_by (word_in given (codes "faults"))

abbrev pub stats_in : Given → Bool
stats_in given = flag_by (word_in given (codes "stats"))

abbrev pub by_index_in : Given → Bool
by_index_in given = flag_by (word_in given (codes "index"))

abbrev pub stop_in : Given → Bool
stop_in given = flag_by (word_in given (codes "stop"))

abbrev pub recover_in : Given → Bool
recover_in given = flag_by (word_in given (codes "recover"))

-- the address of `serve`: where no word was given it is 127.0.0.1, and else the one that the word writes,
-- four decimal numbers with dots between them
abbrev pub LiesAt : Option Text → Ipv4Addr → Type 0
LiesAt None address = ipv4_octets address ≡ 127 ∷ 0 ∷ 0 ∷ 1 ∷ []
LiesAt (Some word) address = IsIpv4Text word address

-- a word was given that writes no address
abbrev pub IsNoAddress : Option Text → Type 0
IsNoAddress None = ⊥
IsNoAddress (Some word) = (address : Ipv4Addr) → IsIpv4Text word address → ⊥

-- the names of the commands
abbrev pub command_names : List Text
command_names = codes "show" ∷ codes "list" ∷ codes "learn" ∷ codes "judge" ∷ codes "replay" ∷ codes "check"
    ∷ codes "cover" ∷ codes "lint" ∷ codes "where" ∷ codes "run" ∷ codes "sweep" ∷ codes "sdo" ∷ codes "udp"
    ∷ codes "serve" ∷ codes "master" ∷ codes "scan" ∷ codes "sii" ∷ codes "vectors" ∷ []

-- the names of the words that a command needs
abbrev pub needed_words : Text → List Text
needed_words command =
    if bytes_eq command (codes "show") then codes "FILE" ∷ []
    else if bytes_eq command (codes "list") then codes "FILE" ∷ []
    else if bytes_eq command (codes "learn") then codes "FILE" ∷ []
    else if bytes_eq command (codes "judge") then codes "FILE" ∷ []
    else if bytes_eq command (codes "replay") then codes "FILE" ∷ codes "SCENE" ∷ []
    else if bytes_eq command (codes "check") then codes "SCENE" ∷ []
    else if bytes_eq command (codes "cover") then codes "SCENE" ∷ []
    else if bytes_eq command (codes "lint") then codes "SCENE" ∷ []
    else if bytes_eq command (codes "where") then codes "SCENE" ∷ []
    else if bytes_eq command (codes "run") then codes "SCENE" ∷ []
    else if bytes_eq command (codes "sweep") then codes "SCENE" ∷ []
    else if bytes_eq command (codes "sdo")
    then codes "SCENE" ∷ codes "STATION" ∷ codes "INDEX" ∷ codes "SUB" ∷ []
    else if bytes_eq command (codes "udp") then codes "SCENE" ∷ []
    else if bytes_eq command (codes "serve") then codes "SCENE" ∷ []
    else if bytes_eq command (codes "master") then codes "SCENE" ∷ []
    else if bytes_eq command (codes "sii") then codes "FILE" ∷ []
    else []

-- the command is one of the eighteen, and the words that it needs were given
abbrev pub IsComplete : Given → Type 0
IsComplete given = (list_any (bytes_eq given.0) command_names ≡ true)
    × (list_all (λ name. is_some (word_in given name)) (needed_words given.0) ≡ true)
