-- The command line of `ecat`, in clap's own words: eighteen commands, of which one has to be given.
use Rattle.std.specs.Prelude.{◌≡◌, ◌∷◌, List, [], Some, codes, false, fold, true}
use Rattle.clap.specs.Words.{App, Rule, Text, app_of, new_app, new_rule, rule_of, with_rule, with_subcommand}
use Rattle.clap.specs.declared.builder.action.ArgAction.TheVariants.{SetTrue}
use Rattle.clap.specs.declared.builder.arg.Arg.{Arg}
use Rattle.clap.specs.declared.builder.command.Command.{Command}
use Rattle.clap.specs.declared.builder.command.Command.TheViews.{out-Command as fields_of}

-- the argument is a word of this rule, for its own command alone
abbrev pub IsWord : Rule → Arg → Type 0
IsWord rule arg = (rule_of arg ≡ rule) × (arg.global ≡ false)

-- the arguments are words of these rules
abbrev pub AreWords : List Rule → List Arg → Type 0
AreWords [] [] = Unit {0}
AreWords (rule ∷ rules) (arg ∷ args) = IsWord rule arg × AreWords rules args
AreWords _ _ = ⊥

-- the command is this line, with no word for the commands below it
abbrev pub Builds : App → Command → Type 0
Builds line command = (app_of command ≡ line) × ((fields_of command).has_globals ≡ false)

-- a word that has to be given
abbrev pub needed_rule : Text → Rule
needed_rule id = record (new_rule id) { required = true }

-- a word behind its name, which stands after two hyphens
abbrev pub option_rule : Text → Text → Rule
option_rule id name = record (new_rule id) { long = Some name }

-- a flag: its name after two hyphens, with no value
abbrev pub flag_rule : Text → Rule
flag_rule name = record (new_rule name) { long = Some name; action = Some SetTrue }

-- a command with these words, in their order
abbrev pub with_rules : App → List Rule → App
with_rules = fold with_rule

-- ---- words that several commands have

-- `SCENE`
abbrev pub scene_rule : Rule
scene_rule = needed_rule (codes "SCENE")

-- `SCENE` alone
abbrev pub scene_word : List Rule
scene_word = scene_rule ∷ []

-- `--port P`
abbrev pub port_rule : Rule
port_rule = option_rule (codes "P") (codes "port")

-- `--at AT`
abbrev pub at_rule : Rule
at_rule = option_rule (codes "AT") (codes "at")

-- `--raw RAW`
abbrev pub raw_rule : Rule
raw_rule = option_rule (codes "RAW") (codes "raw")

-- `--through THROUGH`
abbrev pub through_rule : Rule
through_rule = option_rule (codes "THROUGH") (codes "through")

-- `--limit LIMIT`
abbrev pub limit_rule : Rule
limit_rule = option_rule (codes "LIMIT") (codes "limit")

-- `--late LATE`
abbrev pub late_rule : Rule
late_rule = option_rule (codes "LATE") (codes "late")

-- `--pcap PCAP`
abbrev pub pcap_rule : Rule
pcap_rule = option_rule (codes "PCAP") (codes "pcap")

-- `--force`
abbrev pub force_rule : Rule
force_rule = flag_rule (codes "force")

-- `--judge`
abbrev pub judge_rule : Rule
judge_rule = flag_rule (codes "judge")

-- `--json`
abbrev pub json_rule : Rule
json_rule = flag_rule (codes "json")

-- `SCENE [--json]`
abbrev pub told_words : List Rule
told_words = scene_rule ∷ json_rule ∷ []

-- ---- the commands

-- `show FILE`
abbrev pub show_words : List Rule
show_words = needed_rule (codes "FILE") ∷ []

abbrev pub show_line : App
show_line = with_rules (new_app (codes "show")) show_words

-- `list FILE [--csv] [--faults] [--stats] [--index] [--json]`
abbrev pub list_words : List Rule
list_words = needed_rule (codes "FILE") ∷ flag_rule (codes "csv")
    ∷ flag_rule (codes "faults") ∷ flag_rule (codes "stats") ∷ flag_rule (codes "index")
    ∷ json_rule ∷ []

abbrev pub list_line : App
list_line = with_rules (new_app (codes "list")) list_words

-- `learn FILE [--at PACKET] [--asked] [--data]`
abbrev pub learn_words : List Rule
learn_words = needed_rule (codes "FILE") ∷ option_rule (codes "PACKET") (codes "at")
    ∷ flag_rule (codes "asked") ∷ flag_rule (codes "data") ∷ []

abbrev pub learn_line : App
learn_line = with_rules (new_app (codes "learn")) learn_words

-- `--clock CLOCK`
abbrev pub clock_rule : Rule
clock_rule = option_rule (codes "CLOCK") (codes "clock")

-- `judge FILE [SCENE] [--csv] [--limit LINES] [--clock CLOCK] [--json]`
abbrev pub judge_words : List Rule
judge_words = needed_rule (codes "FILE") ∷ new_rule (codes "SCENE")
    ∷ flag_rule (codes "csv") ∷ option_rule (codes "LINES") (codes "limit") ∷ clock_rule
    ∷ json_rule ∷ []

abbrev pub judge_line : App
judge_line = with_rules (new_app (codes "judge")) judge_words

-- `replay FILE SCENE [--plain] [--set-up]`
abbrev pub replay_words : List Rule
replay_words = needed_rule (codes "FILE") ∷ needed_rule (codes "SCENE")
    ∷ flag_rule (codes "plain") ∷ flag_rule (codes "set-up") ∷ []

abbrev pub replay_line : App
replay_line = with_rules (new_app (codes "replay")) replay_words

-- `check SCENE [--json]`
abbrev pub check_line : App
check_line = with_rules (new_app (codes "check")) told_words

-- `cover SCENE [--json]`
abbrev pub cover_line : App
cover_line = with_rules (new_app (codes "cover")) told_words

-- `lint SCENE [--json]`
abbrev pub lint_line : App
lint_line = with_rules (new_app (codes "lint")) told_words

-- `where SCENE [--at AT] [--raw RAW] [--through THROUGH] [--json]`
abbrev pub where_words : List Rule
where_words = scene_rule ∷ at_rule ∷ raw_rule ∷ through_rule ∷ json_rule ∷ []

abbrev pub where_line : App
where_line = with_rules (new_app (codes "where")) where_words

-- `run SCENE [--judge] [--pcap PCAP] [--force]`
abbrev pub run_words : List Rule
run_words = scene_rule ∷ judge_rule ∷ pcap_rule ∷ force_rule ∷ []

abbrev pub run_line : App
run_line = with_rules (new_app (codes "run")) run_words

-- `sweep SCENE`
abbrev pub sweep_line : App
sweep_line = with_rules (new_app (codes "sweep")) scene_word

-- `sdo SCENE STATION INDEX SUB [VALUE] [--surely] [--once] [--at AT] [--raw RAW] [--through THROUGH]`
abbrev pub sdo_words : List Rule
sdo_words = scene_rule ∷ needed_rule (codes "STATION")
    ∷ needed_rule (codes "INDEX") ∷ needed_rule (codes "SUB") ∷ new_rule (codes "VALUE")
    ∷ flag_rule (codes "surely") ∷ flag_rule (codes "once") ∷ at_rule ∷ raw_rule ∷ through_rule ∷ []

abbrev pub sdo_line : App
sdo_line = with_rules (new_app (codes "sdo")) sdo_words

-- `udp SCENE [--port P] [--judge] [--pcap PCAP] [--force]`
abbrev pub udp_words : List Rule
udp_words = scene_rule ∷ port_rule ∷ judge_rule ∷ pcap_rule ∷ force_rule ∷ []

abbrev pub udp_line : App
udp_line = with_rules (new_app (codes "udp")) udp_words

-- `serve SCENE [--port P] [--packets N] [--bind ADDRESS] [--forever] [--control] [--log] [--plain]
-- [--set-up] [--sii FOLDER] [--raw RAW] [--pcap PCAP] [--force] [--json]`
abbrev pub serve_words : List Rule
serve_words = scene_rule ∷ port_rule
    ∷ option_rule (codes "N") (codes "packets") ∷ option_rule (codes "ADDRESS") (codes "bind")
    ∷ flag_rule (codes "forever") ∷ flag_rule (codes "control") ∷ flag_rule (codes "log") ∷ []

-- what its slaves are, and where it lies
abbrev pub device_words : List Rule
device_words = flag_rule (codes "plain") ∷ flag_rule (codes "set-up")
    ∷ option_rule (codes "FOLDER") (codes "sii") ∷ raw_rule ∷ pcap_rule ∷ force_rule ∷ json_rule ∷ []

abbrev pub serve_line : App
serve_line = with_rules (with_rules (new_app (codes "serve")) serve_words) device_words

-- `master SCENE [--at AT] [--raw RAW] [--cycles N] [--until-end] [--every MICROSECONDS] [--busy]
-- [--limit LIMIT] [--late LATE] [--outputs OUTPUTS] [--log LOG] [--log-images] [--log-or-stop]
-- [--clock CLOCK] [--progress PROGRESS] [--json] [--io IO] [--io-open] [--io-stale CYCLES]
-- [--io-rest REST] [--control] [--stop] [--recover] [--tries TRIES] [--leave STATE] [--pcap PCAP] [--force]`
abbrev pub master_words : List Rule
master_words = scene_rule ∷ at_rule ∷ raw_rule
    ∷ option_rule (codes "N") (codes "cycles") ∷ flag_rule (codes "until-end") ∷ []

-- when its cycles begin, and how long they wait
abbrev pub pace_words : List Rule
pace_words = option_rule (codes "MICROSECONDS") (codes "every") ∷ flag_rule (codes "busy")
    ∷ limit_rule ∷ late_rule ∷ []

-- what they send, and what is written of them
abbrev pub course_words : List Rule
course_words = option_rule (codes "OUTPUTS") (codes "outputs")
    ∷ option_rule (codes "LOG") (codes "log") ∷ flag_rule (codes "log-images")
    ∷ flag_rule (codes "log-or-stop") ∷ clock_rule ∷ option_rule (codes "PROGRESS") (codes "progress")
    ∷ json_rule ∷ []

-- where a program gives the outputs and gets the inputs, and whether lines of the input set and tell them
abbrev pub io_words : List Rule
io_words = option_rule (codes "IO") (codes "io") ∷ flag_rule (codes "io-open")
    ∷ option_rule (codes "CYCLES") (codes "io-stale") ∷ option_rule (codes "REST") (codes "io-rest")
    ∷ flag_rule (codes "control") ∷ []

-- how it ends, and its other words
abbrev pub end_words : List Rule
end_words = flag_rule (codes "stop") ∷ flag_rule (codes "recover")
    ∷ option_rule (codes "TRIES") (codes "tries") ∷ option_rule (codes "STATE") (codes "leave")
    ∷ pcap_rule ∷ force_rule ∷ []

abbrev pub master_line : App
master_line =
    with_rules (with_rules (with_rules (with_rules (with_rules (new_app (codes "master")) master_words)
    pace_words) course_words) io_words) end_words

-- `scan [--at AT] [--raw RAW] [--through THROUGH] [--limit LIMIT] [--late LATE] [--scene SCENE] [--force]
-- [--json]`
abbrev pub scan_words : List Rule
scan_words = at_rule ∷ raw_rule ∷ through_rule ∷ limit_rule ∷ late_rule
    ∷ option_rule (codes "SCENE") (codes "scene") ∷ force_rule ∷ json_rule ∷ []

abbrev pub scan_line : App
scan_line = with_rules (new_app (codes "scan")) scan_words

-- `sii FILE [PLACE] [--write WRITE] [--force]`
abbrev pub sii_words : List Rule
sii_words = needed_rule (codes "FILE") ∷ new_rule (codes "PLACE")
    ∷ option_rule (codes "WRITE") (codes "write") ∷ force_rule ∷ []

abbrev pub sii_line : App
sii_line = with_rules (new_app (codes "sii")) sii_words

-- `vectors`
abbrev pub vectors_line : App
vectors_line = new_app (codes "vectors")

-- ---- the whole

-- a line after which a command has to follow
abbrev pub needs_command : App → App
needs_command app = record app { top = record app.top { subcommand_required = true } }

-- the program's name, and then a command
abbrev pub ecat_setup : App
ecat_setup = needs_command (new_app (codes "ecat"))

-- a line with these commands, in their order
abbrev pub with_commands : App → List App → App
with_commands = fold (λ above below. with_subcommand above below.top)

-- the commands on captures
abbrev pub capture_lines : List App
capture_lines = show_line ∷ list_line ∷ learn_line ∷ judge_line ∷ replay_line ∷ []

-- the commands on the line of a scene
abbrev pub scene_lines : List App
scene_lines = check_line ∷ cover_line ∷ lint_line ∷ where_line ∷ run_line ∷ sweep_line ∷ sdo_line ∷ []

-- the commands over sockets, what an EEPROM says, and the worked rows
abbrev pub socket_lines : List App
socket_lines = udp_line ∷ serve_line ∷ master_line ∷ scan_line ∷ sii_line ∷ vectors_line ∷ []

-- the whole line
unfoldable pub line : App
line = with_commands (with_commands (with_commands ecat_setup capture_lines) scene_lines) socket_lines
