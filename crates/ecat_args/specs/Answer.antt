-- What the arguments say of the command that clap reads from the words, and why words are refused.
use Rattle.std.specs.Prelude.{◌≡◌, ◌≢◌, ◌⊎◌, List, [], Some, None, codes, false, option_map}
use Rattle.clap.specs.Words.{IsAmong, Text, fault_of, kind_of, subcommand_of, takes}
use Rattle.clap.specs.declared.error.Error.{Error}
use Rattle.clap.specs.declared.error.kind.ErrorKind.TheVariants.{OutOfMemory}
use Rattle.ecat_args.specs.Given.{Given, IsComplete, IsNoAddress, LiesAt, control_in, force_in, forever_in}
use Rattle.ecat_args.specs.Given.{by_index_in, index_in, io_open_in, io_stale_in, lines_in}
use Rattle.ecat_args.specs.Given.{judge_in, log_in, many_in, plain_in, port_in, set_up_in, station_in, sub_in}
use Rattle.ecat_args.specs.Given.{place_in, surely_in, tries_in}
use Rattle.ecat_args.specs.Given.{csv_in, every_in, faults_in, images_in, late_in, limit_in, once_in}
use Rattle.ecat_args.specs.Given.{asked_in, data_in, packet_in, recover_in, stats_in, stop_in, value_in}
use Rattle.ecat_args.specs.Given.{busy_in, json_in, or_stop_in, until_end_in, word_in}
use Rattle.ecat_commands.specs.Commands.{line}
use Rattle.ecat_args.specs.declared.args.Args.{Args}
use Rattle.ecat_args.specs.declared.args.Args.TheVariants.{Capture, Scene, Scan, Sii, Vectors}
use Rattle.ecat_args.specs.declared.args.ArgsFault.{ArgsFault}
use Rattle.ecat_args.specs.declared.args.ArgsFault.TheVariants.{Line, BadNumber, NoMemory}
use Rattle.ecat_args.specs.declared.commands.CaptureCommand.{CaptureCommand}
use Rattle.ecat_args.specs.declared.commands.CaptureCommand.TheVariants.{Show, List as Lists, Learn, Judge}
use Rattle.ecat_args.specs.declared.commands.CaptureCommand.TheVariants.{Replay}
use Rattle.ecat_args.specs.declared.commands.SceneCommand.{SceneCommand}
use Rattle.ecat_args.specs.declared.commands.SceneCommand.TheVariants.{Check, Cover, Lint, Where, Run, Sweep}
use Rattle.ecat_args.specs.declared.commands.SceneCommand.TheVariants.{Sdo, Udp, Serve, Master}

-- the command on a capture is this one, its texts as they stand and the numbers that its words write
abbrev pub SaysOfCapture : CaptureCommand → Given → Type 0
SaysOfCapture (Show file) given =
    (given.0 ≡ codes "show") × (word_in given (codes "FILE") ≡ Some file.now)
SaysOfCapture (Lists file csv faults stats by_index json) given =
    (given.0 ≡ codes "list") × (word_in given (codes "FILE") ≡ Some file.now)
    × (csv_in given ≡ csv) × (faults_in given ≡ faults) × (stats_in given ≡ stats)
    × (by_index_in given ≡ by_index) × (json_in given ≡ json)
SaysOfCapture (Learn file packet asked values) given =
    (given.0 ≡ codes "learn") × (word_in given (codes "FILE") ≡ Some file.now)
    × (packet_in given ≡ Some packet) × (asked_in given ≡ asked) × (data_in given ≡ values)
SaysOfCapture (Judge file scene csv lines clock json) given =
    (given.0 ≡ codes "judge") × (word_in given (codes "FILE") ≡ Some file.now)
    × (word_in given (codes "SCENE") ≡ option_map (λ w. w.now) scene)
    × (csv_in given ≡ csv) × (lines_in given ≡ Some lines)
    × (word_in given (codes "CLOCK") ≡ option_map (λ w. w.now) clock) × (json_in given ≡ json)
SaysOfCapture (Replay file scene plain set_up) given =
    (given.0 ≡ codes "replay") × (word_in given (codes "FILE") ≡ Some file.now)
    × (word_in given (codes "SCENE") ≡ Some scene.now)
    × (plain_in given ≡ plain) × (set_up_in given ≡ set_up)

-- the command on a scene is this one; where the scene lies is said beside it
abbrev pub SaysOfScene : SceneCommand → Given → Type 0
SaysOfScene (Check json) given = (given.0 ≡ codes "check") × (json_in given ≡ json)
SaysOfScene (Cover json) given = (given.0 ≡ codes "cover") × (json_in given ≡ json)
SaysOfScene (Lint json) given = (given.0 ≡ codes "lint") × (json_in given ≡ json)
SaysOfScene (Where place raw through json) given =
    (given.0 ≡ codes "where")
    × (word_in given (codes "AT") ≡ option_map (λ w. w.now) place)
    × (word_in given (codes "RAW") ≡ option_map (λ w. w.now) raw)
    × (word_in given (codes "THROUGH") ≡ option_map (λ w. w.now) through)
    × (json_in given ≡ json)
SaysOfScene (Run judge pcap force) given =
    (given.0 ≡ codes "run")
    × (judge_in given ≡ judge) × (word_in given (codes "PCAP") ≡ option_map (λ w. w.now) pcap)
    × (force_in given ≡ force)
SaysOfScene Sweep given = given.0 ≡ codes "sweep"
SaysOfScene (Sdo station index sub value surely once place raw through) given =
    (given.0 ≡ codes "sdo")
    × (station_in given ≡ Some station) × (index_in given ≡ Some index)
    × (sub_in given ≡ Some sub) × (value_in given ≡ Some value) × (surely_in given ≡ surely)
    × (once_in given ≡ once) × (word_in given (codes "AT") ≡ option_map (λ w. w.now) place)
    × (word_in given (codes "RAW") ≡ option_map (λ w. w.now) raw)
    × (word_in given (codes "THROUGH") ≡ option_map (λ w. w.now) through)
SaysOfScene (Udp port judge pcap force) given =
    (given.0 ≡ codes "udp")
    × (port_in given ≡ Some port) × (judge_in given ≡ judge)
    × (word_in given (codes "PCAP") ≡ option_map (λ w. w.now) pcap) × (force_in given ≡ force)
SaysOfScene (Serve port packets address forever control log plain set_up sii raw pcap force json) given =
    (given.0 ≡ codes "serve")
    × (port_in given ≡ Some port) × (many_in given ≡ Some packets)
    × LiesAt (word_in given (codes "ADDRESS")) address
    × (forever_in given ≡ forever) × (control_in given ≡ control) × (log_in given ≡ log)
    × (plain_in given ≡ plain) × (set_up_in given ≡ set_up)
    × (word_in given (codes "FOLDER") ≡ option_map (λ w. w.now) sii)
    × (word_in given (codes "RAW") ≡ option_map (λ w. w.now) raw)
    × (word_in given (codes "PCAP") ≡ option_map (λ w. w.now) pcap) × (force_in given ≡ force)
    × (json_in given ≡ json)
SaysOfScene (Master words) given =
    (given.0 ≡ codes "master")
    × (word_in given (codes "AT") ≡ option_map (λ w. w.now) words.at)
    × (word_in given (codes "RAW") ≡ option_map (λ w. w.now) words.raw) × (many_in given ≡ Some words.cycles)
    × (until_end_in given ≡ words.until_end)
    × (every_in given ≡ Some words.every) × (busy_in given ≡ words.busy) × (limit_in given ≡ Some words.limit)
    × (late_in given ≡ Some words.late)
    × (word_in given (codes "OUTPUTS") ≡ option_map (λ w. w.now) words.outputs)
    × (word_in given (codes "LOG") ≡ option_map (λ w. w.now) words.log) × (images_in given ≡ words.log_images)
    × (or_stop_in given ≡ words.log_or_stop)
    × (word_in given (codes "CLOCK") ≡ option_map (λ w. w.now) words.clock)
    × (word_in given (codes "PROGRESS") ≡ option_map (λ w. w.now) words.progress)
    × (json_in given ≡ words.json)
    × (word_in given (codes "IO") ≡ option_map (λ w. w.now) words.io) × (io_open_in given ≡ words.io_open)
    × (io_stale_in given ≡ Some words.io_stale)
    × (word_in given (codes "REST") ≡ option_map (λ w. w.now) words.io_rest)
    × (control_in given ≡ words.control) × (stop_in given ≡ words.stop)
    × (recover_in given ≡ words.recover) × (tries_in given ≡ Some words.tries)
    × (word_in given (codes "STATE") ≡ option_map (λ w. w.now) words.leave)
    × (word_in given (codes "PCAP") ≡ option_map (λ w. w.now) words.pcap) × (force_in given ≡ words.force)

-- the arguments are this command, its texts as they stand and the numbers that its words write
abbrev pub Says : Args → Given → Type 0
Says (Capture command) given = SaysOfCapture command given
Says (Scene path command) given =
    (word_in given (codes "SCENE") ≡ Some path.now) × SaysOfScene command given
Says (Scan words) given =
    (given.0 ≡ codes "scan") × (word_in given (codes "AT") ≡ option_map (λ w. w.now) words.at)
    × (word_in given (codes "RAW") ≡ option_map (λ w. w.now) words.raw)
    × (word_in given (codes "THROUGH") ≡ option_map (λ w. w.now) words.through)
    × (limit_in given ≡ Some words.limit) × (late_in given ≡ Some words.late)
    × (word_in given (codes "SCENE") ≡ option_map (λ w. w.now) words.scene)
    × (force_in given ≡ words.force) × (json_in given ≡ words.json)
Says (Sii words) given =
    (given.0 ≡ codes "sii") × (word_in given (codes "FILE") ≡ Some words.file.now)
    × (place_in given ≡ Some words.place)
    × (word_in given (codes "WRITE") ≡ option_map (λ w. w.now) words.write) × (force_in given ≡ words.force)
Says Vectors given = given.0 ≡ codes "vectors"

-- a word of the command that has to be a number, a value or an address is none in its range
abbrev pub HasBadNumber : Given → Type 0
HasBadNumber given =
    ((given.0 ≡ codes "sdo") × ((station_in given ≡ None) ⊎ (index_in given ≡ None)
    ⊎ (sub_in given ≡ None) ⊎ (value_in given ≡ None)))
    ⊎ ((given.0 ≡ codes "learn") × (packet_in given ≡ None))
    ⊎ ((given.0 ≡ codes "judge") × (lines_in given ≡ None))
    ⊎ ((given.0 ≡ codes "udp") × (port_in given ≡ None))
    ⊎ ((given.0 ≡ codes "serve") × ((port_in given ≡ None) ⊎ (many_in given ≡ None)
    ⊎ IsNoAddress (word_in given (codes "ADDRESS"))))
    ⊎ ((given.0 ≡ codes "master") × ((many_in given ≡ None) ⊎ (every_in given ≡ None)
    ⊎ (limit_in given ≡ None) ⊎ (late_in given ≡ None) ⊎ (io_stale_in given ≡ None)
    ⊎ (tries_in given ≡ None)))
    ⊎ ((given.0 ≡ codes "scan") × ((limit_in given ≡ None) ⊎ (late_in given ≡ None)))
    ⊎ ((given.0 ≡ codes "sii") × (place_in given ≡ None))

-- clap's definition of the line takes the words, and what it gives of them is complete and
-- satisfies P
pub record Takes (words : List Text) (P : Given → Type 0) : Type 0 where
  pub given : Given
  pub faultless : fault_of line words ≡ []
  pub parsed : subcommand_of line words ≡ Some given
  pub complete : IsComplete given
  pub says : P given

-- the fault says why the words are refused: the definition does not take them, and the error is one
-- that it gives for them; it takes them and a number is bad; or memory ran out
abbrev pub Explains : List Text → ArgsFault → Type 0
Explains words (Line error) =
    (takes line words ≡ false) × IsAmong (kind_of error) (fault_of line words)
Explains words BadNumber = Takes words HasBadNumber
Explains words NoMemory = Unit {0}

-- the fault that an error of clap becomes: want of memory, or else the error itself
abbrev pub Becomes : Error → ArgsFault → Type 0
Becomes error (Line same) = (same ≡ error) × (kind_of error ≢ OutOfMemory)
Becomes error BadNumber = ⊥
Becomes error NoMemory = kind_of error ≡ OutOfMemory
