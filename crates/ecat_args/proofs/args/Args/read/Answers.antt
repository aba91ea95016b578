use Rattle.clap.specs.Walk.{texts}
use Rattle.clap.specs.Words.{app_of, found_of, rows_of}
use Rattle.ecat_args.specs.Answer.{HasBadNumber, Says}
use Rattle.ecat_args.proofs.ReadLemmas.{has_command, is_complete, refused_by, takes_with}
use Rattle.ecat_args.proofs.args.Args.read.Goals as goal

pub returns-in_err-matches-clause-refused : goal.returns-in_err-matches-clause-refused
returns-in_err-matches-clause-refused c =
    refused_by c.from_residual-in_err-matches.result (app_of c.in_ok-line.field-0) (texts c.args.words.now)
    c.in_err-matches.field-0.0 c.in_ok-line.ensures.0
    c.from_residual-in_err-matches.ensures.1 c.in_err-matches.ensures.passes c.in_err-matches.ensures.kinds

pub unreachable-requires : goal.unreachable-requires
unreachable-requires c =
    let parse = c.in_ok-matches in
    has_command (app_of c.in_ok-line.field-0) (texts c.args.words.now) parse.matches c.in_ok-line.ensures.0
    parse.ensures.kinds parse.ensures.matches c.in_default.ensures.variant

pub command-requires : goal.command-requires
command-requires c =
    let parse = c.in_ok-matches in
    let given = c.in-Some in
    is_complete (app_of c.in_ok-line.field-0) (texts c.args.words.now) parse.matches c.in_ok-line.ensures.0
    parse.ensures.kinds parse.ensures.matches
    given.name.now (rows_of (found_of given.given.now)) given.ensures.name given.ensures.rows

pub returns-in-Some-command-clause-taken : goal.returns-in-Some-command-clause-taken
returns-in-Some-command-clause-taken c =
    let parse = c.in_ok-matches in
    let given = c.in-Some in
    takes_with (app_of c.in_ok-line.field-0) (texts c.args.words.now) parse.matches c.in_ok-line.ensures.0
    parse.ensures.kinds parse.ensures.matches
    given.name.now (rows_of (found_of given.given.now)) given.ensures.name given.ensures.rows
    (Says c.in-Some-command.args) c.in-Some-command.ensures

pub returns-clause-refused : goal.returns-clause-refused
returns-clause-refused c =
    let parse = c.in_ok-matches in
    let given = c.in-Some in
    takes_with (app_of c.in_ok-line.field-0) (texts c.args.words.now) parse.matches c.in_ok-line.ensures.0
    parse.ensures.kinds parse.ensures.matches
    given.name.now (rows_of (found_of given.given.now)) given.ensures.name given.ensures.rows HasBadNumber
    c.in-None.ensures
