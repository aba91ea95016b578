-- What adding words or a subcommand makes of a command line.
use Rattle.std.proofs.Common.{◌≡◌, ◌∙◌, ◌||◌, ◌∷◌, List, [], ap, ap₂, subst, sym}
use Rattle.clap.specs.Words.{AddsArg, AddsInTurn, AddsSubcommand, App, Rule, with_rule}
use Rattle.clap.specs.Words.{with_subcommand}
use Rattle.clap.specs.declared.builder.arg.Arg.{Arg}
use Rattle.clap.specs.declared.builder.command.Command.{Command}
use Rattle.ecat_commands.specs.Commands.{AreWords, Builds, IsWord, with_rules}

-- one more word is one more rule of the line
Builds-arg : {old new : Command} {arg : Arg} {line : App} {rule : Rule} → AddsArg old arg new
    → Builds line old → IsWord rule arg → Builds (with_rule line rule) new
Builds-arg added was is =
    (added.shape is.1 ∙ ap₂ with_rule was.0 is.0, added.globals ∙ ap₂ ◌||◌ was.1 is.1)

-- words that are added in turn are so many rules
pub Builds-args : (old new : Command) (args : List Arg) (line : App) (rules : List Rule)
    → AddsInTurn AddsArg old args new → Builds line old → AreWords rules args
    → Builds (with_rules line rules) new
Builds-args old new [] line [] added was are = subst (Builds line) added was
Builds-args old new [] line (rule ∷ rules) added was are = absurd are
Builds-args old new (arg ∷ args) line [] added was are = absurd are
Builds-args old new (arg ∷ args) line (rule ∷ rules) added was are =
    Builds-args added.0 new args (with_rule line rule) rules added.2 (Builds-arg added.1 was are.0) are.1

-- words that are kept in a list stay words
pub AreWords-items : (rules : List Rule) {args items : List Arg} → items ≡ args → AreWords rules args
    → AreWords rules items
AreWords-items rules same are = subst (AreWords rules) (sym same) are
