-- What a parse by the line's definition says of the answer.
use Rattle.std.proofs.Common.{◌≡◌, ◌∙◌, Bool, true, false, List, [], Option, Some, None, refl, sym, ap, subst}
use Rattle.std.proofs.Common.{inl, inr, option_map, is_some, true≢false, ap₂, Result, Ok, Err, IfErr}
use Rattle.std.proofs.Common.{IsErrAnd}
use Rattle.std.specs.Option.{unwrap_or}
use Rattle.clap.specs.Kinds.{HasKind, IsAmong}
use Rattle.clap.specs.Words.{App, Row, Text, fault_of, HasMatchesOf, is_simple, is_simple_and_free, kind_of}
use Rattle.clap.specs.Words.{subcommand_name_of, subcommand_of, subcommand_rows_of, takes, has_subcommand}
use Rattle.clap.specs.declared.parser.matches.ArgMatches.{ArgMatches}
use Rattle.clap.specs.declared.parser.matches.ArgMatches.TheViews.{out-ArgMatches}
use Rattle.clap.specs.declared.error.Error.{Error}
use Rattle.clap.specs.declared.error.kind.ErrorKind.TheVariants.{OutOfMemory}
use Rattle.ecat_commands.specs.Commands.{line}
use Rattle.ecat_args.specs.Answer.{Becomes, Explains, Takes}
use Rattle.ecat_args.specs.Given.{Given, IsComplete}
use Rattle.ecat_args.specs.declared.args.ArgsFault.{ArgsFault}
use Rattle.ecat_args.specs.declared.args.ArgsFault.TheVariants.{Line, BadNumber, NoMemory}
use Rattle.ecat_args.proofs.CompleteLemmas.{complete}

-- clap's functions give the matches and the errors of the line
line_is_simple : (is_simple line ≡ true) × (is_simple_and_free line ≡ true)
unfolding line
line_is_simple = (refl, refl)

-- an error of clap, as a fault, says why the words are refused
explained : (a : App) (words : List Text) (e : Error) (fault : ArgsFault) → a ≡ line → Becomes e fault
    → (takes a words ≡ true → kind_of e ≡ OutOfMemory)
    → (is_simple_and_free a ≡ true → HasKind (fault_of a words) e) → Explains words fault
explained a words e (Line same) is passed free kinds =
    let refused : takes line words ≡ true
    → ⊥ = λ taken. passed.1 (free (ap (λ (l : App). takes l words) is ∙ taken)) in
    let kind : HasKind (fault_of line words) e =
    subst (λ (l : App). HasKind (fault_of l words) e) is (kinds (ap is_simple_and_free is ∙ line_is_simple.1))
    in (
      not_true (takes line words) refused,
      elim kind [
        | inl memory ↦ absurd (passed.1 memory)
        | inr among ↦ subst (λ (x : Error). IsAmong (kind_of x) (fault_of line words)) (sym passed.0) among
      ],
    )
  where
    not_true : (b : Bool) → (b ≡ true → ⊥) → b ≡ false
    not_true true no_way = absurd (no_way refl)
    not_true false no_way = refl
explained a words e BadNumber is passed free kinds = absurd passed
explained a words e NoMemory is passed free kinds = tt

-- the same of the error that `?` passes up
pub refused_by : {T : Type 0} (r : Result T ArgsFault) (a : App) (words : List Text) (e : Error) → a ≡ line
    → IsErrAnd r (Becomes e)
    → (takes a words ≡ true → kind_of e ≡ OutOfMemory)
    → (is_simple_and_free a ≡ true → HasKind (fault_of a words) e) → IfErr r (Explains words)
refused_by (Ok x) a words e is passed free kinds = tt
refused_by (Err fault) a words e is passed free kinds = explained a words e fault is passed free kinds

-- ---- the command that matches hold

-- the parts of what an option holds are those of the pair that it gives
pair_is : {B : Type 0} (f : B → Given) (o : Option B) (name : Text) (rows : List Row) (given : Given)
    → option_map f o ≡ Some given
    → Some name ≡ option_map (λ b. (f b).0) o → Some rows ≡ option_map (λ p. p.1) (option_map f o)
    → given ≡ (name, rows)
pair_is f None name rows given is named rowed = absurd (true≢false (ap is_some named))
pair_is f (Some b) name rows given is named rowed =
    let whole : f b ≡ given = ap (λ o. unwrap_or o given) is in
    let first : name ≡ (f b).0 = ap (λ o. unwrap_or o name) named in
    let second : rows ≡ (f b).1 = ap (λ o. unwrap_or o rows) rowed in
    let same : (name, rows) ≡ f b = ap₂ (λ (n : Text) (r : List Row). (n, r)) first second in
    sym (same ∙ whole)

-- the name and the rows that the matches have are those of the given command
given_is : (m : ArgMatches) (name : Text) (rows : List Row) (given : Given)
    → subcommand_rows_of m ≡ Some given → Some name ≡ subcommand_name_of m
    → Some rows ≡ option_map (λ p. p.1) (subcommand_rows_of m) → given ≡ (name, rows)
given_is m name rows given is named rowed =
    pair_is _ (out-ArgMatches m).subcommand name rows given is named rowed

-- an option that gives a pair is not empty
none_given : {B : Type 0} (f : B → Given) (o : Option B) (given : Given) → option_map f o ≡ Some given
    → false ≡ is_some o → ⊥
none_given f None given is none = true≢false (sym (ap is_some is))
none_given f (Some b) given is none = true≢false (sym none)

-- ---- a parse by the line that succeeded

module _ (a : App) (words : List Text) (m : ArgMatches) (is : a ≡ line) (kinds : is_simple_and_free a ≡ true
    → fault_of a words ≡ []) (matches : HasMatchesOf a words m) where
  -- the line has no fault at the words
  no_fault : fault_of line words ≡ []
  no_fault = ap (λ (l : App). fault_of l words) (sym is) ∙ kinds (ap is_simple_and_free is ∙ line_is_simple.1)

  -- the command that the words give, which the matches hold
  found : (given : Given) × (subcommand_of line words ≡ Some given) × IsComplete given
  found = complete words no_fault

  -- the matches hold it
  held : subcommand_rows_of m ≡ Some found.0
  held = (matches (ap is_simple is ∙ line_is_simple.0)).1 ∙ ap (λ (l : App). subcommand_of l words) is
      ∙ found.1

  -- the matches have a subcommand
  pub has_command : false ≡ has_subcommand m → ⊥
  has_command none = none_given _ (out-ArgMatches m).subcommand found.0 held none

  module _ (name : Text) (rows : List Row) (named : Some name ≡ subcommand_name_of m)
      (rowed : Some rows ≡ option_map (λ p. p.1) (subcommand_rows_of m)) where
    -- its name and its rows are those that the matches give
    same : found.0 ≡ (name, rows)
    same = given_is m name rows found.0 held named rowed

    -- it has what it needs
    pub is_complete : IsComplete (name, rows)
    is_complete = subst IsComplete same found.2

    -- clap takes the words, with what holds of the command
    pub takes_with : (P : Given → Type 0) → P (name, rows) → Takes words P
    takes_with P says =
        record {
          given = found.0;
          faultless = no_fault;
          parsed = found.1;
          complete = found.2;
          says = subst P (sym same) says;
        }
