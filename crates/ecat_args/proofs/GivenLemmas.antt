-- A parse without a fault gives each word that has to be given, and enters no `help`.
use Rattle.std.proofs.Common.{ℕ, ◌≡◌, ◌∙◌, ◌<◌, ◌&&◌, ◌||◌, Bool, true, false, not, cond, List, [], ◌∷◌, ◌++◌}
use Rattle.std.proofs.Common.{length, drop, Option, Some, None, refl, sym, arith, zero, suc, codes, nat_lt}
use Rattle.std.proofs.Common.{is_some, IfSome, true≢false}
use Rattle.std.specs.Prelude.{encode_utf8, find, fold, slice_get, option_and_then}
use Rattle.std.specs.List.{list_all, list_any}
use Rattle.std.specs.Option.{option_map_or}
use Rattle.std.specs.Str.{bytes_eq, chars}
use Rattle.std.proofs.lemmas.Bool.{and_parts, or_parts}
use Rattle.std.proofs.lemmas.List.{length-append}
use Rattle.clap.specs.Values.{is_request}
use Rattle.clap.specs.Facts.{explicit_source, unwrap_or_range}
use Rattle.clap.specs.Kinds.{Kinds, check_kinds, or_else}
use Rattle.clap.specs.Lexer.{long_of, short_of}
use Rattle.clap.specs.Walk.{Held, Names, Outcome, Row, Rule, Step, Text, Waiting, Walk, action_of, after_flag}
use Rattle.clap.specs.Walk.{after_step, arg_by_id, arg_by_index, arg_by_long, arg_by_short, at_row}
use Rattle.clap.specs.Walk.{attached_value, bundle_met, bundle_step, default_rows, done, first_of, flag_met}
use Rattle.clap.specs.Walk.{has_row, is_pending, long_met, long_or_other, more_values, next, nothing_held}
use Rattle.clap.specs.Walk.{option, option_met, option_word, plain, plain_word, positional_held, reacted}
use Rattle.clap.specs.Walk.{rows_after, settled, settled_rows, short_met, short_or_plain, stop_after}
use Rattle.clap.specs.Walk.{subcommand, subcommand_met, subcommand_or_other, takes_several, takes_values}
use Rattle.clap.specs.Walk.{to_positional, trailing, used, used_as, used_by_id, value, values_or_missing}
use Rattle.clap.specs.Walk.{waits, walk, walk_from, walked, walked_from, with_default, with_values, without}
use Rattle.clap.specs.Walk.{word_met}
use Rattle.clap.specs.Simple.{Shape}
use Rattle.clap.specs.Takes.{is_given}
use Rattle.clap.specs.Faults.{bundle_step_fault, defaults_fault, flag_word_fault, flags_fault, level_fault}
use Rattle.clap.specs.Faults.{long_fault, option_fault, other_fault, positional_fault, react_fault}
use Rattle.clap.specs.Faults.{settle_fault, short_fault, step_fault, stray_fault, turn_fault, use_fault}
use Rattle.clap.specs.Faults.{walk_fault, word_fault}
use Rattle.clap.specs.declared.builder.action.ArgAction.{ArgAction}
use Rattle.clap.specs.declared.builder.action.ArgAction.TheVariants as action
use Rattle.clap.specs.declared.builder.value_parser.Reading.{Reading}
use Rattle.clap.specs.declared.error.kind.ErrorKind.{ErrorKind}
use Rattle.clap.specs.declared.error.kind.ErrorKind.TheVariants.{DisplayHelp, InvalidSubcommand, InvalidValue}
use Rattle.clap.specs.declared.error.kind.ErrorKind.TheVariants.{TooManyValues}
use Rattle.clap.specs.declared.parser.matches.ValueSource.{ValueSource}
use Rattle.clap.specs.declared.parser.matches.ValueSource.TheVariants.{CommandLine, DefaultValue}

-- ---- choices

-- a fact of both values is one of the value that a test chooses
by_cases : {X : Type 0} (P : X → Type 0) (b : Bool) (x y : X) → P x → P y → P (cond b x y)
by_cases P true x y p q = p
by_cases P false x y p q = q

-- the same test chooses a fault and a result
by_fault : {X : Type 0} (P : X → Type 0) (b : Bool) (x y : X) (k l : Kinds) → cond b k l ≡ [] → (k ≡ [] → P x)
    → (l ≡ [] → P y) → P (cond b x y)
by_fault P true x y k l e p q = p e
by_fault P false x y k l e p q = q e

-- two steps have no fault where neither has
or_else_parts : (a b : Kinds) → or_else a b ≡ [] → (a ≡ []) × (b ≡ [])
or_else_parts [] b e = (refl, e)
or_else_parts (k ∷ ks) b e = cc

-- one kind is some fault
some_kind : (k : ErrorKind) → k ∷ [] ≡ [] → ⊥
some_kind k e = cc

-- ---- rows with a value each

-- each row has a value
abbrev Full : List Row → Type 0
Full [] = Unit {0}
Full (r ∷ rs) = (0 < length r.values) × Full rs

-- full rows joined
Full-append : (xs ys : List Row) → Full xs → Full ys → Full (xs ++ ys)
Full-append [] ys hx hy = hy
Full-append (x ∷ xs) ys hx hy = (hx.0, Full-append xs ys hx.1 hy)

-- a change that keeps a row full keeps the rows full
Full-at_row : (id : Text) (change : Row → List Row) (missing rows : List Row)
    → ((r : Row) → 0 < length r.values → Full (change r)) → Full missing → Full rows
    → Full (at_row id change missing rows)
Full-at_row id change missing [] changed new h = new
Full-at_row id change missing (r ∷ rs) changed new h =
    by_cases Full (bytes_eq r.id id) (change r ++ rs) (r ∷ at_row id change missing rs)
    (Full-append (change r) rs (changed r h.0) h.1)
    (h.0, Full-at_row id change missing rs changed new h.1)

-- values added to an entry, one at least
Full-with_values : (id : Text) (how : Reading) (s : ValueSource) (v : Text) (vs : List Text) (rows : List Row)
    → Full rows → Full (with_values id how s (v ∷ vs) rows)
Full-with_values id how s v vs rows h =
    Full-at_row id (more_values s (v ∷ vs)) _ rows
    (λ r full. (omega (arith, length-append r.values (v ∷ vs)), tt)) (omega arith, tt) h

-- an entry taken out
Full-without : (id : Text) (rows : List Row) → Full rows → Full (without id rows)
Full-without id rows h = Full-at_row id (λ _. []) [] rows (λ r full. tt) tt h

-- a use with a value
Full-used_as : (x : ArgAction) (id : Text) (how : Reading) (v : Text) (vs : List Text) (rows : List Row)
    → Full rows → Full (used_as x id how (v ∷ vs) rows)
Full-used_as action.Set id how v vs rows h =
    Full-with_values id how CommandLine v vs (without id rows) (Full-without id rows h)
Full-used_as action.SetTrue id how v vs rows h =
    Full-with_values id how CommandLine v vs (without id rows) (Full-without id rows h)
Full-used_as action.SetFalse id how v vs rows h =
    Full-with_values id how CommandLine v vs (without id rows) (Full-without id rows h)
Full-used_as action.Append id how v vs rows h = Full-with_values id how CommandLine v vs rows h
Full-used_as action.Count id how v vs rows h =
    Full-with_values id how CommandLine v vs (without id rows) (Full-without id rows h)
Full-used_as _ id how v vs rows h = h

-- a call for help leaves the rows
Full-request : (x : ArgAction) (id : Text) (how : Reading) (values : List Text) (rows : List Row)
    → is_request x ≡ true → Full rows → Full (used_as x id how values rows)
Full-request action.Set id how values rows e h = absurd (true≢false (sym e))
Full-request action.SetTrue id how values rows e h = absurd (true≢false (sym e))
Full-request action.SetFalse id how values rows e h = absurd (true≢false (sym e))
Full-request action.Append id how values rows e h = absurd (true≢false (sym e))
Full-request action.Count id how values rows e h = absurd (true≢false (sym e))
Full-request _ id how values rows e h = h

-- a use of a flag, for which values stand, one at least, and a call for help
Full-missing : (x : ArgAction) (id : Text) (how : Reading) (missing : List Text) (rows : List Row)
    → (is_request x || nat_lt 0 (length missing)) ≡ true → Full rows → Full (used_as x id how missing rows)
Full-missing x id how (v ∷ vs) rows u h = Full-used_as x id how v vs rows h
Full-missing x id how [] rows u h = go (is_request x) refl u
  where
    go : (b : Bool) → is_request x ≡ b → (b || false) ≡ true → Full (used_as x id how [] rows)
    go true asks u = Full-request x id how [] rows asks h
    go false asks u = absurd (true≢false (sym u))

-- an argument that has a value in each use, asks for help, or is a flag, for which a value stands
abbrev pub is_usable : Rule → Bool
is_usable a = nat_lt 0 (unwrap_or_range a.range).start_inclusive
    || (is_request (action_of a) || nat_lt 0 (length a.missing))

abbrev Usable : Rule → Type 0
Usable a = is_usable a ≡ true

-- a use without a fault leaves each row full
Full-used : (again : Bool) (a : Rule) (values : List Text) (rows : List Row) → Usable a
    → use_fault again a values rows ≡ [] → Full rows → Full (used a values rows)
Full-used again a (v ∷ vs) rows usable e h = Full-used_as (action_of a) a.id _ v vs rows h
Full-used again a [] rows usable e h = go (nat_lt 0 (unwrap_or_range a.range).start_inclusive) refl usable
  where
    go : (b : Bool) → nat_lt 0 (unwrap_or_range a.range).start_inclusive ≡ b
        → (b || (is_request (action_of a) || nat_lt 0 (length a.missing))) ≡ true → Full (used a [] rows)
    go true least u =
        let bad : InvalidValue ∷ [] ≡ [] = rw least at e in
        absurd (some_kind _ bad)
    go false least u = Full-missing (action_of a) a.id _ (values_or_missing a []) rows u h

-- what is found among usable arguments is usable
usable_found : (q : Rule → Bool) (c : List Rule) → list_all is_usable c ≡ true → IfSome (find q c) Usable
usable_found q [] all = tt
usable_found q (a ∷ rest) all =
    let parts = and_parts (is_usable a) _ all in
    by_cases (λ o. IfSome o Usable) (q a) (Some a) (find q rest) parts.0 (usable_found q rest parts.1)

-- what is found among full rows has a value
full_found : (q : Row → Bool) (rows : List Row) → Full rows → IfSome (find q rows) (λ r. 0 < length r.values)
full_found q [] full = tt
full_found q (r ∷ rs) full =
    by_cases (λ o. IfSome o (λ r. 0 < length r.values)) (q r) (Some r) (find q rs) full.0
    (full_found q rs full.1)

-- a list with an element has a first
first_value_given : (values : List Text) → 0 < length values → is_some (slice_get values 0) ≡ true
first_value_given [] lt = absurd (omega arith)
first_value_given (v ∷ vs) lt = refl

-- a row that the words gave has a text
text_given : (id : Text) (rows : List Row) → Full rows → is_given id rows ≡ true
    → is_some (first_of id rows) ≡ true
text_given id rows full given = go (find (λ r. bytes_eq r.id id) rows) (full_found _ rows full) given
  where
    go : (o : Option Row) → IfSome o (λ r. 0 < length r.values)
        → option_map_or (λ r. explicit_source r.source) o false ≡ true
        → is_some (option_and_then (λ r. slice_get r.values 0) o) ≡ true
    go None some e = e
    go (Some r) some e = first_value_given r.values some

-- each argument that has to be given has a text
abbrev pub AllGiven : List Row → List Rule → Type 0
AllGiven rows [] = Unit {0}
AllGiven rows (a ∷ rest) = (a.required ≡ true → is_some (first_of a.id rows) ≡ true) × AllGiven rows rest

-- where no argument that has to be given is missing, each has a text
AllGiven-rows : (rows : List Row) (rules : List Rule) → Full rows
    → list_any (λ a. a.required && not (is_given a.id rows)) rules ≡ false → AllGiven rows rules
AllGiven-rows rows [] full none = tt
AllGiven-rows rows (a ∷ rest) full none =
    let parts = or_parts (a.required && not (is_given a.id rows)) _ none in (
      λ required. text_given a.id rows full (given a.required (is_given a.id rows) required parts.0),
      AllGiven-rows rows rest full parts.1,
    )
  where
    given : (b g : Bool) → b ≡ true → (b && not g) ≡ false → g ≡ true
    given b true required e = refl
    given true false required e = sym e
    given false false required e = absurd (true≢false (sym required))

-- default values of one argument
Full-default_rows : (id : Text) (how : Reading) (values : List Text) (rows : List Row) → Full rows
    → Full (default_rows id how values rows)
Full-default_rows id how [] rows full = full
Full-default_rows id how (v ∷ vs) rows full = Full-with_values id how DefaultValue v vs rows full

-- default values of all
Full-defaults : (rules : List Rule) (rows : List Row) → Full rows → Full (fold with_default rows rules)
Full-defaults [] rows full = full
Full-defaults (a ∷ rest) rows full =
    Full-defaults rest (with_default rows a)
    (by_cases Full (has_row a.id rows) rows _ full (Full-default_rows a.id _ a.defaults rows full))

-- the last checks pass
check_parts : (help sub argument : Bool) → check_kinds help sub argument ≡ []
    → (sub ≡ false) × (argument ≡ false)
check_parts true sub argument e = cc
check_parts false true argument e = cc
check_parts false false true e = cc
check_parts false false false e = (refl, refl)

-- ---- one level of a command, whose arguments are usable

-- the rows after a flag are full
abbrev FullFirst : Held × Outcome → Type 0
FullFirst met = Full met.0.rows

-- a step that enters no `help`, where the command has it
abbrev IsFine : Bool → Step → Type 0
IsFine without_help (subcommand name) = without_help ≡ false → bytes_eq name (codes "help") ≡ false
IsFine without_help _ = Unit {0}

-- the subcommand at which a walk stopped is no `help`, where the command has it
abbrev pub NotHelp : Bool → Option (Text × List Text) → Type 0
NotHelp without_help None = Unit {0}
NotHelp without_help (Some p) = without_help ≡ false → bytes_eq p.0 (codes "help") ≡ false

-- where meeting a name is no fault, it is no `help`
not_help : (b d : Bool) (k : Kinds) → cond (b && not d) (DisplayHelp ∷ k) [] ≡ [] → d ≡ false → b ≡ false
not_help true true k e enabled = absurd (true≢false enabled)
not_help true false k e enabled = cc
not_help false d k e enabled = refl

module _ (s : Shape) (usable : list_all is_usable s.rules ≡ true) where
  abbrev c : List Rule
  c = s.rules

  abbrev again : Bool
  again = s.args_override_self

  -- the use of an argument that may be there
  Full-used_by_id : (o : Option Rule) (values : List Text) (rows : List Row) → IfSome o Usable
      → option_map_or (λ a. use_fault again a values rows) o [] ≡ [] → Full rows
      → Full (used_by_id o values rows)
  Full-used_by_id None values rows u e h = h
  Full-used_by_id (Some a) values rows u e h = Full-used again a values rows u e h

  -- the use of what is pending
  Full-settled_rows : (p : Option (Text × List Text)) (rows : List Row)
      → option_map_or (λ p. option_map_or (λ a. use_fault again a p.1 rows) (arg_by_id c p.0) []) p [] ≡ []
      → Full rows → Full (settled_rows c p rows)
  Full-settled_rows None rows e h = h
  Full-settled_rows (Some p) rows e h =
      Full-used_by_id (arg_by_id c p.0) p.1 rows (usable_found _ c usable) e h

  -- the same, of what is held
  Full-settled : (h : Held) → settle_fault c again h ≡ [] → Full h.rows → Full (settled c h).rows
  Full-settled h e full = Full-settled_rows h.pending h.rows e full

  -- the use of what is pending, and then of this argument
  Full-reacted : (a : Rule) (values : List Text) (h : Held) → Usable a → react_fault c again a values h ≡ []
      → Full h.rows → Full (reacted c a values h).rows
  Full-reacted a values h u e full =
      let parts = or_else_parts (settle_fault c again h) _ e in
      Full-used again a values (settled c h).rows u parts.1 (Full-settled h parts.0 full)

  -- an option, with or without an attached value
  Full-option_met : (a : Rule) (v : Option Text) (h : Held) → Usable a → option_fault c again a v h ≡ []
      → Full h.rows → FullFirst (option_met c a v h)
  Full-option_met a (Some v) h u e full = Full-reacted a (v ∷ []) h u e full
  Full-option_met a None h u e full = Full-settled h e full

  -- a flag
  Full-flag_met : (a : Rule) (v : Option Text) (h : Held) → Usable a
      → cond (is_some v) (TooManyValues ∷ []) (react_fault c again a [] h) ≡ [] → Full h.rows
      → FullFirst (flag_met c a v h)
  Full-flag_met a (Some v) h u e full = full
  Full-flag_met a None h u e full = Full-reacted a [] h u e full

  -- a long name
  Full-long_met : (o : Option Rule) (v : Option Text) (h : Held) → IfSome o Usable
      → long_fault c again o v h ≡ [] → Full h.rows → FullFirst (long_met c o v h)
  Full-long_met None v h u e full = full
  Full-long_met (Some a) v h u e full =
      by_fault FullFirst (takes_values a) (option_met c a v h) (flag_met c a v h) _ _ e
      (λ e. Full-option_met a v h u e full) (λ e. Full-flag_met a v h u e full)

  -- a short name, and what follows it in its word
  Full-short_met : (o : Option Rule) (rest : Text) (h : Held) (go_on : Held → Held × Outcome) (fault : Held
      → Kinds) → IfSome o Usable
      → ((g : Held) → fault g ≡ [] → Full g.rows → FullFirst (go_on g))
      → short_fault c again o rest h fault ≡ [] → Full h.rows → FullFirst (short_met c o rest h go_on)
  Full-short_met None rest h go_on fault u on e full = full
  Full-short_met (Some a) rest h go_on fault u on e full =
      by_fault FullFirst (takes_values a) (option_met c a (attached_value rest) h) (go_on (reacted c a [] h))
      _ _ e
      (λ e. Full-option_met a (attached_value rest) h u e full)
      (λ e. let parts = or_else_parts (react_fault c again a [] h) _ e in
      on (reacted c a [] h) parts.1 (Full-reacted a [] h u parts.0 full))

  -- one character of a bundle
  Full-bundle_step : (o : Option ℕ) (flags : Text) (skip : ℕ) (so_far : Outcome) (h : Held) (go_on : Text → ℕ
      → Outcome → Held → Held × Outcome) (fault : Text → ℕ → Held → Kinds)
      → ((t : Text) (n : ℕ) (so_far : Outcome) (g : Held) → fault t n g ≡ [] → Full g.rows
      → FullFirst (go_on t n so_far g))
      → bundle_step_fault c again o flags skip h fault ≡ [] → Full h.rows
      → FullFirst (bundle_step c o flags skip so_far h go_on)
  Full-bundle_step None flags skip so_far h go_on fault on e full = full
  Full-bundle_step (Some x) flags zero so_far h go_on fault on e full =
      let rest = drop (length (encode_utf8 x)) flags in
      Full-short_met (arg_by_short c x) rest h (go_on rest 0 done) (fault rest 0) (usable_found _ c usable)
      (on rest 0 done) e full
  Full-bundle_step (Some x) flags (suc skip) so_far h go_on fault on e full =
      on (drop (length (encode_utf8 x)) flags) skip so_far h e full

  -- a bundle
  Full-bundle_met : (k : ℕ) (flags : Text) (skip : ℕ) (so_far : Outcome) (h : Held)
      → flags_fault c again k flags skip h ≡ [] → Full h.rows
      → FullFirst (bundle_met c k flags skip so_far h)
  unfolding bundle_met flags_fault
  Full-bundle_met zero flags skip so_far h e full = full
  Full-bundle_met (suc k) flags skip so_far h e full =
      Full-bundle_step (slice_get (chars flags) 0) flags skip so_far h (bundle_met c k)
      (flags_fault c again k) (Full-bundle_met k) e full

  -- what a word has to leave: full rows, and no `help` entered
  abbrev IsGood : Held × Step → Type 0
  IsGood met = Full met.0.rows × IsFine s.disable_help_subcommand met.1

  -- a value of an option
  Full-option_word : (o : Option Rule) (id word : Text) (h : Held) → Full h.rows
      → Full (option_word o id word h).0.rows
  Full-option_word None id word h full = full
  Full-option_word (Some a) id word h full = full

  -- a word that is no flag
  fine_plain : (waiting : Waiting) (word : Text) (h : Held) → Full h.rows
      → IsGood (plain_word c waiting word h)
  fine_plain (option id) word h full = (Full-option_word (arg_by_id c id) id word h full, tt)
  fine_plain _ word h full = (full, tt)

  -- a word that may be a flag, after its flags
  fine_flag : (waiting : Waiting) (word : Text) (h : Held) (outcome : Outcome) → Full h.rows
      → IsGood (after_flag c waiting word h outcome)
  fine_flag waiting word h done full = (full, tt)
  fine_flag waiting word h (waits id) full = (full, tt)
  fine_flag waiting word h _ full = fine_plain waiting word h full

  -- a word with one hyphen or none
  fine_short : (flags : Option Text) (waiting : Waiting) (word : Text) (h : Held)
      → option_map_or (λ flags. flags_fault c again (length flags) flags h.skip (record h { skip = 0 })) flags
      [] ≡ [] → Full h.rows → IsGood (short_or_plain c waiting word flags h)
  fine_short None waiting word h e full = fine_plain waiting word h full
  fine_short (Some flags) waiting word h e full =
      fine_flag waiting word _ _
      (Full-bundle_met (length flags) flags h.skip plain (record h { skip = 0 }) e full)

  -- a word that may begin with two hyphens
  fine_other : (p : Option (Text × Option Text)) (waiting : Waiting) (word : Text) (h : Held)
      → flag_word_fault c again p word h ≡ [] → Full h.rows
      → IsGood (long_or_other c waiting word p h)
  fine_other (Some p) waiting word h e full =
      fine_flag waiting word _ _ (Full-long_met (arg_by_long c p.0) p.1 h (usable_found _ c usable) e full)
  fine_other None waiting word h e full = fine_short (short_of word) waiting word h e full

  -- a word that may name a subcommand
  fine_word : (name : Option Text) (waiting : Waiting) (position : ℕ) (word : Text) (h : Held)
      → other_fault s name word h ≡ [] → Full h.rows
      → IsGood (subcommand_or_other c name waiting position word h)
  fine_word (Some name) waiting position word h e full =
      (full, not_help (bytes_eq name (codes "help")) s.disable_help_subcommand (InvalidSubcommand ∷ []) e)
  fine_word None waiting position word h e full =
      by_fault IsGood (bytes_eq word (45 ∷ 45 ∷ [])) (h, trailing position)
      (long_or_other c waiting word (long_of word) h) _ _ e (λ _. (full, tt))
      (λ e. fine_other (long_of word) waiting word h e full)

  -- any word
  fine_met : (names : Names) (is_trailing : Bool) (waiting : Waiting) (position : ℕ) (word : Text) (h : Held)
      → word_fault s names is_trailing waiting word h ≡ [] → Full h.rows
      → IsGood (word_met c names is_trailing waiting position word h)
  fine_met names is_trailing waiting position word h e full =
      by_fault IsGood is_trailing (h, value)
      (subcommand_or_other c (subcommand_met names waiting word) waiting position word h) _ _ e
      (λ _. (full, tt))
      (λ e. fine_word (subcommand_met names waiting word) waiting position word h e full)

  -- where the walk stands
  abbrev Stands : Walk → Type 0
  Stands w = Full w.held.rows × NotHelp s.disable_help_subcommand w.stopped

  -- a word that goes to a positional
  Full-positional_held : (a : Rule) (word : Text) (h : Held) → positional_fault c again a h ≡ [] → Full h.rows
      → Full (positional_held c a word h).rows
  Full-positional_held a word h e full =
      by_fault (λ (g : Held). Full g.rows) (is_pending a h.pending && takes_several a) h (settled c h) _ _ e
      (λ _. full) (λ e. Full-settled h e full)

  -- the walk after that, where there is such a positional
  stands_positional : (o : Option Rule) (word : Text) (w : Walk) (h : Held)
      → option_map_or (λ a. positional_fault c again a h) o (stray_fault s) ≡ [] → Full h.rows
      → NotHelp s.disable_help_subcommand w.stopped → Stands (to_positional c o word w h)
  stands_positional None word w h e full stopped = (full, stopped)
  stands_positional (Some a) word w h e full stopped = (Full-positional_held a word h e full, tt)

  -- the walk after what a word was
  stands_after : (word : Text) (w : Walk) (h : Held) (step : Step) → step_fault s w.position h step ≡ []
      → Full h.rows → IsFine s.disable_help_subcommand step
      → NotHelp s.disable_help_subcommand w.stopped → Stands (after_step c word w h step)
  stands_after word w h (next waiting) e full fine stopped = (full, stopped)
  stands_after word w h (trailing position) e full fine stopped = (full, stopped)
  stands_after word w h (subcommand name) e full fine stopped = (full, fine)
  stands_after word w h value e full fine stopped =
      stands_positional (arg_by_index c w.position) word w h e full stopped

  -- the walk after one more word
  stands_walked : (names : Names) (o : Option (Text × List Text)) (w : Walk) (word : Text)
      → cond (is_some o) [] (or_else (word_fault s names w.is_trailing w.waiting word w.held)
      (step_fault s w.position (word_met c names w.is_trailing w.waiting w.position word w.held).0
      (word_met c names w.is_trailing w.waiting w.position word w.held).1)) ≡ []
      → Stands w → NotHelp s.disable_help_subcommand o → Stands (walked_from c names o w word)
  stands_walked names (Some p) w word e stands stopped = (stands.0, stopped)
  stands_walked names None w word e stands stopped =
      let parts = or_else_parts (word_fault s names w.is_trailing w.waiting word w.held) _ e in
      let met = fine_met names w.is_trailing w.waiting w.position word w.held parts.0 stands.0 in
      stands_after word w _ _ parts.1 met.0 met.1 stands.1

  -- the walk after all words
  stands_walk : (names : Names) (words : List Text) (w : Walk) → walk_fault s names w words ≡ [] → Stands w
      → Stands (fold (walked c names) w words)
  unfolding walk_fault walked
  stands_walk names [] w e stands = stands
  stands_walk names (word ∷ rest) w e stands =
      let parts = or_else_parts (turn_fault s names w word) _ e in
      stands_walk names rest (walked c names w word) parts.1
      (stands_walked names w.stopped w word parts.0 stands stands.1)

  -- what a level without a fault gives: no `help` was entered, what is below has no fault, a subcommand
  -- that has to be there is, and each argument that has to be given has a text
  pub level_parts : (names : Names) (words : List Text) (has_subcommand : Bool) (below : Kinds)
      → level_fault s names nothing_held words has_subcommand below ≡ []
      → NotHelp s.disable_help_subcommand (stop_after c names words) × (below ≡ [])
      × (s.subcommand_required ≡ true → has_subcommand ≡ true)
      × (s.subcommand_negates_reqs ≡ false → AllGiven (rows_after c names words) c)
  level_parts names words has_subcommand below e =
      let end = walk c names nothing_held words in
      let walked_past = or_else_parts (walk_fault s names (walk_from nothing_held) words) _ e in
      let below_past = or_else_parts below _ walked_past.1 in
      let settled_past = or_else_parts (settle_fault c again end.held) _ below_past.1 in
      let defaults_past = or_else_parts (defaults_fault (settled c end.held).rows c) _ settled_past.1 in
      let stands = stands_walk names words (walk_from nothing_held) walked_past.0 (tt, tt) in
      let full = Full-defaults c (settled c end.held).rows (Full-settled end.held settled_past.0 stands.0) in
      let checks = check_parts _ _ _ defaults_past.1 in (
        stands.1,
        below_past.0,
        λ required. wanted has_subcommand s.subcommand_required required checks.0,
        λ asked. AllGiven-rows (rows_after c names words) c full
            (unless s.subcommand_negates_reqs has_subcommand _ asked checks.1),
      )
    where
      wanted : (has wants : Bool) → wants ≡ true → (not has && wants) ≡ false → has ≡ true
      wanted true wants w e = refl
      wanted false wants w e = absurd (true≢false (sym w ∙ e))

      unless : (negates has missing : Bool) → negates ≡ false → (not (negates && has) && missing) ≡ false
          → missing ≡ false
      unless true has missing n e = absurd (true≢false n)
      unless false has missing n e = e
