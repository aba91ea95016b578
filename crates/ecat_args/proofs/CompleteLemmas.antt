-- Where clap's definition of the line finds no fault, the words name one of the eighteen commands and
-- give it what it needs.
use Rattle.std.proofs.Common.{◌≡◌, ◌∙◌, Bool, true, false, cond, List, [], ◌∷◌, Option, Some, None, refl, sym}
use Rattle.std.proofs.Common.{ap, codes, is_some, IfSome, true≢false}
use Rattle.std.specs.Prelude.{find, option_map}
use Rattle.std.specs.List.{list_all}
use Rattle.std.specs.Option.{option_map_or}
use Rattle.std.specs.Str.{bytes_eq}
use Rattle.std.proofs.lemmas.Bool.{and_from}
use Rattle.std.proofs.Math.Bool.{or-false}
use Rattle.std.proofs.lemmas.Slice.Eq.{bytes_eq-Decides}
use Rattle.clap.specs.Walk.{Text, answers_to, nothing_held, rows_after, stop_after}
use Rattle.clap.specs.Simple.{Shape, argument_words, built, entered, label_of, names_of, rows_at}
use Rattle.clap.specs.Simple.{subcommand_of}
use Rattle.clap.specs.Faults.{entered_fault, fault_of, level_fault}
use Rattle.ecat_commands.specs.Commands.{line}
use Rattle.ecat_args.specs.Given.{Given, IsComplete}
use Rattle.ecat_args.proofs.GivenLemmas.{AllGiven, NotHelp, is_usable, level_parts}

-- P of each element
abbrev Each : {X : Type 0} → (X → Type 0) → List X → Type 0
Each P [] = Unit {0}
Each P (x ∷ xs) = P x × Each P xs

-- what is found has what each element that passes has
each_found : {X : Type 0} (q : X → Bool) (P : X → Type 0) (xs : List X) → Each (λ x. q x ≡ true → P x) xs
    → IfSome (find q xs) P
each_found q P [] each = tt
each_found q P (x ∷ xs) each = go (q x) refl (each_found q P xs each.1)
  where
    go : (b : Bool) → q x ≡ b → IfSome (find q xs) P → IfSome (cond b (Some x) (find q xs)) P
    go true e later = each.0 e
    go false e later = later

-- a subcommand that takes the words after its name is complete
abbrev Completes : Text × List Text → Shape → Type 0
Completes p s = level_fault s [] nothing_held p.1 false [] ≡ [] → IsComplete (rows_at s p.1)

-- what is given to a usable subcommand without a fault
leaf_given : (s : Shape) (words : List Text) → list_all is_usable s.rules ≡ true
    → s.subcommand_negates_reqs ≡ false → level_fault s [] nothing_held words false [] ≡ []
    → AllGiven (rows_after s.rules [] words) s.rules
leaf_given s words usable asked e = (level_parts s usable [] words false [] e).3 asked

-- a word that names `help` is the word `help`
no_help : (word : Text) → answers_to word (codes "help", []) ≡ true → bytes_eq word (codes "help") ≡ false → ⊥
no_help word met other =
    let same : codes "help" ≡ word =
    (bytes_eq-Decides (codes "help") word).0 (sym (or-false (bytes_eq (codes "help") word)) ∙ met) in
    true≢false (ap (λ (t : Text). bytes_eq t (codes "help")) same ∙ other)

-- each subcommand of the line
subs_complete : (p : Text × List Text) → bytes_eq p.0 (codes "help") ≡ false
    → Each (λ s. answers_to p.0 (label_of s) ≡ true → Completes p s) (built line).subs
unfolding line
subs_complete p other = (
  λ met e. let all = leaf_given _ p.1 refl refl e in (refl, and_from _ _ (all.0 refl) refl),
  (
    λ met e. let all = leaf_given _ p.1 refl refl e in (refl, and_from _ _ (all.0 refl) refl),
    (
      λ met e. let all = leaf_given _ p.1 refl refl e in (refl, and_from _ _ (all.0 refl) refl),
      (
        λ met e. let all = leaf_given _ p.1 refl refl e in (refl, and_from _ _ (all.0 refl) refl),
        (
          λ met e. let all = leaf_given _ p.1 refl refl e in
              (refl, and_from _ _ (all.0 refl) (and_from _ _ (all.1.0 refl) refl)),
          (
            λ met e. let all = leaf_given _ p.1 refl refl e in (refl, and_from _ _ (all.0 refl) refl),
            (
              λ met e. let all = leaf_given _ p.1 refl refl e in (refl, and_from _ _ (all.0 refl) refl),
              (
                λ met e. let all = leaf_given _ p.1 refl refl e in (refl, and_from _ _ (all.0 refl) refl),
                (
                  λ met e. let all = leaf_given _ p.1 refl refl e in (refl, and_from _ _ (all.0 refl) refl),
                  (
                    λ met e. let all = leaf_given _ p.1 refl refl e in (refl, and_from _ _ (all.0 refl) refl),
                    (
                      λ met e. let all = leaf_given _ p.1 refl refl e in (refl, and_from _ _ (all.0 refl) refl),
                      (
                        λ met e. let all = leaf_given _ p.1 refl refl e in (
                          refl,
                          and_from _ _ (all.0 refl)
                              (and_from _ _ (all.1.0 refl) (and_from _ _ (all.1.1.0 refl) (and_from _ _ (all.1.1.1.0 refl) refl))),
                        ),
                        (λ met e. let all = leaf_given _ p.1 refl refl e in (refl, and_from _ _ (all.0 refl) refl), (λ met e. let all = leaf_given _ p.1 refl refl e in (refl, and_from _ _ (all.0 refl) refl), (λ met e. let all = leaf_given _ p.1 refl refl e in (refl, and_from _ _ (all.0 refl) refl), (λ met e. (refl, refl), (λ met e. let all = leaf_given _ p.1 refl refl e in (refl, and_from _ _ (all.0 refl) refl), (λ met e. (refl, refl), (λ met e. absurd (no_help p.0 met other), tt))))))),
                      ),
                    ),
                  ),
                ),
              ),
            ),
          ),
        ),
      ),
    ),
  ),
)

-- the subcommand that a word names, where there is one
found_complete : (p : Text × List Text) (o : Option Shape) → IfSome o (Completes p)
    → option_map_or (λ s. level_fault s [] nothing_held p.1 false []) o [] ≡ []
    → is_some (option_map (λ s. rows_at s p.1) o) ≡ true
    → (given : Given) × (option_map (λ s. rows_at s p.1) o ≡ Some given) × IsComplete given
found_complete p None complete e some = absurd (true≢false (sym some))
found_complete p (Some s) complete e some = (rows_at s p.1, refl, complete e)

-- the subcommand at which the walk over the words stopped
entered_complete : (stop : Option (Text × List Text)) → NotHelp false stop
    → entered_fault (built line) stop ≡ [] → is_some (entered (built line) stop) ≡ true
    → (given : Given) × (entered (built line) stop ≡ Some given) × IsComplete given
entered_complete None other e some = absurd (true≢false (sym some))
entered_complete (Some p) other e some =
    found_complete p (find (λ s. answers_to p.0 (label_of s)) (built line).subs)
    (each_found _ (Completes p) (built line).subs (subs_complete p (other refl))) e some

-- the words name a command and give it what it needs
pub complete : (words : List Text) → fault_of line words ≡ []
    → (given : Given) × (subcommand_of line words ≡ Some given) × IsComplete given
unfolding line
complete words e =
    let words_after = argument_words line words in
    let stop = stop_after (built line).top.rules (names_of (built line)) words_after in
    let parts = level_parts (built line).top refl (names_of (built line)) words_after
    (is_some (entered (built line) stop)) (entered_fault (built line) stop) e in
    entered_complete stop parts.0 parts.1 (parts.2 refl)
