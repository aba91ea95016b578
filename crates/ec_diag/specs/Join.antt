-- What is known of the links, by one copy more.
use Rattle.std.specs.Prelude.{ℕ, Option, None, Some}
use Rattle.ec_ring.specs.declared.links.Links.{Links}
use Rattle.ec_diag.specs.Heard.{CanBeHeard}
use Rattle.ec_diag.specs.Located.{with_whole, with_first, with_last}
use Rattle.ec_diag.specs.Told.{told_of}
use Rattle.ec_diag.specs.declared.heard.Heard.{Heard}
use Rattle.ec_diag.specs.declared.located.Located.{Located}
use Rattle.ec_diag.specs.declared.located.Located.TheVariants as located
use Rattle.ec_diag.specs.declared.told.Told.{Told}
use Rattle.ec_diag.specs.declared.told.Told.TheVariants.{Whole, First, Last, Never}

-- by what one copy told
abbrev pub with_told : ℕ → Located → Told → Located
with_told n x Whole = with_whole x
with_told n x (First k) = with_first n k x
with_told n x (Last k) = with_last k x
with_told n x Never = located.Changed

-- a copy that is lost tells nothing
abbrev pub with_heard : ℕ → Located → Option Heard → Located
with_heard n x None = x
with_heard n x (Some h) = with_told n x (told_of n h)

-- what came of a copy can be: it is heard so, or lost
abbrev pub CanCome : Links → ℕ → Option Heard → Type 0
CanCome links n None = Unit {0}
CanCome links n (Some h) = CanBeHeard links n h
