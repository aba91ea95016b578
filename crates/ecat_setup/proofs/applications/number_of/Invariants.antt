-- The first of the place is none of those so far.
use Rattle.std.proofs.Common.{◌≡◌, drop}
use Rattle.ecat_setup.specs.Applications.{given_at}
use Rattle.ecat_setup.proofs.applications.number_of.Given as goal

abbrev pub invariant-loop-number : goal.invariant-loop-number
invariant-loop-number l =
    given_at l.given l.place ≡ given_at (drop l.number l.given) l.place
