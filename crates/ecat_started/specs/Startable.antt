-- A ring of slaves of which a line can be started (IEC 61158-6-12, AL management, identity object; IEC
-- 61158-4-12, auto increment addressing).
use Rattle.std.specs.Prelude.{◌≡◌, ◌⊎◌, ◌<◌, ◌^◌, ◌+◌, ℕ, List, [], ◌∷◌, length, map, Option, None, Some}
use Rattle.std.specs.Prelude.{Result, Ok, slice_get}
use Rattle.std.specs.List.{AllByRecursion}
use Rattle.ec_app.specs.Objects.{object_at}
use Rattle.ec_app.specs.State.{SlaveState}
use Rattle.ec_app.specs.declared.objects.Entry.{Entry}
use Rattle.ec_app.specs.declared.roles.TheConstants.{ANSWER_MAILBOX, REQUEST_MAILBOX}
use Rattle.ec_app.specs.declared.value.Rights.TheVariants.{ReadOnly}
use Rattle.ec_app.specs.declared.value.Value.{Value}
use Rattle.ec_diag.specs.Located.{Tells}
use Rattle.ec_diag.specs.declared.located.Located.{Located}
use Rattle.ec_ring.specs.Ring.{RingState}
use Rattle.ec_ring.specs.declared.links.Links.{Links}
use Rattle.ec_run.specs.StartupObjects.{peer_by}
use Rattle.ec_run.specs.declared.phase.StepFault.{StepFault}
use Rattle.ec_run.specs.declared.wanted.Wanted.{Wanted}
use Rattle.ec_over_ring.specs.Brought.{ReachesAll}
use Rattle.ec_over_ring.specs.Fit.{AreNone, ArePaired, IsFitFor, IsFree, TakesAll}
use Rattle.ec_over_ring.specs.Started.{AreWanted}
use Rattle.ec_over_ring.specs.Stations.{station_of}
use Rattle.ecat_master.specs.Identities.{WantedIdentity}
use Rattle.ecat_master.specs.Start.{IsCable}
use Rattle.ecat_master.specs.declared.identity.TheConstants.{IDENTITY}

-- as many slaves as a line has, and what is wanted of each of the line fits the one at its place
abbrev pub AreFit : List Wanted → List SlaveState → Type 0
AreFit [] [] = Unit {0}
AreFit (wanted ∷ line) (s ∷ slaves) = IsFitFor wanted s × AreFit line slaves
AreFit _ _ = ⊥

-- so each takes the startup objects that are wanted of it, or none is
abbrev pub AreTaking : List Wanted → List SlaveState → Type 0
AreTaking [] [] = Unit {0}
AreTaking (wanted ∷ line) (s ∷ slaves) = (AreNone wanted.startup ⊎ TakesAll wanted s) × AreTaking line slaves
AreTaking _ _ = ⊥

-- ---- slaves that are those that are wanted

-- the entries of an identity from this one on may only be read, and hold what is wanted; where nothing is,
-- any value will do
abbrev pub HoldsEntries : List Entry → ℕ → WantedIdentity → Type 0
HoldsEntries objects number [] = Unit {0}
HoldsEntries objects number (None ∷ rest) = HoldsEntries objects (number + 1) rest
HoldsEntries objects number (Some value ∷ rest) =
    (number < 2 ^ 8) × (object_at IDENTITY number objects ≡ Some (ReadOnly, value))
    × HoldsEntries objects (number + 1) rest

-- a slave tells the identity that is wanted: it has that, and gets two mailboxes that share no byte, of which
-- no sync manager for process data has one, as it is found
pub record TellsIdentity (wanted : Wanted) (identity : WantedIdentity) (s : SlaveState) : Type 0 where
  pub entries : HoldsEntries s.application.objects 1 identity
  pub paired : ArePaired (slice_get wanted.managers REQUEST_MAILBOX)
      (slice_get wanted.managers ANSWER_MAILBOX)
  pub requests : IsFree s.controller.memory (slice_get wanted.managers REQUEST_MAILBOX)
  pub answers : IsFree s.controller.memory (slice_get wanted.managers ANSWER_MAILBOX)

-- nobody asks a slave who it is: any will do, or it gets no mailboxes
abbrev pub IsUnasked : Wanted → WantedIdentity → Type 0
IsUnasked wanted identity =
    AllByRecursion (λ (value : Option Value). value ≡ None) identity
    ⊎ (peer_by wanted.station (slice_get wanted.managers REQUEST_MAILBOX)
    (slice_get wanted.managers ANSWER_MAILBOX) 1 ≡ None)

abbrev pub HasIdentity : Wanted → WantedIdentity → SlaveState → Type 0
HasIdentity wanted identity s = IsUnasked wanted identity ⊎ TellsIdentity wanted identity s

-- each slave has the identity that is wanted at its place, as far as identities are wanted
abbrev pub HaveIdentities : List WantedIdentity → List Wanted → List SlaveState → Type 0
HaveIdentities [] line slaves = Unit {0}
HaveIdentities (identity ∷ identities) (wanted ∷ line) (s ∷ slaves) =
    HasIdentity wanted identity s × HaveIdentities identities line slaves
HaveIdentities (identity ∷ identities) _ _ = Unit {0}

-- ---- a ring

-- a ring with at most one link down has the slaves of a line in their order, whoever has which station
-- address and in whatever state; each of the line, at least one, is wanted with a station address of its own
pub record CanBeStarted (r : RingState) (line : List Wanted) : Type 0 where
  pub ring : ReachesAll r
  pub some : 0 < length line
  pub wanted : AreWanted line
  pub fit : AreFit line r.slaves

-- ---- what is told

-- looks found that the cable is whole or broken at one link, and so it is
pub record IsToldRight (links : Links) (slaves : ℕ) (found : Option Located) : Type 0 where
  pub cable : Located
  pub finds : found ≡ Some cable
  pub known : IsCable cable
  pub so : Tells cable links slaves

-- the step that gives station addresses failed nowhere, and each slave has the one of its place
pub record AreGiven (line : List Wanted) (result : Result (Unit {0}) StepFault) (r : RingState) : Type 0 where
  pub came : result ≡ Ok tt
  pub stations : map station_of r.slaves ≡ map (λ (wanted : Wanted). wanted.station) line
