-- When the application is shown the same, however often a frame passes: what an item shows anew, no later
-- item of the frame writes, unless one shows it anew again (IEC 61158-4-12, sync manager, buffered mode).
use Rattle.std.specs.Prelude.{◌≡◌, ℕ, Bool, true, false, ◌||◌, List, [], ◌∷◌, slice_index}
use Rattle.std.specs.List.{AllByRecursion}
use Rattle.ec_regs.specs.SyncMan.{is_buffered, master_writes}
use Rattle.ec_areas.specs.Areas.{guards}
use Rattle.ec_areas.specs.Records.{sync_managers_of}
use Rattle.ec_esc.specs.State.{ControllerState}
use Rattle.ec_esc.specs.Writing.{is_shown_anew}
use Rattle.ec_esc.specs.Pass.{touches}
use Rattle.ec_line.specs.After.{Entry}
use Rattle.ec_line.specs.Claims.{taken}
use Rattle.ec_line.specs.Trip.{Trip}

-- does the entry write the byte at an address
abbrev pub writes_byte : ControllerState → ℕ → Entry → Bool
writes_byte x address e = touches (taken e.request x) address

-- does it show that byte anew
abbrev pub shows_byte : ControllerState → ℕ → Entry → Bool
shows_byte x address e =
    is_shown_anew (touches (taken e.request x))
    (sync_managers_of x.memory) (sync_managers_of x.memory) address

-- does some entry
abbrev pub some_shows : ControllerState → ℕ → List Entry → Bool
some_shows x address [] = false
some_shows x address (e ∷ es) = shows_byte x address e || some_shows x address es

-- the last entry of a frame that shows the byte anew is followed by none that writes it
abbrev pub ShowsLast : ControllerState → ℕ → List Entry → Type 0
ShowsLast x address [] = Unit {0}
ShowsLast x address (e ∷ es) =
    (shows_byte x address e ≡ true → some_shows x address es ≡ false
    → AllByRecursion (λ f. writes_byte x address f ≡ false) es)
    × ShowsLast x address es

-- lines whose members have the same shown byte, where a condition holds of the member as it was at first
abbrev pub SameShownWhere : (ControllerState → Type 0) → ℕ → List ControllerState → List ControllerState
    → List ControllerState → Type 0
SameShownWhere C k [] [] [] = Unit {0}
SameShownWhere C k (x ∷ xs) (y ∷ ys) (z ∷ zs) =
    (C x → slice_index y.shown k ≡ slice_index z.shown k) × SameShownWhere C k xs ys zs
SameShownWhere C k _ _ _ = ⊥

-- in each frame of a run what is shown of the byte is shown by the last entry that reaches it
abbrev pub ShowsLastInRun : List Trip → ℕ → ControllerState → Type 0
ShowsLastInRun ts address x = AllByRecursion (λ t. ShowsLast x address t.entries) ts

-- no two entries of a frame write into one area that the master writes
abbrev pub NoAreaTwice : ControllerState → List Entry → Type 0
NoAreaTwice x [] = Unit {0}
NoAreaTwice x (e ∷ es) =
    AllByRecursion (λ f. AllByRecursion (λ s. (a b : ℕ) → guards s a ≡ true → guards s b ≡ true
    → is_buffered s ≡ true → master_writes s ≡ true → writes_byte x a e ≡ true → writes_byte x b f ≡ true → ⊥)
    (sync_managers_of x.memory)) es
    × NoAreaTwice x es
