-- The devices so far have their EEPROMs, and all behind have still what is given for them.
use Rattle.std.proofs.Common.{◌≡◌, ◌≤◌, ◌++◌, ℕ, map, drop}
use Rattle.std.specs.List.{All}
use Rattle.ecat_scene.specs.Scene.{slave_record}
use Rattle.ecat_setup.specs.Applications.{IsPlaced, devices_from, given_at}
use Rattle.ecat_setup.proofs.applications.eeproms_of.Given as goal

abbrev pub invariant-loop-place : goal.invariant-loop-place
invariant-loop-place l =
    record {
      devices : map (λ one. one.place) l.all.items
          ++ devices_from l.place (map slave_record (drop l.place l.described))
          ≡ devices_from 0 (map slave_record l.described);
      own : All (IsPlaced l.fn.given.items (map slave_record l.described)) l.all.items;
      left : (other : ℕ) → l.place ≤ other
          → given_at l.given.items other ≡ given_at l.fn.given.items other;
    }
