-- The counts of a start: one behind the other, and how many trips they make at the most.
use Rattle.std.proofs.Common.{◌≡◌, ◌≤◌, ℕ, zero, suc, ◌+◌, Result, arith, refl}
use Rattle.ec_master.specs.Ports.{Trips}
use Rattle.ec_run.specs.Counting.{IsCounted}
use Rattle.ec_run.specs.Travels.{IsWithin}
use Rattle.ec_run.proofs.Laws.{within_less, within_none, within_one, within_then}
use Rattle.ec_services.specs.declared.fault.MasterFault.{MasterFault}
use Rattle.ecat_master.specs.Start.{AreCounts, EarlierCounts}

pub no_counts : {P : Type 0} (trips : Trips P) (most : ℕ) (before : P) → EarlierCounts trips most before before
unfolding AreCounts
no_counts trips most before = record { number = 0; bound = omega arith; counts = refl }

pub counts_then : {P : Type 0} (trips : Trips P) (most : ℕ) (before between later : P)
    (told : Result ℕ MasterFault) → EarlierCounts trips most before between
    → IsCounted trips between told later → EarlierCounts trips (most + 1) before later
unfolding AreCounts
counts_then trips most before between later told earlier counted =
    let low : earlier.number ≤ most = earlier.bound in
    record {
      number = suc earlier.number;
      bound = omega (arith, low);
      counts = (between, earlier.counts, told, counted);
    }

-- each is a trip
all_within : {P : Type 0} (trips : Trips P) (n : ℕ) (before later : P) → AreCounts trips n before later
    → IsWithin trips n before later
unfolding AreCounts
all_within trips zero before later same = within_none trips 0 before later same
all_within trips (suc n) before later (between, counts, told, counted) =
    within_less trips (n + 1) (suc n) before later (omega arith)
    (within_then trips n 1 before between later (all_within trips n before between counts)
    (within_one trips between later _ counted.puts.asks.came counted.puts.asks.made))

pub counts_within : {P : Type 0} (trips : Trips P) (most : ℕ) (before later : P)
    → EarlierCounts trips most before later → IsWithin trips most before later
counts_within trips most before later earlier =
    within_less trips earlier.number most before later earlier.bound
    (all_within trips earlier.number before later earlier.counts)
