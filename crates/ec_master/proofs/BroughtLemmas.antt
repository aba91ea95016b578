-- Frames that go out over ports come to what they come to by what came back alone, so the end of a cycle says
-- all that this says.
use Rattle.std.proofs.Common.{◌≡◌, ℕ, refl, subst, List, [], ◌∷◌, length, map, Ok, Err}
use Rattle.std.specs.Prelude.{Result}
use Rattle.std.specs.List.{AllByRecursion}
use Rattle.ec_wire.specs.Datagram.{DatagramRecord}
use Rattle.ec_line.specs.Answered.{sent_of}
use Rattle.ec_map.specs.Item.{ItemRecord, IsItem}
use Rattle.ec_master.specs.Cut.{frames_of}
use Rattle.ec_master.specs.Given.{AllThatCame, in_turn}
use Rattle.ec_master.specs.Ports.{Trips, PortTrip, Outcome, with_first, Sends, IsPortCycle}
use Rattle.ec_master.specs.Suffice.{Brings, FramesSuffice}
use Rattle.ec_master.specs.declared.cycle.CycleFault.{CycleFault}
use Rattle.ec_master.specs.declared.verdict.Verdict.{Verdict}
use Rattle.ec_master.proofs.MomentCycleLemmas.{moving_suffices}
use Rattle.ec_master.proofs.RoundLemmas as rounds
use Rattle.ec_master.proofs.SufficeLemmas.{frames-suffice}

-- frames that go out over ports come to what they come to by what came back alone
pub record ByWhatCame {P : Type 0} (trips : Trips P) (before : P) (frames : List (List DatagramRecord))
    (outcome : Outcome) (later : P)
    : Type 0 where
  pub came : AllThatCame
  pub brought : Brings trips before frames came later
  pub sends : Sends in_turn came frames outcome []

-- what one frame comes to over ports, and the others behind it
abbrev Continues : {P : Type 0} → Trips P → P → List (List DatagramRecord) → Outcome → P
    → Result (List DatagramRecord) CycleFault → Type 0
Continues trips between rest outcome later (Err fault) = (outcome ≡ Err fault) × (later ≡ between)
Continues trips between rest outcome later (Ok joined) =
    (others : Outcome) × Sends trips between rest others later × (outcome ≡ with_first joined others)

by-first : {P : Type 0} (trips : Trips P) (before between later : P) (sent : List DatagramRecord)
    (rest : List (List DatagramRecord))
    (outcome : Outcome) (answer : Result (List DatagramRecord) CycleFault)
    → PortTrip trips before sent answer between
    → ((others : Outcome) → Sends trips between rest others later
    → ByWhatCame trips between rest others later)
    → Continues trips between rest outcome later answer → ByWhatCame trips before (sent ∷ rest) outcome later
unfolding Sends Brings
by-first trips before between later sent rest outcome (Err fault) trip more ends = record {
  came = trip.came ∷ [];
  brought = (between, trip.made, ends.1);
  sends = (Err fault, [], record { came = trip.came; made = refl; comes = trip.comes }, (ends.0, refl));
}
by-first trips before between later sent rest outcome (Ok joined) trip more goes_on =
    let others = more goes_on.0 goes_on.1 in
    record {
      came = trip.came ∷ others.came;
      brought = (between, trip.made, others.brought);
      sends = (
        Ok joined,
        others.came,
        record { came = trip.came; made = refl; comes = trip.comes },
        (goes_on.0, others.sends, goes_on.2),
      );
    }

by_what_came : {P : Type 0} (trips : Trips P) (before later : P) (frames : List (List DatagramRecord))
    (outcome : Outcome)
    → Sends trips before frames outcome later → ByWhatCame trips before frames outcome later
unfolding Sends Brings
by_what_came trips before later [] outcome sends =
    record { came = []; brought = sends.1; sends = (sends.0, refl) }
by_what_came trips before later (sent ∷ rest) outcome sends =
    by-first trips before sends.1 later sent rest outcome sends.0 sends.2
    (λ others more. by_what_came trips sends.1 later rest others more) sends.3

pub cycle-suffices : {P : Type 0} (trips : Trips P) (before later : P) (items : List ItemRecord)
    (expected : List ℕ)
    (result : Result Verdict CycleFault) (items_later : List ItemRecord) → AllByRecursion IsItem items
    → length expected ≡ length items → IsPortCycle trips before items expected result items_later later
    → FramesSuffice trips before items expected result items_later later
cycle-suffices trips before later items expected result items_later are counts cycle =
    let by = by_what_came trips before later (map sent_of (frames_of items)) cycle.outcome cycle.sends in
    let alone : IsPortCycle in_turn by.came items expected result items_later [] =
    record { outcome = cycle.outcome; sends = by.sends; ends = cycle.ends } in
    record {
      came = by.came;
      brought = by.brought;
      cycle = alone;
      says = frames-suffice items expected by.came result items_later are alone;
      says_moving = moving_suffices items expected by.came result items_later are alone;
      this_round = λ k good begun few recent.
          rounds.this_round k items expected by.came items_later begun counts few recent
          (subst (λ (x : Result Verdict CycleFault).
          IsPortCycle in_turn by.came items expected x items_later []) good alone);
    }
