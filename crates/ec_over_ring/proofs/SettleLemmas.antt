-- Where both mailboxes are empty, the first look at them over a ring sees it.
use Rattle.std.proofs.Common.{◌≡◌, ℕ, zero, suc, ◌≤◌, Bool, false, List, ◌∷◌, ◌++◌, Option, None, Some}
use Rattle.std.proofs.Common.{Result, Ok, Err, refl, sym, ap, ◌∙◌, arith, subst, replicate}
use Rattle.ec_wire.specs.Datagram.{DatagramRecord, address_of}
use Rattle.ec_wire.specs.declared.command.Command.TheVariants.{Fprd}
use Rattle.ec_esc.specs.Pass.{pass, Passed}
use Rattle.ec_esc.specs.State.{ControllerState}
use Rattle.ec_app.specs.Lending.{with_controller}
use Rattle.ec_app.specs.State.{SlaveState}
use Rattle.ec_ring.specs.Ring.{RingState, stepped}
use Rattle.ec_master.specs.RingTrips.{RingTrips}
use Rattle.ec_services.specs.Ask.{Answer, Asks}
use Rattle.ec_services.specs.Course.{Runs}
use Rattle.ec_services.specs.Progress.{Boxes, both_empty, unknown}
use Rattle.ec_services.specs.Settling.{IsSettled, mailboxes_by, records_read, settled, settled_by}
use Rattle.ec_services.specs.Settling.{settling}
use Rattle.ec_services.specs.declared.fault.MasterFault.{MasterFault}
use Rattle.ec_services.specs.declared.mailbox.Peer.{Peer}
use Rattle.ec_over_ring.specs.Question.{Tells, ReachesOne}
use Rattle.ec_over_ring.specs.Recovery.{request_stands}
use Rattle.ec_over_ring.specs.States.{HasStation}
use Rattle.ec_over_ring.specs.Transfers.{HasPeer}
use Rattle.ec_over_ring.proofs.AskedLemmas.{records_told}
use Rattle.ec_over_ring.proofs.QuestionLemmas.{asked_alone}
use Rattle.ec_over_ring.proofs.RegisterLemmas.{registers_read}
use Rattle.ec_over_ring.proofs.StateLemmas.{zeros}
use Rattle.ec_over_ring.proofs.StationLemmas.{ado_is, meant, parts_of, reaches}
use Rattle.ec_over_ring.proofs.TenTripsLemmas.{boxes_told, seen}

-- a read of both records tells that both mailboxes are empty, and each slave takes its step
record IsLooked (r : RingState) (answer : Answer) (later : RingState) : Type 0 where
  ring : later ≡ stepped r
  decides : settled_by answer ≡ Ok (Some tt)

decided : (told : DatagramRecord) (answer : Answer) → Tells told answer → mailboxes_by answer ≡ both_empty
    → settled_by answer ≡ Ok (Some tt)
decided told (Err fault) tells empty = absurd tells
decided told (Ok back) tells empty =
    ap {B = Result (Option (Unit {0})) MasterFault} (λ (known : Boxes). Ok (settled known)) empty

looked : (peer : Peer) (r : RingState) (before : List SlaveState) (s : SlaveState) (behind : List SlaveState)
    (answer : Answer) (later : RingState) → HasPeer peer r before s behind
    → Asks RingTrips r (records_read peer) answer later → IsLooked r answer later
looked peer r before s behind answer later has asks =
    let d : DatagramRecord = records_read peer in
    let there : HasStation peer.station r before s behind = has.station in
    let one : ReachesOne d r before s behind =
    reaches peer.station 2048 Fprd (replicate 16 0) r before s behind there refl (zeros 16) in
    let comes = asked_alone d r before behind s answer later one.asked one.alone one.down asks in
    let passed : pass s.controller d ≡ record { datagram = records_told peer s; state = s.controller } =
    registers_read s.controller (address_of peer.station 2048) 2048 16
    (parts_of peer.station r before s behind there).own (meant peer.station 2048 r before s behind there)
    (ado_is peer.station 2048 there.address) (omega arith) (omega arith) in
    let tells : Tells (records_told peer s) answer =
    subst (λ (p : Passed). Tells p.datagram answer) passed comes.0 in
    record {
      ring = comes.1
          ∙ ap (λ (c : ControllerState).
          stepped (record r { slaves = before ++ with_controller s c ∷ behind }))
          (ap (λ (p : Passed). p.state) passed)
          ∙ ap (λ (ss : List SlaveState). stepped (record r { slaves = ss })) (sym there.slaves);
      decides = decided (records_told peer s) answer tells
          (boxes_told peer s answer tells
          ∙ ap (λ (answers : Bool). seen answers (request_stands s)) has.ready.from.empty
          ∙ ap (λ (requests : Bool). seen false requests) has.ready.to.empty);
    }

-- so the first trip decides
runs_settle : (peer : Peer) (n : ℕ) (r : RingState) (before : List SlaveState) (s : SlaveState)
    (behind : List SlaveState) (result : Result (Unit {0}) MasterFault) (known : Boxes) (later : RingState)
    → HasPeer peer r before s behind
    → Runs RingTrips r (settling peer) unknown (suc n) result known later
    → (result ≡ Ok tt) × (later ≡ stepped r)
unfolding Runs
runs_settle peer n r before s behind result known later has (Err fault, learned, between, step, left) =
    let look : IsLooked r step.answer between =
    looked peer r before s behind step.answer between has step.asks in
    let so : Err fault ≡ Ok (Some tt) = step.decides ∙ look.decides in
    absurd (cc (so))
runs_settle peer n r before s behind result known later has (Ok None, learned, between, step, left) =
    let look : IsLooked r step.answer between =
    looked peer r before s behind step.answer between has step.asks in
    let so : Ok None ≡ Ok (Some tt) = step.decides ∙ look.decides in
    absurd (cc (so))
runs_settle peer n r before s behind result known later has (Ok (Some value), learned, between, step, left) =
    let look : IsLooked r step.answer between =
    looked peer r before s behind step.answer between has step.asks in
    (left.0, left.2 ∙ look.ring)

pub settles : (peer : Peer) (limit : ℕ) (r : RingState) (before : List SlaveState) (s : SlaveState)
    (behind : List SlaveState) (result : Result (Unit {0}) MasterFault) (later : RingState)
    → HasPeer peer r before s behind → 1 ≤ limit → IsSettled RingTrips r peer limit result later
    → (result ≡ Ok tt) × (later ≡ stepped r)
settles peer zero r before s behind result later has some is = absurd (omega (arith, some))
settles peer (suc n) r before s behind result later has some (known, runs) =
    runs_settle peer n r before s behind result known later has runs
