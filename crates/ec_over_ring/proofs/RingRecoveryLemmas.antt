-- What a call that recovers comes to over a ring in any weather.
use Rattle.std.proofs.Common.{◌≡◌, ℕ, List, length, Some, Ok, Err, inl, inr}
use Rattle.std.specs.List.{AllByRecursion}
use Rattle.ec_app.specs.State.{SlaveState}
use Rattle.ec_app.specs.declared.sdo.Sdo.TheVariants.{Upload, Download}
use Rattle.ec_app.specs.declared.value.Value.{Value}
use Rattle.ec_ring.specs.Ring.{RingState}
use Rattle.ec_services.specs.Mailbox.{IsPeer}
use Rattle.ec_services.specs.Surely.{IsSure}
use Rattle.ec_services.specs.Transfer.{downloaded_by, uploaded_by, uploading, downloading}
use Rattle.ec_services.specs.declared.fault.MasterFault.TheVariants.{Abort}
use Rattle.ec_services.specs.declared.mailbox.Peer.{Peer}
use Rattle.ec_over_ring.specs.Recovery.{HasSlave, RingHistory, WeatherSteps, begun_ring, history_at, slave_at}
use Rattle.ec_over_ring.specs.Recovery.{times_of, value_at}
use Rattle.ec_over_ring.specs.Transfers.{IsRequest, download_of}
use Rattle.ec_over_ring.proofs.RingCallLemmas.{call_over_ring}
use Rattle.ec_over_ring.proofs.ShapeLemmas.{said_throughout}
use Rattle.ec_over_ring.proofs.ValueLemmas.{download_held, upload_held}

-- the object holds the value that an upload brings
pub ring_uploaded : (peer peer_later : Peer) (i j limit : ℕ) (r : RingState)
    (before behind : List SlaveState) (s : SlaveState) (value : Value) (later : RingHistory)
    → IsPeer peer → HasSlave peer r before s behind → IsRequest (Upload i j)
    → IsSure WeatherSteps (begun_ring r) peer (uploading i j) limit (Ok value) peer_later later
    → value_at i j (slave_at (length before) s later.now).application.objects ≡ Some value
ring_uploaded peer peer_later i j limit r before behind s value later peer_is has fits sure =
    upload_held peer peer_later i j limit s value (history_at (length before) s later) peer_is has.own fits
    (call_over_ring peer peer_later (Upload i j) limit uploaded_by r before behind s (Ok value) later
    peer_is has
    fits sure)

-- and the one that a download stored
pub ring_downloaded : (peer peer_later : Peer) (i j : ℕ) (value : Value) (limit : ℕ) (r : RingState)
    (before behind : List SlaveState) (s : SlaveState) (later : RingHistory)
    → IsPeer peer → HasSlave peer r before s behind → IsRequest (Download i j value)
    → IsSure WeatherSteps (begun_ring r) peer (downloading i j value) limit (Ok tt) peer_later
    later
    → value_at i j (slave_at (length before) s later.now).application.objects ≡ Some value
ring_downloaded peer peer_later i j value limit r before behind s later peer_is has fits sure =
    download_held peer peer_later i j value limit s (history_at (length before) s later) peer_is has.own fits
    (call_over_ring peer peer_later (Download i j value) limit downloaded_by r before behind s (Ok tt) later
    peer_is has fits sure)

-- a download that was refused would have been at any time
pub ring_refused : (peer peer_later : Peer) (i j : ℕ) (value : Value) (limit code : ℕ) (r : RingState)
    (before behind : List SlaveState) (s : SlaveState) (later : RingHistory)
    → IsPeer peer → HasSlave peer r before s behind → IsRequest (Download i j value)
    → IsSure WeatherSteps (begun_ring r) peer (downloading i j value) limit (Err (Abort code))
    peer_later later
    → AllByRecursion (λ (t : SlaveState). Err (Abort code) ≡ download_of i j value t.application.objects)
    (times_of (history_at (length before) s later))
ring_refused peer peer_later i j value limit code r before behind s later peer_is has fits sure =
    elim (said_throughout peer peer_later i j value limit s (Err (Abort code))
    (history_at (length before) s later) peer_is has.own fits
    (call_over_ring peer peer_later (Download i j value) limit downloaded_by r before behind s
    (Err (Abort code)) later peer_is has fits sure)) [
      | inl none ↦ absurd none
      | inr says ↦ says
    ]
