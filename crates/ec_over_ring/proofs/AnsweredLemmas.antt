-- What a call comes to where nothing is lost.
use Rattle.std.proofs.Common.{◌≡◌, ℕ, zero, suc, ◌≤◌, Option, None, Some, Result, Ok, Err, sym, subst}
use Rattle.ec_app.specs.State.{SlaveState}
use Rattle.ec_app.specs.declared.mail.Mail.{Mail}
use Rattle.ec_app.specs.declared.sdo.Sdo.{Sdo}
use Rattle.ec_app.specs.declared.sdo.Sdo.TheVariants.{Upload, Download}
use Rattle.ec_app.specs.declared.value.Value.{Value}
use Rattle.ec_services.specs.Course.{IsStep, Runs}
use Rattle.ec_services.specs.Mailbox.{IsPeer}
use Rattle.ec_services.specs.Progress.{Known}
use Rattle.ec_services.specs.Surely.{IsSure, asking, begun, next_sent}
use Rattle.ec_services.specs.Transfer.{downloaded_by, understood, uploaded_by, uploading, downloading}
use Rattle.ec_services.specs.declared.fault.MasterFault.{MasterFault}
use Rattle.ec_services.specs.declared.mailbox.Peer.{Peer}
use Rattle.ec_over_ring.specs.Recovery.{CalmTrips, History, IsOfPeer, IsStored, OneIs, SlaveTrips, TakesMail}
use Rattle.ec_over_ring.specs.Recovery.{begun_at, times_of}
use Rattle.ec_over_ring.specs.Transfers.{IsRequest, upload_of}
use Rattle.ec_over_ring.proofs.CalmLemmas.{calm_asks}
use Rattle.ec_over_ring.proofs.RecoveryLemmas.{Ends, begins, download_ok, runs_end, upload_ok}
use Rattle.ec_over_ring.proofs.TenTripsLemmas.{IsOkMail, ten_trips}

-- ---- trips of which nothing is lost are trips in some weather

calm_step : (asked : Sdo) (p learned : Known) (h later : History) (decided : Result (Option Mail) MasterFault)
    → IsStep CalmTrips h (asking asked) p decided learned later
    → IsStep SlaveTrips h (asking asked) p decided learned later
calm_step asked p learned h later decided step = record {
  answer = step.answer;
  asks = calm_asks h later (next_sent asked p) step.answer step.asks;
  decides = step.decides;
  learns = step.learns;
}

pub calm_runs : (n : ℕ) (asked : Sdo) (p last : Known) (h later : History) (result : Result Mail MasterFault)
    → Runs CalmTrips h (asking asked) p n result last later
    → Runs SlaveTrips h (asking asked) p n result last later
unfolding Runs
calm_runs zero asked p last h later result end = end
calm_runs (suc n) asked p last h later result (Err fault, learned, between, step, left) =
    (Err fault, learned, between, calm_step asked p learned h between (Err fault) step, left)
calm_runs (suc n) asked p last h later result (Ok (Some mail), learned, between, step, left) =
    (Ok (Some mail), learned, between, calm_step asked p learned h between (Ok (Some mail)) step, left)
calm_runs (suc n) asked p last h later result (Ok None, learned, between, step, left) = (
  Ok None,
  learned,
  between,
  calm_step asked p learned h between (Ok None) step,
  calm_runs n asked learned last between later result left,
)

-- ---- the call

-- it ends with a mail
record IsAnswered (asked : Sdo) (answer : Result Mail MasterFault) (last : Known) (h : History) : Type 0 where
  ok : IsOkMail answer
  ends : Ends asked answer last h

is_answered : (asked : Sdo) (peer : Peer) (limit : ℕ) (s : SlaveState) (answer : Result Mail MasterFault)
    (last : Known) (later : History) → IsPeer peer → IsOfPeer peer s → IsRequest asked → TakesMail s
    → 10 ≤ limit → Runs CalmTrips (begun_at s) (asking asked) (begun peer) limit answer last later
    → IsAnswered asked answer last later
is_answered asked peer limit s answer last later peer_is is fits takes some runs = record {
  ok = ten_trips asked peer (begun_at s) later limit last answer fits (begins asked peer s peer_is is) takes
      some runs;
  ends = runs_end limit asked (begun peer) last (begun_at s) later answer fits
      (begins asked peer s peer_is is)
      (calm_runs limit asked (begun peer) last (begun_at s) later answer runs);
}

upload_known : (i j : ℕ) (last : Known) (h : History) (answer : Result Mail MasterFault)
    → IsRequest (Upload i j) → IsAnswered (Upload i j) answer last h
    → understood uploaded_by answer ≡ upload_of i j h.now.application.objects
upload_known i j last h (Err fault) fits is = absurd is.ok
upload_known i j last h (Ok mail) fits is = upload_ok i j last h mail fits is.ends

pub upload_answered : (peer peer_later : Peer) (i j limit : ℕ) (s : SlaveState)
    (result : Result Value MasterFault) (later : History) → IsPeer peer → IsOfPeer peer s
    → IsRequest (Upload i j) → TakesMail s → 10 ≤ limit
    → IsSure CalmTrips (begun_at s) peer (uploading i j) limit result peer_later later
    → result ≡ upload_of i j later.now.application.objects
upload_answered peer peer_later i j limit s result later peer_is is fits takes some sure =
    subst (λ (r : Result Value MasterFault). r ≡ upload_of i j later.now.application.objects)
    (sym sure.understands)
    (upload_known i j sure.last later sure.answer fits
    (is_answered (Upload i j) peer limit s sure.answer sure.last later peer_is is fits takes some sure.runs))

download_known : (i j : ℕ) (v : Value) (last : Known) (h : History) (answer : Result Mail MasterFault)
    → IsRequest (Download i j v) → IsAnswered (Download i j v) answer last h
    → OneIs (IsStored i j v (understood downloaded_by answer) h.now) (times_of h)
download_known i j v last h (Err fault) fits is = absurd is.ok
download_known i j v last h (Ok mail) fits is = download_ok i j v last h mail fits is.ends

pub download_answered : (peer peer_later : Peer) (i j : ℕ) (v : Value) (limit : ℕ) (s : SlaveState)
    (result : Result (Unit {0}) MasterFault) (later : History) → IsPeer peer → IsOfPeer peer s
    → IsRequest (Download i j v) → TakesMail s → 10 ≤ limit
    → IsSure CalmTrips (begun_at s) peer (downloading i j v) limit result peer_later later
    → OneIs (IsStored i j v result later.now) (times_of later)
download_answered peer peer_later i j v limit s result later peer_is is fits takes some sure =
    subst (λ (r : Result (Unit {0}) MasterFault). OneIs (IsStored i j v r later.now) (times_of later))
    (sym sure.understands)
    (download_known i j v sure.last later sure.answer fits
    (is_answered (Download i j v) peer limit s sure.answer sure.last later peer_is is fits takes some
    sure.runs))
