-- An object of a slave is read or written by one mail and its answer (IEC 61158-6-12, SDO services).
use Rattle.std.specs.Prelude.{◌≡◌, ℕ, ◌==◌, Bool, not, ◌&&◌, ◌||◌, if◌then◌else◌, Option}
use Rattle.std.specs.Prelude.{List, Result, Ok, Err}
use Rattle.std.specs.Option.{is_some}
use Rattle.ec_wire.specs.Datagram.{DatagramRecord, nth}
use Rattle.ec_app.specs.Mail.{mail_of, mail_fault}
use Rattle.ec_app.specs.Sdo.{index, sub}
use Rattle.ec_app.specs.declared.mail.Mail.{Mail}
use Rattle.ec_app.specs.declared.mail.TheConstants.{RESPONSE}
use Rattle.ec_app.specs.declared.sdo.Sdo.{Sdo}
use Rattle.ec_app.specs.declared.sdo.Sdo.TheVariants.{Upload, Download, UploadAnswer, DownloadAnswer, Abort}
use Rattle.ec_app.specs.declared.value.Value.{Value}
use Rattle.ec_master.specs.Ports.{Trips}
use Rattle.ec_services.specs.Mailbox.{IsPosted, Fetches}
use Rattle.ec_services.specs.declared.fault.MasterFault.{MasterFault}
use Rattle.ec_services.specs.declared.fault.MasterFault.TheVariants.{Abort as Aborted, BadAnswer}
use Rattle.ec_services.specs.declared.mailbox.Peer.{Peer}

-- ---- the answer's mail

-- does a mail answer a request: it has its counter, its index and its subindex
abbrev pub answers : ℕ → Sdo → Mail → Bool
answers counter asked m = m.counter == counter && (index m.sdo == index asked && sub m.sdo == sub asked)

-- the mail that answers a request, in bytes that were read
abbrev pub answer_in : ℕ → Sdo → List ℕ → Result Mail MasterFault
answer_in counter asked bytes =
    if is_some (mail_fault bytes) || not (answers counter asked (mail_of bytes)) then Err BadAnswer
    else Ok (mail_of bytes)

-- in a frame that was fetched
abbrev pub answer_of : ℕ → Sdo → Result (List DatagramRecord) MasterFault → Result Mail MasterFault
answer_of counter asked (Err fault) = Err fault
answer_of counter asked (Ok frame) = answer_in counter asked (nth frame 0).payload

-- what an answer to an upload comes to; an abort ends it whatever its service
abbrev pub uploaded_by : Mail → Result Value MasterFault
uploaded_by m = elim m.sdo [
  | UploadAnswer i j value ↦ if m.service == RESPONSE then Ok value else Err BadAnswer
  | Abort i j code ↦ Err (Aborted code)
  | _ ↦ Err BadAnswer
]

-- what an answer to a download comes to
abbrev pub downloaded_by : Mail → Result (Unit {0}) MasterFault
downloaded_by m = elim m.sdo [
  | DownloadAnswer i j ↦ if m.service == RESPONSE then Ok tt else Err BadAnswer
  | Abort i j code ↦ Err (Aborted code)
  | _ ↦ Err BadAnswer
]

-- ---- the services

-- unless the writing of a request failed, its answer is fetched
abbrev pub ThenFetches : {P : Type 0} → Trips P → P → Peer → Sdo → ℕ → Result (Option Mail) MasterFault
    → Result Mail MasterFault → P → Type 0
ThenFetches trips between peer asked limit (Err fault) result later = (result ≡ Err fault) × (later ≡ between)
ThenFetches trips between peer asked limit (Ok _) result later =
    (fetched : Result (List DatagramRecord) MasterFault) × Fetches trips between peer limit fetched later
    × (result ≡ answer_of peer.counter asked fetched)

-- a request is written, and its answer is fetched
pub record IsExchanged {P : Type 0} (trips : Trips P) (before : P) (peer : Peer) (asked : Sdo) (limit : ℕ)
    (result : Result Mail MasterFault) (peer_later : Peer) (later : P) : Type 0 where
  pub posted : Result (Option Mail) MasterFault
  pub between : P
  pub posting : IsPosted trips before peer asked posted peer_later between
  pub fetching : ThenFetches trips between peer asked limit posted result later

-- what an answer comes to, unless there is none
abbrev pub understood : {A : Type 0} → (Mail → Result A MasterFault) → Result Mail MasterFault
    → Result A MasterFault
understood comes_to (Err fault) = Err fault
understood comes_to (Ok mail) = comes_to mail

-- an SDO service: what is asked, and what the mail that answers it comes to
pub record Service (A : Type 0) : Type 0 where
  pub asked : Sdo
  pub comes_to : Mail → Result A MasterFault

abbrev pub service_of : {A : Type 0} → Sdo → (Mail → Result A MasterFault) → Service A
service_of asked comes_to = record { asked = asked; comes_to = comes_to }

-- an object is read
abbrev pub uploading : ℕ → ℕ → Service Value
uploading index sub = service_of (Upload index sub) uploaded_by

-- an object is written
abbrev pub downloading : ℕ → ℕ → Value → Service (Unit {0})
downloading index sub value = service_of (Download index sub value) downloaded_by

-- an exchange, and what its answer comes to
pub record IsTransferred {P A : Type 0} (trips : Trips P) (before : P) (peer : Peer) (service : Service A)
    (limit : ℕ) (result : Result A MasterFault) (peer_later : Peer) (later : P) : Type 0 where
  pub answer : Result Mail MasterFault
  pub exchange : IsExchanged trips before peer service.asked limit answer peer_later later
  pub understands : result ≡ understood service.comes_to answer
