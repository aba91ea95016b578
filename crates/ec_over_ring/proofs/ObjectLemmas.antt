-- What a transfer comes to, said of the object that it names.
use Rattle.std.proofs.Common.{◌≡◌, ℕ, ◌≤◌, Bool, true, false, cond, eqb, ◌&&◌, ◌||◌, List, [], ◌∷◌, map}
use Rattle.std.proofs.Common.{Option, Some, Result, Ok, Err, sym, ap, ◌∙◌, ⊎_elim}
use Rattle.std.specs.Prelude.{not}
use Rattle.std.specs.List.{find}
use Rattle.std.specs.Option.{is_none, unwrap_or, option_map}
use Rattle.std.proofs.lemmas.Bool.{cases_Bool, eq-eqb}
use Rattle.ec_app.specs.Objects.{has_index, is_at, object_at, with_value}
use Rattle.ec_app.specs.State.{SlaveState}
use Rattle.ec_app.specs.Value.{may_read, may_write, size_of}
use Rattle.ec_app.specs.declared.objects.Entry.{Entry}
use Rattle.ec_app.specs.declared.sdo.Sdo.{Sdo}
use Rattle.ec_app.specs.declared.sdo.Sdo.TheVariants.{Upload, UploadAnswer, Download, DownloadAnswer, Abort}
use Rattle.ec_app.specs.declared.sdo.Sdo.TheVariants.{Other}
use Rattle.ec_app.specs.declared.value.Rights.{Rights}
use Rattle.ec_app.specs.declared.value.Rights.TheVariants.{ReadOnly}
use Rattle.ec_app.specs.declared.value.Value.{Value}
use Rattle.ec_app.specs.declared.value.Value.TheVariants.{One}
use Rattle.ec_ring.specs.Ring.{RingState}
use Rattle.ec_master.specs.RingTrips.{RingTrips}
use Rattle.ec_services.specs.Mailbox.{skipped}
use Rattle.ec_services.specs.Transfer.{IsTransferred, uploaded_by, downloaded_by, uploading, downloading}
use Rattle.ec_services.specs.declared.fault.MasterFault.{MasterFault}
use Rattle.ec_services.specs.declared.fault.MasterFault.TheVariants.{Abort as Aborted}
use Rattle.ec_services.specs.declared.mailbox.Peer.{Peer}
use Rattle.ec_over_ring.specs.Transfers.{HasPeer, IsAnswered, IsRequest, answered, answered_ring, download_of}
use Rattle.ec_over_ring.specs.Transfers.{objects_after, stored, two_steps, upload_of}
use Rattle.ec_over_ring.proofs.AnswerLemmas.{upload_comes, download_comes}
use Rattle.ec_over_ring.proofs.PeerLemmas.{IsDone}
use Rattle.ec_over_ring.proofs.TransferLemmas.{done_alone, own_slave, peer_again, transferred}

-- ---- both kinds of requests

pub uploaded : (peer peer_later : Peer) (i j limit : ℕ) (r : RingState) (before : List SlaveState)
    (s : SlaveState) (behind : List SlaveState) (result : Result Value MasterFault) (later : RingState)
    → HasPeer peer r before s behind → IsRequest (Upload i j) → 1 ≤ limit
    → IsTransferred RingTrips r peer (uploading i j) limit result peer_later later
    → (result ≡ upload_of i j s.application.objects)
    × IsAnswered peer (Upload i j) r before s behind peer_later later
uploaded peer peer_later i j limit r before s behind result later has fits some transfer =
    let comes = upload_comes peer i j s.application.objects has.peer_is fits.0 fits.1
    (own_slave peer r before s behind has).values in
    let done = transferred peer peer_later (Upload i j) limit r before s behind uploaded_by
    (upload_of i j s.application.objects) s.application.objects result later has fits comes some transfer in
    (done.result_is, record { counter = done.moves; ring = done.ring })

pub downloaded : (peer peer_later : Peer) (i j : ℕ) (v : Value) (limit : ℕ) (r : RingState)
    (before : List SlaveState) (s : SlaveState) (behind : List SlaveState)
    (result : Result (Unit {0}) MasterFault) (later : RingState)
    → HasPeer peer r before s behind → IsRequest (Download i j v) → 1 ≤ limit
    → IsTransferred RingTrips r peer (downloading i j v) limit result peer_later later
    → (result ≡ download_of i j v s.application.objects)
    × IsAnswered peer (Download i j v) r before s behind peer_later later
downloaded peer peer_later i j v limit r before s behind result later has fits some transfer =
    let comes = download_comes peer i j v s.application.objects has.peer_is fits.0 fits.1 in
    let done = transferred peer peer_later (Download i j v) limit r before s behind downloaded_by
    (download_of i j v s.application.objects) (objects_after (Download i j v) s.application.objects) result
    later has fits comes some transfer in
    (done.result_is, record { counter = done.moves; ring = done.ring })

-- the slave behind one
pub slave_done : (peer : Peer) (asked : Sdo) (r : RingState) (before : List SlaveState) (s : SlaveState)
    (behind : List SlaveState) → HasPeer peer r before s behind → IsRequest asked
    → IsDone peer s (objects_after asked s.application.objects) (answered peer asked s)
slave_done peer (Upload i j) r before s behind has fits =
    done_alone peer (Upload i j) r before s behind uploaded_by (upload_of i j s.application.objects)
    s.application.objects has fits
    (upload_comes peer i j s.application.objects has.peer_is fits.0 fits.1
    (own_slave peer r before s behind has).values)
slave_done peer (Download i j v) r before s behind has fits =
    done_alone peer (Download i j v) r before s behind downloaded_by
    (download_of i j v s.application.objects) (objects_after (Download i j v) s.application.objects) has fits
    (download_comes peer i j v s.application.objects has.peer_is fits.0 fits.1)
slave_done peer (UploadAnswer i j v) r before s behind has fits = absurd fits
slave_done peer (DownloadAnswer i j) r before s behind has fits = absurd fits
slave_done peer (Abort i j code) r before s behind has fits = absurd fits
slave_done peer (Other bytes) r before s behind has fits = absurd fits

-- and the ring
pub ring_done : (peer : Peer) (asked : Sdo) (r : RingState) (before : List SlaveState) (s : SlaveState)
    (behind : List SlaveState) → HasPeer peer r before s behind → IsRequest asked
    → HasPeer (skipped peer) (answered_ring peer asked r before s behind) (two_steps before)
    (answered peer asked s) (two_steps behind)
ring_done peer (Upload i j) r before s behind has fits =
    peer_again peer (Upload i j) r before s behind uploaded_by (upload_of i j s.application.objects)
    s.application.objects has fits
    (upload_comes peer i j s.application.objects has.peer_is fits.0 fits.1
    (own_slave peer r before s behind has).values)
ring_done peer (Download i j v) r before s behind has fits =
    peer_again peer (Download i j v) r before s behind downloaded_by
    (download_of i j v s.application.objects) (objects_after (Download i j v) s.application.objects) has fits
    (download_comes peer i j v s.application.objects has.peer_is fits.0 fits.1)
ring_done peer (UploadAnswer i j v) r before s behind has fits = absurd fits
ring_done peer (DownloadAnswer i j) r before s behind has fits = absurd fits
ring_done peer (Abort i j code) r before s behind has fits = absurd fits
ring_done peer (Other bytes) r before s behind has fits = absurd fits

-- ---- the object that is named

-- its index is there
index_there : (i j : ℕ) (es : List Entry) (x : Rights × Value) → object_at i j es ≡ Some x
    → has_index i es ≡ true
index_there i j [] x is = absurd (cc)
index_there i j (e ∷ es) x is =
    ⊎_elim
    (λ (here : eqb e.index i ≡ true). ap (λ (b : Bool). b || has_index i es) here)
    (λ (elsewhere : eqb e.index i ≡ false).
    let rest : object_at i j (e ∷ es) ≡ object_at i j es =
    ap (λ (b : Bool). option_map (λ (y : Entry). (y.rights, y.value))
    (cond (b && eqb e.sub j) (Some e) (find (is_at i j) es))) elsewhere in
    ap (λ (b : Bool). b || has_index i es) elsewhere ∙ index_there i j es x (sym rest ∙ is))
    (cases_Bool (eqb e.index i))

-- so a value that may be read is told
unfoldable pub upload_by : Bool → Option (Rights × Value) → Result Value MasterFault
upload_by there o =
    cond (not there) (Err (Aborted 0x06020000))
    (cond (is_none o) (Err (Aborted 0x06090011))
    (cond (not (may_read (unwrap_or o (ReadOnly, One 0)).0)) (Err (Aborted 0x06010001))
    (Ok (unwrap_or o (ReadOnly, One 0)).1)))

pub readable : (i j : ℕ) (es : List Entry) (rights : Rights) (v : Value) → object_at i j es ≡ Some (rights, v)
    → may_read rights ≡ true → upload_of i j es ≡ Ok v
unfolding upload_by
readable i j es rights v is may =
    ap (λ (b : Bool). upload_by b (object_at i j es)) (index_there i j es (rights, v) is)
    ∙ ap (λ (o : Option (Rights × Value)). upload_by true o) is
    ∙ ap (λ (b : Bool). cond (not b) (Err (Aborted 0x06010001)) (Ok v)) may

-- and one that may be written takes a value of its length
unfoldable pub download_by : Value → Bool → Option (Rights × Value) → Result (Unit {0}) MasterFault
download_by v there o =
    cond (not there) (Err (Aborted 0x06020000))
    (cond (is_none o) (Err (Aborted 0x06090011))
    (cond (not (may_write (unwrap_or o (ReadOnly, One 0)).0)) (Err (Aborted 0x06010002))
    (cond (not (eqb (size_of v) (size_of (unwrap_or o (ReadOnly, One 0)).1))) (Err (Aborted 0x06070010))
    (Ok tt))))

pub writable : (i j : ℕ) (es : List Entry) (rights : Rights) (v old : Value)
    → object_at i j es ≡ Some (rights, old) → may_write rights ≡ true → size_of v ≡ size_of old
    → download_of i j v es ≡ Ok tt
unfolding download_by
writable i j es rights v old is may size =
    ap (λ (b : Bool). download_by v b (object_at i j es)) (index_there i j es (rights, old) is)
    ∙ ap (λ (o : Option (Rights × Value)). download_by v true o) is
    ∙ ap (λ (b : Bool). cond (not b) (Err (Aborted 0x06010002))
    (cond (not (eqb (size_of v) (size_of old))) (Err (Aborted 0x06070010)) (Ok tt))) may
    ∙ ap (λ (b : Bool). cond (not b) (Err (Aborted 0x06070010)) (Ok tt))
    (eq-eqb (size_of v) (size_of old) size)

-- it has that value then
has_value : (i j : ℕ) (es : List Entry) (rights : Rights) (v old : Value)
    → object_at i j es ≡ Some (rights, old) → object_at i j (map (with_value i j v) es) ≡ Some (rights, v)
has_value i j [] rights v old is = absurd (cc)
has_value i j (e ∷ es) rights v old is =
    let told : Entry → Rights × Value = λ (y : Entry). (y.rights, y.value) in
    let new : Bool → Option (Rights × Value) = λ (b : Bool).
    option_map told (cond (is_at i j (cond b (record e { value = v }) e)) (Some (cond b
    (record e { value = v }) e)) (find (is_at i j) (map (with_value i j v) es))) in
    let was : Bool → Option (Rights × Value) = λ (b : Bool).
    option_map told (cond b (Some e) (find (is_at i j) es)) in
    ⊎_elim
    (λ (here : is_at i j e ≡ true).
    let before : Some (e.rights, e.value) ≡ Some (rights, old) = sym (ap was here) ∙ is in
    let same : e.rights ≡ rights =
    ap (λ (o : Option (Rights × Value)). (unwrap_or o (ReadOnly, One 0)).0) before in
    ap new here
    ∙ ap (λ (b : Bool). option_map told (cond b (Some (record e { value = v }))
    (find (is_at i j) (map (with_value i j v) es)))) here
    ∙ ap (λ (x : Rights). Some (x, v)) same)
    (λ (elsewhere : is_at i j e ≡ false).
    ap new elsewhere
    ∙ ap (λ (b : Bool). option_map told (cond b (Some e) (find (is_at i j) (map (with_value i j v) es))))
    elsewhere
    ∙ has_value i j es rights v old (sym (ap was elsewhere) ∙ is))
    (cases_Bool (is_at i j e))

pub holds_value : (i j : ℕ) (es : List Entry) (rights : Rights) (v old : Value)
    → object_at i j es ≡ Some (rights, old) → may_write rights ≡ true → size_of v ≡ size_of old
    → object_at i j (objects_after (Download i j v) es) ≡ Some (rights, v)
holds_value i j es rights v old is may size =
    ap (λ (done : Result (Unit {0}) MasterFault). object_at i j (stored done i j v es))
    (writable i j es rights v old is may size)
    ∙ has_value i j es rights v old is
