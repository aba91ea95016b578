-- What a slave answers to a request for an object: the mail, and the objects then.
use Rattle.std.proofs.Common.{◌≡◌, ℕ, ◌<◌, Bool, true, false, cond, eqb, List, [], ◌∷◌, map, Option}
use Rattle.std.proofs.Common.{Some, Result, Ok, Err, refl, sym, ap, ◌∙◌, arith, subst, inl, inr}
use Rattle.std.specs.Prelude.{not}
use Rattle.std.specs.List.{AllByRecursion, find}
use Rattle.std.specs.Option.{is_none, unwrap_or, option_map}
use Rattle.ec_app.specs.Mail.{IsMail, sent}
use Rattle.ec_app.specs.MailStep.{mail_answer, mail_back, mail_rows, objects_after as taken_objects}
use Rattle.ec_app.specs.MailStep.{reply, with_reply}
use Rattle.ec_app.specs.Objects.{has_index, is_at, object_at, with_value}
use Rattle.ec_app.specs.Sdo.{index, sub}
use Rattle.ec_app.specs.State.{SlaveState}
use Rattle.ec_app.specs.Table.{first_fitting}
use Rattle.ec_app.specs.Value.{FitsValue, may_read, may_write, size_of}
use Rattle.ec_app.specs.declared.mail.Mail.{Mail}
use Rattle.ec_app.specs.declared.mail.TheConstants.{REQUEST, RESPONSE}
use Rattle.ec_app.specs.declared.objects.Entry.{Entry}
use Rattle.ec_app.specs.declared.sdo.Sdo.TheVariants.{Upload, UploadAnswer, Download, DownloadAnswer, Abort}
use Rattle.ec_app.specs.declared.value.Rights.{Rights}
use Rattle.ec_app.specs.declared.value.Rights.TheVariants.{ReadOnly}
use Rattle.ec_app.specs.declared.value.Value.{Value}
use Rattle.ec_app.specs.declared.value.Value.TheVariants.{One}
use Rattle.ec_services.specs.Mailbox.{IsPeer, request_mail}
use Rattle.ec_services.specs.Transfer.{uploaded_by, downloaded_by}
use Rattle.ec_services.specs.declared.fault.MasterFault.{MasterFault}
use Rattle.ec_services.specs.declared.fault.MasterFault.TheVariants.{Abort as Aborted}
use Rattle.ec_services.specs.declared.mailbox.Peer.{Peer}
use Rattle.ec_over_ring.specs.Transfers.{upload_of, download_of, objects_after, stored}

-- ---- tables

-- what a table says, seen through a function, is what the table of what it gives says
table_map : {R X : Type 0} (f : R → X) (answer other : R) (rows : List (Bool × R))
    → answer ≡ first_fitting rows other
    → f answer ≡ first_fitting (map (λ (row : Bool × R). (row.0, f row.1)) rows) (f other)
table_map f answer other rows is = ap f is ∙ fitting f other rows
  where
    fitting : {R X : Type 0} (f : R → X) (other : R) (rows : List (Bool × R))
        → f (first_fitting rows other)
        ≡ first_fitting (map (λ (row : Bool × R). (row.0, f row.1)) rows) (f other)
    fitting f other [] = refl
    fitting f other ((true, x) ∷ rows) = refl
    fitting f other ((false, x) ∷ rows) = fitting f other rows

-- ---- what a mail leaves

-- a mail that answers, and the objects then
abbrev pub Outcome : Type 0
Outcome = Option Mail × List Entry

abbrev pub outcome_of : Mail → List Entry → Outcome
outcome_of m objects = (
  reply m (mail_answer m objects),
  taken_objects m (mail_answer m objects) objects,
)

-- the slave with that mail in its mailbox and those objects
abbrev pub with_outcome : Mail → SlaveState → Outcome → SlaveState
with_outcome m s o = record {
  controller = with_reply s.controller o.0;
  application = record s.application { objects = o.1; kept = Some m.counter };
}

-- ---- what a request leaves

abbrev object_of : ℕ → ℕ → List Entry → Rights × Value
object_of i j objects = unwrap_or (object_at i j objects) (ReadOnly, One 0)

abbrev aborted : Mail → ℕ → List Entry → Outcome
aborted m code objects = (Some (mail_back m REQUEST (Abort (index m.sdo) (sub m.sdo) code)), objects)

upload_outcome : (peer : Peer) (i j : ℕ) (objects : List Entry)
    → let m = request_mail peer (Upload i j) in
    let object = object_of i j objects in
    outcome_of m objects
    ≡ cond (not (has_index i objects)) (aborted m 0x06020000 objects)
    (cond (is_none (object_at i j objects)) (aborted m 0x06090011 objects)
    (cond (not (may_read object.0)) (aborted m 0x06010001 objects)
    (Some (mail_back m RESPONSE (UploadAnswer i j object.1)), objects)))
unfolding mail_answer
upload_outcome peer i j objects =
    let m : Mail = request_mail peer (Upload i j) in
    table_map (λ a. (reply m a, taken_objects m a objects)) (mail_answer m objects) (mail_answer m objects)
    (mail_rows m objects) refl

download_outcome : (peer : Peer) (i j : ℕ) (v : Value) (objects : List Entry)
    → let m = request_mail peer (Download i j v) in
    let object = object_of i j objects in
    outcome_of m objects
    ≡ cond (not (has_index i objects)) (aborted m 0x06020000 objects)
    (cond (is_none (object_at i j objects)) (aborted m 0x06090011 objects)
    (cond (not (may_write object.0)) (aborted m 0x06010002 objects)
    (cond (not (eqb (size_of v) (size_of object.1))) (aborted m 0x06070010 objects)
    (Some (mail_back m RESPONSE (DownloadAnswer i j)), map (with_value i j v) objects))))
unfolding mail_answer
download_outcome peer i j v objects =
    let m : Mail = request_mail peer (Download i j v) in
    table_map (λ a. (reply m a, taken_objects m a objects)) (mail_answer m objects) _
    (mail_rows m objects) refl

-- ---- what that comes to

-- there is an answer to the request, it comes to this result, and these are the objects then
pub record Comes {A : Type 0} (peer : Peer) (i j : ℕ) (comes_to : Mail → Result A MasterFault)
    (result : Result A MasterFault) (after : List Entry) (o : Outcome) : Type 0 where
  pub mail : Mail
  pub is : o.0 ≡ Some mail
  pub good : IsMail (sent mail)
  pub counter : mail.counter ≡ peer.counter
  pub index_is : index mail.sdo ≡ i
  pub sub_is : sub mail.sdo ≡ j
  pub says : comes_to (sent mail) ≡ result
  pub objects : o.1 ≡ after

refused_upload : (peer : Peer) (i j code : ℕ) (objects : List Entry) → IsPeer peer → i < 65536 → j < 256
    → code < 4294967296
    → Comes peer i j uploaded_by (Err (Aborted code)) objects
    (aborted (request_mail peer (Upload i j)) code objects)
refused_upload peer i j code objects is index_fits sub_fits code_fits = record {
  mail = mail_back (request_mail peer (Upload i j)) REQUEST (Abort i j code);
  is = refl;
  good = record {
    address = omega arith;
    channel = omega arith;
    priority = omega arith;
    first_counter = is.least;
    last_counter = is.most;
    number = omega arith;
    service = inl refl;
    sdo_fits = (index_fits, sub_fits, code_fits);
    sdo_proper = tt;
  };
  counter = refl;
  index_is = refl;
  sub_is = refl;
  says = refl;
  objects = refl;
}

refused_download : (peer : Peer) (i j code : ℕ) (v : Value) (objects : List Entry) → IsPeer peer → i < 65536
    → j < 256 → code < 4294967296
    → Comes peer i j downloaded_by (Err (Aborted code)) objects
    (aborted (request_mail peer (Download i j v)) code objects)
refused_download peer i j code v objects is index_fits sub_fits code_fits = record {
  mail = mail_back (request_mail peer (Download i j v)) REQUEST (Abort i j code);
  is = refl;
  good = record {
    address = omega arith;
    channel = omega arith;
    priority = omega arith;
    first_counter = is.least;
    last_counter = is.most;
    number = omega arith;
    service = inl refl;
    sdo_fits = (index_fits, sub_fits, code_fits);
    sdo_proper = tt;
  };
  counter = refl;
  index_is = refl;
  sub_is = refl;
  says = refl;
  objects = refl;
}

uploads : (peer : Peer) (i j : ℕ) (v : Value) (objects : List Entry) (a b c : Bool) → IsPeer peer → i < 65536
    → j < 256 → FitsValue v
    → let m = request_mail peer (Upload i j) in
    Comes peer i j uploaded_by
    (cond a (Err (Aborted 0x06020000)) (cond b (Err (Aborted 0x06090011)) (cond c (Err (Aborted 0x06010001))
    (Ok v)))) objects
    (cond a (aborted m 0x06020000 objects) (cond b (aborted m 0x06090011 objects)
    (cond c (aborted m 0x06010001 objects) (Some (mail_back m RESPONSE (UploadAnswer i j v)), objects))))
uploads peer i j v objects true b c is index_fits sub_fits fits =
    refused_upload peer i j 0x06020000 objects is index_fits sub_fits (omega arith)
uploads peer i j v objects false true c is index_fits sub_fits fits =
    refused_upload peer i j 0x06090011 objects is index_fits sub_fits (omega arith)
uploads peer i j v objects false false true is index_fits sub_fits fits =
    refused_upload peer i j 0x06010001 objects is index_fits sub_fits (omega arith)
uploads peer i j v objects false false false is index_fits sub_fits fits = record {
  mail = mail_back (request_mail peer (Upload i j)) RESPONSE (UploadAnswer i j v);
  is = refl;
  good = record {
    address = omega arith;
    channel = omega arith;
    priority = omega arith;
    first_counter = is.least;
    last_counter = is.most;
    number = omega arith;
    service = inr refl;
    sdo_fits = (index_fits, sub_fits, fits);
    sdo_proper = tt;
  };
  counter = refl;
  index_is = refl;
  sub_is = refl;
  says = refl;
  objects = refl;
}

-- what a download comes to by its tests
abbrev tested : Bool → Bool → Bool → Bool → Result (Unit {0}) MasterFault
tested a b c d =
    cond a (Err (Aborted 0x06020000)) (cond b (Err (Aborted 0x06090011)) (cond c (Err (Aborted 0x06010002))
    (cond d (Err (Aborted 0x06070010)) (Ok tt))))

downloads : (peer : Peer) (i j : ℕ) (v : Value) (objects : List Entry) (a b c d : Bool) → IsPeer peer
    → i < 65536 → j < 256
    → let m = request_mail peer (Download i j v) in
    Comes peer i j downloaded_by (tested a b c d) (stored (tested a b c d) i j v objects)
    (cond a (aborted m 0x06020000 objects) (cond b (aborted m 0x06090011 objects)
    (cond c (aborted m 0x06010002 objects) (cond d (aborted m 0x06070010 objects)
    (Some (mail_back m RESPONSE (DownloadAnswer i j)), map (with_value i j v) objects)))))
downloads peer i j v objects true b c d is index_fits sub_fits =
    refused_download peer i j 0x06020000 v objects is index_fits sub_fits (omega arith)
downloads peer i j v objects false true c d is index_fits sub_fits =
    refused_download peer i j 0x06090011 v objects is index_fits sub_fits (omega arith)
downloads peer i j v objects false false true d is index_fits sub_fits =
    refused_download peer i j 0x06010002 v objects is index_fits sub_fits (omega arith)
downloads peer i j v objects false false false true is index_fits sub_fits =
    refused_download peer i j 0x06070010 v objects is index_fits sub_fits (omega arith)
downloads peer i j v objects false false false false is index_fits sub_fits = record {
  mail = mail_back (request_mail peer (Download i j v)) RESPONSE (DownloadAnswer i j);
  is = refl;
  good = record {
    address = omega arith;
    channel = omega arith;
    priority = omega arith;
    first_counter = is.least;
    last_counter = is.most;
    number = omega arith;
    service = inr refl;
    sdo_fits = (index_fits, sub_fits);
    sdo_proper = tt;
  };
  counter = refl;
  index_is = refl;
  sub_is = refl;
  says = refl;
  objects = refl;
}

-- ---- the values of objects fit

abbrev pub AreValues : List Entry → Type 0
AreValues es = AllByRecursion (λ (e : Entry). FitsValue e.value) es

abbrev told : Option Entry → Rights × Value
told o = unwrap_or (option_map (λ (x : Entry). (x.rights, x.value)) o) (ReadOnly, One 0)

found_fits : (test : Bool) (e : Entry) (o : Option Entry) → FitsValue e.value → FitsValue (told o).1
    → FitsValue (told (cond test (Some e) o)).1
found_fits true e o here others = here
found_fits false e o here others = others

pub object_fits : (i j : ℕ) (es : List Entry) → AreValues es → FitsValue (object_of i j es).1
object_fits i j [] fits = omega arith
object_fits i j (e ∷ es) fits =
    found_fits (is_at i j e) e (find (is_at i j) es) fits.0 (object_fits i j es fits.1)

-- ---- the answer

pub upload_comes : (peer : Peer) (i j : ℕ) (objects : List Entry) → IsPeer peer → i < 65536 → j < 256
    → AreValues objects
    → Comes peer i j uploaded_by (upload_of i j objects) objects
    (outcome_of (request_mail peer (Upload i j)) objects)
upload_comes peer i j objects is index_fits sub_fits fits =
    let object : Rights × Value = object_of i j objects in
    subst (λ (o : Outcome). Comes peer i j uploaded_by (upload_of i j objects) objects o)
    (sym (upload_outcome peer i j objects))
    (uploads peer i j object.1 objects (not (has_index i objects)) (is_none (object_at i j objects))
    (not (may_read object.0)) is index_fits sub_fits (object_fits i j objects fits))

pub download_comes : (peer : Peer) (i j : ℕ) (v : Value) (objects : List Entry) → IsPeer peer → i < 65536
    → j < 256
    → Comes peer i j downloaded_by (download_of i j v objects) (objects_after (Download i j v) objects)
    (outcome_of (request_mail peer (Download i j v)) objects)
download_comes peer i j v objects is index_fits sub_fits =
    let object : Rights × Value = object_of i j objects in
    subst (λ (o : Outcome). Comes peer i j downloaded_by (download_of i j v objects)
    (objects_after (Download i j v) objects) o)
    (sym (download_outcome peer i j v objects))
    (downloads peer i j v objects (not (has_index i objects)) (is_none (object_at i j objects))
    (not (may_write object.0)) (not (eqb (size_of v) (size_of object.1))) is index_fits sub_fits)
