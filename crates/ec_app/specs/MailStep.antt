-- What a slave does with a mail of the master: it takes it from one mailbox, does what the first fitting row
-- of a table says, and puts an answer into the other (IEC 61158-6-12, CoE, SDO services and their abort
-- codes).
use Rattle.std.specs.Prelude.{ℕ, Bool, true, false, ◌==◌, ◌&&◌, ◌||◌, not, if◌then◌else◌, Option, None, Some}
use Rattle.std.specs.Prelude.{List, [], ◌∷◌, map}
use Rattle.std.specs.Option.{is_none, is_some, option_eq, unwrap_or}
use Rattle.ec_regs.specs.declared.al.AlState.{AlState}
use Rattle.ec_regs.specs.declared.al.AlState.TheVariants.{Init, PreOp, SafeOp, Op}
use Rattle.ec_regs.specs.SyncMan.{is_full}
use Rattle.ec_areas.specs.Ranges.{has_sii}
use Rattle.ec_areas.specs.Records.{sync_manager_at}
use Rattle.ec_esc.specs.Application.{al_status, mail_of as area_of, with_mail_taken, with_mail_put}
use Rattle.ec_esc.specs.State.{ControllerState}
use Rattle.ec_app.specs.AbortCode.{abort_code}
use Rattle.ec_app.specs.declared.abort_code.AbortCode.TheVariants.{UnknownCommand, NoObject, NoSubindex}
use Rattle.ec_app.specs.declared.abort_code.AbortCode.TheVariants.{ReadOfWriteOnly, WriteOfReadOnly}
use Rattle.ec_app.specs.declared.abort_code.AbortCode.TheVariants.{WrongLength}
use Rattle.ec_app.specs.declared.mail.Mail.{Mail}
use Rattle.ec_app.specs.declared.mail.TheConstants.{REQUEST, RESPONSE}
use Rattle.ec_app.specs.declared.mail_step.MailAnswer.{MailAnswer}
use Rattle.ec_app.specs.declared.mail_step.MailAnswer.TheVariants.{Nothing, Aborted, Uploaded, Downloaded}
use Rattle.ec_app.specs.declared.objects.Entry.{Entry}
use Rattle.ec_app.specs.declared.roles.TheConstants.{REQUEST_MAILBOX, ANSWER_MAILBOX}
use Rattle.ec_app.specs.declared.sdo.Sdo.{Sdo}
use Rattle.ec_app.specs.declared.sdo.Sdo.TheVariants.{Upload, UploadAnswer, Download, DownloadAnswer, Abort}
use Rattle.ec_app.specs.declared.value.Rights.{Rights}
use Rattle.ec_app.specs.declared.value.Rights.TheVariants.{ReadOnly}
use Rattle.ec_app.specs.declared.value.Value.{Value}
use Rattle.ec_app.specs.declared.value.Value.TheVariants.{One}
use Rattle.ec_app.specs.Mail.{mail_bytes, fault_for, mail_of, counter_of, sent}
use Rattle.ec_app.specs.Objects.{has_index, object_at, with_value}
use Rattle.ec_app.specs.Roles.{is_request_mailbox, is_answer_mailbox}
use Rattle.ec_app.specs.Sdo.{index, sub}
use Rattle.ec_app.specs.State.{ApplicationState, SlaveState}
use Rattle.ec_app.specs.Table.{first_fitting}
use Rattle.ec_app.specs.Value.{size_of, may_read, may_write}

-- ---- the table

-- is the SDO a request for a value, a request to take one, or an abort
abbrev pub is_upload : Sdo → Bool
is_upload (Upload _ _) = true
is_upload _ = false

abbrev pub is_download : Sdo → Bool
is_download (Download _ _ _) = true
is_download _ = false

abbrev pub is_abort : Sdo → Bool
is_abort (Abort _ _ _) = true
is_abort _ = false

-- the value that a download asks to be taken; any value where the SDO is none
abbrev pub new_value : Sdo → Value
new_value (Download _ _ value) = value
new_value _ = One 0

-- the rights and the value of the object that an SDO names, if an entry stands there
abbrev pub named : Sdo → List Entry → Option (Rights × Value)
named sdo objects = object_at (index sdo) (sub sdo) objects

-- the rows, in their order; below the fourth there is such an object
abbrev pub mail_rows : Mail → List Entry → List (Bool × MailAnswer)
mail_rows m objects =
    let object = unwrap_or (named m.sdo objects) (ReadOnly, One 0) in
    (m.service == RESPONSE || is_abort m.sdo, Nothing)
    ∷ (not (is_upload m.sdo || is_download m.sdo), Aborted UnknownCommand)
    ∷ (not (has_index (index m.sdo) objects), Aborted NoObject)
    ∷ (is_none (named m.sdo objects), Aborted NoSubindex)
    ∷ (is_upload m.sdo && not (may_read object.0), Aborted ReadOfWriteOnly)
    ∷ (is_download m.sdo && not (may_write object.0), Aborted WriteOfReadOnly)
    ∷ (is_download m.sdo && not (size_of (new_value m.sdo) == size_of object.1), Aborted WrongLength)
    ∷ (is_upload m.sdo, Uploaded object.1)
    ∷ []

-- what the slave answers to a good mail; where no row fits, it is a download that is done
unfoldable pub mail_answer : Mail → List Entry → MailAnswer
mail_answer m objects = first_fitting (mail_rows m objects) (Downloaded (new_value m.sdo))

-- ---- what an answer leaves

-- the objects after an answer to a mail: only a download changes one
abbrev pub objects_after : Mail → MailAnswer → List Entry → List Entry
objects_after m (Downloaded value) objects = map (with_value (index m.sdo) (sub m.sdo) value) objects
objects_after m Nothing objects = objects
objects_after m (Aborted _) objects = objects
objects_after m (Uploaded _) objects = objects

-- the mail of this service and SDO that answers a mail, with its counter
abbrev pub mail_back : Mail → ℕ → Sdo → Mail
mail_back m service sdo = record m { service = service; sdo = sdo }

-- the mail that carries an answer, if one does
abbrev pub reply : Mail → MailAnswer → Option Mail
reply m Nothing = None
reply m (Aborted reason) =
    Some (mail_back m REQUEST (Abort (index m.sdo) (sub m.sdo) (abort_code reason)))
reply m (Uploaded value) = Some (mail_back m RESPONSE (UploadAnswer (index m.sdo) (sub m.sdo) value))
reply m (Downloaded _) = Some (mail_back m RESPONSE (DownloadAnswer (index m.sdo) (sub m.sdo)))

-- the controller with that mail in the mailbox of answers
abbrev pub with_reply : ControllerState → Option Mail → ControllerState
with_reply c None = c
with_reply c (Some m) = with_mail_put c ANSWER_MAILBOX (mail_bytes (sent m))

-- the application after an answer to a good mail, whose counter it keeps
abbrev pub application_after : Mail → MailAnswer → ApplicationState → ApplicationState
application_after m answer a = record a { objects = objects_after m answer a.objects; kept = Some m.counter }

-- the slave after a good mail
abbrev pub after_mail : Mail → SlaveState → SlaveState
after_mail m s =
    let answer = mail_answer m s.application.objects in
    record {
      controller = with_reply s.controller (reply m answer);
      application = application_after m answer s.application;
    }

-- ---- which mails are taken, and which of them are dropped

-- are there mails in this state: in each but Init
abbrev pub has_mail : AlState → Bool
has_mail Init = false
has_mail PreOp = true
has_mail SafeOp = true
has_mail Op = true

-- may a mail be answered: the state has mails, and the mailbox of answers is there and empty
abbrev pub can_answer : ControllerState → Bool
can_answer c =
    let answers = sync_manager_at c.memory ANSWER_MAILBOX
    in has_mail (al_status c).state && is_answer_mailbox answers && not (is_full answers)

-- is there a mail to take: the mailbox of requests is there and full
abbrev pub has_request : ControllerState → Bool
has_request c =
    let requests = sync_manager_at c.memory REQUEST_MAILBOX
    in is_request_mailbox requests && is_full requests

-- is the counter the one that is kept; a mail whose counter is 0 repeats none
abbrev pub is_kept : Option ℕ → ℕ → Bool
is_kept kept counter = option_eq (λ m n. m == n) kept (Some counter) && not (counter == 0)

-- are the bytes no mail for such a slave, a device or a plain one, or the last good mail once more
abbrev pub is_dropped : Bool → Option ℕ → List ℕ → Bool
is_dropped device kept bytes = is_some (fault_for device bytes) || is_kept kept (counter_of bytes)

-- the slave after it took these bytes
abbrev pub after_bytes : List ℕ → SlaveState → SlaveState
after_bytes bytes s =
    if is_dropped (has_sii s.controller.memory) s.application.kept bytes
    then s
    else after_mail (mail_of bytes) s

-- the bytes in the mailbox of requests
abbrev pub request_bytes : ControllerState → List ℕ
request_bytes c = area_of (sync_manager_at c.memory REQUEST_MAILBOX) c.memory

-- the slave after its mail step
unfoldable pub mail_step : SlaveState → SlaveState
mail_step s =
    let taken = record s { controller = with_mail_taken s.controller REQUEST_MAILBOX } in
    if can_answer s.controller && has_request s.controller
    then after_bytes (request_bytes s.controller) taken
    else s
