-- A mail is sixteen bytes: the mailbox header of six, the CoE header of two and the SDO's eight; what follows
-- is padding (IEC 61158-4-12, mailbox; IEC 61158-6-12, CoE header).
use Rattle.std.specs.Prelude.{◌≡◌, ℕ, ◌+◌, ◌*◌, ◌/◌, ◌%◌, ◌^◌, ◌<◌, ◌≤◌, ◌⊎◌, Bool, false, not, ◌&&◌, ◌||◌}
use Rattle.std.specs.Prelude.{◌==◌, nat_lt}
use Rattle.std.specs.Prelude.{Option, Some, None, List, [], ◌∷◌, ◌++◌, length, take, drop, slice_index}
use Rattle.std.specs.Int.{w16, to_le_bytes, from_le_bytes}
use Rattle.ec_app.specs.Sdo.{sdo_bytes, sdo_of, FitsSdo, IsProper}
use Rattle.ec_app.specs.Table.{first_fitting}
use Rattle.ec_app.specs.declared.mail.Mail.{Mail}
use Rattle.ec_app.specs.declared.mail.MailFault.{MailFault}
use Rattle.ec_app.specs.declared.mail.MailFault.TheVariants.{Short, WrongType, BadCounter, Reserved}
use Rattle.ec_app.specs.declared.mail.MailFault.TheVariants.{WrongLength}
use Rattle.ec_app.specs.declared.mail.TheConstants.{HEADER_SIZE, MAIL_SIZE, LENGTH, ADDRESS_AT, CHANNEL_AT}
use Rattle.ec_app.specs.declared.mail.TheConstants.{TYPE_AT, COE_AT, SDO_AT, CHANNELS, COE, TYPES, COUNTERS}
use Rattle.ec_app.specs.declared.mail.TheConstants.{NUMBERS, RESERVED, SERVICES, REQUEST, RESPONSE}

-- ---- from the mail to its bytes

-- the bytes that spell a mail
abbrev pub mail_bytes : Mail → List ℕ
mail_bytes m =
    to_le_bytes w16 LENGTH
    ++ to_le_bytes w16 m.address
    ++ (m.channel + CHANNELS * m.priority) ∷ (COE + TYPES * m.counter) ∷ []
    ++ to_le_bytes w16 (m.number + SERVICES * m.service)
    ++ sdo_bytes m.sdo

-- a mail as it is sent: the fields that tell nothing here are 0
abbrev pub sent : Mail → Mail
sent m = record m { address = 0; channel = 0; priority = 0; number = 0 }

-- a mail whose fields are in their ranges
pub record IsMail (m : Mail) : Type 0 where
  pub address : m.address < 2 ^ 16
  pub channel : m.channel < 64
  pub priority : m.priority < 4
  pub first_counter : 1 ≤ m.counter
  pub last_counter : m.counter ≤ 7
  pub number : m.number < 512
  pub service : (m.service ≡ REQUEST) ⊎ (m.service ≡ RESPONSE)
  pub sdo_fits : FitsSdo m.sdo
  pub sdo_proper : IsProper m.sdo

-- a mail of these bytes, and padding
pub record BeginsWith (bytes : List ℕ) (m : Mail) : Type 0 where
  pub spelling : take MAIL_SIZE bytes ≡ mail_bytes m
  pub mail : IsMail m

-- ---- and back

-- the byte of the type and the counter
abbrev pub type_byte : List ℕ → ℕ
type_byte bytes = slice_index bytes TYPE_AT

-- the counter
abbrev pub counter_of : List ℕ → ℕ
counter_of bytes = type_byte bytes / TYPES % COUNTERS

-- the length that the header states
abbrev pub stated_length : List ℕ → ℕ
stated_length bytes = from_le_bytes w16 bytes

-- the CoE header as a number
abbrev pub coe_word : List ℕ → ℕ
coe_word bytes = from_le_bytes w16 (drop COE_AT bytes)

-- the service
abbrev pub service_of : List ℕ → ℕ
service_of bytes = coe_word bytes / SERVICES

-- the fields of a mail's bytes
abbrev pub mail_of : List ℕ → Mail
mail_of bytes = record {
  address = from_le_bytes w16 (drop ADDRESS_AT bytes);
  channel = slice_index bytes CHANNEL_AT % CHANNELS;
  priority = slice_index bytes CHANNEL_AT / CHANNELS;
  counter = counter_of bytes;
  number = coe_word bytes % NUMBERS;
  service = service_of bytes;
  sdo = sdo_of (take 8 (drop SDO_AT bytes));
}

-- ---- the first fault

-- the tests of a mail, in their order, each with its fault; a device takes the counter 0 as well, which is
-- that of masters that do not count
abbrev pub tests_for : Bool → List ℕ → List (Bool × Option MailFault)
tests_for device bytes =
    (nat_lt (length bytes) HEADER_SIZE, Some Short)
    ∷ (not (type_byte bytes / TYPES / COUNTERS == 0), Some Reserved)
    ∷ (not (type_byte bytes % TYPES == COE), Some WrongType)
    ∷ (not device && counter_of bytes == 0, Some BadCounter)
    ∷ (not (stated_length bytes == LENGTH), Some WrongLength)
    ∷ (nat_lt (length bytes) MAIL_SIZE, Some Short)
    ∷ (not (coe_word bytes / NUMBERS % RESERVED == 0), Some Reserved)
    ∷ (not (service_of bytes == REQUEST || service_of bytes == RESPONSE), Some WrongType)
    ∷ []

-- the first fault of a mail's bytes, if they have one
unfoldable pub mail_fault : List ℕ → Option MailFault
mail_fault bytes = first_fitting (tests_for false bytes) None

-- the first one for a slave, which may be a device
unfoldable pub fault_for : Bool → List ℕ → Option MailFault
fault_for device bytes = first_fitting (tests_for device bytes) None
