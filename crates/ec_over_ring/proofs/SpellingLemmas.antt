-- A mail is read as it was written, whatever follows it.
use Rattle.std.proofs.Common.{◌≡◌, ◌⊎◌, ℕ, ◌+◌, ◌*◌, ◌/◌, ◌%◌, ◌≤◌, Bool, false, eqb, ltb, ◌||◌}
use Rattle.std.proofs.Common.{cond, Option, None, Some, List, ◌++◌, length, take, refl}
use Rattle.std.proofs.Common.{ap, ◌∙◌, arith, inl, inr, ⊎_elim}
use Rattle.std.specs.Prelude.{not}
use Rattle.std.specs.Int.{w16, to_le_bytes, from_le_bytes}
use Rattle.std.proofs.lemmas.Bool.Decides.{nat_tests}
use Rattle.std.proofs.lemmas.List.{take_at, length-append}
use Rattle.std.proofs.lemmas.Nat.{from_le_bytes-to_le_bytes_2, from_le_bytes-to_le_bytes_4}
use Rattle.ec_app.specs.Mail.{mail_bytes, mail_of, mail_fault, type_byte, counter_of, coe_word}
use Rattle.ec_app.specs.Mail.{service_of, IsMail}
use Rattle.ec_app.specs.Sdo.{sdo_of, sdo_bytes, FitsSdo, IsProper}
use Rattle.ec_app.specs.declared.mail.Mail.{Mail}
use Rattle.ec_app.specs.declared.mail.MailFault.{MailFault}
use Rattle.ec_app.specs.declared.sdo.Sdo.{Sdo}
use Rattle.ec_app.specs.declared.sdo.Sdo.TheVariants.{Upload, UploadAnswer, Download, DownloadAnswer, Abort}
use Rattle.ec_app.specs.declared.sdo.Sdo.TheVariants.{Other}
use Rattle.ec_app.specs.declared.value.Value.TheVariants.{One, Two, Four}

-- ---- an SDO

sdo_back : (sdo : Sdo) → FitsSdo sdo → IsProper sdo → sdo_of (sdo_bytes sdo) ≡ sdo
unfolding sdo_of
sdo_back (Upload index sub) fits proper = rw (from_le_bytes-to_le_bytes_2 index fits.0) refl
sdo_back (UploadAnswer index sub (One x)) fits proper = rw (from_le_bytes-to_le_bytes_2 index fits.0) refl
sdo_back (UploadAnswer index sub (Two x)) fits proper =
    rw (from_le_bytes-to_le_bytes_2 index fits.0, from_le_bytes-to_le_bytes_2 x fits.2) refl
sdo_back (UploadAnswer index sub (Four x)) fits proper =
    rw (from_le_bytes-to_le_bytes_2 index fits.0, from_le_bytes-to_le_bytes_4 x fits.2) refl
sdo_back (Download index sub (One x)) fits proper = rw (from_le_bytes-to_le_bytes_2 index fits.0) refl
sdo_back (Download index sub (Two x)) fits proper =
    rw (from_le_bytes-to_le_bytes_2 index fits.0, from_le_bytes-to_le_bytes_2 x fits.2) refl
sdo_back (Download index sub (Four x)) fits proper =
    rw (from_le_bytes-to_le_bytes_2 index fits.0, from_le_bytes-to_le_bytes_4 x fits.2) refl
sdo_back (DownloadAnswer index sub) fits proper = rw (from_le_bytes-to_le_bytes_2 index fits.0) refl
sdo_back (Abort index sub code) fits proper =
    rw (from_le_bytes-to_le_bytes_2 index fits.0, from_le_bytes-to_le_bytes_4 code fits.2) refl
sdo_back (Other bytes) fits proper = proper

eight : (sdo : Sdo) → FitsSdo sdo → length (sdo_bytes sdo) ≡ 8
eight (Upload index sub) fits = refl
eight (UploadAnswer index sub (One x)) fits = refl
eight (UploadAnswer index sub (Two x)) fits = refl
eight (UploadAnswer index sub (Four x)) fits = refl
eight (Download index sub (One x)) fits = refl
eight (Download index sub (Two x)) fits = refl
eight (Download index sub (Four x)) fits = refl
eight (DownloadAnswer index sub) fits = refl
eight (Abort index sub code) fits = refl
eight (Other bytes) fits = fits

-- ---- a mail

pub sixteen : (m : Mail) → IsMail m → length (mail_bytes m) ≡ 16
sixteen m is = omega (arith, eight m.sdo is.sdo_fits)

small_service : (m : Mail) → IsMail m → m.service ≤ 3
small_service m is =
    ⊎_elim (λ (two : m.service ≡ 2). omega arith) (λ (three : m.service ≡ 3). omega arith) is.service

-- its fields
pub read_back : (m : Mail) (rest : List ℕ) → IsMail m → mail_of (mail_bytes m ++ rest) ≡ m
read_back m rest is =
    let address : from_le_bytes w16 (to_le_bytes w16 m.address) ≡ m.address =
    from_le_bytes-to_le_bytes_2 m.address is.address in
    let number_fits = is.number in
    let service_fits : m.service ≤ 3 = small_service m is in
    let word : from_le_bytes w16 (to_le_bytes w16 (m.number + 4096 * m.service))
    ≡ m.number + 4096 * m.service =
    from_le_bytes-to_le_bytes_2 (m.number + 4096 * m.service) (omega arith) in
    let sdo : sdo_of (take 8 (sdo_bytes m.sdo ++ rest)) ≡ m.sdo =
    ap sdo_of (take_at (sdo_bytes m.sdo) rest 8 (eight m.sdo is.sdo_fits))
    ∙ sdo_back m.sdo is.sdo_fits is.sdo_proper in
    let channel : (m.channel + 64 * m.priority) % 64 ≡ m.channel = omega (arith, is.channel) in
    let priority : (m.channel + 64 * m.priority) / 64 ≡ m.priority = omega (arith, is.channel) in
    let counter : (3 + 16 * m.counter) / 16 % 8 ≡ m.counter = omega (arith, is.last_counter) in
    let number : (m.number + 4096 * m.service) % 512 ≡ m.number = omega arith in
    let service : (m.number + 4096 * m.service) / 4096 ≡ m.service = omega arith in
    rw (address, channel, priority, counter, word, number, service, sdo) refl

-- ---- it has no fault

passes : (test : Bool) (fault : MailFault) (others : Option MailFault) → test ≡ false → others ≡ None
    → cond test (Some fault) others ≡ None
passes test fault others h e = rw h e

one_of_two : (n : ℕ) → (n ≡ 2) ⊎ (n ≡ 3) → not (eqb n 2 || eqb n 3) ≡ false
one_of_two n h = ⊎_elim (λ (two : n ≡ 2). rw two refl) (λ (three : n ≡ 3). rw three refl) h

pub no_fault : (m : Mail) (rest : List ℕ) → IsMail m → mail_fault (mail_bytes m ++ rest) ≡ None
unfolding mail_fault
no_fault m rest is =
    let bytes : List ℕ = mail_bytes m ++ rest in
    let number_fits = is.number in
    let service_fits : m.service ≤ 3 = small_service m is in
    let word : coe_word bytes ≡ m.number + 4096 * m.service =
    from_le_bytes-to_le_bytes_2 (m.number + 4096 * m.service) (omega arith) in
    let service : service_of bytes ≡ m.service = omega arith in
    let bit : type_byte bytes / 16 / 8 ≡ 0 = omega (arith, is.last_counter) in
    let kind : type_byte bytes % 16 ≡ 3 = omega arith in
    let counter : counter_of bytes ≡ m.counter = omega (arith, is.last_counter) in
    let first_counter = is.first_counter in
    let room : 16 ≤ length bytes =
    omega (arith, eight m.sdo is.sdo_fits, length-append (sdo_bytes m.sdo) rest) in
    let reserved : coe_word bytes / 512 % 8 ≡ 0 = omega arith in
    let t1 : ltb (length bytes) 6 ≡ false = grind (arith, nat_tests) in
    let t2 : not (eqb (type_byte bytes / 16 / 8) 0) ≡ false = rw bit refl in
    let t3 : not (eqb (type_byte bytes % 16) 3) ≡ false = rw kind refl in
    let t4 : eqb (counter_of bytes) 0 ≡ false = grind (arith, nat_tests) in
    let t6 : ltb (length bytes) 16 ≡ false = grind (arith, nat_tests) in
    let t7 : not (eqb (coe_word bytes / 512 % 8) 0) ≡ false = rw reserved refl in
    let t8 : not (eqb (service_of bytes) 2 || eqb (service_of bytes) 3) ≡ false =
    one_of_two (service_of bytes)
    (⊎_elim (λ (two : m.service ≡ 2). inl (service ∙ two)) (λ (three : m.service ≡ 3). inr (service ∙ three))
    is.service) in
    passes _ _ _ t1
    (passes _ _ _ t2
    (passes _ _ _ t3
    (passes _ _ _ t4 (passes _ _ _ t6 (passes _ _ _ t7 (passes _ _ _ t8 refl))))))
