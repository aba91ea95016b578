-- Mails and their bytes: bytes without a fault are a mail's, and a mail's bytes have no fault and give it
-- back.
use Rattle.std.proofs.Common.{◌≡◌, ◌⊎◌, ℕ, ◌+◌, ◌*◌, ◌/◌, ◌%◌, ◌^◌, ◌<◌, ◌≤◌, Bool, true, false, not, eqb}
use Rattle.std.proofs.Common.{ltb, ◌||◌, cond, Option, None, Some, Result, Ok, Err, IfOk, IfErr, List, []}
use Rattle.std.proofs.Common.{◌∷◌, ◌++◌, length, get_or, take, drop, map, sym, ◌∙◌, ap, subst, refl, arith}
use Rattle.std.proofs.Common.{inl, inr, ⊎_elim}
use Rattle.std.specs.Int.{w16, to_le_bytes, from_le_bytes}
use Rattle.std.specs.List.{range_with_len}
use Rattle.std.proofs.lemmas.Bool.Decides.{nat_tests}
use Rattle.std.proofs.lemmas.List.{take_at, drop_at, take-append-drop, length-take, length-take-le}
use Rattle.std.proofs.lemmas.List.{length-drop, length-append, get_or-take, get_or-drop, get_or_past}
use Rattle.std.proofs.lemmas.List.FromFn.{fill_by_all}
use Rattle.std.proofs.lemmas.Bool.{cases_lt}
use Rattle.std.proofs.lemmas.Nat.{le_bytes_2, from_le_bytes-to_le_bytes_2}
use Rattle.ec_app.specs.Sdo.{sdo_of, sdo_bytes, FitsSdo, IsProper}
use Rattle.ec_app.specs.Mail.{mail_bytes, mail_of, mail_fault, fault_for, type_byte, counter_of, stated_length}
use Rattle.ec_app.specs.Mail.{coe_word}
use Rattle.ec_app.specs.Mail.{service_of, sent, IsMail, BeginsWith}
use Rattle.ec_app.specs.declared.mail.Mail.{Mail}
use Rattle.ec_app.specs.declared.mail.MailFault.{MailFault}
use Rattle.ec_app.proofs.SdoLemmas.{two_bytes, sdo_of-sdo_bytes, sdo_bytes-sdo_of, IsProper-sdo_of}
use Rattle.ec_app.proofs.SdoLemmas.{FitsSdo-sdo_of, length-sdo_bytes}

-- ---- what a mail's bytes say

-- what the tests of a mail ask, where none of them holds
record IsFaultless (bytes : List ℕ) : Type 0 where
  bit : type_byte bytes / 16 / 8 ≡ 0
  type_is : type_byte bytes % 16 ≡ 3
  counter : 1 ≤ counter_of bytes
  stated : stated_length bytes ≡ 10
  room : 16 ≤ length bytes
  reserved : coe_word bytes / 512 % 8 ≡ 0
  service : (service_of bytes ≡ 2) ⊎ (service_of bytes ≡ 3)

-- a first test that does not hold leaves the rest to the others
passed : (test : Bool) (fault : MailFault) (others : Option MailFault) → cond test (Some fault) others ≡ None
    → (test ≡ false) × (others ≡ None)
passed true fault others h = absurd (cc)
passed false fault others h = (refl, h)

-- and where it and they find nothing, nothing is found
passes : (test : Bool) (fault : MailFault) (others : Option MailFault) → test ≡ false → others ≡ None
    → cond test (Some fault) others ≡ None
passes test fault others h e = rw h e

-- a number that is one of two, by test
one_of_two : (n : ℕ) → not (eqb n 2 || eqb n 3) ≡ false → (n ≡ 2) ⊎ (n ≡ 3)
one_of_two n h = grind (arith, nat_tests)

-- a test that asks for another number does not hold
is_by_test : (n m : ℕ) → not (eqb n m) ≡ false → n ≡ m
is_by_test n m h = grind (arith, nat_tests)

-- and a number that is one of two passes the test
by_one_of_two : (n : ℕ) → (n ≡ 2) ⊎ (n ≡ 3) → not (eqb n 2 || eqb n 3) ≡ false
by_one_of_two n h = ⊎_elim (λ (two : n ≡ 2). rw two refl) (λ (three : n ≡ 3). rw three refl) h

-- a number that is not 0, by test
is_positive : (n : ℕ) → eqb n 0 ≡ false → 1 ≤ n
is_positive n h = grind (arith, nat_tests)

-- a number that is not below another, by test
is_not_below : (n m : ℕ) → ltb n m ≡ false → m ≤ n
is_not_below n m h = grind (arith, nat_tests)

-- the bytes without a fault are faultless
IsFaultless-mail_fault : (bytes : List ℕ) → mail_fault bytes ≡ None → IsFaultless bytes
unfolding mail_fault
IsFaultless-mail_fault bytes none =
    let t1 = passed (ltb (length bytes) 6) _ _ none in
    let t2 = passed (not (eqb (type_byte bytes / 16 / 8) 0)) _ _ t1.1 in
    let t3 = passed (not (eqb (type_byte bytes % 16) 3)) _ _ t2.1 in
    let t4 = passed (eqb (counter_of bytes) 0) _ _ t3.1 in
    let t5 = passed (not (eqb (stated_length bytes) 10)) _ _ t4.1 in
    let t6 = passed (ltb (length bytes) 16) _ _ t5.1 in
    let t7 = passed (not (eqb (coe_word bytes / 512 % 8) 0)) _ _ t6.1 in
    let t8 = passed (not (eqb (service_of bytes) 2 || eqb (service_of bytes) 3)) _ _ t7.1 in
    record {
      bit = is_by_test (type_byte bytes / 16 / 8) 0 t2.0;
      type_is = is_by_test (type_byte bytes % 16) 3 t3.0;
      counter = is_positive (counter_of bytes) t4.0;
      stated = is_by_test (stated_length bytes) 10 t5.0;
      room = is_not_below (length bytes) 16 t6.0;
      reserved = is_by_test (coe_word bytes / 512 % 8) 0 t7.0;
      service = one_of_two (service_of bytes) t8.0;
    }

-- and they have none for a device
pub no_fault_for : (device : Bool) (bytes : List ℕ) → mail_fault bytes ≡ None → fault_for device bytes ≡ None
unfolding mail_fault fault_for
no_fault_for false bytes none = none
no_fault_for true bytes none =
    let t1 = passed (ltb (length bytes) 6) _ _ none in
    let t2 = passed (not (eqb (type_byte bytes / 16 / 8) 0)) _ _ t1.1 in
    let t3 = passed (not (eqb (type_byte bytes % 16) 3)) _ _ t2.1 in
    let t4 = passed (eqb (counter_of bytes) 0) _ _ t3.1 in
    let t5 = passed (not (eqb (stated_length bytes) 10)) _ _ t4.1 in
    passes _ _ _ t1.0 (passes _ _ _ t2.0 (passes _ _ _ t3.0 (passes _ _ _ t5.0 t5.1)))

-- and faultless bytes are without a fault
mail_fault-IsFaultless : (bytes : List ℕ) → IsFaultless bytes → mail_fault bytes ≡ None
unfolding mail_fault
mail_fault-IsFaultless bytes fine =
    let bit = fine.bit in
    let type_is = fine.type_is in
    let counter = fine.counter in
    let stated = fine.stated in
    let room = fine.room in
    let reserved = fine.reserved in
    let t1 : ltb (length bytes) 6 ≡ false = grind (arith, nat_tests) in
    let t2 : not (eqb (type_byte bytes / 16 / 8) 0) ≡ false = rw bit refl in
    let t3 : not (eqb (type_byte bytes % 16) 3) ≡ false = rw type_is refl in
    let t4 : eqb (counter_of bytes) 0 ≡ false = grind (arith, nat_tests) in
    let t5 : not (eqb (stated_length bytes) 10) ≡ false = rw stated refl in
    let t6 : ltb (length bytes) 16 ≡ false = grind (arith, nat_tests) in
    let t7 : not (eqb (coe_word bytes / 512 % 8) 0) ≡ false = rw reserved refl in
    let t8 : not (eqb (service_of bytes) 2 || eqb (service_of bytes) 3) ≡ false =
    by_one_of_two (service_of bytes) fine.service in
    passes _ _ _ t1
    (passes _ _ _ t2
    (passes _ _ _ t3
    (passes _ _ _ t4 (passes _ _ _ t5 (passes _ _ _ t6 (passes _ _ _ t7 (passes _ _ _ t8 refl)))))))

-- ---- from bytes to the mail and back

-- the first n of some bytes are bytes
bytes-take : (n : ℕ) (bs : List ℕ) → ((i : ℕ) → get_or bs i 0 < 256) → (i : ℕ) → get_or (take n bs) i 0 < 256
bytes-take n bs fits i =
    ⊎_elim
    (λ (inside : i < n). rw (get_or-take n bs i 0 inside) (fits i))
    (λ (past : n ≤ i). rw (get_or_past (take n bs) i 0 (omega (arith, length-take n bs))) (omega arith))
    (cases_lt i n)

-- and so are those after them
bytes-drop : (n : ℕ) (bs : List ℕ) → ((i : ℕ) → get_or bs i 0 < 256) → (i : ℕ) → get_or (drop n bs) i 0 < 256
bytes-drop n bs fits i = rw (get_or-drop n bs i 0) (fits (n + i))

-- at least eight elements, and the rest
eight_first : (bs : List ℕ) → 8 ≤ length bs
    → bs ≡ get_or bs 0 0 ∷ get_or bs 1 0 ∷ get_or bs 2 0 ∷ get_or bs 3 0 ∷ get_or bs 4 0 ∷ get_or bs 5 0
    ∷ get_or bs 6 0 ∷ get_or bs 7 0 ∷ drop 8 bs
eight_first bs room =
    let elements : take 8 bs ≡ map (λ k. get_or bs k 0) (range_with_len 0 8) =
    fill_by_all (λ k. get_or bs k 0) (take 8 bs) 8 0 (length-take-le 8 bs room)
    (λ k below. get_or-take 8 bs k 0 below) in
    sym (take-append-drop 8 bs) ∙ ap (λ xs. xs ++ drop 8 bs) elements

-- the bytes of a header's fields, and eight of an SDO, are the bytes of the mail with those fields
mail_bytes-mail_of_parts : (a b c d e f g h : ℕ) (rest : List ℕ)
    → ((i : ℕ) → get_or (a ∷ b ∷ c ∷ d ∷ e ∷ f ∷ g ∷ h ∷ rest) i 0 < 256)
    → IsFaultless (a ∷ b ∷ c ∷ d ∷ e ∷ f ∷ g ∷ h ∷ rest)
    → take 16 (a ∷ b ∷ c ∷ d ∷ e ∷ f ∷ g ∷ h ∷ rest)
    ≡ mail_bytes (mail_of (a ∷ b ∷ c ∷ d ∷ e ∷ f ∷ g ∷ h ∷ rest))
mail_bytes-mail_of_parts a b c d e f g h rest fits fine =
    let bs : List ℕ = a ∷ b ∷ c ∷ d ∷ e ∷ f ∷ g ∷ h ∷ rest in
    let m : Mail = mail_of bs in
    let stated : to_le_bytes w16 10 ≡ a ∷ b ∷ [] =
    le_bytes_2 (a ∷ b ∷ []) 10 refl (two_bytes a b (fits 0) (fits 1)) (sym fine.stated) in
    let address : to_le_bytes w16 m.address ≡ c ∷ d ∷ [] =
    le_bytes_2 (c ∷ d ∷ []) m.address refl (two_bytes c d (fits 2) (fits 3)) refl in
    let channel : m.channel + 64 * m.priority ≡ e = omega arith in
    let counter : 3 + 16 * m.counter ≡ f = omega (arith, fits 5) in
    let word : m.number + 4096 * m.service ≡ coe_word bs = omega arith in
    let coe_bytes : to_le_bytes w16 (m.number + 4096 * m.service) ≡ g ∷ h ∷ [] =
    le_bytes_2 (g ∷ h ∷ []) (m.number + 4096 * m.service) refl (two_bytes g h (fits 6) (fits 7)) word in
    let room : 8 ≤ length rest = omega arith in
    let sdo : sdo_bytes m.sdo ≡ take 8 rest =
    sdo_bytes-sdo_of (take 8 rest) (length-take-le 8 rest room) (bytes-take 8 rest (bytes-drop 8 bs fits)) in
    let header : take 16 bs ≡ a ∷ b ∷ c ∷ d ∷ e ∷ f ∷ g ∷ h ∷ take 8 rest = refl in
    cc

-- the bytes of a mail are those of its fields
mail_bytes-mail_of : (bs : List ℕ) → ((i : ℕ) → get_or bs i 0 < 256) → IsFaultless bs
    → take 16 bs ≡ mail_bytes (mail_of bs)
mail_bytes-mail_of bs fits fine =
    let P : List ℕ → Type 0 = λ xs. ((i : ℕ) → get_or xs i 0 < 256) → IsFaultless xs
    → take 16 xs ≡ mail_bytes (mail_of xs) in
    let room = fine.room in
    let elements = eight_first bs (omega arith) in
    subst P (sym elements)
    (mail_bytes-mail_of_parts (get_or bs 0 0) (get_or bs 1 0) (get_or bs 2 0) (get_or bs 3 0) (get_or bs 4 0)
    (get_or bs 5 0) (get_or bs 6 0) (get_or bs 7 0) (drop 8 bs))
    fits fine

-- and they are in their ranges
IsMail-mail_of : (bs : List ℕ) → ((i : ℕ) → get_or bs i 0 < 256) → IsFaultless bs → IsMail (mail_of bs)
IsMail-mail_of bs fits fine =
    let two_fit : (at : ℕ) → from_le_bytes w16 (drop at bs) < 2 ^ 16 =
    λ at. omega (arith, get_or-drop at bs 0 0, get_or-drop at bs 1 0, fits at, fits (at + 1)) in
    let room = fine.room in
    let sdo_len : length (take 8 (drop 8 bs)) ≡ 8 =
    length-take-le 8 (drop 8 bs) (omega (arith, length-drop 8 bs)) in
    record {
      address = two_fit 2;
      channel = omega arith;
      priority = omega (arith, fits 4);
      first_counter = fine.counter;
      last_counter = omega arith;
      number = omega arith;
      service = fine.service;
      sdo_fits = FitsSdo-sdo_of (take 8 (drop 8 bs)) sdo_len
          (bytes-take 8 (drop 8 bs) (bytes-drop 8 bs fits));
      sdo_proper = IsProper-sdo_of (take 8 (drop 8 bs));
    }

-- so bytes without a fault begin with the mail of their fields
pub BeginsWith-mail_of : (bs : List ℕ) → ((i : ℕ) → get_or bs i 0 < 256) → mail_fault bs ≡ None
    → BeginsWith bs (mail_of bs)
BeginsWith-mail_of bs fits none =
    let fine : IsFaultless bs = IsFaultless-mail_fault bs none in
    record { spelling = mail_bytes-mail_of bs fits fine; mail = IsMail-mail_of bs fits fine }

-- ---- from the mail to bytes and back

-- a mail is spelt in sixteen bytes
length-mail_bytes : (m : Mail) → IsMail m → length (mail_bytes m) ≡ 16
length-mail_bytes m is = omega (arith, length-sdo_bytes m.sdo is.sdo_fits)

-- the fields of a mail's bytes, whatever follows them, are the mail
pub mail_of-mail_bytes : (m : Mail) (rest : List ℕ) → IsMail m → mail_of (mail_bytes m ++ rest) ≡ m
mail_of-mail_bytes m rest is =
    let address : from_le_bytes w16 (to_le_bytes w16 m.address) ≡ m.address =
    from_le_bytes-to_le_bytes_2 m.address is.address in
    let number_fits = is.number in
    let service_fits : m.service ≤ 3 =
    ⊎_elim (λ (two : m.service ≡ 2). omega arith) (λ (three : m.service ≡ 3). omega arith) is.service in
    let word : from_le_bytes w16 (to_le_bytes w16 (m.number + 4096 * m.service))
    ≡ m.number + 4096 * m.service =
    from_le_bytes-to_le_bytes_2 (m.number + 4096 * m.service) (omega arith) in
    let sdo : sdo_of (take 8 (sdo_bytes m.sdo ++ rest)) ≡ m.sdo =
    ap sdo_of (take_at (sdo_bytes m.sdo) rest 8 (length-sdo_bytes m.sdo is.sdo_fits))
    ∙ sdo_of-sdo_bytes m.sdo is.sdo_fits is.sdo_proper in
    let channel : (m.channel + 64 * m.priority) % 64 ≡ m.channel = omega (arith, is.channel) in
    let priority : (m.channel + 64 * m.priority) / 64 ≡ m.priority = omega (arith, is.channel) in
    let counter : (3 + 16 * m.counter) / 16 % 8 ≡ m.counter = omega (arith, is.last_counter) in
    let number : (m.number + 4096 * m.service) % 512 ≡ m.number = omega arith in
    let service : (m.number + 4096 * m.service) / 4096 ≡ m.service = omega arith in
    rw (address, channel, priority, counter, word, number, service, sdo) refl

-- a mail's bytes are faultless, whatever follows them
IsFaultless-mail_bytes : (m : Mail) (rest : List ℕ) → IsMail m → IsFaultless (mail_bytes m ++ rest)
IsFaultless-mail_bytes m rest is =
    let number_fits = is.number in
    let service_fits : m.service ≤ 3 =
    ⊎_elim (λ (two : m.service ≡ 2). omega arith) (λ (three : m.service ≡ 3). omega arith) is.service in
    let word : coe_word (mail_bytes m ++ rest) ≡ m.number + 4096 * m.service =
    from_le_bytes-to_le_bytes_2 (m.number + 4096 * m.service) (omega arith) in
    let service : service_of (mail_bytes m ++ rest) ≡ m.service = omega arith in
    let counter : counter_of (mail_bytes m ++ rest) ≡ m.counter = omega (arith, is.last_counter) in
    record {
      bit = omega (arith, is.last_counter);
      type_is = omega arith;
      counter = omega (arith, is.first_counter);
      stated = refl;
      room = omega (arith, length-sdo_bytes m.sdo is.sdo_fits, length-append (sdo_bytes m.sdo) rest);
      reserved = omega arith;
      service = ⊎_elim (λ (two : m.service ≡ 2). inl (service ∙ two))
          (λ (three : m.service ≡ 3). inr (service ∙ three)) is.service;
    }

-- so they have no fault
pub mail_fault-mail_bytes : (m : Mail) (rest : List ℕ) → IsMail m → mail_fault (mail_bytes m ++ rest) ≡ None
mail_fault-mail_bytes m rest is =
    mail_fault-IsFaultless (mail_bytes m ++ rest) (IsFaultless-mail_bytes m rest is)

-- a mail as it is sent begins its bytes, whatever follows them
pub BeginsWith-sent : (m : Mail) (rest : List ℕ) → 1 ≤ m.counter → m.counter ≤ 7
    → (m.service ≡ 2) ⊎ (m.service ≡ 3) → FitsSdo m.sdo
    → IsProper m.sdo → BeginsWith (mail_bytes (sent m) ++ rest) (sent m)
BeginsWith-sent m rest first last service fits proper =
    let is : IsMail (sent m) = record {
      address = omega arith;
      channel = omega arith;
      priority = omega arith;
      first_counter = first;
      last_counter = last;
      number = omega arith;
      service = service;
      sdo_fits = fits;
      sdo_proper = proper;
    } in
    record { spelling = take_at (mail_bytes (sent m)) rest 16 (length-mail_bytes (sent m) is); mail = is }

-- ---- one spelling

-- mails whose bytes begin the same bytes are one, and so is what follows them
pub mail_bytes_begin : (m n : Mail) (x y : List ℕ) → IsMail m → IsMail n
    → mail_bytes m ++ x ≡ mail_bytes n ++ y → (m ≡ n) × (x ≡ y)
mail_bytes_begin m n x y m_is n_is e =
    let same : m ≡ n = sym (mail_of-mail_bytes m x m_is) ∙ ap mail_of e ∙ mail_of-mail_bytes n y n_is in
    let rest : x ≡ y =
    sym (drop_at (mail_bytes m) x 16 (length-mail_bytes m m_is)) ∙ ap (λ xs. drop 16 xs) e
    ∙ drop_at (mail_bytes n) y 16 (length-mail_bytes n n_is) in
    (same, rest)

-- bytes that begin with one mail and are another's and padding are of one mail
pub BeginsWith_only : (bs : List ℕ) (m n : Mail) (rest : List ℕ) → BeginsWith bs m → IsMail n
    → bs ≡ mail_bytes n ++ rest → m ≡ n
BeginsWith_only bs m n rest begins n_is e =
    let split : mail_bytes m ++ drop 16 bs ≡ mail_bytes n ++ rest =
    ap (λ xs. xs ++ drop 16 bs) (sym begins.spelling) ∙ take-append-drop 16 bs ∙ e in
    (mail_bytes_begin m n (drop 16 bs) rest begins.mail n_is split).0

-- so what is found in a mail's bytes is that mail
pub found_in-mail_bytes : (bs : List ℕ) (found : Result Mail MailFault) → IfOk found (BeginsWith bs)
    → IfErr found (λ fault. mail_fault bs ≡ Some fault) → (m : Mail) (rest : List ℕ) → IsMail m
    → bs ≡ mail_bytes m ++ rest
    → found ≡ Ok m
found_in-mail_bytes bs (Ok n) begins fails m rest is e = ap Ok (BeginsWith_only bs n m rest begins is e)
found_in-mail_bytes bs (Err fault) begins fails m rest is e =
    let none : mail_fault bs ≡ None = ap mail_fault e ∙ mail_fault-mail_bytes m rest is in
    absurd (cc)

-- the fields of bytes that begin with a mail are that mail
pub mail_of-BeginsWith : (bs : List ℕ) (m : Mail) → BeginsWith bs m → mail_of bs ≡ m
mail_of-BeginsWith bs m begins =
    ap mail_of (sym (take-append-drop 16 bs) ∙ ap (λ (xs : List ℕ). xs ++ drop 16 bs) begins.spelling)
    ∙ mail_of-mail_bytes m (drop 16 bs) begins.mail
