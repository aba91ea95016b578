-- Bytes have one value or one first fault: no spelling begins another, and a fault stands where no
-- datagram is spelt.
use Rattle.std.proofs.Common.{◌≡◌, ℕ, ◌+◌, ◌*◌, ◌/◌, ◌%◌, ◌<◌, ◌^◌, ◌==◌, ◌&&◌, ◌⊎◌, Bool, true, false, not}
use Rattle.std.proofs.Common.{nat_lt, Some, None, List, [], ◌∷◌, ◌++◌, length, take, drop, get_or, refl, sym}
use Rattle.std.proofs.Common.{ap, ◌∙◌, subst, inl, inr, arith}
use Rattle.std.specs.Prelude.{All, Result, Ok, Err, IsErr, IfErr, OnOk}
use Rattle.std.specs.Int.{w16, from_le_bytes}
use Rattle.std.proofs.lemmas.Bool.{true≢false, false≢true}
use Rattle.std.proofs.lemmas.Bool.Decides.{nat_tests}
use Rattle.std.proofs.lemmas.List.{append_assoc, append-nil, append_cancel_left, length-append, take_at}
use Rattle.std.specs.Prelude.{if◌then◌else◌}
use Rattle.std.proofs.lemmas.List.Concat.{flat_map-cons}
use Rattle.std.proofs.lemmas.List.Elements.{All-head, All-tail, All-cons, All-nil}
use Rattle.std.proofs.lemmas.Nat.{from_le_bytes-to_le_bytes_2}
use Rattle.ec_wire.specs.Datagram.{DatagramRecord, Fits, code_of}
use Rattle.ec_wire.specs.Decoding.{length_field, data_length, says_more, record_at}
use Rattle.ec_wire.specs.Spelling.{datagram, is_nil, body, body_length, front, spelling, IsFrameValue}
use Rattle.ec_wire.specs.Fault.{header_tests, stated_length, frame_end, header_fault, datagram_tests}
use Rattle.ec_wire.specs.Fault.{datagram_fault, FailsWithin, IsSpelt, IsSpeltBefore, MayStandBehind}
use Rattle.ec_wire.specs.Fault.{IsFirstFault, AreSpelt}
use Rattle.ec_wire.specs.Frame.{starts_from, records_at}
use Rattle.ec_wire.specs.declared.fault.Form.{Form}
use Rattle.ec_wire.specs.declared.fault.Form.TheVariants.{Ethernet, Udp}
use Rattle.ec_wire.specs.declared.fault.WireFault.{WireFault}
use Rattle.ec_wire.specs.declared.layout.TheConstants.{MAX_LENGTH}
use Rattle.ec_wire.proofs.DatagramLemmas.{record_at-datagram, says_more-datagram, data_length-datagram}
use Rattle.ec_wire.proofs.DatagramLemmas.{length_field-datagram, code_of-lt}
use Rattle.ec_wire.proofs.SpellingLemmas.{body_length-cons, length-datagram, length-spelling}
use Rattle.ec_wire.proofs.FrameLemmas.{twelve_each}
use Rattle.ec_wire.proofs.WriteLemmas.{body-push}
use Rattle.ec_wire.proofs.ReadLemmas.{first_of-NoneHolds}

-- two datagrams that begin the same bytes are one, say the same of what follows, and the same follows
same_datagram : (m n : Bool) (r s : DatagramRecord) (x y : List ℕ) → Fits r → Fits s
    → datagram m r ++ x ≡ datagram n s ++ y → (r ≡ s) × (m ≡ n) × (x ≡ y)
same_datagram m n r s x y fr fs e =
    let same : r ≡ s = sym (record_at-datagram m r x fr) ∙ ap record_at e ∙ record_at-datagram n s y fs in
    let more : m ≡ n = sym (says_more-datagram m r x fr) ∙ ap says_more e ∙ says_more-datagram n s y fs in
    let bytes : datagram n s ++ x ≡ datagram n s ++ y = ap (λ b. datagram b s ++ x) (sym more)
    ∙ ap (λ q. datagram m q ++ x) (sym same) ∙ e in
    (same, more, append_cancel_left (datagram n s) x y bytes)

-- no body begins another
one_body : (rs ss : List DatagramRecord) (x y : List ℕ) → is_nil rs ≡ false → is_nil ss ≡ false → All Fits rs
    → All Fits ss → body rs ++ x ≡ body ss ++ y → (rs ≡ ss) × (x ≡ y)
one_body [] ss x y a b fr fs e = absurd (true≢false a)
one_body (r ∷ rs) [] x y a b fr fs e = absurd (true≢false b)
one_body (r ∷ []) (s ∷ []) x y a b fr fs e =
    let both = same_datagram false false r s ([] ++ x) ([] ++ y) (All-head Fits r [] fr)
    (All-head Fits s [] fs)
    (sym (append_assoc (datagram false r) [] x) ∙ e ∙ append_assoc (datagram false s) [] y) in
    (ap (λ q. q ∷ []) both.0, both.2)
one_body (r ∷ []) (s ∷ t ∷ ss) x y a b fr fs e =
    let both = same_datagram false true r s ([] ++ x) (body (t ∷ ss) ++ y) (All-head Fits r [] fr)
    (All-head Fits s (t ∷ ss) fs)
    (sym (append_assoc (datagram false r) [] x) ∙ e ∙ append_assoc (datagram true s) (body (t ∷ ss)) y) in
    absurd (false≢true both.1)
one_body (r ∷ q ∷ rs) (s ∷ []) x y a b fr fs e =
    let both = same_datagram true false r s (body (q ∷ rs) ++ x) ([] ++ y) (All-head Fits r (q ∷ rs) fr)
    (All-head Fits s [] fs) (sym (append_assoc (datagram true r) (body (q ∷ rs)) x) ∙ e
    ∙ append_assoc (datagram false s) [] y) in
    absurd (true≢false both.1)
one_body (r ∷ q ∷ rs) (s ∷ t ∷ ss) x y a b fr fs e =
    let both = same_datagram true true r s (body (q ∷ rs) ++ x) (body (t ∷ ss) ++ y)
    (All-head Fits r (q ∷ rs) fr) (All-head Fits s (t ∷ ss) fs)
    (sym (append_assoc (datagram true r) (body (q ∷ rs)) x) ∙ e
    ∙ append_assoc (datagram true s) (body (t ∷ ss)) y) in
    let again = one_body (q ∷ rs) (t ∷ ss) x y refl refl (All-tail Fits r (q ∷ rs) fr)
    (All-tail Fits s (t ∷ ss) fs) both.2 in
    (ap (λ h. h ∷ q ∷ rs) both.0 ∙ ap (λ l. s ∷ l) again.0, again.1)

-- No spelling begins another, and a value has one spelling.
pub one_spelling : (rs ss : List DatagramRecord) (x y : List ℕ) → IsFrameValue rs → IsFrameValue ss
    → spelling rs ++ x ≡ spelling ss ++ y → (rs ≡ ss) × (x ≡ y)
unfolding spelling
one_spelling rs ss x y vr vs e =
    one_body rs ss x y vr.some vs.some vr.fits vs.fits
    (sym (append_assoc [] (body rs) x) ∙ ap (drop 2) e ∙ append_assoc [] (body ss) y)

-- A datagram that is spelt well is not at fault, where what follows is as it says.
pub datagram_fault-spelt : (at : ℕ) (more : Bool) (r : DatagramRecord) (rest : List ℕ) → Fits r
    → (more ≡ true → 0 < length rest) → (more ≡ false → rest ≡ [])
    → datagram_fault at (datagram more r ++ rest) ≡ None
unfolding datagram_fault datagram
datagram_fault-spelt at more r rest fits on off =
    let bytes = datagram more r ++ rest in
    let long : length bytes ≡ 12 + length r.payload + length rest = length-append (datagram more r) rest
    ∙ ap (λ n. n + length rest) (length-datagram more r) in
    let data_is : data_length bytes ≡ length r.payload = data_length-datagram more r rest fits in
    let more_is : says_more bytes ≡ more = says_more-datagram more r rest fits in
    let code_is : get_or bytes 0 0 ≡ code_of r.command = first more r rest in
    let code = code_of-lt r.command in
    let reserved : length_field bytes / 2048 % 8 ≡ 0 =
    ap (λ n. n / 2048 % 8) (length_field-datagram more r rest fits)
    ∙ no_reserved more r.circulating (length r.payload) fits.payload in
    let ends = ends_right more (length r.payload) (length rest) (length bytes) (data_length bytes)
    (says_more bytes) long data_is more_is on (λ m. ap length (off m)) in
    let t1 : nat_lt (length bytes) 12 ≡ false = grind (arith, nat_tests) in
    let t2 : nat_lt 14 (get_or bytes 0 0) ≡ false = grind (arith, nat_tests) in
    let t3 : not (length_field bytes / 2048 % 8 == 0) ≡ false = ap (λ n. not (n == 0)) reserved in
    let t4 : nat_lt (length bytes) (12 + data_length bytes) ≡ false = grind (arith, nat_tests) in
    first_of-NoneHolds (datagram_tests at bytes) (t1, (t2, (t3, (t4, (ends.0, (ends.1, tt))))))
  where
    first : (m : Bool) (q : DatagramRecord) (xs : List ℕ)
        → get_or (datagram m q ++ xs) 0 0 ≡ code_of q.command
    first m q xs = refl

    no_reserved : (m c : Bool) (n : ℕ) → n < 2 ^ 11
        → (n + 16384 * (if c then 1 else 0) + 32768 * (if m then 1 else 0)) / 2048 % 8 ≡ 0
    no_reserved true true n h = omega arith
    no_reserved true false n h = omega arith
    no_reserved false true n h = omega arith
    no_reserved false false n h = omega arith

    ends_right : (m : Bool) (n k l d : ℕ) (s : Bool) → l ≡ 12 + n + k → d ≡ n → s ≡ m → (m ≡ true → 0 < k)
        → (m ≡ false → k ≡ 0) → ((s && (12 + d == l)) ≡ false) × ((not s && nat_lt (12 + d) l) ≡ false)
    ends_right true n k l d s e f g a b = let positive = a refl in
        (grind (arith, nat_tests), grind (arith, nat_tests))
    ends_right false n k l d s e f g a b = let none = b refl in
        (grind (arith, nat_tests), grind (arith, nat_tests))

-- One run of datagrams that say that more follow goes on where the other ends.
record Longer (rs ss : List DatagramRecord) (x y : List ℕ) : Type 0 where
  rest : List DatagramRecord
  longer : ss ≡ rs ++ rest
  fits : All Fits rest
  follows : x ≡ front rest ++ y

-- of two such runs that begin the same bytes, one goes on where the other ends
one_front : (rs ss : List DatagramRecord) (x y : List ℕ) → All Fits rs → All Fits ss
    → front rs ++ x ≡ front ss ++ y → Longer rs ss x y ⊎ Longer ss rs y x
one_front [] ss x y fr fs e = inl (record { rest = ss; longer = refl; fits = fs; follows = e })
one_front (r ∷ rs) [] x y fr fs e = inr (record { rest = r ∷ rs; longer = refl; fits = fr; follows = sym e })
one_front (r ∷ rs) (s ∷ ss) x y fr fs e =
    let both = same_datagram true true r s (front rs ++ x) (front ss ++ y) (All-head Fits r rs fr)
    (All-head Fits s ss fs)
    (sym (append_assoc (datagram true r) (front rs) x)
    ∙ ap (λ l. l ++ x) (sym (flat_map-cons (datagram true) r rs)) ∙ e
    ∙ ap (λ l. l ++ y) (flat_map-cons (datagram true) s ss)
    ∙ append_assoc (datagram true s) (front ss) y) in
    elim (one_front rs ss x y (All-tail Fits r rs fr) (All-tail Fits s ss fs) both.2) [
      | inl l ↦ inl
          (record {
            rest = l.rest;
            longer = ap (λ q. q ∷ ss) (sym both.0) ∙ ap (λ qs. r ∷ qs) l.longer;
            fits = l.fits;
            follows = l.follows;
          })
      | inr l ↦ inr
          (record {
            rest = l.rest;
            longer = ap (λ q. q ∷ rs) both.0 ∙ ap (λ qs. s ∷ qs) l.longer;
            fits = l.fits;
            follows = l.follows;
          })
    ]

-- no fault stands where a datagram is spelt and more follow
no_fault_before : (at : ℕ) (d : List DatagramRecord) (x y : List ℕ) (f : WireFault) → All Fits d
    → 0 < length y → x ≡ front d ++ y → datagram_fault at x ≡ Some f → d ≡ []
no_fault_before at [] x y f fits some e fails = refl
no_fault_before at (r ∷ d) x y f fits some e fails =
    let long : 0 < length (front d ++ y) = omega (arith, length-append (front d) y) in
    let none = datagram_fault-spelt at true r (front d ++ y) (All-head Fits r d fits) (λ _. long)
    (λ h. absurd (true≢false h)) in
    let bytes : x ≡ datagram true r ++ (front d ++ y) =
    e ∙ ap (λ l. l ++ y) (flat_map-cons (datagram true) r d) ∙ append_assoc (datagram true r) (front d) y in
    let bad : Some f ≡ None = sym fails ∙ ap (datagram_fault at) bytes ∙ none in
    cc

-- A frame is at fault in one way.
pub one_fault_within : (frame : List ℕ) (f g : WireFault) → FailsWithin frame f → FailsWithin frame g → f ≡ g
one_fault_within frame f g a b =
    elim (one_front a.0 b.0 a.1 b.1 a.2.fits b.2.fits (sym a.2.split ∙ b.2.split)) [
      | inl l ↦ same a.0 b.0 a.1 b.1 f g l b.2.more a.2.fails b.2.fails
      | inr l ↦ sym (same b.0 a.0 b.1 a.1 g f l a.2.more b.2.fails a.2.fails)
    ]
  where
    same : (rs ss : List DatagramRecord) (x y : List ℕ) (h k : WireFault) → Longer rs ss x y → 0 < length y
        → datagram_fault (2 + length (front rs)) x ≡ Some h
        → datagram_fault (2 + length (front ss)) y ≡ Some k
        → h ≡ k
    same rs ss x y h k l some p q =
        let none : l.rest ≡ [] =
        no_fault_before (2 + length (front rs)) l.rest x y h l.fits some l.follows p in
        let lists : ss ≡ rs = l.longer ∙ ap (λ d. rs ++ d) none ∙ append-nil rs in
        let bytes : x ≡ y = l.follows ∙ ap (λ d. front d ++ y) none in
        let both : Some h ≡ Some k = sym p ∙ ap (datagram_fault (2 + length (front rs))) bytes
        ∙ ap (λ d. datagram_fault (2 + length (front d)) y) (sym lists) ∙ q in
        cc

-- the datagrams before the last, and it
record EndsWith (rs : List DatagramRecord) : Type 0 where
  before : List DatagramRecord
  last : DatagramRecord
  are : rs ≡ before ++ last ∷ []

ends_with : (rs : List DatagramRecord) → is_nil rs ≡ false → EndsWith rs
ends_with [] e = absurd (true≢false e)
ends_with (r ∷ []) e = record { before = []; last = r; are = refl }
ends_with (r ∷ s ∷ rs) e = let w = ends_with (s ∷ rs) refl in
    record { before = r ∷ w.before; last = w.last; are = ap (λ l. r ∷ l) w.are }

-- no fault stands at a last datagram that is spelt
no_fault_last : (at : ℕ) (r : DatagramRecord) (x : List ℕ) (f : WireFault) → Fits r → x ≡ datagram false r
    → datagram_fault at x ≡ Some f → ⊥
no_fault_last at r x f fits e fails =
    let none = datagram_fault-spelt at false r [] fits (λ h. absurd (false≢true h)) (λ _. refl) in
    let bad : Some f ≡ None = sym fails ∙ ap (datagram_fault at) (e ∙ sym (append-nil (datagram false r)))
    ∙ none in
    cc

-- a last datagram is not one that says that more follow
not_last : (d : List DatagramRecord) (r : DatagramRecord) (y : List ℕ) → All Fits d → Fits r
    → datagram false r ≡ front d ++ y → d ≡ []
not_last [] r y fd fr e = refl
not_last (s ∷ d) r y fd fr e =
    let both = same_datagram false true r s [] (front d ++ y) fr (All-head Fits s d fd)
    (append-nil (datagram false r) ∙ e ∙ ap (λ l. l ++ y) (flat_map-cons (datagram true) s d)
    ∙ append_assoc (datagram true s) (front d) y) in
    absurd (false≢true both.1)

-- A body that is spelt well has no fault.
pub no_fault_within : (frame : List ℕ) (rs : List DatagramRecord) (f : WireFault) → is_nil rs ≡ false
    → All Fits rs → drop 2 frame ≡ body rs → FailsWithin frame f → ⊥
no_fault_within frame rs f some fits split a =
    let w = ends_with rs some in
    let P : List DatagramRecord → Type 0 = λ l. All Fits l in
    let all : All Fits (w.before ++ w.last ∷ []) = subst P w.are fits in
    let before_fits : All Fits w.before = front_of w.before w.last all in
    let last_fits : Fits w.last = last_of w.before w.last all in
    let bytes : front w.before ++ datagram false w.last ≡ front a.0 ++ a.1 =
    sym (body-push w.before w.last) ∙ ap body (sym w.are) ∙ sym split ∙ a.2.split in
    elim (one_front w.before a.0 (datagram false w.last) a.1 before_fits a.2.fits bytes) [
      | inl l ↦
          let none = not_last l.rest w.last a.1 l.fits last_fits l.follows in
          no_fault_last _ w.last a.1 f last_fits (sym (l.follows ∙ ap (λ d. front d ++ a.1) none)) a.2.fails
      | inr l ↦
          let long : 0 < length (datagram false w.last) = omega (arith, length-datagram false w.last) in
          let none = no_fault_before _ l.rest a.1 (datagram false w.last) f l.fits long l.follows a.2.fails in
          no_fault_last _ w.last a.1 f last_fits (l.follows ∙ ap (λ d. front d ++ datagram false w.last) none)
          a.2.fails
    ]
  where
    front_of : (xs : List DatagramRecord) (r : DatagramRecord) → All Fits (xs ++ r ∷ []) → All Fits xs
    front_of [] r h = All-nil Fits
    front_of (x ∷ xs) r h =
        All-cons Fits x xs (All-head Fits x (xs ++ r ∷ []) h)
        (front_of xs r (All-tail Fits x (xs ++ r ∷ []) h))

    last_of : (xs : List DatagramRecord) (r : DatagramRecord) → All Fits (xs ++ r ∷ []) → Fits r
    last_of [] r h = All-head Fits r [] h
    last_of (x ∷ xs) r h = last_of xs r (All-tail Fits x (xs ++ r ∷ []) h)

-- What a spelling's header says.
pub record HeaderSays (bytes : List ℕ) (rs : List DatagramRecord) : Type 0 where
  pub stated : stated_length bytes ≡ body_length rs
  pub good : header_fault bytes ≡ None
  pub whole : take (frame_end bytes) bytes ≡ spelling rs

pub HeaderSays-spelt : (bytes : List ℕ) (rs : List DatagramRecord) (behind : List ℕ)
    → IsSpeltBefore bytes rs behind → HeaderSays bytes rs
unfolding spelling header_fault
HeaderSays-spelt bytes rs behind spelt =
    let n = body_length rs in
    let room = spelt.value.room in
    let word : from_le_bytes w16 bytes ≡ n + 4096 = ap (from_le_bytes w16) spelt.split
    ∙ from_le_bytes-to_le_bytes_2 (n + 4096) (omega arith) in
    let stated : stated_length bytes ≡ n =
    ap (λ w. w % 2048) word ∙ (let r : (n + 4096) % 2048 ≡ n = omega arith in r) in
    let long : length bytes ≡ 2 + n + length behind =
    ap length spelt.split ∙ length-append (spelling rs) behind
    ∙ ap (λ k. k + length behind) (length-spelling rs) in
    let some : 0 < n = positive rs spelt.value.some in
    let t1 : nat_lt (length bytes) 2 ≡ false = grind (arith, nat_tests) in
    let t2 : not (from_le_bytes w16 bytes / 4096 == 1) ≡ false = let k : (n + 4096) / 4096 ≡ 1 =
    omega arith in ap (λ w. not (w / 4096 == 1)) word ∙ ap (λ w. not (w == 1)) k in
    let t3 : not (from_le_bytes w16 bytes / 2048 % 2 == 0) ≡ false = let k : (n + 4096) / 2048 % 2 ≡ 0 =
    omega arith in ap (λ w. not (w / 2048 % 2 == 0)) word ∙ ap (λ w. not (w == 0)) k in
    let t4 : (stated_length bytes == 0) ≡ false = grind (arith, nat_tests) in
    let t5 : nat_lt MAX_LENGTH (stated_length bytes) ≡ false = grind (arith, nat_tests) in
    let t6 : nat_lt (length bytes) (frame_end bytes) ≡ false = grind (arith, nat_tests) in
    record {
      stated = stated;
      good = first_of-NoneHolds (header_tests bytes) (t1, (t2, (t3, (t4, (t5, (t6, tt))))));
      whole = ap (λ k. take (2 + k) bytes) stated ∙ ap (take (2 + n)) spelt.split
          ∙ take_at (spelling rs) behind (2 + n) (length-spelling rs);
    }
  where
    positive : (xs : List DatagramRecord) → is_nil xs ≡ false → 0 < body_length xs
    positive [] e = absurd (true≢false e)
    positive (x ∷ xs) e = let c = body_length-cons x xs in omega arith

-- the length that the header of a frame's spelling says is that of its datagrams
pub stated_length-spelling : (rs : List DatagramRecord) → IsFrameValue rs
    → stated_length (spelling rs) ≡ body_length rs
stated_length-spelling rs value =
    (HeaderSays-spelt (spelling rs) rs []
    (record { value = value; split = sym (append-nil (spelling rs)) })).stated

-- so the frame ends by its header where its spelling ends
pub frame_end-spelling : (rs : List DatagramRecord) → IsFrameValue rs
    → frame_end (spelling rs) ≡ length (spelling rs)
frame_end-spelling rs value =
    ap (λ n. 2 + n) (stated_length-spelling rs value) ∙ sym (length-spelling rs)

-- Bytes that are spelt in a form have one value there.
pub one_value : (form : Form) (bytes : List ℕ) (rs ss : List DatagramRecord) → IsSpelt form bytes rs
    → IsSpelt form bytes ss → rs ≡ ss
one_value form bytes rs ss a b =
    (one_spelling rs ss a.0 b.0 a.1.value b.1.value (sym a.1.split ∙ b.1.split)).0

-- the frame of bytes that are spelt
body_of_spelt : (bytes : List ℕ) (rs : List DatagramRecord) (behind : List ℕ) → IsSpeltBefore bytes rs behind
    → drop 2 (take (frame_end bytes) bytes) ≡ body rs
unfolding spelling
body_of_spelt bytes rs behind spelt = ap (drop 2) (HeaderSays-spelt bytes rs behind spelt).whole

-- bytes that are spelt have no fault in a datagram, nor in the header
spelt_not_within : (bytes : List ℕ) (rs : List DatagramRecord) (behind : List ℕ) (f : WireFault)
    → IsSpeltBefore bytes rs behind → FailsWithin (take (frame_end bytes) bytes) f → ⊥
spelt_not_within bytes rs behind f spelt within =
    no_fault_within (take (frame_end bytes) bytes) rs f spelt.value.some spelt.value.fits
    (body_of_spelt bytes rs behind spelt) within

spelt_not_header : (bytes : List ℕ) (rs : List DatagramRecord) (behind : List ℕ) (f : WireFault)
    → IsSpeltBefore bytes rs behind → header_fault bytes ≡ Some f → ⊥
spelt_not_header bytes rs behind f spelt fails = let bad : Some f ≡ None =
    sym fails ∙ (HeaderSays-spelt bytes rs behind spelt).good in cc

-- in the UDP form nothing stands behind a frame
nothing_behind : (form : Form) (behind : List ℕ) → form ≡ Udp → MayStandBehind form behind → behind ≡ []
nothing_behind Ethernet behind e m = absurd (let bad : Ethernet ≡ Udp = e in cc)
nothing_behind Udp behind e m = m

-- Bytes that are spelt in a form have no first fault there.
pub spelt_no_fault : (form : Form) (bytes : List ℕ) (rs : List DatagramRecord) (f : WireFault)
    → IsSpelt form bytes rs → IsFirstFault form bytes f → ⊥
spelt_no_fault form bytes rs f a fault_is =
    elim fault_is [
      | inl h ↦ spelt_not_header bytes rs a.0 f a.1 h
      | inr more ↦ elim more [
        | inl within ↦ spelt_not_within bytes rs a.0 f a.1 within.1
        | inr t ↦
            let none : a.0 ≡ [] = nothing_behind form a.0 t.0 a.2 in
            let behind : a.0 ≡ t.2 =
            (one_spelling rs t.1 a.0 t.2 a.1.value t.3.value (sym a.1.split ∙ t.3.split)).1 in
            let some = t.4 in
            let long : length t.2 ≡ 0 = ap length (sym behind ∙ none) in
            absurd (omega arith)
      ]
    ]

-- Bytes have one first fault in a form.
pub one_fault : (form : Form) (bytes : List ℕ) (f g : WireFault) → IsFirstFault form bytes f
    → IsFirstFault form bytes g → f ≡ g
one_fault form bytes f g a b =
    elim a [
      | inl h ↦ elim b [
        | inl k ↦ let both : Some f ≡ Some g = sym h ∙ k in cc
        | inr more ↦ elim more [
          | inl within ↦ absurd (let bad : Some f ≡ None = sym h ∙ within.0 in cc)
          | inr t ↦ absurd
              (spelt_not_header bytes t.1 t.2 f t.3 h)
        ]
      ]
      | inr first ↦ elim first [
        | inl within ↦ elim b [
          | inl k ↦ absurd (let bad : Some g ≡ None = sym k ∙ within.0 in cc)
          | inr more ↦ elim more [
            | inl other ↦ one_fault_within _ f g within.1 other.1
            | inr t ↦ absurd
                (spelt_not_within bytes t.1 t.2 f t.3 within.1)
          ]
        ]
        | inr t ↦ elim b [
          | inl k ↦ absurd (spelt_not_header bytes t.1 t.2 g t.3 k)
          | inr more ↦ elim more
              [ inl within ↦ absurd (spelt_not_within bytes t.1 t.2 g t.3 within.1) | inr u ↦ t.5 ∙ sym u.5 ]
        ]
      ]
    ]

-- A fault that is the first one is the only answer.
pub only_fault : {A : Type 0} (form : Form) (bytes : List ℕ) (r : Result A WireFault) → IsErr r
    → IfErr r (λ f. IsFirstFault form bytes f) → (f : WireFault) → IsFirstFault form bytes f → r ≡ Err f
only_fault form bytes (Ok a) is failed f first = cc
only_fault form bytes (Err g) is failed f first = ap Err (one_fault form bytes g f failed first)

-- ---- a whole frame is read again

-- it is longer than its header
pub spelling-long : (rs : List DatagramRecord) → IsFrameValue rs → 2 < length (spelling rs)
spelling-long [] v = absurd (true≢false v.some)
spelling-long (r ∷ rs) v =
    let long = length-spelling (r ∷ rs) in let each = twelve_each (r ∷ rs) in omega (arith, long, each)

-- its datagrams begin where they did
pub starts_found : {A : Type 0} (frame starts : List ℕ) (r : Result A WireFault)
    → OnOk r (AreSpelt frame starts (records_at frame starts)) → IfErr r (FailsWithin frame)
    → (rs : List DatagramRecord) → IsFrameValue rs → frame ≡ spelling rs → starts ≡ starts_from 2 rs
unfolding spelling
starts_found frame starts (Ok u) spelt fails rs v is =
    let found : List DatagramRecord = records_at frame starts in
    let same = one_body found rs [] [] spelt.some v.some spelt.fits v.fits
    (ap (λ l. l ++ []) (sym spelt.split ∙ ap (drop 2) is)) in
    spelt.starts_are ∙ ap (starts_from 2) same.0
starts_found frame starts (Err f) spelt fails rs v is =
    absurd (no_fault_within frame rs f v.some v.fits (ap (drop 2) is) fails)
