-- Reading a frame datagram by datagram: what the tests leave, how far the loop has come, and that bytes
-- have at most one value or one first fault.
use Rattle.std.proofs.Common.{◌≡◌, ℕ, ◌+◌, ◌/◌, ◌%◌, ◌<◌, ◌≤◌, ◌^◌, ◌==◌, ◌&&◌, Bool, true, false, not}
use Rattle.std.proofs.Common.{nat_lt, Some, None, List, [], ◌∷◌, ◌++◌, length, take, drop, get_or, refl, sym}
use Rattle.std.proofs.Common.{ap, ◌∙◌, subst, arith}
use Rattle.std.specs.Prelude.{All}
use Rattle.std.specs.Int.{w16, to_le_bytes}
use Rattle.std.proofs.lemmas.Bool.{true≢false}
use Rattle.std.proofs.lemmas.Bool.Decides.{nat_tests}
use Rattle.std.proofs.lemmas.List.{append_assoc, append-nil, length-append, length-drop, take-append-drop}
use Rattle.std.proofs.lemmas.List.{drop-drop, map-append, length-take-le, take-take, take_at}
use Rattle.std.proofs.lemmas.List.Elements.{All-push, All-nil}
use Rattle.std.proofs.lemmas.List.Sums.{sum_by_push}
use Rattle.std.proofs.Math.ListN.{drop_of_length-le}
use Rattle.ec_wire.specs.Datagram.{DatagramRecord, datagram_length, Fits}
use Rattle.ec_wire.specs.Decoding.{length_field, data_length, says_more, record_at}
use Rattle.ec_wire.specs.Spelling.{datagram, body, body_length, front, header, spelling, IsFrameValue}
use Rattle.ec_wire.specs.Frame.{starts_from, records_at, Keeps}
use Rattle.ec_wire.specs.Fault.{first_of, header_word, stated_length, frame_end, header_tests, header_fault}
use Rattle.ec_wire.specs.Fault.{datagram_tests, datagram_fault, AreSpelt, IsSpeltBefore}
use Rattle.ec_wire.specs.Fault.{MayStandBehind, IsSpelt, IsOutline}
use Rattle.ec_wire.specs.declared.fault.Form.{Form}
use Rattle.ec_wire.specs.declared.fault.WireFault.{WireFault}
use Rattle.ec_wire.specs.declared.layout.TheConstants.{MAX_LENGTH}
use Rattle.ec_wire.proofs.DatagramLemmas.{AreBytes, Passes, datagram-record_at, Fits-record_at, AreBytes-drop}
use Rattle.ec_wire.proofs.DatagramLemmas.{le_bytes_first}
use Rattle.ec_wire.proofs.SpellingLemmas.{length-body, length-starts_from, length-spelling}
use Rattle.ec_wire.proofs.SpellingLemmas.{records_at-keeps}
use Rattle.ec_wire.proofs.WriteLemmas.{is_nil-push, body-push, front-push, starts_from-push, Keeps-made}
use Rattle.ec_wire.proofs.FrameLemmas.{twelve_each}

-- no test of the list holds
abbrev pub NoneHolds : List (Bool × WireFault) → Type 0
NoneHolds [] = Unit {0}
NoneHolds (t ∷ ts) = (t.0 ≡ false) × NoneHolds ts

-- where a list of tests finds no fault, none of it holds
pub NoneHolds-first_of : (ts : List (Bool × WireFault)) → first_of ts ≡ None → NoneHolds ts
NoneHolds-first_of [] e = tt
NoneHolds-first_of ((true, f) ∷ ts) e = absurd (let bad : Some f ≡ None = e in cc)
NoneHolds-first_of ((false, f) ∷ ts) e = (refl, NoneHolds-first_of ts e)

-- and the other way round
pub first_of-NoneHolds : (ts : List (Bool × WireFault)) → NoneHolds ts → first_of ts ≡ None
first_of-NoneHolds [] h = refl
first_of-NoneHolds ((true, f) ∷ ts) h = absurd (true≢false h.0)
first_of-NoneHolds ((false, f) ∷ ts) h = first_of-NoneHolds ts h.1

-- What the tests of a datagram leave where they find no fault.
pub record GoesOn (rest : List ℕ) : Type 0 where
  pub passes : Passes rest
  pub more : says_more rest ≡ true → 12 + data_length rest < length rest
  pub last : says_more rest ≡ false → 12 + data_length rest ≡ length rest

-- the last two tests, which compare the datagram's end with the frame's
more_room : (m : Bool) (n l : ℕ) → n ≤ l → (m && (n == l)) ≡ false → m ≡ true → n < l
more_room m n l h e is = grind (arith, nat_tests)

last_ends : (m : Bool) (n l : ℕ) → n ≤ l → (not m && nat_lt n l) ≡ false → m ≡ false → n ≡ l
last_ends m n l h e is = grind (arith, nat_tests)

-- a test that is not false, or not true
pub not_true : (b : Bool) → not b ≡ true → b ≡ false
not_true true e = cc
not_true false e = refl

pub not_false : (b : Bool) → not b ≡ false → b ≡ true
not_false true e = refl
not_false false e = cc

pub GoesOn-none : (at : ℕ) (rest : List ℕ) → datagram_fault at rest ≡ None → GoesOn rest
unfolding datagram_fault
GoesOn-none at rest none =
    let tests = NoneHolds-first_of (datagram_tests at rest) none in
    let t1 : nat_lt (length rest) 12 ≡ false = tests.0 in
    let t2 : nat_lt 14 (get_or rest 0 0) ≡ false = tests.1.0 in
    let t3 : (length_field rest / 2048 % 8 == 0) ≡ true = not_false _ tests.1.1.0 in
    let t4 : nat_lt (length rest) (12 + data_length rest) ≡ false = tests.1.1.1.0 in
    let command : get_or rest 0 0 < 15 = grind (arith, nat_tests) in
    let reserved : length_field rest / 2048 % 8 ≡ 0 = grind (arith, nat_tests) in
    let room : 12 + data_length rest ≤ length rest = grind (arith, nat_tests) in
    record {
      passes = record { command = command; reserved = reserved; room = room };
      more = more_room (says_more rest) (12 + data_length rest) (length rest) room tests.1.1.1.1.0;
      last = last_ends (says_more rest) (12 + data_length rest) (length rest) room tests.1.1.1.1.1.0;
    }

-- How far the reading of a frame has come: behind datagrams that are spelt well and each say that more
-- follow.
pub record Reached (frame : List ℕ) (at : ℕ) (starts : List ℕ) (rs : List DatagramRecord) : Type 0 where
  pub seen : records_at frame starts ≡ rs
  pub fits : All Fits rs
  pub split : drop 2 frame ≡ front rs ++ drop at frame
  pub at_is : at ≡ 2 + body_length rs
  pub below : at < length frame
  pub starts_are : starts ≡ starts_from 2 rs

-- it begins behind the header
pub Reached-start : (frame starts : List ℕ) → 2 < length frame → starts ≡ []
    → Reached frame 2 starts (records_at frame starts)
unfolding records_at
Reached-start frame starts some e =
    let none : records_at frame starts ≡ [] = ap (records_at frame) e in
    let P : List DatagramRecord → Type 0 = λ rs. Reached frame 2 starts rs in
    subst P (sym none)
    (record { seen = none; fits = All-nil Fits; split = refl; at_is = refl; below = some; starts_are = e })

-- one more place gives one more record
records_at-push : (frame starts : List ℕ) (at : ℕ)
    → records_at frame (starts ++ at ∷ []) ≡ records_at frame starts ++ record_at (drop at frame) ∷ []
unfolding records_at
records_at-push frame starts at = map-append (λ start. record_at (drop start frame)) starts (at ∷ [])

-- the record ahead takes as many bytes as its length field says
record-long : (rest : List ℕ) → AreBytes rest → Passes rest
    → datagram_length (record_at rest) ≡ 12 + data_length rest
unfolding record_at
record-long rest all ok =
    ap (λ n. 12 + n)
    (length-take-le (data_length rest) (drop 10 rest) (simp length-drop (omega (arith, ok.room))))

-- the frame from a datagram on, where one is ahead
ahead-split : (frame : List ℕ) (at : ℕ) → AreBytes frame → Passes (drop at frame)
    → drop at frame ≡ datagram (says_more (drop at frame)) (record_at (drop at frame))
    ++ drop (at + (12 + data_length (drop at frame))) frame
ahead-split frame at all ok =
    datagram-record_at (drop at frame) (AreBytes-drop at frame all) ok
    ∙ ap (λ xs. datagram (says_more (drop at frame)) (record_at (drop at frame)) ++ xs)
    (drop-drop (12 + data_length (drop at frame)) at frame)

-- a datagram that says that more follow brings the reading on
pub Reached-more : (frame : List ℕ) (at : ℕ) (starts starts' : List ℕ) (rs : List DatagramRecord)
    → AreBytes frame → Reached frame at starts rs → datagram_fault at (drop at frame) ≡ None
    → says_more (drop at frame) ≡ true → starts' ≡ starts ++ at ∷ []
    → Reached frame (at + (12 + data_length (drop at frame))) starts' (records_at frame starts')
Reached-more frame at starts starts' rs all so_far none more e =
    let rest = drop at frame in
    let go = GoesOn-none at rest none in
    let r = record_at rest in
    let seen : records_at frame starts' ≡ rs ++ r ∷ [] =
    ap (records_at frame) e ∙ records_at-push frame starts at ∙ ap (λ xs. xs ++ r ∷ []) so_far.seen in
    let ahead = ahead-split frame at all go.passes
    ∙ ap (λ b. datagram b r ++ drop (at + (12 + data_length rest)) frame) more in
    let total : body_length (rs ++ r ∷ []) ≡ body_length rs + datagram_length r =
    sum_by_push datagram_length rs r in
    let long = record-long rest (AreBytes-drop at frame all) go.passes in
    let left = length-drop at frame in
    let P : List DatagramRecord → Type 0 = λ xs. Reached frame (at + (12 + data_length rest)) starts' xs in
    subst P (sym seen) (record {
      seen = seen;
      fits = All-push Fits rs r so_far.fits (Fits-record_at rest (AreBytes-drop at frame all) go.passes);
      split = so_far.split ∙ ap (λ xs. front rs ++ xs) ahead
          ∙ sym (append_assoc (front rs) (datagram true r) (drop (at + (12 + data_length rest)) frame))
          ∙ ap (λ xs. xs ++ drop (at + (12 + data_length rest)) frame) (sym (front-push rs r));
      at_is = omega (arith, so_far.at_is, total, long);
      below = omega (arith, go.more more, left, so_far.below);
      starts_are = e ∙ ap (λ xs. xs ++ at ∷ []) so_far.starts_are
          ∙ ap (λ n. starts_from 2 rs ++ n ∷ []) so_far.at_is ∙ sym (starts_from-push rs 2 r);
    })

-- the last one ends it
pub AreSpelt-last : (frame : List ℕ) (at : ℕ) (starts starts' : List ℕ) (rs : List DatagramRecord)
    → AreBytes frame → Reached frame at starts rs → datagram_fault at (drop at frame) ≡ None
    → says_more (drop at frame) ≡ false → starts' ≡ starts ++ at ∷ []
    → AreSpelt frame starts' (records_at frame starts')
AreSpelt-last frame at starts starts' rs all so_far none last e =
    let rest = drop at frame in
    let go = GoesOn-none at rest none in
    let r = record_at rest in
    let seen : records_at frame starts' ≡ rs ++ r ∷ [] =
    ap (records_at frame) e ∙ records_at-push frame starts at ∙ ap (λ xs. xs ++ r ∷ []) so_far.seen in
    let left = length-drop at frame in
    let over : length frame ≤ at + (12 + data_length rest) =
    omega (arith, go.last last, left, so_far.below) in
    let ahead = ahead-split frame at all go.passes
    ∙ ap (λ b. datagram b r ++ drop (at + (12 + data_length rest)) frame) last
    ∙ ap (λ xs. datagram false r ++ xs) (drop_of_length-le frame over) ∙ append-nil (datagram false r) in
    let P : List DatagramRecord → Type 0 = λ xs. AreSpelt frame starts' xs in
    subst P (sym seen) (record {
      some = is_nil-push rs r;
      fits = All-push Fits rs r so_far.fits (Fits-record_at rest (AreBytes-drop at frame all) go.passes);
      split = so_far.split ∙ ap (λ xs. front rs ++ xs) ahead ∙ sym (body-push rs r);
      starts_are = e ∙ ap (λ xs. xs ++ at ∷ []) so_far.starts_are
          ∙ ap (λ n. starts_from 2 rs ++ n ∷ []) so_far.at_is ∙ sym (starts_from-push rs 2 r);
    })

-- there is room for one more start
pub starts-room : (frame : List ℕ) (at : ℕ) (starts : List ℕ) (rs : List DatagramRecord)
    → Reached frame at starts rs → datagram_fault at (drop at frame) ≡ None → length frame ≤ 1500
    → (length starts < 124) × (at + (12 + data_length (drop at frame)) ≤ 1500)
starts-room frame at starts rs so_far none room =
    let go = GoesOn-none at (drop at frame) none in
    let left = length-drop at frame in
    let count = ap length so_far.starts_are ∙ length-starts_from rs 2 in
    let each = twelve_each rs in (
      omega (arith, go.passes.room, so_far.at_is, so_far.below, left, count, each),
      omega (arith, go.passes.room, left, so_far.below),
    )

-- What the header's tests leave where they find no fault.
pub record HeaderGoesOn (bytes : List ℕ) : Type 0 where
  pub two : 2 ≤ length bytes
  pub word : header_word bytes ≡ stated_length bytes + 4096
  pub some : 0 < stated_length bytes
  pub room : stated_length bytes ≤ MAX_LENGTH
  pub whole : frame_end bytes ≤ length bytes

-- the header's number by its parts
header_parts : (w : ℕ) → w < 2 ^ 16 → w / 4096 ≡ 1 → w / 2048 % 2 ≡ 0 → w ≡ w % 2048 + 4096
header_parts w h t r = omega arith

pub HeaderGoesOn-none : (bytes : List ℕ) → AreBytes bytes → header_fault bytes ≡ None → HeaderGoesOn bytes
unfolding header_fault
HeaderGoesOn-none bytes all none =
    let tests = NoneHolds-first_of (header_tests bytes) none in
    let t1 : nat_lt (length bytes) 2 ≡ false = tests.0 in
    let t2 : (header_word bytes / 4096 == 1) ≡ true = not_false _ tests.1.0 in
    let t3 : (header_word bytes / 2048 % 2 == 0) ≡ true = not_false _ tests.1.1.0 in
    let t4 : (stated_length bytes == 0) ≡ false = tests.1.1.1.0 in
    let t5 : nat_lt MAX_LENGTH (stated_length bytes) ≡ false = tests.1.1.1.1.0 in
    let t6 : nat_lt (length bytes) (frame_end bytes) ≡ false = tests.1.1.1.1.1.0 in
    let type_is : header_word bytes / 4096 ≡ 1 = grind (arith, nat_tests) in
    let reserved : header_word bytes / 2048 % 2 ≡ 0 = grind (arith, nat_tests) in
    let small : header_word bytes < 2 ^ 16 = omega (arith, all 0, all 1) in
    record {
      two = grind (arith, nat_tests);
      word = header_parts (header_word bytes) small type_is reserved;
      some = grind (arith, nat_tests);
      room = grind (arith, nat_tests);
      whole = grind (arith, nat_tests);
    }

-- a header without a fault is the header of the stated length
pub take-header : (bytes : List ℕ) → AreBytes bytes → header_fault bytes ≡ None
    → take 2 bytes ≡ header (stated_length bytes)
take-header bytes all none = let h = HeaderGoesOn-none bytes all none in
    sym (le_bytes_first bytes all h.two) ∙ ap (to_le_bytes w16) h.word

-- the frame of the stated length
pub frame-split : (bytes : List ℕ) → AreBytes bytes → header_fault bytes ≡ None
    → take (frame_end bytes) bytes ≡ header (stated_length bytes) ++ drop 2 (take (frame_end bytes) bytes)
frame-split bytes all none =
    let two : 2 ≤ frame_end bytes = omega arith in
    sym (take-append-drop 2 (take (frame_end bytes) bytes))
    ∙ ap (λ xs. xs ++ drop 2 (take (frame_end bytes) bytes))
    (take-take 2 (frame_end bytes) bytes two ∙ take-header bytes all none)

-- what is spelt is as long as is stated
pub stated-body : (bytes : List ℕ) (rs : List DatagramRecord) → AreBytes bytes → header_fault bytes ≡ None
    → drop 2 (take (frame_end bytes) bytes) ≡ body rs → stated_length bytes ≡ body_length rs
stated-body bytes rs all none split =
    let h = HeaderGoesOn-none bytes all none in
    let long = length-take-le (frame_end bytes) bytes h.whole in
    let left = length-drop 2 (take (frame_end bytes) bytes) in
    let same = ap length split in
    let total = length-body rs in
    omega arith

-- the frame is the spelling of its datagrams, and they are a frame's value
pub IsFrameValue-spelt : (bytes starts : List ℕ) (rs : List DatagramRecord) → AreBytes bytes
    → header_fault bytes ≡ None → AreSpelt (take (frame_end bytes) bytes) starts rs → IsFrameValue rs
IsFrameValue-spelt bytes starts rs all none spelt =
    record {
      some = spelt.some;
      fits = spelt.fits;
      room = rw (← stated-body bytes rs all none spelt.split) (HeaderGoesOn-none bytes all none).room;
    }

pub spelling-spelt : (bytes starts : List ℕ) (rs : List DatagramRecord) → AreBytes bytes
    → header_fault bytes ≡ None → AreSpelt (take (frame_end bytes) bytes) starts rs
    → take (frame_end bytes) bytes ≡ spelling rs
unfolding spelling
spelling-spelt bytes starts rs all none spelt =
    frame-split bytes all none ∙ ap (λ xs. header (stated_length bytes) ++ xs) spelt.split
    ∙ ap (λ n. header n ++ body rs) (stated-body bytes rs all none spelt.split)

pub IsSpeltBefore-spelt : (bytes starts : List ℕ) (rs : List DatagramRecord) → AreBytes bytes
    → header_fault bytes ≡ None → AreSpelt (take (frame_end bytes) bytes) starts rs
    → IsSpeltBefore bytes rs (drop (frame_end bytes) bytes)
IsSpeltBefore-spelt bytes starts rs all none spelt = record {
  value = IsFrameValue-spelt bytes starts rs all none spelt;
  split = sym (take-append-drop (frame_end bytes) bytes)
      ∙ ap (λ xs. xs ++ drop (frame_end bytes) bytes) (spelling-spelt bytes starts rs all none spelt);
}

-- the outline of a frame whose datagrams begin at these places
pub IsOutline-spelt : (form : Form) (bytes starts : List ℕ) (rs : List DatagramRecord) → AreBytes bytes
    → header_fault bytes ≡ None → AreSpelt (take (frame_end bytes) bytes) starts rs
    → MayStandBehind form (drop (frame_end bytes) bytes) → IsOutline form bytes rs (frame_end bytes) starts
IsOutline-spelt form bytes starts rs all none spelt behind = record {
  spelt = (drop (frame_end bytes) bytes, IsSpeltBefore-spelt bytes starts rs all none spelt, behind);
  end_is = ap (λ n. 2 + n) (stated-body bytes rs all none spelt.split);
  starts_are = spelt.starts_are;
}

-- Cells that begin with the bytes up to the frame's end keep its datagrams, whatever stood there before.
pub Keeps-outline : (form : Form) (bytes : List ℕ) (rs : List DatagramRecord) (end : ℕ)
    (starts cells before : List ℕ) → IsOutline form bytes rs end starts → length before ≡ 1500
    → cells ≡ take end bytes ++ drop (0 + length (take end bytes)) before → Keeps cells end starts rs
unfolding spelling
Keeps-outline form bytes rs end starts cells before outline long made =
    let spelt = outline.spelt.1 in
    let whole : take end bytes ≡ spelling rs =
    ap (λ xs. take end xs) spelt.split
    ∙ take_at (spelling rs) outline.spelt.0 end (length-spelling rs ∙ sym outline.end_is) in
    let size : length (take end bytes) ≡ end =
    ap length whole ∙ length-spelling rs ∙ sym outline.end_is in
    let behind = drop (0 + length (take end bytes)) before in
    let left = length-drop (0 + length (take end bytes)) before in
    let all = length-append (take end bytes) behind in
    let room = spelt.value.room in
    let end_is = outline.end_is in
    Keeps-made cells end starts rs behind spelt.value
    (made ∙ ap (λ xs. xs ++ behind) whole ∙ append_assoc (header (body_length rs)) (body rs) behind)
    outline.starts_are end_is (ap length made ∙ all ∙ omega arith)

-- What is seen of such cells is what the bytes spell.
pub IsSpelt-outline : (form : Form) (bytes : List ℕ) (rs : List DatagramRecord) (end : ℕ)
    (starts cells before : List ℕ) → IsOutline form bytes rs end starts → length before ≡ 1500
    → cells ≡ take end bytes ++ drop (0 + length (take end bytes)) before
    → IsSpelt form bytes (records_at cells starts)
IsSpelt-outline form bytes rs end starts cells before outline long made =
    let kept = Keeps-outline form bytes rs end starts cells before outline long made in
    let P : List DatagramRecord → Type 0 = IsSpelt form bytes in
    subst P (sym (records_at-keeps cells end starts rs kept)) outline.spelt
