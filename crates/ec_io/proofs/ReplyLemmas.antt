-- The bytes of a reply give what it says, and bytes without a fault are those of what they say.
use Rattle.std.proofs.Common.{◌≡◌, ℕ, ◌+◌, ◌≤◌, ◌==◌, nat_lt, Bool, true, false, List, ◌++◌, length, drop}
use Rattle.std.proofs.Common.{refl, sym, ap, ◌∙◌, arith, subst, Some, None}
use Rattle.std.specs.Int.{w16, w64, to_le_bytes, from_le_bytes}
use Rattle.std.proofs.lemmas.Bool.Decides.{nat_tests}
use Rattle.std.proofs.lemmas.List.{length-drop}
use Rattle.std.proofs.lemmas.Nat.{from_le_bytes-to_le_bytes_2, from_le_bytes-to_le_bytes_8}
use Rattle.ec_io.specs.declared.fault.PacketFault.{PacketFault}
use Rattle.ec_io.specs.Cycle.{front}
use Rattle.ec_io.specs.Fault.{said_length, first_of, front_tests, front_fault}
use Rattle.ec_io.specs.Text.{most_text}
use Rattle.ec_io.specs.Reply.{reply_kind, ReplyValue, reply_bytes, IsReplyValue, IsReply, last_number}
use Rattle.ec_io.specs.Reply.{last_tests, reply_at, reply_fault, said_last}
use Rattle.ec_io.proofs.ByteLemmas.{AreBytes, AreBytes-drop, two_at, eight_at, two-lt, eight-lt}
use Rattle.ec_io.proofs.ByteLemmas.{NoneHolds-first_of, first_of-NoneHolds, first_of-append_some}
use Rattle.ec_io.proofs.ByteLemmas.{first_of-append_none}
use Rattle.ec_io.proofs.FrontLemmas.{HasFront, HasFront-none, front_fault-HasFront, front-split}
use Rattle.ec_io.proofs.TextLemmas.{text_test-false, false-text_test, front-good}

-- ---- whether it is the last one

-- a number that passes is that of what it says
last_number-said : (n : ℕ) → n ≤ 1 → last_number (n == 1) ≡ n
last_number-said n small = by_test (n == 1) (tells n) (denies n small)
  where
    tells : (n : ℕ) → (n == 1) ≡ true → 1 ≡ n
    tells n e = grind (arith, nat_tests)

    denies : (n : ℕ) → n ≤ 1 → (n == 1) ≡ false → 0 ≡ n
    denies n small e = grind (arith, nat_tests)

    by_test : {n : ℕ} (b : Bool) → (b ≡ true → 1 ≡ n) → (b ≡ false → 0 ≡ n) → last_number b ≡ n
    by_test true is not_is = is refl
    by_test false is not_is = not_is refl

-- what its number says is whether it is the last one
said-last_number : (is_last : Bool) → (from_le_bytes w16 (to_le_bytes w16 (last_number is_last)) == 1) ≡ is_last
said-last_number true = refl
said-last_number false = refl

-- and it passes
last_number-le : (is_last : Bool) → from_le_bytes w16 (to_le_bytes w16 (last_number is_last)) ≤ 1
last_number-le true = omega arith
last_number-le false = omega arith

-- ---- the table of tests

-- a fault of the front is the reply's
pub reply_fault-front : (bytes : List ℕ) (f : PacketFault) → front_fault 20 reply_kind bytes ≡ Some f
    → reply_fault bytes ≡ Some f
unfolding front_fault reply_fault
reply_fault-front bytes f is = first_of-append_some (front_tests 20 reply_kind bytes) (last_tests bytes) f is

-- behind a front without a fault, that of the other fields is
pub reply_fault-last : (bytes : List ℕ) → front_fault 20 reply_kind bytes ≡ None
    → reply_fault bytes ≡ first_of (last_tests bytes)
unfolding front_fault reply_fault
reply_fault-last bytes none = first_of-append_none (front_tests 20 reply_kind bytes) (last_tests bytes) none

-- bytes without a fault have a front without one
front_is_good : (bytes : List ℕ) → reply_fault bytes ≡ None → front_fault 20 reply_kind bytes ≡ None
unfolding reply_fault
front_is_good bytes none = front-good 20 reply_kind bytes (last_tests bytes) none

-- The other fields pass their tests.
record HasLast (bytes : List ℕ) : Type 0 where
  pub last : said_last bytes ≤ 1
  pub few : length bytes ≤ 20 + most_text

HasLast-none : (bytes : List ℕ) → first_of (last_tests bytes) ≡ None → HasLast bytes
HasLast-none bytes none =
    let tests = NoneHolds-first_of (last_tests bytes) none in
    let t0 : nat_lt 1 (said_last bytes) ≡ false = tests.0 in
    record {
      last = grind (arith, nat_tests);
      few = text_test-false 20 bytes tests.1.0;
    }

-- and the other way round
last_tests-HasLast : (bytes : List ℕ) → HasLast bytes → first_of (last_tests bytes) ≡ None
last_tests-HasLast bytes has =
    let small = has.last in
    let t0 : nat_lt 1 (said_last bytes) ≡ false = grind (arith, nat_tests) in
    first_of-NoneHolds (last_tests bytes) (t0, (false-text_test 20 bytes has.few, tt))

-- ---- bytes without a fault

-- the text is as long as the front says
text_said : (bytes : List ℕ) → HasFront 20 reply_kind bytes → said_length bytes ≡ length (drop 20 bytes)
text_said bytes has = omega (arith, has.whole, length-drop 20 bytes)

-- bytes without a fault are those of what they say
reply_bytes-reply_at : (bytes : List ℕ) → AreBytes bytes → HasFront 20 reply_kind bytes → HasLast bytes
    → bytes ≡ reply_bytes (reply_at bytes)
unfolding reply_bytes
reply_bytes-reply_at bytes all has last =
    let room = has.room in
    let v = reply_at bytes in
    front-split 20 reply_kind bytes (omega arith) all has
    ∙ ap (λ (n : ℕ). front reply_kind n ++ drop 8 bytes) (text_said bytes has)
    ∙ ap (λ (xs : List ℕ). front reply_kind (length v.text) ++ xs)
    (eight_at 8 bytes all (omega arith)
    ∙ ap (λ (xs : List ℕ). to_le_bytes w64 v.number ++ xs)
    (two_at 16 bytes all (omega arith)
    ∙ ap (λ (xs : List ℕ). to_le_bytes w16 v.place ++ xs)
    (two_at 18 bytes all (omega arith)
    ∙ ap (λ (n : ℕ). to_le_bytes w16 n ++ drop 20 bytes)
    (sym (last_number-said (said_last bytes) last.last)))))

-- so they are a reply
pub IsReply-reply_at : (bytes : List ℕ) → AreBytes bytes → reply_fault bytes ≡ None
    → IsReply bytes (reply_at bytes)
IsReply-reply_at bytes all none =
    let good = front_is_good bytes none in
    let has = HasFront-none 20 reply_kind bytes good in
    let last = HasLast-none bytes (sym (reply_fault-last bytes good) ∙ none) in
    let few = last.few in
    record {
      value = record {
        number = eight-lt (drop 8 bytes) (AreBytes-drop 8 bytes all);
        place = two-lt (drop 16 bytes) (AreBytes-drop 16 bytes all);
        text = omega (arith, length-drop 20 bytes);
      };
      spelt = reply_bytes-reply_at bytes all has last;
    }

-- the same of what equals what they say
pub IsReply-said : (bytes : List ℕ) (v : ReplyValue) → AreBytes bytes → reply_fault bytes ≡ None
    → v ≡ reply_at bytes → IsReply bytes v
IsReply-said bytes v all none is =
    let P : ReplyValue → Type 0 = IsReply bytes in subst P (sym is) (IsReply-reply_at bytes all none)

-- a reply has room for its head
pub reply-room : (bytes : List ℕ) → reply_fault bytes ≡ None → 20 ≤ length bytes
reply-room bytes none = (HasFront-none 20 reply_kind bytes (front_is_good bytes none)).room

-- ---- the bytes of a reply

-- a reply of these parts
abbrev reply_with : ℕ → ℕ → Bool → List ℕ → ReplyValue
reply_with number place is_last text = record {
  number = number;
  place = place;
  is_last = is_last;
  text = text;
}

-- is the one whose parts they are
pub reply_with-same : (n p : ℕ) (l : Bool) (xs : List ℕ) (v : ReplyValue) → n ≡ v.number → p ≡ v.place
    → l ≡ v.is_last → xs ≡ v.text → reply_with n p l xs ≡ v
reply_with-same n p l xs v e0 e1 e2 e3 = rw (e0, e1, e2, e3) refl

-- they say what the reply says
reply_at-reply_bytes : (v : ReplyValue) → IsReplyValue v → reply_at (reply_bytes v) ≡ v
unfolding reply_bytes
reply_at-reply_bytes v value =
    reply_with-same _ _ _ _ v (from_le_bytes-to_le_bytes_8 v.number value.number)
    (from_le_bytes-to_le_bytes_2 v.place value.place) (said-last_number v.is_last) refl

-- they have the front of a reply
HasFront-reply_bytes : (v : ReplyValue) → IsReplyValue v → HasFront 20 reply_kind (reply_bytes v)
unfolding reply_bytes
HasFront-reply_bytes v value =
    let few = value.text in
    let said : said_length (reply_bytes v) ≡ length v.text =
    from_le_bytes-to_le_bytes_2 (length v.text) (omega arith) in
    record {
      room = omega arith;
      letters_are = refl;
      version_is = refl;
      kind_is = refl;
      whole = omega (arith, said);
    }

-- and its other fields
HasLast-reply_bytes : (v : ReplyValue) → IsReplyValue v → HasLast (reply_bytes v)
unfolding reply_bytes
HasLast-reply_bytes v value =
    let few = value.text in
    record {
      last = last_number-le v.is_last;
      few = omega arith;
    }

-- what is a reply says one thing
pub reply_at-IsReply : (bytes : List ℕ) (v : ReplyValue) → IsReply bytes v → reply_at bytes ≡ v
reply_at-IsReply bytes v is = ap (λ (xs : List ℕ). reply_at xs) is.spelt ∙ reply_at-reply_bytes v is.value

-- and has no fault
pub reply_fault-IsReply : (bytes : List ℕ) (v : ReplyValue) → IsReply bytes v → reply_fault bytes ≡ None
reply_fault-IsReply bytes v is =
    let good = front_fault-HasFront 20 reply_kind (reply_bytes v) (HasFront-reply_bytes v is.value) in
    ap (λ (xs : List ℕ). reply_fault xs) is.spelt ∙ reply_fault-last (reply_bytes v) good
    ∙ last_tests-HasLast (reply_bytes v) (HasLast-reply_bytes v is.value)

-- bytes are one reply at most
pub one_reply : (bytes : List ℕ) (v w : ReplyValue) → IsReply bytes v → IsReply bytes w → v ≡ w
one_reply bytes v w is_v is_w = sym (reply_at-IsReply bytes v is_v) ∙ reply_at-IsReply bytes w is_w
