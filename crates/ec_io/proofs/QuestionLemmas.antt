-- The bytes of a question give what it says, and bytes without a fault are those of what they say.
use Rattle.std.proofs.Common.{◌≡◌, ℕ, ◌+◌, ◌≤◌, List, [], ◌∷◌, ◌++◌, length, drop}
use Rattle.std.proofs.Common.{refl, sym, ap, ◌∙◌, arith, subst, Some, None}
use Rattle.std.proofs.lemmas.List.{length-drop}
use Rattle.std.proofs.lemmas.Nat.{from_le_bytes-to_le_bytes_2, from_le_bytes-to_le_bytes_8}
use Rattle.ec_io.specs.declared.fault.PacketFault.{PacketFault}
use Rattle.ec_io.specs.Cycle.{front}
use Rattle.ec_io.specs.Fault.{said_length, first_of, front_tests, front_fault}
use Rattle.ec_io.specs.Text.{most_text, text_test}
use Rattle.ec_io.specs.Question.{question_kind, QuestionValue, question_bytes, IsQuestionValue, IsQuestion}
use Rattle.ec_io.specs.Question.{question_at, question_fault}
use Rattle.ec_io.proofs.ByteLemmas.{AreBytes, AreBytes-drop, eight_at, eight-lt, NoneHolds-first_of}
use Rattle.ec_io.proofs.ByteLemmas.{first_of-NoneHolds, first_of-append_some, first_of-append_none}
use Rattle.ec_io.proofs.FrontLemmas.{HasFront, HasFront-none, front_fault-HasFront, front-split}
use Rattle.ec_io.proofs.TextLemmas.{text_test-false, false-text_test, front-good}

-- ---- the table of tests

-- a fault of the front is the question's
pub question_fault-front : (bytes : List ℕ) (f : PacketFault) → front_fault 16 question_kind bytes ≡ Some f
    → question_fault bytes ≡ Some f
unfolding front_fault question_fault
question_fault-front bytes f is =
    first_of-append_some (front_tests 16 question_kind bytes) (text_test 16 bytes ∷ []) f is

-- behind a front without a fault, that of the text is
pub question_fault-text : (bytes : List ℕ) → front_fault 16 question_kind bytes ≡ None
    → question_fault bytes ≡ first_of (text_test 16 bytes ∷ [])
unfolding front_fault question_fault
question_fault-text bytes none =
    first_of-append_none (front_tests 16 question_kind bytes) (text_test 16 bytes ∷ []) none

-- bytes without a fault have a front without one
front_is_good : (bytes : List ℕ) → question_fault bytes ≡ None → front_fault 16 question_kind bytes ≡ None
unfolding question_fault
front_is_good bytes none = front-good 16 question_kind bytes (text_test 16 bytes ∷ []) none

-- and no more text than there may be
text_is_good : (bytes : List ℕ) → question_fault bytes ≡ None → length bytes ≤ 16 + most_text
text_is_good bytes none =
    let tests = NoneHolds-first_of (text_test 16 bytes ∷ [])
    (sym (question_fault-text bytes (front_is_good bytes none)) ∙ none) in
    text_test-false 16 bytes tests.0

-- ---- bytes without a fault

-- the line is as long as the front says
line_said : (bytes : List ℕ) → HasFront 16 question_kind bytes
    → said_length bytes ≡ length (drop 16 bytes)
line_said bytes has = omega (arith, has.whole, length-drop 16 bytes)

-- bytes without a fault are those of what they say
question_bytes-question_at : (bytes : List ℕ) → AreBytes bytes → HasFront 16 question_kind bytes
    → bytes ≡ question_bytes (question_at bytes)
unfolding question_bytes
question_bytes-question_at bytes all has =
    let room = has.room in
    front-split 16 question_kind bytes (omega arith) all has
    ∙ ap (λ (n : ℕ). front question_kind n ++ drop 8 bytes) (line_said bytes has)
    ∙ ap (λ (xs : List ℕ). front question_kind (length (drop 16 bytes)) ++ xs)
    (eight_at 8 bytes all (omega arith))

-- so they are a question
pub IsQuestion-question_at : (bytes : List ℕ) → AreBytes bytes → question_fault bytes ≡ None
    → IsQuestion bytes (question_at bytes)
IsQuestion-question_at bytes all none =
    let has = HasFront-none 16 question_kind bytes (front_is_good bytes none) in
    let few = text_is_good bytes none in
    record {
      value = record {
        number = eight-lt (drop 8 bytes) (AreBytes-drop 8 bytes all);
        line = omega (arith, length-drop 16 bytes);
      };
      spelt = question_bytes-question_at bytes all has;
    }

-- the same of what equals what they say
pub IsQuestion-said : (bytes : List ℕ) (v : QuestionValue) → AreBytes bytes → question_fault bytes ≡ None
    → v ≡ question_at bytes → IsQuestion bytes v
IsQuestion-said bytes v all none is =
    let P : QuestionValue → Type 0 = IsQuestion bytes in subst P (sym is) (IsQuestion-question_at bytes all none)

-- a question has room for its head
pub question-room : (bytes : List ℕ) → question_fault bytes ≡ None → 16 ≤ length bytes
question-room bytes none = (HasFront-none 16 question_kind bytes (front_is_good bytes none)).room

-- ---- the bytes of a question

-- they say what the question says
question_at-question_bytes : (v : QuestionValue) → IsQuestionValue v → question_at (question_bytes v) ≡ v
unfolding question_bytes
question_at-question_bytes v value =
    let with_number : ℕ → QuestionValue = λ n. record { number = n; line = v.line } in
    ap with_number (from_le_bytes-to_le_bytes_8 v.number value.number)

-- they have the front of a question
HasFront-question_bytes : (v : QuestionValue) → IsQuestionValue v
    → HasFront 16 question_kind (question_bytes v)
unfolding question_bytes
HasFront-question_bytes v value =
    let few = value.line in
    let said : said_length (question_bytes v) ≡ length v.line =
    from_le_bytes-to_le_bytes_2 (length v.line) (omega arith) in
    record {
      room = omega arith;
      letters_are = refl;
      version_is = refl;
      kind_is = refl;
      whole = omega (arith, said);
    }

-- and no more text than there may be
few-question_bytes : (v : QuestionValue) → IsQuestionValue v → length (question_bytes v) ≤ 16 + most_text
unfolding question_bytes
few-question_bytes v value = let few = value.line in omega arith

-- what is a question says one thing
pub question_at-IsQuestion : (bytes : List ℕ) (v : QuestionValue) → IsQuestion bytes v
    → question_at bytes ≡ v
question_at-IsQuestion bytes v is =
    ap (λ (xs : List ℕ). question_at xs) is.spelt ∙ question_at-question_bytes v is.value

-- and has no fault
pub question_fault-IsQuestion : (bytes : List ℕ) (v : QuestionValue) → IsQuestion bytes v
    → question_fault bytes ≡ None
question_fault-IsQuestion bytes v is =
    let good = front_fault-HasFront 16 question_kind (question_bytes v) (HasFront-question_bytes v is.value) in
    let few = false-text_test 16 (question_bytes v) (few-question_bytes v is.value) in
    ap (λ (xs : List ℕ). question_fault xs) is.spelt ∙ question_fault-text (question_bytes v) good
    ∙ first_of-NoneHolds (text_test 16 (question_bytes v) ∷ []) (few, tt)

-- bytes are one question at most
pub one_question : (bytes : List ℕ) (v w : QuestionValue) → IsQuestion bytes v → IsQuestion bytes w → v ≡ w
one_question bytes v w is_v is_w =
    sym (question_at-IsQuestion bytes v is_v) ∙ question_at-IsQuestion bytes w is_w
