-- A question is a line that somebody asks a running master: a head of 16 bytes, and the line behind it.
use Rattle.std.specs.Prelude.{◌≡◌, ◌≤◌, ◌<◌, ℕ, ◌^◌, List, [], ◌∷◌, ◌++◌, length, drop, Option}
use Rattle.std.specs.Int.{w64, to_le_bytes, from_le_bytes}
use Rattle.ec_io.specs.Cycle.{front}
use Rattle.ec_io.specs.Fault.{first_of, front_tests}
use Rattle.ec_io.specs.Text.{most_text, text_test}
use Rattle.ec_io.specs.declared.fault.PacketFault.{PacketFault}
use Rattle.ec_io.specs.declared.question.Question.{Question}

-- the kind of a question
abbrev pub question_kind : ℕ
question_kind = 3

-- what a question says, without where its line lies
pub record QuestionValue : Type 0 where
  pub number : ℕ
  pub line : List ℕ

-- what a `Question` says
abbrev pub question_value : Question → QuestionValue
question_value q = record { number = q.number; line = q.line.now }

-- the head of a question with n bytes of a line
abbrev pub question_head : ℕ → ℕ → List ℕ
question_head number n = front question_kind n ++ to_le_bytes w64 number

-- the bytes of a question
unfoldable pub question_bytes : QuestionValue → List ℕ
question_bytes v = question_head v.number (length v.line) ++ v.line

-- what a question can say
pub record IsQuestionValue (v : QuestionValue) : Type 0 where
  pub number : v.number < 2 ^ 64
  pub line : length v.line ≤ most_text

-- The bytes are a question that says so.
pub record IsQuestion (bytes : List ℕ) (v : QuestionValue) : Type 0 where
  pub value : IsQuestionValue v
  pub spelt : bytes ≡ question_bytes v

-- ---- the way back

-- what the bytes of a question say
abbrev pub question_at : List ℕ → QuestionValue
question_at bytes = record { number = from_le_bytes w64 (drop 8 bytes); line = drop 16 bytes }

-- the first fault of bytes that are no question
unfoldable pub question_fault : List ℕ → Option PacketFault
question_fault bytes = first_of (front_tests 16 question_kind bytes ++ text_test 16 bytes ∷ [])
