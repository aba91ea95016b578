-- A reply is a run of the answer to a question: a head of 20 bytes, and a run of the text behind it.
use Rattle.std.specs.Prelude.{◌≡◌, ◌≤◌, ◌<◌, ℕ, ◌^◌, ◌==◌, nat_lt, Bool, List, [], ◌∷◌, ◌++◌, length, drop}
use Rattle.std.specs.Prelude.{Option, if◌then◌else◌}
use Rattle.std.specs.Int.{w16, w64, to_le_bytes, from_le_bytes}
use Rattle.ec_io.specs.Cycle.{front}
use Rattle.ec_io.specs.Fault.{first_of, front_tests}
use Rattle.ec_io.specs.Text.{most_text, text_test}
use Rattle.ec_io.specs.declared.fault.PacketFault.{PacketFault}
use Rattle.ec_io.specs.declared.fault.PacketFault.TheVariants.{BadLast}
use Rattle.ec_io.specs.declared.reply.Reply.{Reply}

-- the kind of a reply
abbrev pub reply_kind : ℕ
reply_kind = 4

-- what a reply says, without where its text lies
pub record ReplyValue : Type 0 where
  pub number : ℕ
  pub place : ℕ
  pub is_last : Bool
  pub text : List ℕ

-- what a `Reply` says
abbrev pub reply_value : Reply → ReplyValue
reply_value r = record { number = r.number; place = r.place; is_last = r.is_last; text = r.text.now }

-- the number that says whether a reply is the last one of its answer
abbrev pub last_number : Bool → ℕ
last_number is_last = if is_last then 1 else 0

-- the head of a reply
abbrev pub reply_head : ReplyValue → List ℕ
reply_head v =
    front reply_kind (length v.text) ++ to_le_bytes w64 v.number ++ to_le_bytes w16 v.place
    ++ to_le_bytes w16 (last_number v.is_last)

-- the bytes of a reply
unfoldable pub reply_bytes : ReplyValue → List ℕ
reply_bytes v = reply_head v ++ v.text

-- what a reply can say
pub record IsReplyValue (v : ReplyValue) : Type 0 where
  pub number : v.number < 2 ^ 64
  pub place : v.place < 2 ^ 16
  pub text : length v.text ≤ most_text

-- The bytes are a reply that says so.
pub record IsReply (bytes : List ℕ) (v : ReplyValue) : Type 0 where
  pub value : IsReplyValue v
  pub spelt : bytes ≡ reply_bytes v

-- ---- the way back

-- the number that says whether it is the last one
abbrev pub said_last : List ℕ → ℕ
said_last bytes = from_le_bytes w16 (drop 18 bytes)

-- what the bytes of a reply say
abbrev pub reply_at : List ℕ → ReplyValue
reply_at bytes = record {
  number = from_le_bytes w64 (drop 8 bytes);
  place = from_le_bytes w16 (drop 16 bytes);
  is_last = said_last bytes == 1;
  text = drop 20 bytes;
}

-- the tests that a reply has to pass behind those of its front
abbrev pub last_tests : List ℕ → List (Bool × PacketFault)
last_tests bytes = (nat_lt 1 (said_last bytes), BadLast (said_last bytes)) ∷ text_test 20 bytes ∷ []

-- the first fault of bytes that are no reply
unfoldable pub reply_fault : List ℕ → Option PacketFault
reply_fault bytes = first_of (front_tests 20 reply_kind bytes ++ last_tests bytes)
