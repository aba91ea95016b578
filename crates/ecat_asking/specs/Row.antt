-- What replies make of what has come of an answer.
use Rattle.std.specs.Prelude.{ℕ, ◌+◌, ◌==◌, ◌&&◌, Bool, not, min, ◌^◌, ◌-◌, List, ◌++◌, if◌then◌else◌}
use Rattle.ec_io.specs.Reply.{ReplyValue}
use Rattle.ecat_asking.specs.declared.row.Row.{Row}

-- what has come: a text of so many replies, and whether the answer's last one is among them
pub record Came : Type 0 where
  pub text : List ℕ
  pub next : ℕ
  pub is_whole : Bool

abbrev pub came : Row → Came
came row = record { text = row.text.items; next = row.next; is_whole = row.is_whole }

-- with the reply that follows
abbrev pub and_next : ReplyValue → Came → Came
and_next reply before = record {
  text = before.text ++ reply.text;
  next = min (before.next + 1) (2 ^ 16 - 1);
  is_whole = reply.is_last;
}

-- begun once more by a first one
abbrev pub begun : ReplyValue → Came
begun reply = record { text = reply.text; next = 1; is_whole = reply.is_last }

-- by a reply, for a question of this number: one of another question leaves it, and so does each where it is
-- whole, and one that neither follows nor is a first one
abbrev pub taken : ℕ → ReplyValue → Came → Came
taken number reply before =
    if before.is_whole then before
    else if not (reply.number == number) then before
    else if reply.place == before.next then and_next reply before
    else if reply.place == 0 then begun reply
    else before
