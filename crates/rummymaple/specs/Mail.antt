-- How far the mails of a transfer are, in the numbers in which a caller keeps them.
use Rattle.std.specs.Prelude.{ℕ, ◌==◌, ◌&&◌, nat_lt, not, if◌then◌else◌, Bool, Option, None, Some}
use Rattle.ec_regs.specs.declared.sync_man.TheConstants.{SHORTEST_MAILBOX, LONGEST_MAILBOX}
use Rattle.ec_services.specs.declared.mailbox.Peer.{Peer}
use Rattle.ec_services.specs.declared.settling.Mailboxes.{Mailboxes}
use Rattle.ec_services.specs.declared.settling.Mailboxes.TheVariants.{Unknown, AnswerWaits, Empty}
use Rattle.ec_services.specs.declared.surely.Progress.{Progress}
use Rattle.rummymaple.specs.declared.mail.Mail.{Mail}

-- what is known of both mailboxes, by its number
unfoldable pub known_in : ℕ → Option Mailboxes
known_in n =
    if n == 0 then Some Unknown
    else if n == 1 then Some AnswerWaits
    else if n == 2 then Some Empty
    else None

-- a mailbox has 16 to 1,486 bytes, and counters run from 1 to 7
abbrev pub is_mailbox : ℕ → Bool
is_mailbox length = not (nat_lt length SHORTEST_MAILBOX) && not (nat_lt LONGEST_MAILBOX length)

abbrev pub is_counter : ℕ → Bool
is_counter counter = not (nat_lt counter 1) && not (nat_lt 7 counter)

abbrev pub is_peer : Mail → Bool
is_peer m = is_mailbox m.request_length && (is_mailbox m.answer_length && is_counter m.counter)

abbrev pub peer_in : Mail → Peer
peer_in m = record {
  station = m.station;
  to = record { start = m.request_start; length = m.request_length };
  from = record { start = m.answer_start; length = m.answer_length };
  counter = m.counter;
}

-- the counter of the request that was posted last, where one was
abbrev pub posted_in : Mail → Option ℕ
posted_in m = if m.is_posted == 0 then None else Some m.posted

abbrev pub progress_with : Mail → Option Mailboxes → Option Progress
progress_with m None = None
progress_with m (Some known) = Some (record { known = known; posted = posted_in m; peer = peer_in m })

-- all of it; nothing where the numbers are no such peer
abbrev pub progress_in : Mail → Option Progress
progress_in m = if is_peer m then progress_with m (known_in m.known) else None

-- no mails, of a service with the slave of this station address that needs none
abbrev pub no_mail : ℕ → Mail
no_mail station = record {
  station = station;
  request_start = 0;
  request_length = 0;
  answer_start = 0;
  answer_length = 0;
  counter = 0;
  posted = 0;
  is_posted = 0;
  known = 0;
}
