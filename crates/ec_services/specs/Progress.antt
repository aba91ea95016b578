-- How far a transfer is, in words that crates above can name: its next trip looks at both mailboxes, reads
-- the mail that waits, or posts the request.
use Rattle.std.specs.Prelude.{ℕ, Option}
use Rattle.ec_services.specs.declared.mailbox.Peer.{Peer}
use Rattle.ec_services.specs.declared.settling.Mailboxes.{Mailboxes}
use Rattle.ec_services.specs.declared.settling.Mailboxes.TheVariants.{Unknown, AnswerWaits, Empty}
use Rattle.ec_services.specs.declared.surely.Progress.{Progress}

-- what is known of the mailboxes, what was posted last, and the peer
abbrev pub Known : Type 0
Known = Progress

-- what is known of the mailboxes
abbrev pub Boxes : Type 0
Boxes = Mailboxes

abbrev pub unknown : Boxes
unknown = Unknown

abbrev pub answer_there : Boxes
answer_there = AnswerWaits

abbrev pub both_empty : Boxes
both_empty = Empty

-- a transfer whose next trip looks, reads, or posts
abbrev pub looks : Option ℕ → Peer → Known
looks posted peer = record { known = Unknown; posted = posted; peer = peer }

abbrev pub reads : Option ℕ → Peer → Known
reads posted peer = record { known = AnswerWaits; posted = posted; peer = peer }

abbrev pub posts : Option ℕ → Peer → Known
posts posted peer = record { known = Empty; posted = posted; peer = peer }

-- there is no other
by_known : (P : Known → Type 0) → ((posted : Option ℕ) (peer : Peer) → P (looks posted peer))
    → ((posted : Option ℕ) (peer : Peer) → P (reads posted peer))
    → ((posted : Option ℕ) (peer : Peer) → P (posts posted peer)) → (boxes : Mailboxes)
    → (posted : Option ℕ) (peer : Peer) → P (record { known = boxes; posted = posted; peer = peer })
by_known P look read post Unknown posted peer = look posted peer
by_known P look read post AnswerWaits posted peer = read posted peer
by_known P look read post Empty posted peer = post posted peer

pub any_known : (P : Known → Type 0) → ((posted : Option ℕ) (peer : Peer) → P (looks posted peer))
    → ((posted : Option ℕ) (peer : Peer) → P (reads posted peer))
    → ((posted : Option ℕ) (peer : Peer) → P (posts posted peer)) → (p : Known) → P p
any_known P look read post p = by_known P look read post p.known p.posted p.peer
