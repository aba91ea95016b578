-- The laws that crates above cite: on the codes of commands, and on how many bytes a frame's spelling has and
-- says that it has.
use Rattle.std.proofs.Common.{◌≡◌, ◌+◌, Bool, List, length}
use Rattle.ec_wire.specs.declared.command.Command.{Command}
use Rattle.ec_wire.specs.Datagram.{DatagramRecord, datagram_length, command_of, code_of}
use Rattle.ec_wire.specs.Fault.{stated_length, frame_end}
use Rattle.ec_wire.specs.Spelling.{datagram, body, body_length, spelling, IsFrameValue}
use Rattle.ec_wire.proofs.DatagramLemmas as datagrams
use Rattle.ec_wire.proofs.LawLemmas as frames
use Rattle.ec_wire.proofs.SpellingLemmas as spellings

-- the code of a command names it
pub command_of-code_of : (c : Command) → command_of (code_of c) ≡ c
command_of-code_of = datagrams.command_of-code_of

-- a datagram's spelling has as many bytes as its length says, whether or not one follows
pub length-datagram : (more : Bool) (r : DatagramRecord) → length (datagram more r) ≡ datagram_length r
length-datagram = spellings.length-datagram

-- the spelling of a frame's datagrams has the sum of their lengths
pub length-body : (rs : List DatagramRecord) → length (body rs) ≡ body_length rs
length-body = spellings.length-body

-- the spelling of a frame has two bytes more, its header
pub length-spelling : (rs : List DatagramRecord) → length (spelling rs) ≡ 2 + body_length rs
length-spelling = spellings.length-spelling

-- the length that the header of a frame's spelling says is that of its datagrams
pub stated_length-spelling : (rs : List DatagramRecord) → IsFrameValue rs
    → stated_length (spelling rs) ≡ body_length rs
stated_length-spelling = frames.stated_length-spelling

-- so the frame ends by its header where its spelling ends
pub frame_end-spelling : (rs : List DatagramRecord) → IsFrameValue rs
    → frame_end (spelling rs) ≡ length (spelling rs)
frame_end-spelling = frames.frame_end-spelling
