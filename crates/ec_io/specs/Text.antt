-- What packets with text have in common: how much they carry, and how much is too much.
use Rattle.std.specs.Prelude.{ℕ, ◌+◌, nat_lt, Bool, List, length}
use Rattle.ec_io.specs.declared.fault.PacketFault.{PacketFault}
use Rattle.ec_io.specs.declared.fault.PacketFault.TheVariants.{LongText}

-- the most bytes of text that follow a head
abbrev pub most_text : ℕ
most_text = 1024

-- the test for more than those behind a head of this size
abbrev pub text_test : ℕ → List ℕ → Bool × PacketFault
text_test size bytes = (nat_lt (size + most_text) (length bytes), LongText)
