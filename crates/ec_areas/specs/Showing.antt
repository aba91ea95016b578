-- Whether an area that a write found active is shown anew hangs on its last byte (IEC 61158-4-12, sync
-- manager, buffered mode).
use Rattle.std.specs.Prelude.{◌≡◌, ℕ, ◌+◌, ◌-◌, ◌*◌, Bool, if◌then◌else◌, Option, None, Some, List}
use Rattle.std.specs.Prelude.{slice_get, IsTrue}
use Rattle.ec_regs.specs.Pairs.{writes}
use Rattle.ec_regs.specs.declared.fmmu.Fmmu.{Fmmu}
use Rattle.ec_areas.specs.Logical.{names}
use Rattle.ec_areas.specs.Met.{number_at}
use Rattle.ec_regs.specs.declared.sync_man.SyncMan.{SyncMan}
use Rattle.ec_regs.specs.SyncMan.{is_active}

-- the address of the last byte of the area
abbrev pub last_byte : SyncMan → ℕ
last_byte s = s.start + s.length - 1

-- the list says of each active area, by number, whether its last byte passes the test
abbrev pub SaysOfLastBytes : (ℕ → Bool) → List SyncMan → List Bool → Type 0
SaysOfLastBytes test managers said =
    (i : ℕ) (s : SyncMan) → slice_get managers i ≡ Some s → IsTrue (is_active s)
    → slice_get said i ≡ Some (test (last_byte s))

-- the list has, by number, an answer that was told of each area
abbrev pub TellsOfEach : (SyncMan → Bool → Type 0) → List SyncMan → List Bool → Type 0
TellsOfEach tells managers told =
    (i : ℕ) (s : SyncMan) → slice_get managers i ≡ Some s
    → (answer : Bool) × (slice_get told i ≡ Some answer) × tells s answer

-- which of the n data bits from logical bit `from` on a write through an FMMU puts into physical bit p, if no
-- area locks its byte
abbrev pub written_number : ℕ → ℕ → Fmmu → ℕ → Option ℕ
written_number from n f p = if writes f then number_at from n f p else None

-- does such a write reach the byte at an address
abbrev pub reaches : ℕ → ℕ → ℕ → Fmmu → Bool
reaches from n byte f = names (λ b. written_number from n f (8 * byte + b)) 8
