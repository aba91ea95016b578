-- What a step of a slave leaves of its controller's memory: all but AL status and AL status code, the status
-- bytes of both mailboxes, and process memory (IEC 61158-6-12, AL management and CoE, and IEC 61158-4-12,
-- mailbox).
use Rattle.std.specs.Prelude.{◌≡◌, ◌≢◌, ◌⊎◌, ℕ, ◌+◌, ◌<◌, ◌≤◌, List, length, slice_index}
use Rattle.ec_regs.specs.SyncMan.{status_address}
use Rattle.ec_regs.specs.declared.registers.TheConstants.{AL_STATUS, AL_STATUS_CODE, PROCESS_MEMORY}
use Rattle.ec_app.specs.declared.roles.TheConstants.{REQUEST_MAILBOX, ANSWER_MAILBOX}

-- the address is not one of the n from another one on
abbrev pub IsBeside : ℕ → ℕ → ℕ → Type 0
IsBeside from n address = (address < from) ⊎ (from + n ≤ address)

-- the address is that of a register which no step writes
pub record IsLeft (address : ℕ) : Type 0 where
  pub al_status : IsBeside AL_STATUS 2 address
  pub al_status_code : IsBeside AL_STATUS_CODE 2 address
  pub requests : address ≢ status_address REQUEST_MAILBOX
  pub answers : address ≢ status_address ANSWER_MAILBOX
  pub register : address < PROCESS_MEMORY

-- two memories of one length in which these registers are the same
pub record SameLeft (before after : List ℕ) : Type 0 where
  pub size : length after ≡ length before
  pub bytes : (address : ℕ) → IsLeft address → slice_index after address ≡ slice_index before address
