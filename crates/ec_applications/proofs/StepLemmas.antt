-- A step of a slave is a move that its application may make between two passages: it leaves the mapping, what
-- the application is shown, and each byte of process memory that no area of inputs or mailbox guards.
use Rattle.std.proofs.Common.{◌≡◌, ℕ, ◌≤◌, false, length, get_or, ◌∙◌, arith}
use Rattle.ec_regs.specs.declared.registers.TheConstants.{MEMORY_SIZE, PROCESS_MEMORY}
use Rattle.ec_areas.specs.Areas.{is_locked}
use Rattle.ec_areas.specs.Records.{sync_managers_of}
use Rattle.ec_esc.specs.State.{ControllerState, IsController}
use Rattle.ec_line.specs.Mapping.{mapping_of}
use Rattle.ec_line.specs.Moving.{HasMoved}
use Rattle.ec_line.proofs.Laws.{moved_by_mapping, locked_by_mapping}
use Rattle.ec_app.specs.AlStep.{al_step}
use Rattle.ec_app.specs.Left.{SameLeft}
use Rattle.ec_app.specs.MailStep.{mail_step}
use Rattle.ec_app.specs.Slave.{step}
use Rattle.ec_app.specs.State.{SlaveState}
use Rattle.ec_app.proofs.Laws.{al_step_left, al_step_bytes, al_step_shown, mail_step_left, mail_step_bytes}
use Rattle.ec_app.proofs.Laws.{mail_step_shown}
use Rattle.ec_check.proofs.Laws.{mapping_left}
use Rattle.ec_applications.proofs.AreaLemmas.{unlocked_by}

-- ---- what stays of a controller

pub record Leaves (c d : ControllerState) : Type 0 where
  pub mapping : mapping_of d ≡ mapping_of c
  pub shown : d.shown ≡ c.shown
  pub size : length d.memory ≡ length c.memory
  pub free : (a : ℕ) → PROCESS_MEMORY ≤ a → is_locked (sync_managers_of c.memory) a ≡ false
      → get_or d.memory a 0 ≡ get_or c.memory a 0

pub leaves_then : (x y z : ControllerState) → Leaves x y → Leaves y z → Leaves x z
leaves_then x y z one two = record {
  mapping = two.mapping ∙ one.mapping;
  shown = two.shown ∙ one.shown;
  size = two.size ∙ one.size;
  free = λ a process free.
      two.free a process (locked_by_mapping x y a one.mapping ∙ free) ∙ one.free a process free;
}

-- ---- a step

al_step_leaves : (s : SlaveState) → length s.controller.memory ≡ MEMORY_SIZE
    → Leaves s.controller (al_step s).controller
al_step_leaves s size =
    let left : SameLeft s.controller.memory (al_step s).controller.memory = al_step_left s size in
    record {
      mapping = mapping_left s.controller (al_step s).controller size left;
      shown = al_step_shown s size;
      size = left.size;
      free = λ a process free. al_step_bytes s a size process;
    }

mail_step_leaves : (s : SlaveState) → length s.controller.memory ≡ MEMORY_SIZE
    → Leaves s.controller (mail_step s).controller
mail_step_leaves s size =
    let left : SameLeft s.controller.memory (mail_step s).controller.memory = mail_step_left s size in
    record {
      mapping = mapping_left s.controller (mail_step s).controller size left;
      shown = mail_step_shown s size;
      size = left.size;
      free = λ a process free.
          mail_step_bytes s a size process (unlocked_by s.controller.memory 1 a (omega arith) free);
    }

pub step_leaves_outputs : (s : SlaveState) → length s.controller.memory ≡ MEMORY_SIZE
    → Leaves s.controller (step s).controller
unfolding step
step_leaves_outputs s size =
    let first = al_step_leaves s size in
    leaves_then s.controller (al_step s).controller (step s).controller first
    (mail_step_leaves (al_step s) (first.size ∙ size))

-- what leaves all that is a move
pub leaves_moved : (c d : ControllerState) → IsController d → Leaves c d → HasMoved c d
leaves_moved c d is leaves = moved_by_mapping c d leaves.mapping is leaves.shown leaves.free
