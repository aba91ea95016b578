use Rattle.std.proofs.Common.{◌≡◌, ℕ, Bool, length, drop}
use Rattle.ec_regs.specs.declared.registers.TheConstants.{PROCESS_MEMORY_SIZE}
use Rattle.ec_areas.specs.Showing.{SaysOfLastBytes}
use Rattle.ec_esc.specs.Writing.{shown_after}
use Rattle.ec_esc.proofs.controller.Controller.show_written.Given as goal

-- showing the areas that are left gives what showing all gives
abbrev pub invariant-loop-i : goal.invariant-loop-i
invariant-loop-i l = record {
  kept : l.self ≡ record l.initial.self { shown = l.self.shown };
  size : length l.self.shown ≡ PROCESS_MEMORY_SIZE;
  rest : (is_written : ℕ → Bool) → SaysOfLastBytes is_written l.after l.last_written
      → shown_after is_written (drop l.i l.before) (drop l.i l.after) l.initial.self.memory l.self.shown
      ≡ shown_after is_written l.before l.after l.initial.self.memory l.initial.self.shown;
}
