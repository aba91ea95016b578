use Rattle.std.proofs.Common.{◌≡◌, length, drop}
use Rattle.ec_regs.specs.declared.registers.TheConstants.{PROCESS_MEMORY_SIZE}
use Rattle.ec_areas.specs.Records.{sync_managers_of}
use Rattle.ec_esc.specs.Writing.{reaches_byte, shown_after}
use Rattle.ec_esc.proofs.controller.Controller.show_outputs.Given as goal

-- showing the areas that are left gives what showing all gives
abbrev pub invariant-loop-number : goal.invariant-loop-number
invariant-loop-number l = record {
  kept : l.self ≡ record l.initial.self { shown = l.self.shown };
  size : length l.self.shown ≡ PROCESS_MEMORY_SIZE;
  rest : shown_after (reaches_byte l.initial.self.memory l.address l.count)
      (drop l.number (sync_managers_of l.initial.self.memory))
      (drop l.number (sync_managers_of l.initial.self.memory)) l.initial.self.memory l.self.shown
      ≡ shown_after (reaches_byte l.initial.self.memory l.address l.count)
      (sync_managers_of l.initial.self.memory) (sync_managers_of l.initial.self.memory)
      l.initial.self.memory l.initial.self.shown;
}
