use Rattle.std.proofs.Common.{refl}
use Rattle.ec_esc.proofs.StateLemmas.{fresh_memory}
use Rattle.ec_esc.proofs.controller.Controller.new.Goals as goal

pub returns : goal.returns
returns c = record {
  memory_size = c.set_byte-2.ensures.size;
  memory = λ address.
      rw c.set_byte-2.ensures.value
      (rw c.set_byte.ensures.value (fresh_memory c.in_ok-memory.memory c.args.station
      c.in_ok-memory.ensures.size c.in_ok-memory.ensures.bytes address));
  shown_size = c.in_ok-zeros.ensures.size;
  shown = c.in_ok-zeros.ensures.zero;
  written = refl;
}
