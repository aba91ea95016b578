use Rattle.std.proofs.Common.{arith, rules}
use Rattle.ec_wire.proofs.datagram.Datagram.wire_length.Goals as goal

pub returns-clause-fits : goal.returns-clause-fits
returns-clause-fits c = record {
  index = search rules;
  address = search rules;
  irq = search rules;
  payload = omega arith;
  counter = search rules;
}
