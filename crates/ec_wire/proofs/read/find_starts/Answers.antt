use Rattle.std.proofs.Common.{length, ap, arith}
use Rattle.ec_wire.proofs.SpellingLemmas.{length-spelling}
use Rattle.ec_wire.proofs.LawLemmas.{spelling-long, starts_found}
use Rattle.ec_wire.proofs.read.find_starts.Goals as goal

pub put_starts-requires-clause-some : goal.put_starts-requires-clause-some
put_starts-requires-clause-some c =
    omega (arith, ap length c.requires.2, spelling-long c.requires.0 c.requires.1)

pub put_starts-requires-clause-room : goal.put_starts-requires-clause-room
put_starts-requires-clause-room c =
    let value = c.requires.1 in
    let room = value.room in
    omega (arith, ap length c.requires.2, length-spelling c.requires.0)

pub returns : goal.returns
returns c =
    starts_found c.args.frame.now c.put_starts.new.starts.items c.put_starts.result
    c.put_starts.ensures.spelt c.put_starts.ensures.fault
