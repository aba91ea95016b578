use Rattle.ec_wire.specs.declared.frame.TheConstants.{PACKET_ROOM}
use Rattle.ecat_remote.proofs.CopyLemmas.{copied}
use Rattle.ecat_remote.proofs.carrier.copy_front.Goals as goal

pub returns-clause-copied : goal.returns-clause-copied
returns-clause-copied c =
    copied PACKET_ROOM c.min-count.result c.args.frame.now c.copy_from_slice.new.self _
    c.copy_from_slice.ensures.after c.min-count.ensures
