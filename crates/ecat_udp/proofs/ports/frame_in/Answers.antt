-- A packet that spells a frame is read as that frame.
use Rattle.std.proofs.Common.{ap}
use Rattle.std.specs.Result.{result_ok}
use Rattle.ecat_udp.proofs.ports.frame_in.Goals as goal

pub returns-clause-only_found : goal.returns-clause-only_found
returns-clause-only_found c rs spelt =
    rw c.ok.ensures.value (ap result_ok (c.read.ensures.only_found rs spelt))
