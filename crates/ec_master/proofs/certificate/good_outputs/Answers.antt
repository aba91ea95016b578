use Rattle.std.proofs.Common.{◌+◌}
use Rattle.ec_regs.specs.declared.registers.TheConstants.{PROCESS_MEMORY}
use Rattle.ec_master.specs.Cut.{frames_of}
use Rattle.ec_master.proofs.CertificateLemmas.{good_shows, shows-last-apart}
use Rattle.ec_master.proofs.certificate.good_outputs.Goals as goal

pub returns-clause-shown_last : goal.returns-clause-shown_last
returns-clause-shown_last c = good_shows

pub returns-clause-no_area_twice : goal.returns-clause-no_area_twice
returns-clause-no_area_twice c ws r items n k s room accepted are_items good inside there apart =
    good_shows ws r items n k s room accepted are_items good inside there
    (shows-last-apart s.controller (PROCESS_MEMORY + k) (frames_of items) apart)
