use Rattle.std.proofs.Common.{arith}
use Rattle.ec_tests.proofs.over_ring.transfers.download.Goals as goal

pub returns : goal.returns
returns c = record {
  told = λ before behind s has.
      (c.transfers_over_ring.ensures.download c.args.peer.now c.sdo_download.new.peer c.args.index c.args.sub
      c.args.value 1 c.args.ports.now before behind s c.sdo_download.result c.sdo_download.new.ports has
      (omega arith, omega arith, c.fits.ensures) (omega arith) c.sdo_download.ensures.service).0;
}
