use Rattle.ec_master.proofs.RangeLemmas.{item_fprd, item_not_fprd, item_brd, item_not_brd, item_writes}
use Rattle.ec_master.proofs.RangeLemmas.{item_fpwr, item_beside_fpwr, item_not_fpwr, item_reads}
use Rattle.ec_master.proofs.promises.by_range.Goals as goal

pub returns : goal.returns
returns c = record {
  fprd = item_fprd;
  not_fprd = item_not_fprd;
  brd = item_brd;
  not_brd = item_not_brd;
  writes = item_writes;
  fpwr = item_fpwr;
  beside_fpwr = item_beside_fpwr;
  not_fpwr = item_not_fpwr;
  reads = item_reads;
}
