use Rattle.ec_map.proofs.LawLemmas.{share_lrd, share_lwr, share_lrw, share_brd, share_fprd, share_fpwr}
use Rattle.ec_map.proofs.promises.shares_by_kind.Goals as goal

pub returns : goal.returns
returns c = record {
  lrd = λ r k is. share_lrd r k is;
  lwr = λ r k is. share_lwr r k is;
  lrw = λ r k is. share_lrw r k is;
  brd = λ r k item is. share_brd r k item is;
  fprd = λ r k is. share_fprd r k is;
  fpwr = λ r k is. share_fpwr r k is;
}
