use Rattle.ec_map.proofs.PlaceLemmas.{may_read-IsPlaced, may_write-IsPlaced}
use Rattle.ec_map.proofs.place.placed_item.Goals as goal

pub returns : goal.returns
returns c = record {
  reads = λ line r slave fit placed kind there same. may_read-IsPlaced line r slave fit placed kind there
      same;
  writes = λ line r slave fit placed kind there same. may_write-IsPlaced line r slave fit placed kind there
      same;
}
