use Rattle.ec_merge.specs.Laws.{distance_joined, same_from_distance}
use Rattle.ec_merge.proofs.BytesLemmas.{joined_bits-rule, joined_flag-rule}
use Rattle.ec_merge.proofs.merge.value_rule.Goals as goal

pub returns : goal.returns
returns c = record {
  bits = joined_bits-rule;
  flag = joined_flag-rule;
  counter = distance_joined;
  one_counter = same_from_distance;
}
