use Rattle.std.proofs.Common.{◌*◌}
use Rattle.ec_areas.specs.Records.{fmmus_of, sync_managers_of}
use Rattle.ec_areas.proofs.Laws.{reads_some_pair, writes_some_pair}
use Rattle.ec_map.proofs.promises.shares_by_pairs.Goals as goal

pub returns : goal.returns
returns c = record {
  reads = λ k address n. reads_some_pair (sync_managers_of k.memory) (fmmus_of k.memory)
      (8 * address) (8 * n);
  writes = λ k address n. writes_some_pair (sync_managers_of k.memory) (fmmus_of k.memory)
      (8 * address) (8 * n);
}
