use Rattle.std.proofs.Common.{◌≡◌, ◌≤◌, ◌+◌, length}
use Rattle.ec_run.specs.Images.{images_in, lines_of}
use Rattle.ec_run.proofs.ImagesLemmas.{most_in, put_behind, texts_in}
use Rattle.ec_run.proofs.images.read_lines.Given as goal

abbrev pub invariant-loop-rest : goal.invariant-loop-rest
invariant-loop-rest l = record {
  told : images_in l.length 1 (lines_of l.text)
      ≡ put_behind l.images.items (images_in l.length (l.number + 1) (texts_in l.rest));
  bound : l.number + most_in l.rest ≤ length l.text + 1;
}

abbrev pub decreases-loop-rest : goal.decreases-loop-rest
decreases-loop-rest l = most_in l.rest
