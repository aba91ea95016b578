use Rattle.std.proofs.Common.{rules}
use Rattle.jiff_fmt.specs.Text.{places}
use Rattle.ecat_stamps.proofs.stamp.date_of.Goals as goal

pub returns : goal.returns
unfolding places
returns c = record {
  moment = c.timestamp_text.ensures.0;
  lies_there = search rules;
  is_written = search rules;
}
