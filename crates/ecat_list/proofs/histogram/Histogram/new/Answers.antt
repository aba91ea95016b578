use Rattle.ecat_list.proofs.HistogramLemmas.{histogram_of_none}
use Rattle.ecat_list.proofs.histogram.Histogram.new.Goals as goal

pub returns : goal.returns
returns c = histogram_of_none
