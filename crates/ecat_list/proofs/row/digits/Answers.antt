use Rattle.ecat_list.proofs.HexLemmas as hexes
use Rattle.ecat_list.proofs.row.digits.Goals as goal

pub returns : goal.returns
returns c = hexes.sixteen_digits c.args.numbers c.fits-numbers.0 c.requires
