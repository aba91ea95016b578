use Rattle.ecat_list.proofs.HexLemmas as hexes
use Rattle.ecat_list.proofs.row.digits_of_sixteen.Goals as goal

pub digits-high-requires : goal.digits-high-requires
digits-high-requires c = hexes.sixteen_highs_below c.args.bytes c.fits-bytes.0 c.fits-bytes.1

pub digits-low-requires : goal.digits-low-requires
digits-low-requires c = hexes.sixteen_lows_below c.args.bytes c.fits-bytes.0 c.fits-bytes.1

pub returns : goal.returns
returns c =
    hexes.sixteen_in_turn c.args.bytes c.fits-bytes.0 c.fits-bytes.1 c.digits-high.result c.digits-low.result
    c.digits-high.ensures c.digits-low.ensures
