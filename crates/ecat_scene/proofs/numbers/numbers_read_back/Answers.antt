use Rattle.ecat_scene.proofs.NumberLemmas.{decimal-back, hexadecimal-back}
use Rattle.ecat_scene.proofs.numbers.numbers_read_back.Goals as goal

pub returns : goal.returns
returns c = record { decimal = decimal-back; hexadecimal = hexadecimal-back }
