use Rattle.ecat_capture.proofs.Readings.{readings}
use Rattle.ecat_capture.proofs.promises.one_reading.Goals as goal

pub returns : goal.returns
returns c = readings
