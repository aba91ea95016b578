use Rattle.ec_map.specs.Share.{request_of}
use Rattle.ec_master.proofs.RangeLemmas.{taken_by_range, untaken_beside, untaken_idle}
use Rattle.ec_master.proofs.ShownLemmas as lemmas
use Rattle.ec_master.proofs.shown.shown_by_areas.Goals as goal

pub returns-clause-shown : goal.returns-clause-shown
returns-clause-shown c r k j i b p s controller inside there outputs guarded below takes =
    lemmas.shown (request_of r) r.payload k j i b p s controller inside there outputs guarded below takes

pub returns-clause-kept : goal.returns-clause-kept
returns-clause-kept c r k j controller inside untaken =
    lemmas.kept (request_of r) r.payload k j controller inside untaken

pub returns-clause-range : goal.returns-clause-range
returns-clause-range c = taken_by_range

pub returns-clause-beside : goal.returns-clause-beside
returns-clause-beside c = untaken_beside

pub returns-clause-idle : goal.returns-clause-idle
returns-clause-idle c = untaken_idle
