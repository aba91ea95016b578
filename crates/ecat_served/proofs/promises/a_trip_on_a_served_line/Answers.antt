use Rattle.ecat_served.proofs.PlainLemmas.{plain_trip}
use Rattle.ecat_served.proofs.SealedLemmas.{numbered_trip}
use Rattle.ecat_served.proofs.StillLemmas.{still_trip}
use Rattle.ecat_served.proofs.promises.a_trip_on_a_served_line.Goals as goal

pub returns-clause-plain : goal.returns-clause-plain
returns-clause-plain c = plain_trip

pub returns-clause-numbered : goal.returns-clause-numbered
returns-clause-numbered c =
    numbered_trip c.numbers_go_through_moving.ensures.a c.numbers_go_through_moving.ensures.b

pub returns-clause-still : goal.returns-clause-still
returns-clause-still c = still_trip
