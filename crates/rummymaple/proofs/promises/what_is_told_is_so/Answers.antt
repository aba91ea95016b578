use Rattle.rummymaple.proofs.CableLemmas.{known-so}
use Rattle.rummymaple.proofs.promises.what_is_told_is_so.Goals as goal

pub returns : goal.returns
returns c form sent a b cable w line d heard frame_is probe room same at_a at_b =
    known-so form sent a b cable w line d heard frame_is same at_a at_b
    (c.trips_are_heard.ensures.a w line d room probe) (c.trips_are_heard.ensures.b w line d room probe)
