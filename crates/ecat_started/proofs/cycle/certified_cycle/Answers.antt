use Rattle.ecat_started.proofs.cycle.certified_cycle.Goals as goal

pub returns : goal.returns
returns g c r work expected before later came behind result work_later meets says all =
    c.a_good_is_of_its_cycle.ensures.says before later r work expected all.taken came behind result work_later
    meets.limit meets.accepted meets.expects says all.takes
