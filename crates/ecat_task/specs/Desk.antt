-- What a question is that comes to a running master, which does one at a time, and each once.
use Rattle.std.specs.Prelude.{Bool, if◌then◌else◌}
use Rattle.ecat_task.specs.declared.desk.Taking.{Taking}
use Rattle.ecat_task.specs.declared.desk.Taking.TheVariants.{New, UnderWay, Again, Busy}

-- by whether it is the one that is under way, whether its answer is kept, and whether one is under way
abbrev pub taking_of : Bool → Bool → Bool → Taking
taking_of is_under_way is_kept is_busy =
    if is_under_way then UnderWay else if is_kept then Again else if is_busy then Busy else New
