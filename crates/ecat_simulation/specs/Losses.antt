-- Which frame of a cycle lost a copy.
use Rattle.std.specs.Prelude.{ℕ, Bool, ◌||◌, not, List}
use Rattle.std.specs.List.{position}
use Rattle.std.specs.Option.{unwrap_or}
use Rattle.ec_master.specs.declared.report.CopiesBack.{CopiesBack}

-- one of the copies of a frame did not come back
abbrev pub has_lost_one : CopiesBack → Bool
has_lost_one copies = not copies.a || not copies.b

-- the number of the first frame that lost one, or 0
abbrev pub first_loss : List CopiesBack → ℕ
first_loss copies = unwrap_or (position has_lost_one copies) 0
