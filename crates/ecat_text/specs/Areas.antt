-- What is printed of an area before its bytes.
use Rattle.std.specs.Prelude.{◌++◌, ℕ, List, codes}
use Rattle.std.specs.Fmt.{decimal}
use Rattle.ecat_text.specs.declared.areas.AreaHead.{AreaHead}

-- the numbers of the slave and of the sync manager
abbrev pub area_words : AreaHead → List ℕ
area_words area =
    codes "slave " ++ decimal area.slave ++ codes " sm " ++ decimal area.manager ++ codes " open "
