-- The name of somebody, or that there is none, as a member of an object or an item of a list.
use Rattle.std.specs.Prelude.{ℕ, ◌==◌, List, length, if◌then◌else◌}
use Rattle.json.specs.Token as token
use Rattle.json.specs.Token.{Token}
use Rattle.json.specs.Json as json
use Rattle.json.specs.Json.{Json}

-- a name, or null where it is empty
abbrev pub name_or_null : List ℕ → Json
name_or_null name = if length name == 0 then json.null else json.string name

-- that, as it is written
abbrev pub name_item : List ℕ → Token
name_item name = if length name == 0 then token.null else token.string name
