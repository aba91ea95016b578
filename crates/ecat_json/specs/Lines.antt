-- A line of JSON: one object, which is read as what was written, and the end of the line.
use Rattle.std.specs.Prelude.{◌≡◌, ◌≤◌, ◌++◌, ◌∷◌, ℕ, List, Some, []}
use Rattle.json.specs.Token.{Token}
use Rattle.json.specs.Json as json
use Rattle.json.specs.Json.{Items, Members, document, members_step}
use Rattle.json.specs.Tree.{members_depth, items_depth}
use Rattle.serde_json.specs.Data as value
use Rattle.serde_json.specs.Read.{of_items, of_members, read}
use Rattle.ecat_json.specs.Members.{opened, opened_list}

-- members that hold texts, numbers, truths, nothing, and lists of those
pub record AreFlat (members : Members) : Type 0 where
  pub shallow : members_depth members ≤ 1
  pub found : value.Members
  pub each : of_members members value.no_members ≡ Some found

-- items that are texts, numbers, truths and nothing
pub record AreSingle (items : Items) : Type 0 where
  pub shallow : items_depth items ≤ 0
  pub found : value.Items
  pub each : of_items items ≡ Some found

-- what was written is an object of members that is not closed
pub record IsOpen (written : List Token) : Type 0 where
  pub members : Members
  pub flat : AreFlat members
  pub spelt : written ≡ opened members

-- what was written is an object whose last member is a list, both not closed
pub record IsOpenList (written : List Token) : Type 0 where
  pub members : Members
  pub flat : AreFlat members
  pub name : List ℕ
  pub items : Items
  pub single : AreSingle items
  pub spelt : written ≡ opened_list members name items

-- a line is the object that was written, and its end: its text is that object by JSON's grammar, with its
-- members in their order, and serde_json reads it as the data of those members
pub record IsLine (line : List ℕ) (written : List Token) : Type 0 where
  pub members : Members
  pub spelt : written ≡ opened members
  pub text : List ℕ
  pub ends : line ≡ text ++ 10 ∷ []
  pub is_object : document text ≡ Some (json.object members)
  pub found : value.Members
  pub each : of_members members value.no_members ≡ Some found
  pub is_read : read text ≡ Some (value.object found)
