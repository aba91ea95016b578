-- The members of an object that is being written, in the order in which they were named (RFC 8259, 4).
use Rattle.std.specs.Prelude.{ℕ, ℤ, List, [], ◌∷◌, ◌++◌, Option, Some, None, codes, decimal}
use Rattle.std.specs.Fmt.{signed_decimal}
use Rattle.json.specs.Token as token
use Rattle.json.specs.Token.{Token}
use Rattle.json.specs.Json as json
use Rattle.json.specs.Json.{Json, Items, no_items, item, Members, no_members, member}
use Rattle.json.specs.Tree.{json_tokens}

-- members, and one more behind them
abbrev pub then : Members → List ℕ → Json → Members
then no_members name value = member name value no_members
then (member first held rest) name value = member first held (then rest name value)

-- items, and one more behind them
abbrev pub then_item : Items → Json → Items
then_item no_items value = item value no_items
then_item (item first rest) value = item first (then_item rest value)

-- what members are written as
abbrev pub named : Members → List Token
named no_members = []
named (member name value rest) = token.key name ∷ (json_tokens value ++ named rest)

-- what items are written as
abbrev pub listed : Items → List Token
listed no_items = []
listed (item value rest) = json_tokens value ++ listed rest

-- an object that has these members and is not closed yet
abbrev pub opened : Members → List Token
opened members = token.begin_object ∷ named members

-- an object whose last member is a list that has these items, both not closed yet
abbrev pub opened_list : Members → List ℕ → Items → List Token
opened_list members name items = opened members ++ token.key name ∷ token.begin_array ∷ listed items

-- one member more
abbrev pub with : List Token → List ℕ → Json → List Token
with written name value = written ++ token.key name ∷ json_tokens value

-- an object of a kind, which has no other member
abbrev pub of_kind : List ℕ → List Token
of_kind kind = with (opened no_members) (codes "kind") (json.string kind)

-- a text more, a number more, in decimal digits
abbrev pub with_text : List Token → List ℕ → List ℕ → List Token
with_text written name text = with written name (json.string text)

abbrev pub with_number : List Token → List ℕ → ℕ → List Token
with_number written name number = with written name (json.number (decimal number))

-- a number, or null where there is none
abbrev pub number_or_null : Option ℕ → Json
number_or_null None = json.null
number_or_null (Some number) = json.number (decimal number)

-- a number that may be below zero, or null where there is none, as it is written
abbrev pub signed_or_null : Option ℤ → Token
signed_or_null None = token.null
signed_or_null (Some number) = token.number (signed_decimal number)
