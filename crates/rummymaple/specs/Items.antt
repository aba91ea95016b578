-- What a master asks in each cycle, as plain data beside its process image, and the items of `ec_map` that
-- these are.
use Rattle.std.specs.Prelude.{◌≡◌, ◌==◌, ◌<◌, ℕ, ◌+◌, not, nat_lt, if◌then◌else◌, Option, None, Some}
use Rattle.std.specs.Prelude.{unwrap_or, List, slice_range, slice_get}
use Rattle.ec_wire.specs.declared.datagram.TheConstants.{MAX_DATA}
use Rattle.ec_wire.specs.declared.kind.Kind.{Kind}
use Rattle.ec_wire.specs.declared.kind.Kind.TheVariants.{Lrd, Lwr, Lrw, Brd, Fprd, Fpwr}
use Rattle.ec_map.specs.Item.{ItemRecord, is_in_range}
use Rattle.rummymaple.specs.declared.item.Item.{Item}
use Rattle.rummymaple.specs.declared.item.Refused.{Refused}
use Rattle.rummymaple.specs.declared.numbers.Code.{Code}
use Rattle.rummymaple.specs.declared.numbers.Code.TheVariants.{BadKind, BadLength, BadRange, BadPlace}

-- the kind of a command's code
unfoldable pub kind_of : ℕ → Option Kind
kind_of code =
    if code == 4 then Some Fprd else
    (if code == 5 then Some Fpwr else
    (if code == 7 then Some Brd else
    (if code == 10 then Some Lrd else
    (if code == 11 then Some Lwr else
    (if code == 12 then Some Lrw else None)))))

-- the kind that an item names; a logical read where it names none
abbrev pub kind_named : ℕ → Kind
kind_named code = unwrap_or (kind_of code) Lrd

-- the item that is asked, with its data from the image
abbrev pub asked : List ℕ → Item → ItemRecord
asked image i = record {
  kind = kind_named i.kind;
  address = i.address;
  payload = slice_range image i.offset (i.offset + i.length);
  counter = i.sent;
  adp = 0;
}

-- why an item of a known kind is not taken, over an image of so many bytes
abbrev pub refusal_of : ℕ → Item → Option Kind → Option Code
refusal_of size i None = Some BadKind
refusal_of size i (Some kind) =
    if i.length == 0 then Some BadLength else
    (if nat_lt MAX_DATA i.length then Some BadLength else
    (if not (is_in_range kind i.address i.length) then Some BadRange else
    (if nat_lt size (i.offset + i.length) then Some BadPlace else None)))

-- why an item is not taken
unfoldable pub refusal : ℕ → Item → Option Code
refusal size i = refusal_of size i (kind_of i.kind)

-- each item is taken
abbrev pub AreTaken : ℕ → List Item → Type 0
AreTaken size items = (k : ℕ) (i : Item) → slice_get items k ≡ Some i → refusal size i ≡ None

-- this item is the first one that is not taken
pub record IsFirstRefused (size : ℕ) (items : List Item) (refused : Refused) : Type 0 where
  pub item : Item
  pub there : slice_get items refused.at ≡ Some item
  pub why : refusal size item ≡ Some refused.why
  pub before : (k : ℕ) (i : Item) → k < refused.at → slice_get items k ≡ Some i → refusal size i ≡ None
