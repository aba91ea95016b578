-- The outputs of a cycle: what the items of a work send.
use Rattle.std.specs.Prelude.{ℕ, ◌+◌, ◌%◌, if◌then◌else◌, List, [], ◌∷◌, ◌++◌, map, take, drop, length}
use Rattle.std.specs.Prelude.{slice_get}
use Rattle.std.specs.Prelude.{None, Some}
use Rattle.std.specs.Int.{w64, to_le_bytes}
use Rattle.ec_wire.specs.Command.{writes}
use Rattle.ec_wire.specs.Kind.{command_of}
use Rattle.ec_map.specs.Item.{ItemRecord}
use Rattle.ec_run.specs.declared.outputs.Outputs.{Outputs}
use Rattle.ec_run.specs.declared.outputs.Outputs.TheVariants.{Kept, Count, Images}

-- bytes in front of others, of which as many give way
abbrev pub in_front : List ℕ → List ℕ → List ℕ
in_front bytes payload = take (length payload) bytes ++ drop (length bytes) payload

-- ---- a number that grows

-- an item that writes has a number in its first bytes, the lowest byte first
abbrev pub numbered : ℕ → ItemRecord → ItemRecord
numbered number r =
    if writes (command_of r.kind) then record r {
      payload = in_front
          (to_le_bytes w64 number) r.payload;
    } else r

-- ---- images, one after the other

-- the image of the cycle with a number: behind the last one comes the first again
abbrev pub image_of : List (List ℕ) → ℕ → List ℕ
image_of images cycle = elim (slice_get images (cycle % length images)) [
  | None ↦ []
  | Some image ↦ image
]

-- an item that writes takes its data from the front of an image, and what it has no bytes for stays
abbrev pub filled_item : List ℕ → ItemRecord → ItemRecord
filled_item image r =
    if writes (command_of r.kind) then record r { payload = in_front image r.payload } else r

-- what an item leaves of an image for those behind it
abbrev pub left_by : List ℕ → ItemRecord → List ℕ
left_by image r = if writes (command_of r.kind) then drop (length r.payload) image else image

-- the items that write take their data from an image, one item after the other
unfoldable pub filled : List ℕ → List ItemRecord → List ItemRecord
filled image [] = []
filled image (r ∷ rest) = filled_item image r ∷ filled (left_by image r) rest

-- ---- the items of the cycle with a number

abbrev pub outputs_at : Outputs → ℕ → List ItemRecord → List ItemRecord
outputs_at Kept cycle items = items
outputs_at Count cycle items = map (numbered cycle) items
outputs_at (Images images) cycle items = filled (image_of images.now cycle) items

-- ---- how long an image is

-- what an item takes of it: its data if it writes
abbrev pub taken_by : ItemRecord → ℕ
taken_by r = if writes (command_of r.kind) then length r.payload else 0

-- all items together
abbrev pub image_length : List ItemRecord → ℕ
image_length [] = 0
image_length (r ∷ rest) = taken_by r + image_length rest
