-- The object dictionary is a list of entries in the order in which they were added, no two of one index and
-- subindex (IEC 61158-6-12, object dictionary).
use Rattle.std.specs.Prelude.{ℕ, ◌≤◌, Bool, true, ◌==◌, ◌&&◌, nat_le, not, IsTrue, if◌then◌else◌, Option}
use Rattle.std.specs.Prelude.{Some, None, List, [], ◌∷◌, length, find}
use Rattle.std.specs.List.{list_any}
use Rattle.std.specs.Option.{option_map}
use Rattle.ec_app.specs.declared.value.Value.{Value}
use Rattle.ec_app.specs.declared.value.Rights.{Rights}
use Rattle.ec_app.specs.declared.objects.Entry.{Entry}
use Rattle.ec_app.specs.declared.objects.ObjectFault.{ObjectFault}
use Rattle.ec_app.specs.declared.objects.ObjectFault.TheVariants.{Full, Twin}

-- is the entry that of this index and subindex
abbrev pub is_at : ℕ → ℕ → Entry → Bool
is_at index sub e = (e.index == index) && (e.sub == sub)

-- is there an entry of this index, whatever its subindex
abbrev pub has_index : ℕ → List Entry → Bool
has_index index es = list_any (λ e. e.index == index) es

-- does an entry stand at this index and subindex
abbrev pub stands_at : ℕ → ℕ → List Entry → Bool
stands_at index sub es = list_any (is_at index sub) es

-- no two entries are of one index and subindex
abbrev pub are_distinct : List Entry → Bool
are_distinct [] = true
are_distinct (e ∷ es) = not (stands_at e.index e.sub es) && are_distinct es

-- a dictionary's entries: as many as fit, and no two of one index and subindex
pub record IsDictionary (es : List Entry) : Type 0 where
  pub room : length es ≤ 32
  pub distinct : IsTrue (are_distinct es)

-- the rights and the value at an index and subindex, if an entry stands there
abbrev pub object_at : ℕ → ℕ → List Entry → Option (Rights × Value)
object_at index sub es = option_map (λ e. (e.rights, e.value)) (find (is_at index sub) es)

-- why an entry of this index and subindex can't be added
abbrev pub add_fault : ℕ → ℕ → List Entry → Option ObjectFault
add_fault index sub es =
    if nat_le 32 (length es) then Some Full else (if stands_at index sub es then Some Twin else None)

-- the entry with this value if it is that of this index and subindex
abbrev pub with_value : ℕ → ℕ → Value → Entry → Entry
with_value index sub value e = if is_at index sub e then record e { value = value } else e
