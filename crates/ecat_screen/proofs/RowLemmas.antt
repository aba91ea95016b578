-- A line that is cut where the page ends.
use Rattle.std.proofs.Common.{◌≡◌, ◌<◌, ◌++◌, ◌∷◌, [], ℕ, List, length, take, arith, length-append, sym}
use Rattle.std.proofs.lemmas.List.{take_all, take_at}

-- with room behind it a line has the byte behind it
pub with_room : (width : ℕ) (line : List ℕ) (byte : ℕ) → length line < width
    → line ++ byte ∷ [] ≡ take width (line ++ byte ∷ [])
with_room width line byte room =
    let longer = length-append line (byte ∷ []) in
    sym (take_all width (line ++ byte ∷ []) (omega (arith, longer, room)))

-- without room it stays
pub without_room : (width : ℕ) (line : List ℕ) (byte : ℕ) → length line ≡ width
    → line ≡ take width (line ++ byte ∷ [])
without_room width line byte full = sym (take_at line (byte ∷ []) width full)
