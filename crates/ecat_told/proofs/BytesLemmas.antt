-- What a run of bytes that a datagram tells makes of each kept byte.
use Rattle.std.proofs.Common.{◌≡◌, ◌≢◌, ◌⊎◌, ℕ, zero, suc, ◌+◌, ◌<◌, ◌≤◌, List, [], ◌∷◌, length, get_or}
use Rattle.std.proofs.Common.{Option, None, Some, refl, sym, ap, ◌∙◌, arith, inl, inr, ⊎_elim}
use Rattle.std.proofs.Common.{get_or-set_other, get_or-set_same}
use Rattle.std.proofs.lemmas.List.{length-set}
use Rattle.ecat_told.specs.declared.byte.Byte.{Byte}
use Rattle.ecat_told.specs.declared.byte.Byte.TheVariants.{Untold}
use Rattle.ecat_told.specs.declared.byte.How.{How}
use Rattle.ecat_told.specs.Registers.{place_of, gate_at, byte_after}
use Rattle.ecat_told.specs.Slave.{put_at, with_byte, with_bytes}
use Rattle.ecat_told.proofs.PlaceLemmas.{one_place}

size_put : (how : How) (arrived : List Byte) (a value : ℕ) (now : List Byte) (o : Option ℕ)
    → length (put_at how arrived a value now o) ≡ length now
size_put how arrived a value now None = refl
size_put how arrived a value now (Some p) =
    length-set now p (byte_after how (gate_at arrived a) value (get_or now p Untold))

-- one byte that is told leaves the number of bytes
size_byte : (how : How) (arrived : List Byte) (a value : ℕ) (now : List Byte)
    → length (with_byte how arrived a value now) ≡ length now
unfolding with_byte
size_byte how arrived a value now = size_put how arrived a value now (place_of a)

-- so do many
pub size_bytes : (how : How) (arrived : List Byte) (a : ℕ) (values : List ℕ) (now : List Byte)
    → length (with_bytes how arrived a values now) ≡ length now
size_bytes how arrived a [] now = refl
size_bytes how arrived a (value ∷ values) now =
    size_bytes how arrived (a + 1) values (with_byte how arrived a value now)
    ∙ size_byte how arrived a value now

-- the byte at its place
byte_here : (how : How) (arrived : List Byte) (a value p : ℕ) (now : List Byte) → place_of a ≡ Some p
    → p < length now
    → get_or (with_byte how arrived a value now) p Untold
    ≡ byte_after how (gate_at arrived a) value (get_or now p Untold)
unfolding with_byte
byte_here how arrived a value p now place inside =
    ap (λ (o : Option ℕ). get_or (put_at how arrived a value now o) p Untold) place
    ∙ get_or-set_same now p (byte_after how (gate_at arrived a) value (get_or now p Untold)) Untold inside

put_else : (how : How) (arrived : List Byte) (a b value p : ℕ) (now : List Byte) (o : Option ℕ)
    → place_of b ≡ o → place_of a ≡ Some p → a ≢ b
    → get_or (put_at how arrived b value now o) p Untold ≡ get_or now p Untold
put_else how arrived a b value p now None is place other = refl
put_else how arrived a b value p now (Some q) is place other =
    get_or-set_other now q p (byte_after how (gate_at arrived b) value (get_or now q Untold)) Untold
    (λ same. other (one_place a b p place (is ∙ ap Some (sym same))))

-- and the others
byte_else : (how : How) (arrived : List Byte) (a b value p : ℕ) (now : List Byte) → place_of a ≡ Some p
    → a ≢ b → get_or (with_byte how arrived b value now) p Untold ≡ get_or now p Untold
unfolding with_byte
byte_else how arrived a b value p now place other =
    put_else how arrived a b value p now (place_of b) refl place other

-- beside the run a byte is as it was
pub beside_run : (how : How) (arrived : List Byte) (a from p : ℕ) (values : List ℕ) (now : List Byte)
    → place_of a ≡ Some p → (a < from) ⊎ (from + length values ≤ a)
    → get_or (with_bytes how arrived from values now) p Untold ≡ get_or now p Untold
beside_run how arrived a from p [] now place beside = refl
beside_run how arrived a from p (value ∷ values) now place beside =
    beside_run how arrived a (from + 1) p values (with_byte how arrived from value now) place
    (⊎_elim (λ (before : a < from). inl (omega arith))
    (λ (behind : from + suc (length values) ≤ a). inr (omega arith)) beside)
    ∙ byte_else how arrived a from value p now place
    (⊎_elim (λ (before : a < from). λ same. omega arith)
    (λ (behind : from + suc (length values) ≤ a). λ same. omega arith) beside)

-- within it is what the datagram made of it
pub in_run : (how : How) (arrived : List Byte) (a k from p : ℕ) (values : List ℕ) (now : List Byte)
    → a ≡ from + k → place_of a ≡ Some p → k < length values → p < length now
    → get_or (with_bytes how arrived from values now) p Untold
    ≡ byte_after how (gate_at arrived a) (get_or values k 0) (get_or now p Untold)
in_run how arrived a k from p [] now is place below inside = absurd (omega arith)
in_run how arrived a zero from p (value ∷ values) now is place below inside =
    let same : a ≡ from = omega (arith, is) in
    beside_run how arrived a (from + 1) p values (with_byte how arrived from value now) place
    (inl (omega (arith, same)))
    ∙ ap (λ (b : ℕ). get_or (with_byte how arrived b value now) p Untold) (sym same)
    ∙ byte_here how arrived a value p now place inside
in_run how arrived a (suc k) from p (value ∷ values) now is place below inside =
    let size = size_byte how arrived from value now in
    in_run how arrived a k (from + 1) p values (with_byte how arrived from value now)
    (omega (arith, is)) place (omega (arith, below)) (omega (arith, size, inside))
    ∙ ap (byte_after how (gate_at arrived a) (get_or values k 0))
    (byte_else how arrived a from value p now place (λ same. omega (arith, is, same)))
