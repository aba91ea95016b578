-- What was put into a category is read as it was: texts, sync managers, PDOs and their entries.
use Rattle.std.proofs.Common.{◌≡◌, ℕ, suc, ◌+◌, ◌-◌, ◌*◌, ◌<◌, ◌≤◌, ◌^◌, Bool, true, false, not}
use Rattle.std.proofs.Common.{cond, ◌||◌, eqb, leb, ltb, List, [], ◌∷◌, ◌++◌, length, get_or}
use Rattle.std.proofs.Common.{refl, ◌∙◌, ap, arith, append_assoc, length-append}
use Rattle.std.specs.Prelude.{Option, Some, None, Result, Ok, Err}
use Rattle.std.specs.Int.{w16, to_le_bytes}
use Rattle.std.specs.List.{flat_map}
use Rattle.std.proofs.lemmas.Bool.{le-leb, lt-leb, ne_eqb}
use Rattle.ec_sii.specs.Image.{entry_bytes, pdo_bytes, sync_manager_bytes, text}
use Rattle.ec_sii.specs.Made.{made_entry, made_pdo, made_text}
use Rattle.ec_sii.specs.Reading.{entry_at, entry_of, has, manager_of, pdo_at, pdo_of, sync_manager_at}
use Rattle.ec_sii.specs.Reading.{text_at, text_place, word_at}
use Rattle.ec_sii.specs.declared.categories.PdoHead.{PdoHead}
use Rattle.ec_sii.specs.declared.categories.Text.{Text}
use Rattle.ec_sii.specs.declared.image.Pdo.{Pdo}
use Rattle.ec_sii.specs.declared.image.PdoEntry.{PdoEntry}
use Rattle.ec_sii.specs.declared.image.SiiSyncManager.{SiiSyncManager}
use Rattle.ec_sii.specs.declared.reading.SiiFault.{SiiFault}
use Rattle.ec_sii.specs.declared.reading.SiiFault.TheVariants.{CutPdo}
use Rattle.ec_sii.proofs.PlaceLemmas.{byte_behind, word_behind, word_made}

-- ---- texts

-- one text further, one is left less
pub text_place_step : (bytes : List ℕ) (at n k : ℕ) → k < n
    → text_place bytes (at + 1 + get_or bytes at 0) (n - (k + 1)) ≡ text_place bytes at (n - k)
text_place_step bytes at n k below =
    let more : n - k ≡ suc (n - (k + 1)) = omega arith in rw more refl

-- so many texts lead behind them
texts_passed : (front : List ℕ) (before : List (List ℕ)) (rest : List ℕ)
    → text_place (front ++ (flat_map text before ++ rest)) (length front) (length before)
    ≡ length front + length (flat_map text before)
texts_passed front [] rest = omega arith
texts_passed front (b ∷ more) rest =
    let at : ℕ = length front in
    let all : List ℕ = front ++ (flat_map text (b ∷ more) ++ rest) in
    let past : List ℕ = front ++ text b in
    let around : all ≡ past ++ (flat_map text more ++ rest) = simp append_assoc in
    let stated : get_or all at 0 ≡ length b =
    byte_behind front (flat_map text (b ∷ more) ++ rest) at 0 (omega arith) in
    let next : at + 1 + get_or all at 0 ≡ length past = omega (arith, stated, length-append front (text b)) in
    let size : length past + length (flat_map text more) ≡ at + length (flat_map text (b ∷ more)) =
    omega (arith, length-append front (text b), length-append (text b) (flat_map text more)) in
    (λ i. text_place (around i) (next i) (length more)) ∙ texts_passed past more rest ∙ size

-- the rows by their tests
abbrev text_rows : Bool → Bool → Bool → Text → Option Text
text_rows none past there t = cond (none || past) None (cond (not there) None (Some t))

text_there : (none past there : Bool) (t : Text) → none ≡ false → past ≡ false → there ≡ true
    → text_rows none past there t ≡ Some t
text_there none past there t a b c = rw (a, b, c) refl

pub text_read : (count : ℕ) (before : List (List ℕ)) (letters rest : List ℕ) → length before < count
    → text_at (count ∷ flat_map text before ++ text letters ++ rest) (length before + 1)
    ≡ Some (made_text before letters)
unfolding text_at
text_read count before letters rest below =
    let passed : List ℕ = flat_map text before in
    let front : List ℕ = count ∷ passed in
    let xs : List ℕ = text letters ++ rest in
    let all : List ℕ = front ++ xs in
    let number : ℕ = length before + 1 in
    let fewer : number - 1 ≡ length before = omega arith in
    let place : text_place all 1 (number - 1) ≡ 1 + length passed =
    ap (text_place all 1) fewer ∙ texts_passed (count ∷ []) before xs in
    let at : ℕ = text_place all 1 (number - 1) in
    let stated : get_or all at 0 ≡ length letters = byte_behind front xs at 0 (omega (arith, place)) in
    let whole : length all ≡ 1 + length passed + (1 + length letters + length rest) =
    omega (arith, length-append front xs, length-append (text letters) rest) in
    let there : has all at (1 + get_or all at 0) ≡ true =
    le-leb (at + (1 + get_or all at 0)) (length all) (omega (arith, place, stated, whole)) in
    let from : at + 1 ≡ 2 + length passed = omega (arith, place) in
    ap (λ (ys : List ℕ). text_at ys number) (append_assoc front (text letters) rest)
    ∙ text_there (eqb number 0) (ltb count number) (has all at (1 + get_or all at 0)) _
    (ne_eqb number 0 (λ is. omega arith)) (lt-leb (suc count) number (omega arith)) there
    ∙ (λ i. Some (record { from = from i; length = stated i }))

-- ---- sync managers

pub sync_manager_read : (front rest : List ℕ) (m : SiiSyncManager) → m.start < 2 ^ 16 → m.length < 2 ^ 16
    → sync_manager_at (front ++ sync_manager_bytes m ++ rest) (length front) ≡ Some m
sync_manager_read front rest m starts sized =
    let at : ℕ = length front in
    let xs : List ℕ = sync_manager_bytes m ++ rest in
    let all : List ℕ = front ++ xs in
    let there : has all at 8 ≡ true =
    le-leb (at + 8) (length all) (omega (arith, length-append front xs)) in
    let start : word_at all at ≡ m.start =
    word_behind front xs at 0 (omega arith) ∙ word_made m.start [] starts in
    let size : word_at all (at + 2) ≡ m.length =
    word_behind front xs (at + 2) 2 refl ∙ word_made m.length [] sized in
    let control : get_or all (at + 4) 0 ≡ m.control = byte_behind front xs (at + 4) 4 refl in
    let enable : get_or all (at + 6) 0 ≡ m.enable = byte_behind front xs (at + 6) 6 refl in
    let kind : get_or all (at + 7) 0 ≡ m.kind = byte_behind front xs (at + 7) 7 refl in
    ap (λ (ys : List ℕ). sync_manager_at ys at) (append_assoc front (sync_manager_bytes m) rest)
    ∙ ap (λ (b : Bool). cond b (Some (manager_of all at)) None) there
    ∙ (λ i. Some (record {
      start = start i;
      length = size i;
      control = control i;
      enable = enable i;
      kind = kind i;
    }))

-- ---- PDOs

-- the rows by their tests
abbrev pdo_rows : Bool → Bool → Bool → PdoHead → Result (Option PdoHead) SiiFault
pdo_rows past head entries p =
    cond past (Ok None) (cond (not head) (Err CutPdo) (cond (not entries) (Err CutPdo) (Ok (Some p))))

pdo_there : (past head entries : Bool) (p : PdoHead) → past ≡ false → head ≡ true → entries ≡ true
    → pdo_rows past head entries p ≡ Ok (Some p)
pdo_there past head entries p a b c = rw (a, b, c) refl

-- a PDO that is all there
pdo_found : (bytes : List ℕ) (at : ℕ) → at + 8 + 8 * get_or bytes (at + 2) 0 ≤ length bytes
    → pdo_at bytes at ≡ Ok (Some (pdo_of bytes at))
unfolding pdo_at
pdo_found bytes at there =
    pdo_there (leb (length bytes) at) (has bytes at 8) (has bytes (at + 8) (8 * get_or bytes (at + 2) 0)) _
    (lt-leb (length bytes) at (omega arith)) (le-leb (at + 8) (length bytes) (omega arith))
    (le-leb (at + 8 + 8 * get_or bytes (at + 2) 0) (length bytes) there)

-- an entry takes eight bytes
entries_size : (es : List PdoEntry) → length (flat_map entry_bytes es) ≡ 8 * length es
entries_size [] = refl
entries_size (e ∷ more) = omega (arith, entries_size more)

pub pdo_read : (front rest : List ℕ) (name : ℕ) (p : Pdo) → p.index < 2 ^ 16
    → pdo_at (front ++ pdo_bytes name p ++ rest) (length front) ≡ Ok (Some (made_pdo name p (length front)))
pdo_read front rest name p small =
    let at : ℕ = length front in
    let entries : List ℕ = flat_map entry_bytes p.entries.items in
    let xs : List ℕ = pdo_bytes name p ++ rest in
    let all : List ℕ = front ++ xs in
    let index : word_at all at ≡ p.index =
    word_behind front xs at 0 (omega arith) ∙ word_made p.index [] small in
    let count : get_or all (at + 2) 0 ≡ length p.entries.items = byte_behind front xs (at + 2) 2 refl in
    let manager : get_or all (at + 3) 0 ≡ p.sync_manager = byte_behind front xs (at + 3) 3 refl in
    let sync : get_or all (at + 4) 0 ≡ 0 = byte_behind front xs (at + 4) 4 refl in
    let named : get_or all (at + 5) 0 ≡ name = byte_behind front xs (at + 5) 5 refl in
    let flags : word_at all (at + 6) ≡ 0 = word_behind front xs (at + 6) 6 refl in
    let eight : length entries ≡ 8 * length p.entries.items = entries_size p.entries.items in
    let whole : length all ≡ at + (8 + (length entries + length rest)) =
    omega (arith, length-append front xs, length-append entries rest) in
    let next : at + 8 + 8 * get_or all (at + 2) 0 ≡ at + length (pdo_bytes name p) =
    omega (arith, count, eight) in
    ap (λ (ys : List ℕ). pdo_at ys at) (append_assoc front (pdo_bytes name p) rest)
    ∙ pdo_found all at (omega (arith, count, eight, whole))
    ∙ (λ i. Ok (Some (record {
      index = index i;
      count = count i;
      sync_manager = manager i;
      sync = sync i;
      name = named i;
      flags = flags i;
      from = at + 8;
      next = next i;
    })))

-- an entry between others
entry_read : (front rest : List ℕ) (e : PdoEntry) → e.index < 2 ^ 16
    → entry_at (front ++ (entry_bytes e ++ rest)) (length front) ≡ Some (made_entry e)
entry_read front rest e small =
    let at : ℕ = length front in
    let xs : List ℕ = entry_bytes e ++ rest in
    let all : List ℕ = front ++ xs in
    let there : has all at 8 ≡ true =
    le-leb (at + 8) (length all) (omega (arith, length-append front xs)) in
    let index : word_at all at ≡ e.index =
    word_behind front xs at 0 (omega arith) ∙ word_made e.index [] small in
    let subindex : get_or all (at + 2) 0 ≡ e.subindex = byte_behind front xs (at + 2) 2 refl in
    let name : get_or all (at + 3) 0 ≡ 0 = byte_behind front xs (at + 3) 3 refl in
    let kind : get_or all (at + 4) 0 ≡ e.kind = byte_behind front xs (at + 4) 4 refl in
    let bits : get_or all (at + 5) 0 ≡ e.bits = byte_behind front xs (at + 5) 5 refl in
    ap (λ (b : Bool). cond b (Some (entry_of all at)) None) there
    ∙ (λ i. Some (record {
      entry = record { index = index i; subindex = subindex i; kind = kind i; bits = bits i };
      name = name i;
    }))

entries_split : (before after : List PdoEntry) (e : PdoEntry)
    → flat_map entry_bytes (before ++ e ∷ after)
    ≡ flat_map entry_bytes before ++ (entry_bytes e ++ flat_map entry_bytes after)
entries_split [] after e = refl
entries_split (b ∷ before) after e =
    ap (λ (ys : List ℕ). entry_bytes b ++ ys) (entries_split before after e)

regrouped : (front head before e after rest : List ℕ)
    → front ++ (head ++ (before ++ (e ++ after))) ++ rest
    ≡ front ++ (head ++ before) ++ (e ++ (after ++ rest))
regrouped front head before e after rest = simp append_assoc

pub pdo_entry_read : (front rest : List ℕ) (name : ℕ) (p : Pdo) (before after : List PdoEntry) (e : PdoEntry)
    → p.entries.items ≡ before ++ e ∷ after → e.index < 2 ^ 16
    → entry_at (front ++ pdo_bytes name p ++ rest) (length front + 8 + 8 * length before)
    ≡ Some (made_entry e)
pdo_entry_read front rest name p before after e is small =
    let head : List ℕ =
    to_le_bytes w16 p.index ++ (length p.entries.items ∷ p.sync_manager ∷ 0 ∷ name ∷ 0 ∷ 0 ∷ []) in
    let passed : List ℕ = flat_map entry_bytes before in
    let left : List ℕ = flat_map entry_bytes after in
    let past : List ℕ = front ++ (head ++ passed) in
    let split : flat_map entry_bytes p.entries.items ≡ passed ++ (entry_bytes e ++ left) =
    ap (flat_map entry_bytes) is ∙ entries_split before after e in
    let around : front ++ pdo_bytes name p ++ rest ≡ past ++ (entry_bytes e ++ (left ++ rest)) =
    ap (λ (ys : List ℕ). front ++ (head ++ ys) ++ rest) split
    ∙ regrouped front head passed (entry_bytes e) left rest in
    let place : length front + 8 + 8 * length before ≡ length past =
    omega (arith, length-append front (head ++ passed), entries_size before) in
    (λ i. entry_at (around i) (place i)) ∙ entry_read past (left ++ rest) e small
