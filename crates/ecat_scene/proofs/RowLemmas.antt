-- A row of bytes: its test and its bytes.
use Rattle.std.proofs.Common.{◌≡◌, ◌%◌, ◌&&◌, ℕ, Bool, true, false, cond, eqb, List, [], ◌∷◌, Result, Ok, Err}
use Rattle.std.proofs.Common.{refl, ap, sym, ◌∙◌, arith, eq-eqb, length, is_some}
use Rattle.std.proofs.lemmas.Bool.{eqb-true, true≢false}
use Rattle.std.proofs.lemmas.Bool.Decides.{nat_tests}
use Rattle.std.proofs.lemmas.List.Sums.{AllPass-from_list_all, list_all-from_AllPass}
use Rattle.std.specs.List.{list_all}
use Rattle.hex.proofs.HexLemmas.{decode_of-digits, decode_of-ok}
use Rattle.hex.specs.Hex.{decode_of, is_hex_digit}
use Rattle.hex.specs.declared.error.FromHexError.{FromHexError}
use Rattle.ecat_scene.specs.declared.fault.LineFault.{LineFault}
use Rattle.ecat_scene.specs.declared.fault.LineFault.TheVariants.{BadNumber}
use Rattle.ecat_scene.specs.Numbers.{digit_of}
use Rattle.ecat_scene.specs.Words.{bytes_of, decoded, is_digit, row_of, seen}

untested : (b : Bool) (fault : LineFault) (read : Result (List ℕ) LineFault) (bytes : List ℕ)
    → seen {B = Unit {0}} (λ _. tt) (cond b (Err fault) read) ≡ Ok tt → cond b (Err fault) read ≡ read
untested true fault read bytes h = cc h
untested false fault read bytes h = refl

-- ---- which words are rows

-- the two tables of digits agree
same-digit : (c : ℕ) → is_some (digit_of c) ≡ is_hex_digit c
same-digit c = grind (arith, nat_tests)

same-digits : (w : List ℕ) → list_all is_digit w ≡ list_all is_hex_digit w
same-digits [] = refl
same-digits (c ∷ cs) =
    ap (λ b. b && list_all is_digit cs) (same-digit c) ∙ ap (λ b. is_hex_digit c && b) (same-digits cs)

good-by : (read : Result (List ℕ) FromHexError) (bytes : List ℕ) → read ≡ Ok bytes
    → Ok tt ≡ seen {B = Unit {0}} (λ _. tt) (decoded read)
good-by (Ok found) bytes h = refl
good-by (Err fault) bytes h = cc h

bad-by : (read : Result (List ℕ) FromHexError) → ((bytes : List ℕ) → read ≡ Ok bytes → ⊥)
    → Err BadNumber ≡ seen {B = Unit {0}} (λ _. tt) (decoded read)
bad-by (Ok found) none = absurd (none found refl)
bad-by (Err fault) none = refl

filled : (word : List ℕ) (b : Bool) → eqb (length word) 0 ≡ b → b ≡ false → row_of word ≡ bytes_of word
filled word b is h = ap (λ t. cond t (Err BadNumber) (bytes_of word)) (is ∙ h)

pub row-good : (word : List ℕ) → eqb (length word) 0 ≡ false → eqb (length word % 2) 0 ≡ true
    → list_all is_digit word ≡ true → Ok tt ≡ seen {B = Unit {0}} (λ _. tt) (row_of word)
row-good word some even all =
    let found = decode_of-digits word (eqb-true (length word % 2) 0 even)
    (AllPass-from_list_all is_hex_digit word (sym (same-digits word) ∙ all)) in
    good-by (decode_of word) found.0 found.1 ∙ ap (seen (λ _. tt)) (sym (filled word false some refl))

pub row-none : (word : List ℕ) → eqb (length word) 0 ≡ true
    → Err BadNumber ≡ seen {B = Unit {0}} (λ _. tt) (row_of word)
row-none word none = ap (λ t. seen (λ _. tt) (cond t (Err BadNumber) (bytes_of word))) (sym none)

row-bad-by : (b : Bool) (word : List ℕ) → eqb (length word) 0 ≡ b
    → ((bytes : List ℕ) → decode_of word ≡ Ok bytes → ⊥)
    → Err BadNumber ≡ seen {B = Unit {0}} (λ _. tt) (row_of word)
row-bad-by true word is none = row-none word is
row-bad-by false word is none =
    bad-by (decode_of word) none ∙ ap (seen (λ _. tt)) (sym (filled word false is refl))

pub row-odd : (word : List ℕ) → eqb (length word % 2) 0 ≡ false
    → Err BadNumber ≡ seen {B = Unit {0}} (λ _. tt) (row_of word)
row-odd word odd =
    row-bad-by (eqb (length word) 0) word refl
    (λ bytes h. true≢false (sym (eq-eqb (length word % 2) 0 (decode_of-ok word bytes h).0) ∙ odd))

pub row-other : (word : List ℕ) → list_all is_digit word ≡ false
    → Err BadNumber ≡ seen {B = Unit {0}} (λ _. tt) (row_of word)
row-other word other =
    row-bad-by (eqb (length word) 0) word refl
    (λ bytes h. true≢false (sym (list_all-from_AllPass is_hex_digit word (decode_of-ok word bytes h).1)
    ∙ sym (same-digits word) ∙ other))

-- ---- its bytes

-- the bytes of a word that is a row
pub row-bytes : (word bytes : List ℕ) → seen {B = Unit {0}} (λ _. tt) (row_of word) ≡ Ok tt
    → bytes_of word ≡ Ok bytes
    → row_of word ≡ Ok bytes
row-bytes word bytes test read = untested (eqb (length word) 0) _ (bytes_of word) bytes test ∙ read

fault-by : (read : Result (List ℕ) LineFault) (fault : LineFault)
    → seen {B = Unit {0}} (λ _. tt) read ≡ Err fault → read ≡ Err fault
fault-by (Ok bytes) fault h = cc h
fault-by (Err other) fault h = ap Err (cc h)

-- a word that is none
pub row-fault : (word : List ℕ) (fault : LineFault) → seen {B = Unit {0}} (λ _. tt) (row_of word) ≡ Err fault
    → row_of word ≡ Err fault
row-fault word fault h = fault-by (row_of word) fault h

pub ruleset rows = (row-bytes, row-fault)
