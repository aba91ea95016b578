-- Words as text: which literal a word is.
use Rattle.std.proofs.Common.{◌≡◌, ℕ, zero, suc, Bool, true, false, cond, List, [], ◌∷◌, refl, ap, ◌∙◌}
use Rattle.std.proofs.Common.{arith, lit<}
use Rattle.std.proofs.lemmas.Bool.Decides.{nat_tests}
use Rattle.std.proofs.lemmas.Slice.Eq.{bytes_eq-Decides}
use Rattle.std.proofs.lemmas.Str.{is_utf8-from_IsUtf8, IsUtf8-from_ascii, IsUtf8-from_is_utf8}
use Rattle.std.specs.List.{list_all}
use Rattle.std.specs.Str.{bytes_eq, is_utf8, IsAscii, IsUtf8}
use Rattle.ecat_scene.specs.Text.{is_text}
use Rattle.ecat_scene.specs.Words.{text_in}
use Rattle.ecat_scene.proofs.SpeltLemmas.{and-left, and-right}

-- a word that is text is its text, and one that is none is the empty text
pub text-is : (word : List ℕ) → IsUtf8 word → text_in word ≡ word
text-is word is = ap (λ b. cond b word []) (is_utf8-from_IsUtf8 word is)

no-text-by : (b : Bool) (word : List ℕ) → is_utf8 word ≡ b → (IsUtf8 word → ⊥) → cond b word [] ≡ []
no-text-by true word is none = absurd (none (IsUtf8-from_is_utf8 word is))
no-text-by false word is none = refl

pub no-text : (word : List ℕ) → (IsUtf8 word → ⊥) → text_in word ≡ []
no-text word none = no-text-by (is_utf8 word) word refl none

-- text of a line is UTF-8
text-ascii : (w : List ℕ) → list_all is_text w ≡ true → IsAscii w
text-ascii [] h k = lit< tt
text-ascii (c ∷ cs) h zero = let t = and-left (is_text c) (list_all is_text cs) h in grind (arith, nat_tests)
text-ascii (c ∷ cs) h (suc k) = text-ascii cs (and-right (is_text c) (list_all is_text cs) h) k

pub text-utf8 : (w : List ℕ) → list_all is_text w ≡ true → is_utf8 w ≡ true
text-utf8 w h = is_utf8-from_IsUtf8 w (IsUtf8-from_ascii w (text-ascii w h))

-- a word whose text is no literal is not the literal
other-by : (b : Bool) (word literal : List ℕ) → bytes_eq word literal ≡ b → is_utf8 literal ≡ true
    → (text_in word ≡ literal → ⊥) → b ≡ false
other-by true word literal same text other =
    let is = (bytes_eq-Decides word literal).0 same in
    absurd (other (ap text_in is ∙ ap (λ b. cond b literal []) text))
other-by false word literal same text other = refl

pub other : (word text literal : List ℕ) → text ≡ text_in word → list_all is_text literal ≡ true
    → (text ≡ literal → ⊥) → bytes_eq word literal ≡ false
other word text literal is letters differs =
    other-by (bytes_eq word literal) word literal refl (text-utf8 literal letters)
    (λ same. differs (is ∙ same))
