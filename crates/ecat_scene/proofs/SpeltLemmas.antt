-- What is written is parted into the words that it was put together of.
use Rattle.std.proofs.Common.{◌≡◌, ℕ, zero, suc, ◌-◌, ◌<◌, ◌≤◌, ◌^◌, ◌&&◌, Bool, true, false, not, List, []}
use Rattle.std.proofs.Common.{◌∷◌, ◌++◌, All, length, refl, ap, sym, subst, ◌∙◌, arith, filter, cond, codes}
use Rattle.std.proofs.Common.{◌/◌, ◌%◌, lit<, lit≤, append_assoc, slice_index}
use Rattle.std.proofs.lemmas.Bool.{true≢false}
use Rattle.std.proofs.lemmas.Bool.Decides.{nat_tests}
use Rattle.std.proofs.lemmas.List.{append-nil}
use Rattle.std.proofs.lemmas.List.Elements.{All-nil, All-cons}
use Rattle.std.proofs.lemmas.List.Splits.{slice_split_at, slice_split_none}
use Rattle.std.proofs.lemmas.Fmt.{decimal_is_IsNumeral, digits_is_IsNumeral}
use Rattle.std.specs.Char.{digit_value}
use Rattle.std.specs.Fmt.{decimal, digits}
use Rattle.std.specs.List.{list_all}
use Rattle.std.specs.Str.Parse.{AllDigits}
use Rattle.ecat_scene.specs.declared.written.AreaKind.{AreaKind}
use Rattle.ecat_scene.specs.declared.written.AreaKind.TheVariants.{MailboxWrite, MailboxRead, Write, Read}
use Rattle.hex.specs.Hex.{encode_lower, encode_with, lower_digits}
use Rattle.ec_regs.specs.Al.{code_of}
use Rattle.ec_regs.specs.declared.al.AlState.{AlState}
use Rattle.ec_regs.specs.declared.al.AlState.TheVariants.{Init, PreOp, SafeOp, Op}
use Rattle.ec_app.specs.Value.{FitsValue}
use Rattle.ec_app.specs.declared.value.Rights.{Rights}
use Rattle.ec_app.specs.declared.value.Rights.TheVariants.{ReadOnly, WriteOnly, Both}
use Rattle.ec_app.specs.declared.value.Value.{Value}
use Rattle.ec_app.specs.declared.value.Value.TheVariants.{One, Two, Four}
use Rattle.ec_wire.specs.Datagram.{ado_of, adp_of}
use Rattle.ec_wire.specs.declared.kind.Kind.{Kind}
use Rattle.ec_wire.specs.declared.kind.Kind.TheVariants.{Lrd, Lwr, Lrw, Brd, Fprd, Fpwr}
use Rattle.ecat_scene.specs.declared.written.Through.{Through}
use Rattle.ecat_scene.specs.declared.written.Through.TheVariants.{Reads, Writes, ReadsAndWrites}
use Rattle.ecat_scene.specs.declared.written.SceneLine.{SceneLine}
use Rattle.ecat_scene.specs.declared.written.SceneLine.TheVariants.{Slave, State, Simple, Areas, SyncMan}
use Rattle.ecat_scene.specs.declared.written.SceneLine.TheVariants.{Fmmu as FmmuLine, Load, Object, Startup}
use Rattle.ecat_scene.specs.declared.written.SceneLine.TheVariants.{Item}
use Rattle.ecat_scene.specs.Lines.{area_word, hexadecimal, item_words, line_words, object_words, rights_word}
use Rattle.ecat_scene.specs.Lines.{through_word}
use Rattle.ecat_scene.specs.Spelt.{ends_with_row, hex_word, IsSpelt, item_spelt, object_spelt, spelt}
use Rattle.ecat_scene.specs.Text.{has_bytes, is_space, words_in}
use Rattle.ecat_scene.proofs.NumberLemmas.{pad-all, padded}

-- a word: something, and no space
pub record IsWord (w : List ℕ) : Type 0 where
  pub some : 0 < length w
  pub whole : All (λ c. is_space c ≡ false) w

-- the first word
pub words-more : (w rest : List ℕ) → IsWord w → words_in (w ++ 32 ∷ rest) ≡ w ∷ words_in rest
words-more w rest is =
    ap (filter has_bytes) (slice_split_at is_space w 32 rest is.whole refl)
    ∙ ap (λ b. cond b (w ∷ words_in rest) (words_in rest)) (filled w is.some)
  where
    filled : (v : List ℕ) → 0 < length v → has_bytes v ≡ true
    filled v h = grind (arith, nat_tests)

-- the last one
pub words-last : (w : List ℕ) → IsWord w → words_in w ≡ w ∷ []
words-last w is =
    ap (filter has_bytes) (slice_split_none is_space w is.whole)
    ∙ ap (λ b. cond b (w ∷ []) []) (filled w is.some)
  where
    filled : (v : List ℕ) → 0 < length v → has_bytes v ≡ true
    filled v h = grind (arith, nat_tests)

-- ---- words that are put together

abbrev pub joined : List (List ℕ) → List ℕ
joined [] = []
joined (w ∷ []) = w
joined (w ∷ v ∷ ws) = w ++ 32 ∷ joined (v ∷ ws)

abbrev pub AreWords : List (List ℕ) → Type 0
AreWords [] = Unit {0}
AreWords (w ∷ ws) = IsWord w × AreWords ws

pub words-joined : (ws : List (List ℕ)) → AreWords ws → 0 < length ws → words_in (joined ws) ≡ ws
words-joined [] are some = absurd (omega arith)
words-joined (w ∷ []) are some = words-last w are.0
words-joined (w ∷ v ∷ ws) are some =
    words-more w (joined (v ∷ ws)) are.0
    ∙ ap (λ rest. w ∷ rest) (words-joined (v ∷ ws) are.1 (omega arith))

-- words in front of what ends a line
abbrev pub led : List (List ℕ) → List ℕ → List ℕ
led [] rest = rest
led (w ∷ ws) rest = w ++ 32 ∷ led ws rest

pub words-led : (ws : List (List ℕ)) (rest : List ℕ) → AreWords ws
    → words_in (led ws rest) ≡ ws ++ words_in rest
words-led [] rest are = refl
words-led (w ∷ ws) rest are =
    words-more w (led ws rest) are.0 ∙ ap (λ r. w ∷ r) (words-led ws rest are.1)

pub words-none : words_in [] ≡ []
words-none = ap (filter has_bytes) (slice_split_none is_space [] (All-nil (λ c. is_space c ≡ false)))

-- ---- numbers are words

pub digit-whole : (b c : ℕ) → b ≤ 16 → digit_value c < b → is_space c ≡ false
digit-whole b c low h = grind (arith, nat_tests)

pub digits-whole : (b : ℕ) (ds : List ℕ) → b ≤ 16 → AllDigits b ds → All (λ c. is_space c ≡ false) ds
digits-whole b [] low all = All-nil (λ c. is_space c ≡ false)
digits-whole b (c ∷ cs) low all =
    All-cons (λ x. is_space x ≡ false) c cs (digit-whole b c low all.0) (digits-whole b cs low all.1)

pub decimal-word : (n : ℕ) → n < 2 ^ 64 → IsWord (decimal n)
decimal-word n small =
    let numeral = decimal_is_IsNumeral n small in
    record { some = numeral.0.0; whole = digits-whole 10 (decimal n) (lit≤ tt) numeral.0.1 }

pub hexadecimal-numeral : (w n : ℕ) → n < 2 ^ 64 → AllDigits 16 (hexadecimal w n)
hexadecimal-numeral w n small =
    let ds = digits 16 false n in
    let numeral = digits_is_IsNumeral 16 false (lit≤ tt) (lit≤ tt) n (wide n small) in
    subst (AllDigits 16) (sym (padded w n)) (pad-all 16 (w - length ds) ds (lit< tt) numeral.0.1)
  where
    wide : (m : ℕ) → m < 2 ^ 64 → m < 16 ^ 64
    wide m h = omega (arith, h)

pub hex-word : (w n : ℕ) → n < 2 ^ 64 → IsWord (hex_word w n)
hex-word w n small =
    let P : ℕ → Type 0 = λ c. is_space c ≡ false in
    let numeral = hexadecimal-numeral w n small in
    record {
      some = omega arith;
      whole = All-cons P 48 (120 ∷ hexadecimal w n) refl
          (All-cons P 120 (hexadecimal w n) refl (digits-whole 16 (hexadecimal w n) (lit≤ tt) numeral));
    }

-- ---- words of letters

abbrev pub not_space : ℕ → Bool
not_space c = not (is_space c)

pub and-left : (a b : Bool) → (a && b) ≡ true → a ≡ true
and-left true b h = refl
and-left false b h = h

pub and-right : (a b : Bool) → (a && b) ≡ true → b ≡ true
and-right true b h = h
and-right false b h = absurd (true≢false (sym h))

not-true : (a : Bool) → not a ≡ true → a ≡ false
not-true false h = refl
not-true true h = sym h

letters : (w : List ℕ) → list_all not_space w ≡ true → All (λ c. is_space c ≡ false) w
letters [] h = All-nil (λ c. is_space c ≡ false)
letters (c ∷ cs) h =
    All-cons (λ x. is_space x ≡ false) c cs
    (not-true (is_space c) (and-left (not_space c) (list_all not_space cs) h))
    (letters cs (and-right (not_space c) (list_all not_space cs) h))

letter-word : (w : List ℕ) → 0 < length w → list_all not_space w ≡ true → IsWord w
letter-word w some h = record { some = some; whole = letters w h }

pub area-word : (k : AreaKind) → IsWord (area_word k)
area-word MailboxWrite = letter-word _ (lit< tt) refl
area-word MailboxRead = letter-word _ (lit< tt) refl
area-word Write = letter-word _ (lit< tt) refl
area-word Read = letter-word _ (lit< tt) refl

pub through-word : (t : Through) → IsWord (through_word t)
through-word Reads = letter-word _ (lit< tt) refl
through-word Writes = letter-word _ (lit< tt) refl
through-word ReadsAndWrites = letter-word _ (lit< tt) refl

pub state-word : (s : AlState) → IsWord (decimal (code_of s))
state-word Init = decimal-word 1 (lit< tt)
state-word PreOp = decimal-word 2 (lit< tt)
state-word SafeOp = decimal-word 4 (lit< tt)
state-word Op = decimal-word 8 (lit< tt)

pub rights-word : (r : Rights) → IsWord (rights_word r)
rights-word ReadOnly = letter-word _ (lit< tt) refl
rights-word WriteOnly = letter-word _ (lit< tt) refl
rights-word Both = letter-word _ (lit< tt) refl

-- ---- rows of bytes

-- what stands at a place of a row without spaces is none, nor is what stands past its end
no-space-at : (w : List ℕ) → list_all not_space w ≡ true → (k : ℕ) → is_space (slice_index w k) ≡ false
no-space-at [] h k = refl
no-space-at (c ∷ cs) h zero = not-true (is_space c) (and-left (not_space c) (list_all not_space cs) h)
no-space-at (c ∷ cs) h (suc k) = no-space-at cs (and-right (not_space c) (list_all not_space cs) h) k

row-whole : (bytes : List ℕ) → All (λ c. is_space c ≡ false) (encode_lower bytes)
unfolding encode_with
row-whole [] = All-nil (λ c. is_space c ≡ false)
row-whole (b ∷ bytes) =
    let P : ℕ → Type 0 = λ c. is_space c ≡ false in
    All-cons P (slice_index lower_digits (b / 16)) (slice_index lower_digits (b % 16) ∷ encode_lower bytes)
    (no-space-at lower_digits refl (b / 16))
    (All-cons P (slice_index lower_digits (b % 16)) (encode_lower bytes)
    (no-space-at lower_digits refl (b % 16)) (row-whole bytes))

pub row-word : (bytes : List ℕ) → 0 < length bytes → IsWord (encode_lower bytes)
unfolding encode_with
row-word [] some = absurd (omega arith)
row-word (b ∷ bytes) some = record { some = omega arith; whole = row-whole (b ∷ bytes) }

-- ---- lines

regroup-areas : (a b : List ℕ) → codes "areas " ++ a ++ codes " " ++ b ≡ joined (codes "areas" ∷ a ∷ b ∷ [])
regroup-areas a b = simp append_assoc refl

regroup-sm : (a h l k : List ℕ) → codes "sm " ++ a ++ codes " 0x" ++ h ++ codes " " ++ l ++ codes " " ++ k
    ≡ joined (codes "sm" ∷ a ∷ (codes "0x" ++ h) ∷ l ∷ k ∷ [])
regroup-sm a h l k = simp append_assoc refl

-- four words, and three
regroup-4 : (a b c d : List ℕ) → a ++ codes " " ++ b ++ codes " " ++ c ++ codes " " ++ d
    ≡ a ++ 32 ∷ (b ++ 32 ∷ (c ++ 32 ∷ d))
regroup-4 a b c d = simp append_assoc refl

regroup-3 : (a b c : List ℕ) → a ++ codes " " ++ b ++ codes " " ++ c ≡ a ++ 32 ∷ (b ++ 32 ∷ c)
regroup-3 a b c = simp append_assoc refl

-- what stands behind four words
behind-4 : (a b c d w : List ℕ)
    → (a ++ 32 ∷ (b ++ 32 ∷ (c ++ 32 ∷ d))) ++ w ≡ a ++ 32 ∷ (b ++ 32 ∷ (c ++ 32 ∷ (d ++ w)))
behind-4 a b c d w =
    append_assoc a (32 ∷ (b ++ 32 ∷ (c ++ 32 ∷ d))) w
    ∙ ap (λ r. a ++ 32 ∷ r) (append_assoc b (32 ∷ (c ++ 32 ∷ d)) w
    ∙ ap (λ r. b ++ 32 ∷ r) (append_assoc c (32 ∷ d) w))

regroup-sides : (n x y : List ℕ) → codes "fmmu " ++ n ++ codes " 0x" ++ x ++ codes " 0x" ++ y
    ≡ codes "fmmu " ++ (n ++ 32 ∷ 48 ∷ 120 ∷ (x ++ 32 ∷ 48 ∷ 120 ∷ y))
regroup-sides n x y = simp append_assoc refl

regroup-fmmu : (n lo le f la p b t : List ℕ)
    → codes "fmmu " ++ n ++ codes " 0x" ++ (lo ++ codes " " ++ le ++ codes " " ++ f ++ codes " " ++ la)
    ++ codes " 0x" ++ (p ++ codes " " ++ b ++ codes " " ++ t)
    ≡ joined (codes "fmmu" ∷ n ∷ (codes "0x" ++ lo) ∷ le ∷ f ∷ la ∷ (codes "0x" ++ p) ∷ b ∷ t ∷ [])
regroup-fmmu n lo le f la p b t =
    let x = lo ++ codes " " ++ le ++ codes " " ++ f ++ codes " " ++ la in
    let y = p ++ codes " " ++ b ++ codes " " ++ t in
    regroup-sides n x y
    ∙ ap (λ r. codes "fmmu " ++ (n ++ 32 ∷ 48 ∷ 120 ∷ r))
    (ap (λ r. r ++ 32 ∷ 48 ∷ 120 ∷ y) (regroup-4 lo le f la) ∙ behind-4 lo le f la (32 ∷ 48 ∷ 120 ∷ y)
    ∙ ap (λ r. lo ++ 32 ∷ (le ++ 32 ∷ (f ++ 32 ∷ (la ++ 32 ∷ 48 ∷ 120 ∷ r)))) (regroup-3 p b t))

regroup-front : (i s x : List ℕ)
    → codes "object 0x" ++ i ++ codes " " ++ s ++ codes " " ++ x
    ≡ codes "object 0x" ++ (i ++ 32 ∷ (s ++ 32 ∷ x))
regroup-front i s x = simp append_assoc refl

regroup-value : (r v : List ℕ) → r ++ codes " 0x" ++ v ≡ r ++ 32 ∷ 48 ∷ 120 ∷ v
regroup-value r v = simp append_assoc refl

regroup-object : (i s z r v : List ℕ)
    → codes "object 0x" ++ i ++ codes " " ++ s ++ codes " " ++ (z ++ 32 ∷ (r ++ codes " 0x" ++ v))
    ≡ joined (codes "object" ∷ (codes "0x" ++ i) ∷ s ∷ z ∷ r ∷ (codes "0x" ++ v) ∷ [])
regroup-object i s z r v =
    regroup-front i s (z ++ 32 ∷ (r ++ codes " 0x" ++ v))
    ∙ ap (λ y. codes "object 0x" ++ (i ++ 32 ∷ (s ++ 32 ∷ (z ++ 32 ∷ y)))) (regroup-value r v)

led-1 : (a h rest : List ℕ)
    → (a ++ 32 ∷ 48 ∷ 120 ∷ (h ++ codes " ")) ++ rest ≡ led (a ∷ (codes "0x" ++ h) ∷ []) rest
led-1 a h rest = simp append_assoc refl

led-2 : (a h d rest : List ℕ)
    → (a ++ 32 ∷ 48 ∷ 120 ∷ (h ++ codes " " ++ d ++ codes " ")) ++ rest
    ≡ led (a ∷ (codes "0x" ++ h) ∷ d ∷ []) rest
led-2 a h d rest = simp append_assoc refl

led-hex : (a h d rest : List ℕ)
    → (a ++ 32 ∷ 48 ∷ 120 ∷ (h ++ codes " 0x" ++ d ++ codes " ")) ++ rest
    ≡ led (a ∷ (codes "0x" ++ h) ∷ (codes "0x" ++ d) ∷ []) rest
led-hex a h d rest = simp append_assoc refl

-- the words of a line that no row of bytes ends stand with a space between each two
object-joined : (i s : List ℕ) (r : Rights) (v : Value)
    → codes "object 0x" ++ i ++ codes " " ++ s ++ codes " " ++ object_words r v
    ≡ joined (codes "object" ∷ (codes "0x" ++ i) ∷ s ∷ object_spelt r v)
object-joined i s r (One n) = regroup-object i s (codes "1") (rights_word r) (hexadecimal 2 n)
object-joined i s r (Two n) = regroup-object i s (codes "2") (rights_word r) (hexadecimal 4 n)
object-joined i s r (Four n) = regroup-object i s (codes "4") (rights_word r) (hexadecimal 8 n)

pub line-joined : (line : SceneLine) → ends_with_row line ≡ false → line_words line ≡ joined (spelt line)
line-joined (Slave s) h = refl
line-joined (State s) h = refl
line-joined Simple h = refl
line-joined (Areas o i) h = regroup-areas (decimal o) (decimal i)
line-joined (SyncMan n s l k) h = regroup-sm (decimal n) (hexadecimal 4 s) (decimal l) (area_word k)
line-joined (FmmuLine n lo le f la p b t) h =
    regroup-fmmu (decimal n) (hexadecimal 8 lo) (decimal le) (decimal f) (decimal la) (hexadecimal 4 p)
    (decimal b) (through_word t)
line-joined (Load a) h = absurd (true≢false h)
line-joined (Object i s r v) h = object-joined (hexadecimal 4 i) (decimal s) r v
line-joined (Startup i s) h = absurd (true≢false h)
line-joined (Item k a) h = absurd (true≢false h)

-- those of a line that one ends stand with a space behind each
item-led : (k : Kind) (a : ℕ) (rest : List ℕ) → item_words k a ++ rest ≡ led (item_spelt k a) rest
item-led Lrd a rest = led-1 (codes "lrd") (hexadecimal 8 a) rest
item-led Lwr a rest = led-1 (codes "lwr") (hexadecimal 8 a) rest
item-led Lrw a rest = led-1 (codes "lrw") (hexadecimal 8 a) rest
item-led Brd a rest = led-1 (codes "brd") (hexadecimal 4 a) rest
item-led Fprd a rest = led-hex (codes "fprd") (hexadecimal 4 (adp_of a)) (hexadecimal 4 (ado_of a)) rest
item-led Fpwr a rest = led-hex (codes "fpwr") (hexadecimal 4 (adp_of a)) (hexadecimal 4 (ado_of a)) rest

pub line-led : (line : SceneLine) (rest : List ℕ) → ends_with_row line ≡ true
    → line_words line ++ rest ≡ led (spelt line) rest
line-led (Slave s) rest h = absurd (true≢false (sym h))
line-led (State s) rest h = absurd (true≢false (sym h))
line-led Simple rest h = absurd (true≢false (sym h))
line-led (Areas o i) rest h = absurd (true≢false (sym h))
line-led (SyncMan n s l k) rest h = absurd (true≢false (sym h))
line-led (FmmuLine n lo le f la p b t) rest h = absurd (true≢false (sym h))
line-led (Load a) rest h = led-1 (codes "mem") (hexadecimal 4 a) rest
line-led (Object i s r v) rest h = absurd (true≢false (sym h))
line-led (Startup i s) rest h = led-2 (codes "startup") (hexadecimal 4 i) (decimal s) rest
line-led (Item k a) rest h = item-led k a rest

word : (w : List ℕ) → 0 < length w → list_all not_space w ≡ true → IsWord w
word w some h = letter-word w some h

object-spelt : (r : Rights) (v : Value) → FitsValue v → AreWords (object_spelt r v)
object-spelt r (One n) fits =
    (word _ (lit< tt) refl, (rights-word r, (hex-word 2 n (omega arith), tt)))
object-spelt r (Two n) fits =
    (word _ (lit< tt) refl, (rights-word r, (hex-word 4 n (omega arith), tt)))
object-spelt r (Four n) fits =
    (word _ (lit< tt) refl, (rights-word r, (hex-word 8 n (omega arith), tt)))

item-spelt : (k : Kind) (a : ℕ) → a < 2 ^ 64 → AreWords (item_spelt k a)
item-spelt Lrd a fits = (word _ (lit< tt) refl, (hex-word 8 a fits, tt))
item-spelt Lwr a fits = (word _ (lit< tt) refl, (hex-word 8 a fits, tt))
item-spelt Lrw a fits = (word _ (lit< tt) refl, (hex-word 8 a fits, tt))
item-spelt Brd a fits = (word _ (lit< tt) refl, (hex-word 4 a fits, tt))
item-spelt Fprd a fits =
    (word _ (lit< tt) refl, (hex-word 4 (adp_of a) (omega arith), (hex-word 4 (ado_of a) (omega arith), tt)))
item-spelt Fpwr a fits =
    (word _ (lit< tt) refl, (hex-word 4 (adp_of a) (omega arith), (hex-word 4 (ado_of a) (omega arith), tt)))

pub spelt-words : (line : SceneLine) → IsSpelt line → AreWords (spelt line)
spelt-words (Slave s) fits = (word _ (lit< tt) refl, (hex-word 4 s fits, tt))
spelt-words (State s) fits = (word _ (lit< tt) refl, (state-word s, tt))
spelt-words Simple fits = (word _ (lit< tt) refl, tt)
spelt-words (Areas o i) fits =
    (word _ (lit< tt) refl, (decimal-word o fits.0, (decimal-word i fits.1, tt)))
spelt-words (SyncMan n s l k) fits = (
  word _ (lit< tt) refl,
  (decimal-word n fits.0, (hex-word 4 s fits.1, (decimal-word l fits.2, (area-word k, tt)))),
)
spelt-words (FmmuLine n lo le f la p b t) fits =
    let behind : AreWords (hex_word 4 p ∷ decimal b ∷ through_word t ∷ []) =
    (hex-word 4 p fits.5, (decimal-word b fits.6, (through-word t, tt))) in
    let bits : AreWords (decimal f ∷ decimal la ∷ hex_word 4 p ∷ decimal b ∷ through_word t ∷ []) =
    (decimal-word f fits.3, (decimal-word la fits.4, behind)) in (
      word _ (lit< tt) refl,
      (decimal-word n fits.0, (hex-word 8 lo fits.1, (decimal-word le fits.2, bits))),
    )
spelt-words (Load a) fits = (word _ (lit< tt) refl, (hex-word 4 a fits, tt))
spelt-words (Object i s r v) fits =
    (word _ (lit< tt) refl, (hex-word 4 i fits.0, (decimal-word s fits.1, object-spelt r v fits.2)))
spelt-words (Startup i s) fits =
    (word _ (lit< tt) refl, (hex-word 4 i fits.0, (decimal-word s fits.1, tt)))
spelt-words (Item k a) fits = item-spelt k a fits

spelt-some : (line : SceneLine) → ends_with_row line ≡ false → 0 < length (spelt line)
spelt-some (Slave s) h = omega arith
spelt-some (State s) h = omega arith
spelt-some Simple h = omega arith
spelt-some (Areas o i) h = omega arith
spelt-some (SyncMan n s l k) h = omega arith
spelt-some (FmmuLine n lo le f la p b t) h = omega arith
spelt-some (Load a) h = absurd (true≢false h)
spelt-some (Object i s r v) h = omega arith
spelt-some (Startup i s) h = absurd (true≢false h)
spelt-some (Item k a) h = absurd (true≢false h)

back-by : (b : Bool) (line : SceneLine) → ends_with_row line ≡ b → IsSpelt line
    → words_in (line_words line) ≡ spelt line
back-by true line row fits =
    let ws = spelt line in
    ap words_in (sym (append-nil (line_words line)) ∙ line-led line [] row)
    ∙ words-led ws [] (spelt-words line fits) ∙ ap (λ r. ws ++ r) words-none ∙ append-nil ws
back-by false line row fits =
    ap words_in (line-joined line row)
    ∙ words-joined (spelt line) (spelt-words line fits) (spelt-some line row)

pub lines-back : (line : SceneLine) → IsSpelt line → words_in (line_words line) ≡ spelt line
lines-back line fits = back-by (ends_with_row line) line refl fits

pub rows-back : (line : SceneLine) (bytes : List ℕ) → IsSpelt line → ends_with_row line ≡ true
    → 0 < length bytes
    → words_in (line_words line ++ encode_lower bytes) ≡ spelt line ++ encode_lower bytes ∷ []
rows-back line bytes fits row some =
    ap words_in (line-led line (encode_lower bytes) row)
    ∙ words-led (spelt line) (encode_lower bytes) (spelt-words line fits)
    ∙ ap (λ r. spelt line ++ r) (words-last (encode_lower bytes) (row-word bytes some))
