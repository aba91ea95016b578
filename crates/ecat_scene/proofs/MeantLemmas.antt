-- The text of lines that are written does what they mean.
use Rattle.std.proofs.Common.{◌≡◌, ◌<◌, ◌/◌, ◌%◌, ◌^◌, ◌&&◌, ◌++◌, ℕ, zero, suc, Bool, true, false, cond}
use Rattle.std.proofs.Common.{List, []}
use Rattle.std.proofs.Common.{◌∷◌, All, Some, Result, Ok, Err, refl, ap, sym, ◌∙◌, arith, length}
use Rattle.std.proofs.Common.{lit<, lit≤, ◌≤◌, not, slice_index}
use Rattle.std.proofs.lemmas.Bool.{true≢false}
use Rattle.std.proofs.lemmas.Bool.Decides.{nat_tests}
use Rattle.std.proofs.lemmas.List.{append-nil}
use Rattle.std.proofs.lemmas.List.Elements.{All-nil, All-cons}
use Rattle.std.proofs.lemmas.List.Folds.{list_all-append}
use Rattle.std.proofs.lemmas.List.Splits.{slice_split_at}
use Rattle.std.proofs.lemmas.Fmt.{decimal_is_IsNumeral}
use Rattle.std.specs.Char.{digit_value}
use Rattle.std.specs.Fmt.{decimal}
use Rattle.std.specs.List.{list_all, slice_split}
use Rattle.std.specs.Str.Parse.{AllDigits}
use Rattle.hex.specs.Hex.{encode_lower, encode_with, IsBytes, lower_digits}
use Rattle.ec_regs.specs.declared.al.AlState.{AlState}
use Rattle.ec_regs.specs.declared.al.AlState.TheVariants.{Init, PreOp, SafeOp, Op}
use Rattle.ec_regs.specs.Al.{code_of}
use Rattle.ec_app.specs.Value.{FitsValue}
use Rattle.ec_app.specs.declared.value.Rights.{Rights}
use Rattle.ec_app.specs.declared.value.Rights.TheVariants.{ReadOnly, WriteOnly, Both}
use Rattle.ec_app.specs.declared.value.Value.{Value}
use Rattle.ec_app.specs.declared.value.Value.TheVariants.{One, Two, Four}
use Rattle.ec_wire.specs.Datagram.{address_of, ado_of, adp_of}
use Rattle.ec_wire.specs.declared.kind.Kind.{Kind}
use Rattle.ec_wire.specs.declared.kind.Kind.TheVariants.{Lrd, Lwr, Lrw, Brd, Fprd, Fpwr}
use Rattle.ecat_scene.specs.declared.fault.LineFault.{LineFault}
use Rattle.ecat_scene.specs.declared.fault.LineFault.TheVariants.{NotText}
use Rattle.ecat_scene.specs.declared.written.AreaKind.{AreaKind}
use Rattle.ecat_scene.specs.declared.written.AreaKind.TheVariants.{MailboxWrite, MailboxRead, Write, Read}
use Rattle.ecat_scene.specs.declared.written.SceneLine.{SceneLine}
use Rattle.ecat_scene.specs.declared.written.SceneLine.TheVariants.{Slave, State, Simple, Areas, SyncMan}
use Rattle.ecat_scene.specs.declared.written.SceneLine.TheVariants.{Fmmu as FmmuLine, Load, Object, Startup}
use Rattle.ecat_scene.specs.declared.written.SceneLine.TheVariants.{Item}
use Rattle.ecat_scene.specs.declared.written.Through.{Through}
use Rattle.ecat_scene.specs.declared.written.Through.TheVariants.{Reads, Writes, ReadsAndWrites}
use Rattle.ecat_scene.specs.Deeds.{addressed_item_line, areas_line, areas_of, fmmu_line, is_comment}
use Rattle.ecat_scene.specs.Deeds.{is_line_end, item_line, line_does, lines_do, load_line, object_line}
use Rattle.ecat_scene.specs.Deeds.{simple_line, slave_line, startup_line, state_line, sync_man_line}
use Rattle.ecat_scene.specs.Deeds.{text_does}
use Rattle.ecat_scene.specs.Deeds.{then_does, words_do}
use Rattle.ecat_scene.specs.Fields.{fitting}
use Rattle.ecat_scene.specs.Numbers.{number_of}
use Rattle.ecat_scene.specs.Lines.{area_word, hexadecimal, item_words, line_words, object_words, rights_word}
use Rattle.ecat_scene.specs.Lines.{through_word}
use Rattle.ecat_scene.specs.Meant.{AreWritten, FitsLine, FitsRow, IsWritten, line_text, text_of_lines}
use Rattle.ecat_scene.specs.Meant.{with_line, with_lines, WrittenLine}
use Rattle.ecat_scene.specs.Scene.{SceneRecord}
use Rattle.ecat_scene.specs.Spelt.{ends_with_row, hex_word, IsSpelt, item_spelt, object_spelt, spelt}
use Rattle.ecat_scene.specs.Text.{is_text, words_in}
use Rattle.ecat_scene.specs.Words.{addressed_item_of, area_of, fmmu_of, fmmu_setting, item_of, load_of}
use Rattle.ecat_scene.specs.Words.{object_of, rights_of, row_of, startup_of, state_of, sync_man_of}
use Rattle.ecat_scene.specs.Words.{sync_man_setting, through_of, value_of, ◌>>=◌}
use Rattle.ecat_scene.proofs.NumberLemmas.{decimal-back, hexadecimal-back}
use Rattle.ecat_scene.proofs.SpeltLemmas.{and-left, and-right, hexadecimal-numeral, lines-back, rows-back}
use Rattle.ecat_scene.proofs.SpeltLemmas.{words-none}
use Rattle.ecat_scene.proofs.ThingLemmas.{area-back, rights-back, row-back, state-back, through-back}

-- ---- what is written is text

digit-text : (c : ℕ) → digit_value c < 16 → is_text c ≡ true
digit-text c h = grind (arith, nat_tests)

digits-text : (b : ℕ) (ds : List ℕ) → b ≤ 16 → AllDigits b ds → list_all is_text ds ≡ true
digits-text b [] low all = refl
digits-text b (c ∷ cs) low all =
    ap (λ t. t && list_all is_text cs) (digit-text c (omega arith)) ∙ digits-text b cs low all.1

decimal-text : (n : ℕ) → n < 2 ^ 64 → list_all is_text (decimal n) ≡ true
decimal-text n small = digits-text 10 (decimal n) (lit≤ tt) (decimal_is_IsNumeral n small).0.1

hex-text : (w n : ℕ) → n < 2 ^ 64 → list_all is_text (hexadecimal w n) ≡ true
hex-text w n small = digits-text 16 (hexadecimal w n) (lit≤ tt) (hexadecimal-numeral w n small)

text-at : (w : List ℕ) → list_all is_text w ≡ true → (k : ℕ) → k < length w → is_text (slice_index w k) ≡ true
text-at [] h k at = absurd (omega arith)
text-at (c ∷ cs) h zero at = and-left (is_text c) (list_all is_text cs) h
text-at (c ∷ cs) h (suc k) at = text-at cs (and-right (is_text c) (list_all is_text cs) h) k (omega arith)

row-text : (row : List ℕ) → IsBytes row → list_all is_text (encode_lower row) ≡ true
unfolding encode_with
row-text [] are = refl
row-text (b ∷ row) are =
    let small : b < 256 = are 0 in
    ap (λ t. t && (is_text (slice_index lower_digits (b % 16)) && list_all is_text (encode_lower row)))
    (text-at lower_digits refl (b / 16) (omega arith))
    ∙ ap (λ t. t && list_all is_text (encode_lower row)) (text-at lower_digits refl (b % 16) (omega arith))
    ∙ row-text row (λ k. are (suc k))

area-text : (k : AreaKind) → list_all is_text (area_word k) ≡ true
area-text MailboxWrite = refl
area-text MailboxRead = refl
area-text Write = refl
area-text Read = refl

through-text : (t : Through) → list_all is_text (through_word t) ≡ true
through-text Reads = refl
through-text Writes = refl
through-text ReadsAndWrites = refl

rights-text : (r : Rights) → list_all is_text (rights_word r) ≡ true
rights-text ReadOnly = refl
rights-text WriteOnly = refl
rights-text Both = refl

code-small : (s : AlState) → code_of s < 2 ^ 64
code-small Init = lit< tt
code-small PreOp = lit< tt
code-small SafeOp = lit< tt
code-small Op = lit< tt

-- ---- the numbers of a line that is written have 64 bits at most

spelt-too : (line : SceneLine) → FitsLine line → IsSpelt line
spelt-too (Slave s) fits = omega arith
spelt-too (State s) fits = tt
spelt-too Simple fits = tt
spelt-too (Areas o i) fits = (omega arith, omega arith)
spelt-too (SyncMan n s l k) fits = (fits.0, omega arith, omega arith)
spelt-too (FmmuLine n lo le f la p b t) fits =
    (fits.0, omega arith, omega arith, omega arith, omega arith, omega arith, omega arith)
spelt-too (Load a) fits = omega arith
spelt-too (Object i s r v) fits = (omega arith, omega arith, fits.2)
spelt-too (Startup i s) fits = (omega arith, omega arith)
spelt-too (Item k a) fits = omega arith

object-text : (r : Rights) (v : Value) → FitsValue v → list_all is_text (object_words r v) ≡ true
object-text r (One n) fits =
    let h = hex-text 2 n (omega arith) in let w = rights-text r in simp (list_all-append, h, w) refl
object-text r (Two n) fits =
    let h = hex-text 4 n (omega arith) in let w = rights-text r in simp (list_all-append, h, w) refl
object-text r (Four n) fits =
    let h = hex-text 8 n (omega arith) in let w = rights-text r in simp (list_all-append, h, w) refl

item-text : (k : Kind) (a : ℕ) → a < 2 ^ 64 → list_all is_text (item_words k a) ≡ true
item-text Lrd a fits = let h = hex-text 8 a fits in simp (list_all-append, h) refl
item-text Lwr a fits = let h = hex-text 8 a fits in simp (list_all-append, h) refl
item-text Lrw a fits = let h = hex-text 8 a fits in simp (list_all-append, h) refl
item-text Brd a fits = let h = hex-text 4 a fits in simp (list_all-append, h) refl
item-text Fprd a fits =
    let h = hex-text 4 (adp_of a) (omega arith) in
    let g = hex-text 4 (ado_of a) (omega arith) in simp (list_all-append, h, g) refl
item-text Fpwr a fits =
    let h = hex-text 4 (adp_of a) (omega arith) in
    let g = hex-text 4 (ado_of a) (omega arith) in simp (list_all-append, h, g) refl

words-text : (line : SceneLine) → IsSpelt line → list_all is_text (line_words line) ≡ true
words-text (Slave s) fits = hex-text 4 s fits
words-text (State s) fits = decimal-text (code_of s) (code-small s)
words-text Simple fits = refl
words-text (Areas o i) fits =
    let x = decimal-text o fits.0 in let y = decimal-text i fits.1 in simp (list_all-append, x, y) refl
words-text (SyncMan n s l k) fits =
    let x = decimal-text n fits.0 in let y = hex-text 4 s fits.1 in let z = decimal-text l fits.2 in
    let w = area-text k in simp (list_all-append, x, y, z, w) refl
words-text (FmmuLine n lo le f la p b t) fits =
    let a = decimal-text n fits.0 in let c = hex-text 8 lo fits.1 in let d = decimal-text le fits.2 in
    let e = decimal-text f fits.3 in let g = decimal-text la fits.4 in let h = hex-text 4 p fits.5 in
    let i = decimal-text b fits.6 in let j = through-text t in
    simp (list_all-append, a, c, d, e, g, h, i, j) refl
words-text (Load a) fits = let x = hex-text 4 a fits in simp (list_all-append, x) refl
words-text (Object i s r v) fits =
    let x = hex-text 4 i fits.0 in let y = decimal-text s fits.1 in let z = object-text r v fits.2 in
    simp (list_all-append, x, y, z) refl
words-text (Startup i s) fits =
    let x = hex-text 4 i fits.0 in let y = decimal-text s fits.1 in simp (list_all-append, x, y) refl
words-text (Item k a) fits = item-text k a fits

-- ---- what the words of a line are read as

fits-in : (bound n : ℕ) → n < bound → fitting bound n ≡ Ok n
fits-in bound n small = grind (arith, nat_tests)

slave-does : (w : List ℕ) (n : ℕ) (row : List ℕ) (scene : SceneRecord) → number_of w ≡ Ok n → n < 2 ^ 16
    → slave_line (w ∷ []) scene ≡ with_line (Slave n) row scene
unfolding slave_line
slave-does w n row scene is small = rw (is, fits-in (2 ^ 16) n small) refl

state-does : (w : List ℕ) (s : AlState) (row : List ℕ) (scene : SceneRecord) → state_of w ≡ Ok s
    → state_line (w ∷ []) scene ≡ with_line (State s) row scene
unfolding state_line
state-does w s row scene is = rw is refl

simple-does : (row : List ℕ) (scene : SceneRecord) → simple_line [] scene ≡ with_line Simple row scene
unfolding simple_line
simple-does row scene = refl

areas-does : (w v : List ℕ) (o i : ℕ) (row : List ℕ) (scene : SceneRecord) → number_of w ≡ Ok o
    → number_of v ≡ Ok i → o < 2 ^ 16 → i < 2 ^ 16
    → areas_line (w ∷ v ∷ []) scene ≡ with_line (Areas o i) row scene
unfolding areas_line areas_of
areas-does w v o i row scene is it small low =
    rw (is, it, fits-in (2 ^ 16) o small, fits-in (2 ^ 16) i low) refl

sync-man-does : (w x y z : List ℕ) (n s l : ℕ) (k : AreaKind) (row : List ℕ) (scene : SceneRecord)
    → number_of w ≡ Ok n → number_of x ≡ Ok s → number_of y ≡ Ok l → area_of z ≡ Ok k → s < 2 ^ 16
    → l < 2 ^ 16
    → sync_man_line (w ∷ x ∷ y ∷ z ∷ []) scene ≡ with_line (SyncMan n s l k) row scene
unfolding sync_man_line sync_man_setting sync_man_of
sync-man-does w x y z n s l k row scene e f g h small low =
    rw (e, f, g, h, fits-in (2 ^ 16) s small, fits-in (2 ^ 16) l low) refl

fmmu-does : (w lo-w le-w f-w la-w p-w b-w t-w : List ℕ) (n lo le f la p b : ℕ) (t : Through) (row : List ℕ)
    (scene : SceneRecord) → number_of w ≡ Ok n → number_of lo-w ≡ Ok lo → number_of le-w ≡ Ok le
    → number_of f-w ≡ Ok f → number_of la-w ≡ Ok la → number_of p-w ≡ Ok p → number_of b-w ≡ Ok b
    → through_of t-w ≡ Ok t → lo < 2 ^ 32 → le < 2 ^ 16 → f < 2 ^ 8 → la < 2 ^ 8 → p < 2 ^ 16 → b < 2 ^ 8
    → fmmu_line (w ∷ lo-w ∷ le-w ∷ f-w ∷ la-w ∷ p-w ∷ b-w ∷ t-w ∷ []) scene
    ≡ with_line (FmmuLine n lo le f la p b t) row scene
unfolding fmmu_line fmmu_setting fmmu_of
fmmu-does w lo-w le-w f-w la-w p-w b-w t-w n lo le f la p b t row scene a c d e g h i j k l m o q r =
    rw (
      a,
      c,
      d,
      e,
      g,
      h,
      i,
      j,
      fits-in (2 ^ 32) lo k,
      fits-in (2 ^ 16) le l,
      fits-in (2 ^ 8) f m,
      fits-in (2 ^ 8) la o,
      fits-in (2 ^ 16) p q,
      fits-in (2 ^ 8) b r,
    ) refl

load-does : (w v : List ℕ) (a : ℕ) (row : List ℕ) (scene : SceneRecord) → number_of w ≡ Ok a
    → row_of v ≡ Ok row → a < 2 ^ 16 → load_line (w ∷ v ∷ []) scene ≡ with_line (Load a) row scene
unfolding load_line load_of
load-does w v a row scene is it small = rw (is, it, fits-in (2 ^ 16) a small) refl

object-does : (w x y z u : List ℕ) (i s size n : ℕ) (r : Rights) (v : Value) (row : List ℕ)
    (scene : SceneRecord) → number_of w ≡ Ok i → number_of x ≡ Ok s → number_of y ≡ Ok size
    → rights_of z ≡ Ok r
    → number_of u ≡ Ok n → i < 2 ^ 16 → s < 2 ^ 8 → value_of size n ≡ Ok v
    → object_line (w ∷ x ∷ y ∷ z ∷ u ∷ []) scene ≡ with_line (Object i s r v) row scene
unfolding object_line object_of
object-does w x y z u i s size n r v row scene e f g h j small low is =
    rw (e, f, g, h, j, fits-in (2 ^ 16) i small, fits-in (2 ^ 8) s low, is) refl

startup-does : (w x y : List ℕ) (i s : ℕ) (row : List ℕ) (scene : SceneRecord) → number_of w ≡ Ok i
    → number_of x ≡ Ok s → row_of y ≡ Ok row → i < 2 ^ 16 → s < 2 ^ 8
    → startup_line (w ∷ x ∷ y ∷ []) scene ≡ with_line (Startup i s) row scene
unfolding startup_line startup_of
startup-does w x y i s row scene e f g small low =
    rw (e, f, g, fits-in (2 ^ 16) i small, fits-in (2 ^ 8) s low) refl

item-does : (k : Kind) (w v : List ℕ) (a : ℕ) (row : List ℕ) (scene : SceneRecord) → number_of w ≡ Ok a
    → row_of v ≡ Ok row → a < 2 ^ 32 → item_line k (w ∷ v ∷ []) scene ≡ with_line (Item k a) row scene
unfolding item_line item_of
item-does k w v a row scene is it small = rw (is, it, fits-in (2 ^ 32) a small) refl

addressed-does : (k : Kind) (x w v : List ℕ) (s a : ℕ) (row : List ℕ) (scene : SceneRecord)
    → number_of x ≡ Ok s → number_of w ≡ Ok a → row_of v ≡ Ok row → s < 2 ^ 16 → a < 2 ^ 16
    → addressed_item_line k (x ∷ w ∷ v ∷ []) scene ≡ with_line (Item k (address_of s a)) row scene
unfolding addressed_item_line addressed_item_of
addressed-does k x w v s a row scene e is it small low =
    rw (e, is, it, fits-in (2 ^ 16) s small, fits-in (2 ^ 16) a low) refl

-- ---- one line

sized-one : (n : ℕ) → n < 2 ^ 8 → value_of 1 n ≡ Ok (One n)
sized-one n small = grind (arith, nat_tests)

sized-two : (n : ℕ) → n < 2 ^ 16 → value_of 2 n ≡ Ok (Two n)
sized-two n small = grind (arith, nat_tests)

sized-four : (n : ℕ) → n < 2 ^ 32 → value_of 4 n ≡ Ok (Four n)
sized-four n small = grind (arith, nat_tests)

object-spelt-does : (w x : List ℕ) (i s : ℕ) (r : Rights) (v : Value) (row : List ℕ) (scene : SceneRecord)
    → number_of w ≡ Ok i → number_of x ≡ Ok s → i < 2 ^ 16 → s < 2 ^ 8 → FitsValue v
    → object_line (w ∷ x ∷ object_spelt r v) scene ≡ with_line (Object i s r v) row scene
object-spelt-does w x i s r (One n) row scene e f small low fits =
    object-does w x _ _ _ i s 1 n r (One n) row scene e f refl (rights-back r)
    (hexadecimal-back 2 n (omega arith)) small low (sized-one n fits)
object-spelt-does w x i s r (Two n) row scene e f small low fits =
    object-does w x _ _ _ i s 2 n r (Two n) row scene e f refl (rights-back r)
    (hexadecimal-back 4 n (omega arith)) small low (sized-two n fits)
object-spelt-does w x i s r (Four n) row scene e f small low fits =
    object-does w x _ _ _ i s 4 n r (Four n) row scene e f refl (rights-back r)
    (hexadecimal-back 8 n (omega arith)) small low (sized-four n fits)

does-spelt : (line : SceneLine) (row : List ℕ) (scene : SceneRecord) → FitsLine line
    → ends_with_row line ≡ false → words_do (spelt line) scene ≡ Some (with_line line row scene)
does-spelt (Slave s) row scene fits h =
    ap Some (slave-does (hex_word 4 s) s row scene (hexadecimal-back 4 s (omega arith)) fits)
does-spelt (State s) row scene fits h = ap Some (state-does (decimal (code_of s)) s row scene (state-back s))
does-spelt Simple row scene fits h = ap Some (simple-does row scene)
does-spelt (Areas o i) row scene fits h =
    ap Some (areas-does (decimal o) (decimal i) o i row scene (decimal-back o (omega arith))
    (decimal-back i (omega arith)) fits.0 fits.1)
does-spelt (SyncMan n s l k) row scene fits h =
    ap Some (sync-man-does (decimal n) (hex_word 4 s) (decimal l) (area_word k) n s l k row scene
    (decimal-back n fits.0) (hexadecimal-back 4 s (omega arith)) (decimal-back l (omega arith)) (area-back k)
    fits.1 fits.2)
does-spelt (FmmuLine n lo le f la p b t) row scene fits h =
    ap Some (fmmu-does (decimal n) (hex_word 8 lo) (decimal le) (decimal f) (decimal la) (hex_word 4 p)
    (decimal b) (through_word t) n lo le f la p b t row scene (decimal-back n fits.0)
    (hexadecimal-back 8 lo (omega arith)) (decimal-back le (omega arith)) (decimal-back f (omega arith))
    (decimal-back la (omega arith)) (hexadecimal-back 4 p (omega arith)) (decimal-back b (omega arith))
    (through-back t) fits.1 fits.2 fits.3 fits.4 fits.5 fits.6)
does-spelt (Load a) row scene fits h = absurd (true≢false h)
does-spelt (Object i s r v) row scene fits h =
    ap Some (object-spelt-does (hex_word 4 i) (decimal s) i s r v row scene
    (hexadecimal-back 4 i (omega arith)) (decimal-back s (omega arith)) fits.0 fits.1 fits.2)
does-spelt (Startup i s) row scene fits h = absurd (true≢false h)
does-spelt (Item k a) row scene fits h = absurd (true≢false h)

halves : (a : ℕ) → address_of (adp_of a) (ado_of a) ≡ a
halves a = omega arith

item-spelt-does : (k : Kind) (a : ℕ) (w row : List ℕ) (scene : SceneRecord) → a < 2 ^ 32 → row_of w ≡ Ok row
    → words_do (item_spelt k a ++ w ∷ []) scene ≡ Some (with_line (Item k a) row scene)
item-spelt-does Lrd a w row scene fits is =
    ap Some (item-does Lrd (hex_word 8 a) w a row scene (hexadecimal-back 8 a (omega arith)) is fits)
item-spelt-does Lwr a w row scene fits is =
    ap Some (item-does Lwr (hex_word 8 a) w a row scene (hexadecimal-back 8 a (omega arith)) is fits)
item-spelt-does Lrw a w row scene fits is =
    ap Some (item-does Lrw (hex_word 8 a) w a row scene (hexadecimal-back 8 a (omega arith)) is fits)
item-spelt-does Brd a w row scene fits is =
    ap Some (item-does Brd (hex_word 4 a) w a row scene (hexadecimal-back 4 a (omega arith)) is fits)
item-spelt-does Fprd a w row scene fits is =
    let s = adp_of a in
    let r = ado_of a in
    ap Some (addressed-does Fprd (hex_word 4 s) (hex_word 4 r) w s r row scene
    (hexadecimal-back 4 s (omega arith)) (hexadecimal-back 4 r (omega arith)) is (omega arith)
    (omega arith) ∙ ap (λ at. with_line (Item Fprd at) row scene) (halves a))
item-spelt-does Fpwr a w row scene fits is =
    let s = adp_of a in
    let r = ado_of a in
    ap Some (addressed-does Fpwr (hex_word 4 s) (hex_word 4 r) w s r row scene
    (hexadecimal-back 4 s (omega arith)) (hexadecimal-back 4 r (omega arith)) is (omega arith)
    (omega arith) ∙ ap (λ at. with_line (Item Fpwr at) row scene) (halves a))

does-row : (line : SceneLine) (w row : List ℕ) (scene : SceneRecord) → FitsLine line
    → ends_with_row line ≡ true → row_of w ≡ Ok row
    → words_do (spelt line ++ w ∷ []) scene ≡ Some (with_line line row scene)
does-row (Slave s) w row scene fits h is = absurd (true≢false (sym h))
does-row (State s) w row scene fits h is = absurd (true≢false (sym h))
does-row Simple w row scene fits h is = absurd (true≢false (sym h))
does-row (Areas o i) w row scene fits h is = absurd (true≢false (sym h))
does-row (SyncMan n s l k) w row scene fits h is = absurd (true≢false (sym h))
does-row (FmmuLine n lo le f la p b t) w row scene fits h is = absurd (true≢false (sym h))
does-row (Load a) w row scene fits h is =
    ap Some (load-does (hex_word 4 a) w a row scene (hexadecimal-back 4 a (omega arith)) is fits)
does-row (Object i s r v) w row scene fits h is = absurd (true≢false (sym h))
does-row (Startup i s) w row scene fits h is =
    ap Some (startup-does (hex_word 4 i) (decimal s) w i s row scene (hexadecimal-back 4 i (omega arith))
    (decimal-back s (omega arith)) is fits.0 fits.1)
does-row (Item k a) w row scene fits h is = item-spelt-does k a w row scene fits is

bare : (w : List ℕ) → w ++ encode_lower [] ≡ w
unfolding encode_with
bare w = append-nil w

means-by : (b : Bool) (line : SceneLine) (row : List ℕ) (scene : SceneRecord) → FitsLine line
    → ends_with_row line ≡ b → FitsRow b row
    → words_do (words_in (line_words line ++ encode_lower row)) scene ≡ Some (with_line line row scene)
means-by true line row scene fits is has =
    ap (λ ws. words_do ws scene) (rows-back line row (spelt-too line fits) is has.0)
    ∙ does-row line (encode_lower row) row scene fits is (row-back row has.1 has.0)
means-by false line row scene fits is none =
    ap (λ r. words_do (words_in (line_words line ++ encode_lower r)) scene) none
    ∙ ap (λ w. words_do (words_in w) scene) (bare (line_words line))
    ∙ ap (λ ws. words_do ws scene) (lines-back line (spelt-too line fits)) ∙ does-spelt line row scene fits is

-- no line that is written is a comment
first-kind : (k : Kind) (a : ℕ) (rest : List ℕ) → is_comment (item_words k a ++ rest) ≡ false
first-kind Lrd a rest = refl
first-kind Lwr a rest = refl
first-kind Lrw a rest = refl
first-kind Brd a rest = refl
first-kind Fprd a rest = refl
first-kind Fpwr a rest = refl

no-comment : (line : SceneLine) (rest : List ℕ) → is_comment (line_words line ++ rest) ≡ false
no-comment (Slave s) rest = refl
no-comment (State s) rest = refl
no-comment Simple rest = refl
no-comment (Areas o i) rest = refl
no-comment (SyncMan n s l k) rest = refl
no-comment (FmmuLine n lo le f la p b t) rest = refl
no-comment (Load a) rest = refl
no-comment (Object i s r v) rest = refl
no-comment (Startup i s) rest = refl
no-comment (Item k a) rest = first-kind k a rest

bytes-text : (b : Bool) (row : List ℕ) → FitsRow b row → list_all is_text (encode_lower row) ≡ true
bytes-text true row has = row-text row has.1
bytes-text false row none = ap (λ r. list_all is_text (encode_lower r)) none ∙ row-text [] (λ i. lit< tt)

text-line : (w : WrittenLine) → IsWritten w → list_all is_text (line_text w) ≡ true
text-line w is =
    list_all-append is_text (line_words w.line) (encode_lower w.row)
    ∙ ap (λ t. t && list_all is_text (encode_lower w.row)) (words-text w.line (spelt-too w.line is.numbers))
    ∙ bytes-text (ends_with_row w.line) w.row is.bytes

line-means : (w : WrittenLine) (scene : SceneRecord) → IsWritten w
    → line_does (line_text w) scene ≡ Some (with_line w.line w.row scene)
line-means w scene is =
    ap (λ t. cond (not t) (Some (Err NotText)) (cond (is_comment (line_text w)) (Some (Ok scene))
    (words_do (words_in (line_text w)) scene))) (text-line w is)
    ∙ ap (λ t. cond t (Some (Ok scene)) (words_do (words_in (line_text w)) scene))
    (no-comment w.line (encode_lower w.row))
    ∙ means-by (ends_with_row w.line) w.line w.row scene is.numbers refl is.bytes

-- ---- lines

no-end : (w : List ℕ) → list_all is_text w ≡ true → All (λ c. is_line_end c ≡ false) w
no-end [] h = All-nil (λ c. is_line_end c ≡ false)
no-end (c ∷ cs) h =
    All-cons (λ x. is_line_end x ≡ false) c cs (inside c (and-left (is_text c) (list_all is_text cs) h))
    (no-end cs (and-right (is_text c) (list_all is_text cs) h))
  where
    inside : (x : ℕ) → is_text x ≡ true → is_line_end x ≡ false
    inside x t = grind (arith, nat_tests)

then-lines : (read : Result SceneRecord LineFault) (lines : List (List ℕ)) (ws : List WrittenLine)
    → ((scene : SceneRecord) → lines_do lines scene ≡ Some (with_lines ws scene))
    → then_does (lines_do lines) (Some read) ≡ Some (read >>= with_lines ws)
then-lines (Ok scene) lines ws h = h scene
then-lines (Err fault) lines ws h = refl

pub lines-mean : (ws : List WrittenLine) (scene : SceneRecord) → AreWritten ws
    → text_does (text_of_lines ws) scene ≡ Some (with_lines ws scene)
lines-mean [] scene are = ap (λ ws. then_does (lines_do []) (words_do ws scene)) words-none
lines-mean (w ∷ ws) scene are =
    let rest = slice_split is_line_end (text_of_lines ws) in
    ap (λ ls. lines_do ls scene)
    (slice_split_at is_line_end (line_text w) 10 (text_of_lines ws)
    (no-end (line_text w) (text-line w are.0)) refl)
    ∙ ap (then_does (lines_do rest)) (line-means w scene are.0)
    ∙ then-lines (with_line w.line w.row scene) rest ws (λ after. lines-mean ws after are.1)
