-- Bytes are a capture in one way: what begins them is one piece, since its head tells its kind and length.
use Rattle.std.proofs.Common.{◌≡◌, ℕ, ◌+◌, ◌<◌, ◌≤◌, List, [], ◌++◌, Some, None, length, take, drop}
use Rattle.std.proofs.Common.{refl, arith, sym, ap, ◌∙◌, subst}
use Rattle.std.proofs.lemmas.Bool.Decides.{nat_tests}
use Rattle.std.proofs.lemmas.List.{take_at, drop_at, length-append}
use Rattle.ecat_capture.specs.Numbers.{word}
use Rattle.ecat_capture.specs.Classic.{IsHeader, IsRecord, format_of, linked, record_of}
use Rattle.ecat_capture.specs.Blocks.{IsBlock, block_order, length_fault, body_of, section_header}
use Rattle.ecat_capture.specs.Progress.{IsPiece, IsBody, stage_behind, interfaces_behind}
use Rattle.ecat_capture.specs.File.{Stored, packets_of, Holds}
use Rattle.ecat_capture.specs.File.Holds.{ends, goes_on}
use Rattle.ecat_capture.specs.declared.order.Order.{Order}
use Rattle.ecat_capture.specs.declared.order.Order.TheVariants.{Little}
use Rattle.ecat_capture.specs.declared.classic.Format.{Format}
use Rattle.ecat_capture.specs.declared.blocks.Interface.{Interface}
use Rattle.ecat_capture.specs.declared.blocks.Body.{Body}
use Rattle.ecat_capture.specs.declared.packet.Found.{Found}
use Rattle.ecat_capture.specs.declared.capture.Stage.{Stage}
use Rattle.ecat_capture.specs.declared.capture.Stage.TheVariants.{Start, Records, Blocks, End, Fault}
use Rattle.ecat_capture.specs.declared.capture.Piece.{Piece}
use Rattle.ecat_capture.specs.declared.capture.Piece.TheVariants as piece
use Rattle.ecat_capture.proofs.Fronts.{word-append}

-- two fronts of one length, with the same bytes in all
append_inj : (a b x y : List ℕ) → length a ≡ length b → a ++ x ≡ b ++ y → (a ≡ b) × (x ≡ y)
append_inj a b x y len same = (
  sym (take_at a x (length b) len) ∙ ap (take (length b)) same ∙ take_at b y (length b) refl,
  sym (drop_at a x (length b) len) ∙ ap (drop (length b)) same ∙ drop_at b y (length b) refl,
)

-- a number in front of the same bytes is the same
same_word : (order : Order) (at : ℕ) (x y r s : List ℕ) → at + 4 ≤ length x → at + 4 ≤ length y
    → x ++ r ≡ y ++ s → word order at x ≡ word order at y
same_word order at x y r s there there' same =
    sym (word-append order at x r there) ∙ ap (word order at) same ∙ word-append order at y s there'

-- a record has its head and the stored bytes
same_record : (format : Format) (x y r s : List ℕ) (found other : Found) → IsRecord format x found
    → IsRecord format y other → x ++ r ≡ y ++ s → (x ≡ y) × (r ≡ s) × (found ≡ other)
same_record format x y r s found other one two same =
    let sizes : word format.order 8 x ≡ word format.order 8 y =
    same_word format.order 8 x y r s (omega (arith, one.whole)) (omega (arith, two.whole)) same in
    let fronts = append_inj x y r s (one.whole ∙ ap (λ n. 16 + n) sizes ∙ sym two.whole) same in
    (fronts.0, fronts.1, one.found_is ∙ ap (record_of format) fronts.0 ∙ sym two.found_is)

-- a block has twelve bytes at least
some_length : (size : ℕ) → length_fault size ≡ None → 12 ≤ size
unfolding length_fault
some_length size good = grind (arith, nat_tests)

-- the order of a block is told by its first twelve bytes
same_order : (section : Order) (x y r s : List ℕ) → 12 ≤ length x → 12 ≤ length y → x ++ r ≡ y ++ s
    → block_order section x ≡ block_order section y
unfolding block_order
same_order section x y r s there there' same =
    rw (same_word Little 0 x y r s (omega arith) (omega arith) same)
    (rw (same_word Little 8 x y r s (omega arith) (omega arith) same) refl)

-- and then its length
same_block : (section order other : Order) (x y r s : List ℕ) → IsBlock section x order
    → IsBlock section y other → x ++ r ≡ y ++ s → (x ≡ y) × (r ≡ s) × (order ≡ other)
same_block section order other x y r s one two same =
    let there = some_length (length x) one.good in
    let there' = some_length (length y) two.good in
    let orders : Some order ≡ Some other =
    sym one.order_is ∙ same_order section x y r s there there' same ∙ two.order_is in
    let order_is : order ≡ other = cc orders in
    let lengths : length x ≡ length y =
    sym one.length_is ∙ same_word order 4 x y r s (omega arith) (omega arith) same
    ∙ ap (λ o. word o 4 y) order_is ∙ two.length_is in
    let fronts = append_inj x y r s lengths same in
    (fronts.0, fronts.1, order_is)

-- and what it says
same_body : (section : Order) (interfaces : List Interface) (x y r s : List ℕ) (says says' : Body)
    → IsBody section interfaces x says → IsBody section interfaces y says' → x ++ r ≡ y ++ s
    → (x ≡ y) × (r ≡ s) × (says ≡ says')
same_body section interfaces x y r s says says' one two same =
    let block = same_block section one.order two.order x y r s one.is_block two.is_block same in
    let told : body_of one.order interfaces x ≡ body_of two.order interfaces y =
    ap (λ o. body_of o interfaces x) block.2 ∙ ap (body_of two.order interfaces) block.0 in
    (block.0, block.1, cc (one.body_is, two.body_is, told))

-- no classic capture begins as a section header does
no_format : (format : Format) → format_of section_header ≡ Some format → ⊥
unfolding format_of
no_format format is = cc is

apart : (format : Format) (x y r s : List ℕ) → IsHeader format x → word Little 0 y ≡ section_header
    → 12 ≤ length y → x ++ r ≡ y ++ s → ⊥
apart format x y r s header section there same =
    let first : word Little 0 x ≡ section_header =
    same_word Little 0 x y r s (omega (arith, header.whole)) (omega arith) same ∙ section in
    no_format header.unlinked (ap format_of (sym first) ∙ header.magic)

-- the headers of the same bytes are one
same_header : (format other : Format) (x y r s : List ℕ) → IsHeader format x → IsHeader other y
    → x ++ r ≡ y ++ s → (x ≡ y) × (r ≡ s) × (format ≡ other)
same_header format other x y r s one two same =
    let fronts = append_inj x y r s (one.whole ∙ sym two.whole) same in
    let kinds : Some one.unlinked ≡ Some two.unlinked =
    sym one.magic ∙ ap (λ b. format_of (word Little 0 b)) fronts.0 ∙ two.magic in
    let kind : one.unlinked ≡ two.unlinked = cc kinds in
    let formats : format ≡ other =
    one.format_is ∙ ap (λ k. linked k x) kind ∙ ap (linked two.unlinked) fronts.0 ∙ sym two.format_is in
    (fronts.0, fronts.1, formats)

-- the first pieces of the same bytes are one
same_piece : (stage : Stage) (interfaces : List Interface) (a b : Piece) (x y r s : List ℕ)
    → IsPiece stage interfaces a x → IsPiece stage interfaces b y → x ++ r ≡ y ++ s
    → (x ≡ y) × (r ≡ s) × (a ≡ b)
same_piece Start interfaces (piece.Header f) (piece.Header g) x y r s one two same =
    let h = same_header f g x y r s one two same in (h.0, h.1, ap piece.Header h.2)
same_piece Start interfaces (piece.Header f) (piece.Block says) x y r s one two same =
    absurd (apart f x y r s one two.0 (some_length (length y) two.1.is_block.good) same)
same_piece Start interfaces (piece.Block says) (piece.Header g) x y r s one two same =
    absurd (apart g y x s r two one.0 (some_length (length x) one.1.is_block.good) (sym same))
same_piece Start interfaces (piece.Block says) (piece.Block says') x y r s one two same =
    let b = same_body Little [] x y r s says says' one.1 two.1 same in (b.0, b.1, ap piece.Block b.2)
same_piece Start interfaces (piece.Header f) (piece.Record found) x y r s one two same = absurd two
same_piece Start interfaces (piece.Header f) piece.End x y r s one two same = absurd two
same_piece Start interfaces (piece.Block says) (piece.Record found) x y r s one two same = absurd two
same_piece Start interfaces (piece.Block says) piece.End x y r s one two same = absurd two
same_piece Start interfaces (piece.Record found) b x y r s one two same = absurd one
same_piece Start interfaces piece.End b x y r s one two same = absurd one
same_piece (Records format) interfaces (piece.Record found) (piece.Record other) x y r s one two same =
    let c = same_record format x y r s found other one two same in (c.0, c.1, ap piece.Record c.2)
same_piece (Records format) interfaces (piece.Record found) (piece.Header g) x y r s one two same = absurd two
same_piece (Records format) interfaces (piece.Record found) (piece.Block says) x y r s one two same =
    absurd two
same_piece (Records format) interfaces (piece.Record found) piece.End x y r s one two same = absurd two
same_piece (Records format) interfaces (piece.Header f) b x y r s one two same = absurd one
same_piece (Records format) interfaces (piece.Block says) b x y r s one two same = absurd one
same_piece (Records format) interfaces piece.End b x y r s one two same = absurd one
same_piece (Blocks order) interfaces (piece.Block says) (piece.Block says') x y r s one two same =
    let b = same_body order interfaces x y r s says says' one two same in (b.0, b.1, ap piece.Block b.2)
same_piece (Blocks order) interfaces (piece.Block says) (piece.Header g) x y r s one two same = absurd two
same_piece (Blocks order) interfaces (piece.Block says) (piece.Record found) x y r s one two same = absurd two
same_piece (Blocks order) interfaces (piece.Block says) piece.End x y r s one two same = absurd two
same_piece (Blocks order) interfaces (piece.Header f) b x y r s one two same = absurd one
same_piece (Blocks order) interfaces (piece.Record found) b x y r s one two same = absurd one
same_piece (Blocks order) interfaces piece.End b x y r s one two same = absurd one
same_piece End interfaces a b x y r s one two same = absurd one
same_piece Fault interfaces a b x y r s one two same = absurd one

-- a piece has bytes
some_bytes : (stage : Stage) (interfaces : List Interface) (a : Piece) (x : List ℕ)
    → IsPiece stage interfaces a x → 0 < length x
some_bytes Start interfaces (piece.Header f) x is = omega (arith, is.whole)
some_bytes Start interfaces (piece.Block says) x is =
    let there = some_length (length x) is.1.is_block.good in omega arith
some_bytes Start interfaces (piece.Record found) x is = absurd is
some_bytes Start interfaces piece.End x is = absurd is
some_bytes (Records format) interfaces (piece.Record found) x is = omega (arith, is.whole)
some_bytes (Records format) interfaces (piece.Header f) x is = absurd is
some_bytes (Records format) interfaces (piece.Block says) x is = absurd is
some_bytes (Records format) interfaces piece.End x is = absurd is
some_bytes (Blocks order) interfaces (piece.Block says) x is =
    let there = some_length (length x) is.is_block.good in omega arith
some_bytes (Blocks order) interfaces (piece.Header f) x is = absurd is
some_bytes (Blocks order) interfaces (piece.Record found) x is = absurd is
some_bytes (Blocks order) interfaces piece.End x is = absurd is
some_bytes End interfaces a x is = absurd is
some_bytes Fault interfaces a x is = absurd is

no_piece : (stage : Stage) (interfaces : List Interface) (a : Piece) (bytes front rest : List ℕ)
    → IsPiece stage interfaces a front → bytes ≡ [] → bytes ≡ front ++ rest → ⊥
no_piece stage interfaces a bytes front rest is none split =
    let some = some_bytes stage interfaces a front is in
    omega (arith, ap length none, ap length split, length-append front rest)

-- the same bytes have the same packets
pub readings : (stage : Stage) (interfaces : List Interface) (bytes : List ℕ) (packets others : List Stored)
    → Holds stage interfaces bytes packets → Holds stage interfaces bytes others → packets ≡ others
readings stage interfaces bytes packets others (ends may none is) (ends may' none' is') = is ∙ sym is'
readings stage interfaces bytes packets others (ends may none is) (goes_on b y s more' is' split' are' held') =
    absurd (no_piece stage interfaces b bytes y s is' none split')
readings stage interfaces bytes packets others (goes_on a x r more is split are held) (ends may none is') =
    absurd (no_piece stage interfaces a bytes x r is none split)
readings stage interfaces bytes packets others (goes_on a x r more is split are held)
    (goes_on b y s more' is' split' are' held') =
    let first = same_piece stage interfaces a b x y r s is is' (sym split ∙ split') in
    let held'' : Holds (stage_behind stage a) (interfaces_behind interfaces a) r more' =
    subst (λ p. Holds (stage_behind stage p) (interfaces_behind interfaces p) r more') (sym first.2)
    (subst (λ q. Holds (stage_behind stage b) (interfaces_behind interfaces b) q more') (sym first.1) held') in
    let behind = readings (stage_behind stage a) (interfaces_behind interfaces a) r more more' held held'' in
    are ∙ ap (λ m. packets_of a x ++ m) behind ∙ ap (λ p. packets_of p x ++ more') first.2
    ∙ ap (λ f. packets_of b f ++ more') first.0 ∙ sym are'
