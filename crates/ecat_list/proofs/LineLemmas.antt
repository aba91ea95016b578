-- The lines of a packet, one after the other.
use Rattle.std.proofs.Common.{◌≡◌, ℕ, ◌+◌, ◌<◌, suc, zero, refl, sym, ap, ap₂, ◌∙◌, subst}
use Rattle.std.proofs.Common.{List, [], ◌∷◌, ◌++◌, length, take, drop, arith}
use Rattle.std.proofs.lemmas.List.{append_assoc, append-nil}
use Rattle.ec_wire.specs.Datagram.{DatagramRecord, nth}
use Rattle.ecat_list.specs.Front.{IsFront}
use Rattle.ecat_list.specs.Line.{line_words, lines_from}
use Rattle.ecat_list.specs.declared.line.Style.{Style}
use Rattle.ecat_list.proofs.FrontLemmas.{front_of_more}

module _ (style : Style) (begin : List ℕ) where
  one_behind : (ds : List DatagramRecord) (k n : ℕ) → k < length ds
      → lines_from style begin n (take (suc k) ds)
      ≡ lines_from style begin n (take k ds) ++ line_words style begin (n + k) (nth ds k)
  one_behind [] k n inside = absurd (omega (arith, inside))
  one_behind (d ∷ ds) zero n inside =
      append-nil (line_words style begin n d) ∙ ap (λ i. line_words style begin i d) (omega arith)
  one_behind (d ∷ ds) (suc k) n inside =
      let first = line_words style begin n d in
      ap (λ ls. first ++ ls) (one_behind ds k (n + 1) (omega (arith, inside)))
      ∙ sym (append_assoc first (lines_from style begin (n + 1) (take k ds))
      (line_words style begin (n + 1 + k) (nth ds k)))
      ∙ ap (λ i. (first ++ lines_from style begin (n + 1) (take k ds)) ++ line_words style begin i (nth ds k))
      (omega arith)

  -- the line of one datagram more
  pub line_more : (ds : List DatagramRecord) (k : ℕ) → k < length ds
      → lines_from style begin 0 (take (k + 1) ds)
      ≡ lines_from style begin 0 (take k ds) ++ line_words style begin k (nth ds k)
  line_more ds k inside =
      let next : k + 1 ≡ suc k = omega arith in
      ap (λ n. lines_from style begin 0 (take n ds)) next ∙ one_behind ds k 0 inside
      ∙ ap (λ i. lines_from style begin 0 (take k ds) ++ line_words style begin i (nth ds k)) (omega arith)

  split : (k n : ℕ) (ds : List DatagramRecord)
      → lines_from style begin n ds
      ≡ lines_from style begin n (take k ds) ++ lines_from style begin (n + k) (drop k ds)
  split zero n ds = ap (λ i. lines_from style begin i ds) (omega arith)
  split (suc k) n [] = refl
  split (suc k) n (d ∷ ds) =
      let first = line_words style begin n d in
      let behind = lines_from style begin (n + 1) (take k ds) in
      ap (λ ls. first ++ ls) (split k (n + 1) ds)
      ∙ sym (append_assoc first behind (lines_from style begin (n + 1 + k) (drop k ds)))
      ∙ ap (λ i. (first ++ behind) ++ lines_from style begin i (drop k ds)) (omega arith)

  -- where the lines end within that of a datagram, their front is told
  pub front_more : (now old text line : List ℕ) (ds : List DatagramRecord) (k : ℕ) → k < length ds
      → text ≡ old ++ lines_from style begin 0 (take k ds) → line ≡ line_words style begin k (nth ds k)
      → IsFront now (text ++ line) → IsFront now (old ++ lines_from style begin 0 ds)
  front_more now old text line ds k inside before is front =
      let told = lines_from style begin 0 (take (k + 1) ds) in
      let rest = lines_from style begin (k + 1) (drop (k + 1) ds) in
      let so_far : text ++ line ≡ old ++ told =
      ap₂ (λ t l. t ++ l) before is
      ∙ append_assoc old (lines_from style begin 0 (take k ds)) (line_words style begin k (nth ds k))
      ∙ ap (λ ls. old ++ ls) (sym (line_more ds k inside)) in
      let all : (text ++ line) ++ rest ≡ old ++ lines_from style begin 0 ds =
      ap (λ t. t ++ rest) so_far ∙ append_assoc old told rest
      ∙ ap (λ ls. old ++ ls) (sym (split (k + 1) 0 ds
      ∙ ap (λ i. told ++ lines_from style begin i (drop (k + 1) ds)) (omega arith))) in
      subst (IsFront now) all (front_of_more now (text ++ line) rest front)
