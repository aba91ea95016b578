use Rattle.std.proofs.Common.{◌≡◌, ◌-◌, ◌*◌, ◌/◌, ◌++◌, ◌∙◌, length, take, drop, ap, ap₂, arith, rules}
use Rattle.std.proofs.lemmas.List.{append_assoc, take_all, length-drop}
use Rattle.ecat_list.specs.Digits.{hex}
use Rattle.ecat_list.proofs.HexLemmas as hexes
use Rattle.ecat_list.proofs.text.put_hex.Goals as goal

pub loop-k-preserved : goal.loop-k-preserved
loop-k-preserved c =
    let bs = c.args.bytes.now in
    let old = c.args.text.now.items in
    let at = 64 * c.loop-k.k in
    let more : c.put_piece.new.text.items ≡ c.loop-k.text.items ++ hex (take 64 (drop at bs)) = search rules in
    more
    ∙ ap (λ ds. ds ++ hex (take 64 (drop at bs))) c.loop-k.invariant
    ∙ append_assoc old (hex (take at bs)) (hex (take 64 (drop at bs)))
    ∙ ap (λ ds. old ++ ds) (hexes.hex_and_on at 64 bs ∙ ap (λ n. hex (take n bs)) (omega arith))

pub returns : goal.returns
returns c =
    let bs = c.args.bytes.now in
    let old = c.args.text.now.items in
    let at = 64 * (length bs / 64) in
    let left = length bs - at in
    let ends : c.loop-k.k ≡ length bs / 64 = omega (arith, c.loop-k.auto.k-end, c.loop-k-test.false) in
    let all : take left (drop at bs) ≡ drop at bs =
    take_all left (drop at bs) (omega (arith, length-drop at bs)) in
    let rest : c.put_piece-2.new.text.items ≡ c.loop-k.text.items ++ hex (take left (drop at bs)) = search rules in
    rest
    ∙ ap₂ (λ ds es. ds ++ hex es)
    (c.loop-k.invariant ∙ ap (λ n. old ++ hex (take (64 * n) bs)) ends) all
    ∙ append_assoc old (hex (take at bs)) (hex (drop at bs))
    ∙ ap (λ ds. old ++ ds) (hexes.hex_and_rest at bs)
