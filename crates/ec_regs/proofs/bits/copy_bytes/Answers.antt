use Rattle.std.proofs.Common.{◌≡◌, ℕ, List, ◌+◌, ◌-◌, ◌*◌, ◌/◌, ◌%◌, ◌^◌, get_or, take, drop, sym, ◌∙◌, ap}
use Rattle.std.proofs.Common.{arith, length-drop}
use Rattle.std.specs.Int.{bit_at}
use Rattle.std.proofs.lemmas.List.{length-take-le}
use Rattle.ec_regs.specs.Bits.{bit}
use Rattle.ec_regs.proofs.BitLemmas.{bit_of_byte}
use Rattle.ec_regs.proofs.BitRunLemmas.{bit_at-window, get_or-run, put_run}
use Rattle.ec_regs.proofs.bits.copy_bytes.Goals as goal

pub returns-then-shift-eq0 : goal.returns-then-shift-eq0
returns-then-shift-eq0 c =
    let into = c.args.into.now in
    let bytes = c.args.bytes.now in
    let at = c.args.at in
    let from = c.args.source / 8 in
    let count = c.args.count in
    let size = length-take-le (at + count - at) (drop at into) (omega (arith, length-drop at into)) in
    put_run into bytes c.copy_from_slice.new.self at (at + count - at) c.args.source count (omega arith)
    (λ k. omega (arith, c.type_inv.into k))
    (omega (arith, c.copy_from_slice.ensures.len, size)) c.requires.at_inside
    (λ k b inside below.
    let place : 8 * (from + k) + b ≡ c.args.source + 8 * k + b = omega arith in
    ap (λ (zs : List ℕ). bit_at (get_or zs k 0) b) c.copy_from_slice.ensures.after
    ∙ ap (λ x. bit_at x b) (get_or-run bytes from (from + count - from) k (omega arith))
    ∙ sym (bit_of_byte bytes (from + k) b below) ∙ ap (bit bytes) place)

pub returns-else-shift-eq0 : goal.returns-else-shift-eq0
returns-else-shift-eq0 c =
    let into = c.args.into.now in
    let bytes = c.args.bytes.now in
    let at = c.args.at in
    let from = c.args.source / 8 in
    let shift = c.args.source % 8 in
    let count = c.args.count in
    let size = length-take-le (at + count - at) (drop at into) (omega (arith, length-drop at into)) in
    put_run into bytes c.fill_shifted.new.into at (at + count - at) c.args.source count (omega arith)
    (λ k. omega (arith, c.type_inv.into k))
    (omega (arith, c.fill_shifted.auto.into, size)) c.requires.at_inside
    (λ k b inside below.
    let place : 8 * (from + k) + shift + b ≡ c.args.source + 8 * k + b = omega arith in
    let cut = from + count + 1 - from in
    let next : from + (k + 1) ≡ from + k + 1 = omega arith in
    let low = get_or-run bytes from cut k (omega arith) in
    let high = get_or-run bytes from cut (k + 1) (omega arith) ∙ ap (λ j. get_or bytes j 0) next in
    ap (λ x. bit_at x b)
    (c.fill_shifted.ensures k (omega (arith, size))
    ∙ ap (λ x. (get_or (take cut (drop from bytes)) (k + 1) 0 * 2 ^ 8 + x) / 2 ^ shift % 2 ^ 8) low
    ∙ ap (λ x. (x * 2 ^ 8 + get_or bytes (from + k) 0) / 2 ^ shift % 2 ^ 8) high)
    ∙ bit_at-window bytes (from + k) shift b (λ j. omega (arith, c.type_inv.bytes j)) (omega arith) below
    ∙ ap (bit bytes) place)
