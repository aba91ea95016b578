use Rattle.std.proofs.Common.{◌≡◌, ◌≤◌, ◌+◌, ◌-◌, ◌*◌, ◌++◌, ◌∙◌, drop, length, take, ap, ap₂, arith}
use Rattle.std.proofs.lemmas.List.{take_all, take-take}
use Rattle.ecat_list.specs.Digits.{hex}
use Rattle.ecat_list.proofs.HexLemmas as hexes
use Rattle.ecat_list.proofs.row.Row.lead_hex.Goals as goal

pub loop-k-preserved : goal.loop-k-preserved
loop-k-preserved c =
    let bs = c.args.bytes.now in
    let old = c.args.self.now in
    let from = old.from - 2 * length bs in
    let k = c.loop-k.k in
    let more : 16 * k + 16 ≡ 16 * (k + 1) = omega arith in
    let inside : 16 * k + 16 ≤ length bs = omega (arith, c.loop-k-test.true) in
    let room : from + 32 * k ≤ length c.loop-k.self.bytes =
    omega (arith, c.put_sixteen.ensures.size, inside, c.requires, c.loop-k.self.within, c.loop-k.invariant.0) in (
      c.put_sixteen.ensures.from ∙ c.loop-k.invariant.0,
      hexes.with_part from (16 * k) bs old.bytes c.loop-k.self.bytes (omega (arith, inside)) c.loop-k.invariant.1
          (16 * k) 16 (from + 32 * k) _ c.put_sixteen.new.self.bytes (omega arith) (omega arith) (omega arith) room
          (take-take 16 _ _ (omega (arith, inside))) c.put_sixteen.ensures.written
          ∙ ap (λ n. hex (take n bs) ++ drop (from + 2 * n) old.bytes) more,
    )

pub returns-clause-written : goal.returns-clause-written
returns-clause-written c =
    let bs = c.args.bytes.now in
    let old = c.args.self.now in
    let from = old.from - 2 * length bs in
    let k = c.loop-k.k in
    let some : 16 ≤ length bs = omega (arith, c.if-bytes-lt16.false) in
    let inside : 16 * k ≤ length bs = omega (arith, c.loop-k.auto.k-end) in
    let last : length bs - 16 ≤ 16 * k = omega (arith, c.loop-k-test.false) in
    let at : c.loop-k.self.from - 32 ≡ from + 2 * (length bs - 16) =
    omega (arith, some, c.requires, c.loop-k.invariant.0) in
    let room : c.loop-k.self.from - 32 ≤ length c.loop-k.self.bytes =
    omega (arith, c.put_sixteen-2.ensures.size, c.loop-k.self.within) in
    let whole : length bs - 16 + 16 ≡ length bs = omega (arith, some) in
    let place : from + 2 * (length bs - 16 + 16) ≡ old.from = omega (arith, some, c.requires) in
    hexes.with_part from (16 * k) bs old.bytes c.loop-k.self.bytes inside c.loop-k.invariant.1
    (length bs - 16) 16 (c.loop-k.self.from - 32) _ c.put_sixteen-2.new.self.bytes last (omega (arith, inside, some))
    at room (take-take 16 _ _ (omega (arith, some))) c.put_sixteen-2.ensures.written
    ∙ ap₂ (λ xs n. hex xs ++ drop n old.bytes) (take_all _ bs (omega (arith, whole))) place
