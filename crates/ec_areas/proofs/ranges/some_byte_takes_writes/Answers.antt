use Rattle.std.proofs.Common.{◌≡◌, ℕ, ◌+◌, Bool, true, false, ◌||◌, sym, ◌∙◌, ap}
use Rattle.ec_areas.specs.Ranges.{takes_writes}
use Rattle.ec_areas.proofs.RangeLemmas.{some_address_none, some_address_more, some_address_at}
use Rattle.ec_areas.proofs.ranges.some_byte_takes_writes.Goals as goal

pub loop-place-init : goal.loop-place-init
loop-place-init c memory managers_are = some_address_none (takes_writes memory) c.args.range.first

pub returns-then-takes_writes : goal.returns-then-takes_writes
returns-then-takes_writes c memory managers_are =
    let address : c.from.result + c.from-in-loop-place.result ≡ c.args.range.first + c.loop-place.place =
    ap (λ (a : ℕ). a + c.from-in-loop-place.result) c.from.ensures
    ∙ ap (λ (b : ℕ). c.args.range.first + b) c.from-in-loop-place.ensures in
    let passes : takes_writes memory (c.args.range.first + c.loop-place.place) ≡ true =
    ap (takes_writes memory) (sym address) ∙ sym (c.takes_writes.ensures memory managers_are)
    ∙ c.if-takes_writes.true in
    sym (some_address_at (takes_writes memory) c.args.range.first c.args.range.count c.loop-place.place
    c.loop-place-test.true passes)

pub loop-place-preserved : goal.loop-place-preserved
loop-place-preserved c memory managers_are =
    let address : c.from.result + c.from-in-loop-place.result ≡ c.args.range.first + c.loop-place.place =
    ap (λ (a : ℕ). a + c.from-in-loop-place.result) c.from.ensures
    ∙ ap (λ (b : ℕ). c.args.range.first + b) c.from-in-loop-place.ensures in
    let fails : takes_writes memory (c.args.range.first + c.loop-place.place) ≡ false =
    ap (takes_writes memory) (sym address) ∙ sym (c.takes_writes.ensures memory managers_are)
    ∙ c.if-takes_writes.false in
    some_address_more (takes_writes memory) c.args.range.first c.loop-place.place
    ∙ ap (λ (b : Bool). b || takes_writes memory (c.args.range.first + c.loop-place.place))
    (c.loop-place.invariant memory managers_are)
    ∙ fails
