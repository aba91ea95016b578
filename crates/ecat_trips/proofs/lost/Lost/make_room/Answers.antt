use Rattle.std.proofs.Common.{◌≡◌, ◌≤◌, ◌+◌, ℕ, List, length, take, sym, ap, subst, ◌∙◌, arith}
use Rattle.std.proofs.lemmas.List.{length-take-le, take_all}
use Rattle.ecat_trips.specs.declared.trip.SentFrame.{SentFrame}
use Rattle.ecat_trips.proofs.LostLemmas.{remove-last}
use Rattle.ecat_trips.proofs.lost.Lost.make_room.Goals as goal

fits : (n m : ℕ) (old : List SentFrame) → m ≡ length old → length old ≤ n + 1 → (m ≡ n + 1 → ⊥)
    → old ≡ take n old
fits n m old is most less = sym (take_all n old (omega arith))

pub returns-then-len-eq-MAX_LOST-clause-rest : goal.returns-then-len-eq-MAX_LOST-clause-rest
returns-then-len-eq-MAX_LOST-clause-rest c =
    let now = c.args.self.now in
    let whole : length now ≡ 64 =
    sym (ap (λ (l : List SentFrame). length l) c.self.view_is)
    ∙ sym (c.len.ensures ∙ c.self.inside.frames.ok.0)
    ∙ c.if-len-eq-MAX_LOST.true in
    c.forget.ensures ∙ remove-last 63 now whole

pub returns-then-len-eq-MAX_LOST-clause-room : goal.returns-then-len-eq-MAX_LOST-clause-room
returns-then-len-eq-MAX_LOST-clause-room c =
    let now = c.args.self.now in
    let whole : length now ≡ 64 =
    sym (ap (λ (l : List SentFrame). length l) c.self.view_is)
    ∙ sym (c.len.ensures ∙ c.self.inside.frames.ok.0)
    ∙ c.if-len-eq-MAX_LOST.true in
    let taken : length c.forget.new.self ≡ 63 =
    ap (λ (l : List SentFrame). length l) (c.forget.ensures ∙ remove-last 63 now whole)
    ∙ length-take-le 63 now (omega (arith, whole)) in
    omega (arith, taken)

pub returns-else-len-eq-MAX_LOST-clause-rest : goal.returns-else-len-eq-MAX_LOST-clause-rest
returns-else-len-eq-MAX_LOST-clause-rest c =
    subst (λ (l : List SentFrame). l ≡ take 63 l) c.self.view_is
    (fits 63 c.len.result c.self.inside.frames.items (c.len.ensures ∙ c.self.inside.frames.ok.0)
    c.self.invariant.1 c.if-len-eq-MAX_LOST.false)
