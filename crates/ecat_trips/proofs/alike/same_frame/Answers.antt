use Rattle.std.proofs.Common.{◌≡◌, ℕ, ◌≤◌, ◌&&◌, Bool, List, take, length, true, false, sym, ap, subst, ◌∙◌}
use Rattle.std.specs.Cmp.Lexicographic.{pointwise}
use Rattle.std.proofs.lemmas.List.{length-take-le}
use Rattle.ec_wire.specs.Datagram.{DatagramRecord}
use Rattle.ecat_trips.specs.Alike.{are_both, number_behind, own, own_count, same_at, same_frame}
use Rattle.ecat_trips.proofs.Pairs.{pointwise-long}
use Rattle.ecat_trips.proofs.alike.same_frame.Goals as goal

module _ (s f : List DatagramRecord) where
  abbrev numbered : Bool
  numbered = are_both (number_behind s) (number_behind f)

  -- frames whose numbers are not those of both copies
  apart : numbered ≡ false → same_frame s f ≡ false
  unfolding same_frame
  apart e = ap (λ b. b && pointwise same_at (own s) (own f)) e

  -- those whose numbers are
  both : numbered ≡ true → same_frame s f ≡ pointwise same_at (own s) (own f)
  unfolding same_frame
  both e = ap (λ b. b && pointwise same_at (own s) (own f)) e

  -- of which one has more datagrams of its own
  longer : numbered ≡ true → own_count s ≤ length s → own_count f ≤ length f
      → (own_count f ≡ own_count s → ⊥) → same_frame s f ≡ false
  longer e in_s in_f other =
      let size_s : length (own s) ≡ own_count s = length-take-le (own_count s) s in_s in
      let size_f : length (own f) ≡ own_count f = length-take-le (own_count f) f in_f in
      both e ∙ pointwise-long same_at (own s) (own f) (λ same. other (sym size_f ∙ sym same ∙ size_s))

pub returns-then-not-are_both : goal.returns-then-not-are_both
returns-then-not-are_both c =
    sym
    (apart c.args.sent.now c.args.frame.now
    (sym (λ t. are_both (c.number_behind.ensures t) (c.number_behind-2.ensures t)) ∙ sym c.are_both.ensures
    ∙ c.if-not-are_both.true))

pub returns-then-own_count-count : goal.returns-then-own_count-count
returns-then-own_count-count c =
    let s = c.args.sent.now in
    let f = c.args.frame.now in
    let count_s : c.own_count-count.result ≡ own_count s = c.own_count-count.ensures.value in
    let count_f : c.own_count.result ≡ own_count f = c.own_count.ensures.value in
    sym
    (longer s f
    (sym (λ t. are_both (c.number_behind.ensures t) (c.number_behind-2.ensures t)) ∙ sym c.are_both.ensures
    ∙ c.if-not-are_both.false) (subst (λ (n : ℕ). n ≤ length s) count_s c.own_count-count.ensures.within)
    (subst (λ (n : ℕ). n ≤ length f) count_f c.own_count.ensures.within)
    (λ same. c.if-own_count-count.true (count_f ∙ same ∙ sym count_s)))

pub returns : goal.returns
returns c =
    let s = c.args.sent.now in
    let f = c.args.frame.now in
    let count_s : c.own_count-count.result ≡ own_count s = c.own_count-count.ensures.value in
    let count_f : c.own_count-count.result ≡ own_count f =
    sym c.if-own_count-count.false ∙ c.own_count.ensures.value in
    c.same_datagrams.ensures ∙ (λ t. pointwise same_at (take (count_s t) s) (take (count_f t) f))
    ∙ sym
    (both s f
    (sym (λ t. are_both (c.number_behind.ensures t) (c.number_behind-2.ensures t)) ∙ sym c.are_both.ensures
    ∙ c.if-not-are_both.false))
