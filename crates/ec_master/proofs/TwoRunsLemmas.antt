-- Cycles of the same slaves have one outcome, whatever their order, the break and what befell the frames.
use Rattle.std.proofs.Common.{◌≡◌, ◌≤◌, ℕ, true, false, eqb, sym, subst, ◌∙◌, refl}
use Rattle.std.proofs.Common.{List, [], ◌∷◌, length, ⊎_elim}
use Rattle.std.specs.List.{AllByRecursion}
use Rattle.std.specs.List.Sorted.{IsPermutation}
use Rattle.std.proofs.lemmas.Bool.{eqb-true, eq-eqb, true≢false, cases_Bool}
use Rattle.ec_regs.specs.Bits.{bit}
use Rattle.ec_regs.proofs.Laws.{same_from_list_bits}
use Rattle.ec_map.specs.Item.{ItemRecord, IsItem}
use Rattle.ec_ring.specs.Links.{IsOnlyDown}
use Rattle.ec_ring.specs.Ring.{RingState}
use Rattle.ec_ring.specs.declared.links.TheConstants.{MAX_SLAVES}
use Rattle.ec_ring.specs.declared.weather.Weather.{Weather}
use Rattle.ec_master.specs.Certificate.{verdict_under, memory_at}
use Rattle.ec_master.specs.Travelled.{answers_under, ring_under}
use Rattle.ec_master.specs.Unordered.{ByStation, by_station, slaves_after, IsClaimed, IsAnswer}
use Rattle.ec_master.specs.Unordered.{AreAnswers, IsCycle, HasBytes, IsAccepted}
use Rattle.ec_master.specs.Work.{with_answers}
use Rattle.ec_master.specs.declared.verdict.Verdict.TheVariants.{Good}
use Rattle.ec_master.proofs.AnyOrderLemmas.{accepted_in_any_order, stations_in_any_order}
use Rattle.ec_master.proofs.ByteLemmas.{answers_are_bytes}
use Rattle.ec_master.proofs.CertificateLemmas.{good_answers, good_memories}
use Rattle.ec_master.proofs.OrderLemmas.{whole_cycle}

-- ---- one item

-- a bit that is claimed has the claimed value in both answers, and else is as sent in both
same_bit : (slaves : ByStation) (sent got other : ItemRecord) (i : ℕ) → IsAnswer slaves sent got
    → IsAnswer slaves sent other → bit other.payload i ≡ bit got.payload i
same_bit slaves sent got other i one two =
    let a : ℕ = bit other.payload i in
    let b : ℕ = bit got.payload i in
    ⊎_elim (λ (same : eqb a b ≡ true). eqb-true a b same)
    (λ (differ : eqb a b ≡ false).
    let apart : ¬ (a ≡ b) = λ same. true≢false (sym (eq-eqb a b same) ∙ differ) in
    let none : (value : ℕ) → ¬ IsClaimed slaves sent i value =
    λ value claimed. apart (two.claimed i value claimed ∙ sym (one.claimed i value claimed)) in
    absurd (apart (two.rest i none ∙ sym (one.rest i none))))
    (cases_Bool (eqb a b))

one_answer : (slaves : ByStation) (sent got other : ItemRecord) → HasBytes got → HasBytes other
    → IsAnswer slaves sent got → IsAnswer slaves sent other → other ≡ got
one_answer slaves sent got other bytes more one two =
    let payloads : other.payload ≡ got.payload =
    same_from_list_bits other.payload got.payload (two.size ∙ sym one.size) more bytes
    (λ i inside. same_bit slaves sent got other i one two) in
    (λ i. record {
      kind = (two.kind ∙ sym one.kind) i;
      address = (two.address ∙ sym one.address) i;
      payload = payloads i;
      counter = (two.counter ∙ sym one.counter) i;
      adp = (two.adp ∙ sym one.adp) i;
    })

-- ---- all items

one_outcome : (slaves : ByStation) (sent got other : List ItemRecord) → AllByRecursion HasBytes got
    → AllByRecursion HasBytes other → AreAnswers slaves sent got → AreAnswers slaves sent other → other ≡ got
one_outcome slaves [] [] [] bytes more one two = refl
one_outcome slaves [] [] (o ∷ os) bytes more one two = absurd two
one_outcome slaves [] (g ∷ gs) other bytes more one two = absurd one
one_outcome slaves (r ∷ rs) [] other bytes more one two = absurd one
one_outcome slaves (r ∷ rs) (g ∷ gs) [] bytes more one two = absurd two
one_outcome slaves (r ∷ rs) (g ∷ gs) (o ∷ os) bytes more one two =
    (λ i. one_answer slaves r g o bytes.0 more.0 one.0 two.0 i
    ∷ one_outcome (slaves_after r slaves) rs gs os bytes.1 more.1 one.1 two.1 i)

pub one_cycle : (before later after : ByStation) (sent got other : List ItemRecord)
    → AllByRecursion HasBytes got → AllByRecursion HasBytes other → IsCycle before sent got later
    → IsCycle before sent other after → (other ≡ got) × ((n : ℕ) → after n ≡ later n)
one_cycle before later after sent got other bytes more one two = (
  one_outcome before sent got other bytes more one.answers two.answers,
  λ n. two.slaves n ∙ sym (one.slaves n),
)

-- ---- over rings

pub two_orders : (r s : RingState) (items : List ItemRecord) (k m : ℕ)
    → IsOnlyDown r.links (length r.slaves) k → IsOnlyDown s.links (length s.slaves) m
    → IsAccepted r.slaves items → IsAccepted s.slaves items → AllByRecursion IsItem items
    → AllByRecursion HasBytes items → ((n : ℕ) → by_station s.slaves n ≡ by_station r.slaves n)
    → (with_answers items (answers_under [] s items) ≡ with_answers items (answers_under [] r items))
    × ((n : ℕ) → by_station (ring_under [] s items).slaves n ≡ by_station (ring_under [] r items).slaves n)
two_orders r s items k m down_r down_s accepted_r accepted_s are bytes same =
    let stations : by_station s.slaves ≡ by_station r.slaves = (λ i n. same n i) in
    one_cycle (by_station r.slaves) (by_station (ring_under [] r items).slaves)
    (by_station (ring_under [] s items).slaves) items _ _ (answers_are_bytes [] r items bytes)
    (answers_are_bytes [] s items bytes)
    (whole_cycle r items k down_r accepted_r are)
    (subst (λ (b : ByStation). IsCycle b items (with_answers items (answers_under [] s items))
    (by_station (ring_under [] s items).slaves)) stations (whole_cycle s items m down_s accepted_s are))

pub two_orders_of_one : (r s : RingState) (items : List ItemRecord) (k m : ℕ)
    → IsOnlyDown r.links (length r.slaves) k → IsOnlyDown s.links (length s.slaves) m
    → IsPermutation r.slaves s.slaves → IsAccepted r.slaves items → AllByRecursion IsItem items
    → AllByRecursion HasBytes items
    → (with_answers items (answers_under [] s items) ≡ with_answers items (answers_under [] r items))
    × ((n : ℕ) → by_station (ring_under [] s items).slaves n ≡ by_station (ring_under [] r items).slaves n)
two_orders_of_one r s items k m down_r down_s order accepted are bytes =
    two_orders r s items k m down_r down_s accepted (accepted_in_any_order r.slaves s.slaves items order accepted)
    are bytes (λ n. stations_in_any_order r.slaves s.slaves items n order accepted)

pub two_good : (ws us : List Weather) (r : RingState) (items : List ItemRecord)
    → length r.slaves ≤ MAX_SLAVES → IsAccepted r.slaves items → AllByRecursion IsItem items
    → AllByRecursion HasBytes items → verdict_under ws r items ≡ Good → verdict_under us r items ≡ Good
    → (with_answers items (answers_under us r items) ≡ with_answers items (answers_under ws r items))
    × ((n : ℕ) → memory_at (by_station (ring_under us r items).slaves) n
    ≡ memory_at (by_station (ring_under ws r items).slaves) n)
two_good ws us r items room accepted are bytes good_ws good_us = (
  one_outcome (by_station r.slaves) items _ _ (answers_are_bytes ws r items bytes)
      (answers_are_bytes us r items bytes) (good_answers ws r items room accepted are good_ws)
      (good_answers us r items room accepted are good_us),
  λ n. good_memories us r items n room accepted are good_us
      ∙ sym (good_memories ws r items n room accepted are good_ws),
)
