use Rattle.std.proofs.Common.{◌≡◌, ◌∙◌, ◌<◌, ◌≤◌, ◌⊎◌, ℕ, List, Bool, true, false, length, take}
use Rattle.std.proofs.Common.{drop, ap, sym, inl, inr, subst, arith, rules}
use Rattle.std.proofs.lemmas.List.{length-drop}
use Rattle.std.proofs.lemmas.Bool.{true≢false}
use Rattle.std.proofs.Math.ListN.{drop_of_length-le}
use denote.Enum.Bare.{sameb, same_true}
use Rattle.ec_wire.specs.contracts.fault.Form.{the_type}
use Rattle.ec_wire.specs.declared.fault.Form.{Form}
use Rattle.ec_wire.specs.declared.fault.Form.TheVariants.{Ethernet, Udp}
use Rattle.ec_wire.specs.declared.fault.FaultKind.TheVariants.{Trailing}
use Rattle.ec_wire.specs.Frame.{records_at}
use Rattle.ec_wire.specs.Fault.{fault, frame_end, AreSpelt, IsSpeltBefore, MayStandBehind, IsOutline}
use Rattle.ec_wire.proofs.DatagramLemmas.{AreBytes}
use Rattle.ec_wire.proofs.ReadLemmas.{IsSpeltBefore-spelt, IsOutline-spelt}
use Rattle.ec_wire.proofs.read.outline.Goals as goal

-- what may stand behind the frame, where the test for bytes behind it in a UDP packet has failed
may_stand : (form : Form) (bytes : List ℕ) (end : ℕ) (b : Bool) → b ≡ sameb the_type form Udp
    → ((b ≡ true) × (length bytes ≤ end)) ⊎ (b ≡ false) → MayStandBehind form (drop end bytes)
may_stand Ethernet bytes end b e h = tt
may_stand Udp bytes end b e h =
    elim h [ inl w ↦ drop_of_length-le bytes w.1 | inr w ↦ absurd (true≢false (sym e ∙ w)) ]

pub returns-then-end-bytes-clause-fault : goal.returns-then-end-bytes-clause-fault
returns-then-end-bytes-clause-fault c =
    let bytes : List ℕ = c.args.bytes.now in
    let end = c.in_ok-end.end in
    let starts : List ℕ = c.put_starts.new.starts.items in
    let all : AreBytes bytes = λ i. omega (arith, c.type_inv.bytes i) in
    let end_is : end ≡ frame_end bytes = c.in_ok-end.ensures.end in
    let P : ℕ → Type 0 = λ e. AreSpelt (take e bytes) starts (records_at (take e bytes) starts)
    → IsSpeltBefore bytes (records_at (take e bytes) starts) (drop e bytes) in
    let spelt : IsSpeltBefore bytes (records_at (take end bytes) starts) (drop end bytes) =
    subst P (sym end_is) (λ s. IsSpeltBefore-spelt bytes starts _ all c.in_ok-end.ensures.good s)
    c.in_ok-put_starts.ensures.spelt in
    let udp : c.args.form ≡ Udp = same_true the_type (search rules) _ _ (sym c.if-eq.ensures) in
    let some : 0 < length (drop end bytes) = let left = length-drop end bytes in let below =
    c.if-end-bytes.true in omega arith in
    inr (inr (
      udp,
      records_at (take end bytes) starts,
      drop end bytes,
      spelt,
      some,
      ap (fault Trailing) end_is,
    ))

pub returns-clause-found : goal.returns-clause-found
returns-clause-found c =
    let form = c.args.form in
    let bytes : List ℕ = c.args.bytes.now in
    let end = c.in_ok-end.end in
    let starts : List ℕ = c.put_starts.new.starts.items in
    let all : AreBytes bytes = λ i. omega (arith, c.type_inv.bytes i) in
    let end_is : end ≡ frame_end bytes = c.in_ok-end.ensures.end in
    let P : ℕ → Type 0 = λ e. AreSpelt (take e bytes) starts (records_at (take e bytes) starts)
    → MayStandBehind form (drop e bytes)
    → IsOutline form bytes (records_at (take e bytes) starts) e starts in
    let behind = may_stand form bytes end c.eq.result c.eq.ensures c.else-eq.either in (
      records_at (take end bytes) starts,
      subst P (sym end_is) (IsOutline-spelt form bytes starts _ all c.in_ok-end.ensures.good)
          c.in_ok-put_starts.ensures.spelt behind,
    )
