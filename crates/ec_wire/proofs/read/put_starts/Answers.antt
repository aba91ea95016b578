use Rattle.std.proofs.Common.{◌≡◌, ◌∙◌, ◌-◌, ℕ, List, length, take, drop, ap, sym, lit<, false, true, None}
use Rattle.std.proofs.Common.{arith}
use Rattle.std.proofs.lemmas.List.{take_rest}
use Rattle.ec_wire.specs.Decoding.{says_more, data_length}
use Rattle.ec_wire.specs.Fault.{datagram_fault}
use Rattle.ec_wire.proofs.DatagramLemmas.{AreBytes}
use Rattle.ec_wire.proofs.ReadLemmas.{Reached-start, Reached-more, AreSpelt-last, starts-room, not_false}
use Rattle.ec_wire.proofs.ReadLemmas.{not_true}
use Rattle.ec_wire.proofs.read.put_starts.Goals as goal

pub loop-ahead-init : goal.loop-ahead-init
loop-ahead-init c = Reached-start _ _ c.requires.some c.requires.none

pub push-requires : goal.push-requires
push-requires c =
    let at = c.loop-ahead.at in
    let frame : List ℕ = c.args.frame.now in
    let whole : drop at frame ≡ take (length frame - at) (drop at frame) = sym (take_rest frame at) in
    let none : datagram_fault at (drop at frame) ≡ None =
    ap (datagram_fault at) whole ∙ c.in_ok-ahead.ensures.good in
    (lit< tt, (starts-room _ _ _ _ c.loop-ahead.invariant none c.requires.room).0)

pub returns-then-not-ahead-clause-spelt : goal.returns-then-not-ahead-clause-spelt
returns-then-not-ahead-clause-spelt c =
    let at = c.loop-ahead.at in
    let frame : List ℕ = c.args.frame.now in
    let whole : drop at frame ≡ take (length frame - at) (drop at frame) = sym (take_rest frame at) in
    let none : datagram_fault at (drop at frame) ≡ None =
    ap (datagram_fault at) whole ∙ c.in_ok-ahead.ensures.good in
    let bytes : AreBytes frame = λ i. omega (arith, c.type_inv.frame i) in
    let last : says_more (drop at frame) ≡ false = ap says_more whole ∙ sym c.in_ok-ahead.ensures.more
    ∙ not_true _ c.if-not-ahead.true in
    AreSpelt-last _ _ _ _ _ bytes c.loop-ahead.invariant none last c.push.ensures.items

pub loop-ahead-preserved : goal.loop-ahead-preserved
loop-ahead-preserved c =
    let at = c.loop-ahead.at in
    let frame : List ℕ = c.args.frame.now in
    let whole : drop at frame ≡ take (length frame - at) (drop at frame) = sym (take_rest frame at) in
    let none : datagram_fault at (drop at frame) ≡ None =
    ap (datagram_fault at) whole ∙ c.in_ok-ahead.ensures.good in
    let bytes : AreBytes frame = λ i. omega (arith, c.type_inv.frame i) in
    let more : says_more (drop at frame) ≡ true = ap says_more whole ∙ sym c.in_ok-ahead.ensures.more
    ∙ not_false _ c.if-not-ahead.false in
    let long : data_length (drop at frame) ≡ c.in_ok-ahead.ahead.length =
    ap data_length whole ∙ sym c.in_ok-ahead.ensures.length in
    rw (← long) (Reached-more _ _ _ _ _ bytes c.loop-ahead.invariant none more c.push.ensures.items)
