use Rattle.std.proofs.Common.{◌≡◌, inl, inr, length, List, sym, ap, ◌∙◌, drop, [], arith}
use Rattle.std.proofs.lemmas.Bool.{cases_lt}
use Rattle.std.proofs.lemmas.List.{drop_all}
use Rattle.ec_wire.specs.Datagram.{DatagramRecord}
use Rattle.ecat_told.specs.Known.{frame_returned}
use Rattle.ecat_told.proofs.FrameLemmas.{none-came}
use Rattle.ecat_told.proofs.known.Known.take_frame.Goals as goal

pub returns : goal.returns
returns c =
    let s = c.args.sent.now in
    let a = c.args.came.now in
    let k = c.loop-k.k in
    let broken = c.args.broken in
    let all = c.args.all in
    elim (cases_lt k (length s)) [
      | inr past ↦
          sym (ap (λ ds. frame_returned broken all ds (drop k a) c.loop-k.self) (drop_all k s past))
          ∙ c.loop-k.invariant
      | inl inside ↦
          sym (ap (λ ds. frame_returned broken all (drop k s) ds c.loop-k.self) (drop_all k a (omega arith))
          ∙ none-came broken all (drop k s) c.loop-k.self) ∙ c.loop-k.invariant
    ]
