use Rattle.std.proofs.Common.{◌≡◌, ◌+◌, ◌∙◌, length, refl}
use Rattle.ec_wire.specs.Datagram.{nth}
use Rattle.ec_wire.specs.Frame.{start_of}
use Rattle.ec_wire.proofs.SpellingLemmas.{records_at-keeps, Keeps-seen}
use Rattle.ec_wire.proofs.FrameLemmas.{Keeps-view, data-part}
use Rattle.ec_wire.proofs.FieldLemmas.{Keeps-run}
use Rattle.ec_wire.proofs.frame.FrameBuf.data_mut.Goals as goal

pub invariant_of-self-lent : goal.invariant_of-self-lent
invariant_of-self-lent c w =
    let place : c.start-at.result + 10 ≡ start_of c.args.self.now c.args.k + 10 = cc in
    let till : c.start-at.result + 10 + c.data_len.result
    ≡ c.start-at.result + 10 + length (nth c.args.self.now c.args.k).payload = cc in
    Keeps-seen _ _ _ _
    (Keeps-run c.args.k w (Keeps-view c.self.invariant c.self.view_is) c.requires place till)

pub returns : goal.returns
returns c =
    let place : c.start-at.result + 10 ≡ start_of c.args.self.now c.args.k + 10 = cc in
    let till : c.start-at.result + 10 + c.data_len.result
    ≡ c.start-at.result + 10 + length (nth c.args.self.now c.args.k).payload = cc in
    let kept = Keeps-view c.self.invariant c.self.view_is in (
      (refl, λ w. records_at-keeps _ _ _ _ (Keeps-run c.args.k w kept c.requires place till)),
      record {
        writes_back = tt;
        value = c.run_mut.ensures.value ∙ data-part _ _ _ _ c.args.k _ _ kept c.requires place till;
      },
    )
