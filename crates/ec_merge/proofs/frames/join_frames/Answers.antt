use Rattle.std.proofs.Common.{◌≡◌, ◌∙◌, ap, subst, unwrap_or, List, Err}
use Rattle.std.specs.Option.{option_copied}
use Rattle.ec_wire.specs.Datagram.{DatagramRecord}
use Rattle.ec_merge.specs.Frames.{IsFault}
use Rattle.ec_merge.proofs.FrameLemmas.{copy_is, fault_one}
use Rattle.ec_merge.proofs.frames.join_frames.Goals as goal

pub returns-in-Err-clause-only_fault : goal.returns-in-Err-clause-only_fault
returns-in-Err-clause-only_fault c =
    let s = c.args.sent.now in
    let named = c.in-Err.fault in
    let a : c.copy-joined.result ≡ unwrap_or (option_copied c.args.a) s = c.copy-joined.ensures
    ∙ copy_is c.args.a c.args.sent _ c.unwrap_or-a.ensures in
    let b : c.unwrap_or-b.result.now ≡ unwrap_or (option_copied c.args.b) s =
    copy_is c.args.b c.args.sent _ c.unwrap_or-b.ensures in
    let of_a : IsFault s (unwrap_or (option_copied c.args.a) s) c.unwrap_or-b.result.now named =
    subst (λ (x : List DatagramRecord). IsFault s x c.unwrap_or-b.result.now named) a
    c.in-Err.ensures.fault in
    let of_both : IsFault s (unwrap_or (option_copied c.args.a) s) (unwrap_or (option_copied c.args.b) s)
    named =
    subst (λ (y : List DatagramRecord). IsFault s (unwrap_or (option_copied c.args.a) s) y named) b of_a in
    λ f fault. ap Err (fault_one s _ _ named f of_both fault)
