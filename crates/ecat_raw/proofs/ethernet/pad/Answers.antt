use Rattle.std.proofs.Common.{arith, ◌≡◌, ◌-◌, ◌++◌, ◌∙◌, length, take, replicate, OnOk, ap, subst}
use Rattle.std.proofs.lemmas.List.{take-replicate}
use Rattle.ecat_raw.proofs.ethernet.pad.Goals as goal

pub returns : goal.returns
returns c =
    let packet = c.args.packet.now.items in
    let count = c.saturating_sub-padding.result in
    let count_is : count ≡ 60 - length packet =
    c.saturating_sub-padding.ensures ∙ ap (λ n. 60 - n) c.len.ensures.value in
    let extended : c.try_extend_from_slice.new.self.items ≡ packet ++ take count (replicate 60 0) =
    subst (λ r. OnOk r (c.try_extend_from_slice.new.self.items ≡ packet ++ take count (replicate 60 0)))
    c.unwrap.ensures c.try_extend_from_slice.ensures.ok in
    let zeros : take count (replicate 60 0) ≡ replicate (60 - length packet) 0 =
    take-replicate count 60 0 (omega (arith, count_is)) ∙ ap (λ n. replicate n 0) count_is in
    extended ∙ ap (λ zs. packet ++ zs) zeros
