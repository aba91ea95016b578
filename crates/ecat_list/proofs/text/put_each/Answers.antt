use Rattle.std.proofs.Common.{◌≡◌, ◌∙◌, rules}
use Rattle.ecat_list.proofs.FrontLemmas as fronts
use Rattle.ecat_list.proofs.text.put_each.Goals as goal

pub returns-in_err-push-clause-err : goal.returns-in_err-push-clause-err
returns-in_err-push-clause-err c =
    let kept : c.push.new.self.items ≡ c.loop-byte.text.items = search rules in
    fronts.on_err _ (fronts.front_of_bytes _ c.args.text.now.items c.args.bytes.now c.loop-byte.byte-index
    (kept ∙ c.loop-byte.invariant))
