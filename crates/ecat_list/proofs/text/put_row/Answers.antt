use Rattle.std.proofs.Common.{◌++◌, OnErr, subst}
use Rattle.ecat_list.specs.Front.{IsFront}
use Rattle.ecat_list.proofs.FrontLemmas as fronts
use Rattle.ecat_list.proofs.text.put_row.Goals as goal

pub returns-then-has_room-clause-err : goal.returns-then-has_room-clause-err
returns-then-has_room-clause-err c =
    let now = c.extend_from_slice.new.self.items in
    let old = c.args.text.now.items in
    subst (λ bytes. OnErr c.extend_from_slice.result (IsFront now (old ++ bytes))) c.as_slice-bytes.ensures
    (fronts.front_unless c.extend_from_slice.result now old c.as_slice-bytes.result.now
    c.extend_from_slice.ensures.items)
