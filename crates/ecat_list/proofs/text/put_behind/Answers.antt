use Rattle.std.proofs.Common.{rules, ◌<◌, length, decimal, arith}
use Rattle.std.proofs.lemmas.Fmt.{decimal_nonempty}
use Rattle.ecat_list.proofs.text.put_behind.Goals as goal

pub slice_bounds-extend_from_slice-count : goal.slice_bounds-extend_from_slice-count
slice_bounds-extend_from_slice-count c =
    let some : 0 < length (decimal c.args.one_and_digits) = search (rules, decimal_nonempty) in
    let here : 0 < length c.as_bytes.result.now = search rules in
    omega arith

pub slice_bounds-extend_from_slice-start : goal.slice_bounds-extend_from_slice-start
slice_bounds-extend_from_slice-start c =
    let some : 0 < length (decimal c.args.one_and_digits) = search (rules, decimal_nonempty) in
    let here : 0 < length c.as_bytes.result.now = search rules in
    search rules
