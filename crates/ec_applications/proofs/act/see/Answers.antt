-- The outputs of a controller fit the room.
use Rattle.std.proofs.Common.{◌≤◌, length}
use Rattle.ec_applications.proofs.ShownLemmas.{outputs-size}
use Rattle.ec_applications.proofs.act.see.Goals as goal

pub slice_bounds-copy_from_slice-end : goal.slice_bounds-copy_from_slice-end
slice_bounds-copy_from_slice-end c =
    let fits : length c.in_ok-seen.seen.now ≤ 8192 = outputs-size c.args.controller.now c.args.outputs
    c.in_ok-seen.seen.now c.station-station.ensures.controller.shown_size c.in_ok-seen.ensures in
    fits
