use Rattle.std.proofs.Common.{◌<◌, ◌≤◌, arith, sym, ap, ◌∙◌, ℕ, List, Option, length, get_or}
use Rattle.ec_wire.specs.Datagram.{DatagramRecord, nth}
use Rattle.ec_master.specs.Ports.{came_or}
use Rattle.ec_master.specs.Report.{moved_in}
use Rattle.ec_master.proofs.ReportLemmas.{moved-there, moved-missing, moved-itself}
use Rattle.ec_master.proofs.report.moved.Goals as goal

-- the number of a datagram of a copy that came back
abbrev moved_of : List DatagramRecord → ℕ → Option (List DatagramRecord) → ℕ
moved_of sent k copy = get_or (moved_in sent (came_or copy sent)) k 0

pub returns-in-Some : goal.returns-in-Some
returns-in-Some c =
    let there : c.args.k < length c.in-Some.frame = omega (arith, c.if-k-count.true, c.count.ensures.count) in
    let here = moved-there c.args.sent.now c.in-Some.frame c.args.k c.requires there in
    omega (
      arith,
      here,
      c.counter.ensures,
      c.counter-counter.ensures,
      c.counter-counter.type_inv,
      ap (moved_of c.args.sent.now c.args.k) c.in-Some.is,
    )

pub returns-in_default : goal.returns-in_default
returns-in_default c =
    let missing : length c.in-Some.frame ≤ c.args.k =
    omega (arith, c.if-k-count.false, c.count.ensures.count) in
    sym (
    ap (moved_of c.args.sent.now c.args.k) c.in-Some.is
    ∙ moved-missing c.args.sent.now c.in-Some.frame c.args.k c.requires missing
    )

pub returns-in_default-2 : goal.returns-in_default-2
returns-in_default-2 c =
    let small : (nth c.args.sent.now c.args.k).counter < 65536 =
    omega (arith, c.counter-counter.ensures, c.counter-counter.type_inv) in
    sym (
    ap (moved_of c.args.sent.now c.args.k) c.in_default.is
    ∙ moved-itself c.args.sent.now c.args.k c.requires small
    )
