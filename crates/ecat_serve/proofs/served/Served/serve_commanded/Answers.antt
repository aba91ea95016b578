-- The packets that come before a command, and the command, go before those that are left.
use Rattle.std.proofs.Common.{◌≡◌, ◌-◌, ◌^◌, ◌<◌, arith}
use Rattle.std.proofs.lemmas.Result.{err_from_is_err_and}
use Rattle.ecat_serve.specs.Commands.{packets}
use Rattle.ecat_serve.specs.Ends.{calls_of}
use Rattle.ecat_serve.specs.Rounds.{serving}
use Rattle.ecat_serve.proofs.CommandLemmas.{leads_all, leads_end, leads_fault, leads_nowhere, leads_on}
use Rattle.ecat_serve.proofs.CommandLemmas.{left_is, told_is}
use Rattle.ecat_serve.proofs.served.Served.serve_commanded.Goals as goal

pub returns-in_err-counts-clause-serves : goal.returns-in_err-counts-clause-serves
returns-in_err-counts-clause-serves g c =
    let p = err_from_is_err_and c.from_residual.result c.from_residual.ensures.1 in
    let counts = c.loop-command.counts in
    let left = left_is c.args.most (packets counts) c.packets.result c.saturating_sub-left.result
    c.loop-command.invariant.counted c.ranges.most.fits c.packets.ensures c.saturating_sub-left.ensures in
    rw (p.1, p.2)
    (leads_fault (calls_of g.E.Ends.receives g.E.Ends.sends) c.args.most (2 ^ 64 - 1)
    (serving c.args.self.now c.args.ends.now) c.loop-command._command counts
    (serving c.loop-command.self c.loop-command.ends) (serving c.serve_on.new.self c.serve_on.new.ends)
    c.in_err-counts.field-0.0 c.loop-command-test.true
    (rw left at c.in_err-counts.ensures.serves) c.loop-command.invariant.leads)

pub returns-then-most-packets-clause-serves : goal.returns-then-most-packets-clause-serves
returns-then-most-packets-clause-serves g c =
    let counts = c.loop-command.counts in
    let told = c.in_ok-counts.counts in
    let left = left_is c.args.most (packets counts) c.packets.result c.saturating_sub-left.result
    c.loop-command.invariant.counted c.ranges.most.fits c.packets.ensures c.saturating_sub-left.ensures in
    let as_told = told_is c.args.most (packets counts) c.saturating_sub-left.result (packets told)
    c.packets-in-loop-command.result c.loop-command.invariant.counted c.ranges.most.fits left
    c.in_ok-counts.ensures.counted c.packets-in-loop-command.ensures in
    leads_all (calls_of g.E.Ends.receives g.E.Ends.sends) c.args.most (2 ^ 64 - 1)
    (serving c.args.self.now c.args.ends.now) c.loop-command._command counts told
    (serving c.loop-command.self c.loop-command.ends) (serving c.serve_on.new.self c.serve_on.new.ends)
    c.loop-command-test.true (rw left at c.in_ok-counts.ensures.serves)
    (rw as_told at c.if-most-packets.true) c.loop-command.invariant.leads

pub returns-then-not-see_to-clause-serves : goal.returns-then-not-see_to-clause-serves
returns-then-not-see_to-clause-serves g c =
    let counts = c.loop-command.counts in
    let told = c.in_ok-counts.counts in
    let left = left_is c.args.most (packets counts) c.packets.result c.saturating_sub-left.result
    c.loop-command.invariant.counted c.ranges.most.fits c.packets.ensures c.saturating_sub-left.ensures in
    let as_told = told_is c.args.most (packets counts) c.saturating_sub-left.result (packets told)
    c.packets-in-loop-command.result c.loop-command.invariant.counted c.ranges.most.fits left
    c.in_ok-counts.ensures.counted c.packets-in-loop-command.ensures in
    leads_end (calls_of g.E.Ends.receives g.E.Ends.sends) c.args.most (2 ^ 64 - 1)
    (serving c.args.self.now c.args.ends.now) c.loop-command._command counts told
    (serving c.loop-command.self c.loop-command.ends) (serving c.serve_on.new.self c.serve_on.new.ends)
    (serving c.see_to.new.served c.see_to.new.ends) c.loop-command-test.true
    (rw left at c.in_ok-counts.ensures.serves) (rw as_told at c.if-most-packets.false)
    c.see_to.ensures c.loop-command.invariant.leads

pub loop-command-preserved : goal.loop-command-preserved
loop-command-preserved g c =
    let counts = c.loop-command.counts in
    let told = c.in_ok-counts.counts in
    let left = left_is c.args.most (packets counts) c.packets.result c.saturating_sub-left.result
    c.loop-command.invariant.counted c.ranges.most.fits c.packets.ensures c.saturating_sub-left.ensures in
    let as_told = told_is c.args.most (packets counts) c.saturating_sub-left.result (packets told)
    c.packets-in-loop-command.result c.loop-command.invariant.counted c.ranges.most.fits left
    c.in_ok-counts.ensures.counted c.packets-in-loop-command.ensures in
    let few : packets told < c.args.most = rw as_told at c.if-most-packets.false in
    record {
      counted = omega (arith, few);
      leads = leads_on (calls_of g.E.Ends.receives g.E.Ends.sends) c.args.most (2 ^ 64 - 1)
          (serving c.args.self.now c.args.ends.now) c.loop-command._command counts told
          (serving c.loop-command.self c.loop-command.ends)
          (serving c.serve_on.new.self c.serve_on.new.ends) (serving c.see_to.new.served c.see_to.new.ends)
          c.loop-command-test.true (rw left at c.in_ok-counts.ensures.serves) few c.see_to.ensures
          c.loop-command.invariant.leads;
    }

pub returns-clause-serves : goal.returns-clause-serves
returns-clause-serves g c =
    leads_nowhere (calls_of g.E.Ends.receives g.E.Ends.sends) c.args.most (2 ^ 64 - 1)
    (serving c.args.self.now c.args.ends.now) (2 ^ 64 - 1 - c.loop-command._command) c.loop-command.counts
    (serving c.loop-command.self c.loop-command.ends)
    (let e : 2 ^ 64 - 1 - c.loop-command._command ≡ 0 = omega (arith, c.loop-command-test.false) in e)
    c.loop-command.invariant.leads
