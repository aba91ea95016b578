-- Each round goes before those that are left.
use Rattle.std.proofs.Common.{◌≡◌, ◌-◌, arith}
use Rattle.std.proofs.lemmas.Result.{err_from_is_err_and}
use Rattle.ecat_serve.specs.Ends.{calls_of}
use Rattle.ecat_serve.specs.Rounds.{serving}
use Rattle.ecat_serve.proofs.RoundLemmas.{leads_dropped, leads_ended, leads_fault, leads_frame}
use Rattle.ecat_serve.proofs.RoundLemmas.{leads_first, leads_nowhere}
use Rattle.ecat_serve.proofs.served.Served.serve_on.Goals as goal
use Rattle.ecat_serve.proofs.served.Served.serve_on.Goals.{in-Frame, in-Dropped}

pub loop-round-init : goal.loop-round-init
loop-round-init g c = record {
  counted = omega arith;
  leads = leads_first (calls_of g.E.Ends.receives g.E.Ends.sends) c.args.most (c.args.most - 0) c.args.before
      (serving c.args.self.now c.args.ends.now) (let e : c.args.most - 0 ≡ c.args.most = omega arith in e);
}

pub loop-round-preserved : goal.loop-round-preserved
loop-round-preserved g c =
    elim c.match-branch-2.branch [
      | in-Frame w ↦
          record {
            counted = rw (w.counts-is) (omega (arith, c.loop-round.invariant.counted));
            leads = rw (w.counts-is)
                (leads_frame (calls_of g.E.Ends.receives g.E.Ends.sends) c.args.most c.args.before
                (serving c.args.self.now c.args.ends.now) c.loop-round._round c.loop-round.counts
                (serving c.loop-round.self c.loop-round.ends)
                (serving c.watch_one.new.self c.watch_one.new.ends) c.loop-round-test.true
                (rw (← w.in-Frame.is) c.in_ok-watch_one.ensures) c.loop-round.invariant.leads);
          }
      | in-Dropped w ↦
          record {
            counted = rw (w.counts-is) (omega (arith, c.loop-round.invariant.counted));
            leads = rw (w.counts-is)
                (leads_dropped (calls_of g.E.Ends.receives g.E.Ends.sends) c.args.most c.args.before
                (serving c.args.self.now c.args.ends.now) c.loop-round._round c.loop-round.counts
                (serving c.loop-round.self c.loop-round.ends)
                (serving c.watch_one.new.self c.watch_one.new.ends) c.loop-round-test.true
                (rw (← w.in-Dropped.is) c.in_ok-watch_one.ensures) c.loop-round.invariant.leads);
          }
    ]

pub returns-in_err-watch_one-clause-serves : goal.returns-in_err-watch_one-clause-serves
returns-in_err-watch_one-clause-serves g c =
    let p = err_from_is_err_and c.from_residual.result c.from_residual.ensures.1 in
    rw (p.1, p.2)
    (leads_fault (calls_of g.E.Ends.receives g.E.Ends.sends) c.args.most c.args.before
    (serving c.args.self.now c.args.ends.now) c.loop-round._round c.loop-round.counts
    (serving c.loop-round.self c.loop-round.ends) (serving c.watch_one.new.self c.watch_one.new.ends)
    c.in_err-watch_one.field-0.0 c.loop-round-test.true c.in_err-watch_one.ensures
    c.loop-round.invariant.leads)

pub returns-in-Ended-clause-serves : goal.returns-in-Ended-clause-serves
returns-in-Ended-clause-serves g c =
    leads_ended (calls_of g.E.Ends.receives g.E.Ends.sends) c.args.most c.args.before
    (serving c.args.self.now c.args.ends.now) c.loop-round._round c.loop-round.counts
    (serving c.loop-round.self c.loop-round.ends) (serving c.watch_one.new.self c.watch_one.new.ends)
    c.loop-round-test.true (rw (← c.in-Ended.is) c.in_ok-watch_one.ensures) c.loop-round.invariant.leads

pub returns-clause-serves : goal.returns-clause-serves
returns-clause-serves g c =
    leads_nowhere (calls_of g.E.Ends.receives g.E.Ends.sends) c.args.most c.args.before
    (serving c.args.self.now c.args.ends.now) (c.args.most - c.loop-round._round) c.loop-round.counts
    (serving c.loop-round.self c.loop-round.ends)
    (let e : c.args.most - c.loop-round._round ≡ 0 = omega (arith, c.loop-round-test.false) in e)
    c.loop-round.invariant.leads
