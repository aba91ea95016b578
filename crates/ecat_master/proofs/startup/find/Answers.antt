use Rattle.std.proofs.Common.{◌≡◌, ◌<◌, ap, subst, sym, ◌∙◌, length, Ok, Err, arith}
use Rattle.ec_run.specs.Watched.{WatchedTrips}
use Rattle.ecat_master.specs.Start.{AreCounted}
use Rattle.ecat_master.proofs.StartLemmas.{another_is_counted, count_cause, looks_cause, looks_find}
use Rattle.ecat_master.proofs.StartLemmas.{nobody_is_counted, unanswered, unwritten_is_no_fault}
use Rattle.ecat_master.proofs.startup.find.Goals.{then-from-line-via-then-from-line}
use Rattle.ecat_master.proofs.startup.find.Goals.{then-from-line-via-else-from-line+then-found-eq0}
use Rattle.ecat_master.proofs.startup.find.Goals as goal

pub returns-in_err-found-clause-failed : goal.returns-in_err-found-clause-failed
returns-in_err-found-clause-failed g c identities =
    count_cause g.P.HeardPorts.trips c.args.ports.now c.args.line.now identities c.in_err-found.field-0.0
    c.from_residual.result
    (λ fault is. unanswered g.P.HeardPorts.trips c.args.ports.now c.count.new.ports c.args.line.now identities
    fault (c.in_err-found.ensures.failed fault (ap (λ e. Err e) is)))
    c.from_residual.ensures.1

pub returns-in_err-tell_cut_off-clause-failed : goal.returns-in_err-tell_cut_off-clause-failed
returns-in_err-tell_cut_off-clause-failed g c identities fault told =
    unwritten_is_no_fault _ c.from_residual-in_err-tell_cut_off.result fault
    c.from_residual-in_err-tell_cut_off.ensures.1 told

pub returns-then-from-line-clause-failed : goal.returns-then-from-line-clause-failed
returns-then-from-line-clause-failed g c identities fault told = elim c.then-from-line.branch [
  | then-from-line-via-then-from-line w ↦
      another_is_counted g.P.HeardPorts.trips c.args.ports.now c.count.new.ports c.args.line.now
      identities c.in_ok-found.found fault c.in_ok-found.ensures.counted
      (λ same. w.if-from-line.true (c.from.ensures ∙ same)) told
  | then-from-line-via-else-from-line+then-found-eq0 w ↦
      nobody_is_counted g.P.HeardPorts.trips c.args.ports.now c.count.new.ports c.args.line.now
      identities c.in_ok-found.found fault c.in_ok-found.ensures.counted
      w.if-found-eq0.true told
]

pub returns-clause-found : goal.returns-clause-found
returns-clause-found g c =
    let same : c.in_ok-found.found ≡ length c.args.line.now = sym c.from.ensures ∙ c.if-from-line.false in
    let some : 0 < length c.args.line.now = omega (arith, same, c.if-found-eq0.false) in
    looks_find g.P.HeardPorts.trips c.args.ports.now c.count.new.ports c.look.new.ports c.args.line.now
    c.look.result some
    (subst (λ n. AreCounted (WatchedTrips g.P.HeardPorts.trips) c.args.ports.now (Ok n) c.count.new.ports)
    same c.in_ok-found.ensures.counted) c.look.ensures

pub returns-clause-failed : goal.returns-clause-failed
returns-clause-failed g c identities =
    let same : c.in_ok-found.found ≡ length c.args.line.now = sym c.from.ensures ∙ c.if-from-line.false in
    let some : 0 < length c.args.line.now = omega (arith, same, c.if-found-eq0.false) in
    looks_cause g.P.HeardPorts.trips c.args.ports.now c.count.new.ports c.look.new.ports c.args.line.now
    identities c.look.result some
    (subst (λ n. AreCounted (WatchedTrips g.P.HeardPorts.trips) c.args.ports.now (Ok n) c.count.new.ports)
    same c.in_ok-found.ensures.counted) c.look.ensures
