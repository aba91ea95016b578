-- What the rounds that are left come to is what all come to, and no round counts more than one packet.
use Rattle.std.proofs.Common.{◌≤◌, ◌+◌, ◌-◌}
use Rattle.ecat_serve.specs.Ends.{calls_of}
use Rattle.ecat_serve.specs.Rounds.{serving}
use Rattle.ecat_serve.proofs.RoundLemmas.{LeadsOn}
use Rattle.ecat_serve.proofs.served.Served.serve_on.Given as goal

abbrev pub invariant-loop-round : goal.invariant-loop-round
invariant-loop-round g l = record {
  counted : l.counts.frames + l.counts.dropped ≤ l.fn.before.frames + l.fn.before.dropped + l._round;
  leads : LeadsOn (calls_of g.E.Ends.receives g.E.Ends.sends) l.most l.fn.before
      (serving l.initial.self l.initial.ends) (l.most - l._round) l.counts (serving l.self l.ends);
}
