-- What the commands that are left come to is what all come to, and no more packets are counted than may come.
use Rattle.std.proofs.Common.{◌≤◌, ◌+◌, ◌-◌, ◌^◌}
use Rattle.ecat_serve.specs.Ends.{calls_of}
use Rattle.ecat_serve.specs.Rounds.{serving}
use Rattle.ecat_serve.proofs.CommandLemmas.{LeadsOn}
use Rattle.ecat_serve.proofs.served.Served.serve_commanded.Given as goal

abbrev pub invariant-loop-command : goal.invariant-loop-command
invariant-loop-command g l = record {
  counted : l.counts.frames + l.counts.dropped ≤ l.most;
  leads : LeadsOn (calls_of g.E.Ends.receives g.E.Ends.sends) l.most (2 ^ 64 - 1)
      (serving l.initial.self l.initial.ends) (2 ^ 64 - 1 - l._command) l.counts (serving l.self l.ends);
}
