use Rattle.std.proofs.Common.{◌≡◌, ◌++◌, take, drop}
use Rattle.ec_esc.specs.Pass.{frame_pass}
use Rattle.ec_esc.proofs.controller.Controller.pass_each.Given as goal

-- the first k datagrams have passed, and the others are as they came
abbrev pub invariant-loop-k : goal.invariant-loop-k
invariant-loop-k l = record {
  frame : l.frame ≡ (frame_pass l.initial.self (take l.k l.initial.frame)).frame ++ drop l.k l.initial.frame;
  state : l.self ≡ (frame_pass l.initial.self (take l.k l.initial.frame)).state;
}
