use Rattle.std.proofs.Common.{◌≡◌, ◌<◌, ◌≤◌, ◌+◌, List, ◌++◌, length, take, drop, set, sym, ◌∙◌, ap, arith}
use Rattle.std.proofs.lemmas.List.{take_all}
use Rattle.ec_wire.specs.Datagram.{DatagramRecord, nth}
use Rattle.ec_esc.specs.State.{ControllerState}
use Rattle.ec_esc.specs.Pass.{Passed, PassedFrame, pass, frame_pass}
use Rattle.ec_esc.proofs.PassLemmas.{frame_pass_none, frame_pass_more, nth_waiting, set_waiting}
use Rattle.ec_esc.proofs.PassLemmas.{waiting_length, frame_pass_all}
use Rattle.ec_esc.proofs.controller.Controller.pass_each.Goals as goal

pub loop-k-init : goal.loop-k-init
loop-k-init c =
    let none = frame_pass_none c.args.self.now in
    record {
      frame = ap (λ (p : PassedFrame). p.frame ++ c.args.frame.now) (sym none);
      state = ap (λ (p : PassedFrame). p.state) (sym none);
    }

pub pass_datagram-requires : goal.pass_datagram-requires
pass_datagram-requires c =
    let inside : c.loop-k.k < length c.args.frame.now = omega arith in
    omega (
      arith,
      waiting_length c.args.self.now c.args.frame.now c.loop-k.k inside,
      ap length
          c.loop-k.invariant.frame,
    )

pub loop-k-preserved : goal.loop-k-preserved
loop-k-preserved c =
    let came = c.args.frame.now in
    let k = c.loop-k.k in
    let inside : k < length came = omega arith in
    let before : PassedFrame = frame_pass c.args.self.now (take k came) in
    let more = frame_pass_more c.args.self.now came k inside in
    let here : nth c.loop-k.frame k ≡ nth came k =
    ap (λ (f : List DatagramRecord). nth f k) c.loop-k.invariant.frame
    ∙ nth_waiting c.args.self.now came k inside in
    let step : pass c.loop-k.self (nth c.loop-k.frame k) ≡ pass before.state (nth came k) =
    ap (λ (s : ControllerState). pass s (nth c.loop-k.frame k)) c.loop-k.invariant.state
    ∙ ap (pass before.state) here in
    record {
      frame =
          c.pass_datagram.ensures.frame
          ∙ ap (λ (p : Passed). set c.loop-k.frame k p.datagram) step
          ∙ ap (λ (f : List DatagramRecord). set f k (pass before.state
          (nth came k)).datagram) c.loop-k.invariant.frame
          ∙ set_waiting c.args.self.now came k (pass before.state (nth came k)).datagram inside
          ∙ ap (λ (p : PassedFrame). p.frame ++ drop (k + 1) came) (sym more);
      state = c.pass_datagram.ensures.state ∙ ap (λ (p : Passed). p.state) step
          ∙ ap (λ (p : PassedFrame). p.state) (sym more);
    }

pub returns : goal.returns
returns c =
    let came = c.args.frame.now in
    let past : length came ≤ c.loop-k.k = omega arith in
    record {
      frame = c.loop-k.invariant.frame ∙ frame_pass_all c.args.self.now came c.loop-k.k past;
      state =
          c.loop-k.invariant.state
          ∙ ap (λ (rs : List DatagramRecord). (frame_pass c.args.self.now rs).state)
          (take_all c.loop-k.k came past);
    }
