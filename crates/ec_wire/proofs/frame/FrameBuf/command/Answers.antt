use Rattle.std.proofs.Common.{◌≡◌, ◌<◌, ◌∙◌, ap, sym, get_or, Some, refl}
use Rattle.ec_wire.specs.Datagram.{nth, command_of, code_of}
use Rattle.ec_wire.proofs.DatagramLemmas.{command_of-code_of, code_of-lt}
use Rattle.ec_wire.proofs.FrameLemmas.{Keeps-view, field-command}
use Rattle.ec_wire.proofs.frame.FrameBuf.command.Goals as goal

pub unwrap-requires : goal.unwrap-requires
unwrap-requires c =
    let code = ap (λ xs. get_or xs c.start-at.result 0) c.as_slice.ensures.value
    ∙ field-command _ _ _ _ c.args.k c.start-at.result (Keeps-view c.self.invariant c.self.view_is) c.requires
    c.start-at.ensures.value in
    let small : get_or c.as_slice.result.now c.start-at.result 0 < 15 =
    rw code (code_of-lt (nth c.args.self.now c.args.k).command) in
    rw (c.from_code.ensures.known small) refl

pub returns : goal.returns
returns c =
    let command = (nth c.args.self.now c.args.k).command in
    let code : get_or c.as_slice.result.now c.start-at.result 0 ≡ code_of command =
    ap (λ xs. get_or xs c.start-at.result 0) c.as_slice.ensures.value
    ∙ field-command _ _ _ _ c.args.k c.start-at.result (Keeps-view c.self.invariant c.self.view_is) c.requires
    c.start-at.ensures.value in
    let small : get_or c.as_slice.result.now c.start-at.result 0 < 15 = rw code (code_of-lt command) in
    let same : Some c.unwrap.result ≡ Some command = sym c.unwrap.ensures ∙ c.from_code.ensures.known small
    ∙ ap (λ n. Some (command_of n)) code ∙ ap Some (command_of-code_of command) in
    cc
