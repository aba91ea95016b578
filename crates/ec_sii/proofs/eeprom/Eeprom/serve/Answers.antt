use Rattle.std.proofs.Common.{◌≡◌, ℕ, true, Bool, cond, List, sym, ◌∙◌, ap}
use Rattle.ec_areas.specs.Ranges.{has_sii}
use Rattle.ec_esc.specs.Application.{sii_registers, with_registers}
use Rattle.ec_esc.specs.State.{ControllerState}
use Rattle.ec_sii.specs.Eeprom.{sii_answer, registers_after}
use Rattle.ec_sii.specs.Registers.{registers_of, registers_bytes}
use Rattle.ec_sii.specs.Served.{answered}
use Rattle.ec_sii.proofs.eeprom.Eeprom.serve.Goals as goal

pub returns-clause-controller : goal.returns-clause-controller
returns-clause-controller c =
    let controller : ControllerState = c.args.controller.now in
    let contents : List ℕ = c.args.self.now in
    let there : has_sii controller.memory ≡ true = sym c.has_sii.ensures ∙ c.if-not-has_sii.false in
    let registers : c.read-registers.result ≡ registers_of (sii_registers controller) =
    c.read-registers.ensures ∙ ap registers_of c.sii.ensures in
    let answer : c.answer-answer.result ≡ sii_answer contents (registers_of (sii_registers controller)) =
    c.answer-answer.ensures.value ∙ ap (sii_answer contents) registers in
    let after : c.write-after.result ≡ answered contents (sii_registers controller) =
    c.write-after.ensures
    ∙ ap registers_bytes
    (c.registers_after.ensures ∙ (λ i. registers_after contents (registers i) (answer i))) in
    let told : ControllerState =
    with_registers controller 1280 (answered contents (sii_registers controller)) in
    c.set_sii.ensures
    ∙ ap (with_registers controller 1280) after
    ∙ ap (λ (b : Bool). cond b told controller) (sym there)
