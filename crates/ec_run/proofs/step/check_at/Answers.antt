use Rattle.std.proofs.Common.{◌≤◌, ℕ, List, ap, sym, arith, ◌∙◌, subst, length, take, replicate}
use Rattle.std.proofs.Common.{Result}
use Rattle.std.proofs.lemmas.List.{take-replicate}
use Rattle.ec_wire.specs.Datagram.{DatagramRecord, address_of}
use Rattle.ec_wire.specs.declared.command.Command.TheVariants.{Fprd}
use Rattle.ec_services.specs.Ask.{request, IsAsked, done}
use Rattle.ec_services.specs.declared.fault.MasterFault.{MasterFault}
use Rattle.ec_run.specs.Ask.{IsPut}
use Rattle.ec_run.specs.Step.{holds}
use Rattle.ec_run.proofs.AskLemmas.{read_back}
use Rattle.ec_run.proofs.step.check_at.Goals as goal

pub returns-clause-asked : goal.returns-clause-asked
returns-clause-asked g c =
    let bytes : List ℕ = c.args.bytes.now in
    let sent = holds c.args.station c.args.ado bytes in
    let room : length bytes ≤ 16 = omega (arith, c.requires) in
    let is = c.request-sent.ensures
    ∙ ap (λ (a : ℕ). request Fprd a (take (length bytes) (replicate 16 0))) c.address_of.ensures
    ∙ ap (λ (bs : List ℕ). request Fprd (address_of c.args.station c.args.ado) bs)
    (take-replicate (length bytes) 16 0 room) in
    subst (λ (r : Result (Unit {0}) MasterFault). IsAsked g.P.Ports.trips c.args.ports.now sent (done r)
    c.put.new.ports) (sym c.held_by.ensures)
    (read_back g.P.Ports.trips c.args.ports.now c.put.new.ports c.args.station c.args.ado bytes c.put.result
    (subst (λ (d : DatagramRecord). IsPut g.P.Ports.trips c.args.ports.now d c.put.result c.put.new.ports) is
    c.put.ensures.put))
