use Rattle.std.proofs.Common.{◌≡◌, ℕ, List, ap, ◌∙◌, take, replicate}
use Rattle.std.proofs.lemmas.List.{take-replicate}
use Rattle.ec_services.specs.Ask.{request}
use Rattle.ec_services.specs.Stations.{adp_of_place}
use Rattle.ec_wire.specs.Datagram.{DatagramRecord, address_of}
use Rattle.ec_wire.specs.declared.command.Command.TheVariants.{Aprd}
use Rattle.ecat_master.proofs.scanning.register_read.Goals as goal

pub returns-clause-read : goal.returns-clause-read
returns-clause-read c =
    let size : ℕ = c.args.size in
    let zeros : take size (replicate 128 0) ≡ replicate size 0 = take-replicate size 128 0 c.requires in
    ap (λ (d : DatagramRecord). record d { circulating = c.args.way.circulating })
    (c.request-sent.ensures
    ∙ ap (λ (n : ℕ). request Aprd n (take size (replicate 128 0))) c.address_behind-address.ensures
    ∙ ap (λ (xs : List ℕ). request Aprd (address_of (adp_of_place c.args.way.distance) c.args.ado) xs) zeros)
