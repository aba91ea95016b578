use Rattle.ecat_commands.proofs.commands.add_over_sockets.Goals as goal

pub returns : goal.returns
returns c above is =
    let udp = c.add-line.ensures _ _ is c.udp.ensures in
    let serve = c.add-line-2.ensures _ _ udp c.serve.ensures in
    let master = c.add-line-3.ensures _ _ serve c.master.ensures in
    let scan = c.add-line-4.ensures _ _ master c.scan.ensures in
    let sii = c.add-line-5.ensures _ _ scan c.sii.ensures in
    c.add.ensures _ _ sii c.vectors.ensures
