use Rattle.ecat_raw.proofs.HeaderLemmas as headers
use Rattle.ecat_raw.proofs.ethernet.header_in.Goals as goal

pub returns-clause-room : goal.returns-clause-room
returns-clause-room c =
    headers.room c.args.packet.now c.typed.result.now c.behind-payload.result.now c.typed.ensures
    c.behind-payload.ensures

pub returns-clause-least : goal.returns-clause-least
returns-clause-least c =
    headers.least c.args.packet.now c.typed.result.now c.behind-payload.result.now c.typed.ensures
    c.behind-payload.ensures
